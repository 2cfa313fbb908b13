-- The names of a context, gathered from the oldest on.
use Rattle.std.specs.Prelude.{◌≡◌, ℕ, zero, suc, ◌+◌, ◌-◌, ◌≤◌, List, [], ◌∷◌, length, drop, Some, slice_get}
use Rattle.std.proofs.Common.{ap, sym, ◌∙◌, arith}
use Rattle.cic_rules.specs.declared.context.Hyp.{Hyp}
use Rattle.fresh_names.specs.Shown.{with_shown, shown_names}

from_place : {A : Type 0} (xs : List A) (i : ℕ) (x : A) → Some x ≡ slice_get xs i → drop i xs ≡ x ∷ drop (i + 1) xs
from_place [] i x e = cc
from_place (y ∷ ys) zero x e = let same : y ≡ x = cc in ap (λ z. z ∷ ys) same
from_place (y ∷ ys) (suc i) x e = let k : suc i + 1 ≡ suc (i + 1) = omega arith in rw k (from_place ys i x e)

pub one_name_more : (ctx : List Hyp) (names more : List (List ℕ)) (at : ℕ) (h : Hyp) → 1 ≤ at → at ≤ length ctx → Some h ≡ slice_get ctx (at - 1) →
    names ≡ shown_names (drop at ctx) → more ≡ with_shown h.name names → (more ≡ shown_names (drop (at - 1) ctx)) × (at - 1 ≤ length ctx)
one_name_more ctx names more at h some within found told made =
    let back : at - 1 + 1 ≡ at = omega (arith, some) in (
      made ∙ ap (with_shown h.name) (told ∙ ap (λ n. shown_names (drop n ctx)) (sym back))
          ∙ ap shown_names (sym (from_place ctx (at - 1) h found)),
      omega (arith, within),
    )
