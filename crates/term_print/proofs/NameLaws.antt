-- The names around a term, one after the other.
use Rattle.std.proofs.Common.{◌≡◌, ℕ, suc, ◌+◌, List, [], ◌∷◌, ◌++◌, length, drop, slice_get, Some, refl, sym, ◌∙◌, ap, append_assoc, add-one, drop-cons}
use Rattle.std.proofs.lemmas.Option.{slice_get_within, get_or_from_slice_get}
use Rattle.std.proofs.Math.Seq.{drop-length}
use Rattle.cic_rules.specs.declared.context.Hyp.{Hyp}
use Rattle.term_print.specs.Show.{hyp_names}

front : {A : Type 0} (xs : List A) (i : ℕ) (x : A) → slice_get xs i ≡ Some x → drop i xs ≡ x ∷ drop (i + 1) xs
front xs i x h =
    drop-cons xs i x (slice_get_within xs i x h) ∙ ap (λ y. y ∷ drop (suc i) xs) (get_or_from_slice_get xs i x x h)
    ∙ ap (λ k. x ∷ drop k xs) (sym (add-one i))

pub next_hypothesis : (ctx : List Hyp) (i : ℕ) (h : Hyp) (name : List ℕ) (names new all : List (List ℕ)) → Some h ≡ slice_get ctx i → name ≡ h.name →
    names ++ hyp_names (drop i ctx) ≡ all → new ≡ names ++ name ∷ [] → new ++ hyp_names (drop (i + 1) ctx) ≡ all
next_hypothesis ctx i h name names new all found same before e =
    ap (λ ns. ns ++ hyp_names (drop (i + 1) ctx)) e ∙ ap (λ n. (names ++ n ∷ []) ++ hyp_names (drop (i + 1) ctx)) same
    ∙ append_assoc names (h.name ∷ []) (hyp_names (drop (i + 1) ctx))
    ∙ ap (λ hs. names ++ hyp_names hs) (sym (front ctx i h (sym found))) ∙ before

nothing_behind : (names : List (List ℕ)) → names ++ [] ≡ names
nothing_behind [] = refl
nothing_behind (n ∷ ns) = ap (λ ms. n ∷ ms) (nothing_behind ns)

pub last_hypothesis : (ctx : List Hyp) (n : ℕ) (names all : List (List ℕ)) → n ≡ length ctx → names ++ hyp_names (drop n ctx) ≡ all → names ≡ all
last_hypothesis ctx n names all e before =
    sym (nothing_behind names) ∙ ap (λ hs. names ++ hyp_names hs) (sym (ap (λ k. drop k ctx) e ∙ drop-length ctx)) ∙ before
