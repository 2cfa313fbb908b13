-- An edit of a list behind the item that stands between two parts.
use Rattle.std.proofs.Common.{◌≡◌, ℕ, suc, ◌-◌, ◌<◌, List, ◌∷◌, ◌++◌, length, set, refl, ap, ◌∙◌, arith}
use Rattle.std.specs.List.{insert}
use Rattle.std.proofs.lemmas.List.{set-append_right}
use Rattle.std.proofs.lemmas.List.Edits.{insert-append_right}

pub set_after : {T : Type 0} (left : List T) (item : T) (right : List T) (at : ℕ) (new : T) → length left < at → set (left ++ (item ∷ right)) at new ≡ left ++ (item ∷ set right (at - length left - 1) new)
set_after left item right at new h =
    let after : at - length left ≡ suc (at - length left - 1) = omega arith in
    set-append_right left (item ∷ right) (length left) at new refl (omega arith) ∙ ap (λ n. left ++ set (item ∷ right) n new) after

pub insert_after : {T : Type 0} (left : List T) (item : T) (right : List T) (at : ℕ) (new : T) → length left < at → insert (left ++ (item ∷ right)) at new ≡ left ++ (item ∷ insert right (at - length left - 1) new)
insert_after left item right at new h =
    let after : at - length left ≡ suc (at - length left - 1) = omega arith in
    insert-append_right left (item ∷ right) (length left) at new refl (omega arith) ∙ ap (λ n. left ++ insert (item ∷ right) n new) after
