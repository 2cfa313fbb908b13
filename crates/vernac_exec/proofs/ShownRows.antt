-- The rows of an outline, shown one after another.
use Rattle.std.proofs.Common.{◌≡◌, ℕ, suc, ◌+◌, List, [], ◌∷◌, ◌++◌, map, drop, slice_get, Some, sym, ◌∙◌, ap, append_assoc, add-one, drop-cons}
use Rattle.std.proofs.lemmas.Option.{slice_get_within, get_or_from_slice_get}
use Rattle.prover_iface.specs.declared.outline.OutlineItem.{OutlineItem}
use Rattle.cic_rules.specs.declared.env.Slot.{Slot}
use Rattle.vernac_exec.specs.declared.state.Row.{Row}
use Rattle.vernac_exec.specs.Outline.{item}

front : (rows : List Row) (i : ℕ) (row : Row) → slice_get rows i ≡ Some row → drop i rows ≡ row ∷ drop (i + 1) rows
front rows i row h =
    drop-cons rows i row (slice_get_within rows i row h) ∙ ap (λ y. y ∷ drop (suc i) rows) (get_or_from_slice_get rows i row row h)
    ∙ ap (λ k. row ∷ drop k rows) (sym (add-one i))

pub next_row_shown : (env : List Slot) (rows : List Row) (i : ℕ) (row : Row) (x : OutlineItem) (shown new all : List OutlineItem) →
    Some row ≡ slice_get rows i → x ≡ item env row → shown ++ map (item env) (drop i rows) ≡ all → new ≡ shown ++ x ∷ [] →
    new ++ map (item env) (drop (i + 1) rows) ≡ all
next_row_shown env rows i row x shown new all found same before e =
    ap (λ xs. xs ++ map (item env) (drop (i + 1) rows)) e ∙ ap (λ y. (shown ++ y ∷ []) ++ map (item env) (drop (i + 1) rows)) same
    ∙ append_assoc shown (item env row ∷ []) (map (item env) (drop (i + 1) rows))
    ∙ ap (λ rs. shown ++ map (item env) rs) (sym (front rows i row (sym found))) ∙ before
