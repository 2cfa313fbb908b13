-- Steps through lists.
use Rattle.std.proofs.Common.{◌≡◌, ℕ, suc, ◌+◌, ◌<◌, List, [], ◌∷◌, ◌++◌, map, length, get_or, drop, append_assoc, sym, ◌∙◌, ap, arith}
use Rattle.std.proofs.Math.Seq.{drop-cons}
use Rattle.std.proofs.lemmas.List.{map-append}
use Rattle.serde_json.specs.Data.{Data}
use Rattle.serde_json.specs.View.{view}
use Rattle.serde_json.specs.declared.value.Value.{Value}

-- one value more, of those that stand for a list's items
pub values_more : {A : Type 0} (line : A → Data) (items : List A) (i : ℕ) (item : A) (values new : List Value) (value : Value) → i < length items → item ≡ get_or items i item → new ≡ values ++ value ∷ [] → view value ≡ line item → map view values ++ map line (drop i items) ≡ map line items → map view new ++ map line (drop (i + 1) items) ≡ map line items
values_more line items i item values new value within is grown seen same =
    let next : suc i ≡ i + 1 = omega arith in
    let rest : List Data = map line (drop (i + 1) items) in
    let parts : drop i items ≡ item ∷ drop (i + 1) items = drop-cons items i item within ∙ ap (λ d. d ∷ drop (suc i) items) (sym is) ∙ ap (λ n. item ∷ drop n items) next in
    ap (λ vs. map view vs ++ rest) grown
    ∙ ap (λ ds. ds ++ rest) (map-append view values (value ∷ []))
    ∙ append_assoc (map view values) (view value ∷ []) rest
    ∙ ap (λ d. map view values ++ d ∷ rest) seen
    ∙ ap (λ ds. map view values ++ map line ds) (sym parts)
    ∙ same
