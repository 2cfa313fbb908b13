-- Steps through lists.
use Rattle.std.proofs.Common.{◌≡◌, ℕ, suc, ◌+◌, ◌<◌, Bool, true, false, if◌then◌else◌, List, [], ◌∷◌, ◌++◌, map, filter, length, get_or, drop, append_assoc, sym, ◌∙◌, ap, arith, refl}
use Rattle.std.proofs.Math.Seq.{drop-cons}
use Rattle.std.proofs.lemmas.List.{map-append}
use Rattle.serde_json.specs.Data.{Data}
use Rattle.serde_json.specs.View.{view}
use Rattle.serde_json.specs.declared.value.Value.{Value}
use Rattle.base_core.specs.declared.places.Position.{Position}
use Rattle.doc_check.specs.declared.diagnostics.AbsDiag.{AbsDiag}
use Rattle.sched_core.specs.Bodies.{diag_data}

-- one diagnostic more
pub diags_more : (at : ℕ → Position) (diags : List AbsDiag) (i : ℕ) (diag : AbsDiag) (values new : List Value) (value : Value) → i < length diags → diag ≡ get_or diags i diag → new ≡ values ++ value ∷ [] → view value ≡ diag_data at diag → map view values ++ map (diag_data at) (drop i diags) ≡ map (diag_data at) diags → map view new ++ map (diag_data at) (drop (i + 1) diags) ≡ map (diag_data at) diags
diags_more at diags i diag values new value within is grown seen same =
    let next : suc i ≡ i + 1 = omega arith in
    let rest : List Data = map (diag_data at) (drop (i + 1) diags) in
    let parts : drop i diags ≡ diag ∷ drop (i + 1) diags = drop-cons diags i diag within ∙ ap (λ d. d ∷ drop (suc i) diags) (sym is) ∙ ap (λ n. diag ∷ drop n diags) next in
    ap (λ vs. map view vs ++ rest) grown
    ∙ ap (λ ds. ds ++ rest) (map-append view values (value ∷ []))
    ∙ append_assoc (map view values) (view value ∷ []) rest
    ∙ ap (λ d. map view values ++ d ∷ rest) seen
    ∙ ap (λ ds. map view values ++ map (diag_data at) ds) (sym parts)
    ∙ same

one_of : {A : Type 0} (f : A → List ℕ) (b : Bool) (x : A) (rest : List A) → map f (if b then x ∷ rest else rest) ≡ (if b then f x ∷ [] else []) ++ map f rest
one_of f true x rest = refl
one_of f false x rest = refl

-- one item more, of those that are meant
pub those_more : {A : Type 0} (which : A → Bool) (f : A → List ℕ) (xs : List A) (i : ℕ) (x : A) (before now whole : List (List ℕ)) → i < length xs → x ≡ get_or xs i x → now ≡ before ++ (if which x then f x ∷ [] else []) → before ++ map f (filter which (drop i xs)) ≡ whole → now ++ map f (filter which (drop (i + 1) xs)) ≡ whole
those_more which f xs i x before now whole within is grown same =
    let next : suc i ≡ i + 1 = omega arith in
    let due : List (List ℕ) = if which x then f x ∷ [] else [] in
    let rest = filter which (drop (i + 1) xs) in
    let parts : drop i xs ≡ x ∷ drop (i + 1) xs = drop-cons xs i x within ∙ ap (λ d. d ∷ drop (suc i) xs) (sym is) ∙ ap (λ n. x ∷ drop n xs) next in
    ap (λ bs. bs ++ map f rest) grown
    ∙ append_assoc before due (map f rest)
    ∙ ap (λ bs. before ++ bs) (sym (one_of f (which x) x rest))
    ∙ ap (λ ws. before ++ map f (filter which ws)) (sym parts)
    ∙ same
