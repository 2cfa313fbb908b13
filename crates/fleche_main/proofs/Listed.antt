-- Names among the titles of observers.
use Rattle.std.proofs.Common.{◌≡◌, ◌||◌, Bool, Option, IfSome, List, [], ◌∷◌, map, refl, ap, subst}
use Rattle.std.specs.List.{list_any}

-- a test of what is made of each item
pub list_any_map : {A B : Type 0} (f : A → B) (test : B → Bool) (items : List A) → list_any (λ item. test (f item)) items ≡ list_any test (map f items)
list_any_map f test [] = refl
list_any_map f test (item ∷ items) = ap (λ rest. test (f item) || rest) (list_any_map f test items)

-- what is told, where something is, is told of equal things
pub told_same : {X N W : Type 0} (content : Option X) (Fact : N → W → X → Type 0) (n m : N) (w v : W) → n ≡ m → w ≡ v → IfSome content (Fact n w) → IfSome content (Fact m v)
told_same content Fact n m w v e f told = subst (λ k. IfSome content (Fact k v)) e (subst (λ u. IfSome content (Fact n u)) f told)
