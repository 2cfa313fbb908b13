-- Worked examples of the definition.
use Rattle.std.proofs.Common.{◌≡◌, ℕ, List, [], ◌∷◌, codes, refl}
use Rattle.core_term.specs.Tree.{Var, Sorted, Constant, Prod, Lam, LetIn, App}
use Rattle.core_term.specs.declared.sorts.Sort.TheVariants.{PropSort}
use Rattle.cic_rules.specs.declared.entries.EntryKind.TheVariants.{Assumed}
use Rattle.cic_rules.specs.declared.env.Slot.{Slot}
use Rattle.cic_rules.specs.Environments.{own_slot}
use Rattle.term_print.specs.Freshness.{fresh}
use Rattle.term_print.specs.Show.{show, whole_text}

abbrev axiom_of : List ℕ → Slot
axiom_of name = own_slot record { name = name; ty = Sorted PropSort; kind = Assumed; used = [] }

abbrev globals : List Slot
globals = axiom_of (codes "and") ∷ axiom_of (codes "x") ∷ []

-- a variable that is used, and an arrow
identity : whole_text globals [] (Prod (codes "x") (Sorted PropSort) (Prod (codes "_") (Var 0) (Var 1))) ≡ codes "forall x : Prop, x -> x"
unfolding show
identity = refl

-- a run of products
run : whole_text globals [] (Prod (codes "y") (Sorted PropSort) (Prod (codes "z") (Var 0) (App (App (Constant 0) (Var 1)) (Var 0))))
    ≡ codes "forall (y : Prop) (z : y), y /\\ z"
unfolding show
run = refl

-- an operator with one argument more is a global like any other
one_more : whole_text globals [] (App (App (App (Constant 0) (Sorted PropSort)) (Sorted PropSort)) (Sorted PropSort)) ≡ codes "and Prop Prop Prop"
unfolding show
one_more = refl

-- a run of functions, where one variable isn't used
functions : whole_text globals [] (Lam (codes "y") (Constant 1) (Lam (codes "z") (Var 0) (Var 1))) ≡ codes "fun (y : x) (_ : y) => y"
unfolding show
functions = refl

-- a binder without a name of its own
named : fresh (codes "y" ∷ []) (codes "_") ≡ codes "x"
named = refl

-- both sides of an arrow
nested : whole_text globals [] (Prod (codes "_") (Prod (codes "_") (Sorted PropSort) (Sorted PropSort)) (Prod (codes "_") (Sorted PropSort) (Sorted PropSort)))
    ≡ codes "(Prop -> Prop) -> Prop -> Prop"
unfolding show
nested = refl

-- a let is named always
bound : whole_text globals [] (LetIn (codes "_") (Sorted PropSort) (Sorted PropSort) (Sorted PropSort)) ≡ codes "let x : Prop := Prop in Prop"
unfolding show
bound = refl
