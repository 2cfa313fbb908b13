-- Worked rewritings in the first state, proved by computation: each from 1000 units.
use Rattle.std.specs.Prelude.{◌≡◌, ℕ, List, [], ◌∷◌, Result, Ok, Err, refl, codes}
use Rattle.base_core.specs.declared.refusals.Stop.{Stop}
use Rattle.coq_syntax.specs.declared.moves.Direction.{Direction}
use Rattle.coq_syntax.specs.declared.moves.Direction.TheVariants.{Unmarked, Forward, Backward}
use Rattle.coq_syntax.specs.declared.words.TokenPlace.{TokenPlace}
use Rattle.coq_syntax.specs.MoveTrees.{Move, Rewrite}
use Rattle.coq_syntax.specs.MoveTrees as move
use Rattle.coq_syntax.specs.Trees as tree
use Rattle.core_term.specs.declared.sorts.Sort.TheVariants.{SetSort, TypeSort}
use Rattle.core_term.specs.Tree.{Tree, Var, Sorted, Constant, Prod, Lam, App}
use Rattle.cic_rules.specs.declared.context.Hyp.{Hyp}
use Rattle.cic_rules.specs.declared.env.Slot.{Slot}
use Rattle.cic_rules.specs.Contexts.{plain_hyp}
use Rattle.cic_rules.specs.Convert.{conv_at, blocker_at}
use Rattle.cic_rules.specs.Declare.{declare_at}
use Rattle.cic_rules.specs.Infer.{infer_at}
use Rattle.cic_rules.specs.Inductive.{row_at}
use Rattle.cic_rules.specs.Reduce.{whnf_at}
use Rattle.cic_rules.specs.Runs.{Ran, Run, ◌>>=◌, pure, refuse, repeat}
use Rattle.cic_rules.proofs.FirstState.{first_state}
use Rattle.elaborator.specs.Elab.{elab}
use Rattle.matching.specs.Match.{match_at}
use Rattle.proof_state.specs.declared.goals.Goal.{Goal}
use Rattle.proof_state.specs.declared.state.Filling.{Filling}
use Rattle.proof_state.specs.declared.state.Filling.TheVariants.{Give, Admit}
use Rattle.proof_state.specs.Partial.{Partial, Ready, Hole, Applies, holes}
use Rattle.move_rewrite.specs.Moves.{run_rewrite}

abbrev environment_of : Result (List Slot) Stop → List Slot
environment_of (Ok env) = env
environment_of (Err stop) = []

abbrev PLACE : TokenPlace
PLACE = record { from = 0; to = 1 }

abbrev named : List ℕ → tree.Term
named text = tree.Name (record { text = text; place = PLACE })

abbrev goal : List Hyp → Tree → Goal
goal ctx ty = record { ctx = ctx; ty = ty }

abbrev hole : List Hyp → Tree → Partial Goal
hole ctx ty = Hole (goal ctx ty)

-- the goals of a sketch
abbrev goals_of : Filling → List Goal
goals_of (Give s) = holes s
goals_of Admit = []

abbrev told : Run Filling → Run (List Goal)
told run = run >>= (λ f. pure (goals_of f))

abbrev NAT : Tree
NAT = Constant 33

abbrev O : Tree
O = Constant 34

abbrev next : Tree → Tree
next t = App (Constant 35) t

abbrev ONE : Tree
ONE = next O

abbrev TWO : Tree
TWO = next ONE

abbrev THREE : Tree
THREE = next TWO

abbrev apply2 : Tree → Tree → Tree → Tree
apply2 f a b = App (App f a) b

abbrev equal : Tree → Tree → Tree
equal a b = App (apply2 (Constant 19) NAT a) b

abbrev Z : List ℕ
Z = codes "z"

abbrev X : List ℕ
X = codes "x"

abbrev arrow : Tree → Tree → Tree
arrow a b = Prod (codes "_") a b

-- x : nat; y : nat; H : x = y
abbrev EQUAL : List Hyp
EQUAL = plain_hyp (codes "H") (equal (Var 1) (Var 0)) ∷ plain_hyp (codes "y") NAT ∷ plain_hyp X NAT ∷ []

-- .. K : True; L : x = y -> True
abbrev MORE : List Hyp
MORE = plain_hyp (codes "L") (arrow (equal (Var 3) (Var 2)) (Constant 4)) ∷ plain_hyp (codes "K") (Constant 4) ∷ EQUAL

-- f : nat -> nat; H : forall x : nat, f x = x
abbrev ONE_PLACE : List Hyp
ONE_PLACE = plain_hyp (codes "H") (Prod X NAT (equal (App (Var 1) (Var 0)) (Var 0))) ∷ plain_hyp (codes "f") (arrow NAT NAT) ∷ []

-- f : nat -> nat -> nat, and one hypothesis
abbrev two_places : Tree → List Hyp
two_places ty = plain_hyp (codes "H") ty ∷ plain_hyp (codes "f") (arrow NAT (arrow NAT NAT)) ∷ []

-- forall x y : nat, f x x = f y x
abbrev SYMMETRIC : Tree
SYMMETRIC = Prod X NAT (Prod (codes "y") NAT (equal (apply2 (Var 2) (Var 1) (Var 1)) (apply2 (Var 2) (Var 0) (Var 1))))

-- forall (x : nat) (n : nat), f x x = 0
abbrev UNUSED : Tree
UNUSED = Prod X NAT (Prod (codes "n") NAT (equal (apply2 (Var 2) (Var 1) (Var 1)) O))

-- forall (x : nat) (e : x = 1), f x x = 0
abbrev PREMISE : Tree
PREMISE = Prod X NAT (Prod (codes "e") (equal (Var 0) ONE) (equal (apply2 (Var 2) (Var 1) (Var 1)) O))

-- forall (x y : nat) (e : y = x), f x x = 0
abbrev BETWEEN : Tree
BETWEEN = Prod X NAT (Prod (codes "y") NAT (Prod (codes "e") (equal (Var 0) (Var 1)) (equal (apply2 (Var 3) (Var 2) (Var 2)) O)))

-- forall (A : Set) (g : A -> nat) (x : nat), f x x = x
abbrev TYPED : Tree
TYPED =
    Prod (codes "A") (Sorted SetSort) (Prod (codes "g") (arrow (Var 0) NAT) (Prod X NAT (equal (apply2 (Var 3) (Var 0) (Var 0)) (Var 0))))

-- forall x : nat, f x = S
abbrev PARTIAL : Tree
PARTIAL = Prod X NAT (App (apply2 (Constant 19) (arrow NAT NAT) (App (Var 1) (Var 0))) (Constant 35))

-- forall x y : nat, f x y = 0
abbrev ALL : Tree
ALL = Prod X NAT (Prod (codes "y") NAT (equal (apply2 (Var 2) (Var 1) (Var 0)) O))

-- x : nat; y : nat; H : x = y; P : nat -> Type@{n}
abbrev FAMILY : ℕ → List Hyp
FAMILY level = plain_hyp (codes "P") (arrow NAT (Sorted (TypeSort level))) ∷ EQUAL

-- x : nat; y : nat; H : x = y; P : nat -> Set
abbrev SMALL : List Hyp
SMALL = plain_hyp (codes "P") (arrow NAT (Sorted SetSort)) ∷ EQUAL

module _ (env : List Slot) where
  abbrev rewriting : Direction → List Hyp → Tree → List ℕ → Run Filling
  rewriting d ctx ty name = run_rewrite env 2000 (goal ctx ty) (Rewrite PLACE d (named name))

  abbrev forward : List Hyp → Tree → List ℕ → Ran (List Goal)
  forward ctx ty name = told (rewriting Unmarked ctx ty name) 1000

  abbrev backward : List Hyp → Tree → List ℕ → Ran (List Goal)
  backward ctx ty name = told (rewriting (Backward PLACE) ctx ty name) 1000

  abbrev sketches : List (Ran Filling)
  sketches =
      rewriting (Forward PLACE) EQUAL (equal (Var 1) (Var 2)) (codes "H") 1000
      ∷ rewriting (Backward PLACE) EQUAL (equal (Var 1) (Var 2)) (codes "H") 1000
      ∷ rewriting Unmarked (FAMILY 1) (App (Var 0) (Var 3)) (codes "H") 1000
      ∷ run_rewrite env 2000 (goal EQUAL (Constant 4)) (move.Simpl PLACE) 1000
      ∷ []

  abbrev found : List (Ran (List Goal))
  found =
      forward ONE_PLACE (equal (App (Var 1) ONE) (App (Var 1) (App (Var 1) ONE))) (codes "H")
      ∷ forward ONE_PLACE (equal ONE (App (Var 1) ONE)) (codes "H")
      ∷ forward (two_places UNUSED) (equal (apply2 (Var 1) ONE ONE) O) (codes "H")
      ∷ forward (two_places PREMISE) (equal (apply2 (Var 1) ONE ONE) O) (codes "H")
      ∷ backward (two_places SYMMETRIC) (equal (apply2 (Var 1) ONE ONE) O) (codes "H")
      ∷ forward (two_places PARTIAL) (equal (apply2 (Var 1) ONE TWO) THREE) (codes "H")
      ∷ forward (two_places ALL) (equal (apply2 (Var 1) (apply2 (Var 1) ONE TWO) (apply2 (Var 1) THREE (next THREE))) O) (codes "H")
      ∷ forward SMALL (App (Var 0) (Var 3)) (codes "H")
      ∷ forward EQUAL (Prod (codes "w") (equal (Var 2) (Var 1)) (equal (Var 3) (Var 3))) (codes "H")
      ∷ []

  abbrev refused : List (Ran (List Goal))
  refused =
      forward MORE (equal (Var 3) (Var 3)) (codes "K")
      ∷ forward MORE (equal (Var 3) (Var 3)) (codes "L")
      ∷ forward MORE (equal (Var 3) (Var 3)) (codes "H")
      ∷ forward MORE (equal (Var 3) (Var 3)) (codes "nat")
      ∷ backward ONE_PLACE (equal (App (Var 1) ONE) ONE) (codes "H")
      ∷ forward (two_places SYMMETRIC) (equal (apply2 (Var 1) ONE ONE) O) (codes "H")
      ∷ forward (two_places BETWEEN) (equal (apply2 (Var 1) ONE ONE) O) (codes "H")
      ∷ forward (two_places TYPED) (equal (apply2 (Var 1) ONE ONE) ONE) (codes "H")
      ∷ backward (two_places PREMISE) (equal (apply2 (Var 1) TWO TWO) TWO) (codes "H")
      ∷ forward (FAMILY 2) (App (Var 0) (Var 3)) (codes "H")
      ∷ []

-- the equation turned round, for sides with these variables
abbrev turned : Tree → Tree → Tree → Partial Goal
turned a deeper b = Ready (apply2 (apply2 (App (Constant 21) NAT) a (Lam Z NAT (equal (Var 0) deeper))) (apply2 (Constant 20) NAT a) b)

-- the terms: by the equation turned round, by the equation itself, and by the eliminator into `Type`; a move of another kind
sketches_given : sketches (environment_of first_state.answer)
    ≡ pure (Give (Applies (Applies (Applies
    (Ready (apply2 (App (Constant 21) NAT) (Var 1) (Lam Z NAT (equal (Var 2) (Var 0)))))
    (hole EQUAL (equal (Var 1) (Var 1))))
    (Ready (Var 2)))
    (Applies (turned (Var 2) (Var 3) (Var 1)) (Ready (Var 0))))) 985
    ∷ pure (Give (Applies (Applies (Applies
    (Ready (apply2 (App (Constant 21) NAT) (Var 2) (Lam Z NAT (equal (Var 0) (Var 3)))))
    (hole EQUAL (equal (Var 2) (Var 2))))
    (Ready (Var 1)))
    (Ready (Var 0)))) 985
    ∷ pure (Give (Applies (Applies (Applies
    (Ready (apply2 (App (Constant 23) NAT) (Var 2) (Lam Z NAT (App (Var 1) (Var 0)))))
    (hole (FAMILY 1) (App (Var 0) (Var 2))))
    (Ready (Var 3)))
    (Applies (turned (Var 3) (Var 4) (Var 2)) (Ready (Var 1))))) 993
    ∷ refuse 15 1000
    ∷ []
unfolding repeat whnf_at conv_at blocker_at infer_at row_at declare_at match_at elab
sketches_given = refl

-- values that a match finds; then all equal subterms; arguments that become goals; a function with fewer arguments; the first in preorder;
-- a goal in `Set`; below a binder
rewritings_found : found (environment_of first_state.answer)
    ≡ pure (goal ONE_PLACE (equal ONE (App (Var 1) ONE)) ∷ []) 963
    ∷ pure (goal ONE_PLACE (equal ONE ONE) ∷ []) 969
    ∷ pure (goal (two_places UNUSED) (equal O O) ∷ goal (two_places UNUSED) NAT ∷ []) 961
    ∷ pure (goal (two_places PREMISE) (equal O O) ∷ goal (two_places PREMISE) (equal ONE ONE) ∷ []) 961
    ∷ pure (goal (two_places SYMMETRIC) (equal (apply2 (Var 1) ONE ONE) O) ∷ []) 959
    ∷ pure (goal (two_places PARTIAL) (equal THREE THREE) ∷ []) 954
    ∷ pure (goal (two_places ALL) (equal O O) ∷ []) 887
    ∷ pure (goal SMALL (App (Var 0) (Var 2)) ∷ []) 993
    ∷ pure (goal EQUAL (Prod (codes "w") (equal (Var 1) (Var 1)) (equal (Var 2) (Var 2))) ∷ []) 972
    ∷ []
unfolding repeat whnf_at conv_at blocker_at infer_at row_at declare_at match_at elab
rewritings_found = refl

-- no equation; no subterm; no equation; a side that is a variable; arguments that are not determined; no eliminator into the goal's sort
rewritings_refused : refused (environment_of first_state.answer)
    ≡ refuse 87 999 ∷ refuse 87 999 ∷ refuse 85 999 ∷ refuse 87 999 ∷ refuse 86 999 ∷ refuse 75 985 ∷ refuse 75 985 ∷ refuse 75 990 ∷ refuse 75 997
    ∷ refuse 80 993 ∷ []
unfolding repeat whnf_at conv_at blocker_at infer_at row_at declare_at match_at elab
rewritings_refused = refl
