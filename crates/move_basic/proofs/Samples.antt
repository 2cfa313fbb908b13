-- Worked moves in the first state, proved by computation: each from 1000 units.
use Rattle.std.specs.Prelude.{◌≡◌, ℕ, List, [], ◌∷◌, Some, None, Result, Ok, Err, refl, codes}
use Rattle.base_core.specs.declared.refusals.Stop.{Stop}
use Rattle.coq_syntax.specs.declared.words.TokenPlace.{TokenPlace}
use Rattle.coq_syntax.specs.declared.words.Word.{Word}
use Rattle.coq_syntax.specs.MoveTrees.{Move, Intro, Intros, Exact, Apply, Assumption, Split, Left, Right, Reflexivity}
use Rattle.coq_syntax.specs.MoveTrees as move
use Rattle.coq_syntax.specs.Trees as tree
use Rattle.core_term.specs.declared.sorts.Sort.TheVariants.{PropSort}
use Rattle.core_term.specs.Tree.{Tree, Var, Sorted, Constant, Prod, Lam, LetIn, App}
use Rattle.cic_rules.specs.declared.context.Hyp.{Hyp}
use Rattle.cic_rules.specs.declared.env.Slot.{Slot}
use Rattle.cic_rules.specs.Contexts.{plain_hyp, defined_hyp}
use Rattle.cic_rules.specs.Convert.{conv_at, blocker_at}
use Rattle.cic_rules.specs.Declare.{declare_at}
use Rattle.cic_rules.specs.Infer.{infer_at}
use Rattle.cic_rules.specs.Inductive.{row_at}
use Rattle.cic_rules.specs.Reduce.{whnf_at}
use Rattle.cic_rules.specs.Runs.{Ran, pure, refuse, repeat}
use Rattle.cic_rules.proofs.FirstState.{first_state}
use Rattle.elaborator.specs.Elab.{elab}
use Rattle.matching.specs.Match.{match_at}
use Rattle.proof_state.specs.declared.goals.Goal.{Goal}
use Rattle.proof_state.specs.declared.state.Filling.{Filling}
use Rattle.proof_state.specs.declared.state.Filling.TheVariants.{Give, Admit}
use Rattle.proof_state.specs.Partial.{Partial, Ready, Hole, Abstracts, Defines, Applies}
use Rattle.move_basic.specs.Moves.{run_basic}

abbrev environment_of : Result (List Slot) Stop → List Slot
environment_of (Ok env) = env
environment_of (Err stop) = []

abbrev PLACE : TokenPlace
PLACE = record { from = 0; to = 1 }

abbrev word : List ℕ → Word
word text = record { text = text; place = PLACE }

abbrev goal : List Hyp → Tree → Goal
goal ctx ty = record { ctx = ctx; ty = ty }

abbrev PROP : Tree
PROP = Sorted PropSort

abbrev NAT : Tree
NAT = Constant 33

abbrev TRUE : Tree
TRUE = Constant 4

abbrev ONE : Tree
ONE = App (Constant 35) (Constant 34)

abbrev TWO : Tree
TWO = App (Constant 35) ONE

abbrev both : Tree → Tree → Tree
both a b = App (App (Constant 9) a) b

abbrev equal : Tree → Tree → Tree
equal a b = App (App (App (Constant 19) NAT) a) b

-- x : nat
abbrev X : List Hyp
X = plain_hyp (codes "x") NAT ∷ []

-- A : Prop; B : Prop; x : A; y : B
abbrev TWO_TERMS : List Hyp
TWO_TERMS =
    plain_hyp (codes "y") (Var 1) ∷ plain_hyp (codes "x") (Var 1) ∷ plain_hyp (codes "B") PROP ∷ plain_hyp (codes "A") PROP ∷ []

-- h : forall x : nat, let y := x in y = 1
abbrev LET : List Hyp
LET = plain_hyp (codes "h") (Prod (codes "x") NAT (LetIn (codes "y") NAT (Var 0) (equal (Var 0) ONE))) ∷ []

-- h : forall n : nat, n = 1 -> forall m : nat, n = m
abbrev CHAIN : List Hyp
CHAIN = plain_hyp (codes "h") (Prod (codes "n") NAT (Prod (codes "_") (equal (Var 0) ONE) (Prod (codes "m") NAT (equal (Var 2) (Var 0))))) ∷ []

abbrev H : tree.Term
H = tree.Name (word (codes "h"))

module _ (env : List Slot) where
  abbrev run : Goal → Move → Ran Filling
  run g m = run_basic env 2000 g m 1000

  abbrev binders : List (Ran Filling)
  binders =
      run (goal [] (Prod (codes "x") NAT (Prod (codes "_") (equal (Var 0) (Var 0)) TRUE))) (Intro PLACE None)
      ∷ run (goal X (Prod (codes "_") (equal (Var 0) (Var 0)) TRUE)) (Intro PLACE None)
      ∷ run (goal X (Prod (codes "_") (equal (Var 0) (Var 0)) TRUE)) (Intro PLACE (Some (word (codes "x"))))
      ∷ run (goal X TRUE) (Intro PLACE (Some (word (codes "x"))))
      ∷ run (goal [] (App (Constant 18) TRUE)) (Intro PLACE None)
      ∷ run (goal [] (App (Constant 18) TRUE)) (Intros PLACE [])
      ∷ run (goal X (Prod (codes "_") NAT (LetIn (codes "x") NAT ONE TRUE))) (Intros PLACE [])
      ∷ run (goal [] (Prod (codes "_") PROP PROP)) (Intros PLACE (word (codes "P") ∷ word (codes "Q") ∷ []))
      ∷ []

  abbrev terms : List (Ran Filling)
  terms =
      run (goal TWO_TERMS (Var 3)) (Assumption PLACE)
      ∷ run (goal X TRUE) (Assumption PLACE)
      ∷ run (goal [] TRUE) (Exact PLACE (tree.Name (word (codes "I"))))
      ∷ run (goal [] (equal ONE ONE)) (Reflexivity PLACE)
      ∷ run (goal [] (equal ONE TWO)) (Reflexivity PLACE)
      ∷ run (goal [] TRUE) (Reflexivity PLACE)
      ∷ run (goal [] TRUE) (move.Admit PLACE)
      ∷ []

  abbrev applied : List (Ran Filling)
  applied =
      run (goal LET (equal ONE ONE)) (Apply PLACE H)
      ∷ run (goal LET (LetIn (codes "y") NAT ONE (equal (Var 0) ONE))) (Apply PLACE H)
      ∷ run (goal CHAIN (equal TWO ONE)) (Apply PLACE H)
      ∷ run (goal CHAIN (Prod (codes "m") NAT (equal TWO (Var 0)))) (Apply PLACE H)
      ∷ run (goal [] (both TRUE TRUE)) (Split PLACE)
      ∷ run (goal [] (equal ONE ONE)) (Split PLACE)
      ∷ run (goal [] (equal ONE TWO)) (Split PLACE)
      ∷ run (goal [] (App (App (Constant 24) NAT) (Lam (codes "x") NAT (equal (Var 0) ONE)))) (Split PLACE)
      ∷ run (goal [] NAT) (Split PLACE)
      ∷ run (goal [] NAT) (Left PLACE)
      ∷ run (goal [] NAT) (Right PLACE)
      ∷ run (goal [] TRUE) (Left PLACE)
      ∷ []

abbrev hole : List Hyp → Tree → Partial Goal
hole ctx ty = Hole (goal ctx ty)

-- each binder with its name; a name that is used, no product, a product that a reduction finds; a let
binders_done : binders (environment_of first_state.answer)
    ≡ pure (Give (Abstracts (codes "x") NAT (hole X (Prod (codes "_") (equal (Var 0) (Var 0)) TRUE)))) 1000
    ∷ pure (Give (Abstracts (codes "H") (equal (Var 0) (Var 0)) (hole (plain_hyp (codes "H") (equal (Var 0) (Var 0)) ∷ X) TRUE))) 1000
    ∷ refuse 71 1000
    ∷ refuse 70 1000
    ∷ pure (Give (Abstracts (codes "H") TRUE (hole (plain_hyp (codes "H") TRUE ∷ []) (Constant 0)))) 995
    ∷ pure (Give (hole [] (App (Constant 18) TRUE))) 1000
    ∷ pure (Give (Abstracts (codes "n") NAT (Defines (codes "x0") NAT ONE
    (hole (defined_hyp (codes "x0") NAT ONE ∷ plain_hyp (codes "n") NAT ∷ X) TRUE)))) 1000
    ∷ refuse 70 1000
    ∷ []
unfolding repeat whnf_at conv_at blocker_at infer_at row_at declare_at match_at elab
binders_done = refl

-- the newest hypothesis that fits, none, a term, equal sides, sides that differ, no equation
terms_done : terms (environment_of first_state.answer)
    ≡ pure (Give (Ready (Var 1))) 998
    ∷ refuse 72 999
    ∷ pure (Give (Ready (Constant 5))) 998
    ∷ pure (Give (Ready (App (App (Constant 20) NAT) ONE))) 997
    ∷ refuse 78 998
    ∷ refuse 77 1000
    ∷ pure Admit 1000
    ∷ []
unfolding repeat whnf_at conv_at blocker_at infer_at row_at declare_at match_at elab
terms_done = refl

-- no match, values behind a let, a goal between values, fewer products; constructors: with goals, with a value, one that doesn't match,
-- one whose argument isn't determined, and types that have not so many
applied_done : applied (environment_of first_state.answer)
    ≡ refuse 76 996
    ∷ pure (Give (Applies (Ready (Var 0)) (Ready ONE))) 964
    ∷ pure (Give (Applies (Applies (Applies (Ready (Var 0)) (Ready TWO)) (hole CHAIN (equal TWO ONE))) (Ready ONE))) 974
    ∷ pure (Give (Applies (Applies (Ready (Var 0)) (Ready TWO)) (hole CHAIN (equal TWO ONE)))) 973
    ∷ pure (Give (Applies (Applies (Ready (App (App (Constant 10) TRUE) TRUE)) (hole [] TRUE)) (hole [] TRUE))) 987
    ∷ pure (Give (Ready (App (App (Constant 20) NAT) ONE))) 976
    ∷ refuse 76 980
    ∷ refuse 75 956
    ∷ refuse 73 1000
    ∷ pure (Give (Ready (Constant 34))) 997
    ∷ pure (Give (Applies (Ready (Constant 35)) (hole [] NAT))) 997
    ∷ refuse 74 1000
    ∷ []
unfolding repeat whnf_at conv_at blocker_at infer_at row_at declare_at match_at elab
applied_done = refl
