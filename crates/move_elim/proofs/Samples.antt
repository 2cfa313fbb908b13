-- Worked moves in the first state, proved by computation: each from 1000 units.
use Rattle.std.specs.Prelude.{◌≡◌, ℕ, List, [], ◌∷◌, Some, None, Option, Result, Ok, Err, refl, codes}
use Rattle.base_core.specs.declared.refusals.Stop.{Stop}
use Rattle.coq_syntax.specs.declared.words.BoundName.{BoundName}
use Rattle.coq_syntax.specs.declared.words.BoundName.TheVariants.{Named}
use Rattle.coq_syntax.specs.declared.words.TokenPlace.{TokenPlace}
use Rattle.coq_syntax.specs.declared.words.Word.{Word}
use Rattle.coq_syntax.specs.MoveTrees.{Move, Pattern, PatternCase, Destruct, Induction}
use Rattle.coq_syntax.specs.MoveTrees as move
use Rattle.core_term.specs.declared.sorts.Sort.TheVariants.{PropSort, TypeSort}
use Rattle.core_term.specs.Tree.{Tree, Var, Sorted, Constant, Prod, Lam, App}
use Rattle.cic_rules.specs.declared.context.Hyp.{Hyp}
use Rattle.cic_rules.specs.declared.env.Slot.{Slot}
use Rattle.cic_rules.specs.Contexts.{plain_hyp, defined_hyp}
use Rattle.cic_rules.specs.Convert.{conv_at, blocker_at}
use Rattle.cic_rules.specs.Declare.{declare_at}
use Rattle.cic_rules.specs.Eliminators.{WILDCARD}
use Rattle.cic_rules.specs.Infer.{infer_at}
use Rattle.cic_rules.specs.Inductive.{row_at}
use Rattle.cic_rules.specs.Reduce.{whnf_at}
use Rattle.cic_rules.specs.Runs.{Ran, pure, refuse, repeat}
use Rattle.cic_rules.proofs.FirstState.{first_state}
use Rattle.proof_state.specs.declared.goals.Goal.{Goal}
use Rattle.proof_state.specs.declared.state.Filling.{Filling}
use Rattle.proof_state.specs.declared.state.Filling.TheVariants.{Give}
use Rattle.proof_state.specs.Partial.{Partial, Ready, Hole, Abstracts, Applies}
use Rattle.move_elim.specs.Moves.{run_elim}

abbrev environment_of : Result (List Slot) Stop → List Slot
environment_of (Ok env) = env
environment_of (Err stop) = []

abbrev PLACE : TokenPlace
PLACE = record { from = 0; to = 1 }

abbrev word : List ℕ → Word
word text = record { text = text; place = PLACE }

abbrev given : List ℕ → BoundName
given text = Named (word text)

abbrev goal : List Hyp → Tree → Goal
goal ctx ty = record { ctx = ctx; ty = ty }

abbrev hole : List Hyp → Tree → Partial Goal
hole ctx ty = Hole (goal ctx ty)

-- a pattern with one branch, and one with two
abbrev one_branch : List BoundName → Option Pattern
one_branch names = Some (record { keyword = PLACE; opening = PLACE; first = names; others = []; closing = PLACE })

abbrev two_branches : List BoundName → List BoundName → Option Pattern
two_branches names more =
    Some (record { keyword = PLACE; opening = PLACE; first = names; others = record { bar = PLACE; names = more } ∷ []; closing = PLACE })

abbrev PROP : Tree
PROP = Sorted PropSort

abbrev NAT : Tree
NAT = Constant 33

abbrev TRUE : Tree
TRUE = Constant 4

abbrev O : Tree
O = Constant 34

abbrev next : Tree → Tree
next t = App (Constant 35) t

abbrev both : Tree → Tree → Tree
both a b = App (App (Constant 9) a) b

abbrev equal_at : Tree → Tree → Tree → Tree
equal_at ty a b = App (App (App (Constant 19) ty) a) b

abbrev equal : Tree → Tree → Tree
equal a b = equal_at NAT a b

abbrev N : List ℕ
N = codes "n"

abbrev E : List ℕ
E = codes "e"

abbrev hidden : Tree → Hyp
hidden ty = plain_hyp WILDCARD ty

-- n : nat; m : nat
abbrev TWO : List Hyp
TWO = plain_hyp (codes "m") NAT ∷ plain_hyp N NAT ∷ []

-- .. the first taken away
abbrev ONE : List Hyp
ONE = plain_hyp (codes "m") NAT ∷ hidden NAT ∷ []

-- n : nat; m : nat; e : n = m
abbrev EQUAL : List Hyp
EQUAL = plain_hyp E (equal (Var 1) (Var 0)) ∷ TWO

-- n : nat; m : nat; A : Prop; B : Prop; H : A /\ B; e : n = m
abbrev MANY : List Hyp
MANY =
    plain_hyp E (equal (Var 4) (Var 3)) ∷ plain_hyp (codes "H") (both (Var 1) (Var 0)) ∷ plain_hyp (codes "B") PROP
    ∷ plain_hyp (codes "A") PROP ∷ TWO

-- .. the first and the last taken away
abbrev MOST : List Hyp
MOST =
    hidden (equal (Var 4) (Var 3)) ∷ plain_hyp (codes "H") (both (Var 1) (Var 0)) ∷ plain_hyp (codes "B") PROP
    ∷ plain_hyp (codes "A") PROP ∷ ONE

-- H : True
abbrev TRUTH : List Hyp
TRUTH = plain_hyp (codes "H") TRUE ∷ []

-- A : Prop; B : Prop; H : A /\ B
abbrev PAIR : List Hyp
PAIR = plain_hyp (codes "H") (both (Var 1) (Var 0)) ∷ plain_hyp (codes "B") PROP ∷ plain_hyp (codes "A") PROP ∷ []

module _ (env : List Slot) where
  abbrev run : Goal → Move → Ran Filling
  run g m = run_elim env 2000 g m 1000

  abbrev split : Goal → List ℕ → Option Pattern → Ran Filling
  split g name pattern = run g (Destruct PLACE (word name) pattern)

  abbrev induct : Goal → List ℕ → Option Pattern → Ran Filling
  induct g name pattern = run g (Induction PLACE (word name) pattern)

  abbrev done : List (Ran Filling)
  done =
      induct (goal TWO (equal (Var 1) (Var 1))) N (two_branches [] (given N ∷ given (codes "IHn") ∷ []))
      ∷ induct (goal TWO (equal (Var 1) (Var 1))) N None
      ∷ split (goal MANY (equal (Var 5) (Var 5))) N (two_branches [] (given N ∷ []))
      ∷ split (goal EQUAL (equal (Var 2) (Var 2))) E None
      ∷ split (goal PAIR (Var 2)) (codes "H") (one_branch (given (codes "H") ∷ given (codes "K") ∷ []))
      ∷ split (goal (plain_hyp (codes "H") (Constant 0) ∷ []) NAT) (codes "H") (one_branch [])
      ∷ []

  abbrev refused : List (Ran Filling)
  refused =
      split (goal TWO TRUE) (codes "x") None
      ∷ split (goal (defined_hyp N NAT O ∷ []) TRUE) N None
      ∷ split (goal PAIR TRUE) (codes "A") None
      ∷ split (goal (plain_hyp (codes "K") (equal_at TRUE (Var 0) (Var 0)) ∷ TRUTH) TRUE) (codes "K") None
      ∷ split (goal (plain_hyp N NAT ∷ []) (Sorted (TypeSort 2))) N None
      ∷ split (goal TRUTH (equal_at TRUE (Var 0) (Var 0))) (codes "H") None
      ∷ split (goal (plain_hyp (codes "K") (equal_at TRUE (Var 0) (Var 0)) ∷ TRUTH) TRUE) (codes "H") None
      ∷ split (goal TWO (equal (Var 1) (Var 1))) N (one_branch [])
      ∷ split (goal TWO (equal (Var 1) (Var 1))) N (two_branches [] (given N ∷ given E ∷ []))
      ∷ induct (goal TWO (equal (Var 1) (Var 1))) N (two_branches [] (given (codes "k") ∷ given (codes "m") ∷ []))
      ∷ split (goal PAIR TRUE) (codes "H") (one_branch (given (codes "A") ∷ []))
      ∷ split (goal PAIR TRUE) (codes "H") (one_branch (given (codes "x") ∷ given (codes "x") ∷ []))
      ∷ run (goal TWO TRUE) (move.Simpl PLACE)
      ∷ []

-- names that are given, and automatic ones; a hypothesis that comes back; indices; a proposition; no constructor
elimination_done : done (environment_of first_state.answer)
    ≡ pure (Give (Applies (Applies (Applies (Ready (App (Constant 36) (Lam N NAT (equal (Var 0) (Var 0)))))
    (hole ONE (equal O O)))
    (Abstracts N NAT (Abstracts (codes "IHn") (equal (Var 0) (Var 0))
    (hole (plain_hyp (codes "IHn") (equal (Var 0) (Var 0)) ∷ plain_hyp N NAT ∷ ONE) (equal (next (Var 1)) (next (Var 1)))))))
    (Ready (Var 1)))) 988
    ∷ pure (Give (Applies (Applies (Applies (Ready (App (Constant 36) (Lam N NAT (equal (Var 0) (Var 0)))))
    (hole ONE (equal O O)))
    (Abstracts N NAT (Abstracts (codes "IHn") (equal (Var 0) (Var 0))
    (hole (plain_hyp (codes "IHn") (equal (Var 0) (Var 0)) ∷ plain_hyp N NAT ∷ ONE) (equal (next (Var 1)) (next (Var 1)))))))
    (Ready (Var 1)))) 988
    ∷ pure (Give (Applies (Applies (Applies (Applies
    (Ready (App (Constant 36) (Lam N NAT (Prod E (equal (Var 0) (Var 5)) (equal (Var 1) (Var 1))))))
    (Abstracts E (equal O (Var 4)) (hole (plain_hyp E (equal O (Var 4)) ∷ MOST) (equal O O))))
    (Abstracts N NAT (Abstracts WILDCARD (Prod E (equal (Var 0) (Var 5)) (equal (Var 1) (Var 1)))
    (Abstracts E (equal (next (Var 1)) (Var 6))
    (hole (plain_hyp E (equal (next (Var 1)) (Var 6)) ∷ hidden (Prod E (equal (Var 0) (Var 5)) (equal (Var 1) (Var 1))) ∷ plain_hyp N NAT ∷ MOST)
    (equal (next (Var 2)) (next (Var 2))))))))
    (Ready (Var 5))) (Ready (Var 0)))) 988
    ∷ pure (Give (Applies (Applies (Applies
    (Ready (App (App (App (Constant 21) NAT) (Var 2)) (Lam WILDCARD NAT (equal (Var 3) (Var 3)))))
    (hole (hidden (equal (Var 1) (Var 0)) ∷ TWO) (equal (Var 2) (Var 2))))
    (Ready (Var 1))) (Ready (Var 0)))) 988
    ∷ pure (Give (Applies (Applies
    (Ready (App (App (App (Constant 11) (Var 2)) (Var 1)) (Var 2)))
    (Abstracts (codes "H") (Var 2) (Abstracts (codes "K") (Var 2)
    (hole (plain_hyp (codes "K") (Var 2) ∷ plain_hyp (codes "H") (Var 2) ∷ hidden (both (Var 1) (Var 0)) ∷ plain_hyp (codes "B") PROP
    ∷ plain_hyp (codes "A") PROP ∷ []) (Var 4)))))
    (Ready (Var 0)))) 999
    ∷ pure (Give (Applies (Ready (App (Constant 2) NAT)) (Ready (Var 0)))) 999
    ∷ []
unfolding repeat whnf_at conv_at blocker_at infer_at row_at declare_at
elimination_done = refl

-- no hypothesis, one with a definition, no inductive type, indices that are no variables, a sort into which nothing is eliminated, a proof
-- that the goal or a hypothesis mentions, too few branches, too many names, and names that are used
elimination_refused : refused (environment_of first_state.answer)
    ≡ refuse 83 1000 ∷ refuse 83 1000 ∷ refuse 84 1000 ∷ refuse 79 1000 ∷ refuse 80 999 ∷ refuse 81 988 ∷ refuse 81 999 ∷ refuse 82 988 ∷ refuse 82 988
    ∷ refuse 71 988 ∷ refuse 71 999 ∷ refuse 71 999 ∷ refuse 15 1000 ∷ []
unfolding repeat whnf_at conv_at blocker_at infer_at row_at declare_at
elimination_refused = refl
