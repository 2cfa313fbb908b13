-- Worked terms in the first state with some more definitions, proved by computation: each from 1000 units.
use Rattle.std.specs.Prelude.{◌≡◌, ℕ, List, [], ◌∷◌, false, None, Result, Ok, Err, refl, codes}
use Rattle.base_core.specs.declared.refusals.Stop.{Stop}
use Rattle.core_term.specs.Tree.{Tree, Var, Constant, Prod, Lam, App}
use Rattle.term_spine.specs.Spine.{apply_all}
use Rattle.cic_rules.specs.declared.decls.Decl.{Decl}
use Rattle.cic_rules.specs.declared.decls.Decl.TheVariants.{Define}
use Rattle.cic_rules.specs.declared.env.Slot.{Slot}
use Rattle.cic_rules.specs.Convert.{conv_at, blocker_at}
use Rattle.cic_rules.specs.Declare.{declare_at}
use Rattle.cic_rules.specs.Infer.{infer_at}
use Rattle.cic_rules.specs.Inductive.{row_at}
use Rattle.cic_rules.specs.Reduce.{whnf_at}
use Rattle.cic_rules.specs.Runs.{Ran, Run, ◌>>=◌, pure, refuse, repeat}
use Rattle.cic_rules.specs.Steps.{take_step}
use Rattle.cic_rules.proofs.FirstState.{first_state}
use Rattle.move_compute.specs.Simpl.{simpl_head_at, simpl_at}
use Rattle.move_compute.specs.Unfold.{unfold_in}

abbrev environment_of : Result (List Slot) Stop → List Slot
environment_of (Ok env) = env
environment_of (Err stop) = []

abbrev ANY : List ℕ
ANY = codes "_"

abbrev N : List ℕ
N = codes "n"

abbrev NAT : Tree
NAT = Constant 33

abbrev O : Tree
O = Constant 34

abbrev suc_of : Tree → Tree
suc_of t = App (Constant 35) t

abbrev call : ℕ → Tree → Tree → Tree
call c a b = App (App (Constant c) a) b

abbrev call_plus : Tree → Tree → Tree
call_plus = call 39

abbrev equal : Tree → Tree → Tree
equal a b = App (App (App (Constant 19) NAT) a) b

abbrev forall_n : Tree → Tree
forall_n t = Prod N NAT t

abbrev ONE : Tree
ONE = suc_of O

abbrev TWO : Tree
TWO = suc_of ONE

abbrev THREE : Tree
THREE = suc_of TWO

abbrev SIX : Tree
SIX = suc_of (suc_of (suc_of THREE))

abbrev IS_NAT : Tree
IS_NAT = Lam ANY NAT NAT

abbrev IS_FUNCTION : Tree
IS_FUNCTION = Lam ANY NAT (Prod ANY NAT NAT)

-- fun _ r => S r
abbrev COUNTED : Tree
COUNTED = Lam ANY NAT (Lam (codes "r") NAT (suc_of (Var 0)))

-- fun x => x, and fun _ r x => r (S x)
abbrev SAME : Tree
SAME = Lam (codes "x") NAT (Var 0)

abbrev MOVED : Tree
MOVED = Lam ANY NAT (Lam (codes "r") (Prod ANY NAT NAT) (Lam (codes "x") NAT (App (Var 1) (suc_of (Var 0)))))

abbrev by_rec : Tree → Tree → Tree → Tree → Tree
by_rec motive first next value = apply_all (Constant 37) (motive ∷ first ∷ next ∷ value ∷ [])

abbrev define : List ℕ → Tree → Decl
define name body = Define name None body false

abbrev one : Tree → Tree
one body = Lam N NAT body

abbrev two : Tree → Tree
two body = Lam N NAT (Lam (codes "m") NAT body)

-- pred 40, mult 41, and at 42 one by its second argument; 43 has its argument twice, 44 an argument behind the eliminator's; 45 gives a
-- function, 46 negates, and 47 is no function
abbrev DEFINITIONS : List Decl
DEFINITIONS =
    define (codes "pred") (one (by_rec IS_NAT O (Lam (codes "p") NAT (Lam ANY NAT (Var 1))) (Var 0)))
    ∷ define (codes "mult") (two (by_rec IS_NAT O (Lam ANY NAT (Lam (codes "r") NAT (call_plus (Var 2) (Var 0)))) (Var 1)))
    ∷ define (codes "rev") (two (by_rec IS_NAT (Var 1) COUNTED (Var 0)))
    ∷ define (codes "twice") (one (by_rec IS_NAT (Var 0) COUNTED (Var 0)))
    ∷ define (codes "over") (two (App (by_rec IS_FUNCTION SAME MOVED (Var 1)) (Var 0)))
    ∷ define (codes "acc") (one (by_rec IS_FUNCTION SAME MOVED (Var 0)))
    ∷ define (codes "neg") (Lam (codes "b") (Constant 27) (apply_all (Constant 31) (Lam ANY (Constant 27) (Constant 27) ∷ Constant 29 ∷ Constant 28 ∷ Var 0 ∷ [])))
    ∷ define (codes "k") (call_plus ONE ONE)
    ∷ []

abbrev declare_all : List Decl → List Slot → Run (List Slot)
declare_all [] env = pure env
declare_all (d ∷ ds) env = declare_at env 2000 d >>= declare_all ds

abbrev larger_state : List Slot → List Slot
larger_state env = environment_of (declare_all DEFINITIONS env 1000000).answer

module _ (env : List Slot) where
  abbrev simplified : List Tree → List (Ran Tree)
  simplified [] = []
  simplified (t ∷ ts) = simpl_at env 2000 t 1000 ∷ simplified ts

abbrev SUMS : List Tree
SUMS =
    equal (call_plus (suc_of (Var 0)) O) (suc_of (Var 0))
    ∷ equal (call_plus (suc_of (Var 0)) (suc_of (Var 1))) (suc_of (call_plus (suc_of (Var 0)) (Var 1)))
    ∷ equal (call_plus O (Var 0)) (call_plus (Var 0) O)
    ∷ forall_n (equal (App (App (Lam (codes "x") NAT (App (Constant 39) (suc_of (Var 0)))) (Var 0)) (Var 0)) ONE)
    ∷ []

-- by a recursive argument, also under a function; an argument that is a variable
sums_done : simplified (environment_of first_state.answer) SUMS
    ≡ pure (equal (suc_of (call_plus (Var 0) O)) (suc_of (Var 0))) 973
    ∷ pure (equal (suc_of (call_plus (Var 0) (suc_of (Var 1)))) (suc_of (suc_of (call_plus (Var 0) (Var 1))))) 953
    ∷ pure (equal (Var 0) (call_plus (Var 0) O)) 987
    ∷ pure (forall_n (equal (suc_of (call_plus (Var 0) (Var 0))) ONE)) 965
    ∷ []
unfolding repeat whnf_at conv_at blocker_at infer_at row_at declare_at simpl_head_at simpl_at
sums_done = refl

abbrev CALLS : List Tree
CALLS =
    forall_n (equal (App (Constant 40) (suc_of (Var 0))) (Var 0))
    ∷ forall_n (equal (call 41 (suc_of (Var 0)) TWO) (call_plus TWO (call 41 (Var 0) TWO)))
    ∷ forall_n (equal (call 42 ONE (suc_of (Var 0))) ONE)
    ∷ forall_n (equal (App (Constant 43) (suc_of (Var 0))) ONE)
    ∷ forall_n (equal (call 44 (suc_of (Var 0)) ONE) ONE)
    ∷ forall_n (equal (call 45 (suc_of (Var 0)) ONE) ONE)
    ∷ App (App (App (Constant 19) (Constant 27)) (App (Constant 46) (App (Constant 46) (Constant 28)))) (Constant 28)
    ∷ forall_n (equal (call_plus (App (Constant 40) (suc_of (Var 0))) (call 41 TWO THREE)) O)
    ∷ forall_n (equal (call 41 (App (Constant 40) THREE) (Var 0)) ONE)
    ∷ equal (call_plus (Constant 47) ONE) THREE
    ∷ []

-- the definitions: those that go on keep their names, the others stay as they are
calls_done : simplified (larger_state (environment_of first_state.answer)) CALLS
    ≡ pure (forall_n (equal (Var 0) (Var 0))) 983
    ∷ pure (forall_n (equal (suc_of (suc_of (call 41 (Var 0) TWO))) (suc_of (suc_of (call 41 (Var 0) TWO))))) 891
    ∷ pure (forall_n (equal (suc_of (call 42 ONE (Var 0))) ONE)) 969
    ∷ pure (forall_n (equal (App (Constant 43) (suc_of (Var 0))) ONE)) 985
    ∷ pure (forall_n (equal (call 44 (suc_of (Var 0)) ONE) ONE)) 981
    ∷ pure (forall_n (equal (call 45 (Var 0) TWO) ONE)) 951
    ∷ pure (App (App (App (Constant 19) (Constant 27)) (Constant 28)) (Constant 28)) 989
    ∷ pure (forall_n (equal (call_plus (Var 0) SIX) O)) 825
    ∷ pure (forall_n (equal (call_plus (Var 0) (call_plus (Var 0) O)) ONE)) 935
    ∷ pure (equal (call_plus (Constant 47) ONE) THREE) 981
    ∷ []
unfolding repeat whnf_at conv_at blocker_at infer_at row_at declare_at simpl_head_at simpl_at
calls_done = refl

module _ (env : List Slot) where
  abbrev unfolded_once : List ℕ → Tree → Ran Tree
  unfolded_once name t = take_step (unfold_in env name t) 1000

  abbrev unfoldings : List (Ran Tree)
  unfoldings =
      unfolded_once (codes "k") (equal (Constant 47) THREE)
      ∷ unfolded_once (codes "pred") (forall_n (equal (App (Constant 40) (Var 0)) (App (Constant 40) TWO)))
      ∷ unfolded_once (codes "rev") (equal (App (Constant 42) (call 42 ONE O)) O)
      ∷ unfolded_once (codes "acc") (equal (call 45 O TWO) O)
      ∷ unfolded_once (codes "pred") (equal O O)
      ∷ unfolded_once (codes "nat") NAT
      ∷ unfolded_once (codes "nothing") NAT
      ∷ []

-- a definition without arguments; with one, everywhere; with fewer and within another; with more, where no abstraction is left; one that
-- isn't in the goal; a name that is no definition, and one that is no name
unfoldings_done : unfoldings (larger_state (environment_of first_state.answer))
    ≡ pure (equal (call_plus ONE ONE) THREE) 1000
    ∷ pure (forall_n (equal (by_rec IS_NAT O (Lam (codes "p") NAT (Lam ANY NAT (Var 1))) (Var 0))
    (by_rec IS_NAT O (Lam (codes "p") NAT (Lam ANY NAT (Var 1))) TWO))) 1000
    ∷ pure (equal (Lam (codes "m") NAT (by_rec IS_NAT (by_rec IS_NAT ONE COUNTED O) COUNTED (Var 0))) O) 1000
    ∷ pure (equal (App (by_rec IS_FUNCTION SAME MOVED O) TWO) O) 1000
    ∷ refuse 89 1000
    ∷ refuse 88 1000
    ∷ refuse 88 1000
    ∷ []
unfolding repeat whnf_at conv_at blocker_at infer_at row_at declare_at
unfoldings_done = refl
