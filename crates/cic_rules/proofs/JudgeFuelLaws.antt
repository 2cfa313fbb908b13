-- The law of fuel for weak head reduction and conversion.
use Rattle.std.specs.Prelude.{if◌then◌else◌}
use Rattle.std.proofs.Common.{ℕ, zero, suc, ◌≤◌, List, ◌∷◌, Bool, true, false, Option, Some, None, arith}
use Rattle.core_term.specs.Tree.{Tree, Var, Sorted, Constant, Prod, Lam, LetIn}
use Rattle.term_spine.specs.Spine.{head_of, arguments_of}
use Rattle.cic_rules.specs.declared.context.Hyp.{Hyp}
use Rattle.cic_rules.specs.declared.env.Slot.{Slot}
use Rattle.cic_rules.specs.declared.judge.Mode.{Mode}
use Rattle.cic_rules.specs.declared.judge.Mode.TheVariants.{Same}
use Rattle.cic_rules.specs.Contexts.{value_of_variable}
use Rattle.cic_rules.specs.Environments.{body_of_global}
use Rattle.cic_rules.specs.Families.{major_premise}
use Rattle.cic_rules.specs.Runs.{Run}
use Rattle.cic_rules.specs.Reduce.{Redex, Stuck, Reduces, OnMajor, unfolded, global_redex, redex_of, contract, contract_iota, reduce_redex, reduce_step, whnf_at}
use Rattle.cic_rules.specs.Convert.{Blocker, Sides, blocker_by, blocker_at, unfold_left, unfold_right, unfold_both, unfold_later, delta_step, unblock, conv_all, conv_spines, conv_heads, conv_binders, conv_eta, conv_reduced, conv_step, compare, conv_at}
use Rattle.cic_rules.specs.Laws.{KeepsLawOfFuel, FuelOfReduction, FuelOfConversion}
use Rattle.cic_rules.proofs.FuelLaws.{IsTurn, law_pure, law_bind, law_step, law_size, law_if, turn_spend, law_loop, fuel_laws, turn_laws}

-- a contraction costs a unit at least
abbrev IsPaid : Redex → Type 0
IsPaid Stuck = Unit {0}
IsPaid (Reduces units to) = 1 ≤ units
IsPaid (OnMajor major) = Unit {0}

unfolded_paid : (body : Option Tree) (args : List Tree) → IsPaid (unfolded body args)
unfolded_paid None args = tt
unfolded_paid (Some body) args = omega arith

global_paid : (body major : Option Tree) (args : List Tree) → IsPaid (global_redex body major args)
global_paid (Some body) major args = omega arith
global_paid None (Some major) args = tt
global_paid None None args = tt

turn_contract : (units : ℕ) (to : Tree) → 1 ≤ units → IsTurn (contract units to)
turn_contract units to paid = search (turn_laws)

turn_iota : (t : Tree) (to : Option Tree) → IsTurn (contract_iota t to)
turn_iota t None = search (turn_laws)
turn_iota t (Some to) = turn_contract 1 to (omega arith)

module _ (env : List Slot) (delta : Bool) where
  redex_paid : (ctx : List Hyp) (h : Tree) (args : List Tree) → IsPaid (redex_of env delta ctx h args)
  redex_paid ctx (Lam n a b) (v ∷ args) = omega arith
  redex_paid ctx (LetIn n a t b) args = omega arith
  redex_paid ctx (Var i) args = unfolded_paid (value_of_variable ctx i) args
  redex_paid ctx (Constant c) args = global_paid (if delta then body_of_global env c else None) (major_premise env (Constant c) args) args
  redex_paid ctx _ args = tt

  -- a turn of reduction takes a unit where it goes on
  pub turn_redex : (reduce : Tree → Run Tree) → ((v : Tree) → KeepsLawOfFuel (reduce v)) → (t : Tree) (redex : Redex) → IsPaid redex →
      IsTurn (reduce_redex env delta reduce t redex)
  turn_redex reduce laws t Stuck paid = search (turn_laws)
  turn_redex reduce laws t (Reduces units to) paid = turn_contract units to paid
  turn_redex reduce laws t (OnMajor major) paid = search (turn_laws, turn_iota)

  pub turn_reduce : (reduce : Tree → Run Tree) → ((v : Tree) → KeepsLawOfFuel (reduce v)) → (ctx : List Hyp) (t : Tree) →
      IsTurn (reduce_step env delta reduce ctx t)
  turn_reduce reduce laws ctx t =
      turn_redex reduce laws t (redex_of env delta ctx (head_of t) (arguments_of t)) (redex_paid ctx (head_of t) (arguments_of t))

  whnf_fuel : (calls : ℕ) (ctx : List Hyp) (t : Tree) → KeepsLawOfFuel (whnf_at env delta calls ctx t)
  unfolding whnf_at
  whnf_fuel zero ctx t = search (fuel_laws)
  whnf_fuel (suc calls) ctx t = law_loop (reduce_step env delta (whnf_at env delta calls ctx) ctx) (turn_reduce (whnf_at env delta calls ctx) (whnf_fuel calls ctx) ctx) t

pub fuel_of_reduction : FuelOfReduction
fuel_of_reduction env delta calls ctx t = whnf_fuel env delta calls ctx t

module _ (env : List Slot) (head : Tree → Run Tree) (heads : (t : Tree) → KeepsLawOfFuel (head t)) where
  law_blocker : (inner : Tree → Run (Option Blocker)) → ((t : Tree) → KeepsLawOfFuel (inner t)) → (t h : Tree) (body major : Option Tree) →
      KeepsLawOfFuel (blocker_by env head inner t h body major)
  law_blocker inner laws t (Constant c) (Some body) major = search (fuel_laws)
  law_blocker inner laws t h None (Some major) = search (fuel_laws)
  law_blocker inner laws t h _ _ = search (fuel_laws)

  pub blocker_fuel : (majors : ℕ) (t : Tree) → KeepsLawOfFuel (blocker_at env head majors t)
  unfolding blocker_at
  blocker_fuel zero t = search (fuel_laws)
  blocker_fuel (suc majors) t = law_blocker (blocker_at env head majors) (blocker_fuel majors) t (head_of t) _ (major_premise env (head_of t) (arguments_of t))

turn_left : (b : Blocker) (u : Tree) → IsTurn (unfold_left b u)
turn_left b u = search (turn_laws)

law_right : (t : Tree) (c : Blocker) → KeepsLawOfFuel (unfold_right t c)
law_right t c = search (fuel_laws)

turn_right : (t : Tree) (c : Blocker) → IsTurn (unfold_right t c)
turn_right t c = search (turn_laws)

turn_both : (b c : Blocker) → IsTurn (unfold_both b c)
turn_both b c = turn_spend 1 (omega arith) (law_step (law_size b.replaced) (law_right b.replaced c))

turn_later : (t u : Tree) (b c : Blocker) → IsTurn (unfold_later t u b c)
turn_later t u b c = search (turn_laws, turn_left, turn_right)

turn_delta : (t u : Tree) (b c : Option Blocker) → IsTurn (delta_step t u b c)
turn_delta t u None None = search (turn_laws)
turn_delta t u (Some b) None = turn_left b u
turn_delta t u None (Some c) = turn_right t c
turn_delta t u (Some b) (Some c) = search (turn_laws, turn_both, turn_later)

module _ (env : List Slot) (calls : ℕ) (head : List Hyp → Tree → Run Tree) (conv : List Hyp → Mode → Tree → Tree → Run Bool)
    (heads : (ctx : List Hyp) (t : Tree) → KeepsLawOfFuel (head ctx t))
    (convs : (ctx : List Hyp) (mode : Mode) (t u : Tree) → KeepsLawOfFuel (conv ctx mode t u)) where
  law_stuck : (ctx : List Hyp) (t : Tree) → KeepsLawOfFuel (blocker_at env (head ctx) calls t)
  law_stuck ctx t = blocker_fuel env (head ctx) (heads ctx) calls t

  pub turn_unblock : (ctx : List Hyp) (t u : Tree) → IsTurn (unblock env calls head conv ctx t u)
  turn_unblock ctx t u = search (turn_laws, law_stuck, turn_delta)

  law_all : (ctx : List Hyp) (ts us : List Tree) → KeepsLawOfFuel (conv_all env calls head conv ctx ts us)
  law_all ctx (t ∷ ts) (u ∷ us) = law_bind (convs ctx Same t u) (λ same. law_if same (law_all ctx ts us) (law_pure false))
  law_all ctx _ _ = search (fuel_laws)

  turn_spines : (ctx : List Hyp) (t u : Tree) → IsTurn (conv_spines env calls head conv ctx t u)
  turn_spines ctx t u = search (turn_laws, law_all, turn_unblock) depth 12

  turn_heads : (ctx : List Hyp) (t u g h : Tree) → IsTurn (conv_heads env calls head conv ctx t u g h)
  turn_heads ctx t u (Var i) (Var j) = search (turn_laws, turn_spines, turn_unblock)
  turn_heads ctx t u (Constant c) (Constant d) = search (turn_laws, turn_spines, turn_unblock)
  turn_heads ctx t u _ _ = turn_unblock ctx t u

  turn_binders : (ctx : List Hyp) (mode : Mode) (n : List ℕ) (a b c d : Tree) → IsTurn (conv_binders env calls head conv ctx mode n a b c d)
  turn_binders ctx mode n a b c d = search (turn_laws) depth 12

  turn_eta : (ctx : List Hyp) (n : List ℕ) (a applied t u : Tree) → IsTurn (conv_eta env calls head conv ctx n a applied t u)
  turn_eta ctx n a applied t u = search (turn_laws) depth 12

  turn_reduced : (ctx : List Hyp) (mode : Mode) (t u : Tree) → IsTurn (conv_reduced env calls head conv ctx mode t u)
  turn_reduced ctx mode (Sorted s) (Sorted r) = search (turn_laws)
  turn_reduced ctx mode (Prod n a b) (Prod m c d) = turn_binders ctx mode n a b c d
  turn_reduced ctx mode (Lam n a b) (Lam m c d) = turn_binders ctx Same n a b c d
  turn_reduced ctx mode (Lam n a b) u = search (turn_laws, turn_eta, turn_unblock)
  turn_reduced ctx mode t (Lam m c d) = search (turn_laws, turn_eta, turn_unblock)
  turn_reduced ctx mode t u = turn_heads ctx t u (head_of t) (head_of u)

  pub turn_convert : (ctx : List Hyp) (mode : Mode) (sides : Sides) → IsTurn (conv_step env calls head conv ctx mode sides)
  turn_convert ctx mode sides = search (turn_laws, turn_reduced)

  law_compare : (ctx : List Hyp) (mode : Mode) (t u : Tree) → KeepsLawOfFuel (compare env calls head conv ctx mode t u)
  law_compare ctx mode t u = law_if _ (law_pure true) (law_loop (conv_step env calls head conv ctx mode) (turn_convert ctx mode) (t, u))

pub fuel_of_conversion : FuelOfConversion
unfolding conv_at
fuel_of_conversion env zero ctx mode t u = search (fuel_laws)
fuel_of_conversion env (suc calls) ctx mode t u = search (fuel_laws, law_compare, whnf_fuel, fuel_of_conversion env calls) depth 12
