-- What a case gives for a constructor, where what stands for the recursive results is told: an eliminator, or the definition that goes on.
use Rattle.std.specs.Prelude.{ℕ, ◌≤◌, List, ◌∷◌, Bool, true, false}
use Rattle.core_term.specs.Tree.{Tree, Prod, Lam, App, free_bound}
use Rattle.term_spine.specs.Instantiate.{instantiate, instantiate_all, values_under}
use Rattle.term_spine.specs.Spine.{apply_all, shift, shift_all, eta_body}
use Rattle.term_spine.specs.SpineLaws.{AreOver}
use Rattle.cic_rules.specs.Families.{indices}
use Rattle.move_compute.specs.declared.cases.Call.{Call}

-- a call one binder deeper
abbrev pub call_under : Call → Call
call_under call = record { front = shift call.front; behind = shift_all call.behind }

module _ (params : ℕ) where
  -- a call on a recursive argument whose declared type is given: what stands in front, the indices of the type, the argument, and what
  -- stands behind
  abbrev pub called : Call → Tree → List Tree → Tree → Tree
  called call x values t = apply_all (App (apply_all call.front (instantiate_all values (indices params t))) x) call.behind

  -- the same under the argument's own products
  abbrev pub call_on : Call → Tree → List Tree → Tree → Tree
  call_on call x values (Prod n a b) = Lam n (instantiate values a) (call_on (call_under call) (eta_body x) (values_under values) b)
  call_on call x values t = called call x values t

  -- a case applied to an argument of this declared type, and where that is recursive to the call on it
  abbrev pub argument_on : Bool → Call → Tree → Tree → List Tree → Tree → Tree
  argument_on false call case v values a = App case v
  argument_on true call case v values a = App (App case v) (call_on call v values a)

  -- a case applied to all arguments of its constructor, whose declared type is given with marks at the recursive ones; values stand for the
  -- parameters and the arguments so far
  abbrev pub case_on : List Bool → Call → Tree → List Tree → Tree → List Tree → Tree
  case_on (mark ∷ marks) call case values (Prod n a b) (v ∷ vs) = case_on marks call (argument_on mark call case v values a) (v ∷ values) b vs
  case_on marks call case values t vs = case

-- a call speaks of so many variables
pub record IsCallOver (vars : ℕ) (call : Call) : Type 0 where
  pub front : free_bound call.front ≤ vars
  pub behind : AreOver vars call.behind
