-- A run and what follows it, by what a call of the run answered.
use Rattle.std.specs.Prelude.{◌≡◌, ℕ, ◌-◌, nat_lt, List, Bool, Result, Ok, Err, refl}
use Rattle.std.proofs.Common.{subst, sym, ap}
use Rattle.base_core.specs.declared.refusals.Stop.{Stop}
use Rattle.base_core.specs.declared.refusals.Stop.TheVariants.{Refused, Out, NoMem}
use Rattle.core_term.specs.Places.{occurrences}
use Rattle.core_term.specs.Tree.{Tree, Prod}
use Rattle.cic_rules.specs.declared.context.Hyp.{Hyp}
use Rattle.cic_rules.specs.declared.env.Slot.{Slot}
use Rattle.cic_rules.specs.Fuel.{FuelState, left, calls_left, IsSpentOf}
use Rattle.cic_rules.specs.Judges.{Meets}
use Rattle.cic_rules.specs.Runs.{Run, ◌>>=◌, and_then}
use Rattle.matching.specs.Patterns.{Values}
use Rattle.move_basic.specs.Apply.{argument}
use Rattle.move_basic.specs.Calls.{argument_with}
use Rattle.proof_state.specs.declared.goals.Goal.{Goal}
use Rattle.proof_state.specs.Partial.{Partial, Applies}
use Rattle.move_rewrite.specs.Arguments.{with_arguments}
use Rattle.move_rewrite.specs.Calls.{arguments_with}

pub after_value : {A B : Type 0} (run : Run A) (rest : A → Run B) (n l : ℕ) (x : A) (result : Result B Stop) (units : ℕ) → Ok x ≡ (run n).answer →
    l ≡ (run n).left → Meets result units (rest x l) → Meets result units ((run >>= rest) n)
after_value {A} {B} run rest n l x result units answered stays met =
    subst (λ (a : Result A Stop). Meets result units (and_then a rest (run n).left)) answered
    (subst (λ k. Meets result units (rest x k)) stays met)

pub after_stop : {A B : Type 0} (run : Run A) (rest : A → Run B) (n units : ℕ) (stop : Stop) → Meets {A = A} (Err stop) units (run n) →
    Meets {A = B} (Err stop) units ((run >>= rest) n)
after_stop {A} {B} run rest n units (Refused r) met =
    subst (λ (a : Result A Stop). Meets {A = B} (Err (Refused r)) units (and_then a rest (run n).left)) met.0 (refl, met.1)
after_stop {A} {B} run rest n units (Out l) met =
    subst (λ (a : Result A Stop). Meets {A = B} (Err (Out l)) units (and_then a rest (run n).left)) met.0 (refl, met.1)
after_stop {A} {B} run rest n units NoMem met = tt

-- a product's argument, and then those behind it
pub argument_made : (env : List Slot) (ctx : List Hyp) (values : Values) (count : ℕ) (t : Tree) (n : List ℕ) (a b : Tree) (function x : Partial Goal)
    (used : Bool) (f g : FuelState) (result : Result (Partial Goal) Stop) (units : ℕ) → t ≡ Prod n a b → used ≡ nat_lt 0 (occurrences b 0) →
    Meets (Ok x) (left g) (argument_with env ctx values count a used f) → IsSpentOf f g →
    Meets result units (arguments_with env ctx values (count - 1) b (Applies function x) g) → Meets result units (arguments_with env ctx values count t function f)
argument_made env ctx values count t n a b function x used f g result units is same_use first kept met =
    let same : calls_left g ≡ calls_left f = ap (λ nesting. 2000 - nesting) kept.nesting in
    let rest : Partial Goal → Run (Partial Goal) = (λ y. with_arguments env (calls_left f) ctx values (count - 1) b (Applies function y)) in
    let later : Meets result units (rest x (left g)) =
    subst (λ calls. Meets result units (with_arguments env calls ctx values (count - 1) b (Applies function x) (left g))) same met in
    let begun : Meets (Ok x) (left g) (argument_with env ctx values count a (nat_lt 0 (occurrences b 0)) f) =
    subst (λ u. Meets (Ok x) (left g) (argument_with env ctx values count a u f)) same_use first in
    subst (λ (u : Tree). Meets result units (arguments_with env ctx values count u function f)) (sym is)
    (after_value (argument env (calls_left f) ctx values count a (nat_lt 0 (occurrences b 0))) rest (left f) (left g) x result units begun.0 begun.1 later)

pub argument_stopped : (env : List Slot) (ctx : List Hyp) (values : Values) (count : ℕ) (t : Tree) (n : List ℕ) (a b : Tree) (function : Partial Goal)
    (used : Bool) (f : FuelState) (stop : Stop) (units : ℕ) → t ≡ Prod n a b → used ≡ nat_lt 0 (occurrences b 0) →
    Meets {A = Partial Goal} (Err stop) units (argument_with env ctx values count a used f) →
    Meets {A = Partial Goal} (Err stop) units (arguments_with env ctx values count t function f)
argument_stopped env ctx values count t n a b function used f stop units is same_use first =
    let rest : Partial Goal → Run (Partial Goal) = (λ y. with_arguments env (calls_left f) ctx values (count - 1) b (Applies function y)) in
    let begun : Meets {A = Partial Goal} (Err stop) units (argument_with env ctx values count a (nat_lt 0 (occurrences b 0)) f) =
    subst (λ u. Meets {A = Partial Goal} (Err stop) units (argument_with env ctx values count a u f)) same_use first in
    subst (λ (u : Tree). Meets {A = Partial Goal} (Err stop) units (arguments_with env ctx values count u function f)) (sym is)
    (after_stop (argument env (calls_left f) ctx values count a (nat_lt 0 (occurrences b 0))) rest (left f) units stop begun)
