-- Rows that calls of their own answer, on some fuel: with its units, and with so many more judgements in one another.
use Rattle.std.specs.Prelude.{ℕ, List}
use Rattle.coq_syntax.specs.MoveTrees.{Move}
use Rattle.core_term.specs.Tree.{Tree}
use Rattle.cic_rules.specs.declared.env.Slot.{Slot}
use Rattle.cic_rules.specs.Fuel.{FuelState, left, calls_left}
use Rattle.cic_rules.specs.Runs.{Ran, Run, ◌>>=◌, ◌>>◌, pure, spend}
use Rattle.proof_state.specs.declared.goals.Goal.{Goal}
use Rattle.proof_state.specs.declared.state.Filling.{Filling}
use Rattle.move_compute.specs.declared.simplification.Parts.{Parts}
use Rattle.move_compute.specs.Moves.{by_simpl, run_compute}
use Rattle.move_compute.specs.Simpl.{by_parts, simpl_at, simpl_head_at}

abbrev pub simpl_with : List Slot → Tree → FuelState → Ran Tree
simpl_with env t f = simpl_at env (calls_left f) t (left f)

abbrev pub simpl_head_with : List Slot → Tree → FuelState → Ran Tree
simpl_head_with env t f = simpl_head_at env (calls_left f) t (left f)

-- the unit, the head and the parts of a call that was begun, and the parts alone
abbrev pub charged_with : List Slot → Tree → FuelState → Ran Tree
charged_with env t f = (spend 1 >> (simpl_head_at env (calls_left f) t >>= by_parts (simpl_at env (calls_left f)))) (left f)

abbrev pub parts_with : List Slot → Tree → FuelState → Ran Tree
parts_with env t f = by_parts (simpl_at env (calls_left f)) t (left f)

-- two parts in turn
abbrev pub two_parts_at : List Slot → ℕ → Tree → Tree → Run Parts
two_parts_at env calls a b = simpl_at env calls a >>= λ x. simpl_at env calls b >>= λ y. pure (record { first = x; last = y })

abbrev pub two_parts_with : List Slot → Tree → Tree → FuelState → Ran Parts
two_parts_with env a b f = two_parts_at env (calls_left f) a b (left f)

abbrev pub by_simpl_with : List Slot → Goal → FuelState → Ran Filling
by_simpl_with env g f = by_simpl env (calls_left f) g (left f)

abbrev pub compute_with : List Slot → Goal → Move → FuelState → Ran Filling
compute_with env g m f = run_compute env (calls_left f) g m (left f)
