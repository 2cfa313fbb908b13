-- What calls that take a turn of `simpl` answer.
use Rattle.std.specs.Prelude.{◌≡◌, ℕ, ◌+◌, List, [], take, drop, true, false, ◌&&◌, Result, Ok, Err}
use Rattle.base_core.specs.declared.refusals.Stop.{Stop}
use Rattle.core_term.specs.declared.stops.TermStop.{TermStop}
use Rattle.core_term.specs.declared.stops.TermStop.TheVariants.{TooLarge, NoMem}
use Rattle.core_term.specs.Tree.{Tree, Constant, is_small}
use Rattle.term_spine.specs.Spine.{arguments_of, apply_all}
use Rattle.term_spine.specs.Spines.{tree_of_spine, IsSpineOf}
use Rattle.term_spine.specs.declared.spines.Spine.{Spine}
use Rattle.cic_rules.specs.Families.{newest_first, iota}
use Rattle.cic_rules.specs.Fuel.{FuelState, left, calls_left}
use Rattle.cic_rules.specs.Reduce.{redex_of, reduce_redex, contract_iota}
use Rattle.cic_rules.specs.Runs.{Run, ◌>>=◌, Turn, runs}
use Rattle.cic_rules.specs.declared.env.Slot.{Slot}
use Rattle.cic_rules.specs.declared.shapes.FamilyShape.{FamilyShape}
use Rattle.conversion.specs.Turns.{GoesOn, iota_turn}
use Rattle.move_compute.specs.Firing.{fired, chosen}
use Rattle.move_compute.specs.Refold.{refold_of, awaited, own_eliminator, refolded}
use Rattle.move_compute.specs.Simpl.{paid_refold, contract_refold, refold_step, head_step_by, head_step, simpl_head_at}
use Rattle.move_compute.specs.declared.cases.Call.{Call}
use Rattle.move_compute.specs.declared.firing.Chosen.{Chosen}
use Rattle.move_compute.specs.declared.refolds.Refold.{Refold}

-- an eliminator with its parameters, motive and cases, as a call
abbrev pub eliminator_call : FamilyShape → Tree → List Tree → Call
eliminator_call shape head args = record { front = apply_all head (take shape.fixed args); behind = [] }

-- what an eliminator becomes by the case that was chosen
abbrev pub iota_fired : FamilyShape → Tree → List Tree → Chosen → Tree
iota_fired shape head args c = fired (eliminator_call shape head args) c c.case args (drop (shape.major + 1) args)

-- a definition's arguments as values for the variables of its body
abbrev pub AreOwnValues : List Tree → Refold → List Tree → Type 0
AreOwnValues values r args = values ≡ newest_first (take r.count args) []

-- a call gives the spine of a term that is built by way of another, where no limit forbids either
abbrev pub GivesRefolded : Result Spine TermStop → Tree → Tree → Type 0
GivesRefolded (Ok s) inner to = (is_small inner ≡ true) × IsSpineOf s to
GivesRefolded (Err TooLarge) inner to = (is_small inner && is_small to) ≡ false
GivesRefolded (Err NoMem) inner to = Unit {0}

-- a call gives what a definition that goes on becomes, by way of the eliminator of its body
abbrev pub Refolds : Result Spine TermStop → Refold → Tree → List Tree → Chosen → Type 0
Refolds result r head args c = GivesRefolded result (own_eliminator r head args) (refolded r head args c)

-- a call contracts a definition that goes on
abbrev pub PaysRefold : Result Spine Stop → FuelState → FuelState → Refold → Tree → List Tree → Chosen → Type 0
PaysRefold result old new r head args c = GoesOn result (left new) (paid_refold (own_eliminator r head args) (refolded r head args c) (left old))

module _ (env : List Slot) (calls : ℕ) where
  -- a turn of a head with its arguments
  abbrev pub spine_step : Tree → List Tree → Run (Turn Tree Tree)
  spine_step head args = head_step_by env (simpl_head_at env calls) (apply_all head args) head args (refold_of env head)

  -- of one that does not go on by an argument
  abbrev pub plain_step : Tree → List Tree → Run (Turn Tree Tree)
  plain_step head args = reduce_redex env false (simpl_head_at env calls) (apply_all head args) (redex_of env false [] head args)

  -- of an eliminator with its arguments, by its major premise
  abbrev pub major_step : Tree → List Tree → Tree → Run (Turn Tree Tree)
  major_step head args major = simpl_head_at env calls major >>= λ value. contract_iota (apply_all head args) (iota env head args value)

  -- turns from a term on, until one is final
  abbrev pub loop_from : Tree → Run Tree
  loop_from t = runs (head_step env (simpl_head_at env calls)) t

-- a turn of a definition that goes on, by its argument's value
abbrev pub refold_turn : List Slot → Refold → Tree → Spine → Run (Turn Tree Tree)
refold_turn env r value s = contract_refold (tree_of_spine s) s.head s.args r (chosen env r.family (arguments_of r.eliminator) value)

module _ (env : List Slot) (f : FuelState) where
  -- on some fuel: turns from a term on
  abbrev pub head_loop_of : Tree → Run Tree
  head_loop_of t = loop_from env (calls_left f) t

  -- the turn of a spine, of one whose head is the global at a place, and of one that does not go on by an argument
  abbrev pub head_turn : Spine → Run (Turn Tree Tree)
  head_turn s = spine_step env (calls_left f) s.head s.args

  abbrev pub global_turn : ℕ → Spine → Run (Turn Tree Tree)
  global_turn place s = spine_step env (calls_left f) (Constant place) s.args

  abbrev pub plain_turn : ℕ → Spine → Run (Turn Tree Tree)
  plain_turn place s = plain_step env (calls_left f) (Constant place) s.args

  -- of an eliminator by its major premise
  abbrev pub by_major : Tree → Spine → Run (Turn Tree Tree)
  by_major major s = simpl_head_at env (calls_left f) major >>= λ value. iota_turn env value s

  -- of a definition that goes on, and by the argument by which it does
  abbrev pub by_refold : Refold → Spine → Run (Turn Tree Tree)
  by_refold r s = refold_step env (simpl_head_at env (calls_left f)) (tree_of_spine s) s.head s.args r (awaited r s.args)

  abbrev pub by_awaited : Refold → Tree → Spine → Run (Turn Tree Tree)
  by_awaited r v s = simpl_head_at env (calls_left f) v >>= λ value. refold_turn env r value s
