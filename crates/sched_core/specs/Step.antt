-- What a step of a session gives.
use Rattle.std.specs.Prelude.{◌≡◌, ℕ, ◌+◌, Option, None, Some, Result, Ok, Err, List, [], ◌++◌}
use Rattle.base_core.specs.declared.memory.NoMem.{NoMem}
use Rattle.sched_core.specs.declared.events.Exit.{Exit}
use Rattle.sched_core.specs.declared.events.Written.{Written}

-- the state behind it, the bodies it gives, the exit, where it is the last, and its work in units
pub record Step (S : Type 0) : Type 0 where
  pub state : S
  pub bodies : List (List ℕ)
  pub exit : Option Exit
  pub work : ℕ

-- nothing is said
abbrev pub stays : {S : Type 0} → S → Step S
stays state = record { state = state; bodies = []; exit = None; work = 0 }

-- these bodies are due
abbrev pub says : {S : Type 0} → List (List ℕ) → S → Step S
says bodies state = record { state = state; bodies = bodies; exit = None; work = 0 }

-- so much work is done
abbrev pub works : {S : Type 0} → ℕ → S → Step S
works work state = record { state = state; bodies = []; exit = None; work = work }

-- the session ends
abbrev pub leaves : {S : Type 0} → Exit → S → Step S
leaves exit state = record { state = state; bodies = []; exit = Some exit; work = 0 }

-- one step, and then another from the state behind it
abbrev pub joined : {S : Type 0} → Step S → Step S → Step S
joined first second = record { state = second.state; bodies = first.bodies ++ second.bodies; exit = second.exit; work = first.work + second.work }

-- unless the first ends the session
abbrev pub unless_exit : {S : Type 0} → Option Exit → Step S → Step S → Step S
unless_exit None first second = joined first second
unless_exit (Some exit) first second = first

abbrev pub and_then : {S : Type 0} → Step S → (S → Step S) → Step S
and_then first next = unless_exit first.exit first (next first.state)

-- a call makes this step, in which the session goes on, and adds its bodies to those that are due, unless memory runs out
abbrev pub Adds : {S E : Type 0} → Step S → List (List ℕ) → Result (Unit {0}) E → List (List ℕ) → S → Type 0
Adds step before (Ok done) now state = (now ≡ before ++ step.bodies) × (state ≡ step.state)
Adds step before (Err none) now state = Unit {0}

-- a call makes this step, unless memory runs out
abbrev pub Makes : {S : Type 0} → Step S → Result Written NoMem → S → Type 0
Makes step (Ok written) state = (written.bodies ≡ step.bodies) × (written.exit ≡ step.exit) × (state ≡ step.state)
Makes step (Err none) state = Unit {0}
