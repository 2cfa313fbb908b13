-- The name of a new hypothesis.
use Rattle.std.specs.Prelude.{ℕ, List, Option, Some, None, Ok, if◌then◌else◌}
use Rattle.base_core.specs.declared.refusals.Place.TheVariants.{Whole}
use Rattle.base_core.specs.declared.refusal_codes.TheConstants.{NAME_USED}
use Rattle.coq_syntax.specs.declared.words.Word.{Word}
use Rattle.core_term.specs.Tree.{Tree}
use Rattle.cic_rules.specs.declared.env.Slot.{Slot}
use Rattle.cic_rules.specs.Eliminators.{has_name, automatic}
use Rattle.cic_rules.specs.Steps.{Step, refuse_step}

-- a name that is told, which no hypothesis may have
abbrev pub given_name : List (List ℕ) → Word → Step (List ℕ)
given_name names w = if has_name names w.text then refuse_step NAME_USED Whole else Ok w.text

-- what a binder of this name and type is called as a hypothesis: as it is told, or its automatic name
abbrev pub new_name : List Slot → List (List ℕ) → Option Word → List ℕ → Tree → Step (List ℕ)
new_name env names None n a = Ok (automatic env names n a)
new_name env names (Some w) n a = given_name names w
