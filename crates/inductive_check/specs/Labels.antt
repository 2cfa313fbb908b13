-- The environment with the type that is being entered.
use Rattle.std.specs.Prelude.{List, [], ◌∷◌, ◌++◌}
use Rattle.cic_rules.specs.declared.env.Slot.{Slot}
use Rattle.cic_rules.specs.declared.families.CheckedInductive.{CheckedInductive}
use Rattle.cic_rules.specs.Eliminators.{type_slot}

-- the environment with the type
abbrev pub with_type : List Slot → CheckedInductive → List Slot
with_type env i = env ++ (type_slot i.decl i.used ∷ [])
