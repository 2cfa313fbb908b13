-- Inductive types by their places.
use Rattle.std.specs.Prelude.{ℕ, List, Option, Some, None}
use Rattle.cic_rules.specs.declared.env.Slot.{Slot}
use Rattle.cic_rules.specs.Environments.{decl_at}
use Rattle.cic_rules.specs.Families.{Family, family_at}

-- the inductive type at a place, if any is told
abbrev pub family_if_any : List Slot → Option ℕ → Option Family
family_if_any env None = None
family_if_any env (Some place) = family_at place (decl_at env place)
