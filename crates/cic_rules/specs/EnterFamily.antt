-- When an inductive type may be entered with its constructors and eliminators.
use Rattle.std.specs.Prelude.{◌≡◌, ℕ, List, [], ◌∷◌, length, Some}
use Rattle.core_term.specs.declared.sorts.Sort.{Sort}
use Rattle.cic_rules.specs.declared.decls.InductiveDecl.{InductiveDecl}
use Rattle.cic_rules.specs.declared.entries.Entry.{Entry}
use Rattle.cic_rules.specs.declared.entries.EntryKind.{EntryKind}
use Rattle.cic_rules.specs.declared.entries.EntryKind.TheVariants.{Eliminator}
use Rattle.cic_rules.specs.declared.env.Slot.{Slot}
use Rattle.cic_rules.specs.Environments.{slotted, AreNew, AreSlots}
use Rattle.cic_rules.specs.Eliminators.{family_entries}

abbrev pub with_sort : EntryKind → List Sort → List Sort
with_sort (Eliminator of sort) sorts = sort ∷ sorts
with_sort _ sorts = sorts

-- the sorts of the eliminators among some entries
abbrev pub sorts_shown : List Entry → List Sort
sorts_shown [] = []
sorts_shown (e ∷ es) = with_sort e.kind (sorts_shown es)

-- the names used by the first of them
abbrev pub used_shown : List Entry → List ℕ
used_shown [] = []
used_shown (e ∷ es) = e.used

-- they are the type, its constructors and its eliminators, of names that are distinct and not taken; each may stand where it will
pub record MayEnterFamily (env : List Slot) (d : InductiveDecl) (entries : List Entry) : Type 0 where
  pub family : entries ≡ family_entries env d (used_shown entries) (sorts_shown entries)
  pub new : AreNew env (slotted (Some d) entries)
  pub slots : AreSlots (length env) (slotted (Some d) entries)
