-- Declarations on some fuel, for the calls that enter them.
use Rattle.std.specs.Prelude.{ℕ, List, Bool, Option, Some, None}
use Rattle.core_term.specs.Tree.{Tree}
use Rattle.cic_rules.specs.declared.decls.InductiveDecl.{InductiveDecl}
use Rattle.cic_rules.specs.declared.entries.Entry.{Entry}
use Rattle.cic_rules.specs.declared.entries.EntryKind.{EntryKind}
use Rattle.cic_rules.specs.declared.entries.EntryKind.TheVariants.{Defined}
use Rattle.cic_rules.specs.declared.env.Slot.{Slot}
use Rattle.cic_rules.specs.Declare.{assume, define, eliminators}
use Rattle.cic_rules.specs.Environments.{all_entered, is_taken, slotted}
use Rattle.cic_rules.specs.Fuel.{FuelState, left, calls_left}
use Rattle.cic_rules.specs.Inductive.{check_inductive_at}
use Rattle.cic_rules.specs.Runs.{Ran, Run, ◌>>=◌, ◌>>◌, give, forbid}

-- an entry by its parts
abbrev pub entry_of : List ℕ → Tree → EntryKind → List ℕ → Entry
entry_of name ty kind used = record { name = name; ty = ty; kind = kind; used = used }

-- each kind of declaration, so many judgements may stand in one another
abbrev pub assume_at : List Slot → ℕ → List ℕ → Tree → EntryKind → Run (List Slot)
assume_at env calls name ty kind = do
  forbid (is_taken env name) 25
  assume env calls name ty kind

abbrev pub define_at : List Slot → ℕ → List ℕ → Option Tree → Tree → Bool → Run (List Slot)
define_at env calls name ty body opaque = do
  forbid (is_taken env name) 25
  define env calls name ty body (Defined body opaque)

abbrev pub induct_at : List Slot → ℕ → InductiveDecl → Run (List Slot)
induct_at env calls d = do
  c ← check_inductive_at env calls d
  entries ← give (eliminators env c)
  give (all_entered env (slotted (Some d) entries))

-- on some fuel
abbrev pub assume_with : List Slot → List ℕ → Tree → EntryKind → FuelState → Ran (List Slot)
assume_with env name ty kind f = assume_at env (calls_left f) name ty kind (left f)

abbrev pub define_with : List Slot → List ℕ → Option Tree → Tree → Bool → FuelState → Ran (List Slot)
define_with env name ty body opaque f = define_at env (calls_left f) name ty body opaque (left f)

abbrev pub checked_define_with : List Slot → List ℕ → Tree → Tree → Bool → FuelState → Ran (List Slot)
checked_define_with env name ty body opaque f = define env (calls_left f) name (Some ty) body (Defined body opaque) (left f)

abbrev pub inferred_define_with : List Slot → List ℕ → Tree → Bool → FuelState → Ran (List Slot)
inferred_define_with env name body opaque f = define env (calls_left f) name None body (Defined body opaque) (left f)

abbrev pub induct_with : List Slot → InductiveDecl → FuelState → Ran (List Slot)
induct_with env d f = induct_at env (calls_left f) d (left f)
