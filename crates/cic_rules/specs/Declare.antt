-- Declarations: what they are judged by, and the environment that they give.
use Rattle.std.specs.Prelude.{◌≡◌, ℕ, List, [], ◌∷◌, Bool, true, ◌&&◌, Option, Some, None, Result, Ok, Err, if◌then◌else◌}
use Rattle.base_core.specs.declared.refusals.Stop.{Stop}
use Rattle.base_core.specs.declared.refusals.Stop.TheVariants.{Out}
use Rattle.base_core.specs.declared.refusal_codes.TheConstants.{NAME_TAKEN}
use Rattle.base_core.specs.declared.refusals.Limit.TheVariants.{SizeLimit}
use Rattle.core_term.specs.Tree.{Tree, is_small}
use Rattle.cic_rules.specs.declared.decls.Decl.{Decl}
use Rattle.cic_rules.specs.declared.decls.Decl.TheVariants.{Assume, Define, Admit, Induct}
use Rattle.cic_rules.specs.declared.entries.Entry.{Entry}
use Rattle.cic_rules.specs.declared.entries.EntryKind.{EntryKind}
use Rattle.cic_rules.specs.declared.entries.EntryKind.TheVariants.{Assumed, Admitted, Defined}
use Rattle.cic_rules.specs.declared.env.Slot.{Slot}
use Rattle.cic_rules.specs.declared.families.CheckedInductive.{CheckedInductive}
use Rattle.cic_rules.specs.Environments.{is_taken, entered, all_entered, slotted}
use Rattle.cic_rules.specs.Infer.{union, infer_at, sort_of_at, check_at}
use Rattle.cic_rules.specs.Eliminators.{family_entries}
use Rattle.cic_rules.specs.Inductive.{check_inductive_at}
use Rattle.cic_rules.specs.Runs.{Run, ◌>>=◌, ◌>>◌, give, forbid}

abbrev pub are_small : List Tree → Bool
are_small [] = true
are_small (t ∷ ts) = is_small t && are_small ts

abbrev pub types_of : List Entry → List Tree
types_of [] = []
types_of (e ∷ es) = e.ty ∷ types_of es

-- this is what the test of a declaration gives in this environment
pub record IsChecked (env : List Slot) (c : CheckedInductive) : Type 0 where
  pub calls : ℕ
  pub units : ℕ
  pub given : (check_inductive_at env calls c.decl units).answer ≡ Ok c

-- the entries of an inductive type that passed its test, where none of their types is too large
abbrev pub eliminators : List Slot → CheckedInductive → Result (List Entry) Stop
eliminators env c =
    if are_small (types_of (family_entries env c.decl c.used c.sorts))
    then Ok (family_entries env c.decl c.used c.sorts)
    else Err (Out SizeLimit)

module _ (env : List Slot) where
  -- the entry at the end of the environment, where it has room
  abbrev pub enter : List ℕ → Tree → EntryKind → List ℕ → Run (List Slot)
  enter name ty kind used = give (entered env (record { name = name; ty = ty; kind = kind; used = used }))

  module _ (calls : ℕ) where
    -- an assumption or an admitted theorem, whose type has a sort
    abbrev pub assume : List ℕ → Tree → EntryKind → Run (List Slot)
    assume name ty kind = do
      s ← sort_of_at env calls [] ty
      enter name ty kind s.used

    -- a definition with a type, which has a sort, and against which the body is checked; or without, where the type that is found
    -- must have a sort
    abbrev pub define : List ℕ → Option Tree → Tree → EntryKind → Run (List Slot)
    define name (Some ty) body kind = do
      s ← sort_of_at env calls [] ty
      used ← check_at env calls [] body ty
      enter name ty kind (union s.used used)
    define name None body kind = do
      i ← infer_at env calls [] body
      s ← sort_of_at env calls [] i.ty
      enter name i.ty kind (union i.used s.used)

    -- first a taken name is refused; last the entries must have room
    unfoldable pub declare_at : Decl → Run (List Slot)
    declare_at (Assume name ty) = do
      forbid (is_taken env name) NAME_TAKEN
      assume name ty Assumed
    declare_at (Admit name ty) = do
      forbid (is_taken env name) NAME_TAKEN
      assume name ty Admitted
    declare_at (Define name ty body opaque) = do
      forbid (is_taken env name) NAME_TAKEN
      define name ty body (Defined body opaque)
    declare_at (Induct d) = do
      c ← check_inductive_at env calls d
      entries ← give (eliminators env c)
      give (all_entered env (slotted (Some d) entries))
