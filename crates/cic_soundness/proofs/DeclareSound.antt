-- A declaration that is accepted keeps an environment well formed.
use Rattle.std.specs.Prelude.{◌≡◌, ℕ, List, [], ◌∷◌, ◌++◌, length, Bool, true, false, Option, Some, None, Ok, Err, if◌then◌else◌}
use Rattle.std.proofs.Common.{ap, sym, ◌∙◌, subst}
use Rattle.base_core.specs.declared.refusals.Stop.TheVariants.{Out}
use Rattle.base_core.specs.declared.refusals.Limit.TheVariants.{SizeLimit}
use Rattle.core_term.specs.declared.sorts.Sort.{Sort}
use Rattle.core_term.specs.Tree.{Tree, Sorted}
use Rattle.cic_rules.specs.declared.decls.Decl.{Decl}
use Rattle.cic_rules.specs.declared.decls.Decl.TheVariants.{Assume, Define, Admit, Induct}
use Rattle.cic_rules.specs.declared.decls.InductiveDecl.{InductiveDecl}
use Rattle.cic_rules.specs.declared.entries.Entry.{Entry}
use Rattle.cic_rules.specs.declared.entries.EntryKind.TheVariants.{Assumed, Admitted, Defined}
use Rattle.cic_rules.specs.declared.env.Slot.{Slot}
use Rattle.cic_rules.specs.declared.families.CheckedInductive.{CheckedInductive}
use Rattle.cic_rules.specs.Environments.{is_taken, own_slot, slotted, entered, all_entered}
use Rattle.cic_rules.specs.Scopes.{AreBefore}
use Rattle.cic_rules.specs.Eliminators.{family_entries}
use Rattle.cic_rules.specs.Inductive.{permitted}
use Rattle.cic_rules.specs.Infer.{union}
use Rattle.cic_rules.specs.Declare.{are_small, types_of, eliminators, enter, define, declare_at}
use Rattle.cic_rules.specs.Derive.{Empty, HasType}
use Rattle.cic_rules.specs.WellFormed.{IsTyped, Assumption, Admission, Definition, WfEnv, Adds, AddsFamily}
use Rattle.cic_rules.specs.Runs.{give}
use Rattle.cic_rules.specs.Laws.{HasAll, Tells}
use Rattle.cic_rules.proofs.TellsLaws.{tells_give, tells_bind, tells_forbid}
use Rattle.cic_rules.proofs.UsedLaws.{union_first, union_second, names_union}
use Rattle.cic_soundness.specs.Laws.{IsKnown, DeclareKeepsForm}
use Rattle.cic_soundness.proofs.InferSound.{types_are_sound, sorts_are_sound, checks_are_sound}
use Rattle.cic_soundness.proofs.FamilySound.{IsPassed, entered_is, inductive_tells}

-- a closed term over all names that were used for it, and others
known_closed : (env : List Slot) (t ty : Tree) (used all : List ℕ) → HasAll used all → IsKnown env [] t ty used → HasType env all [] t ty
known_closed env t ty used all more h = h.derived all more Empty

module _ (env : List Slot) (is : WfEnv env) where
  -- an entry that is typed
  enter_tells : (e : Entry) → AreBefore (length env) e.used → IsTyped env e.kind e.ty e.used → Tells (give (entered env e)) WfEnv
  enter_tells e before typed = tells_give (entered env e) (λ next k. subst WfEnv (entered_is env (own_slot e ∷ []) next k) (Adds e is before typed))

  assumed_tells : (name : List ℕ) (ty : Tree) (s : Sort) (used : List ℕ) → IsKnown env [] ty (Sorted s) used → Tells (enter env name ty Assumed used) WfEnv
  assumed_tells name ty s used h =
      enter_tells (record { name = name; ty = ty; kind = Assumed; used = used }) h.names.before (Assumption s (known_closed env ty (Sorted s) used used (λ c e. e) h))

  admitted_tells : (name : List ℕ) (ty : Tree) (s : Sort) (used : List ℕ) → IsKnown env [] ty (Sorted s) used → Tells (enter env name ty Admitted used) WfEnv
  admitted_tells name ty s used h =
      enter_tells (record { name = name; ty = ty; kind = Admitted; used = used }) h.names.before (Admission s (known_closed env ty (Sorted s) used used (λ c e. e) h))

  defined_tells : (name : List ℕ) (ty body : Tree) (opaque : Bool) (s : Sort) (used : List ℕ) → AreBefore (length env) used → HasType env used [] ty (Sorted s) →
      HasType env used [] body ty → Tells (enter env name ty (Defined body opaque) used) WfEnv
  defined_tells name ty body opaque s used before sorted typed =
      enter_tells (record { name = name; ty = ty; kind = Defined body opaque; used = used }) before (Definition s opaque sorted typed)

  module _ (calls : ℕ) where
    define_tells : (name : List ℕ) (ty : Option Tree) (body : Tree) (opaque : Bool) → Tells (define env calls name ty body (Defined body opaque)) WfEnv
    define_tells name (Some ty) body opaque =
        tells_bind (sorts_are_sound env calls [] ty) (λ s h. tells_bind (checks_are_sound env calls [] body ty) (λ used k.
        defined_tells name ty body opaque s.sort (union s.used used) (names_union (length env) s.used used h.names k.names).before
        (known_closed env ty (Sorted s.sort) s.used (union s.used used) (union_first s.used used) h)
        (known_closed env body ty used (union s.used used) (union_second s.used used) k)))
    define_tells name None body opaque =
        tells_bind (types_are_sound env calls [] body) (λ i h. tells_bind (sorts_are_sound env calls [] i.ty) (λ s k.
        defined_tells name i.ty body opaque s.sort (union i.used s.used) (names_union (length env) i.used s.used h.names k.names).before
        (known_closed env i.ty (Sorted s.sort) s.used (union i.used s.used) (union_second i.used s.used) k)
        (known_closed env body i.ty i.used (union i.used s.used) (union_first i.used s.used) h)))

    small_by : (b : Bool) (made entries : List Entry) → (if b then Ok made else Err (Out SizeLimit)) ≡ Ok entries → made ≡ entries
    small_by true made entries e = cc
    small_by false made entries e = cc

    family_formed : (d : InductiveDecl) (c : CheckedInductive) (entries : List Entry) → IsPassed env d c → eliminators env c ≡ Ok entries →
        WfEnv (env ++ slotted (Some d) entries)
    family_formed d c entries h e =
        let made : family_entries env c.decl c.used c.sorts ≡ entries =
        small_by (are_small (types_of (family_entries env c.decl c.used c.sorts))) (family_entries env c.decl c.used c.sorts) entries e in
        let same : family_entries env d c.used (permitted h.sort h.rows) ≡ entries =
        ap (λ x. family_entries env x c.used (permitted h.sort h.rows)) (sym h.decl) ∙ ap (λ x. family_entries env c.decl c.used x) (sym h.sorts) ∙ made in
        subst (λ x. WfEnv (env ++ slotted (Some d) x)) same (AddsFamily d c.used h.sort h.rows is h.before h.keeps)

    declared : (d : Decl) → Tells (declare_at env calls d) WfEnv
    unfolding declare_at
    declared (Assume name ty) =
        tells_forbid (is_taken env name) 25 (λ new. tells_bind (sorts_are_sound env calls [] ty) (λ s h. assumed_tells name ty s.sort s.used h))
    declared (Admit name ty) =
        tells_forbid (is_taken env name) 25 (λ new. tells_bind (sorts_are_sound env calls [] ty) (λ s h. admitted_tells name ty s.sort s.used h))
    declared (Define name ty body opaque) = tells_forbid (is_taken env name) 25 (λ new. define_tells name ty body opaque)
    declared (Induct d) =
        tells_bind (inductive_tells env calls d) (λ c h. tells_bind (tells_give (eliminators env c) (λ entries e. family_formed d c entries h e))
        (λ entries formed. tells_give (all_entered env (slotted (Some d) entries))
        (λ next k. subst WfEnv (entered_is env (slotted (Some d) entries) next k) formed)))

pub declare_keeps_form : DeclareKeepsForm
declare_keeps_form env is calls d = declared env is calls d
