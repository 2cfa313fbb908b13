-- What was judged may be entered, and declarations keep what is true of an environment.
use Rattle.std.proofs.Common.{◌≡◌, ℕ, suc, ◌+◌, ◌^◌, ◌≤◌, nat_le, List, [], ◌∷◌, ◌++◌, length, Bool, true, false, Option, Some, None, Ok, Err, refl, subst, arith, length-append}
use Rattle.std.specs.Prelude.{if◌then◌else◌}
use Rattle.std.proofs.lemmas.Bool.Decides.{nat_tests}
use Rattle.base_core.specs.declared.refusals.Stop.TheVariants.{Out}
use Rattle.base_core.specs.declared.refusals.Limit.TheVariants.{SizeLimit}
use Rattle.core_term.specs.Tree.{Tree}
use Rattle.cic_rules.specs.declared.decls.Decl.{Decl}
use Rattle.cic_rules.specs.declared.decls.Decl.TheVariants.{Assume, Define, Admit, Induct}
use Rattle.cic_rules.specs.declared.decls.InductiveDecl.{InductiveDecl}
use Rattle.cic_rules.specs.declared.entries.Entry.{Entry}
use Rattle.cic_rules.specs.declared.entries.EntryKind.{EntryKind}
use Rattle.cic_rules.specs.declared.entries.EntryKind.TheVariants.{Assumed, Admitted, Defined}
use Rattle.cic_rules.specs.declared.env.Slot.{Slot}
use Rattle.cic_rules.specs.declared.families.CheckedInductive.{CheckedInductive}
use Rattle.cic_rules.specs.Scopes.{AreNames, IsJudged}
use Rattle.cic_rules.specs.Environments.{place_in, is_taken, own_slot, slotted, all_entered, entered, IsNew, AreSlots, IsEnvironment, MayEnter}
use Rattle.cic_rules.specs.Infer.{union}
use Rattle.cic_rules.specs.Declare.{IsChecked, eliminators, enter, define, declare_at}
use Rattle.cic_rules.specs.Laws.{Tells, JudgedMayEnter, DeclareKeepsEnvironments}
use Rattle.cic_rules.proofs.TellsLaws.{tells_give, tells_bind, tells_forbid}
use Rattle.cic_rules.proofs.PlaceLaws.{own_slot_is, not_there}
use Rattle.cic_rules.proofs.UsedLaws.{names_union, uses_first, uses_second}
use Rattle.cic_rules.proofs.JudgeScopes.{scope_of_inference, scope_of_sorts, scope_of_checks}
use Rattle.cic_rules.proofs.FamilyLaws.{checked_may_enter, checked_decl}

-- an assumption or an admitted theorem of a type that was judged
assumption_may : (env : List Slot) (name : List ℕ) (ty : Tree) (used : List ℕ) → IsNew env name → IsJudged 0 (length env) ty used →
    MayEnter env (record { name = name; ty = ty; kind = Assumed; used = used })
assumption_may env name ty used new h =
    record { new = new; own = tt; entry = record { scoped = (h.term, tt); names = h.names }; used = (h.uses, tt) }

admission_may : (env : List Slot) (name : List ℕ) (ty : Tree) (used : List ℕ) → IsNew env name → IsJudged 0 (length env) ty used →
    MayEnter env (record { name = name; ty = ty; kind = Admitted; used = used })
admission_may env name ty used new h =
    record { new = new; own = tt; entry = record { scoped = (h.term, tt); names = h.names }; used = (h.uses, tt) }

-- a definition whose type and body were judged
definition_may : (env : List Slot) (name : List ℕ) (ty body : Tree) (opaque : Bool) (used : List ℕ) → IsNew env name →
    IsJudged 0 (length env) ty used → IsJudged 0 (length env) body used →
    MayEnter env (record { name = name; ty = ty; kind = Defined body opaque; used = used })
definition_may env name ty body opaque used new h k =
    record { new = new; own = tt; entry = record { scoped = (h.term, (k.term, tt)); names = h.names }; used = (h.uses, (k.uses, tt)) }

-- with the names of a further run
first_run : (vars globals : ℕ) (t : Tree) (us vs : List ℕ) → IsJudged vars globals t us → AreNames globals vs → IsJudged vars globals t (union us vs)
first_run n m t us vs h k = record { term = h.term; names = names_union m us vs h.names k; uses = uses_first us vs t h.uses }

second_run : (vars globals : ℕ) (t : Tree) (us vs : List ℕ) → AreNames globals us → IsJudged vars globals t vs → IsJudged vars globals t (union us vs)
second_run n m t us vs h k = record { term = k.term; names = names_union m us vs h k.names; uses = uses_second us vs t k.uses }

pub judged_may_enter : JudgedMayEnter
judged_may_enter = record { assumed = assumption_may; admitted = admission_may; defined = definition_may; first = first_run; second = second_run }

slots_append : (n : ℕ) (env more : List Slot) → AreSlots n env → AreSlots (n + length env) more → AreSlots n (env ++ more)
slots_append n [] more h k = let none : n + 0 ≡ n = omega arith in subst (λ m. AreSlots m more) none k
slots_append n (s ∷ ss) more h k =
    let at : n + suc (length ss) ≡ suc n + length ss = omega arith in
    (h.0, slots_append (suc n) ss more h.1 (subst (λ m. AreSlots m more) at k))

entered_by : (b : Bool) (env more inner : List Slot) → nat_le (length env + length more) (2 ^ 31) ≡ b → IsEnvironment env → AreSlots (length env) more →
    (if b then Ok (env ++ more) else Err (Out SizeLimit)) ≡ Ok inner → IsEnvironment inner
entered_by true env more inner is old slots e =
    let same : env ++ more ≡ inner = cc in
    let room : length env + length more ≤ 2 ^ 31 = grind (arith, nat_tests, is) in
    let at : length env ≡ 0 + length env = omega arith in
    subst IsEnvironment same (record {
      short = omega (arith, room, length-append env more);
      slots = slots_append 0 env more old.slots (subst (λ m. AreSlots m more) at slots);
    })
entered_by false env more inner is old slots e = cc

-- more globals that may stand there
more_entered : (env more inner : List Slot) → IsEnvironment env → AreSlots (length env) more → all_entered env more ≡ Ok inner → IsEnvironment inner
more_entered env more inner old slots e = entered_by (nat_le (length env + length more) (2 ^ 31)) env more inner refl old slots e

module _ (env : List Slot) (is : IsEnvironment env) (calls : ℕ) where
  enter_tells : (name : List ℕ) (ty : Tree) (kind : EntryKind) (used : List ℕ) → MayEnter env (record { name = name; ty = ty; kind = kind; used = used }) →
      Tells (enter env name ty kind used) IsEnvironment
  enter_tells name ty kind used may =
      tells_give (entered env (record { name = name; ty = ty; kind = kind; used = used }))
      (λ inner e. more_entered env (own_slot (record { name = name; ty = ty; kind = kind; used = used }) ∷ []) inner is (own_slot_is env (record { name = name; ty = ty; kind = kind; used = used }) may, tt) e)

  define_tells : (name : List ℕ) (ty : Option Tree) (body : Tree) (opaque : Bool) → IsNew env name →
      Tells (define env calls name ty body (Defined body opaque)) IsEnvironment
  define_tells name (Some ty) body opaque new =
      tells_bind (scope_of_sorts env is calls [] tt ty) (λ s h. tells_bind (scope_of_checks env is calls [] tt body ty) (λ used k.
      enter_tells name ty (Defined body opaque) (union s.used used) (definition_may env name ty body opaque (union s.used used) new
      (first_run 0 (length env) ty s.used used h k.names) (second_run 0 (length env) body s.used used h.names k))))
  define_tells name None body opaque new =
      tells_bind (scope_of_inference env is calls [] tt body) (λ i k. tells_bind (scope_of_sorts env is calls [] tt i.ty) (λ s h.
      enter_tells name i.ty (Defined body opaque) (union i.used s.used) (definition_may env name i.ty body opaque (union i.used s.used) new
      (second_run 0 (length env) i.ty i.used s.used k.judged.names h) (first_run 0 (length env) body i.used s.used k.judged h.names))))

  family_tells : (d : InductiveDecl) (c : CheckedInductive) (entries : List Entry) → c.decl ≡ d → IsChecked env c → eliminators env c ≡ Ok entries →
      AreSlots (length env) (slotted (Some d) entries)
  family_tells d c entries same given e = subst (λ x. AreSlots (length env) (slotted (Some x) entries)) same (checked_may_enter env is c given entries e).slots

  declare_tells : (d : Decl) → Tells (declare_at env calls d) IsEnvironment
  unfolding declare_at
  declare_tells (Assume name ty) =
      tells_forbid (is_taken env name) 25 (λ free. tells_bind (scope_of_sorts env is calls [] tt ty)
      (λ s h. enter_tells name ty Assumed s.used (assumption_may env name ty s.used (not_there (place_in env name) free) h)))
  declare_tells (Admit name ty) =
      tells_forbid (is_taken env name) 25 (λ free. tells_bind (scope_of_sorts env is calls [] tt ty)
      (λ s h. enter_tells name ty Admitted s.used (admission_may env name ty s.used (not_there (place_in env name) free) h)))
  declare_tells (Define name ty body opaque) =
      tells_forbid (is_taken env name) 25 (λ free. define_tells name ty body opaque (not_there (place_in env name) free))
  declare_tells (Induct d) =
      tells_bind (checked_decl env calls d) (λ c given. tells_bind (tells_give (eliminators env c) (λ entries e. family_tells d c entries given.0 given.1 e)) (λ entries slots.
      tells_give (all_entered env (slotted (Some d) entries)) (λ inner e. more_entered env (slotted (Some d) entries) inner is slots e)))

pub declare_keeps : DeclareKeepsEnvironments
declare_keeps env is calls d = declare_tells env is calls d
