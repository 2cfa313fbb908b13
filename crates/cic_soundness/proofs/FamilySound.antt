-- An inductive declaration that passes its test keeps the rules, by derivable sorts.
use Rattle.std.specs.Prelude.{◌≡◌, ℕ, zero, suc, ◌+◌, ◌<◌, ◌≤◌, ◌^◌, ◌==◌, nat_le, List, [], ◌∷◌, ◌++◌, length, Bool, true, false, Some, Ok, Err, IsTrue, if◌then◌else◌, refl}
use Rattle.std.proofs.Common.{arith, ap, sym, ◌∙◌, subst, length-append}
use Rattle.std.proofs.lemmas.Bool.Decides.{nat_tests}
use Rattle.base_core.specs.declared.refusals.Stop.TheVariants.{Out}
use Rattle.base_core.specs.declared.refusals.Limit.TheVariants.{SizeLimit, DepthLimit}
use Rattle.core_term.specs.declared.sorts.Sort.{Sort}
use Rattle.core_term.specs.Tree.{Tree, Sorted, Prod}
use Rattle.term_spine.specs.Globals.{has}
use Rattle.term_spine.specs.Spine.{count_products, end_of_products}
use Rattle.cic_rules.specs.declared.context.Hyp.{Hyp}
use Rattle.cic_rules.specs.declared.decls.Ctor.{Ctor}
use Rattle.cic_rules.specs.declared.decls.InductiveDecl.{InductiveDecl}
use Rattle.cic_rules.specs.declared.env.Slot.{Slot}
use Rattle.cic_rules.specs.declared.families.CheckedInductive.{CheckedInductive}
use Rattle.cic_rules.specs.declared.families.RowSorts.{RowSorts}
use Rattle.cic_rules.specs.declared.judge.InferredSort.{InferredSort}
use Rattle.cic_rules.specs.Contexts.{plain_hyp}
use Rattle.cic_rules.specs.Environments.{own_slot, without, all_entered, entered}
use Rattle.cic_rules.specs.Scopes.{AreBefore, AreNames}
use Rattle.cic_rules.specs.Families.{count_indices}
use Rattle.cic_rules.specs.Infer.{union}
use Rattle.cic_rules.specs.Eliminators.{type_of_decl}
use Rattle.cic_rules.specs.Derive.{WfContext, Empty, Assumes, HasType}
use Rattle.cic_rules.specs.WellFormed.{opened, HasSorts, Ends, Domain, AreRows, KeepsRules}
use Rattle.cic_rules.specs.Inductive.{Opened, opened as opening, CtorSorts, ctor_sorts, no_domains, with_domain, row_at, open_params, rows_of, assumed_type, is_constructors, params_of, are_positive, rows_fit, permitted, sort_at_end, has_twice, names_of, any_taken, checked, check_family, check_inductive_at}
use Rattle.cic_rules.specs.Runs.{spend, check_size}
use Rattle.cic_rules.specs.Laws.{HasAll, Tells}
use Rattle.cic_rules.proofs.TellsLaws.{tells_give, tells_pure, tells_stop, tells_bind, tells_step, tells_require, tells_forbid, tells_some, tells_within}
use Rattle.cic_rules.proofs.UsedLaws.{union_first, names_union}
use Rattle.cic_soundness.specs.Laws.{IsKnown}
use Rattle.cic_soundness.proofs.InferSound.{all_first, all_second, sorts_are_sound}
use Rattle.cic_soundness.proofs.Growth.{formed_later}

-- ---- rows of products

record IsRow (env : List Slot) (ctx : List Hyp) (t : Tree) (r : RowSorts) : Type 0 where
  names : AreNames (length env) r.used
  derived : (all : List ℕ) → HasAll r.used all → WfContext env all ctx → HasSorts env all ctx t r.domains

module _ (env : List Slot) where
  leaf_row : (ctx : List Hyp) (t : Tree) (s : InferredSort) → count_products t ≡ 0 → IsKnown env ctx t (Sorted s.sort) s.used → IsRow env ctx t (no_domains s)
  leaf_row ctx t s none h = record { names = h.names; derived = λ all more formed. Ends s.sort none (h.derived all more formed) }

  domain_row : (ctx : List Hyp) (n : List ℕ) (a b : Tree) (s : InferredSort) (r : RowSorts) → IsKnown env ctx a (Sorted s.sort) s.used →
      IsRow env (plain_hyp n a ∷ ctx) b r → IsRow env ctx (Prod n a b) (with_domain s r)
  domain_row ctx n a b s r h k =
      record {
        names = names_union (length env) s.used r.used h.names k.names;
        derived = λ all more formed.
            let domain : HasType env all ctx a (Sorted s.sort) = h.derived all (all_first s.used r.used all more) formed in
            Domain n s.sort domain (k.derived all (all_second s.used r.used all more) (Assumes n s.sort formed domain));
      }

  row_tells : (calls : ℕ) (ctx : List Hyp) (t : Tree) → Tells (row_at env calls ctx t) (IsRow env ctx t)
  unfolding row_at
  row_tells zero ctx t = tells_stop (Out DepthLimit)
  row_tells (suc calls) ctx (Prod n a b) =
      tells_step (spend 1) (tells_bind (sorts_are_sound env calls ctx a) (λ s h. tells_within ctx (plain_hyp n a) _
      (tells_bind (row_tells calls (plain_hyp n a ∷ ctx) b) (λ r k. tells_pure (with_domain s r) (domain_row ctx n a b s r h k)))))
  row_tells (suc calls) ctx t = tells_bind (sorts_are_sound env (suc calls) ctx t) (λ s h. tells_pure (no_domains s) (leaf_row ctx t s refl h))

-- ---- parameters

record IsOpened (env : List Slot) (ctx : List Hyp) (used : List ℕ) (hs : List Hyp) (o : Opened) : Type 0 where
  is : o.ctx ≡ opened hs ctx
  names : AreNames (length env) o.used
  grows : HasAll used o.used
  formed : (all : List ℕ) → HasAll o.used all → WfContext env all ctx → WfContext env all (opened hs ctx)

module _ (env : List Slot) (calls : ℕ) where
  opened_one : (ctx : List Hyp) (used : List ℕ) (h : Hyp) (hs : List Hyp) (s : InferredSort) (o : Opened) → IsKnown env ctx h.ty (Sorted s.sort) s.used →
      IsOpened env (plain_hyp h.name h.ty ∷ ctx) (union used s.used) hs o → IsOpened env ctx used (h ∷ hs) o
  opened_one ctx used h hs s o known rest =
      record {
        is = rest.is;
        names = rest.names;
        grows = all_first used s.used o.used rest.grows;
        formed = λ all more formed.
            rest.formed all more (Assumes h.name s.sort formed
            (known.derived all (λ c e. more c (all_second used s.used o.used rest.grows c e)) formed));
      }

  opened_tells : (ctx : List Hyp) (used : List ℕ) (h : Hyp) (hs : List Hyp) (s : InferredSort) → IsKnown env ctx h.ty (Sorted s.sort) s.used →
      Tells (open_params env calls hs (plain_hyp h.name h.ty ∷ ctx) (union used s.used)) (IsOpened env (plain_hyp h.name h.ty ∷ ctx) (union used s.used) hs) →
      Tells (open_params env calls hs (plain_hyp h.name h.ty ∷ ctx) (union used s.used)) (IsOpened env ctx used (h ∷ hs))
  opened_tells ctx used h hs s known rest = record { tells = λ left o e. opened_one ctx used h hs s o known (rest.tells left o e) }

  params_tells : (hs ctx : List Hyp) (used : List ℕ) → AreNames (length env) used → Tells (open_params env calls hs ctx used) (IsOpened env ctx used hs)
  params_tells [] ctx used names =
      tells_pure (opening ctx used) (record { is = refl; names = names; grows = λ c e. e; formed = λ all more formed. formed })
  params_tells (h ∷ hs) ctx used names =
      tells_bind (sorts_are_sound env calls ctx h.ty) (λ s known. tells_within ctx (plain_hyp h.name h.ty) _
      (opened_tells ctx used h hs s known
      (params_tells hs (plain_hyp h.name h.ty ∷ ctx) (union used s.used) (names_union (length env) used s.used names known.names))))

-- ---- constructors

record AreCtors (inner : List Slot) (place : ℕ) (d : InductiveDecl) (ctx : List Hyp) (cs : List Ctor) (q : CtorSorts) : Type 0 where
  names : AreNames (length inner) q.used
  derived : (all : List ℕ) → HasAll q.used all → WfContext inner all ctx → AreRows inner place all d ctx cs q.rows

ctors_tells : (inner : List Slot) (place : ℕ) (d : InductiveDecl) (calls : ℕ) (ctx : List Hyp) (cs : List Ctor) →
    Tells (rows_of d inner place calls ctx cs) (AreCtors inner place d ctx cs)
ctors_tells inner place d calls ctx [] =
    tells_pure (ctor_sorts [] []) (record { names = record { ascending = tt; before = tt }; derived = λ all more formed. tt })
ctors_tells inner place d calls ctx (c ∷ cs) =
    tells_bind (row_tells inner calls ctx c.ty) (λ r h. tells_require (is_constructors place (params_of d) (count_indices d) c.ty) 31 (λ form.
    tells_bind (ctors_tells inner place d calls ctx cs) (λ q k. tells_pure (ctor_sorts (r.domains ∷ q.rows) (union r.used q.used))
    (record {
      names = names_union (length inner) r.used q.used h.names k.names;
      derived = λ all more formed. (
        h.derived all (all_first r.used q.used all more) formed,
        form,
        k.derived all (all_second r.used q.used all more) formed,
      );
    }))))

-- ---- the names without the type itself

before_more : (m l : ℕ) (ps : List ℕ) → m ≤ l → AreBefore m ps → AreBefore l ps
before_more m l [] le h = tt
before_more m l (p ∷ ps) le h = let lt = h.0 in (omega (arith, lt, le), before_more m l ps le h.1)

names_more : (m l : ℕ) (ps : List ℕ) → m ≤ l → AreNames m ps → AreNames l ps
names_more m l ps le h = record { ascending = h.ascending; before = before_more m l ps le h.before }

with_itself_by : (b e f : Bool) (m c p : ℕ) (ps : List ℕ) → (p == m) ≡ b → (p == c) ≡ e → (m == c) ≡ f →
    (has ps c ≡ true → (if f then true else has (without m ps) c) ≡ true) → (if e then true else has ps c) ≡ true →
    (if f then true else has (if b then without m ps else p ∷ without m ps) c) ≡ true
with_itself_by b e true m c p ps one two three rest h = refl
with_itself_by true true false m c p ps one two three rest h = let none : ⊥ = grind (arith, nat_tests, one, two, three) in absurd none
with_itself_by true false false m c p ps one two three rest h = rest h
with_itself_by false true false m c p ps one two three rest h = ap (λ x. if x then true else has (without m ps) c) two
with_itself_by false false false m c p ps one two three rest h = ap (λ x. if x then true else has (without m ps) c) two ∙ rest h

with_itself : (m c : ℕ) (ps : List ℕ) → IsTrue (has ps c) → IsTrue (has (m ∷ without m ps) c)
with_itself m c [] h = cc
with_itself m c (p ∷ ps) h = with_itself_by (p == m) (p == c) (m == c) m c p ps refl refl refl (with_itself m c ps) h

before_by : (b : Bool) (m p c : ℕ) (more : Bool) → (p == c) ≡ b → p < m → (more ≡ true → c < m) → (if b then true else more) ≡ true → c < m
before_by true m p c more e lt rest h = let same : p ≡ c = grind (arith, nat_tests, e) in omega (arith, same, lt)
before_by false m p c more e lt rest h = rest h

-- a name among some that are before a place
pub has_before : (m c : ℕ) (ps : List ℕ) → AreBefore m ps → IsTrue (has ps c) → c < m
has_before m c [] all h = cc
has_before m c (p ∷ ps) all h = before_by (p == c) m p c (has ps c) refl all.0 (has_before m c ps all.1) h

tail_by : (f : Bool) (m c : ℕ) (more : Bool) → (m == c) ≡ f → c < m → (if f then true else more) ≡ true → more ≡ true
tail_by true m c more e lt h = let none : ⊥ = grind (arith, nat_tests, e, lt) in absurd none
tail_by false m c more e lt h = h

kept : (m c : ℕ) (ps : List ℕ) → c < m → IsTrue (has ps c) → IsTrue (has (without m ps) c)
kept m c ps lt h = tail_by (m == c) m c (has (without m ps) c) refl lt (with_itself m c ps h)

without_by : (b : Bool) (m p : ℕ) (ps : List ℕ) → (p == m) ≡ b → p < suc m → AreBefore m (without m ps) → AreBefore m (if b then without m ps else p ∷ without m ps)
without_by true m p ps e lt h = h
without_by false m p ps e lt h = let other : p < m = grind (arith, nat_tests, e, lt) in (other, h)

before_without : (m : ℕ) (ps : List ℕ) → AreBefore (suc m) ps → AreBefore m (without m ps)
before_without m [] h = tt
before_without m (p ∷ ps) h = without_by (p == m) m p ps refl h.0 (before_without m ps h.1)

-- ---- the whole test

entered_by : (b : Bool) (env slots next : List Slot) → (if b then Ok (env ++ slots) else Err (Out SizeLimit)) ≡ Ok next → env ++ slots ≡ next
entered_by true env slots next e = cc
entered_by false env slots next e = cc

-- an environment that had room
pub entered_is : (env slots next : List Slot) → all_entered env slots ≡ Ok next → env ++ slots ≡ next
entered_is env slots next e = entered_by (nat_le (length env + length slots) (2 ^ 31)) env slots next e

sort_is : (t : Tree) (s : Sort) → sort_at_end t ≡ Some s → t ≡ Sorted s
sort_is (Sorted r) s e = let same : r ≡ s = cc in ap Sorted same
sort_is _ s e = cc

-- what passes its test keeps the rules
pub record IsPassed (env : List Slot) (d : InductiveDecl) (c : CheckedInductive) : Type 0 where
  pub sort : Sort
  pub rows : List (List Sort)
  pub decl : c.decl ≡ d
  pub sorts : c.sorts ≡ permitted sort rows
  pub before : AreBefore (length env) c.used
  pub keeps : KeepsRules env d c.used sort rows

module _ (env : List Slot) (calls : ℕ) (d : InductiveDecl) where
  abbrev after : List Slot
  after = own_slot (assumed_type d) ∷ []

  abbrev found_names : List ℕ → List ℕ → List ℕ → List ℕ
  found_names first second third = union (union first second) third

  passed : (s : Sort) (o : Opened) (a : InferredSort) (inner : List Slot) (q : CtorSorts) → has_twice (names_of d) ≡ false → any_taken env (names_of d) ≡ false →
      sort_at_end (end_of_products d.arity) ≡ Some s → IsOpened env [] [] d.params o → IsKnown env o.ctx d.arity (Sorted a.sort) a.used → env ++ after ≡ inner →
      AreCtors inner (length env) d o.ctx d.ctors q → IsTrue (are_positive (length env) (params_of d) d.ctors) → IsTrue (rows_fit s q.rows) →
      IsPassed env d (checked d env s q.rows (found_names o.used a.used q.used))
  passed s o a inner q distinct new end h j is k positive fits =
      let m : ℕ = length env in
      let total : List ℕ = found_names o.used a.used q.used in
      let used : List ℕ = without m total in
      let ctx : List Hyp = opened d.params [] in
      let counted = length-append env after in
      let long : length (env ++ after) ≡ suc m = omega (arith, counted) in
      let arity : IsKnown env ctx d.arity (Sorted a.sort) a.used = subst (λ x. IsKnown env x d.arity (Sorted a.sort) a.used) h.is j in
      let inside : AreCtors (env ++ after) m d o.ctx d.ctors q = subst (λ x. AreCtors x m d o.ctx d.ctors q) (sym is) k in
      let ctors : AreCtors (env ++ after) m d ctx d.ctors q = subst (λ x. AreCtors (env ++ after) m d x d.ctors q) h.is inside in
      let first : AreNames m (union o.used a.used) = names_union m o.used a.used h.names arity.names in
      let last : AreNames (suc m) q.used = subst (λ x. AreNames x q.used) long ctors.names in
      let names : AreNames (suc m) total = names_union (suc m) (union o.used a.used) q.used (names_more m (suc m) (union o.used a.used) (omega arith) first) last in
      let early : HasAll (union o.used a.used) used =
      λ c e. kept m c total (has_before m c (union o.used a.used) first.before e) (union_first (union o.used a.used) q.used c e) in
      let opens : HasAll o.used used = all_first o.used a.used used early in
      let formed : WfContext env used ctx = h.formed used opens Empty in
      let itself : HasAll total (m ∷ used) = λ c e. with_itself m c total e in
      let inner_names : HasAll used (m ∷ used) = λ c e. there m c (has used c) e in
      record {
        sort = s;
        rows = q.rows;
        decl = refl;
        sorts = refl;
        before = before_without m total names.before;
        keeps = record {
          distinct = distinct;
          new = new;
          arity = sort_is (end_of_products d.arity) s end;
          params = formed;
          typed = (a.sort, arity.derived used (all_second o.used a.used used early) formed);
          ctors = ctors.derived (m ∷ used) (all_second (union o.used a.used) q.used (m ∷ used) itself) (formed_later env after inner_names formed);
          positive = positive;
          universes = fits;
        };
      } where
        there : (m c : ℕ) (more : Bool) → more ≡ true → (if m == c then true else more) ≡ true
        there m c more e = by (m == c) e where
          by : (b : Bool) → more ≡ true → (if b then true else more) ≡ true
          by true e = refl
          by false e = e

  family_tells : (s : Sort) → has_twice (names_of d) ≡ false → any_taken env (names_of d) ≡ false → sort_at_end (end_of_products d.arity) ≡ Some s →
      Tells (check_family d env calls s) (IsPassed env d)
  family_tells s distinct new end =
      tells_bind (params_tells env calls d.params [] [] (record { ascending = tt; before = tt })) (λ o h.
      tells_bind (sorts_are_sound env calls o.ctx d.arity) (λ a j.
      tells_step (check_size (type_of_decl d)) (tells_bind (tells_give (entered env (assumed_type d)) (λ inner e. entered_is env after inner e)) (λ inner is.
      tells_bind (ctors_tells inner (length env) d calls o.ctx d.ctors) (λ q k.
      tells_require (are_positive (length env) (params_of d) d.ctors) 32 (λ positive. tells_require (rows_fit s q.rows) 33 (λ fits.
      tells_pure (checked d env s q.rows (found_names o.used a.used q.used)) (passed s o a inner q distinct new end h j is k positive fits))))))))

  pub inductive_tells : Tells (check_inductive_at env calls d) (IsPassed env d)
  inductive_tells =
      tells_forbid (has_twice (names_of d)) 34 (λ distinct. tells_forbid (any_taken env (names_of d)) 25 (λ new.
      tells_bind (tells_some 30 (sort_at_end (end_of_products d.arity)) (λ s e. e)) (λ s e. family_tells s distinct new e)))
