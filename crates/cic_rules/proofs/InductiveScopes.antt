-- What the test of an inductive type gives is in scope.
use Rattle.std.proofs.Common.{◌≡◌, ℕ, suc, ◌+◌, ◌<◌, ◌≤◌, ◌^◌, ◌==◌, nat_le, nat_lt, List, [], ◌∷◌, ◌++◌, length, Bool, true, false, Option, Some, None, Ok, Err, refl, sym, ap, ◌∙◌, subst, length-append, arith}
use Rattle.std.specs.Prelude.{IsTrue, if◌then◌else◌}
use Rattle.std.proofs.lemmas.Bool.Decides.{nat_tests}
use Rattle.base_core.specs.declared.refusals.Stop.TheVariants.{Out}
use Rattle.base_core.specs.declared.refusals.Limit.TheVariants.{SizeLimit}
use Rattle.core_term.specs.declared.sorts.Sort.{Sort}
use Rattle.core_term.specs.Tree.{Tree, Var, Sorted, Constant, Prod, Lam, LetIn, App}
use Rattle.term_spine.specs.Globals.{has, AreBehind, IsAscending, globals_of, with_place, places_in}
use Rattle.term_spine.specs.Spine.{end_of_products}
use Rattle.cic_rules.specs.declared.context.Hyp.{Hyp}
use Rattle.cic_rules.specs.declared.decls.Ctor.{Ctor}
use Rattle.cic_rules.specs.declared.decls.InductiveDecl.{InductiveDecl}
use Rattle.cic_rules.specs.declared.env.Slot.{Slot}
use Rattle.cic_rules.specs.declared.families.CheckedInductive.{CheckedInductive}
use Rattle.cic_rules.specs.Scopes.{AreBefore, IsScoped, IsScopedIfAny, IsScopedContext, UsesOnly, UseOnly, AreNames, IsJudged}
use Rattle.cic_rules.specs.Contexts.{plain_hyp, products_over}
use Rattle.cic_rules.specs.Environments.{own_slot, without, hyp_types, ctor_types, decl_terms, AreScopedCtors, IsEnvironment, entered}
use Rattle.cic_rules.specs.Infer.{union}
use Rattle.cic_rules.specs.Families.{count_indices}
use Rattle.cic_rules.specs.Eliminators.{type_of_decl}
use Rattle.cic_rules.specs.Inductive.{Opened, opened, CtorSorts, ctor_sorts, open_params, rows_of, assumed_type, is_constructors, params_of, are_positive, rows_fit, sort_at_end, has_twice, names_of, any_taken, checked, check_family, check_inductive_at}
use Rattle.cic_rules.specs.Runs.{check_size, require, forbid}
use Rattle.cic_rules.specs.Laws.{Tells, IsCheckedIn, ScopeOfInductives}
use Rattle.cic_rules.proofs.TellsLaws.{tells_give, tells_pure, tells_bind, tells_step, tells_some, tells_within}
use Rattle.cic_rules.proofs.ScopeLaws.{scoped_more}
use Rattle.cic_rules.proofs.PlaceLaws.{environment_more}
use Rattle.cic_rules.proofs.JudgeScopes.{scope_of_sorts, scope_of_rows}
use Rattle.cic_rules.proofs.ShapeLaws.{has_append}
use Rattle.cic_rules.proofs.UsedLaws.{names_union, uses_more, uses_first, uses_second, union_first, union_second, behind_more}

-- lists of terms
uses_all : (used all : List ℕ) (ts : List Tree) → ((c : ℕ) → IsTrue (has used c) → IsTrue (has all c)) → UseOnly used ts → UseOnly all ts
uses_all used all [] more h = tt
uses_all used all (t ∷ ts) more h = (uses_more used all t more h.0, uses_all used all ts more h.1)

uses_append : (used : List ℕ) (ts us : List Tree) → UseOnly used ts → UseOnly used us → UseOnly used (ts ++ us)
uses_append used [] us h k = k
uses_append used (t ∷ ts) us h k = (h.0, uses_append used ts us h.1 k)

hyps_more : (m l : ℕ) (ctx : List Hyp) → m ≤ l → IsScopedContext m ctx → IsScopedContext l ctx
hyps_more m l [] le h = tt
hyps_more m l (x ∷ xs) le h =
    (record { ty = scoped_more (length xs) (length xs) m l x.ty (omega arith) le h.0.ty; value = any_more (length xs) m l x.value le h.0.value }, hyps_more m l xs le h.1) where
      any_more : (n m l : ℕ) (value : Option Tree) → m ≤ l → IsScopedIfAny n m value → IsScopedIfAny n l value
      any_more n m l None le h = tt
      any_more n m l (Some v) le h = scoped_more n n m l v (omega arith) le h

before_more : (m l : ℕ) (ps : List ℕ) → m ≤ l → AreBefore m ps → AreBefore l ps
before_more m l [] le h = tt
before_more m l (p ∷ ps) le h = let lt = h.0 in (omega (arith, lt, le), before_more m l ps le h.1)

names_more : (m l : ℕ) (used : List ℕ) → m ≤ l → AreNames m used → AreNames l used
names_more m l used le h = record { ascending = h.ascending; before = before_more m l used le h.before }

-- the places of a list
has_place_by : (b d e : Bool) (c p q : ℕ) (ps more : List ℕ) → nat_lt p q ≡ b → nat_lt q p ≡ d → (p == c) ≡ e → has more c ≡ (if e then true else has ps c) →
    has (if b then p ∷ q ∷ ps else (if d then q ∷ more else q ∷ ps)) c ≡ (if e then true else (if q == c then true else has ps c))
has_place_by true d e c p q ps more low high is rest = ap (λ x. if x then true else (if q == c then true else has ps c)) is
has_place_by false true true c p q ps more low high is rest = either_way (q == c) rest where
  either_way : (x : Bool) → has more c ≡ true → (if x then true else has more c) ≡ true
  either_way true r = refl
  either_way false r = r
has_place_by false true false c p q ps more low high is rest = ap (λ x. if q == c then true else x) rest
has_place_by false false true c p q ps more low high is rest = let same : p ≡ q = grind (arith, nat_tests, low, high) in ap (λ x. if x then true else has ps c) (ap (λ y. y == c) (sym same) ∙ is)
has_place_by false false false c p q ps more low high is rest = refl

has_place : (c p : ℕ) (ps : List ℕ) → has (with_place p ps) c ≡ (if p == c then true else has ps c)
has_place c p [] = refl
has_place c p (q ∷ qs) = has_place_by (nat_lt p q) (nat_lt q p) (p == c) c p q qs (with_place p qs) refl refl refl (has_place c p qs)

has_places : (c : ℕ) (ps : List ℕ) → has (places_in ps) c ≡ has ps c
has_places c [] = refl
has_places c (p ∷ ps) = has_place c p (places_in ps) ∙ ap (λ more. if p == c then true else more) (has_places c ps)

behind_place_by : (b d : Bool) (m p q : ℕ) (ps more : List ℕ) → m < p → AreBehind m (q ∷ ps) → AreBehind m more →
    AreBehind m (if b then p ∷ q ∷ ps else (if d then q ∷ more else q ∷ ps))
behind_place_by true d m p q ps more lt h k = (lt, h)
behind_place_by false true m p q ps more lt h k = (h.0, k)
behind_place_by false false m p q ps more lt h k = h

behind_place : (m p : ℕ) (ps : List ℕ) → m < p → AreBehind m ps → AreBehind m (with_place p ps)
behind_place m p [] lt h = (lt, tt)
behind_place m p (q ∷ qs) lt h = behind_place_by (nat_lt p q) (nat_lt q p) m p q qs (with_place p qs) lt h (behind_place m p qs lt h.1)

ascending_place_by : (b d : Bool) (p q : ℕ) (ps : List ℕ) → nat_lt p q ≡ b → nat_lt q p ≡ d → IsAscending (q ∷ ps) → IsAscending (with_place p ps) →
    IsAscending (if b then p ∷ q ∷ ps else (if d then q ∷ with_place p ps else q ∷ ps))
ascending_place_by true d p q ps low high h k =
    let lt : p < q = grind (arith, nat_tests, low) in
    ((lt, behind_more p q ps (omega (arith, lt)) h.0), h)
ascending_place_by false true p q ps low high h k = let lt : q < p = grind (arith, nat_tests, high) in (behind_place q p ps lt h.0, k)
ascending_place_by false false p q ps low high h k = h

ascending_place : (p : ℕ) (ps : List ℕ) → IsAscending ps → IsAscending (with_place p ps)
ascending_place p [] h = (tt, tt)
ascending_place p (q ∷ qs) h = ascending_place_by (nat_lt p q) (nat_lt q p) p q qs refl refl h (ascending_place p qs h.1)

ascending_places : (ps : List ℕ) → IsAscending (places_in ps)
ascending_places [] = tt
ascending_places (p ∷ ps) = ascending_place p (places_in ps) (ascending_places ps)

before_place_by : (b d : Bool) (m p q : ℕ) (ps more : List ℕ) → p < m → AreBefore m (q ∷ ps) → AreBefore m more →
    AreBefore m (if b then p ∷ q ∷ ps else (if d then q ∷ more else q ∷ ps))
before_place_by true d m p q ps more lt h k = (lt, h)
before_place_by false true m p q ps more lt h k = (h.0, k)
before_place_by false false m p q ps more lt h k = h

before_place : (m p : ℕ) (ps : List ℕ) → p < m → AreBefore m ps → AreBefore m (with_place p ps)
before_place m p [] lt h = (lt, tt)
before_place m p (q ∷ qs) lt h = before_place_by (nat_lt p q) (nat_lt q p) m p q qs (with_place p qs) lt h (before_place m p qs lt h.1)

before_places : (m : ℕ) (ps : List ℕ) → AreBefore m ps → AreBefore m (places_in ps)
before_places m [] h = tt
before_places m (p ∷ ps) h = before_place m p (places_in ps) h.0 (before_places m ps h.1)

before_append : (m : ℕ) (ps qs : List ℕ) → AreBefore m ps → AreBefore m qs → AreBefore m (ps ++ qs)
before_append m [] qs h k = k
before_append m (p ∷ ps) qs h k = (h.0, before_append m ps qs h.1 k)

-- the globals of a term in scope
before_globals : (n m : ℕ) (t : Tree) → IsScoped n m t → AreBefore m (globals_of t)
before_globals n m (Var i) h = tt
before_globals n m (Sorted s) h = tt
before_globals n m (Constant c) h = (h, tt)
before_globals n m (Prod x a b) h = before_append m (globals_of a) (globals_of b) (before_globals n m a h.0) (before_globals (suc n) m b h.1)
before_globals n m (Lam x a b) h = before_append m (globals_of a) (globals_of b) (before_globals n m a h.0) (before_globals (suc n) m b h.1)
before_globals n m (LetIn x a t b) h =
    before_append m (globals_of a) (globals_of t ++ globals_of b) (before_globals n m a h.0)
    (before_append m (globals_of t) (globals_of b) (before_globals n m t h.1) (before_globals (suc n) m b h.2))
before_globals n m (App f a) h = before_append m (globals_of f) (globals_of a) (before_globals n m f h.0) (before_globals n m a h.1)

has_one : (ps qs : List ℕ) (c : ℕ) → IsTrue (has ps c) → IsTrue (has (ps ++ qs) c)
has_one ps qs c h = grind (arith, has_append ps qs c, h)

has_two : (ps qs : List ℕ) (c : ℕ) → IsTrue (has qs c) → IsTrue (has (ps ++ qs) c)
has_two ps qs c h = grind (arith, has_append ps qs c, h)

has_first : (c : ℕ) → IsTrue (has (c ∷ []) c)
has_first c = grind (arith, nat_tests)

joined : (a b : Tree) → UsesOnly (globals_of a) a → UsesOnly (globals_of b) b →
    UsesOnly (globals_of a ++ globals_of b) a × UsesOnly (globals_of a ++ globals_of b) b
joined a b h k = (
  uses_more (globals_of a) (globals_of a ++ globals_of b) a (has_one (globals_of a) (globals_of b)) h,
  uses_more (globals_of b) (globals_of a ++ globals_of b) b (has_two (globals_of a) (globals_of b)) k,
)

uses_globals : (t : Tree) → UsesOnly (globals_of t) t
uses_globals (Var i) = tt
uses_globals (Sorted s) = tt
uses_globals (Constant c) = has_first c
uses_globals (Prod x a b) = joined a b (uses_globals a) (uses_globals b)
uses_globals (Lam x a b) = joined a b (uses_globals a) (uses_globals b)
uses_globals (LetIn x a t b) =
    let both = joined t b (uses_globals t) (uses_globals b) in
    let more = has_two (globals_of a) (globals_of t ++ globals_of b) in (
      uses_more (globals_of a) (globals_of a ++ (globals_of t ++ globals_of b)) a (has_one (globals_of a) (globals_of t ++ globals_of b)) (uses_globals a),
      uses_more (globals_of t ++ globals_of b) (globals_of a ++ (globals_of t ++ globals_of b)) t more both.0,
      uses_more (globals_of t ++ globals_of b) (globals_of a ++ (globals_of t ++ globals_of b)) b more both.1,
    )
uses_globals (App f a) = joined f a (uses_globals f) (uses_globals a)

-- the type as an assumption at the next place
assumed_is : (env : List Slot) (d : InductiveDecl) → IsEnvironment env → length env < 2 ^ 31 → IsScoped 0 (length env) (type_of_decl d) →
    IsEnvironment (env ++ (own_slot (assumed_type d) ∷ []))
assumed_is env d is room scoped =
    let used = places_in (globals_of (type_of_decl d)) in
    environment_more env (own_slot (assumed_type d)) is room (record {
      entry = record {
        scoped = (scoped, tt);
        names = record { ascending = ascending_places (globals_of (type_of_decl d)); before = before_places (length env) (globals_of (type_of_decl d)) (before_globals 0 (length env) (type_of_decl d) scoped) };
      };
      covers = (uses_more (globals_of (type_of_decl d)) (places_in (globals_of (type_of_decl d))) (type_of_decl d) (λ c h. has_places c (globals_of (type_of_decl d)) ∙ h) (uses_globals (type_of_decl d)), tt);
      family = tt;
    })

-- the parameters opened behind a context
record IsOpen (m : ℕ) (ctx : List Hyp) (used : List ℕ) (hs : List Hyp) (o : Opened) : Type 0 where
  scoped : IsScopedContext m o.ctx
  names : AreNames m o.used
  uses : UseOnly o.used (hyp_types hs)
  grows : (c : ℕ) → IsTrue (has used c) → IsTrue (has o.used c)
  over : (t : Tree) → IsScoped (length o.ctx) m t → IsScoped (length ctx) m (products_over hs t)
  count : length o.ctx ≡ length hs + length ctx

module _ (env : List Slot) (is : IsEnvironment env) (calls : ℕ) where
  open_by : (ctx : List Hyp) (used : List ℕ) (h : Hyp) (hs : List Hyp) (sorts : List ℕ) (o : Opened) →
      IsJudged (length ctx) (length env) h.ty sorts → IsOpen (length env) (plain_hyp h.name h.ty ∷ ctx) (union used sorts) hs o →
      IsOpen (length env) ctx used (h ∷ hs) o
  open_by ctx used h hs sorts o j k =
      let count = k.count in
      record {
        scoped = k.scoped;
        names = k.names;
        uses = (uses_more sorts o.used h.ty (λ c e. k.grows c (union_second used sorts c e)) j.uses, k.uses);
        grows = λ c e. k.grows c (union_first used sorts c e);
        over = λ t e. (j.term, k.over t e);
        count = omega (arith, count);
      }

  open_tells : (hs ctx : List Hyp) (used : List ℕ) → IsScopedContext (length env) ctx → AreNames (length env) used →
      Tells (open_params env calls hs ctx used) (IsOpen (length env) ctx used hs)
  open_tells [] ctx used hyps names =
      tells_pure (opened ctx used) (record { scoped = hyps; names = names; uses = tt; grows = λ c e. e; over = λ t e. e; count = omega arith })
  open_tells (h ∷ hs) ctx used hyps names =
      tells_bind (scope_of_sorts env is calls ctx hyps h.ty) (λ s j. tells_within ctx (plain_hyp h.name h.ty) _
      (opens h hs ctx used hyps names s.used j (open_tells hs (plain_hyp h.name h.ty ∷ ctx) (union used s.used)
      (record { ty = j.term; value = tt }, hyps) (names_union (length env) used s.used names j.names)))) where
        opens : (h : Hyp) (hs ctx : List Hyp) (used : List ℕ) → IsScopedContext (length env) ctx → AreNames (length env) used → (sorts : List ℕ) →
            IsJudged (length ctx) (length env) h.ty sorts →
            Tells (open_params env calls hs (plain_hyp h.name h.ty ∷ ctx) (union used sorts)) (IsOpen (length env) (plain_hyp h.name h.ty ∷ ctx) (union used sorts) hs) →
            Tells (open_params env calls hs (plain_hyp h.name h.ty ∷ ctx) (union used sorts)) (IsOpen (length env) ctx used (h ∷ hs))
        opens h hs ctx used hyps names sorts j rest = record { tells = λ left o e. open_by ctx used h hs sorts o j (rest.tells left o e) }

-- the constructors
record AreRowsIn (n m : ℕ) (cs : List Ctor) (q : CtorSorts) : Type 0 where
  ctors : AreScopedCtors n m cs
  names : AreNames m q.used
  uses : UseOnly q.used (ctor_types cs)

rows_tells : (inner : List Slot) → IsEnvironment inner → (d : InductiveDecl) (place calls : ℕ) (ctx : List Hyp) (cs : List Ctor) →
    IsScopedContext (length inner) ctx → Tells (rows_of d inner place calls ctx cs) (AreRowsIn (length ctx) (length inner) cs)
rows_tells inner is d place calls ctx [] hyps =
    tells_pure (ctor_sorts [] []) (record { ctors = tt; names = record { ascending = tt; before = tt }; uses = tt })
rows_tells inner is d place calls ctx (c ∷ cs) hyps =
    tells_bind (scope_of_rows inner is calls ctx hyps c.ty) (λ r j. tells_step (require (is_constructors place (params_of d) (count_indices d) c.ty) 31)
    (tells_bind (rows_tells inner is d place calls ctx cs hyps) (λ q k. tells_pure (ctor_sorts (r.domains ∷ q.rows) (union r.used q.used))
    (record {
      ctors = (j.term, k.ctors);
      names = names_union (length inner) r.used q.used j.names k.names;
      uses = (uses_first r.used q.used c.ty j.uses, uses_all q.used (union r.used q.used) (ctor_types cs) (union_second r.used q.used) k.uses);
    }))))

-- the names without the type itself
without_by : (b : Bool) (m p : ℕ) (ps : List ℕ) → (p == m) ≡ b → p < suc m → AreBefore m (without m ps) → AreBefore m (if b then without m ps else p ∷ without m ps)
without_by true m p ps e lt h = h
without_by false m p ps e lt h = let other : p < m = grind (arith, nat_tests, e, lt) in (other, h)

before_without : (m : ℕ) (ps : List ℕ) → AreBefore (suc m) ps → AreBefore m (without m ps)
before_without m [] h = tt
before_without m (p ∷ ps) h = without_by (p == m) m p ps refl h.0 (before_without m ps h.1)

behind_without_by : (b : Bool) (m q p : ℕ) (ps : List ℕ) → q < p → AreBehind q (without m ps) → AreBehind q (if b then without m ps else p ∷ without m ps)
behind_without_by true m q p ps lt h = h
behind_without_by false m q p ps lt h = (lt, h)

behind_without : (m q : ℕ) (ps : List ℕ) → AreBehind q ps → AreBehind q (without m ps)
behind_without m q [] h = tt
behind_without m q (p ∷ ps) h = behind_without_by (p == m) m q p ps h.0 (behind_without m q ps h.1)

ascending_without_by : (b : Bool) (m p : ℕ) (ps : List ℕ) → AreBehind p (without m ps) → IsAscending (without m ps) →
    IsAscending (if b then without m ps else p ∷ without m ps)
ascending_without_by true m p ps h k = k
ascending_without_by false m p ps h k = (h, k)

ascending_without : (m : ℕ) (ps : List ℕ) → IsAscending ps → IsAscending (without m ps)
ascending_without m [] h = tt
ascending_without m (p ∷ ps) h = ascending_without_by (p == m) m p ps (behind_without m p ps h.0) (ascending_without m ps h.1)

has_without_by : (b e f : Bool) (m c p : ℕ) (ps : List ℕ) → (p == m) ≡ b → (p == c) ≡ e → (m == c) ≡ f →
    (has ps c ≡ true → (if f then true else has (without m ps) c) ≡ true) → (if e then true else has ps c) ≡ true →
    (if f then true else has (if b then without m ps else p ∷ without m ps) c) ≡ true
has_without_by b e true m c p ps one two three rest h = refl
has_without_by true true false m c p ps one two three rest h = let none : ⊥ = grind (arith, nat_tests, one, two, three) in absurd none
has_without_by true false false m c p ps one two three rest h = rest h
has_without_by false true false m c p ps one two three rest h = ap (λ x. if x then true else has (without m ps) c) two
has_without_by false false false m c p ps one two three rest h = ap (λ x. if x then true else has (without m ps) c) two ∙ rest h

has_without : (m c : ℕ) (ps : List ℕ) → IsTrue (has ps c) → IsTrue (has (m ∷ without m ps) c)
has_without m c [] h = cc
has_without m c (p ∷ ps) h = has_without_by (p == m) (p == c) (m == c) m c p ps refl refl refl (has_without m c ps) h

entered_by : (b : Bool) (env inner : List Slot) (s : Slot) → (if b then Ok (env ++ (s ∷ [])) else Err (Out SizeLimit)) ≡ Ok inner → (b ≡ true) × (env ++ (s ∷ []) ≡ inner)
entered_by true env inner s e = (refl, cc)
entered_by false env inner s e = cc

module _ (env : List Slot) (is : IsEnvironment env) (calls : ℕ) (d : InductiveDecl) where
  IsGood : CheckedInductive → Type 0
  IsGood c = (c.decl ≡ d) × IsCheckedIn env c

  -- the type is assumed where there is room
  assumed_tells : IsScoped 0 (length env) (type_of_decl d) → (inner : List Slot) → entered env (assumed_type d) ≡ Ok inner →
      IsEnvironment inner × (length inner ≡ suc (length env))
  assumed_tells scoped inner e =
      let both = entered_by (nat_le (length env + length (own_slot (assumed_type d) ∷ [])) (2 ^ 31)) env inner (own_slot (assumed_type d)) e in
      let fits = both.0 in
      let room : length env < 2 ^ 31 = grind (arith, nat_tests, fits) in
      let count = length-append env (own_slot (assumed_type d) ∷ []) in
      let long : length (env ++ (own_slot (assumed_type d) ∷ [])) ≡ suc (length env) = omega (arith, count) in
      (subst IsEnvironment both.1 (assumed_is env d is room scoped), ap length (sym both.1) ∙ long)

  good : (s : Sort) (o : Opened) (sorts : List ℕ) (inner : List Slot) (q : CtorSorts) → IsOpen (length env) [] [] d.params o →
      IsJudged (length o.ctx) (length env) d.arity sorts → length inner ≡ suc (length env) → AreRowsIn (length o.ctx) (length inner) d.ctors q →
      IsGood (checked d env s q.rows (union (union o.used sorts) q.used))
  unfolding IsGood
  good s o sorts inner q h j long k =
      let used = union (union o.used sorts) q.used in
      let counted = h.count in
      let params : length o.ctx ≡ length d.params = omega (arith, counted) in
      let rows : AreNames (suc (length env)) q.used = subst (λ m. AreNames m q.used) long k.names in
      let before : AreNames (suc (length env)) (union o.used sorts) = names_more (length env) (suc (length env)) (union o.used sorts) (omega arith) (names_union (length env) o.used sorts h.names j.names) in
      let names : AreNames (suc (length env)) used = names_union (suc (length env)) (union o.used sorts) q.used before rows in (
        refl,
        record {
          place = refl;
          arity = h.over d.arity j.term;
          ctors = subst (λ n. AreScopedCtors n (suc (length env)) d.ctors) params (subst (λ m. AreScopedCtors (length o.ctx) m d.ctors) long k.ctors);
          names = record { ascending = ascending_without (length env) used names.ascending; before = before_without (length env) used names.before };
          uses = uses_all used (length env ∷ without (length env) used) (decl_terms d) (λ c e. has_without (length env) c used e)
              (uses_append used (hyp_types d.params) (d.arity ∷ ctor_types d.ctors)
              (uses_all o.used used (hyp_types d.params) (λ c e. union_first (union o.used sorts) q.used c (union_first o.used sorts c e)) h.uses) (
                uses_first (union o.used sorts) q.used d.arity (uses_second o.used sorts d.arity j.uses),
                uses_all q.used used (ctor_types d.ctors) (union_second (union o.used sorts) q.used) k.uses,
              ));
        },
      )

  family_tells : (s : Sort) → Tells (check_family d env calls s) IsGood
  family_tells s =
      tells_bind (open_tells env is calls d.params [] [] tt (record { ascending = tt; before = tt })) (λ o h.
      tells_bind (scope_of_sorts env is calls o.ctx h.scoped d.arity) (λ a j.
      tells_step (check_size (type_of_decl d)) (tells_bind (tells_give (entered env (assumed_type d)) (assumed_tells (h.over d.arity j.term))) (λ inner both.
      tells_bind (rows_tells inner both.0 d (length env) calls o.ctx d.ctors (inner_hyps o.ctx inner h.scoped both.1)) (λ q k.
      tells_step (require (are_positive (length env) (params_of d) d.ctors) 32) (tells_step (require (rows_fit s q.rows) 33)
      (tells_pure (checked d env s q.rows (union (union o.used a.used) q.used)) (good s o a.used inner q h j both.1 k)))))))) where
        inner_hyps : (ctx : List Hyp) (inner : List Slot) → IsScopedContext (length env) ctx → length inner ≡ suc (length env) → IsScopedContext (length inner) ctx
        inner_hyps ctx inner hyps long = hyps_more (length env) (length inner) ctx (omega (arith, long)) hyps

  inductive_tells : Tells (check_inductive_at env calls d) IsGood
  inductive_tells =
      tells_step (forbid (has_twice (names_of d)) 34) (tells_step (forbid (any_taken env (names_of d)) 25)
      (tells_bind {P = λ _. Unit {0}} (tells_some 30 (sort_at_end (end_of_products d.arity)) (λ s e. tt)) (λ s k. family_tells s)))

pub scope_of_inductives : ScopeOfInductives
unfolding IsGood
scope_of_inductives env is c given = ((inductive_tells env is given.calls c.decl).tells given.units c given.given).1
