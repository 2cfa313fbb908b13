-- Passes over the hypotheses, one by one.
use Rattle.std.specs.Prelude.{◌≡◌, ℕ, zero, suc, ◌+◌, ◌-◌, ◌==◌, ◌<◌, ◌≤◌, List, [], ◌∷◌, length, drop, Bool, true, false, ◌||◌, Option, Some, None, slice_get, if◌then◌else◌, refl}
use Rattle.std.proofs.Common.{ap, sym, ◌∙◌, subst, arith}
use Rattle.std.proofs.lemmas.Bool.Decides.{nat_tests}
use Rattle.coq_syntax.specs.declared.moves.PatternCase.{PatternCase}
use Rattle.coq_syntax.specs.Forms.{cases_of}
use Rattle.core_term.specs.declared.sorts.Sort.{Sort}
use Rattle.core_term.specs.Tree.{Tree}
use Rattle.cic_rules.specs.declared.context.Hyp.{Hyp}
use Rattle.cic_rules.specs.declared.env.Slot.{Slot}
use Rattle.cic_rules.specs.Contexts.{renamed}
use Rattle.cic_rules.specs.Eliminators.{same_name}
use Rattle.cic_rules.specs.Environments.{entry_at}
use Rattle.cic_rules.specs.Scopes.{AreBefore}
use Rattle.move_elim.specs.declared.generalised.Marked.{Marked}
use Rattle.move_elim.specs.Claims.{if_eliminator}
use Rattle.move_elim.specs.Generalised.{next_marked, marked_from, hyp_mentions, is_mentioned}
use Rattle.move_elim.specs.Subjects.{if_plain, named_from, stands_in}
use Rattle.move_elim.proofs.Lists.{from_place, all_behind}

-- the search for a name: what is found here, what is found further on, and the end
pub named_here : (ctx : List Hyp) (i : ℕ) (h : Hyp) (name : List ℕ) (whole : Option ℕ) → Some h ≡ slice_get ctx i → same_name h.name name ≡ true →
    named_from i (drop i ctx) name ≡ whole → if_plain i h.value ≡ whole
named_here ctx i h name whole is same rest =
    ap (λ b. if b then if_plain i h.value else named_from (i + 1) (drop (i + 1) ctx) name) (sym same)
    ∙ ap (λ hs. named_from i hs name) (sym (from_place ctx i h is)) ∙ rest

pub named_on : (ctx : List Hyp) (i : ℕ) (h : Hyp) (name : List ℕ) (whole : Option ℕ) → Some h ≡ slice_get ctx i → same_name h.name name ≡ false →
    named_from i (drop i ctx) name ≡ whole → named_from (i + 1) (drop (i + 1) ctx) name ≡ whole
named_on ctx i h name whole is other rest =
    ap (λ b. if b then if_plain i h.value else named_from (i + 1) (drop (i + 1) ctx) name) (sym other)
    ∙ ap (λ hs. named_from i hs name) (sym (from_place ctx i h is)) ∙ rest

-- one more hypothesis is marked
one_marked : (taken : List ℕ) (ctx : List Hyp) (i : ℕ) (h : Hyp) (old new : Marked) → Some h ≡ slice_get ctx i →
    old ≡ marked_from taken (i + 1) (drop (i + 1) ctx) → new ≡ next_marked taken i h old → new ≡ marked_from taken i (drop i ctx)
one_marked taken ctx i h old new is before made =
    made ∙ ap (next_marked taken i h) before ∙ ap (λ hs. marked_from taken i hs) (sym (from_place ctx i h is))

at_place : (taken : List ℕ) (ctx : List Hyp) (k at : ℕ) (h : Hyp) (old new : Marked) → at ≡ k + 1 → Some h ≡ slice_get ctx k →
    old ≡ marked_from taken at (drop at ctx) → new ≡ next_marked taken k h old → new ≡ marked_from taken k (drop k ctx)
at_place taken ctx k at h old new e is before made =
    one_marked taken ctx k h old new is (subst (λ n. old ≡ marked_from taken n (drop n ctx)) e before) made

pub marked_before : (taken : List ℕ) (ctx : List Hyp) (at : ℕ) (h : Hyp) (old new : Marked) → 0 < at → at ≤ length ctx → Some h ≡ slice_get ctx (at - 1) →
    old ≡ marked_from taken at (drop at ctx) → new ≡ next_marked taken (at - 1) h old →
    (new ≡ marked_from taken (at - 1) (drop (at - 1) ctx)) × (at - 1 ≤ length ctx)
marked_before taken ctx at h old new more le is before made =
    (at_place taken ctx (at - 1) at h old new (omega (arith, more)) is before made, omega (arith, le))

-- whether a newer hypothesis mentions a variable
mentioned_by : (ctx : List Hyp) (at : ℕ) (h : Hyp) (i : ℕ) → Some h ≡ slice_get ctx at → at < i →
    is_mentioned (drop at ctx) (i - at) ≡ (hyp_mentions h (i - at - 1) || is_mentioned (drop (at + 1) ctx) (i - (at + 1)))
mentioned_by ctx at h i is lt =
    let more : i - at ≡ suc (i - at - 1) = omega (arith, lt) in
    let next : i - at - 1 ≡ i - (at + 1) = omega (arith, lt) in
    ap (λ hs. is_mentioned hs (i - at)) (from_place ctx at h is) ∙ ap (is_mentioned (h ∷ drop (at + 1) ctx)) more
    ∙ ap (λ n. hyp_mentions h (i - at - 1) || is_mentioned (drop (at + 1) ctx) n) next

pub mentioned_here : (ctx : List Hyp) (at : ℕ) (h : Hyp) (i : ℕ) (whole : Bool) → Some h ≡ slice_get ctx at → at < i →
    hyp_mentions h (i - at - 1) ≡ true → is_mentioned (drop at ctx) (i - at) ≡ whole → true ≡ whole
mentioned_here ctx at h i whole is lt does rest =
    ap (λ b. b || is_mentioned (drop (at + 1) ctx) (i - (at + 1))) (sym does) ∙ sym (mentioned_by ctx at h i is lt) ∙ rest

pub mentioned_on : (ctx : List Hyp) (at : ℕ) (h : Hyp) (i : ℕ) (whole : Bool) → Some h ≡ slice_get ctx at → at < i →
    hyp_mentions h (i - at - 1) ≡ false → is_mentioned (drop at ctx) (i - at) ≡ whole → is_mentioned (drop (at + 1) ctx) (i - (at + 1)) ≡ whole
mentioned_on ctx at h i whole is lt does rest =
    ap (λ b. b || is_mentioned (drop (at + 1) ctx) (i - (at + 1))) (sym does) ∙ sym (mentioned_by ctx at h i is lt) ∙ rest

at_end : (hs : List Hyp) (n : ℕ) → n ≡ 0 → is_mentioned hs n ≡ false
at_end [] n e = refl
at_end (h ∷ hs) n e = subst (λ k. is_mentioned (h ∷ hs) k ≡ false) (sym e) refl

pub mentioned_end : (ctx : List Hyp) (at i : ℕ) (whole : Bool) → i ≤ at → is_mentioned (drop at ctx) (i - at) ≡ whole → false ≡ whole
mentioned_end ctx at i whole le rest = let none : i - at ≡ 0 = omega (arith, le) in sym (at_end (drop at ctx) (i - at) none) ∙ rest

pub mentioned_none : (ctx : List Hyp) (at i : ℕ) (whole : Bool) → None ≡ slice_get ctx at → is_mentioned (drop at ctx) (i - at) ≡ whole → false ≡ whole
mentioned_none [] zero i whole e rest = rest
mentioned_none [] (suc at) i whole e rest = rest
mentioned_none (h ∷ hs) zero i whole e rest = cc
mentioned_none (h ∷ hs) (suc at) i whole e rest =
    let less : i - suc at ≡ (i - 1) - at = omega arith in
    mentioned_none hs at (i - 1) whole e (ap (is_mentioned (drop at hs)) (sym less) ∙ rest)

-- terms from a place on
pub none_stand : (ts : List Tree) (at i : ℕ) → length ts ≤ at → false ≡ stands_in (drop at ts) i
none_stand ts at i le = ap (λ us. stands_in us i) (sym (all_behind ts at le))

pub none_got : (ts : List Tree) (at i : ℕ) → None ≡ slice_get ts at → false ≡ stands_in (drop at ts) i
none_got [] zero i e = refl
none_got [] (suc at) i e = refl
none_got (t ∷ ts) zero i e = cc
none_got (t ∷ ts) (suc at) i e = none_got ts at i e

-- a number is the sum of two
pub is_sum : (n p k : ℕ) → p ≤ n → (n - p == k) ≡ (n == p + k)
is_sum n p k le = grind (arith, nat_tests, le)

pub is_no_sum : (n p k : ℕ) → n < p → false ≡ (n == p + k)
is_no_sum n p k lt = grind (arith, nat_tests, lt)

-- places of a context with another name
pub length_renamed : (ctx : List Hyp) (i : ℕ) (n : List ℕ) → length (renamed ctx i n) ≡ length ctx
length_renamed [] i n = refl
length_renamed (h ∷ hs) zero n = refl
length_renamed (h ∷ hs) (suc i) n = ap suc (length_renamed hs i n)

pub before_renamed : (ctx : List Hyp) (i : ℕ) (n : List ℕ) (places : List ℕ) → AreBefore (length ctx) places → AreBefore (length (renamed ctx i n)) places
before_renamed ctx i n places h = subst (λ k. AreBefore k places) (sym (length_renamed ctx i n)) h

-- the cases of a pattern
pub count_cases : (cs : List PatternCase) → length (cases_of cs) ≡ length cs
count_cases [] = refl
count_cases (c ∷ cs) = ap suc (count_cases cs)

-- where no global stands
none_at : (env : List Slot) (at : ℕ) → length env ≤ at → entry_at env at ≡ None
none_at [] at le = refl
none_at (s ∷ ss) zero le = absurd (omega (arith, le))
none_at (s ∷ ss) (suc at) le = none_at ss at (omega (arith, le))

pub no_eliminator : (env : List Slot) (place : ℕ) (sort : Sort) (at : ℕ) → length env ≤ at → None ≡ if_eliminator place sort at (entry_at env at)
no_eliminator env place sort at le = ap (if_eliminator place sort at) (sym (none_at env at le))
