-- What stands in scope of a claim at a site.
use Rattle.std.specs.Prelude.{◌≡◌, ℕ, zero, suc, ◌+◌, ◌-◌, ◌^◌, ◌≤◌, ◌<◌, nat_lt, List, [], ◌∷◌, length, drop, Option, Some, None, Ok, Bool, true, false, slice_get, if◌then◌else◌, refl}
use Rattle.std.proofs.Common.{arith, ap, sym, ◌∙◌, subst}
use Rattle.std.proofs.lemmas.Bool.Decides.{nat_tests}
use Rattle.core_term.specs.Tree.{Tree, Var, Sorted, Constant, Prod, Lam, LetIn, App, IsTerm, IsNumbered, free_bound, depth_of}
use Rattle.core_term.specs.Places.{lift_of}
use Rattle.core_term.proofs.FreeVariables.{numbered}
use Rattle.cic_rules.specs.Families.{newest_first, indices}
use Rattle.cic_rules.specs.Scopes.{IsScoped, AreScoped, AreBefore}
use Rattle.cic_rules.specs.Steps.{answer_of}
use Rattle.cic_rules.proofs.ScopeLaws.{scoped_free, scoped_lift, scoped_eta, scoped_get, scoped_drop, scoped_arguments, scoped_instantiate, scoped_instantiate_all}
use Rattle.term_spine.specs.Instantiate.{instantiate, instantiate_under, instantiated_variable}
use Rattle.term_spine.specs.Spine.{arguments_of, eta_body}
use Rattle.term_spine.specs.SpineLaws.{AreShallow}
use Rattle.term_spine.proofs.Instantiations.{instantiate_depth}
use Rattle.move_elim.specs.declared.claims.Claim.{Claim}
use Rattle.move_elim.specs.declared.sites.Site.{Site}
use Rattle.move_elim.specs.Cases.{hypothesis}
use Rattle.move_elim.specs.Claims.{index_values, with_value, binder_values, count_binders, claim_at}
use Rattle.move_elim.specs.Scopes.{Has, IsSite, MayPlace, IsClaimAt}
use Rattle.move_elim.specs.Sites.{site_values, placed, placed_all, with_variable}
use Rattle.move_elim.specs.Steps.{sized}
use Rattle.move_elim.proofs.SiteLaws.{values_length, values_scoped, before_more}
use Rattle.move_elim.proofs.StepLaws.{has_sized, has_bind, answered}

-- values for the first variables alone: the others come down
got_none : (i : ℕ) (ts : List Tree) → slice_get ts i ≡ None → length ts ≤ i
got_none i [] e = omega arith
got_none zero (t ∷ ts) e = cc
got_none (suc i) (t ∷ ts) e = let rest = got_none i ts e in omega (arith, rest)

few_found : (n m p q binders i : ℕ) (values : List Tree) (found : Option Tree) → slice_get values (i - binders) ≡ found →
    p ≡ n + length values + binders → q ≡ n + binders → i < p → binders ≤ i → AreScoped n m values →
    IsScoped q m (instantiated_variable found i (length values) binders)
few_found n m p q binders i values None is e f h above all = let beyond = got_none (i - binders) values is in omega (arith, e, f, h, above, beyond)
few_found n m p q binders i values (Some v) is e f h above all = scoped_lift n q m binders 0 v f (scoped_get n m (i - binders) values v is all)

few_variable : (b : Bool) (n m p q binders i : ℕ) (values : List Tree) → nat_lt i binders ≡ b →
    p ≡ n + length values + binders → q ≡ n + binders → i < p → AreScoped n m values →
    IsScoped q m (if b then Var i else instantiated_variable (slice_get values (i - binders)) i (length values) binders)
few_variable true n m p q binders i values is e f h all = let low : i < binders = grind (arith, nat_tests, is) in omega (arith, low, f)
few_variable false n m p q binders i values is e f h all =
    let above : binders ≤ i = grind (arith, nat_tests, is) in
    few_found n m p q binders i values (slice_get values (i - binders)) refl e f h above all

few_scoped : (n m p q binders : ℕ) (values : List Tree) (t : Tree) → p ≡ n + length values + binders → q ≡ n + binders →
    IsScoped p m t → AreScoped n m values → IsScoped q m (instantiate_under values t binders)
few_scoped n m p q binders values (Var i) e f h all = few_variable (nat_lt i binders) n m p q binders i values refl e f h all
few_scoped n m p q binders values (Sorted s) e f h all = tt
few_scoped n m p q binders values (Constant c) e f h all = h
few_scoped n m p q binders values (Prod x a b) e f h all = (
  few_scoped n m p q binders values a e f h.0 all,
  few_scoped n m (suc p) (suc q) (binders + 1) values b (omega (arith, e)) (omega (arith, f)) h.1 all,
)
few_scoped n m p q binders values (Lam x a b) e f h all = (
  few_scoped n m p q binders values a e f h.0 all,
  few_scoped n m (suc p) (suc q) (binders + 1) values b (omega (arith, e)) (omega (arith, f)) h.1 all,
)
few_scoped n m p q binders values (LetIn x a t b) e f h all = (
  few_scoped n m p q binders values a e f h.0 all,
  few_scoped n m p q binders values t e f h.1 all,
  few_scoped n m (suc p) (suc q) (binders + 1) values b (omega (arith, e)) (omega (arith, f)) h.2 all,
)
few_scoped n m p q binders values (App g a) e f h all = (few_scoped n m p q binders values g e f h.0 all, few_scoped n m p q binders values a e f h.1 all)

-- the values of a claim
pub newest_scoped : (n m : ℕ) (ts later : List Tree) → AreScoped n m ts → AreScoped n m later → AreScoped n m (newest_first ts later)
newest_scoped n m [] later h all = all
newest_scoped n m (t ∷ ts) later h all = newest_scoped n m ts (t ∷ later) h.1 (h.0, all)

pub newest_length : (ts later : List Tree) → length (newest_first ts later) ≡ length ts + length later
newest_length [] later = omega arith
newest_length (t ∷ ts) later = let rest = newest_length ts (t ∷ later) in omega (arith, rest)

values_scope : (n m by below : ℕ) (is : List ℕ) (ts : List Tree) → n ≡ below + by → AreBefore below is → AreScoped n m ts → AreScoped n m (index_values by is ts)
values_scope n m by below [] ts e h all = tt
values_scope n m by below (i ∷ is) [] e h all = let lt = h.0 in (omega (arith, lt, e), values_scope n m by below is [] e h.1 tt)
values_scope n m by below (i ∷ is) (t ∷ ts) e h all = (all.0, values_scope n m by below is ts e h.1 all.1)

values_count : (by : ℕ) (is : List ℕ) (ts : List Tree) → length (index_values by is ts) ≡ length is
values_count by [] ts = refl
values_count by (i ∷ is) [] = ap suc (values_count by is [])
values_count by (i ∷ is) (t ∷ ts) = ap suc (values_count by is ts)

with_scoped : (b : Bool) (n m : ℕ) (x : Tree) (ts : List Tree) → IsScoped n m x → AreScoped n m ts → AreScoped n m (with_value b x ts)
with_scoped true n m x ts h all = all
with_scoped false n m x ts h all = (h, all)

with_length : (b : Bool) (x : Tree) (ts : List Tree) (k : ℕ) → length ts ≡ k → length (with_value b x ts) ≡ (if b then k else k + 1)
with_length true x ts k e = e
with_length false x ts k e = omega (arith, e)

pub indices_scoped : (n m params : ℕ) (t : Tree) → IsScoped n m t → AreScoped n m (drop params (arguments_of t))
indices_scoped n m params t h = scoped_drop n m params (arguments_of t) (scoped_arguments n m t h)

placed_all_scoped : (m : ℕ) (s : Site) (ts : List Tree) → AreBefore s.depth s.levels → AreScoped (length s.levels) m ts → AreScoped s.depth m (placed_all s ts)
placed_all_scoped m s ts above h =
    scoped_instantiate_all s.depth m (length s.levels) (site_values s) ts (sym (values_length s.depth s.levels)) h (values_scoped m s.depth s.levels above)

pub placed_in : (m : ℕ) (s : Site) (t : Tree) → AreBefore s.depth s.levels → IsScoped (length s.levels) m t → IsScoped s.depth m (placed s t)
placed_in m s t above h =
    scoped_instantiate s.depth m (length s.levels) (site_values s) t (sym (values_length s.depth s.levels)) h (values_scoped m s.depth s.levels above)

few_count : (b : Bool) (k : ℕ) → k ≤ 1000 → (if b then k else k + 1) ≤ 1001
few_count true k few = omega (arith, few)
few_count false k few = omega (arith, few)

pub count_few : (c : Claim) → length c.indices ≤ 1000 → count_binders c ≤ 1001
count_few c few = few_count c.is_prop (length c.indices) few

-- a claim at a site is in scope there
pub claim_scoped : (m : ℕ) (c : Claim) (s : Site) (x t : Tree) → IsClaimAt m c s x t →
    IsScoped s.depth m (claim_at c s.depth (placed_all s (indices c.params t)) x)
claim_scoped m c s x t is =
    let by : ℕ = s.depth - c.below in
    let below = is.below in
    let ts : List Tree = placed_all s (indices c.params t) in
    let all : AreScoped s.depth m ts = placed_all_scoped m s (indices c.params t) is.above (indices_scoped (length s.levels) m c.params t is.term) in
    let one : AreScoped s.depth m (index_values by c.indices ts) = values_scope s.depth m by c.below c.indices ts (omega (arith, below)) is.claim.indices all in
    let two : AreScoped s.depth m (newest_first (index_values by c.indices ts) []) = newest_scoped s.depth m (index_values by c.indices ts) [] one tt in
    let three : AreScoped s.depth m (binder_values c by ts x) = with_scoped c.is_prop s.depth m x (newest_first (index_values by c.indices ts) []) is.value two in
    let k : length (newest_first (index_values by c.indices ts) []) ≡ length c.indices =
    newest_length (index_values by c.indices ts) [] ∙ (let zero_more : length (index_values by c.indices ts) + 0 ≡ length (index_values by c.indices ts) = omega arith in
    zero_more) ∙ values_count by c.indices ts in
    let count : length (binder_values c by ts x) ≡ count_binders c = with_length c.is_prop x (newest_first (index_values by c.indices ts) []) (length c.indices) k in
    let lifted : IsScoped (s.depth + count_binders c) m (lift_of c.body by (count_binders c)) =
    scoped_lift (c.below + count_binders c) (s.depth + count_binders c) m by (count_binders c) c.body (omega (arith, below)) is.claim.body in
    few_scoped s.depth m (s.depth + count_binders c) s.depth 0 (binder_values c by ts x) (lift_of c.body by (count_binders c)) (omega (arith, count)) (omega arith)
    lifted three

-- so code may make it
pub body_few : (m : ℕ) (c : Claim) (s : Site) (x t : Tree) → IsSite s → IsClaimAt m c s x t → length c.indices ≤ 1000 →
    free_bound c.body + (s.depth - c.below) ≤ 2 ^ 31 + 5000
body_few m c s x t site is indices_few =
    let free = scoped_free (c.below + count_binders c) m c.body is.claim.body in
    let few = count_few c indices_few in
    let below = is.below in let room = site.room in
    omega (arith, free, few, below, room)

numbered_by : (n m : ℕ) (values : List Tree) (t : Tree) → IsScoped n m (instantiate values t) → n ≤ 2 ^ 31 + 3000 → AreShallow 1000 values → depth_of t ≤ 1000 →
    IsNumbered (instantiate values t)
numbered_by n m values t scoped room shallow depth =
    let deep = instantiate_depth values t 0 1000 shallow in
    numbered (instantiate values t) n (scoped_free n m (instantiate values t) scoped) (omega (arith, deep, depth, room))

pub claim_numbered : (m : ℕ) (c : Claim) (s : Site) (x t : Tree) (values : List Tree) (body : Tree) → IsSite s → IsClaimAt m c s x t →
    values ≡ binder_values c (s.depth - c.below) (placed_all s (indices c.params t)) x → body ≡ lift_of c.body (s.depth - c.below) (count_binders c) →
    AreShallow 1000 values → IsTerm body → IsNumbered (instantiate values body)
claim_numbered m c s x t values body site is e f shallow term =
    let whole : instantiate (binder_values c (s.depth - c.below) (placed_all s (indices c.params t)) x) (lift_of c.body (s.depth - c.below) (count_binders c)) ≡ instantiate values body =
    ap (λ vs. instantiate vs (lift_of c.body (s.depth - c.below) (count_binders c))) (sym e) ∙ ap (instantiate values) (sym f) in
    numbered_by s.depth m values body (subst (IsScoped s.depth m) whole (claim_scoped m c s x t is)) site.room shallow term.shallow

-- the values one by one
pub first_placed : (m : ℕ) (s : Site) (args rest : List Tree) (first : Tree) → args ≡ first ∷ rest → IsSite s → AreScoped (length s.levels) m args → MayPlace m s first
first_placed m s args rest first e site all = let both : AreScoped (length s.levels) m (first ∷ rest) = subst (AreScoped (length s.levels) m) e all in record { site = site; term = both.0 }

pub rest_scoped : (n m : ℕ) (args rest : List Tree) (first : Tree) → args ≡ first ∷ rest → AreScoped n m args → AreScoped n m rest
rest_scoped n m args rest first e all = let both : AreScoped n m (first ∷ rest) = subst (AreScoped n m) e all in both.1

pub index_numbered : (s : Site) (by i : ℕ) → IsSite s → by ≤ s.depth → i < s.depth - by → i + by < 2 ^ 32
index_numbered s by i site le lt = let room = site.room in omega (arith, room, le, lt)

pub places_before : (depth below : ℕ) (is : List ℕ) → below ≤ depth → AreBefore below is → AreBefore (depth - (depth - below)) is
places_before depth below is le h = let e : below ≡ depth - (depth - below) = omega (arith, le) in subst (λ k. AreBefore k is) e h

-- under a product of a recursive argument
pub may_place : (m : ℕ) (c : Claim) (s : Site) (x : Tree) (n : List ℕ) (a b : Tree) → IsSite s → IsClaimAt m c s x (Prod n a b) → MayPlace m s a
may_place m c s x n a b site is = record { site = site; term = is.term.0 }

pub site_deeper : (s : Site) (k : ℕ) → IsSite s → s.depth + 1 + k ≤ 2 ^ 31 + 3000 → IsSite (with_variable s)
site_deeper s k site room = record { above = (omega arith, before_more s.depth s.levels site.above); room = omega (arith, room) }

pub value_few : (m : ℕ) (c : Claim) (s : Site) (x t : Tree) → IsSite s → IsClaimAt m c s x t → free_bound x + 1 ≤ 2 ^ 31 + 5000
value_few m c s x t site is = let free = scoped_free s.depth m x is.value in let room = site.room in omega (arith, free, room)

deeper_at : (m : ℕ) (c : Claim) (s : Site) (x : Tree) (n : List ℕ) (a b : Tree) → IsClaimAt m c s x (Prod n a b) → IsClaimAt m c (with_variable s) (eta_body x) b
deeper_at m c s x n a b is =
    let up : suc s.depth ≡ s.depth + 1 = omega arith in
    let below = is.below in
    record {
      claim = is.claim;
      above = (omega arith, before_more s.depth s.levels is.above);
      below = omega (arith, below);
      value = subst (λ k. IsScoped k m (eta_body x)) up (scoped_eta s.depth m x is.value);
      term = is.term.1;
    }

pub claim_deeper : (m : ℕ) (c : Claim) (s : Site) (x u : Tree) (n : List ℕ) (a b : Tree) → IsClaimAt m c s x (Prod n a b) → Ok u ≡ answer_of (sized (eta_body x)) →
    IsClaimAt m c (with_variable s) u b
claim_deeper m c s x u n a b is e = answered {P = λ y. IsClaimAt m c (with_variable s) y b} u (has_sized (eta_body x) (deeper_at m c s x n a b is)) e

-- all that the code asks for under a product
pub under_product : (m : ℕ) (c : Claim) (s inner : Site) (x u : Tree) (n : List ℕ) (a b : Tree) → inner ≡ with_variable s → IsSite s →
    IsClaimAt m c s x (Prod n a b) → Ok u ≡ answer_of (sized (eta_body x)) → length c.indices ≤ 1000 → s.depth + 1 + depth_of b ≤ 2 ^ 31 + 3000 →
    IsSite inner × (IsClaimAt m c inner u b × ((length c.indices ≤ 1000) × (inner.depth + depth_of b ≤ 2 ^ 31 + 3000)))
under_product m c s inner x u n a b same site is e few room =
    subst (λ z. IsSite z × (IsClaimAt m c z u b × ((length c.indices ≤ 1000) × (z.depth + depth_of b ≤ 2 ^ 31 + 3000)))) (sym same)
    (site_deeper s (depth_of b) site room, (claim_deeper m c s x u n a b is e, (few, room)))

-- what a hypothesis says is in scope
pub hypothesis_scoped : (m : ℕ) (c : Claim) (s : Site) (x t : Tree) → IsClaimAt m c s x t → Has (hypothesis c s x t) (IsScoped s.depth m)
hypothesis_scoped m c s x (Prod n a b) is =
    has_bind (has_sized (eta_body x) (deeper_at m c s x n a b is)) (λ deeper inner.
    has_bind (hypothesis_scoped m c (with_variable s) deeper b inner) (λ body one.
    let down : s.depth + 1 ≡ suc s.depth = omega arith in
    has_sized (Prod n (placed s a) body) (placed_in m s a is.above is.term.0, subst (λ k. IsScoped k m body) down one)))
hypothesis_scoped m c s x (Var i) is = has_sized _ (claim_scoped m c s x (Var i) is)
hypothesis_scoped m c s x (Sorted l) is = has_sized _ (claim_scoped m c s x (Sorted l) is)
hypothesis_scoped m c s x (Constant k) is = has_sized _ (claim_scoped m c s x (Constant k) is)
hypothesis_scoped m c s x (Lam n a b) is = has_sized _ (claim_scoped m c s x (Lam n a b) is)
hypothesis_scoped m c s x (LetIn n a u b) is = has_sized _ (claim_scoped m c s x (LetIn n a u b) is)
hypothesis_scoped m c s x (App f a) is = has_sized _ (claim_scoped m c s x (App f a) is)
