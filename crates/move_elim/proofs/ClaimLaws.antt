-- Where a claim stands, and when too many hypotheses are generalised.
use Rattle.std.specs.Prelude.{◌≡◌, ℕ, suc, ◌+◌, ◌^◌, ◌≤◌, ◌<◌, List, [], ◌∷◌, ◌++◌, length, Bool, true, false, Option, Some, None, Ok, Err, slice_get, if◌then◌else◌, refl}
use Rattle.std.proofs.Common.{arith, sym, ◌∙◌}
use Rattle.std.proofs.lemmas.Bool.Decides.{nat_tests}
use Rattle.base_core.specs.declared.refusals.Stop.TheVariants.{Out}
use Rattle.base_core.specs.declared.refusals.Limit.TheVariants.{SizeLimit}
use Rattle.core_term.specs.Tree.{Tree, depth_of, is_small}
use Rattle.core_term.specs.Places.{lift_of}
use Rattle.cic_rules.specs.declared.context.Hyp.{Hyp}
use Rattle.cic_rules.specs.declared.decls.InductiveDecl.{InductiveDecl}
use Rattle.cic_rules.specs.Contexts.{lifted_type, value_of_variable}
use Rattle.cic_rules.specs.Eliminators.{is_in_prop}
use Rattle.cic_rules.specs.Scopes.{AreBefore}
use Rattle.cic_rules.specs.Steps.{TooLarge, step_then, answer_of}
use Rattle.move_elim.specs.declared.claims.Claim.{Claim}
use Rattle.move_elim.specs.declared.sites.Site.{Site}
use Rattle.move_elim.specs.declared.subjects.Subject.{Subject}
use Rattle.move_elim.specs.Claims.{bound_variables, claim_site, claim_with, claim_of}
use Rattle.move_elim.specs.Generalised.{under_value, placed_if_any, under_hyp, generalised}
use Rattle.move_elim.specs.Scopes.{IsSite}
use Rattle.move_elim.specs.Sites.{placed, own_site, stand_for, stand_for_all}
use Rattle.move_elim.proofs.ScopesOfParts.{all_standing, all_deep, all_levels, count_bound, got_none_hyp}
use Rattle.move_elim.proofs.SiteLaws.{levels_before, levels_length}

pub own_levels : (n : ℕ) → length (own_site n).levels ≡ n
own_levels n = levels_length n

standing_last : (is : List ℕ) (v : ℕ) (s : Site) → stand_for_all (is ++ (v ∷ [])) s ≡ stand_for v (stand_for_all is s)
standing_last [] v s = refl
standing_last (i ∷ is) v s = standing_last is v (stand_for i s)

pub site_of_prop : (n : ℕ) (x : Subject) → stand_for_all x.indices (own_site n) ≡ claim_site n true x
site_of_prop n x = refl

pub site_of_value : (n : ℕ) (x : Subject) → stand_for x.variable (stand_for_all x.indices (own_site n)) ≡ claim_site n false x
site_of_value n x = sym (standing_last x.indices x.variable (own_site n))

bound_few : (b : Bool) (x : Subject) → length x.indices ≤ 1000 → length (bound_variables b x) ≤ 1001
bound_few true x few = omega (arith, few)
bound_few false x few = let e = count_bound false x in omega (arith, few, e)

claim_depth : (n : ℕ) (b : Bool) (x : Subject) → length x.indices ≤ 1000 → (claim_site n b x).depth ≤ n + 1001
claim_depth n b x few = let deep = all_deep (bound_variables b x) (own_site n) in let count = bound_few b x few in omega (arith, deep, count)

pub is_claim_site : (n : ℕ) (b : Bool) (x : Subject) → n ≤ 2 ^ 31 → length x.indices ≤ 1000 → IsSite (claim_site n b x)
is_claim_site n b x short few =
    let deep = claim_depth n b x few in
    record { above = all_standing (bound_variables b x) (own_site n) (levels_before n); room = omega (arith, deep, short) }

pub claim_levels : (n : ℕ) (b : Bool) (x : Subject) → length (claim_site n b x).levels ≡ n
claim_levels n b x = all_levels (bound_variables b x) (own_site n) ∙ levels_length n

pub claim_room : (n : ℕ) (b : Bool) (x : Subject) (moved : List ℕ) → n ≤ 2 ^ 31 → length x.indices ≤ 1000 → length moved ≤ 1000 →
    (claim_site n b x).depth + length moved ≤ 2 ^ 31 + 3000
claim_room n b x moved short few some = let deep = claim_depth n b x few in omega (arith, deep, short, some)

-- a goal under many binders is too deep
value_deep : (name : List ℕ) (a : Tree) (v : Option Tree) (t : Tree) (k : ℕ) → k ≤ depth_of t → suc k ≤ depth_of (under_value name a v t)
value_deep name a None t k le = omega (arith, le)
value_deep name a (Some v) t k le = omega (arith, le)

hyp_deep : (ctx : List Hyp) (s : Site) (i : ℕ) (t : Tree) (k : ℕ) (found : Option Hyp) → slice_get ctx i ≡ found → i < length ctx → k ≤ depth_of t →
    suc k ≤ depth_of (under_hyp s found (lifted_type i found) (value_of_variable ctx i) t)
hyp_deep ctx s i t k None e lt le = let beyond = got_none_hyp i ctx e in absurd (omega (arith, lt, beyond))
hyp_deep ctx s i t k (Some h) e lt le = value_deep h.name (placed s (lift_of h.ty (suc i) 0)) (placed_if_any s (value_of_variable ctx i)) t k le

deep : (ctx : List Hyp) (s : Site) (places : List ℕ) (goal : Tree) → AreBefore (length ctx) places → length places ≤ depth_of (generalised ctx s places goal)
deep ctx s [] goal before = omega arith
deep ctx s (i ∷ is) goal before =
    hyp_deep ctx s i (generalised ctx (stand_for i s) is goal) (length is) (slice_get ctx i) refl before.0 (deep ctx (stand_for i s) is goal before.1)

stopped_by : (b : Bool) (t : Tree) (f : Tree → Claim) → b ≡ false →
    answer_of (step_then (if b then Ok t else Err TooLarge) (λ u. Ok (f u))) ≡ Err (Out SizeLimit)
stopped_by true t f e = cc
stopped_by false t f e = refl

pub too_many_moved : (ctx : List Hyp) (goal : Tree) (d : InductiveDecl) (x : Subject) (moved : List ℕ) → 1000 < length moved → AreBefore (length ctx) moved →
    Err (Out SizeLimit) ≡ answer_of (claim_of ctx goal d x moved)
too_many_moved ctx goal d x moved many before =
    let s : Site = claim_site (length ctx) (is_in_prop d) x in
    let below = deep ctx s moved goal before in
    let large : is_small (generalised ctx s moved goal) ≡ false = grind (arith, nat_tests, below, many) in
    sym (stopped_by (is_small (generalised ctx s moved goal)) (generalised ctx s moved goal) (claim_with (length ctx) d x (length moved)) large)
