-- What stands in scope of a walk over a constructor's type.
use Rattle.std.specs.Prelude.{◌≡◌, ℕ, suc, ◌+◌, ◌^◌, ◌≤◌, List, ◌∷◌, length, Ok, refl}
use Rattle.std.proofs.Common.{arith, ap, sym, subst}
use Rattle.core_term.specs.Tree.{Tree, Var, Prod, IsTerm, free_bound, depth_of}
use Rattle.cic_rules.specs.declared.context.Hyp.{Hyp}
use Rattle.cic_rules.specs.declared.env.Slot.{Slot}
use Rattle.cic_rules.specs.Contexts.{plain_hyp}
use Rattle.cic_rules.specs.Families.{indices}
use Rattle.cic_rules.specs.Judges.{MayJudge, IsTermIn}
use Rattle.cic_rules.specs.Scopes.{IsScoped, IsScopedHyp}
use Rattle.cic_rules.specs.Steps.{answer_of}
use Rattle.cic_rules.proofs.ScopeLaws.{scoped_free, scoped_eta, scoped_shift}
use Rattle.term_spine.specs.Spine.{eta_body, shift}
use Rattle.move_elim.specs.declared.cases.Walk.{Walk}
use Rattle.move_elim.specs.declared.claims.Claim.{Claim}
use Rattle.move_elim.specs.Cases.{past_argument, past_hypothesis, hypothesis}
use Rattle.move_elim.specs.Claims.{claim_at}
use Rattle.move_elim.specs.Scopes.{Has, IsSite, MayPlace, IsClaimAt, IsWalkIn}
use Rattle.move_elim.specs.Sites.{placed, placed_all, with_binder, with_variable}
use Rattle.move_elim.specs.Steps.{sized}
use Rattle.move_elim.proofs.InstanceLaws.{placed_in, claim_scoped, hypothesis_scoped}
use Rattle.move_elim.proofs.SiteLaws.{before_more}
use Rattle.move_elim.proofs.StepLaws.{has_ok, has_bind, has_sized, has_entered, answered}

module _ (env : List Slot) (c : Claim) where
  pub site_in_walk : (w : Walk) (t : Tree) → IsWalkIn env c w t → length w.ctx ≤ 2 ^ 31 → IsSite w.site
  site_in_walk w t is short = let depth = is.depth in record { above = is.claim.above; room = omega (arith, depth, short) }

  pub domain_placed : (w : Walk) (n : List ℕ) (a b : Tree) → IsWalkIn env c w (Prod n a b) → length w.ctx ≤ 2 ^ 31 → MayPlace (length env) w.site a
  domain_placed w n a b is short = record { site = site_in_walk w (Prod n a b) is short; term = is.claim.term.0 }

  at_depth : (w : Walk) (t u : Tree) → IsWalkIn env c w t → IsScoped w.site.depth (length env) u → IsTermIn env w.ctx u
  at_depth w t u is scoped = subst (λ k. IsScoped k (length env) u) is.depth scoped

  pub in_place : (w : Walk) (n : List ℕ) (a b : Tree) → IsWalkIn env c w (Prod n a b) → IsTermIn env w.ctx (placed w.site a)
  in_place w n a b is = at_depth w (Prod n a b) (placed w.site a) is (placed_in (length env) w.site a is.claim.above is.claim.term.0)

  pub domain_in : (w : Walk) (n : List ℕ) (a b ty : Tree) → IsWalkIn env c w (Prod n a b) → ty ≡ placed w.site a → IsTermIn env w.ctx ty
  domain_in w n a b ty is e = subst (IsTermIn env w.ctx) (sym e) (in_place w n a b is)

  pub built_in : (w : Walk) (t : Tree) → IsWalkIn env c w t → IsTermIn env w.ctx w.built
  built_in w t is = at_depth w t w.built is is.claim.value

  -- where the claim is put for the constructor
  pub goal_here : (w : Walk) (t : Tree) → IsWalkIn env c w t → IsTermIn env w.ctx (claim_at c w.site.depth (placed_all w.site (indices c.params t)) w.built)
  goal_here w t is =
      at_depth w t (claim_at c w.site.depth (placed_all w.site (indices c.params t)) w.built) is (claim_scoped (length env) c w.site w.built t is.claim)

  pub goal_scoped : (w : Walk) (t goal : Tree) → IsWalkIn env c w t →
      Ok goal ≡ answer_of (sized (claim_at c w.site.depth (placed_all w.site (indices c.params t)) w.built)) → IsTermIn env w.ctx goal
  goal_scoped w t goal is e =
      answered {P = IsTermIn env w.ctx} goal (has_sized (claim_at c w.site.depth (placed_all w.site (indices c.params t)) w.built) (goal_here w t is)) e

  -- the hypothesis of an argument
  pub claim_at_argument : (w : Walk) (n : List ℕ) (a b : Tree) → IsWalkIn env c w (Prod n a b) → IsClaimAt (length env) c (with_binder w.site) (Var 0) a
  claim_at_argument w n a b is =
      let below = is.claim.below in
      record {
        claim = is.claim.claim;
        above = before_more w.site.depth w.site.levels is.claim.above;
        below = omega (arith, below);
        value = omega arith;
        term = is.claim.term.0;
      }

  pub site_of_argument : (w : Walk) (t : Tree) → IsWalkIn env c w t → length w.ctx ≤ 2 ^ 31 → IsSite (with_binder w.site)
  site_of_argument w t is short =
      let depth = is.depth in record { above = before_more w.site.depth w.site.levels is.claim.above; room = omega (arith, depth, short) }

  pub room_of_argument : (w : Walk) (t a : Tree) → IsWalkIn env c w t → length w.ctx ≤ 2 ^ 31 → IsTerm a → (with_binder w.site).depth + depth_of a ≤ 2 ^ 31 + 3000
  room_of_argument w t a is short term = let depth = is.depth in let shallow = term.shallow in omega (arith, depth, short, shallow)

  -- behind a binder
  plain_scoped : (ctx : List Hyp) (n : List ℕ) (ty : Tree) → IsTermIn env ctx ty → IsScopedHyp (length ctx) (length env) (plain_hyp n ty)
  plain_scoped ctx n ty scoped = record { ty = scoped; value = tt }

  judged_under : (ctx inner : List Hyp) (n : List ℕ) (ty : Tree) → MayJudge env ctx → IsTermIn env ctx ty → inner ≡ plain_hyp n ty ∷ ctx → MayJudge env inner
  judged_under ctx inner n ty judged scoped e = subst (MayJudge env) (sym e) (record { scoped = (plain_scoped ctx n ty scoped, judged.scoped) })

  longer : (ctx inner : List Hyp) (n : List ℕ) (ty : Tree) → inner ≡ plain_hyp n ty ∷ ctx → length inner ≡ suc (length ctx)
  longer ctx inner n ty e = ap length e

  deeper_walk : (w : Walk) (inner : List Hyp) (m n : List ℕ) (a b ty built : Tree) (names : List (List ℕ)) → IsWalkIn env c w (Prod n a b) → IsTermIn env w.ctx ty →
      inner ≡ plain_hyp m ty ∷ w.ctx → built ≡ eta_body w.built → IsWalkIn env c (record { site = with_variable w.site; ctx = inner; built = built; names = names }) b
  deeper_walk w inner m n a b ty built names is scoped e f =
      let depth = is.depth in let below = is.claim.below in let more = longer w.ctx inner m ty e in
      let up : suc w.site.depth ≡ w.site.depth + 1 = omega arith in
      record {
        judged = judged_under w.ctx inner m ty is.judged scoped e;
        depth = omega (arith, depth, more);
        claim = record {
          claim = is.claim.claim;
          above = (omega arith, before_more w.site.depth w.site.levels is.claim.above);
          below = omega (arith, below);
          value = subst (IsScoped (w.site.depth + 1) (length env)) (sym f)
              (subst (λ k. IsScoped k (length env) (eta_body w.built)) up (scoped_eta w.site.depth (length env) w.built is.claim.value));
          term = is.claim.term.1;
        };
      }

  pub past_in : (w : Walk) (m n : List ℕ) (a b ty : Tree) → IsWalkIn env c w (Prod n a b) → IsTermIn env w.ctx ty →
      Has (past_argument w m ty) (λ inner. IsWalkIn env c inner b × (inner.ctx ≡ plain_hyp m ty ∷ w.ctx))
  past_in w m n a b ty is scoped =
      has_bind (has_entered w.ctx (plain_hyp m ty)) (λ inner e.
      has_bind {P = λ built. built ≡ eta_body w.built} (has_sized (eta_body w.built) refl) (λ built f.
      has_ok _ (deeper_walk w inner m n a b ty built _ is scoped e f, e)))

  pub walk_past : (w inner : Walk) (m n : List ℕ) (a b ty : Tree) → IsWalkIn env c w (Prod n a b) → ty ≡ placed w.site a →
      Ok inner ≡ answer_of (past_argument w m ty) → IsWalkIn env c inner b
  walk_past w inner m n a b ty is e f =
      (answered {P = λ v. IsWalkIn env c v b × (v.ctx ≡ plain_hyp m ty ∷ w.ctx)} inner (past_in w m n a b ty is (domain_in w n a b ty is e)) f).0

  inner_longer : (w inner : Walk) (m n : List ℕ) (a b : Tree) → IsWalkIn env c w (Prod n a b) → Ok inner ≡ answer_of (past_argument w m (placed w.site a)) →
      inner.ctx ≡ plain_hyp m (placed w.site a) ∷ w.ctx
  inner_longer w inner m n a b is f =
      (answered {P = λ v. IsWalkIn env c v b × (v.ctx ≡ plain_hyp m (placed w.site a) ∷ w.ctx)} inner (past_in w m n a b (placed w.site a) is (in_place w n a b is)) f).1

  pub inner_walk : (w inner : Walk) (m n : List ℕ) (a b : Tree) → IsWalkIn env c w (Prod n a b) → Ok inner ≡ answer_of (past_argument w m (placed w.site a)) →
      IsWalkIn env c inner b
  inner_walk w inner m n a b is f = walk_past w inner m n a b (placed w.site a) is refl f

  -- what the hypothesis of the argument says is in scope behind it
  pub says_scoped : (w inner : Walk) (m n : List ℕ) (a b ty : Tree) → IsWalkIn env c w (Prod n a b) → Ok inner ≡ answer_of (past_argument w m (placed w.site a)) →
      Ok ty ≡ answer_of (hypothesis c (with_binder w.site) (Var 0) a) → IsTermIn env inner.ctx ty
  says_scoped w inner m n a b ty is f e =
      let depth = is.depth in let more = ap length (inner_longer w inner m n a b is f) in
      let same : w.site.depth + 1 ≡ length inner.ctx = omega (arith, depth, more) in
      subst (λ k. IsScoped k (length env) ty) same
      (answered {P = IsScoped (w.site.depth + 1) (length env)} ty (hypothesis_scoped (length env) c (with_binder w.site) (Var 0) a (claim_at_argument w n a b is)) e)

  behind_walk : (w : Walk) (inner : List Hyp) (m : List ℕ) (b ty : Tree) (names : List (List ℕ)) → IsWalkIn env c w b → IsTermIn env w.ctx ty →
      inner ≡ plain_hyp m ty ∷ w.ctx → IsWalkIn env c (record { site = with_binder w.site; ctx = inner; built = shift w.built; names = names }) b
  behind_walk w inner m b ty names is scoped e =
      let depth = is.depth in let below = is.claim.below in let more = longer w.ctx inner m ty e in
      let up : suc w.site.depth ≡ w.site.depth + 1 = omega arith in
      record {
        judged = judged_under w.ctx inner m ty is.judged scoped e;
        depth = omega (arith, depth, more);
        claim = record {
          claim = is.claim.claim;
          above = before_more w.site.depth w.site.levels is.claim.above;
          below = omega (arith, below);
          value = subst (λ k. IsScoped k (length env) (shift w.built)) up (scoped_shift w.site.depth (length env) w.built is.claim.value);
          term = is.claim.term;
        };
      }

  pub behind_in : (w : Walk) (m : List ℕ) (b ty : Tree) → IsWalkIn env c w b → IsTermIn env w.ctx ty →
      Has (past_hypothesis w m ty) (λ inner. IsWalkIn env c inner b × (inner.ctx ≡ plain_hyp m ty ∷ w.ctx))
  behind_in w m b ty is scoped =
      has_bind (has_entered w.ctx (plain_hyp m ty)) (λ inner e. has_ok _ (behind_walk w inner m b ty _ is scoped e, e))

  pub walk_behind : (w inner : Walk) (m : List ℕ) (b ty : Tree) → IsWalkIn env c w b → IsTermIn env w.ctx ty → Ok inner ≡ answer_of (past_hypothesis w m ty) →
      IsWalkIn env c inner b
  walk_behind w inner m b ty is scoped f =
      (answered {P = λ v. IsWalkIn env c v b × (v.ctx ≡ plain_hyp m ty ∷ w.ctx)} inner (behind_in w m b ty is scoped) f).0

-- what code asks to go on
pub built_few : (ctx : List Hyp) (m : ℕ) (t : Tree) → length ctx ≤ 2 ^ 31 → IsScoped (length ctx) m t → free_bound t + 1 ≤ 2 ^ 31 + 5000
built_few ctx m t short scoped = let free = scoped_free (length ctx) m t scoped in omega (arith, free, short)

pub hyp_scoped : (n m : ℕ) (name : List ℕ) (ty : Tree) → IsScoped n m ty → IsScopedHyp n m (plain_hyp name ty)
hyp_scoped n m name ty scoped = record { ty = scoped; value = tt }
