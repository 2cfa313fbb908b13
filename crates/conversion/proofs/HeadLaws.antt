-- Heads that are one, and their arguments.
use Rattle.std.specs.Prelude.{◌≡◌, ℕ, ◌==◌, List, [], ◌∷◌, length, Bool, true, false, Result, Ok, Err, if◌then◌else◌, refl}
use Rattle.std.proofs.Common.{ap, sym, ◌∙◌, subst}
use Rattle.base_core.specs.declared.refusals.Stop.{Stop}
use Rattle.core_term.specs.Tree.{Tree, Var, Constant}
use Rattle.term_spine.specs.Spine.{head_of, arguments_of}
use Rattle.term_spine.specs.declared.spines.Spine.{Spine}
use Rattle.term_spine.specs.Spines.{tree_of_spine}
use Rattle.cic_rules.specs.declared.context.Hyp.{Hyp}
use Rattle.cic_rules.specs.declared.env.Slot.{Slot}
use Rattle.cic_rules.specs.declared.judge.Mode.TheVariants.{Same}
use Rattle.cic_rules.specs.Convert as rules
use Rattle.cic_rules.specs.Reduce.{whnf_at}
use Rattle.cic_rules.specs.Runs.{Run, ◌>>=◌, and_then, pure, Turn, Final}
use Rattle.conversion.specs.declared.sides.Turned.{Turned}
use Rattle.conversion.specs.declared.sides.Turned.TheVariants as turned
use Rattle.conversion.specs.Turns.{IsSpine, EndsAs}
use Rattle.conversion.specs.Conversions.{Is}
use Rattle.conversion.specs.Blockers.{IsTurned}
use Rattle.cic_rules.specs.Convert.{unblock, conv_all, conv_heads, conv_at}
use Rattle.cic_rules.specs.Scopes.{AreScoped}
use Rattle.conversion.specs.Sides.{one_head, heads_agree, heads_step}
use Rattle.conversion.specs.Conversions.{AreAllIn}
use Rattle.conversion.proofs.ConvertLaws.{ok_is, then_ok, then_err, head_told, args_told}

pick : {A : Type 0} (one count : Bool) (x y : A) → (if one then count else false) ≡ false → (if one then (if count then x else y) else y) ≡ y
pick true true x y e = cc
pick true false x y e = refl
pick false count x y e = refl

pick_first : {A : Type 0} (one count : Bool) (x y : A) → (if one then count else false) ≡ true → (if one then (if count then x else y) else y) ≡ x
pick_first true true x y e = refl
pick_first true false x y e = cc
pick_first false count x y e = cc

module _ (env : List Slot) (ctx : List Hyp) (calls : ℕ) where
  abbrev blocked : Tree → Tree → Run (Turn rules.Sides Bool)
  blocked t u = unblock env calls (whnf_at env false calls) (conv_at env calls) ctx t u

  abbrev all : List Tree → List Tree → Run Bool
  all ts us = conv_all env calls (whnf_at env false calls) (conv_at env calls) ctx ts us

  abbrev heads : Tree → Tree → Tree → Tree → Run (Turn rules.Sides Bool)
  heads t u g h = conv_heads env calls (whnf_at env false calls) (conv_at env calls) ctx t u g h

  abbrev by_arguments : Tree → Tree → Run (Turn rules.Sides Bool)
  by_arguments t u = all (arguments_of t) (arguments_of u) >>= λ same. if same then pure (Final true) else blocked t u

  apart_by : (t u g h : Tree) → (if one_head g h then length (arguments_of t) == length (arguments_of u) else false) ≡ false → heads t u g h ≡ blocked t u
  apart_by t u (Var i) (Var j) apart = pick (i == j) (length (arguments_of t) == length (arguments_of u)) (by_arguments t u) (blocked t u) apart
  apart_by t u (Constant i) (Constant j) apart = pick (i == j) (length (arguments_of t) == length (arguments_of u)) (by_arguments t u) (blocked t u) apart
  apart_by t u _ _ apart = refl

  one_by : (t u g h : Tree) → (if one_head g h then length (arguments_of t) == length (arguments_of u) else false) ≡ true → heads t u g h ≡ by_arguments t u
  one_by t u (Var i) (Var j) is = pick_first (i == j) (length (arguments_of t) == length (arguments_of u)) (by_arguments t u) (blocked t u) is
  one_by t u (Constant i) (Constant j) is = pick_first (i == j) (length (arguments_of t) == length (arguments_of u)) (by_arguments t u) (blocked t u) is
  one_by t u _ _ is = cc

  module _ (s r : Spine) (first : IsSpine s) (second : IsSpine r) where
    agree_told : (if one_head (head_of (tree_of_spine s)) (head_of (tree_of_spine r))
        then length (arguments_of (tree_of_spine s)) == length (arguments_of (tree_of_spine r)) else false) ≡ heads_agree s r
    agree_told = rw (head_told s first, head_told r second, args_told s first, args_told r second) refl

    abbrev step : Run (Turn rules.Sides Bool)
    step = heads_step env calls (whnf_at env false calls) (conv_at env calls) ctx (tree_of_spine s) (tree_of_spine r)

    pub heads_apart : (l k : ℕ) (result : Result Turned Stop) → heads_agree s r ≡ false →
        EndsAs IsTurned result k (blocked (tree_of_spine s) (tree_of_spine r) l) → EndsAs IsTurned result k (step l)
    heads_apart l k result apart ends =
        let same = apart_by (tree_of_spine s) (tree_of_spine r) (head_of (tree_of_spine s)) (head_of (tree_of_spine r)) (agree_told ∙ apart) in
        subst (λ f. EndsAs IsTurned result k (f l)) (sym same) ends

    -- one head: what follows the arguments
    one_head_is : (l k : ℕ) (result : Result Turned Stop) → heads_agree s r ≡ true →
        EndsAs IsTurned result k ((all s.args r.args >>= λ same. if same then pure (Final true) else blocked (tree_of_spine s) (tree_of_spine r)) l) →
        EndsAs IsTurned result k (step l)
    one_head_is l k result is ends =
        let same = one_by (tree_of_spine s) (tree_of_spine r) (head_of (tree_of_spine s)) (head_of (tree_of_spine r)) (agree_told ∙ is) in
        let moved : EndsAs IsTurned result k (by_arguments (tree_of_spine s) (tree_of_spine r) l) = rw (args_told s first, args_told r second) ends in
        subst (λ f. EndsAs IsTurned result k (f l)) (sym same) moved

    pub heads_same : (l k : ℕ) → heads_agree s r ≡ true → EndsAs Is (Ok true) k (all s.args r.args l) → EndsAs IsTurned (Ok (turned.Final true)) k (step l)
    heads_same l k is ends =
        one_head_is l k (Ok (turned.Final true)) is (then_ok Is IsTurned (all s.args r.args) _ l k k true (Ok (turned.Final true)) ends (λ y e. rw (sym e) (refl, refl)))

    pub heads_stop : (l k : ℕ) (stop : Stop) → heads_agree s r ≡ true → EndsAs Is (Err stop) k (all s.args r.args l) → EndsAs IsTurned (Err stop) k (step l)
    heads_stop l k stop is ends = one_head_is l k (Err stop) is (then_err Is IsTurned (all s.args r.args) _ l k stop ends)

    pub heads_differ : (now : ℕ) → now ≡ calls → (l k j : ℕ) (result : Result Turned Stop) → heads_agree s r ≡ true → EndsAs Is (Ok false) k (all s.args r.args l) →
        EndsAs IsTurned result j (unblock env now (whnf_at env false now) (conv_at env now) ctx (tree_of_spine s) (tree_of_spine r) k) → EndsAs IsTurned result j (step l)
    heads_differ now one l k j result is ends said =
        let rest = subst (λ n. EndsAs IsTurned result j (unblock env n (whnf_at env false n) (conv_at env n) ctx (tree_of_spine s) (tree_of_spine r) k)) one said in
        one_head_is l j result is (then_ok Is IsTurned (all s.args r.args) _ l k j false result ends (λ y e. rw (sym e) rest))

  -- arguments in a row: what is left answers for all
  pub record IsAllUnderWay (ts us : List Tree) (k : ℕ) (firsts seconds : List Tree) (l : ℕ) : Type 0 where
    pub same : all ts us k ≡ all firsts seconds l
    pub terms : AreAllIn env ctx ts us

  abbrev more_step : List Tree → List Tree → Bool → Run Bool
  more_step ts us same = if same then all ts us else pure false

  taken : (t u : Tree) (ts us : List Tree) (x : Bool) (k j : ℕ) → EndsAs Is (Ok x) j (conv_at env calls ctx Same t u k) → all (t ∷ ts) (u ∷ us) k ≡ more_step ts us x j
  taken t u ts us x k j ends =
      ap (λ answer. and_then answer (more_step ts us) (conv_at env calls ctx Same t u k).left) (sym (ok_is x (conv_at env calls ctx Same t u k).answer ends.0)) ∙
      ap (λ n. more_step ts us x n) (sym ends.1)

  pub all_next : (now : ℕ) → now ≡ calls → (ts us : List Tree) (k : ℕ) (firsts seconds : List Tree) (l : ℕ) (t u : Tree) (more others : List Tree) (j : ℕ) →
      IsAllUnderWay ts us k firsts seconds l → ts ≡ t ∷ more → us ≡ u ∷ others → EndsAs Is (Ok true) j (conv_at env now ctx Same t u k) →
      IsAllUnderWay more others j firsts seconds l
  all_next now one ts us k firsts seconds l t u more others j way e f said =
      let ends = subst (λ n. EndsAs Is (Ok true) j (conv_at env n ctx Same t u k)) one said in
      let first : AreScoped (length ctx) (length env) (t ∷ more) = subst (AreScoped (length ctx) (length env)) e way.terms.first in
      let second : AreScoped (length ctx) (length env) (u ∷ others) = subst (AreScoped (length ctx) (length env)) f way.terms.second in
      let split : all ts us k ≡ all (t ∷ more) (u ∷ others) k = ap (λ p. all p us k) e ∙ ap (λ q. all (t ∷ more) q k) f in
      record {
        same = sym (taken t u more others true k j ends) ∙ (sym split ∙ way.same);
        terms = record { first = first.1; second = second.1 };
      }

  pub all_no : (now : ℕ) → now ≡ calls → (ts us : List Tree) (k : ℕ) (firsts seconds : List Tree) (l : ℕ) (t u : Tree) (more others : List Tree) (j : ℕ) →
      IsAllUnderWay ts us k firsts seconds l → ts ≡ t ∷ more → us ≡ u ∷ others → EndsAs Is (Ok false) j (conv_at env now ctx Same t u k) →
      EndsAs Is (Ok false) j (all firsts seconds l)
  all_no now one ts us k firsts seconds l t u more others j way e f said =
      let ends = subst (λ n. EndsAs Is (Ok false) j (conv_at env n ctx Same t u k)) one said in
      let split : all ts us k ≡ all (t ∷ more) (u ∷ others) k = ap (λ p. all p us k) e ∙ ap (λ q. all (t ∷ more) q k) f in
      let whole : pure false j ≡ all firsts seconds l = sym (taken t u more others false k j ends) ∙ (sym split ∙ way.same) in
      subst (λ r. EndsAs Is (Ok false) j r) whole (refl, refl)

  pub all_stop : (now : ℕ) → now ≡ calls → (ts us : List Tree) (k : ℕ) (firsts seconds : List Tree) (l : ℕ) (t u : Tree) (more others : List Tree) (j : ℕ) (stop : Stop) →
      IsAllUnderWay ts us k firsts seconds l → ts ≡ t ∷ more → us ≡ u ∷ others → EndsAs {A = Bool} Is (Err stop) j (conv_at env now ctx Same t u k) →
      EndsAs {A = Bool} Is (Err stop) j (all firsts seconds l)
  all_stop now one ts us k firsts seconds l t u more others j stop way e f said =
      let ends = subst (λ n. EndsAs {A = Bool} Is (Err stop) j (conv_at env n ctx Same t u k)) one said in
      let split : all ts us k ≡ all (t ∷ more) (u ∷ others) k = ap (λ p. all p us k) e ∙ ap (λ q. all (t ∷ more) q k) f in
      let last : EndsAs {A = Bool} Is (Err stop) j (all (t ∷ more) (u ∷ others) k) = then_err Is Is (conv_at env calls ctx Same t u) (more_step more others) k j stop ends in
      subst (λ r. EndsAs {A = Bool} Is (Err stop) j r) (sym split ∙ way.same) last

  pub all_ended : (ts us : List Tree) (k : ℕ) (firsts seconds : List Tree) (l : ℕ) → IsAllUnderWay ts us k firsts seconds l → ts ≡ [] →
      EndsAs Is (Ok true) k (all firsts seconds l)
  all_ended ts us k firsts seconds l way e =
      let whole : all [] us k ≡ all firsts seconds l = ap (λ p. all p us k) (sym e) ∙ way.same in
      subst (λ r. EndsAs Is (Ok true) k r) whole (refl, refl)

  no_second : (ts : List Tree) (k : ℕ) → all ts [] k ≡ pure true k
  no_second [] k = refl
  no_second (t ∷ ts) k = refl

  pub all_ended_right : (ts us : List Tree) (k : ℕ) (firsts seconds : List Tree) (l : ℕ) → IsAllUnderWay ts us k firsts seconds l → us ≡ [] →
      EndsAs Is (Ok true) k (all firsts seconds l)
  all_ended_right ts us k firsts seconds l way e =
      let whole : pure true k ≡ all firsts seconds l = sym (no_second ts k) ∙ (ap (λ q. all ts q k) (sym e) ∙ way.same) in
      subst (λ r. EndsAs Is (Ok true) k r) whole (refl, refl)
