-- What `destruct` and `induction` give is in scope of the goal.
use Rattle.std.specs.Prelude.{◌≡◌, ℕ, zero, suc, ◌+◌, ◌-◌, ◌==◌, ◌≤◌, ◌<◌, List, [], ◌∷◌, ◌++◌, length, take, drop, Option, Some, None, Bool, true, false, ◌&&◌, not, slice_get, if◌then◌else◌, refl}
use Rattle.std.proofs.Common.{arith, ap, sym, ◌∙◌, subst}
use Rattle.std.proofs.lemmas.Bool.Decides.{nat_tests}
use Rattle.base_core.specs.declared.refusal_codes.TheConstants.{NO_HYPOTHESIS, NOT_INDUCTIVE, INDICES_NOT_VARIABLES, NOT_PERMITTED, GOAL_DEPENDS, PATTERN_MISFIT, NAME_USED}
use Rattle.coq_syntax.specs.MoveTrees.{Move, Pattern, Intro, Intros, Exact, Apply, Assumption, Split, Left, Right, Reflexivity, Simpl, Unfold, Destruct, Induction, Rewrite}
use Rattle.coq_syntax.specs.MoveTrees as move
use Rattle.core_term.specs.declared.sorts.Sort.{Sort}
use Rattle.core_term.specs.Tree.{Tree, Var, Sorted, Constant, Prod, Lam, LetIn, App}
use Rattle.cic_rules.specs.declared.context.Hyp.{Hyp}
use Rattle.cic_rules.specs.declared.decls.Ctor.{Ctor}
use Rattle.cic_rules.specs.declared.decls.InductiveDecl.{InductiveDecl}
use Rattle.cic_rules.specs.declared.entries.Entry.{Entry}
use Rattle.cic_rules.specs.declared.env.Slot.{Slot}
use Rattle.cic_rules.specs.Contexts.{plain_hyp, type_of_variable}
use Rattle.cic_rules.specs.Eliminators.{is_in_prop}
use Rattle.cic_rules.specs.Environments.{decl_at, entry_at, IsEnvironment, IsScopedDecl, AreScopedCtors}
use Rattle.cic_rules.specs.Families.{count_params, count_indices, indices}
use Rattle.cic_rules.specs.Infer.{sort_of_at}
use Rattle.cic_rules.specs.Judges.{MayJudge, IsTermIn}
use Rattle.cic_rules.specs.Laws.{Tells}
use Rattle.cic_rules.specs.Runs.{Run}
use Rattle.cic_rules.specs.Scopes.{IsScoped, AreScoped, AreBefore}
use Rattle.cic_rules.specs.Shapes.{recursive_in}
use Rattle.cic_rules.specs.Steps.{Step, answer_of, take_step}
use Rattle.cic_rules.proofs.EnvironmentScopes.{variable_scoped, variable_within, scope_of_globals}
use Rattle.cic_rules.proofs.JudgeScopes.{scope_of_reduction}
use Rattle.cic_rules.proofs.ScopeLaws.{scoped_head, scoped_arguments, scoped_take, scoped_instantiate}
use Rattle.cic_rules.proofs.TellsLaws.{tells_give, tells_pure, tells_stop, tells_bind, tells_some}
use Rattle.fresh_names.specs.Letters.{constant_of}
use Rattle.term_spine.specs.Instantiate.{instantiate}
use Rattle.term_spine.specs.Spine.{head_of, arguments_of}
use Rattle.proof_state.specs.declared.goals.Goal.{Goal}
use Rattle.proof_state.specs.declared.state.Filling.TheVariants.{Give}
use Rattle.proof_state.specs.Partial.{Partial, Ready, Abstracts, Applies}
use Rattle.proof_state.specs.Scopes.{IsSketchIn, IsFillingIn}
use Rattle.move_elim.specs.declared.cases.Walk.{Walk}
use Rattle.move_elim.specs.declared.claims.Claim.{Claim}
use Rattle.move_elim.specs.declared.subjects.Subject.{Subject}
use Rattle.move_elim.specs.Branches.{Given, branches_of, with_given, behind_argument as names_behind, have_too_many, any_clash}
use Rattle.move_elim.specs.Cases.{under_argument, under_hypothesis, hypothesis, last_goal, case_from, case_of, with_cases}
use Rattle.move_elim.specs.Claims.{claim_at, if_eliminator, eliminator_into, sort_rank, eliminates}
use Rattle.move_elim.specs.Elimination.{hidden, names_without, plain_places, moved_with, term_with, tested, elimination}
use Rattle.move_elim.specs.Generalised.{depends}
use Rattle.move_elim.specs.Laws.{ScopeOfEliminations}
use Rattle.move_elim.specs.Moves.{eliminate, solved}
use Rattle.move_elim.specs.Scopes.{Has, IsSubjectIn, IsClaimIn, IsWalkIn}
use Rattle.move_elim.specs.Sites.{placed, placed_all, own_site, with_binder}
use Rattle.move_elim.specs.Steps.{require_step, forbid_step}
use Rattle.move_elim.specs.Subjects.{is_plain, stands_in, index_of, if_found, index_variables, is_whole, first_arguments, subject_of}
use Rattle.move_elim.proofs.InstanceLaws.{newest_scoped, newest_length, hypothesis_scoped}
use Rattle.move_elim.proofs.MotiveLaws.{applied_scoped, motive_in}
use Rattle.move_elim.proofs.ScopesOfParts.{before_append, moved_before, plain_before, claim_in, introduced_in, sketch_renamed, hidden_unnamed, hidden_scoped, hidden_length, variables_in}
use Rattle.move_elim.proofs.SiteLaws.{levels_before, levels_length}
use Rattle.move_elim.proofs.StepLaws.{has_ok, has_bind, has_step, has_sized, has_some, has_require, answered}
use Rattle.move_elim.proofs.WalkLaws.{past_in, behind_in, claim_at_argument, goal_here, in_place}

-- the subject
const_in : (n m : ℕ) (h : Tree) (c : ℕ) → constant_of h ≡ Some c → IsScoped n m h → c < m
const_in n m (Constant k) c e scoped = let same : k ≡ c = cc in subst (λ i. i < m) same scoped
const_in n m (Var i) c e scoped = cc
const_in n m (Sorted s) c e scoped = cc
const_in n m (Prod x a b) c e scoped = cc
const_in n m (Lam x a b) c e scoped = cc
const_in n m (LetIn x a t b) c e scoped = cc
const_in n m (App f a) c e scoped = cc

plain_within : (ctx : List Hyp) (j : ℕ) → is_plain (slice_get ctx j) ≡ true → j < length ctx
plain_within [] j e = cc
plain_within (h ∷ hs) zero e = omega arith
plain_within (h ∷ hs) (suc j) e = let rest = plain_within hs j e in omega (arith, rest)

both_true : (a b : Bool) → (a && b) ≡ true → a ≡ true
both_true true b e = refl
both_true false b e = cc

index_by : (b : Bool) (j i : ℕ) → (if b then Some j else None) ≡ Some i → (b ≡ true) × (j ≡ i)
index_by true j i e = (refl, cc)
index_by false j i e = cc

index_within : (ctx : List Hyp) (before : List Tree) (t : Tree) (i : ℕ) → index_of ctx before t ≡ Some i → i < length ctx
index_within ctx before (Var j) i e =
    let found = index_by (is_plain (slice_get ctx j) && not (stands_in before j)) j i e in
    subst (λ k. k < length ctx) found.1 (plain_within ctx j (both_true (is_plain (slice_get ctx j)) (not (stands_in before j)) found.0))
index_within ctx before (Sorted s) i e = cc
index_within ctx before (Constant c) i e = cc
index_within ctx before (Prod x a b) i e = cc
index_within ctx before (Lam x a b) i e = cc
index_within ctx before (LetIn x a t b) i e = cc
index_within ctx before (App f a) i e = cc

append_length : (is : List ℕ) (i : ℕ) → length (is ++ (i ∷ [])) ≡ length is + 1
append_length [] i = refl
append_length (j ∷ is) i = let rest = append_length is i in omega (arith, rest)

next_found : {Q : Type 0} (o : Option ℕ) (rest : ℕ → Option (List ℕ)) (is : List ℕ) → if_found o rest ≡ Some is →
    ((i : ℕ) → o ≡ Some i → rest i ≡ Some is → Q) → Q
next_found None rest is e found = cc
next_found (Some i) rest is e found = found i refl e

pub variables_found : (ctx : List Hyp) (before : List Tree) (found : List ℕ) (ts : List Tree) (is : List ℕ) → index_variables ctx before found ts ≡ Some is →
    AreBefore (length ctx) found → AreBefore (length ctx) is × (length is ≡ length found + length ts)
variables_found ctx before found [] is e h =
    let same : found ≡ is = cc in
    let more : length found ≡ length found + 0 = omega arith in
    (subst (AreBefore (length ctx)) same h, ap length (sym same) ∙ more)
variables_found ctx before found (t ∷ ts) is e h =
    next_found (index_of ctx before t) (λ i. index_variables ctx (t ∷ before) (found ++ (i ∷ [])) ts) is e (λ i one two.
    let rest = variables_found ctx (t ∷ before) (found ++ (i ∷ [])) ts is two
    (before_append (length ctx) found (i ∷ []) h (index_within ctx before t i one, tt)) in
    let longer = append_length found i in
    let count = rest.1 in
    (rest.0, omega (arith, count, longer)))

drop_length : (p : ℕ) (ts : List Tree) → length (drop p ts) ≡ length ts - p
drop_length zero ts = omega arith
drop_length (suc p) [] = omega arith
drop_length (suc p) (t ∷ ts) = let rest = drop_length p ts in omega (arith, rest)

take_length : (p : ℕ) (ts : List Tree) → p ≤ length ts → length (take p ts) ≡ p
take_length zero ts le = refl
take_length (suc p) [] le = absurd (omega (arith, le))
take_length (suc p) (t ∷ ts) le = ap suc (take_length p ts (omega (arith, le)))

subject_parts : (env : List Slot) (ctx : List Hyp) (i : ℕ) (t : Tree) (place : ℕ) (d : InductiveDecl) (is : List ℕ) → i < length ctx → IsTermIn env ctx t →
    place < length env → is_whole d t ≡ true → AreBefore (length ctx) is × (length is ≡ 0 + length (indices (count_params d) t)) →
    IsSubjectIn env ctx d (record { variable = i; place = place; params = first_arguments (count_params d) t; indices = is })
subject_parts env ctx i t place d is lt scoped within whole found =
    let all : length (arguments_of t) ≡ count_params d + count_indices d = grind (arith, nat_tests, whole) in
    let few : count_params d ≤ length (arguments_of t) = omega (arith, all) in
    let count = take_length (count_params d) (arguments_of t) few in
    let made = newest_length (take (count_params d) (arguments_of t)) [] in
    let left = drop_length (count_params d) (arguments_of t) in
    let indexes = found.1 in
    record {
      place = within;
      variable = lt;
      indices = found.0;
      params = newest_scoped (length ctx) (length env) (take (count_params d) (arguments_of t)) []
          (scoped_take (length ctx) (length env) (count_params d) (arguments_of t) (scoped_arguments (length ctx) (length env) t scoped)) tt;
      count = omega (arith, made, count);
      fit = omega (arith, indexes, left, all);
    }

pub subject_in : (env : List Slot) (ctx : List Hyp) (i : ℕ) (t : Tree) → i < length ctx → IsTermIn env ctx t →
    Has (subject_of env ctx i t) (λ x. (d : InductiveDecl) → decl_at env x.place ≡ Some d → IsSubjectIn env ctx d x)
subject_in env ctx i t lt scoped =
    has_bind (has_some NOT_INDUCTIVE (constant_of (head_of t)) (λ place e. const_in (length ctx) (length env) (head_of t) place e
    (scoped_head (length ctx) (length env) t scoped))) (λ place within.
    has_bind (has_some NOT_INDUCTIVE (decl_at env place) (λ d e. e)) (λ d there.
    has_require (is_whole d t) NOT_INDUCTIVE (λ whole.
    has_bind (has_some INDICES_NOT_VARIABLES (index_variables ctx (first_arguments (count_params d) t) [] (indices (count_params d) t))
    (λ is e. variables_found ctx (first_arguments (count_params d) t) [] (indices (count_params d) t) is e tt)) (λ is found.
    has_ok _ (λ other e.
    let same : d ≡ other = cc in
    subst (λ decl. IsSubjectIn env ctx decl (record { variable = i; place = place; params = first_arguments (count_params d) t; indices = is })) same
    (subject_parts env ctx i t place d is lt scoped within whole found))))))

-- the eliminator
entry_within : (env : List Slot) (at : ℕ) (e : Entry) → entry_at env at ≡ Some e → at < length env
entry_within [] at e is = cc
entry_within (s ∷ ss) zero e is = omega arith
entry_within (s ∷ ss) (suc at) e is = let rest = entry_within ss at e is in omega (arith, rest)

eliminator_by : (b : Bool) (at e : ℕ) → (if b then Some at else None) ≡ Some e → at ≡ e
eliminator_by true at e is = cc
eliminator_by false at e is = cc

eliminator_at : (env : List Slot) (place : ℕ) (sort : Sort) (at e : ℕ) (found : Option Entry) → entry_at env at ≡ found → if_eliminator place sort at found ≡ Some e →
    (at ≡ e) × (at < length env)
eliminator_at env place sort at e None is made = cc
eliminator_at env place sort at e (Some entry) is made = (eliminator_by (eliminates place sort entry.kind) at e made, entry_within env at entry is)

eliminator_in : (env : List Slot) (place count : ℕ) (sort : Sort) (e : ℕ) → eliminator_into env place count sort ≡ Some e → (place + 1 + count ≤ e) × (e < length env)
eliminator_in env place count sort e made =
    let found = eliminator_at env place sort (place + 1 + count + sort_rank sort) e (entry_at env (place + 1 + count + sort_rank sort)) refl made in
    let same = found.0 in let within = found.1 in (omega (arith, same), omega (arith, same, within))

pub tested_in : (induction : Bool) (env : List Slot) (ctx : List Hyp) (goal : Tree) (d : InductiveDecl) (x : Subject) (sort : Sort) (branches : List (List Given)) →
    Has (tested induction env ctx goal d x sort branches) (λ e. (x.place + 1 + length d.ctors ≤ e) × (e < length env))
tested_in induction env ctx goal d x sort branches =
    has_bind (has_some NOT_PERMITTED (eliminator_into env x.place (length d.ctors) sort) (λ e made. eliminator_in env x.place (length d.ctors) sort e made)) (λ e one.
    has_step (forbid_step (is_in_prop d && depends ctx goal x.variable) GOAL_DEPENDS)
    (has_step (require_step (length branches == length d.ctors) PATTERN_MISFIT)
    (has_step (forbid_step (have_too_many induction (recursive_in x.place d.ctors) branches) PATTERN_MISFIT)
    (has_step (forbid_step (any_clash (names_without ctx x.variable) branches) NAME_USED) (has_ok e one)))))

module _ (induction : Bool) (env : List Slot) (c : Claim) where
  last_in : (w : Walk) (t : Tree) → IsWalkIn env c w t → Has (last_goal induction env c w t) (IsSketchIn env w.ctx)
  last_in w t is =
      has_bind (has_sized (claim_at c w.site.depth (placed_all w.site (indices c.params t)) w.built) (goal_here env c w t is)) (λ goal scoped.
      introduced_in env c.moved w.ctx goal is.judged scoped)

  under_in : (w : Walk) (n x : List ℕ) (a b : Tree) (rest : Walk → Step (Partial Goal)) → IsWalkIn env c w (Prod x a b) →
      ((inner : Walk) → IsWalkIn env c inner b → inner.ctx ≡ plain_hyp n (placed w.site a) ∷ w.ctx → Has (rest inner) (IsSketchIn env inner.ctx)) →
      Has (under_argument w n a rest) (IsSketchIn env w.ctx)
  under_in w n x a b rest is rests =
      has_bind (past_in env c w n x a b (placed w.site a) is (in_place env c w x a b is)) (λ inner one.
      has_bind (rests inner one.0 one.1) (λ s sketch.
      has_ok (Abstracts n (placed w.site a) s) (in_place env c w x a b is, subst (λ hs. IsSketchIn env hs s) one.1 sketch)))

  behind_says : (w : Walk) (n : List ℕ) (b : Tree) (says : Step Tree) (rest : Walk → Step (Partial Goal)) → IsWalkIn env c w b → Has says (IsTermIn env w.ctx) →
      ((inner : Walk) → IsWalkIn env c inner b → Has (rest inner) (IsSketchIn env inner.ctx)) → Has (under_hypothesis w n says rest) (IsSketchIn env w.ctx)
  behind_says w n b says rest is one rests =
      has_bind one (λ ty scoped.
      has_bind (behind_in env c w n b ty is scoped) (λ inner two.
      has_bind (rests inner two.0) (λ s sketch.
      has_ok (Abstracts n ty s) (scoped, subst (λ hs. IsSketchIn env hs s) two.1 sketch))))

  says_in : (w inner : Walk) (n x : List ℕ) (a b : Tree) → IsWalkIn env c w (Prod x a b) → inner.ctx ≡ plain_hyp n (placed w.site a) ∷ w.ctx →
      Has (hypothesis c (with_binder w.site) (Var 0) a) (IsTermIn env inner.ctx)
  says_in w inner n x a b is e =
      let depth = is.depth in let more = ap length e in
      let same : w.site.depth + 1 ≡ length inner.ctx = omega (arith, depth, more) in
      subst (λ k. Has (hypothesis c (with_binder w.site) (Var 0) a) (IsScoped k (length env))) same
      (hypothesis_scoped (length env) c (with_binder w.site) (Var 0) a (claim_at_argument env c w x a b is))

  case_in : (w : Walk) (given : List Given) (flags : List Bool) (t : Tree) → IsWalkIn env c w t → Has (case_from induction env c w given flags t) (IsSketchIn env w.ctx)
  case_in w given [] t is = last_in w t is
  case_in w given (false ∷ later) (Prod n a b) is =
      under_in w _ n a b (λ inner. case_from induction env c inner (names_behind induction false given) later b) is (λ inner one e.
      case_in inner (names_behind induction false given) later b one)
  case_in w given (true ∷ later) (Prod n a b) is =
      under_in w _ n a b _ is (λ inner one e.
      behind_says inner _ b (hypothesis c (with_binder w.site) (Var 0) a) (λ last. case_from induction env c last (names_behind induction true given) later b) one
      (says_in w inner _ n a b is e) (λ last two. case_in last (names_behind induction true given) later b two))
  case_in w given (flag ∷ later) (Var i) is = last_in w (Var i) is
  case_in w given (flag ∷ later) (Sorted s) is = last_in w (Sorted s) is
  case_in w given (flag ∷ later) (Constant k) is = last_in w (Constant k) is
  case_in w given (flag ∷ later) (Lam n a b) is = last_in w (Lam n a b) is
  case_in w given (flag ∷ later) (LetIn n a u b) is = last_in w (LetIn n a u b) is
  case_in w given (flag ∷ later) (App f a) is = last_in w (App f a) is

  pub first_walk : (hs : List Hyp) (built ty : Tree) (names : List (List ℕ)) → MayJudge env hs → IsClaimIn (length env) c → c.below ≡ length hs → IsTermIn env hs built →
      IsTermIn env hs ty → IsWalkIn env c (record { site = own_site c.below; ctx = hs; built = built; names = names }) ty
  first_walk hs built ty names judged claim below one two =
      record {
        judged = judged;
        depth = below;
        claim = record {
          claim = claim;
          above = levels_before c.below;
          below = omega arith;
          value = subst (λ k. IsScoped k (length env) built) (sym below) one;
          term = subst (λ k. IsScoped k (length env) ty) (sym below ∙ sym (levels_length c.below)) two;
        };
      }

  one_case : (x : Subject) (hs : List Hyp) (names : List (List ℕ)) (index : ℕ) (ctor : Ctor) (flags : List Bool) (given : List Given) → MayJudge env hs →
      IsClaimIn (length env) c → c.below ≡ length hs → AreScoped (length hs) (length env) x.params → IsScoped (length x.params) (length env) ctor.ty →
      x.place + 1 + index < length env → Has (case_of induction env c x hs names index ctor flags given) (IsSketchIn env hs)
  one_case x hs names index ctor flags given judged claim below params ty within =
      has_bind (has_sized (instantiate x.params ctor.ty) (scoped_instantiate (length hs) (length env) (length x.params) x.params ctor.ty refl ty params)) (λ t one.
      has_bind (applied_scoped (length hs) (length env) (Constant (x.place + 1 + index)) x.params within params) (λ built two.
      case_in _ given flags t (first_walk hs built t (with_given names given) judged claim below two one)))

  cases_in : (x : Subject) (hs : List Hyp) (names : List (List ℕ)) (index : ℕ) (ctors : List Ctor) (flags : List (List Bool)) (branches : List (List Given))
      (function : Partial Goal) → MayJudge env hs → IsClaimIn (length env) c → c.below ≡ length hs → AreScoped (length hs) (length env) x.params →
      AreScopedCtors (length x.params) (length env) ctors → x.place + 1 + index + length ctors ≤ length env → IsSketchIn env hs function →
      Has (with_cases induction env c x hs names index ctors flags branches function) (IsSketchIn env hs)
  cases_in x hs names index [] flags branches function judged claim below params types within sketch = has_ok function sketch
  cases_in x hs names index (ctor ∷ later) [] branches function judged claim below params types within sketch = has_ok function sketch
  cases_in x hs names index (ctor ∷ later) (flag ∷ others) [] function judged claim below params types within sketch = has_ok function sketch
  cases_in x hs names index (ctor ∷ later) (flag ∷ others) (given ∷ more) function judged claim below params types within sketch =
      has_bind (one_case x hs names index ctor flag given judged claim below params types.0 (omega (arith, within))) (λ case one.
      cases_in x hs names (index + 1) later others more (Applies function case) judged claim below params types.1 (omega (arith, within)) (sketch, one))

-- the whole term
term_in : (induction : Bool) (env : List Slot) (ctx : List Hyp) (goal : Tree) (d : InductiveDecl) (x : Subject) (e : ℕ) (branches : List (List Given)) (moved : List ℕ) →
    MayJudge env ctx → IsTermIn env ctx goal → IsSubjectIn env ctx d x → IsScopedDecl (length env) d → x.place + 1 + length d.ctors ≤ e → e < length env →
    AreBefore (length ctx) moved → Has (term_with induction env ctx goal d x e branches moved) (IsSketchIn env ctx)
term_in induction env ctx goal d x e branches moved judged scoped subject decl after within before =
    let hs : List Hyp = hidden ctx (x.variable ∷ moved) in
    let names_aside = hidden_unnamed ctx (x.variable ∷ moved) in
    let same : length hs ≡ length ctx = hidden_length ctx (x.variable ∷ moved) in
    let params : AreScoped (length hs) (length env) x.params = subst (λ k. AreScoped k (length env) x.params) (sym same) subject.params in
    let types : AreScopedCtors (length x.params) (length env) d.ctors = subst (λ k. AreScopedCtors k (length env) d.ctors) (sym subject.count) decl.ctors in
    has_bind (claim_in env ctx goal d x moved judged scoped subject.indices before) (λ c one.
    has_bind (motive_in env ctx d x c.body subject decl one.2) (λ motive two.
    has_bind (applied_scoped (length ctx) (length env) (Constant e) x.params within subject.params) (λ function three.
    has_bind (has_sized {P = IsTermIn env ctx} (App function motive) (three, two)) (λ head four.
    has_bind (cases_in induction env c x hs (names_without ctx x.variable) 0 d.ctors (recursive_in x.place d.ctors) branches (Ready head)
    (record { scoped = hidden_scoped (length env) ctx (x.variable ∷ moved) judged.scoped }) one.0 (one.1 ∙ sym same) params types (omega (arith, after, within))
    (subst (λ k. IsScoped k (length env) head) (sym same) four)) (λ s five.
    has_ok _ (variables_in env ctx s (x.indices ++ (x.variable ∷ plain_places ctx moved)) (sketch_renamed env s hs ctx names_aside five)
    (before_append (length ctx) x.indices (x.variable ∷ plain_places ctx moved) subject.indices (subject.variable, plain_before (length ctx) ctx moved before))))))))

elimination_in : (induction : Bool) (env : List Slot) → IsEnvironment env → (ctx : List Hyp) (goal : Tree) (x : Subject) (pattern : Option Pattern) (sort : Sort) →
    MayJudge env ctx → IsTermIn env ctx goal → ((d : InductiveDecl) → decl_at env x.place ≡ Some d → IsSubjectIn env ctx d x) →
    Has (elimination induction env ctx goal x pattern sort) (IsSketchIn env ctx)
elimination_in induction env is ctx goal x pattern sort judged scoped subject =
    has_bind (has_some NOT_INDUCTIVE (decl_at env x.place) (λ d e. e)) (λ d there.
    has_bind (tested_in induction env ctx goal d x sort (branches_of d.ctors pattern)) (λ e two.
    term_in induction env ctx goal d x e (branches_of d.ctors pattern) (moved_with ctx x) judged scoped (subject d there) (scope_of_globals.decls env is x.place d there)
    two.0 two.1 (moved_before (x.variable ∷ x.indices) ctx)))

taken : {A : Type 0} {P : A → Type 0} (s : Step A) → Has s P → Tells (take_step s) P
taken s h = tells_give (answer_of s) (λ x e. answered x h (sym e))

any : {A : Type 0} (f : Run A) → Tells f (λ _. Unit {0})
any f = record { tells = λ left x e. tt }

eliminate_in : (env : List Slot) → IsEnvironment env → (calls : ℕ) (induction : Bool) (ctx : List Hyp) (goal : Tree) (name : List ℕ) (pattern : Option Pattern) →
    MayJudge env ctx → IsTermIn env ctx goal → Tells (eliminate env calls induction ctx goal name pattern) (IsSketchIn env ctx)
eliminate_in env is calls induction ctx goal name pattern judged scoped =
    tells_bind (any _) (λ i _.
    tells_bind (tells_some NO_HYPOTHESIS (type_of_variable ctx i) (λ ty e. e)) (λ ty there.
    tells_bind (scope_of_reduction env is true calls ctx judged.scoped ty (variable_scoped (length env) ctx i ty judged.scoped there)) (λ reduced one.
    tells_bind (taken (subject_of env ctx i reduced) (subject_in env ctx i reduced (variable_within ctx i ty there) one)) (λ x subject.
    tells_bind (any (sort_of_at env calls ctx goal)) (λ s _.
    taken (elimination induction env ctx goal x pattern s.sort) (elimination_in induction env is ctx goal x pattern s.sort judged scoped subject))))))

solved_in : (env : List Slot) (calls : ℕ) (ctx : List Hyp) (s : Run (Partial Goal)) → Tells s (IsSketchIn env ctx) → Tells (solved env calls s) (IsFillingIn env ctx)
solved_in env calls ctx s one = tells_bind one (λ sketch in_scope. tells_pure (Give sketch) in_scope)

pub scope_of_eliminations : ScopeOfEliminations
scope_of_eliminations env is calls g (Destruct p w pattern) goal =
    solved_in env calls g.ctx _ (eliminate_in env is calls false g.ctx g.ty w.text pattern goal.judged goal.ty)
scope_of_eliminations env is calls g (Induction p w pattern) goal =
    solved_in env calls g.ctx _ (eliminate_in env is calls true g.ctx g.ty w.text pattern goal.judged goal.ty)
scope_of_eliminations env is calls g (Intro p w) goal = tells_stop _
scope_of_eliminations env is calls g (Intros p ws) goal = tells_stop _
scope_of_eliminations env is calls g (Exact p s) goal = tells_stop _
scope_of_eliminations env is calls g (Apply p s) goal = tells_stop _
scope_of_eliminations env is calls g (Assumption p) goal = tells_stop _
scope_of_eliminations env is calls g (Split p) goal = tells_stop _
scope_of_eliminations env is calls g (Left p) goal = tells_stop _
scope_of_eliminations env is calls g (Right p) goal = tells_stop _
scope_of_eliminations env is calls g (Reflexivity p) goal = tells_stop _
scope_of_eliminations env is calls g (move.Admit p) goal = tells_stop _
scope_of_eliminations env is calls g (Simpl p) goal = tells_stop _
scope_of_eliminations env is calls g (Unfold p w) goal = tells_stop _
scope_of_eliminations env is calls g (Rewrite p d s) goal = tells_stop _
