-- What the parts of the whole term need, from what stands in scope.
use Rattle.std.specs.Prelude.{◌≡◌, ℕ, zero, suc, ◌+◌, ◌≤◌, ◌<◌, List, [], ◌∷◌, ◌++◌, length, take, drop, Bool, Some, Ok, refl}
use Rattle.std.proofs.Common.{arith, ap, sym, ◌∙◌, subst}
use Rattle.base_core.specs.declared.refusal_codes.TheConstants.{NOT_INDUCTIVE, INDICES_NOT_VARIABLES}
use Rattle.core_term.specs.declared.sorts.Sort.{Sort}
use Rattle.core_term.specs.Tree.{Tree, Var, Sorted, Constant, Prod, Lam, LetIn, App, IsTerm, depth_of}
use Rattle.cic_rules.specs.declared.context.Hyp.{Hyp}
use Rattle.cic_rules.specs.declared.decls.InductiveDecl.{InductiveDecl}
use Rattle.cic_rules.specs.declared.env.Slot.{Slot}
use Rattle.cic_rules.specs.Eliminators.{is_in_prop}
use Rattle.cic_rules.specs.Environments.{decl_at, IsEnvironment, IsScopedDecl, AreScopedCtors}
use Rattle.cic_rules.specs.Families.{count_params, newest_first, indices}
use Rattle.cic_rules.specs.Judges.{MayJudge, IsTermIn}
use Rattle.cic_rules.specs.Scopes.{AreScoped, AreBefore}
use Rattle.cic_rules.specs.Steps.{answer_of}
use Rattle.cic_rules.proofs.EnvironmentScopes.{scope_of_globals}
use Rattle.term_spine.specs.Spine.{arguments_of}
use Rattle.term_spine.specs.SpineLaws.{AreShallow}
use Rattle.move_elim.specs.declared.claims.Claim.{Claim}
use Rattle.move_elim.specs.declared.subjects.Subject.{Subject}
use Rattle.move_elim.specs.Branches.{Given}
use Rattle.move_elim.specs.Claims.{claim_site, claim_of}
use Rattle.move_elim.specs.Elimination.{hidden, moved_with, tested}
use Rattle.move_elim.specs.Generalised.{generalised}
use Rattle.move_elim.specs.Scopes.{Has, IsSubjectIn, IsSmallSubject, IsClaimIn, AreCasesIn}
use Rattle.move_elim.specs.Steps.{sized}
use Rattle.move_elim.specs.Subjects.{index_variables, is_whole, first_arguments, subject_of}
use Rattle.move_elim.proofs.ScopesOfEliminations.{tested_in, subject_in, variables_found}
use Rattle.move_elim.proofs.ScopesOfParts.{moved_before, claim_in, hidden_scoped, hidden_length}
use Rattle.move_elim.proofs.StepLaws.{has_ok, has_bind, has_any, has_some, has_require, answered}

-- the claim
pub claim_scoped : (env : List Slot) (ctx : List Hyp) (goal : Tree) (d : InductiveDecl) (x : Subject) (moved : List ℕ) (c : Claim) → MayJudge env ctx →
    IsTermIn env ctx goal → IsSubjectIn env ctx d x → AreBefore (length ctx) moved → Ok c ≡ answer_of (claim_of ctx goal d x moved) →
    IsClaimIn (length env) c
claim_scoped env ctx goal d x moved c judged scoped subject before e = (answered c (claim_in env ctx goal d x moved judged scoped subject.indices before) e).0

claim_parts : (ctx : List Hyp) (goal : Tree) (d : InductiveDecl) (x : Subject) (moved : List ℕ) →
    Has (claim_of ctx goal d x moved) (λ c. (c.below ≡ length ctx) × (c.indices ≡ x.indices))
claim_parts ctx goal d x moved =
    has_bind (has_any (sized (generalised ctx (claim_site (length ctx) (is_in_prop d) x) moved goal))) (λ body any_body. has_ok _ (refl, refl))

pub claim_below : (ctx : List Hyp) (goal : Tree) (d : InductiveDecl) (x : Subject) (moved : List ℕ) (c : Claim) →
    Ok c ≡ answer_of (claim_of ctx goal d x moved) → c.below ≡ length ctx
claim_below ctx goal d x moved c e = (answered c (claim_parts ctx goal d x moved) e).0

pub claim_few : (ctx : List Hyp) (goal : Tree) (d : InductiveDecl) (x : Subject) (moved : List ℕ) (c : Claim) → IsSmallSubject x →
    Ok c ≡ answer_of (claim_of ctx goal d x moved) → length c.indices ≤ 1000
claim_few ctx goal d x moved c small e =
    let same = (answered c (claim_parts ctx goal d x moved) e).1 in subst (λ is. length is ≤ 1000) (sym same) small.few

-- the cases
pub are_cases : (env : List Slot) (ctx hs : List Hyp) (d : InductiveDecl) (x : Subject) (moved : List ℕ) (c : Claim) → MayJudge env ctx →
    IsSubjectIn env ctx d x → IsSmallSubject x → IsClaimIn (length env) c → c.below ≡ length ctx → length c.indices ≤ 1000 →
    hs ≡ hidden ctx (x.variable ∷ moved) → AreCasesIn env hs c x
are_cases env ctx hs d x moved c judged subject small claim below few e =
    let same : length hs ≡ length ctx = ap length e ∙ hidden_length ctx (x.variable ∷ moved) in
    record {
      judged = subst (MayJudge env) (sym e) (record { scoped = hidden_scoped (length env) ctx (x.variable ∷ moved) judged.scoped });
      claim = claim;
      below = below ∙ sym same;
      few = few;
      params = subst (λ k. AreScoped k (length env) x.params) (sym same) subject.params;
      shallow = small.shallow;
    }

pub ctors_scoped : (env : List Slot) (ctx : List Hyp) (d : InductiveDecl) (x : Subject) → IsSubjectIn env ctx d x → IsScopedDecl (length env) d →
    AreScopedCtors (length x.params) (length env) d.ctors
ctors_scoped env ctx d x subject decl = subst (λ k. AreScopedCtors k (length env) d.ctors) (sym subject.count) decl.ctors

pub places_of_ctors : (induction : Bool) (env : List Slot) (ctx : List Hyp) (goal : Tree) (d : InductiveDecl) (x : Subject) (sort : Sort)
    (branches : List (List Given)) (e : ℕ) → Ok e ≡ answer_of (tested induction env ctx goal d x sort branches) → x.place + 1 + length d.ctors ≤ length env
places_of_ctors induction env ctx goal d x sort branches e is =
    let found = answered e (tested_in induction env ctx goal d x sort branches) is in let after = found.0 in let within = found.1 in omega (arith, after, within)

pub moved_are_before : (ctx : List Hyp) (x : Subject) (moved : List ℕ) → moved ≡ moved_with ctx x → AreBefore (length ctx) moved
moved_are_before ctx x moved e = subst (AreBefore (length ctx)) (sym e) (moved_before (x.variable ∷ x.indices) ctx)

pub decl_scoped : (env : List Slot) (place : ℕ) (d : InductiveDecl) → IsEnvironment env → Some d ≡ decl_at env place → IsScopedDecl (length env) d
decl_scoped env place d is e = scope_of_globals.decls env is place d (sym e)

-- the subject
append_shallow : (k : ℕ) (ts us : List Tree) → AreShallow k ts → AreShallow k us → AreShallow k (ts ++ us)
append_shallow k [] us h all = all
append_shallow k (t ∷ ts) us h all = (h.0, append_shallow k ts us h.1 all)

append_length : (ts : List Tree) (a : Tree) → length (ts ++ (a ∷ [])) ≡ length ts + 1
append_length [] a = refl
append_length (t ∷ ts) a = let rest = append_length ts a in omega (arith, rest)

arguments_shallow : (k : ℕ) (t : Tree) → depth_of t ≤ k → AreShallow k (arguments_of t)
arguments_shallow k (App f a) le = append_shallow k (arguments_of f) (a ∷ []) (arguments_shallow k f (omega (arith, le))) (omega (arith, le), tt)
arguments_shallow k (Var i) le = tt
arguments_shallow k (Sorted s) le = tt
arguments_shallow k (Constant c) le = tt
arguments_shallow k (Prod n a b) le = tt
arguments_shallow k (Lam n a b) le = tt
arguments_shallow k (LetIn n a t b) le = tt

arguments_few : (t : Tree) → length (arguments_of t) ≤ depth_of t
arguments_few (App f a) = let rest = arguments_few f in let count = append_length (arguments_of f) a in omega (arith, rest, count)
arguments_few (Var i) = omega arith
arguments_few (Sorted s) = omega arith
arguments_few (Constant c) = omega arith
arguments_few (Prod n a b) = omega arith
arguments_few (Lam n a b) = omega arith
arguments_few (LetIn n a t b) = omega arith

take_shallow : (k p : ℕ) (ts : List Tree) → AreShallow k ts → AreShallow k (take p ts)
take_shallow k zero ts h = tt
take_shallow k (suc p) [] h = tt
take_shallow k (suc p) (t ∷ ts) h = (h.0, take_shallow k p ts h.1)

newest_shallow : (k : ℕ) (ts later : List Tree) → AreShallow k ts → AreShallow k later → AreShallow k (newest_first ts later)
newest_shallow k [] later h all = all
newest_shallow k (t ∷ ts) later h all = newest_shallow k ts (t ∷ later) h.1 (h.0, all)

drop_few : (p : ℕ) (ts : List Tree) → length (drop p ts) ≤ length ts
drop_few zero ts = omega arith
drop_few (suc p) [] = omega arith
drop_few (suc p) (t ∷ ts) = let rest = drop_few p ts in omega (arith, rest)

subject_small : (env : List Slot) (ctx : List Hyp) (i : ℕ) (t : Tree) → depth_of t ≤ 1000 → Has (subject_of env ctx i t) IsSmallSubject
subject_small env ctx i t shallow =
    has_bind (has_any _) (λ place any_place.
    has_bind (has_some NOT_INDUCTIVE (decl_at env place) (λ d e. e)) (λ d there.
    has_require (is_whole d t) NOT_INDUCTIVE (λ whole.
    has_bind (has_some INDICES_NOT_VARIABLES (index_variables ctx (first_arguments (count_params d) t) [] (indices (count_params d) t))
    (λ is e. variables_found ctx (first_arguments (count_params d) t) [] (indices (count_params d) t) is e tt)) (λ is found.
    let count = found.1 in let some = drop_few (count_params d) (arguments_of t) in let few = arguments_few t in
    let s : Subject = record { variable = i; place = place; params = first_arguments (count_params d) t; indices = is } in
    let count_is : length is ≤ 1000 = omega (arith, count, some, few, shallow) in
    let flat : AreShallow 1000 (first_arguments (count_params d) t) =
    newest_shallow 1000 (take (count_params d) (arguments_of t)) [] (take_shallow 1000 (count_params d) (arguments_of t) (arguments_shallow 1000 t shallow)) tt in
    let small : IsSmallSubject s = record { few = count_is; shallow = flat } in
    has_ok s small))))

pub is_small_subject : (env : List Slot) (ctx : List Hyp) (i : ℕ) (t : Tree) (x : Subject) → IsTerm t → Ok x ≡ answer_of (subject_of env ctx i t) →
    IsSmallSubject x
is_small_subject env ctx i t x is e = answered x (subject_small env ctx i t is.shallow) e

pub is_subject : (env : List Slot) (ctx : List Hyp) (i : ℕ) (t : Tree) (x : Subject) → i < length ctx → IsTermIn env ctx t →
    Ok x ≡ answer_of (subject_of env ctx i t) → (d : InductiveDecl) → decl_at env x.place ≡ Some d → IsSubjectIn env ctx d x
is_subject env ctx i t x lt scoped e =
    answered {P = λ y. (d : InductiveDecl) → decl_at env y.place ≡ Some d → IsSubjectIn env ctx d y} x (subject_in env ctx i t lt scoped) e
