-- What stands in scope where the walk over a constructor's type begins.
use Rattle.std.specs.Prelude.{◌≡◌, ℕ, ◌^◌, ◌≤◌, ◌<◌, List, ◌∷◌, length, Bool, true, false, Result, Ok, Err, refl}
use Rattle.std.proofs.Common.{arith, sym, subst}
use Rattle.base_core.specs.Answers.{Gives}
use Rattle.base_core.specs.declared.refusals.Stop.{Stop}
use Rattle.base_core.specs.declared.refusals.Stop.TheVariants.{Refused, Out, NoMem}
use Rattle.core_term.specs.Tree.{Tree, Var, Constant, Prod, IsTerm, IsNumbered}
use Rattle.cic_rules.specs.declared.context.Hyp.{Hyp}
use Rattle.cic_rules.specs.declared.env.Slot.{Slot}
use Rattle.cic_rules.specs.Judges.{IsTermIn}
use Rattle.cic_rules.specs.Scopes.{IsScoped}
use Rattle.cic_rules.specs.Steps.{Step, ◌>>=◌, answer_of}
use Rattle.cic_rules.proofs.ScopeLaws.{scoped_free, scoped_instantiate}
use Rattle.term_spine.specs.Instantiate.{instantiate}
use Rattle.term_spine.proofs.Instantiations.{instantiate_numbered}
use Rattle.proof_state.specs.declared.goals.Goal.{Goal}
use Rattle.proof_state.specs.Partial.{Partial, Abstracts}
use Rattle.move_elim.specs.declared.cases.Walk.{Walk}
use Rattle.move_elim.specs.declared.claims.Claim.{Claim}
use Rattle.move_elim.specs.declared.sites.Site.{Site}
use Rattle.move_elim.specs.declared.subjects.Subject.{Subject}
use Rattle.move_elim.specs.Branches.{Given, behind_next}
use Rattle.move_elim.specs.Cases.{hypothesis, past_hypothesis, under_hypothesis, name_of_hypothesis, behind_hypothesis, case_from}
use Rattle.move_elim.specs.Claims.{applied_to}
use Rattle.move_elim.specs.Scopes.{IsWalkIn, AreCasesIn}
use Rattle.move_elim.specs.Sites.{own_site, with_binder}
use Rattle.move_elim.specs.Steps.{sized}
use Rattle.move_elim.proofs.MotiveLaws.{over_scoped, applied_scoped}
use Rattle.move_elim.proofs.ScopesOfEliminations.{first_walk}
use Rattle.move_elim.proofs.StepLaws.{has_sized, step_answer, answered}

module _ (env : List Slot) (hs : List Hyp) (c : Claim) (x : Subject) where
  pub type_numbered : (ty : Tree) → AreCasesIn env hs c x → IsScoped (length x.params) (length env) ty → length hs ≤ 2 ^ 31 → IsTerm ty →
      IsNumbered (instantiate x.params ty)
  type_numbered ty cases scoped short is =
      let free = scoped_free (length x.params) (length env) ty scoped in
      let shallow = is.shallow in
      instantiate_numbered x.params ty 0 (length hs) 1000 (over_scoped (length hs) (length env) x.params cases.params) cases.shallow
      (omega (arith, free)) (omega (arith, short, shallow))

  type_scoped : (ty t : Tree) → AreCasesIn env hs c x → IsScoped (length x.params) (length env) ty → Ok t ≡ answer_of (sized (instantiate x.params ty)) →
      IsTermIn env hs t
  type_scoped ty t cases scoped e =
      answered {P = IsTermIn env hs} t
      (has_sized (instantiate x.params ty) (scoped_instantiate (length hs) (length env) (length x.params) x.params ty refl scoped cases.params)) e

  built_scoped : (place : ℕ) (built : Tree) → AreCasesIn env hs c x → place < length env → Ok built ≡ answer_of (applied_to (Constant place) x.params) →
      IsTermIn env hs built
  built_scoped place built cases within e =
      answered {P = IsTermIn env hs} built (applied_scoped (length hs) (length env) (Constant place) x.params within cases.params) e

  walk_from : (t built : Tree) (names : List (List ℕ)) → AreCasesIn env hs c x → IsTermIn env hs built → IsTermIn env hs t →
      IsWalkIn env c (record { site = own_site c.below; ctx = hs; built = built; names = names }) t
  walk_from t built names cases one two = first_walk false env c hs built t names cases.judged cases.claim cases.below one two

  pub is_first_walk : (ty t built : Tree) (place : ℕ) (site : Site) (ctx : List Hyp) (names : List (List ℕ)) → AreCasesIn env hs c x →
      IsScoped (length x.params) (length env) ty → place < length env → Ok t ≡ answer_of (sized (instantiate x.params ty)) →
      Ok built ≡ answer_of (applied_to (Constant place) x.params) → site ≡ own_site c.below → ctx ≡ hs →
      IsWalkIn env c (record { site = site; ctx = ctx; built = built; names = names }) t
  is_first_walk ty t built place site ctx names cases scoped within e f here there =
      subst (λ s. IsWalkIn env c (record { site = s; ctx = ctx; built = built; names = names }) t) (sym here)
      (subst (λ h. IsWalkIn env c (record { site = own_site c.below; ctx = h; built = built; names = names }) t) (sym there)
      (walk_from t built names cases (built_scoped place built cases within f) (type_scoped ty t cases scoped e)))

-- a step that stops behind what went before
then_stop : {A B : Type 0} (s : Step A) (f : A → Step B) (x : A) (stop : Stop) → Ok x ≡ answer_of s → Gives {A = B} (Err stop) (answer_of (f x)) →
    Gives {A = B} (Err stop) (answer_of (s >>= f))
then_stop {B = B} s f x stop e gives = subst (λ r. Gives {A = B} (Err stop) (answer_of (r >>= f))) (sym (step_answer s x e)) gives

stop_first : {A B : Type 0} (stop : Stop) (s : Step A) (f : A → Step B) → Gives {A = A} (Err stop) (answer_of s) → Gives {A = B} (Err stop) (answer_of (s >>= f))
stop_first (Refused r) (Ok x) f gives = absurd (cc)
stop_first (Refused r) (Err halt) f gives = cc
stop_first (Out l) (Ok x) f gives = absurd (cc)
stop_first (Out l) (Err halt) f gives = cc
stop_first NoMem s f gives = tt

pub behind_stop : (induction : Bool) (env : List Slot) (c : Claim) (flag : Bool) (w inner last : Walk) (given : List Given) (n own : List ℕ) (a ty : Tree)
    (rest : Walk → Step (Partial Goal)) (stop : Stop) → flag ≡ true → Ok ty ≡ answer_of (hypothesis c (with_binder w.site) (Var 0) a) →
    own ≡ name_of_hypothesis induction inner.names (behind_next given) n → Ok last ≡ answer_of (past_hypothesis inner own ty) →
    Gives {A = Partial Goal} (Err stop) (answer_of (rest last)) →
    Gives {A = Partial Goal} (Err stop) (answer_of (behind_hypothesis induction env c flag w inner given n a rest))
behind_stop induction env c false w inner last given n own a ty rest stop set says named past gives = absurd (cc)
behind_stop induction env c true w inner last given n own a ty rest stop set says named past gives =
    subst (λ m. Gives {A = Partial Goal} (Err stop) (answer_of (under_hypothesis inner m (hypothesis c (with_binder w.site) (Var 0) a) rest))) named
    (then_stop (hypothesis c (with_binder w.site) (Var 0) a)
    (λ u. past_hypothesis inner own u >>= (λ v. rest v >>= (λ s. Ok (Abstracts own u s)))) ty stop says
    (then_stop (past_hypothesis inner own ty) (λ v. rest v >>= (λ s. Ok (Abstracts own ty s))) last stop past
    (stop_first stop (rest last) (λ s. Ok (Abstracts own ty s)) gives)))

pub same_case : (induction : Bool) (env : List Slot) (c : Claim) (w : Walk) (given : List Given) (flags : List Bool) (t : Tree) (flag : Bool) (later : List Bool)
    (n : List ℕ) (a b : Tree) (result : Result (Partial Goal) Stop) → flags ≡ flag ∷ later → t ≡ Prod n a b →
    Gives result (answer_of (case_from induction env c w given (flag ∷ later) (Prod n a b))) → Gives result (answer_of (case_from induction env c w given flags t))
same_case induction env c w given flags t flag later n a b result e f gives =
    subst (λ fs. Gives result (answer_of (case_from induction env c w given fs t))) (sym e)
    (subst (λ u. Gives result (answer_of (case_from induction env c w given (flag ∷ later) u))) (sym f) gives)
