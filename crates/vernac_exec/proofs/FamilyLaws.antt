-- Inductive types as they are written: their types and their parameters.
use Rattle.std.proofs.Common.{◌≡◌, ℕ, zero, suc, ◌-◌, ◌<◌, ◌≤◌, List, [], ◌∷◌, ◌++◌, length, drop, slice_get, Bool, true, false, Some, None, Result, Ok, Err, refl, sym, ap, subst, ◌∙◌, arith, drop-cons}
use Rattle.std.specs.Prelude.{if◌then◌else◌, reverse, IfOk}
use Rattle.std.proofs.lemmas.Grind.{reverse_onto}
use Rattle.std.proofs.lemmas.Bool.Decides.{nat_tests}
use Rattle.std.proofs.lemmas.Option.{slice_get_within, get_or_from_slice_get}
use Rattle.base_core.specs.Answers.{Gives}
use Rattle.base_core.specs.declared.refusals.Stop.{Stop}
use Rattle.base_core.specs.declared.refusals.Stop.TheVariants.{Out}
use Rattle.base_core.specs.declared.refusals.Limit.TheVariants.{SizeLimit}
use Rattle.coq_syntax.specs.declared.tree.Group.{Group}
use Rattle.coq_syntax.specs.Nodes.{groups_of}
use Rattle.core_term.specs.Tree.{Tree, IsTerm, Prod, size_of, depth_of, is_small}
use Rattle.cic_rules.specs.declared.context.Hyp.{Hyp}
use Rattle.cic_rules.specs.declared.env.Slot.{Slot}
use Rattle.cic_rules.specs.Contexts.{products_over, plain_hyp, AreParams}
use Rattle.cic_rules.specs.Eliminators.{type_of_decl}
use Rattle.cic_rules.specs.Environments.{entered, IsNew, MayEnter}
use Rattle.cic_rules.specs.Fuel.{FuelState, left, calls_left}
use Rattle.cic_rules.specs.Inductive.{assumed_type}
use Rattle.cic_rules.specs.Judges.{MayJudge, IsTermIn, Meets}
use Rattle.cic_rules.specs.Scopes.{IsScoped, IsScopedContext}
use Rattle.cic_rules.specs.Steps.{TooLarge, step_then, answer_of}
use Rattle.inductive_check.specs.Steps.{assumption_of, sized as room_for}
use Rattle.inductive_check.proofs.BehindLaws.{judged_inner, sized_is}
use Rattle.inductive_check.proofs.OpenLaws.{assumed_may}
use Rattle.inductive_check.proofs.PartLaws.{large_more}
use Rattle.elaborator.specs.declared.binders.Binding.TheVariants.{Product}
use Rattle.elaborator.specs.Parts.{closed}
use Rattle.vernac_exec.specs.Families.{family}
use Rattle.vernac_exec.specs.Calls.{params_with, assumed_in}
use Rattle.vernac_exec.proofs.PlainGroups.{groups_plain}

-- products over a context, whose newest hypothesis stands nearest to the term
over_append : (xs ys : List Hyp) (t : Tree) → products_over (xs ++ ys) t ≡ products_over xs (products_over ys t)
over_append [] ys t = refl
over_append (x ∷ xs) ys t = ap (Prod x.name x.ty) (over_append xs ys t)

over_front : (h : Hyp) (hs : List Hyp) (t : Tree) → products_over (reverse (h ∷ hs)) t ≡ products_over (reverse hs) (Prod h.name h.ty t)
over_front h hs t = ap (λ xs. products_over xs t) (reverse_onto hs h []) ∙ over_append (reverse hs) (h ∷ []) t

whole_size : (hs : List Hyp) (t : Tree) → size_of t ≤ size_of (products_over hs t)
whole_size [] t = omega arith
whole_size (h ∷ hs) t = let rest = whole_size hs t in omega (arith, rest)

whole_depth : (hs : List Hyp) (t : Tree) → depth_of t ≤ depth_of (products_over hs t)
whole_depth [] t = omega arith
whole_depth (h ∷ hs) t = let rest = whole_depth hs t in omega (arith, rest)

room_none : (t : Tree) → is_small t ≡ false → room_for t ≡ Err (Out SizeLimit)
room_none t e = ap (λ b. if b then Ok t else Err (Out SizeLimit)) e

room_is : (t : Tree) → is_small t ≡ true → room_for t ≡ Ok t
room_is t e = ap (λ b. if b then Ok t else Err (Out SizeLimit)) e

front_by : (b : Bool) (hs : List Hyp) (p : Tree) → is_small p ≡ b → (b ≡ true → answer_of (closed Product hs p) ≡ room_for (products_over (reverse hs) p)) →
    answer_of (step_then (if b then Ok p else Err TooLarge) (λ u. closed Product hs u)) ≡ room_for (products_over (reverse hs) p)
front_by true hs p e next = next refl
front_by false hs p e next =
    sym (room_none (products_over (reverse hs) p) (large_more p (products_over (reverse hs) p) (whole_size (reverse hs) p) (whole_depth (reverse hs) p) e))

-- each product that is made is tested, and the whole is too large where one of them is
pub closed_products : (hs : List Hyp) (t : Tree) → is_small t ≡ true → answer_of (closed Product hs t) ≡ room_for (products_over (reverse hs) t)
closed_products [] t small = sym (room_is t small)
closed_products (h ∷ hs) t small =
    front_by (is_small (Prod h.name h.ty t)) hs (Prod h.name h.ty t) refl (λ e. closed_products hs (Prod h.name h.ty t) e)
    ∙ ap room_for (sym (over_front h hs t))

term_small : (t : Tree) → IsTerm t → is_small t ≡ true
term_small t is = let small = is.small in let shallow = is.shallow in grind (arith, nat_tests)

pub family_type : (result : Result Tree Stop) (name : List ℕ) (hs : List Hyp) (arity given : Tree) → IsTerm arity → given ≡ arity →
    Gives result (answer_of (closed Product hs given)) → Gives result (room_for (type_of_decl (family name hs arity [])))
family_type result name hs arity given is same h =
    let P : Result Tree Stop → Type 0 = λ r. Gives result r in
    subst P (ap (λ t. answer_of (closed Product hs t)) same ∙ closed_products hs arity (term_small arity is)) h

-- and they are in scope
over_scoped : (globals : ℕ) (hs : List Hyp) (t : Tree) → IsScopedContext globals hs → IsScoped (length hs) globals t →
    IsScoped 0 globals (products_over (reverse hs) t)
over_scoped globals [] t hyps is = is
over_scoped globals (h ∷ hs) t hyps is =
    subst (IsScoped 0 globals) (sym (over_front h hs t)) (over_scoped globals hs (Prod h.name h.ty t) hyps.1 (hyps.0.ty, is))

pub assumed_ready : (env : List Slot) (name : List ℕ) (hs : List Hyp) (arity ty : Tree) → Ok ty ≡ room_for (type_of_decl (family name hs arity [])) →
    IsNew env name → MayJudge env hs → IsTermIn env hs arity → MayEnter env (assumption_of name ty)
assumed_ready env name hs arity ty made new judged is =
    subst (λ t. MayEnter env (assumption_of name t)) (sym (sized_is ty (type_of_decl (family name hs arity [])) made))
    (assumed_may env name (type_of_decl (family name hs arity [])) new (over_scoped (length env) hs arity judged.scoped is))

there_by : (b : Bool) (inner : List Slot) (entries : Result (List Slot) Stop) → Ok inner ≡ (if b then entries else Err (Out SizeLimit)) → Ok inner ≡ entries
there_by true inner entries e = e
there_by false inner entries e = absurd (cc)

-- the parameters may be judged there too
pub judged_there : (env inner : List Slot) (name : List ℕ) (hs : List Hyp) (arity : Tree) → MayJudge env hs → Ok inner ≡ assumed_in env name hs arity →
    MayJudge inner hs
judged_there env inner name hs arity judged made =
    judged_inner env inner (assumed_type (family name hs arity [])) hs judged
    (there_by (is_small (type_of_decl (family name hs arity []))) inner (entered env (assumed_type (family name hs arity []))) made)

-- groups make hypotheses without definitions
pub params_plain : (env : List Slot) (gs : List Group) (f : FuelState) (answer : Result (List Hyp) Stop) (l : ℕ) → Meets answer l (params_with env gs f) →
    IfOk answer AreParams
params_plain env gs f (Ok hs) l met = (groups_plain env (calls_left f) [] (groups_of gs) tt).tells (left f) hs (sym met.0)
params_plain env gs f (Err stop) l met = tt

-- the oldest hypotheses of a context, in that order
plain_at : (hs : List Hyp) (i : ℕ) (h : Hyp) → AreParams hs → Some h ≡ slice_get hs i → h.value ≡ None
plain_at [] i h plain e = absurd (cc)
plain_at (x ∷ xs) zero h plain e = let same : h ≡ x = cc in ap (λ y. y.value) same ∙ plain.0
plain_at (x ∷ xs) (suc i) h plain e = plain_at xs i h plain.1 e

plain_is : (h : Hyp) → h.value ≡ None → plain_hyp h.name h.ty ≡ h
plain_is h none = ap (λ v. record { name = h.name; ty = h.ty; value = v }) (sym none)

one_before : (hs : List Hyp) (i at : ℕ) (h : Hyp) → at ≡ suc i → Some h ≡ slice_get hs i → drop i hs ≡ h ∷ drop at hs
one_before hs i at h next found =
    drop-cons hs i h (slice_get_within hs i h (sym found)) ∙ ap (λ y. y ∷ drop (suc i) hs) (get_or_from_slice_get hs i h h (sym found))
    ∙ ap (λ k. h ∷ drop k hs) (sym next)

pub oldest_next : (hs : List Hyp) (at : ℕ) (list all : List Hyp) (h : Hyp) (name : List ℕ) (ty : Tree) → 0 < at → AreParams hs →
    Some h ≡ slice_get hs (at - 1) → list ≡ reverse (drop at hs) → name ≡ h.name → ty ≡ h.ty → all ≡ list ++ plain_hyp name ty ∷ [] →
    all ≡ reverse (drop (at - 1) hs)
oldest_next hs at list all h name ty some plain found made named typed e =
    let same : plain_hyp name ty ≡ h =
    ap (λ n. plain_hyp n ty) named ∙ ap (λ t. plain_hyp h.name t) typed ∙ plain_is h (plain_at hs (at - 1) h plain found) in
    e ∙ ap (λ x. list ++ x ∷ []) same ∙ ap (λ xs. xs ++ h ∷ []) made ∙ sym (reverse_onto (drop at hs) h [])
    ∙ ap reverse (sym (one_before hs (at - 1) at h (omega (arith, some)) found))
