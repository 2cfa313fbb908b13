-- What another name at a place leaves as it is.
use Rattle.std.proofs.Common.{◌≡◌, ℕ, zero, suc, ◌+◌, ◌≤◌, ◌^◌, List, [], ◌∷◌, ◌++◌, length, Option, Some, None, Ok, refl, ap, sym, subst, ◌∙◌, arith}
use Rattle.std.specs.Prelude.{slice_get, slice_set}
use Rattle.core_term.specs.Tree.{Tree, IsTerm, IsNumbered, free_bound}
use Rattle.core_term.specs.Places.{lift_of}
use Rattle.core_term.specs.Answers.{within_limits}
use Rattle.core_term.proofs.Bounds.{bounded-lifted}
use Rattle.core_term.proofs.FreeVariables.{numbered-lifted}
use Rattle.cic_rules.specs.declared.context.Hyp.{Hyp}
use Rattle.cic_rules.specs.Contexts.{renamed, IsContext, IsInIfAny, AreHyps, AreParams}

length-renamed : (ctx : List Hyp) (i : ℕ) (name : List ℕ) → length (renamed ctx i name) ≡ length ctx
length-renamed [] i name = refl
length-renamed (h ∷ hs) zero name = refl
length-renamed (h ∷ hs) (suc i) name = ap suc (length-renamed hs i name)

hyps-renamed : (ctx : List Hyp) (i : ℕ) (name : List ℕ) → AreHyps ctx → AreHyps (renamed ctx i name)
hyps-renamed [] i name h = tt
hyps-renamed (x ∷ hs) zero name h = (record { ty = h.0.ty; value = h.0.value }, h.1)
hyps-renamed (x ∷ hs) (suc i) name h = (rw (length-renamed hs i name) h.0, hyps-renamed hs i name h.1)

-- another name keeps all that is true of a context
pub is_context_renamed : (ctx : List Hyp) (i : ℕ) (name : List ℕ) → IsContext ctx → IsContext (renamed ctx i name)
is_context_renamed ctx i name h = record { short = rw (length-renamed ctx i name) h.short; hyps = hyps-renamed ctx i name h.hyps }

-- a hypothesis of the same type and value in the place of another is another name there
pub set_renamed : (ctx : List Hyp) (i : ℕ) (old new : Hyp) → slice_get ctx i ≡ Some old → new.ty ≡ old.ty → new.value ≡ old.value → slice_set ctx i new ≡ renamed ctx i new.name
set_renamed [] i old new h ty value = cc
set_renamed (x ∷ hs) zero old new h ty value =
    let same : x ≡ old = cc in
    let made : new ≡ record x { name = new.name } = grind (arith, same) in
    ap (λ n. n ∷ hs) made
set_renamed (x ∷ hs) (suc i) old new h ty value = ap (λ more. x ∷ more) (set_renamed hs i old new h ty value)

-- one more parameter
pub params_last : (hs : List Hyp) (h : Hyp) → AreParams hs → h.value ≡ None → AreParams (hs ++ (h ∷ []))
params_last [] h all none = (none, tt)
params_last (x ∷ hs) h all none = (all.0, params_last hs h all.1 none)

-- the terms of a hypothesis stand in the context before it
pub type_bound : (ctx : List Hyp) (i : ℕ) (h : Hyp) → AreHyps ctx → Some h ≡ slice_get ctx i → free_bound h.ty + suc i ≤ length ctx
type_bound [] i h hyps is = absurd (cc)
type_bound (g ∷ hs) zero h hyps is = let same : h ≡ g = cc in rw same (omega (arith, hyps.0.ty))
type_bound (g ∷ hs) (suc i) h hyps is = omega (arith, type_bound hs i h hyps.1 is)

pub value_bound : (ctx : List Hyp) (i : ℕ) (h : Hyp) (v : Tree) → AreHyps ctx → Some h ≡ slice_get ctx i → Some v ≡ h.value → free_bound v + suc i ≤ length ctx
value_bound [] i h v hyps is has = absurd (cc)
value_bound (g ∷ hs) zero h v hyps is has =
    let same : h ≡ g = cc in
    let P : Option Tree → Type 0 = λ o. IsInIfAny (length hs) o in
    let within : IsInIfAny (length hs) (Some v) = subst P (sym (has ∙ ap (λ x. x.value) same)) hyps.0.value in
    omega (arith, within)
value_bound (g ∷ hs) (suc i) h v hyps is has = omega (arith, value_bound hs i h v hyps.1 is has)

-- so they can be lifted over what stands behind them, and are never too large then
pub lift_numbered : (t : Tree) (i : ℕ) → IsTerm t → free_bound t + suc i ≤ 2 ^ 31 → IsNumbered (lift_of t (i + 1) 0)
lift_numbered t i is bound = numbered-lifted t (i + 1) 0 (free_bound t) (omega arith) (omega (arith, is.shallow))

pub lift_fits : (t : Tree) (i : ℕ) → IsTerm t → within_limits (lift_of t (i + 1) 0) ≡ Ok (lift_of t (suc i) 0)
lift_fits t i is =
    let same : i + 1 ≡ suc i = omega arith in
    ap (λ n. within_limits (lift_of t n 0)) same ∙ bounded-lifted t (suc i) 0 is
