-- What may be put at a site: types and definitions of hypotheses, and the goal.
use Rattle.std.specs.Prelude.{◌≡◌, ℕ, zero, suc, List, [], ◌∷◌, length, true, false, Option, Some, None, Ok, Err, if◌then◌else◌, slice_set, refl}
use Rattle.std.proofs.Common.{arith, ap, sym, ◌∙◌, subst}
use Rattle.std.proofs.lemmas.Bool.Decides.{nat_tests}
use Rattle.core_term.specs.Answers.{within_limits, Gives}
use Rattle.core_term.specs.declared.stops.TermStop.{TermStop}
use Rattle.core_term.specs.declared.stops.TermStop.TheVariants.{TooLarge, NoMem}
use Rattle.core_term.specs.Tree.{Tree, Prod, LetIn, is_small}
use Rattle.cic_rules.specs.declared.context.Hyp.{Hyp}
use Rattle.cic_rules.specs.declared.env.Slot.{Slot}
use Rattle.cic_rules.specs.Contexts.{type_of_variable, value_of_variable}
use Rattle.cic_rules.specs.Judges.{MayJudge, IsTermIn}
use Rattle.cic_rules.specs.Scopes.{IsScoped}
use Rattle.cic_rules.proofs.EnvironmentScopes.{variable_scoped, value_scoped}
use Rattle.move_elim.specs.declared.sites.Site.{Site}
use Rattle.move_elim.specs.Generalised.{under_value, placed_if_any, under_hyp}
use Rattle.move_elim.specs.Scopes.{IsSite, MayPlace}
use Rattle.move_elim.specs.Sites.{placed, stand_for}

in_levels : (globals n m : ℕ) (t : Tree) → m ≡ n → IsScoped n globals t → IsScoped m globals t
in_levels globals n m t e scoped = subst (λ k. IsScoped k globals t) (sym e) scoped

pub type_placed : (env : List Slot) (ctx : List Hyp) (s : Site) (i : ℕ) (t : Tree) → MayJudge env ctx → IsSite s → length s.levels ≡ length ctx →
    Some t ≡ type_of_variable ctx i → MayPlace (length env) s t
type_placed env ctx s i t judged site levels e =
    record { site = site; term = in_levels (length env) (length ctx) (length s.levels) t levels (variable_scoped (length env) ctx i t judged.scoped (sym e)) }

pub value_placed : (env : List Slot) (ctx : List Hyp) (s : Site) (i : ℕ) (t : Tree) → MayJudge env ctx → IsSite s → length s.levels ≡ length ctx →
    Some t ≡ value_of_variable ctx i → MayPlace (length env) s t
value_placed env ctx s i t judged site levels e =
    record { site = site; term = in_levels (length env) (length ctx) (length s.levels) t levels (value_scoped (length env) ctx i t judged.scoped (sym e)) }

pub goal_placed : (env : List Slot) (ctx : List Hyp) (s : Site) (t : Tree) → IsTermIn env ctx t → IsSite s → length s.levels ≡ length ctx →
    MayPlace (length env) s t
goal_placed env ctx s t scoped site levels = record { site = site; term = in_levels (length env) (length ctx) (length s.levels) t levels scoped }

length_set : (ls : List ℕ) (i l : ℕ) → length (slice_set ls i l) ≡ length ls
length_set [] i l = refl
length_set (x ∷ xs) zero l = refl
length_set (x ∷ xs) (suc i) l = ap suc (length_set xs i l)

pub levels_standing : (i n : ℕ) (s : Site) → length s.levels ≡ n → length (stand_for i s).levels ≡ n
levels_standing i n s e = length_set s.levels i s.depth ∙ e

too_large : (t : Tree) → Gives {A = Tree} (Err TooLarge) (within_limits t) → is_small t ≡ false
too_large t gives =
    elim (is_small t) as (λ b. Gives {A = Tree} (Err TooLarge) (if b then Ok t else Err TooLarge) → b ≡ false) [ true ↦ λ is. absurd (cc) | false ↦ λ _. refl ] gives

-- a part that is too large ends the making of the whole
stopped : (stop : TermStop) (part whole : Tree) → (is_small part ≡ false → is_small whole ≡ false) → Gives {A = Tree} (Err stop) (within_limits part) →
    Gives {A = Tree} (Err stop) (within_limits whole)
stopped TooLarge part whole large gives = let big = large (too_large part gives) in rw big refl
stopped NoMem part whole large gives = tt

value_stop : (stop : TermStop) (n : List ℕ) (a : Tree) (v : Option Tree) (t : Tree) → Gives {A = Tree} (Err stop) (within_limits t) →
    Gives {A = Tree} (Err stop) (within_limits (under_value n a v t))
value_stop stop n a None t gives = stopped stop t (Prod n a t) (λ large. grind (arith, nat_tests, large)) gives
value_stop stop n a (Some v) t gives = stopped stop t (LetIn n a v t) (λ large. grind (arith, nat_tests, large)) gives

pub under_stop : (stop : TermStop) (s : Site) (h : Option Hyp) (a v : Option Tree) (t : Tree) → Gives {A = Tree} (Err stop) (within_limits t) →
    Gives {A = Tree} (Err stop) (within_limits (under_hyp s h a v t))
under_stop stop s None a v t gives = gives
under_stop stop s (Some h) None v t gives = gives
under_stop stop s (Some h) (Some a) v t gives = value_stop stop h.name (placed s a) (placed_if_any s v) t gives
