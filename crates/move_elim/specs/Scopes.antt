-- What stands in scope: a site and what is put there, what is eliminated, what is shown, and where a walk stands.
use Rattle.std.specs.Prelude.{◌≡◌, ℕ, ◌+◌, ◌^◌, ◌≤◌, ◌<◌, List, length, Ok}
use Rattle.core_term.specs.Tree.{Tree}
use Rattle.term_spine.specs.SpineLaws.{AreShallow}
use Rattle.cic_rules.specs.declared.context.Hyp.{Hyp}
use Rattle.cic_rules.specs.declared.decls.InductiveDecl.{InductiveDecl}
use Rattle.cic_rules.specs.declared.env.Slot.{Slot}
use Rattle.cic_rules.specs.Families.{count_params, count_indices}
use Rattle.cic_rules.specs.Judges.{MayJudge}
use Rattle.cic_rules.specs.Steps.{Step}
use Rattle.cic_rules.specs.Scopes.{IsScoped, AreScoped, AreBefore}
use Rattle.move_elim.specs.declared.cases.Walk.{Walk}
use Rattle.move_elim.specs.declared.claims.Claim.{Claim}
use Rattle.move_elim.specs.declared.sites.Site.{Site}
use Rattle.move_elim.specs.declared.subjects.Subject.{Subject}
use Rattle.move_elim.specs.Claims.{count_binders}

-- each value of a step is such
pub record Has {A : Type 0} (s : Step A) (P : A → Type 0) : Type 0 where
  pub has : (x : A) → s ≡ Ok x → P x

-- each level is that of a binder above, and there are not too many binders
pub record IsSite (s : Site) : Type 0 where
  pub above : AreBefore s.depth s.levels
  pub room : s.depth ≤ 2 ^ 31 + 3000

-- a term speaks of the variables of a site, and of globals
pub record MayPlace (globals : ℕ) (s : Site) (t : Tree) : Type 0 where
  pub site : IsSite s
  pub term : IsScoped (length s.levels) globals t

-- an inductive type's hypothesis, its parameters and its indices
pub record IsSubjectIn (env : List Slot) (ctx : List Hyp) (d : InductiveDecl) (x : Subject) : Type 0 where
  pub place : x.place < length env
  pub variable : x.variable < length ctx
  pub indices : AreBefore (length ctx) x.indices
  pub params : AreScoped (length ctx) (length env) x.params
  pub count : length x.params ≡ count_params d
  pub fit : length x.indices ≤ count_indices d

-- .. whose type is a term that the program holds
pub record IsSmallSubject (x : Subject) : Type 0 where
  pub few : length x.indices ≤ 1000
  pub shallow : AreShallow 1000 x.params

-- a claim below the binders of its context and those of the motive
pub record IsClaimIn (globals : ℕ) (c : Claim) : Type 0 where
  pub body : IsScoped (c.below + count_binders c) globals c.body
  pub indices : AreBefore c.below c.indices

-- a claim at a site, for a value there, and a type that is put there
pub record IsClaimAt (globals : ℕ) (c : Claim) (s : Site) (x t : Tree) : Type 0 where
  pub claim : IsClaimIn globals c
  pub above : AreBefore s.depth s.levels
  pub below : c.below ≤ s.depth
  pub value : IsScoped s.depth globals x
  pub term : IsScoped (length s.levels) globals t

-- what the case of each constructor is made of: the context of the goals, the claim below it, and the parameters
pub record AreCasesIn (env : List Slot) (hs : List Hyp) (c : Claim) (x : Subject) : Type 0 where
  pub judged : MayJudge env hs
  pub claim : IsClaimIn (length env) c
  pub below : c.below ≡ length hs
  pub few : length c.indices ≤ 1000
  pub params : AreScoped (length hs) (length env) x.params
  pub shallow : AreShallow 1000 x.params

-- a walk over a constructor's type, of which this is left
pub record IsWalkIn (env : List Slot) (c : Claim) (w : Walk) (t : Tree) : Type 0 where
  pub judged : MayJudge env w.ctx
  pub depth : w.site.depth ≡ length w.ctx
  pub claim : IsClaimAt (length env) c w.site w.built t
