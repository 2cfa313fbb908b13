-- Laws of the definitions.
use Rattle.std.specs.Prelude.{◌≡◌, ℕ, List, length, false, Some, slice_get, IfSome}
use Rattle.core_term.specs.Tree.{Tree}
use Rattle.core_term.specs.Places.{lift_of}
use Rattle.cic_rules.specs.declared.context.Hyp.{Hyp}
use Rattle.cic_rules.specs.declared.env.Slot.{Slot}
use Rattle.cic_rules.specs.Laws.{KeepsLawOfFuel, Tells}
use Rattle.matching.specs.Lowering.{without_binders}
use Rattle.matching.specs.Patterns.{Values, has_unset}
use Rattle.matching.specs.Match.{match_at}

-- a match under a lower limit
abbrev pub FuelOfMatch : Type 0
FuelOfMatch = (env : List Slot) (calls : ℕ) (ctx : List Hyp) (binders : ℕ) (p t : Tree) (values : Values) →
    KeepsLawOfFuel (match_at env calls ctx binders p t values)

-- what is taken out of binders gives the term back where it is lifted over them
abbrev pub LowersUndoLifts : Type 0
LowersUndoLifts = (t : Tree) (binders : ℕ) → IfSome (without_binders t binders) (λ v. lift_of v binders 0 ≡ t)

-- a match sets values and changes none: there are as many as before, and each that was set stands
pub record Extends (values found : Values) : Type 0 where
  pub count : length found ≡ length values
  pub kept : (at : ℕ) (v : Tree) → slice_get values at ≡ Some (Some v) → slice_get found at ≡ Some (Some v)

abbrev pub MatchesExtend : Type 0
MatchesExtend = (env : List Slot) (calls : ℕ) (ctx : List Hyp) (binders : ℕ) (p t : Tree) (values : Values) →
    Tells (match_at env calls ctx binders p t values) (λ found. IfSome found (Extends values))

-- a match leaves no variable of its pattern unset
abbrev pub MatchesSettle : Type 0
MatchesSettle = (env : List Slot) (calls : ℕ) (ctx : List Hyp) (binders : ℕ) (p t : Tree) (values : Values) →
    Tells (match_at env calls ctx binders p t values) (λ found. IfSome found (λ vs. has_unset vs p binders ≡ false))
