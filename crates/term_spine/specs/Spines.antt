-- What calls on spines answer.
use Rattle.std.specs.Prelude.{◌≡◌, Bool, true, false, Result, Ok, Err, not}
use Rattle.core_term.specs.Tree.{Tree, is_small}
use Rattle.core_term.specs.declared.stops.TermStop.{TermStop}
use Rattle.core_term.specs.declared.stops.TermStop.TheVariants.{TooLarge, NoMem}
use Rattle.term_spine.specs.declared.spines.Spine.{Spine}
use Rattle.term_spine.specs.Spine.{apply_all, IsHead}

-- the term of a spine
abbrev pub tree_of_spine : Spine → Tree
tree_of_spine s = apply_all s.head s.args

-- a spine of a term that no limit forbids
pub record IsSpineOf (s : Spine) (t : Tree) : Type 0 where
  pub whole : apply_all s.head s.args ≡ t
  pub small : is_small t ≡ true
  pub head : IsHead s.head

-- a call gives the spine of the term, where no limit forbids it, unless memory runs out
abbrev pub GivesSpine : Result Spine TermStop → Tree → Type 0
GivesSpine (Ok s) t = IsSpineOf s t
GivesSpine (Err TooLarge) t = is_small t ≡ false
GivesSpine (Err NoMem) t = Unit {0}

-- whether a limit forbids the term
abbrev pub IsTooLarge : Bool → Tree → Type 0
IsTooLarge is t = is ≡ not (is_small t)
