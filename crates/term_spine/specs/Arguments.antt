-- What a list of arguments keeps, and what calls on it answer.
use Rattle.std.specs.Prelude.{◌≡◌, List, [], ◌∷◌, length, true, Option, Some, None, Result, Ok, Err, if◌then◌else◌}
use Rattle.core_term.specs.Tree.{Tree}
use Rattle.core_term.specs.declared.stops.TermStop.{TermStop}
use Rattle.core_term.specs.declared.stops.TermStop.TheVariants.{TooLarge}
use Rattle.term_spine.specs.declared.arguments.Link.{Link}
use Rattle.term_spine.specs.declared.arguments.Link.TheVariants.{End, More}
use Rattle.term_spine.specs.declared.arguments.Argument.{Argument}
use Rattle.term_spine.specs.Spine.{arguments_size, arguments_depth, are_small}

-- the arguments of a link, the first first
abbrev pub items_of : Link → List Tree
items_of End = []
items_of (More a) = a.value.first ∷ a.value.rest

-- an argument keeps the measures of the list that it begins
pub record IsArgument (a : Argument) : Type 0 where
  pub count : a.count ≡ length (a.first ∷ a.rest)
  pub size : a.size ≡ arguments_size (a.first ∷ a.rest)
  pub depth : a.depth ≡ arguments_depth (a.first ∷ a.rest)
  pub small : are_small (a.first ∷ a.rest) ≡ true

abbrev pub IsMeasured : Link → Type 0
IsMeasured End = Unit {0}
IsMeasured (More a) = IsArgument a.value

-- these arguments, where no limit forbids them
abbrev pub within_limits : List Tree → Result (List Tree) TermStop
within_limits args = if are_small args then Ok args else Err TooLarge

-- a list of arguments taken apart
abbrev pub IsSplit : Option (Tree × List Tree) → List Tree → Type 0
IsSplit None args = args ≡ []
IsSplit (Some p) args = args ≡ p.0 ∷ p.1
