-- Terms whose binders are named `_` exactly where their variables are not used, and how these are written.
use Rattle.std.specs.Prelude.{◌≡◌, bytes_eq, ℕ, ◌+◌, nat_lt, List, [], ◌∷◌, length, codes, Bool, false, not, ◌||◌, Result, Ok, Err, if◌then◌else◌}
use Rattle.core_term.specs.Tree.{Tree, Var, Sorted, Constant, Prod, Lam, LetIn, App}
use Rattle.core_term.specs.Places.{occurrences}
use Rattle.core_term.specs.Answers.{within_limits}
use Rattle.core_term.specs.declared.stops.TermStop.{TermStop}
use Rattle.core_term.specs.declared.stops.TermStop.TheVariants.{TooLarge, NoMem}
use Rattle.cic_rules.specs.declared.env.Slot.{Slot}
use Rattle.term_print.specs.Freshness.{fresh, stem_of}
use Rattle.term_print.specs.Pieces.{Piece, piece, sort_text, applied, arrow, operation, quantified, function, definition}
use Rattle.term_print.specs.Show.{is_used, is_function, variable_name, global_name}

-- the name that a binder has where its variable is used, or not
abbrev pub own_name : Bool → List ℕ → List ℕ
own_name used name = if used then stem_of name else codes "_"

-- the term, where a product or a function is named `_` exactly where its variable is not used. Free names for its binders are the same
abbrev pub named : Tree → Tree
named (Var i) = Var i
named (Sorted s) = Sorted s
named (Constant c) = Constant c
named (Prod n a b) = Prod (own_name (is_used b) n) (named a) (named b)
named (Lam n a b) = Lam (own_name (is_used b) n) (named a) (named b)
named (LetIn n a t b) = LetIn n (named a) (named t) (named b)
named (App f a) = App (named f) (named a)

-- which of the binders around a term are used, the oldest first: those that were before, and those whose variables stand in the term
abbrev pub marked : Tree → List Bool → List Bool
marked t [] = []
marked t (used ∷ later) = (used || nat_lt 0 (occurrences t (length later))) ∷ marked t later

-- the same of a term that stands under one binder more
abbrev pub marked_under : Tree → List Bool → List Bool
marked_under t [] = []
marked_under t (used ∷ later) = (used || nat_lt 0 (occurrences t (length later + 1))) ∷ marked_under t later

-- a call gives what stands under a binder, named, and whether it uses the binder's variable, unless memory runs out
abbrev pub GivesUnder : Result (Tree × Bool) TermStop → Tree → Type 0
GivesUnder (Ok found) b = (Ok found.0 ≡ within_limits (named b)) × (found.1 ≡ is_used b)
GivesUnder (Err TooLarge) b = Err TooLarge ≡ within_limits (named b)
GivesUnder (Err NoMem) b = Unit {0}

-- whether the binder of this name is used
abbrev pub is_named : List ℕ → Bool
is_named name = not (bytes_eq name (codes "_"))

-- what is told of terms as they are is told of named terms by the names of their binders alone
abbrev pub is_quantified : Tree → Bool
is_quantified (Prod n a b) = is_named n
is_quantified t = false

abbrev pub parameter : List (List ℕ) → List ℕ → List ℕ
parameter names n = if is_named n then fresh names n else codes "_"

unfoldable pub show : List Slot → Tree → List Piece → List (List ℕ) → Piece
show env (Var i) args names = applied (piece 0 (variable_name names i)) args
show env (Sorted s) args names = applied (piece 0 (sort_text s)) args
show env (Constant c) args names = operation (global_name env c) args
show env (Prod n a b) args names =
    applied (if is_named n then quantified (is_quantified b) (fresh names n) (show env a [] names) (show env b [] (fresh names n ∷ names))
    else arrow (show env a [] names) (show env b [] (codes "_" ∷ names))) args
show env (Lam n a b) args names =
    applied (function (is_function b) (parameter names n) (show env a [] names) (show env b [] (parameter names n ∷ names))) args
show env (LetIn n a t b) args names =
    applied (definition (fresh names n) (show env a [] names) (show env t [] names) (show env b [] (fresh names n ∷ names))) args
show env (App f a) args names = show env f (show env a [] names ∷ args) names

-- several terms, as arguments
abbrev pub show_all : List Slot → List Tree → List (List ℕ) → List Piece
show_all env [] names = []
show_all env (t ∷ ts) names = show env t [] names ∷ show_all env ts names
