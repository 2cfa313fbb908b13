-- What the parts of a named term are written as, one word for each.
use Rattle.std.specs.Prelude.{ℕ, List, [], ◌∷◌, codes}
use Rattle.core_term.specs.Tree.{Tree}
use Rattle.cic_rules.specs.declared.env.Slot.{Slot}
use Rattle.term_print.specs.Freshness.{fresh}
use Rattle.term_print.specs.Pieces.{Piece, argument_texts, applied, arrow, operation, quantified, function, definition, rest_of_run}
use Rattle.term_print.specs.Show.{is_function, global_name}
use Rattle.term_print.specs.Named.{show, show_all, is_quantified, parameter}

-- a term that is applied to nothing more
abbrev pub shown : List Slot → Tree → List (List ℕ) → Piece
shown env t names = show env t [] names

-- a head with its arguments
abbrev pub shown_spine : List Slot → Tree → List Tree → List (List ℕ) → Piece
shown_spine env head args names = show env head (show_all env args names) names

-- a head that is no global, with its arguments
abbrev pub shown_applied : List Slot → Tree → List Tree → List (List ℕ) → Piece
shown_applied env head args names = applied (shown env head names) (show_all env args names)

-- a global with its arguments
abbrev pub shown_global : List Slot → ℕ → List Tree → List (List ℕ) → Piece
shown_global env place args names = operation (global_name env place) (show_all env args names)

abbrev pub shown_arguments : List Slot → Tree → List Tree → List (List ℕ) → List ℕ
shown_arguments env first rest names = argument_texts (show_all env (first ∷ rest) names)

abbrev pub arrow_at : List Slot → Tree → Tree → List (List ℕ) → Piece
arrow_at env a b names = arrow (shown env a names) (shown env b (codes "_" ∷ names))

-- a product whose variable is used
abbrev pub quantified_at : List Slot → List ℕ → Tree → Tree → List (List ℕ) → Piece
quantified_at env n a b names = quantified (is_quantified b) (fresh names n) (shown env a names) (shown env b (fresh names n ∷ names))

abbrev pub quantified_in_run : List Slot → List ℕ → Tree → Tree → List (List ℕ) → List ℕ
quantified_in_run env n a b names = (quantified_at env n a b names).in_run

abbrev pub function_at : List Slot → List ℕ → Tree → Tree → List (List ℕ) → Piece
function_at env n a b names = function (is_function b) (parameter names n) (shown env a names) (shown env b (parameter names n ∷ names))

abbrev pub function_in_run : List Slot → List ℕ → Tree → Tree → List (List ℕ) → List ℕ
function_in_run env n a b names = (function_at env n a b names).in_run

abbrev pub let_text : List Slot → List ℕ → Tree → Tree → Tree → List (List ℕ) → List ℕ
let_text env n a t b names =
    (definition (fresh names n) (shown env a names) (shown env t names) (shown env b (fresh names n ∷ names))).text

-- what follows a binder of a run of products
abbrev pub behind_product : List Slot → Tree → List (List ℕ) → List ℕ
behind_product env b names = rest_of_run (is_quantified b) (codes ", ") (shown env b names)

-- what follows a binder of a run of functions
abbrev pub behind_parameter : List Slot → Tree → List (List ℕ) → List ℕ
behind_parameter env b names = rest_of_run (is_function b) (codes " => ") (shown env b names)
