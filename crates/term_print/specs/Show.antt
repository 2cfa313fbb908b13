-- How terms are written.
use Rattle.std.specs.Prelude.{ℕ, nat_lt, List, [], ◌∷◌, ◌++◌, length, slice_get, codes, Bool, true, false, Option, Some, None, if◌then◌else◌}
use Rattle.core_term.specs.Tree.{Tree, Var, Sorted, Constant, Prod, Lam, LetIn, App, size_of}
use Rattle.core_term.specs.Places.{occurrences}
use Rattle.term_spine.specs.Globals.{globals_of, places_in}
use Rattle.cic_rules.specs.declared.context.Hyp.{Hyp}
use Rattle.cic_rules.specs.declared.entries.Entry.{Entry}
use Rattle.cic_rules.specs.declared.env.Slot.{Slot}
use Rattle.cic_rules.specs.Environments.{entry_at}
use Rattle.base_core.specs.declared.limits.TheConstants.{PRINTED_NODES_LIMIT, PRINTED_BYTES_LIMIT}
use Rattle.term_print.specs.Freshness.{fresh}
use Rattle.term_print.specs.Pieces.{Piece, piece, at_most, sort_text, applied, arrow, operation, quantified, function, definition}
use Rattle.term_print.specs.Pages.{large}

abbrev pub name_or_none : Option (List ℕ) → List ℕ
name_or_none None = []
name_or_none (Some name) = name

-- the name of a variable, where the names in scope begin with those of the variables, the newest first
abbrev pub variable_name : List (List ℕ) → ℕ → List ℕ
variable_name names i = name_or_none (slice_get names i)

abbrev pub entry_name : Option Entry → List ℕ
entry_name None = []
entry_name (Some e) = e.name

-- the name of a global
abbrev pub global_name : List Slot → ℕ → List ℕ
global_name env place = entry_name (entry_at env place)

-- whether the variable of a binder stands in what is under it
abbrev pub is_used : Tree → Bool
is_used b = nat_lt 0 (occurrences b 0)

-- a run of products goes on with a product whose variable is used
abbrev pub is_quantified : Tree → Bool
is_quantified (Prod n a b) = is_used b
is_quantified t = false

abbrev pub is_function : Tree → Bool
is_function (Lam n a b) = true
is_function t = false

-- the name under which the binder of a function is written; one that isn't used has none
abbrev pub parameter : List (List ℕ) → List ℕ → Tree → List ℕ
parameter names n b = if is_used b then fresh names n else codes "_"

-- a term with arguments that are written already, where these names are in scope: first those of the variables, then all others that no
-- binder may have. A variable that isn't used is `_` there
unfoldable pub show : List Slot → Tree → List Piece → List (List ℕ) → Piece
show env (Var i) args names = applied (piece 0 (variable_name names i)) args
show env (Sorted s) args names = applied (piece 0 (sort_text s)) args
show env (Constant c) args names = operation (global_name env c) args
show env (Prod n a b) args names =
    applied (if is_used b then quantified (is_quantified b) (fresh names n) (show env a [] names) (show env b [] (fresh names n ∷ names))
    else arrow (show env a [] names) (show env b [] (codes "_" ∷ names))) args
show env (Lam n a b) args names =
    applied (function (is_function b) (parameter names n b) (show env a [] names) (show env b [] (parameter names n b ∷ names))) args
show env (LetIn n a t b) args names =
    applied (definition (fresh names n) (show env a [] names) (show env t [] names) (show env b [] (fresh names n ∷ names))) args
show env (App f a) args names = show env f (show env a [] names ∷ args) names

-- several terms, as arguments
abbrev pub show_all : List Slot → List Tree → List (List ℕ) → List Piece
show_all env [] names = []
show_all env (t ∷ ts) names = show env t [] names ∷ show_all env ts names

abbrev pub hyp_names : List Hyp → List (List ℕ)
hyp_names [] = []
hyp_names (h ∷ hs) = h.name ∷ hyp_names hs

abbrev pub global_names : List Slot → List ℕ → List (List ℕ)
global_names env [] = []
global_names env (place ∷ places) = global_name env place ∷ global_names env places

-- the names that no binder of the term may have: those of the hypotheses, the newest first, and of the globals that stand in it
abbrev pub names_around : List Slot → List Hyp → Tree → List (List ℕ)
names_around env ctx t = hyp_names ctx ++ global_names env (places_in (globals_of t))

-- the text of a term, however long
abbrev pub whole_text : List Slot → List Hyp → Tree → List ℕ
whole_text env ctx t = at_most 200 (show env t [] (names_around env ctx t))

-- the text of a term of a context
abbrev pub printed : List Slot → List Hyp → Tree → List ℕ
printed env ctx t =
    if nat_lt PRINTED_NODES_LIMIT (size_of t) then large
    else (if nat_lt PRINTED_BYTES_LIMIT (length (whole_text env ctx t)) then large else whole_text env ctx t)
