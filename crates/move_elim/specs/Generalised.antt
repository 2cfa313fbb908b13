-- The hypotheses that are generalised, and the goal under binders for them.
use Rattle.std.specs.Prelude.{ℕ, zero, suc, ◌+◌, ◌-◌, nat_lt, List, [], ◌∷◌, ◌++◌, Bool, false, ◌&&◌, ◌||◌, not, Option, Some, None, if◌then◌else◌, slice_get}
use Rattle.core_term.specs.Tree.{Tree, Var, Sorted, Constant, Prod, Lam, LetIn, App}
use Rattle.core_term.specs.Places.{occurrences}
use Rattle.term_spine.specs.Globals.{has}
use Rattle.cic_rules.specs.declared.context.Hyp.{Hyp}
use Rattle.cic_rules.specs.Contexts.{type_of_variable, value_of_variable}
use Rattle.move_elim.specs.declared.generalised.Marked.{Marked}
use Rattle.move_elim.specs.declared.sites.Site.{Site}
use Rattle.move_elim.specs.Sites.{placed, stand_for}

abbrev pub is_marked : Option Bool → Bool
is_marked None = false
is_marked (Some b) = b

-- one of the marked variables stands in a term below so many binders
abbrev pub has_marked : List Bool → Tree → ℕ → Bool
has_marked marks (Var i) binders = if nat_lt i binders then false else is_marked (slice_get marks (i - binders))
has_marked marks (Sorted s) binders = false
has_marked marks (Constant c) binders = false
has_marked marks (Prod n a b) binders = has_marked marks a binders || has_marked marks b (binders + 1)
has_marked marks (Lam n a b) binders = has_marked marks a binders || has_marked marks b (binders + 1)
has_marked marks (LetIn n a t b) binders = has_marked marks a binders || (has_marked marks t binders || has_marked marks b (binders + 1))
has_marked marks (App f a) binders = has_marked marks f binders || has_marked marks a binders

abbrev pub value_has_marked : List Bool → Option Tree → Bool
value_has_marked marks None = false
value_has_marked marks (Some t) = has_marked marks t 0

-- a hypothesis behind the marked ones mentions one of them
abbrev pub hyp_has_marked : List Bool → Hyp → Bool
hyp_has_marked marks h = has_marked marks h.ty 0 || value_has_marked marks h.value

-- one more hypothesis at its place: it is marked where it is taken or mentions one that is, and generalised where it is marked but not taken
abbrev pub marked_by : Bool → Bool → ℕ → Marked → Marked
marked_by taken mentions i m =
    record { marks = (taken || mentions) ∷ m.marks; places = if mentions && not taken then m.places ++ (i ∷ []) else m.places }

abbrev pub next_marked : List ℕ → ℕ → Hyp → Marked → Marked
next_marked taken i h m = marked_by (has taken i) (hyp_has_marked m.marks h) i m

-- the hypotheses that mention a taken or a generalised one, by their places, the oldest first; the first of all stands at a place
abbrev pub marked_from : List ℕ → ℕ → List Hyp → Marked
marked_from taken i [] = record { marks = []; places = [] }
marked_from taken i (h ∷ hs) = next_marked taken i h (marked_from taken (i + 1) hs)

-- a type under the binder of a hypothesis: a product, or a let for one that has a definition
abbrev pub under_value : List ℕ → Tree → Option Tree → Tree → Tree
under_value n a None t = Prod n a t
under_value n a (Some v) t = LetIn n a v t

abbrev pub placed_if_any : Site → Option Tree → Option Tree
placed_if_any s None = None
placed_if_any s (Some t) = Some (placed s t)

-- .. of a hypothesis that there is, with its type and its definition, which are put at a site
abbrev pub under_hyp : Site → Option Hyp → Option Tree → Option Tree → Tree → Tree
under_hyp s (Some h) (Some a) value t = under_value h.name (placed s a) (placed_if_any s value) t
under_hyp s _ _ value t = t

-- the goal at a site, under binders for the hypotheses at some places
abbrev pub generalised : List Hyp → Site → List ℕ → Tree → Tree
generalised ctx s [] goal = placed s goal
generalised ctx s (i ∷ is) goal =
    under_hyp s (slice_get ctx i) (type_of_variable ctx i) (value_of_variable ctx i) (generalised ctx (stand_for i s) is goal)

abbrev pub value_mentions : Option Tree → ℕ → Bool
value_mentions None i = false
value_mentions (Some t) i = nat_lt 0 (occurrences t i)

-- a hypothesis mentions a variable that stands behind it
abbrev pub hyp_mentions : Hyp → ℕ → Bool
hyp_mentions h i = nat_lt 0 (occurrences h.ty i) || value_mentions h.value i

-- a newer hypothesis mentions the variable, so that it is generalised with it
abbrev pub is_mentioned : List Hyp → ℕ → Bool
is_mentioned [] i = false
is_mentioned (h ∷ hs) zero = false
is_mentioned (h ∷ hs) (suc i) = hyp_mentions h i || is_mentioned hs i

-- the goal or a generalised hypothesis mentions the variable
abbrev pub depends : List Hyp → Tree → ℕ → Bool
depends ctx goal i = nat_lt 0 (occurrences goal i) || is_mentioned ctx i
