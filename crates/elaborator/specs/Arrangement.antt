-- Arguments with names: in which order the arguments of an application stand. An argument is known by its number in the order in which
-- the arguments are written, from 0 on, and a seat is a leading product of the type with which the head was declared.
use Rattle.std.specs.Prelude.{ℕ, suc, List, [], ◌∷◌, ◌++◌, Bool, true, false, Option, Some, None, Ok, if◌then◌else◌, bytes_eq, slice_get, slice_set}
use Rattle.base_core.specs.declared.refusal_codes.TheConstants.{NO_SUCH_ARGUMENT, ARGUMENT_TWICE, ARGUMENT_MISSING}
use Rattle.coq_syntax.specs.declared.words.TokenPlace.{TokenPlace}
use Rattle.coq_syntax.specs.Trees.{Term, Name, Arguments, NoArgument, Positional, Given}
use Rattle.core_term.specs.Tree.{Tree, Prod}
use Rattle.cic_rules.specs.declared.context.Hyp.{Hyp}
use Rattle.cic_rules.specs.declared.env.Slot.{Slot}
use Rattle.cic_rules.specs.Steps.{Step, ◌>>=◌, refuse_step}
use Rattle.elaborator.specs.Names.{token, one_more, declared_type}

-- an argument with a name is among them
abbrev pub has_named : Arguments → Bool
has_named NoArgument = false
has_named (Positional t after) = has_named after
has_named (Given p w q t r after) = true

-- the first leading product of a name, in a type as it stands
abbrev pub product_of : Tree → List ℕ → Option ℕ
product_of (Prod n a b) name = if bytes_eq name n then Some 0 else one_more (product_of b name)
product_of t name = None

-- a seat for each leading product, each still free
abbrev pub free_seats : Tree → List (Option ℕ)
free_seats (Prod n a b) = None ∷ free_seats b
free_seats t = []

abbrev pub seat_at : TokenPlace → Option ℕ → Step ℕ
seat_at place None = refuse_step NO_SUCH_ARGUMENT (token place)
seat_at place (Some seat) = Ok seat

abbrev pub take_by : List (Option ℕ) → ℕ → TokenPlace → ℕ → Option (Option ℕ) → Step (List (Option ℕ))
take_by seats k place seat None = Ok seats
take_by seats k place seat (Some None) = Ok (slice_set seats seat (Some k))
take_by seats k place seat (Some (Some other)) = refuse_step ARGUMENT_TWICE (token place)

-- an argument takes a seat, where it is free
abbrev pub take_seat : List (Option ℕ) → ℕ → TokenPlace → ℕ → Step (List (Option ℕ))
take_seat seats k place seat = take_by seats k place seat (slice_get seats seat)

-- the arguments with names take their seats, from the left; the first of these arguments has the number k
abbrev pub seated : Tree → List (Option ℕ) → ℕ → Arguments → Step (List (Option ℕ))
seated ty seats k NoArgument = Ok seats
seated ty seats k (Positional t after) = seated ty seats (suc k) after
seated ty seats k (Given p w q t r after) = do
  seat ← seat_at w.place (product_of ty w.text)
  more ← take_seat seats k w.place seat
  seated ty more (suc k) after

-- the arguments without a name
abbrev pub positions : ℕ → Arguments → List ℕ
positions k NoArgument = []
positions k (Positional t after) = k ∷ positions (suc k) after
positions k (Given p w q t r after) = positions (suc k) after

abbrev pub any_taken : List (Option ℕ) → Bool
any_taken [] = false
any_taken (Some k ∷ seats) = true
any_taken (None ∷ seats) = any_taken seats

-- the arguments in order, behind those that are done: positional ones fill the free seats, and what remains of them follows; where they
-- give out, no seat from there on may be taken
abbrev pub filled : TokenPlace → List ℕ → List (Option ℕ) → List ℕ → Step (List ℕ)
filled head done [] ks = Ok (done ++ ks)
filled head done (Some k ∷ seats) ks = filled head (done ++ k ∷ []) seats ks
filled head done (None ∷ seats) (k ∷ ks) = filled head (done ++ k ∷ []) seats ks
filled head done (None ∷ seats) [] = if any_taken seats then refuse_step ARGUMENT_MISSING (token head) else Ok done

-- the order of the arguments of a head that was declared with this type
abbrev pub order_by : TokenPlace → Tree → Arguments → Step (List ℕ)
order_by head ty args = do
  seats ← seated ty (free_seats ty) 0 args
  filled head [] seats (positions 0 args)

-- a head that is no name has no product to take: its first argument with a name is refused, and there is one
abbrev pub unseated : Arguments → Step (List ℕ)
unseated NoArgument = Ok []
unseated (Positional t after) = unseated after
unseated (Given p w q t r after) = refuse_step NO_SUCH_ARGUMENT (token w.place)

abbrev pub order_if_declared : TokenPlace → Option Tree → Arguments → Step (List ℕ)
order_if_declared head None args = unseated args
order_if_declared head (Some ty) args = order_by head ty args

-- the order of arguments of which one at least has a name
abbrev pub order : List Slot → List Hyp → Term → Arguments → Step (List ℕ)
order env ctx (Name w) args = order_if_declared w.place (declared_type env ctx w.text) args
order env ctx head args = unseated args

abbrev pub with_picked : Option Tree → List Tree → List Tree
with_picked None ts = ts
with_picked (Some t) ts = t ∷ ts

-- the terms of these numbers
abbrev pub picked : List Tree → List ℕ → List Tree
picked values [] = []
picked values (k ∷ ks) = with_picked (slice_get values k) (picked values ks)
