-- What a name means: the newest hypothesis of that name, else the global.
use Rattle.std.specs.Prelude.{ℕ, suc, List, [], ◌∷◌, Option, Some, None, Ok, if◌then◌else◌, bytes_eq, codes, slice_get}
use Rattle.base_core.specs.declared.refusals.Place.{Place}
use Rattle.base_core.specs.declared.refusals.Place.TheVariants.{Part}
use Rattle.base_core.specs.declared.refusal_codes.TheConstants.{UNKNOWN_NAME}
use Rattle.coq_syntax.specs.declared.words.TokenPlace.{TokenPlace}
use Rattle.coq_syntax.specs.declared.words.Word.{Word}
use Rattle.coq_syntax.specs.declared.words.BoundName.{BoundName}
use Rattle.coq_syntax.specs.declared.words.BoundName.TheVariants.{Named, Unnamed}
use Rattle.core_term.specs.Tree.{Tree, Var, Constant}
use Rattle.cic_rules.specs.declared.context.Hyp.{Hyp}
use Rattle.cic_rules.specs.declared.env.Slot.{Slot}
use Rattle.cic_rules.specs.Environments.{place_in, type_of_global}
use Rattle.cic_rules.specs.Steps.{Step, refuse_step}

-- a token as the place of a refusal
abbrev pub token : TokenPlace → Place
token place = Part place.from place.to

-- the name of a binder that has none
abbrev pub unnamed : List ℕ
unnamed = codes "_"

-- the name that a binder gives
abbrev pub bound_name : BoundName → List ℕ
bound_name (Named word) = word.text
bound_name (Unnamed place) = unnamed

abbrev pub one_more : Option ℕ → Option ℕ
one_more None = None
one_more (Some i) = Some (suc i)

-- the newest hypothesis of a name, counted from the newest of all
abbrev pub index_of : List Hyp → List ℕ → Option ℕ
index_of [] name = None
index_of (h ∷ hs) name = if bytes_eq name h.name then Some 0 else one_more (index_of hs name)

abbrev pub constant_at : TokenPlace → Option ℕ → Step Tree
constant_at place None = refuse_step UNKNOWN_NAME (token place)
constant_at place (Some c) = Ok (Constant c)

-- the global of a name that stands at a token. An operator or a numeral at the token means the global whatever hypothesis has that name
abbrev pub global : List Slot → List ℕ → TokenPlace → Step Tree
global env name place = constant_at place (place_in env name)

abbrev pub meaning : List Slot → Word → Option ℕ → Step Tree
meaning env w None = global env w.text w.place
meaning env w (Some i) = Ok (Var i)

-- a name as a term
abbrev pub name : List Slot → List Hyp → Word → Step Tree
name env ctx w = meaning env w (index_of ctx w.text)

abbrev pub type_of_hyp : Option Hyp → Option Tree
type_of_hyp None = None
type_of_hyp (Some h) = Some h.ty

abbrev pub type_of_place : List Slot → Option ℕ → Option Tree
type_of_place env None = None
type_of_place env (Some c) = type_of_global env c

abbrev pub type_of_meaning : List Slot → List Hyp → List ℕ → Option ℕ → Option Tree
type_of_meaning env ctx name None = type_of_place env (place_in env name)
type_of_meaning env ctx name (Some i) = type_of_hyp (slice_get ctx i)

-- the type with which a name was declared, as it was declared
abbrev pub declared_type : List Slot → List Hyp → List ℕ → Option Tree
declared_type env ctx name = type_of_meaning env ctx name (index_of ctx name)
