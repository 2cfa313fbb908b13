-- What is put together from terms that are elaborated: applications, numerals, sorts, and what is closed over binders. Each term that is
-- made is tested for size.
use Rattle.std.specs.Prelude.{ℕ, zero, suc, ◌&&◌, nat_le, min, List, [], ◌∷◌, Result, Ok, Err, if◌then◌else◌, codes}
use Rattle.base_core.specs.declared.refusals.Stop.{Stop}
use Rattle.base_core.specs.declared.refusal_codes.TheConstants.{NO_LEVEL}
use Rattle.coq_syntax.specs.declared.words.TokenPlace.{TokenPlace}
use Rattle.coq_syntax.specs.declared.words.Word.{Word}
use Rattle.coq_syntax.specs.declared.words.BoundName.{BoundName}
use Rattle.coq_syntax.specs.Faults.{value_of}
use Rattle.coq_syntax.specs.Limits.{greatest_level}
use Rattle.core_term.specs.declared.sorts.Sort.TheVariants.{TypeSort}
use Rattle.core_term.specs.Tree.{Tree, Sorted, Prod, Lam, App, is_small}
use Rattle.core_term.specs.Places.{lift_of}
use Rattle.cic_rules.specs.declared.context.Hyp.{Hyp}
use Rattle.cic_rules.specs.declared.env.Slot.{Slot}
use Rattle.cic_rules.specs.Contexts.{extended, plain_hyp}
use Rattle.cic_rules.specs.Steps.{Step, ◌>>=◌, TooLarge, refuse_step}
use Rattle.elaborator.specs.declared.binders.Binding.{Binding}
use Rattle.elaborator.specs.declared.binders.Binding.TheVariants.{Product, Function}
use Rattle.elaborator.specs.Names.{token, bound_name, global}

-- a term that was made, where it is not too large
abbrev pub sized : Tree → Step Tree
sized t = if is_small t then Ok t else Err TooLarge

-- a function applied to arguments, from the left
abbrev pub applied : Tree → List Tree → Step Tree
applied f [] = Ok f
applied f (t ∷ ts) = do
  g ← sized (App f t)
  applied g ts

-- a function so many times on a term
abbrev pub times : ℕ → Tree → Tree → Step Tree
times zero f t = Ok t
times (suc n) f t = do
  u ← sized (App f t)
  times n f u

-- the number that a word writes; one above 1001 is read as 1001, of which the term is too deep as well (no parser gives more than 200)
abbrev pub number_of : Word → ℕ
number_of w = min (value_of w) 1001

abbrev pub successors : List Slot → TokenPlace → ℕ → Tree → Step Tree
successors env place zero t = Ok t
successors env place (suc n) t = do
  f ← global env (codes "S") place
  times (suc n) f t

-- a numeral: so many times `S` on `O`
abbrev pub numeral : List Slot → Word → Step Tree
numeral env w = do
  t ← global env (codes "O") w.place
  successors env w.place (number_of w) t

-- `Type@{n}`; what is no level is refused at its token, which no tree of a parser has
abbrev pub type_at : Word → Step Tree
type_at w = if nat_le 1 (value_of w) && nat_le (value_of w) greatest_level then Ok (Sorted (TypeSort (value_of w))) else refuse_step NO_LEVEL (token w.place)

-- the product or the function over a hypothesis
abbrev pub bind : Binding → Hyp → Tree → Tree
bind Product h t = Prod h.name h.ty t
bind Function h t = Lam h.name h.ty t

-- over several, the newest first
abbrev pub closed : Binding → List Hyp → Tree → Step Tree
closed kind [] t = Ok t
closed kind (h ∷ hs) t = do
  u ← sized (bind kind h t)
  closed kind hs u

abbrev pub then_open : Result (List Hyp) Stop → (List Hyp → Result (List Hyp) Stop) → Result (List Hyp) Stop
then_open (Ok inner) rest = rest inner
then_open (Err stop) rest = Err stop

-- the hypothesis of a name, of a type that stands behind so many others
abbrev pub lifted_hyp : BoundName → Tree → ℕ → Hyp
lifted_hyp n ty k = plain_hyp (bound_name n) (lift_of ty k 0)

-- the context with a hypothesis for each name, all of one type of the context before the group; k names of the group stand before these
abbrev pub opened : List Hyp → Tree → ℕ → List BoundName → Result (List Hyp) Stop
opened ctx ty k [] = Ok ctx
opened ctx ty k (n ∷ ns) = then_open (extended ctx (lifted_hyp n ty k)) (λ inner. opened inner ty (suc k) ns)
