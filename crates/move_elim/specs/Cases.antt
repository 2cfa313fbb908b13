-- The case of each constructor: a goal under its arguments, each recursive one followed by its hypothesis, and under what was generalised.
use Rattle.std.specs.Prelude.{ℕ, ◌+◌, ◌-◌, ◌==◌, List, ◌∷◌, Bool, true, false, Option, Some, None, Ok, if◌then◌else◌}
use Rattle.core_term.specs.Tree.{Tree, Var, Prod, LetIn}
use Rattle.term_spine.specs.Instantiate.{instantiate}
use Rattle.term_spine.specs.Spine.{eta_body, shift}
use Rattle.cic_rules.specs.declared.context.Hyp.{Hyp}
use Rattle.cic_rules.specs.declared.decls.Ctor.{Ctor}
use Rattle.cic_rules.specs.declared.env.Slot.{Slot}
use Rattle.cic_rules.specs.Contexts.{plain_hyp, defined_hyp}
use Rattle.cic_rules.specs.Eliminators.{WILDCARD, automatic, free_name, hypothesis_name}
use Rattle.cic_rules.specs.Families.{indices}
use Rattle.cic_rules.specs.Steps.{Step, ◌>>=◌}
use Rattle.fresh_names.specs.Shown.{with_shown}
use Rattle.proof_state.specs.declared.goals.Goal.{Goal}
use Rattle.proof_state.specs.Partial.{Partial, Hole, Abstracts, Defines, Applies}
use Rattle.move_elim.specs.declared.cases.Walk.{Walk}
use Rattle.move_elim.specs.declared.claims.Claim.{Claim}
use Rattle.move_elim.specs.declared.sites.Site.{Site}
use Rattle.move_elim.specs.declared.subjects.Subject.{Subject}
use Rattle.move_elim.specs.Branches.{Given, with_given, next_name, behind_next, behind_argument as names_behind}
use Rattle.move_elim.specs.Claims.{claim_at, at_params}
use Rattle.move_elim.specs.Sites.{placed, placed_all, own_site, with_variable, with_binder}
use Rattle.move_elim.specs.Steps.{sized, entered}

-- a goal
abbrev pub hole : List Hyp → Tree → Partial Goal
hole ctx ty = Hole (record { ctx = ctx; ty = ty })

-- what the hypothesis of a recursive argument says, under the argument's own products
abbrev pub hypothesis : Claim → Site → Tree → Tree → Step Tree
hypothesis c s x (Prod n a b) = do
  deeper ← sized (eta_body x)
  body ← hypothesis c (with_variable s) deeper b
  sized (Prod n (placed s a) body)
hypothesis c s x t = sized (claim_at c s.depth (placed_all s (indices c.params t)) x)

-- a function over a hypothesis, or a let for one that has a definition
abbrev pub over_binder : List ℕ → Tree → Option Tree → Partial Goal → Partial Goal
over_binder n a None s = Abstracts n a s
over_binder n a (Some t) s = Defines n a t s

-- a goal behind one more hypothesis
abbrev pub behind_hyp : List Hyp → Hyp → (List Hyp → Step (Partial Goal)) → Step (Partial Goal)
behind_hyp ctx h rest = do
  inner ← entered ctx h
  s ← rest inner
  Ok (over_binder h.name h.ty h.value s)

-- a goal behind its first binders, so many
abbrev pub introduced : ℕ → List Hyp → Tree → Step (Partial Goal)
introduced count ctx (Prod n a b) =
    if count == 0 then Ok (hole ctx (Prod n a b)) else behind_hyp ctx (plain_hyp n a) (λ inner. introduced (count - 1) inner b)
introduced count ctx (LetIn n a t b) =
    if count == 0 then Ok (hole ctx (LetIn n a t b)) else behind_hyp ctx (defined_hyp n a t) (λ inner. introduced (count - 1) inner b)
introduced count ctx t = Ok (hole ctx t)

-- .. behind one that is told first
abbrev pub introduced_behind : ℕ → List Hyp → Hyp → Tree → Step (Partial Goal)
introduced_behind count ctx h under = behind_hyp ctx h (λ inner. introduced count inner under)

-- behind one more argument of this name and type, to which the constructor is applied
abbrev pub past_argument : Walk → List ℕ → Tree → Step Walk
past_argument w n ty = do
  inner ← entered w.ctx (plain_hyp n ty)
  built ← sized (eta_body w.built)
  Ok (record { site = with_variable w.site; ctx = inner; built = built; names = with_shown n w.names })

-- .. and behind one more hypothesis
abbrev pub past_hypothesis : Walk → List ℕ → Tree → Step Walk
past_hypothesis w n ty = do
  inner ← entered w.ctx (plain_hyp n ty)
  Ok (record { site = with_binder w.site; ctx = inner; built = shift w.built; names = with_shown n w.names })

-- an argument of this name and type, and the rest behind it
abbrev pub under_argument : Walk → List ℕ → Tree → (Walk → Step (Partial Goal)) → Step (Partial Goal)
under_argument w n a rest = do
  inner ← past_argument w n (placed w.site a)
  s ← rest inner
  Ok (Abstracts n (placed w.site a) s)

-- a hypothesis of this name that says this, and the rest behind it
abbrev pub under_hypothesis : Walk → List ℕ → Step Tree → (Walk → Step (Partial Goal)) → Step (Partial Goal)
under_hypothesis w n says rest = do
  ty ← says
  inner ← past_hypothesis w n ty
  s ← rest inner
  Ok (Abstracts n ty s)

-- the name of a recursive argument's hypothesis: `IH` and the argument's name, where none is given, and none outside an induction
abbrev pub name_of_hypothesis : Bool → List (List ℕ) → List Given → List ℕ → List ℕ
name_of_hypothesis false names given n = WILDCARD
name_of_hypothesis true names given n = next_name given (free_name names (hypothesis_name n))

module _ (induction : Bool) (env : List Slot) (c : Claim) where
  -- the claim at the constructor, whose type ends here
  abbrev pub last_goal : Walk → Tree → Step (Partial Goal)
  last_goal w t = do
    goal ← sized (claim_at c w.site.depth (placed_all w.site (indices c.params t)) w.built)
    introduced c.moved w.ctx goal

  -- the name of an argument
  abbrev pub name_of_argument : Walk → List Given → List ℕ → Tree → List ℕ
  name_of_argument w given n a = next_name given (automatic env w.names n (placed w.site a))

  -- the rest behind the hypothesis of an argument, where that is recursive
  abbrev pub behind_hypothesis : Bool → Walk → Walk → List Given → List ℕ → Tree → (Walk → Step (Partial Goal)) → Step (Partial Goal)
  behind_hypothesis false w inner given n a rest = rest inner
  behind_hypothesis true w inner given n a rest =
      under_hypothesis inner (name_of_hypothesis induction inner.names (behind_next given) n) (hypothesis c (with_binder w.site) (Var 0) a) rest

  -- an argument, and its hypothesis, and then the rest
  abbrev pub behind_argument : Bool → Walk → List Given → List ℕ → Tree → (Walk → Step (Partial Goal)) → Step (Partial Goal)
  behind_argument recursive w given n a rest = under_argument w n a (λ inner. behind_hypothesis recursive w inner given n a rest)

  -- a case from an argument on, by which of the arguments are recursive
  abbrev pub case_from : Walk → List Given → List Bool → Tree → Step (Partial Goal)
  case_from w given (recursive ∷ later) (Prod n a b) =
      behind_argument recursive w given (name_of_argument w given n a) a (λ inner. case_from inner (names_behind induction recursive given) later b)
  case_from w given _ t = last_goal w t

  -- the case of the constructor with an index, with the names of its branch; other names stay
  abbrev pub case_of : Subject → List Hyp → List (List ℕ) → ℕ → Ctor → List Bool → List Given → Step (Partial Goal)
  case_of x hidden names index ctor flags given = do
    ty ← sized (instantiate x.params ctor.ty)
    built ← at_params (x.place + 1 + index) x
    case_from (record { site = own_site c.below; ctx = hidden; built = built; names = with_given names given }) given flags ty

  -- a function applied to the cases from a constructor on
  abbrev pub with_cases : Subject → List Hyp → List (List ℕ) → ℕ → List Ctor → List (List Bool) → List (List Given) → Partial Goal → Step (Partial Goal)
  with_cases x hidden names index (ctor ∷ later) (flags ∷ others) (given ∷ more) function = do
    case ← case_of x hidden names index ctor flags given
    with_cases x hidden names (index + 1) later others more (Applies function case)
  with_cases x hidden names index _ _ _ function = Ok function
