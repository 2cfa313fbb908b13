-- Hypotheses from the binders of a goal's type.
use Rattle.std.specs.Prelude.{ℕ, List, [], ◌∷◌, Option, Some, None, true}
use Rattle.base_core.specs.declared.refusal_codes.TheConstants.{NO_PRODUCT}
use Rattle.coq_syntax.specs.declared.words.Word.{Word}
use Rattle.core_term.specs.Tree.{Tree, Prod, LetIn}
use Rattle.cic_rules.specs.declared.context.Hyp.{Hyp}
use Rattle.cic_rules.specs.declared.env.Slot.{Slot}
use Rattle.cic_rules.specs.Contexts.{plain_hyp, defined_hyp}
use Rattle.cic_rules.specs.Convert.{with_hyp}
use Rattle.cic_rules.specs.Reduce.{whnf_at}
use Rattle.cic_rules.specs.Runs.{Run, ◌>>=◌, pure, some_or}
use Rattle.cic_rules.specs.Steps.{take_step}
use Rattle.proof_state.specs.declared.goals.Goal.{Goal}
use Rattle.proof_state.specs.Partial.{Partial, Hole, Abstracts, Defines}
use Rattle.move_basic.specs.declared.opening.Opening.{Opening}
use Rattle.fresh_names.specs.Shown.{shown_names}
use Rattle.move_basic.specs.Names.{new_name}

-- a type's binder as a hypothesis, and what stands under it
abbrev pub opening : Hyp → Tree → Opening
opening h t = record { hyp = h; under = t }

-- where the type is a product or a let
abbrev pub opening_of : Tree → Option Opening
opening_of (Prod n a b) = Some (opening (plain_hyp n a) b)
opening_of (LetIn n a t b) = Some (opening (defined_hyp n a t) b)
opening_of _ = None

-- a goal
abbrev pub hole : List Hyp → Tree → Partial Goal
hole ctx ty = Hole (record { ctx = ctx; ty = ty })

abbrev pub under_binder : List ℕ → Tree → Option Tree → Partial Goal → Partial Goal
under_binder n a None s = Abstracts n a s
under_binder n a (Some t) s = Defines n a t s

-- a function over a hypothesis, or a let for one that has a definition
abbrev pub under_hyp : Hyp → Partial Goal → Partial Goal
under_hyp h s = under_binder h.name h.ty h.value s

abbrev pub named : Hyp → List ℕ → Hyp
named h n = record h { name = n }

-- a goal behind one more hypothesis, which is named first
abbrev pub entered : List Slot → List Hyp → Option Word → Hyp → (List Hyp → Run (Partial Goal)) → Run (Partial Goal)
entered env ctx w h rest = do
  n ← take_step (new_name env (shown_names ctx) w h.name h.ty)
  inner ← with_hyp ctx (named h n)
  s ← rest inner
  pure (under_hyp (named h n) s)

module _ (env : List Slot) (calls : ℕ) where
  abbrev pub opened_by : List Hyp → Tree → Option Opening → Run Opening
  opened_by ctx ty (Some o) = pure o
  opened_by ctx ty None = do
    reduced ← whnf_at env true calls ctx ty
    some_or NO_PRODUCT (opening_of reduced)

  -- the type's binder: of the type as it stands, or else reduced
  abbrev pub opened : List Hyp → Tree → Run Opening
  opened ctx ty = opened_by ctx ty (opening_of ty)

  -- `intro`, with a name or without
  abbrev pub intro : Option Word → List Hyp → Tree → Run (Partial Goal)
  intro w ctx ty = do
    o ← opened ctx ty
    entered env ctx w o.hyp (λ inner. pure (hole inner o.under))

  -- `intro` of each name
  abbrev pub intros_named : List Word → List Hyp → Tree → Run (Partial Goal)
  intros_named [] ctx ty = pure (hole ctx ty)
  intros_named (w ∷ ws) ctx ty = do
    o ← opened ctx ty
    entered env ctx (Some w) o.hyp (λ inner. intros_named ws inner o.under)

-- `intro` as long as the type as it stands has a binder
abbrev pub intros_all : List Slot → List Hyp → Tree → Run (Partial Goal)
intros_all env ctx (Prod n a b) = entered env ctx None (plain_hyp n a) (λ inner. intros_all env inner b)
intros_all env ctx (LetIn n a t b) = entered env ctx None (defined_hyp n a t) (λ inner. intros_all env inner b)
intros_all env ctx ty = pure (hole ctx ty)

-- `intros`, with names or without
abbrev pub intros : List Slot → ℕ → List Word → List Hyp → Tree → Run (Partial Goal)
intros env calls [] ctx ty = intros_all env ctx ty
intros env calls (w ∷ ws) ctx ty = intros_named env calls (w ∷ ws) ctx ty
