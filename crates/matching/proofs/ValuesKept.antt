-- A match changes no value that is set.
use Rattle.std.specs.Prelude.{if◌then◌else◌, nat_lt, slice_get, slice_set}
use Rattle.std.proofs.Common.{◌≡◌, ℕ, zero, suc, ◌+◌, ◌-◌, List, [], ◌∷◌, length, Bool, true, false, Option, Some, None, IfSome, refl, sym, ◌∙◌, ap, arith}
use Rattle.core_term.specs.Tree.{Tree, Var, Sorted, Constant, Prod, Lam, LetIn, App}
use Rattle.cic_rules.specs.declared.context.Hyp.{Hyp}
use Rattle.cic_rules.specs.declared.env.Slot.{Slot}
use Rattle.cic_rules.specs.declared.judge.Mode.TheVariants.{Same}
use Rattle.cic_rules.specs.Contexts.{plain_hyp, defined_hyp}
use Rattle.cic_rules.specs.Convert.{conv_at}
use Rattle.cic_rules.specs.Runs.{Run, pure, spend, check_size}
use Rattle.cic_rules.specs.Laws.{Tells}
use Rattle.cic_rules.proofs.TellsLaws.{tells_pure, tells_stop, tells_bind, tells_step, tells_if, tells_within}
use Rattle.matching.specs.Lowering.{without_binders}
use Rattle.matching.specs.Patterns.{Values, is_open, is_unset, has_unset, fill}
use Rattle.matching.specs.Match.{set_value, if_matched, match_under, match_binder, match_nodes, match_filled, match_at}
use Rattle.matching.specs.Laws.{Extends, MatchesExtend}

-- what is found extends the values, if anything is found
abbrev pub Kept : Values → Option Values → Type 0
Kept values found = IfSome found (Extends values)

pub same_values : (values : Values) → Extends values values
same_values values = record { count = refl; kept = λ at v e. e }

pub more_values : (values found last : Values) → Extends values found → Extends found last → Extends values last
more_values values found last a b = record { count = b.count ∙ a.count; kept = λ at v e. b.kept at v (a.kept at v e) }

pub set_count : (values : Values) (at : ℕ) (v : Option Tree) → length (slice_set values at v) ≡ length values
set_count [] at v = refl
set_count (x ∷ values) zero v = refl
set_count (x ∷ values) (suc at) v = cc (set_count values at v)

-- the value at a place that is vacant is none that was set
set_kept : (values : Values) (place : ℕ) (v : Tree) → is_open (slice_get values place) ≡ true → (at : ℕ) (w : Tree) →
    slice_get values at ≡ Some (Some w) → slice_get (slice_set values place (Some v)) at ≡ Some (Some w)
set_kept [] place v vacant at w e = e
set_kept (None ∷ values) zero v vacant zero w e = cc
set_kept (Some x ∷ values) zero v vacant at w e = cc
set_kept (None ∷ values) zero v vacant (suc at) w e = e
set_kept (x ∷ values) (suc place) v vacant zero w e = e
set_kept (x ∷ values) (suc place) v vacant (suc at) w e = set_kept values place v vacant at w e

pub set_extends : (values : Values) (at : ℕ) (v : Option Tree) → is_open (slice_get values at) ≡ true → Kept values (set_value values at v)
set_extends values at None vacant = tt
set_extends values at (Some v) vacant = record { count = set_count values at (Some v); kept = set_kept values at v vacant }

pub unset_open : (values : Values) (i binders : ℕ) (b : Bool) → nat_lt i binders ≡ b →
    (if b then false else is_open (slice_get values (i - binders))) ≡ true → is_open (slice_get values (i - binders)) ≡ true
unset_open values i binders true is e = cc
unset_open values i binders false is e = e

tells_if_matched : (values : Values) (found : Option Values) (rest : Values → Run (Option Values)) → Kept values found →
    ((vs : Values) → Tells (rest vs) (Kept vs)) → Tells (if_matched found rest) (Kept values)
tells_if_matched values None rest kept rests = tells_pure None tt
tells_if_matched values (Some found) rest kept rests =
    record { tells = λ left x e. kept_on values found x kept ((rests found).tells left x e) }
  where
    kept_on : (values found : Values) (x : Option Values) → Extends values found → Kept found x → Kept values x
    kept_on values found None a b = tt
    kept_on values found (Some last) a b = more_values values found last a b

module _ (inner : List Hyp → ℕ → Tree → Tree → Values → Run (Option Values))
    (inners : (ctx : List Hyp) (binders : ℕ) (p t : Tree) (values : Values) → Tells (inner ctx binders p t values) (Kept values)) where
  tells_under : (ctx : List Hyp) (h : Hyp) (binders : ℕ) (p t : Tree) (values : Values) → Tells (match_under inner ctx h binders p t values) (Kept values)
  tells_under ctx h binders p t values =
      tells_within ctx h (λ deeper. inner deeper (binders + 1) p t values) (inners (h ∷ ctx) (binders + 1) p t values)

  tells_binder : (ctx : List Hyp) (h : Hyp) (binders : ℕ) (p t q u : Tree) (values : Values) →
      Tells (match_binder inner ctx h binders p t q u values) (Kept values)
  tells_binder ctx h binders p t q u values =
      tells_bind (inners ctx binders p t values) (λ found kept.
      tells_if_matched values found (match_under inner ctx h binders q u) kept (tells_under ctx h binders q u))

  tells_nodes : (ctx : List Hyp) (binders : ℕ) (p t : Tree) (values : Values) → has_unset values p binders ≡ true →
      Tells (match_nodes inner ctx binders p t values) (Kept values)
  tells_nodes ctx binders (Var i) t values unset =
      tells_pure _ (set_extends values (i - binders) (without_binders t binders) (unset_open values i binders (nat_lt i binders) refl unset))
  tells_nodes ctx binders (Prod n p q) (Prod m t u) values unset = tells_binder ctx (plain_hyp m t) binders p t q u values
  tells_nodes ctx binders (Lam n p q) (Lam m t u) values unset = tells_binder ctx (plain_hyp m t) binders p t q u values
  tells_nodes ctx binders (LetIn n p v q) (LetIn m t w u) values unset =
      tells_bind (inners ctx binders p t values) (λ found kept.
      tells_if_matched values found (match_binder inner ctx (defined_hyp m t w) binders v w q u) kept
      (tells_binder ctx (defined_hyp m t w) binders v w q u))
  tells_nodes ctx binders (App p q) (App t u) values unset =
      tells_bind (inners ctx binders p t values) (λ found kept.
      tells_if_matched values found (inner ctx binders q u) kept (inners ctx binders q u))
  tells_nodes ctx binders _ _ values unset = tells_pure None tt

settled : (values : Values) (same : Bool) → Kept values (if same then Some values else None)
settled values true = same_values values
settled values false = tt

pub any : {A : Type 0} (f : Run A) → Tells f (λ _. Unit {0})
any f = record { tells = λ left x e. tt }

tells_filled : (env : List Slot) (calls : ℕ) (ctx : List Hyp) (p t : Tree) (values : Values) → Tells (match_filled env calls ctx p t values) (Kept values)
tells_filled env calls ctx p t values =
    tells_step (check_size p) (tells_bind (any (conv_at env calls ctx Same p t)) (λ same h. tells_pure _ (settled values same)))

pub matches_extend : MatchesExtend
unfolding match_at
matches_extend env zero ctx binders p t values = tells_stop _
matches_extend env (suc calls) ctx binders p t values =
    tells_step (spend 1)
    (tells_if (has_unset values p binders)
    (tells_nodes (match_at env calls) (matches_extend env calls) ctx binders p t values)
    (λ _. tells_filled env calls ctx (fill values p binders) t values))
