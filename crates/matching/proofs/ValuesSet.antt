-- A match leaves no variable of its pattern unset.
use Rattle.std.specs.Prelude.{if◌then◌else◌, nat_lt, slice_get, slice_set, ◌||◌, ◌≤◌}
use Rattle.std.proofs.Common.{◌≡◌, ℕ, zero, suc, ◌+◌, ◌-◌, List, [], ◌∷◌, length, Bool, true, false, Option, Some, None, IfSome, refl, ap, arith}
use Rattle.std.proofs.lemmas.Option.{slice_get_past}
use Rattle.core_term.specs.Tree.{Tree, Var, Sorted, Constant, Prod, Lam, LetIn, App}
use Rattle.cic_rules.specs.declared.context.Hyp.{Hyp}
use Rattle.cic_rules.specs.declared.env.Slot.{Slot}
use Rattle.cic_rules.specs.declared.judge.Mode.TheVariants.{Same}
use Rattle.cic_rules.specs.Contexts.{plain_hyp, defined_hyp}
use Rattle.cic_rules.specs.Convert.{conv_at}
use Rattle.cic_rules.specs.Runs.{Run, spend, check_size}
use Rattle.cic_rules.specs.Laws.{Tells}
use Rattle.cic_rules.proofs.TellsLaws.{tells_pure, tells_stop, tells_bind, tells_step, tells_if, tells_within}
use Rattle.matching.specs.Lowering.{without_binders}
use Rattle.matching.specs.Patterns.{Values, is_open, has_unset, fill}
use Rattle.matching.specs.Match.{set_value, if_matched, match_under, match_binder, match_nodes, match_filled, match_at}
use Rattle.matching.specs.Laws.{Extends, MatchesSettle}
use Rattle.matching.proofs.ValuesKept.{same_values, more_values, set_extends, unset_open, any}

-- two parts

left_false : (a b : Bool) → (a || b) ≡ false → a ≡ false
left_false true b e = cc
left_false false b e = refl

right_false : (a b : Bool) → (a || b) ≡ false → b ≡ false
right_false true b e = cc
right_false false b e = e

both_false : (a b : Bool) → a ≡ false → b ≡ false → (a || b) ≡ false
both_false true b e f = cc
both_false false b e f = f

-- what is set stays so

past_end : (values : Values) (at : ℕ) → slice_get values at ≡ None → length values ≤ at
past_end [] at e = omega arith
past_end (x ∷ values) zero e = cc
past_end (x ∷ values) (suc at) e = omega (arith, past_end values at e)

set_by : (values found : Values) (at : ℕ) (v : Option (Option Tree)) → Extends values found → slice_get values at ≡ v → is_open v ≡ false →
    is_open (slice_get found at) ≡ false
set_by values found at None more looked shut =
    let past = past_end values at looked in
    ap is_open (slice_get_past found at (omega (arith, past, more.count)))
set_by values found at (Some None) more looked shut = cc
set_by values found at (Some (Some v)) more looked shut = ap is_open (more.kept at v looked)

variable_set : (values found : Values) (at : ℕ) (b : Bool) → Extends values found → (if b then false else is_open (slice_get values at)) ≡ false →
    (if b then false else is_open (slice_get found at)) ≡ false
variable_set values found at true more e = refl
variable_set values found at false more e = set_by values found at (slice_get values at) more refl e

both_still : (a b c d : Bool) → (a ≡ false → c ≡ false) → (b ≡ false → d ≡ false) → (a || b) ≡ false → (c || d) ≡ false
both_still a b c d one two e = both_false c d (one (left_false a b e)) (two (right_false a b e))

still_set : (values found : Values) (p : Tree) (binders : ℕ) → Extends values found → has_unset values p binders ≡ false → has_unset found p binders ≡ false
still_set values found (Var i) binders more e = variable_set values found (i - binders) (nat_lt i binders) more e
still_set values found (Sorted s) binders more e = refl
still_set values found (Constant c) binders more e = refl
still_set values found (Prod n a b) binders more e =
    both_still (has_unset values a binders) (has_unset values b (binders + 1)) (has_unset found a binders) (has_unset found b (binders + 1))
    (still_set values found a binders more) (still_set values found b (binders + 1) more) e
still_set values found (Lam n a b) binders more e =
    both_still (has_unset values a binders) (has_unset values b (binders + 1)) (has_unset found a binders) (has_unset found b (binders + 1))
    (still_set values found a binders more) (still_set values found b (binders + 1) more) e
still_set values found (LetIn n a t b) binders more e =
    both_still (has_unset values a binders) (has_unset values t binders || has_unset values b (binders + 1)) (has_unset found a binders)
    (has_unset found t binders || has_unset found b (binders + 1)) (still_set values found a binders more)
    (both_still (has_unset values t binders) (has_unset values b (binders + 1)) (has_unset found t binders) (has_unset found b (binders + 1))
    (still_set values found t binders more) (still_set values found b (binders + 1) more)) e
still_set values found (App f a) binders more e =
    both_still (has_unset values f binders) (has_unset values a binders) (has_unset found f binders) (has_unset found a binders)
    (still_set values found f binders more) (still_set values found a binders more) e

-- what is found extends the values and has a property, if anything is found
abbrev Found : Values → (Values → Type 0) → Option Values → Type 0
Found values Q found = IfSome found (λ vs. Extends values vs × Q vs)

-- no variable is unset in a part
abbrev IsSet : Tree → ℕ → Values → Type 0
IsSet p binders vs = has_unset vs p binders ≡ false

same_found : (values : Values) (Q R : Values → Type 0) (found : Option Values) → ((vs : Values) → Q vs → R vs) → Found values Q found → Found values R found
same_found values Q R None by f = tt
same_found values Q R (Some vs) by f = (f.0, by vs f.1)

more_found : (values found : Values) (p : Tree) (b : ℕ) (Q : Values → Type 0) (last : Option Values) → Extends values found → IsSet p b found →
    Found found Q last → Found values (λ vs. IsSet p b vs × Q vs) last
more_found values found p b Q None more set rest = tt
more_found values found p b Q (Some last) more set rest = (more_values values found last more rest.0, (still_set found last p b rest.0 set, rest.1))

tells_rest : (values : Values) (p : Tree) (b : ℕ) (Q : Values → Type 0) (found : Option Values) (rest : Values → Run (Option Values)) →
    Found values (IsSet p b) found → ((vs : Values) → Tells (rest vs) (Found vs Q)) → Tells (if_matched found rest) (Found values (λ vs. IsSet p b vs × Q vs))
tells_rest values p b Q None rest first rests = tells_pure None tt
tells_rest values p b Q (Some found) rest first rests =
    record { tells = λ left x e. more_found values found p b Q x first.0 first.1 ((rests found).tells left x e) }

tells_as : (run : Run (Option Values)) (values : Values) (Q R : Values → Type 0) → ((vs : Values) → Q vs → R vs) → Tells run (Found values Q) →
    Tells run (Found values R)
tells_as run values Q R by told = record { tells = λ left x e. same_found values Q R x by (told.tells left x e) }

set_here : (values : Values) (at : ℕ) (v : Tree) → is_open (slice_get (slice_set values at (Some v)) at) ≡ false
set_here [] at v = refl
set_here (x ∷ values) zero v = refl
set_here (x ∷ values) (suc at) v = set_here values at v

variable_found : (values : Values) (i binders : ℕ) (b : Bool) (v : Option Tree) → nat_lt i binders ≡ b → is_open (slice_get values (i - binders)) ≡ true →
    Found values (IsSet (Var i) binders) (set_value values (i - binders) v)
variable_found values i binders b None test vacant = tt
variable_found values i binders b (Some v) test vacant =
    (set_extends values (i - binders) (Some v) vacant, shut (nat_lt i binders))
  where
    shut : (c : Bool) → (if c then false else is_open (slice_get (slice_set values (i - binders) (Some v)) (i - binders))) ≡ false
    shut true = refl
    shut false = set_here values (i - binders) v

module _ (inner : List Hyp → ℕ → Tree → Tree → Values → Run (Option Values))
    (inners : (ctx : List Hyp) (binders : ℕ) (p t : Tree) (values : Values) → Tells (inner ctx binders p t values) (Found values (IsSet p binders))) where
  set_under : (ctx : List Hyp) (h : Hyp) (binders : ℕ) (p t : Tree) (values : Values) →
      Tells (match_under inner ctx h binders p t values) (Found values (IsSet p (binders + 1)))
  set_under ctx h binders p t values =
      tells_within ctx h (λ deeper. inner deeper (binders + 1) p t values) (inners (h ∷ ctx) (binders + 1) p t values)

  set_binder : (ctx : List Hyp) (h : Hyp) (binders : ℕ) (p t q u : Tree) (values : Values) →
      Tells (match_binder inner ctx h binders p t q u values) (Found values (λ vs. IsSet p binders vs × IsSet q (binders + 1) vs))
  set_binder ctx h binders p t q u values =
      tells_bind (inners ctx binders p t values) (λ found first.
      tells_rest values p binders (IsSet q (binders + 1)) found (match_under inner ctx h binders q u) first (set_under ctx h binders q u))

  set_nodes : (ctx : List Hyp) (binders : ℕ) (p t : Tree) (values : Values) → has_unset values p binders ≡ true →
      Tells (match_nodes inner ctx binders p t values) (Found values (IsSet p binders))
  set_nodes ctx binders (Var i) t values unset =
      tells_pure _ (variable_found values i binders (nat_lt i binders) (without_binders t binders) refl (unset_open values i binders (nat_lt i binders) refl unset))
  set_nodes ctx binders (Prod n p q) (Prod m t u) values unset =
      tells_as _ values (λ vs. IsSet p binders vs × IsSet q (binders + 1) vs) (IsSet (Prod n p q) binders)
      (λ vs set. both_false (has_unset vs p binders) (has_unset vs q (binders + 1)) set.0 set.1) (set_binder ctx (plain_hyp m t) binders p t q u values)
  set_nodes ctx binders (Lam n p q) (Lam m t u) values unset =
      tells_as _ values (λ vs. IsSet p binders vs × IsSet q (binders + 1) vs) (IsSet (Lam n p q) binders)
      (λ vs set. both_false (has_unset vs p binders) (has_unset vs q (binders + 1)) set.0 set.1) (set_binder ctx (plain_hyp m t) binders p t q u values)
  set_nodes ctx binders (LetIn n p v q) (LetIn m t w u) values unset =
      tells_as _ values (λ vs. IsSet p binders vs × (IsSet v binders vs × IsSet q (binders + 1) vs)) (IsSet (LetIn n p v q) binders)
      (λ vs set. both_false (has_unset vs p binders) (has_unset vs v binders || has_unset vs q (binders + 1)) set.0
      (both_false (has_unset vs v binders) (has_unset vs q (binders + 1)) set.1.0 set.1.1))
      (tells_bind (inners ctx binders p t values) (λ found first.
      tells_rest values p binders (λ vs. IsSet v binders vs × IsSet q (binders + 1) vs) found (match_binder inner ctx (defined_hyp m t w) binders v w q u) first
      (set_binder ctx (defined_hyp m t w) binders v w q u)))
  set_nodes ctx binders (App p q) (App t u) values unset =
      tells_as _ values (λ vs. IsSet p binders vs × IsSet q binders vs) (IsSet (App p q) binders)
      (λ vs set. both_false (has_unset vs p binders) (has_unset vs q binders) set.0 set.1)
      (tells_bind (inners ctx binders p t values) (λ found first.
      tells_rest values p binders (IsSet q binders) found (inner ctx binders q u) first (inners ctx binders q u)))
  set_nodes ctx binders _ _ values unset = tells_pure None tt

settled : (values : Values) (p : Tree) (binders : ℕ) (same : Bool) → IsSet p binders values → Found values (IsSet p binders) (if same then Some values else None)
settled values p binders true set = (same_values values, set)
settled values p binders false set = tt

set_filled : (env : List Slot) (calls : ℕ) (ctx : List Hyp) (binders : ℕ) (p q t : Tree) (values : Values) → IsSet p binders values →
    Tells (match_filled env calls ctx q t values) (Found values (IsSet p binders))
set_filled env calls ctx binders p q t values set =
    tells_step (check_size q) (tells_bind (any (conv_at env calls ctx Same q t)) (λ same h. tells_pure _ (settled values p binders same set)))

sets : (env : List Slot) (calls : ℕ) (ctx : List Hyp) (binders : ℕ) (p t : Tree) (values : Values) →
    Tells (match_at env calls ctx binders p t values) (Found values (IsSet p binders))
unfolding match_at
sets env zero ctx binders p t values = tells_stop _
sets env (suc calls) ctx binders p t values =
    tells_step (spend 1)
    (tells_if (has_unset values p binders)
    (set_nodes (match_at env calls) (sets env calls) ctx binders p t values)
    (λ set. set_filled env calls ctx binders p (fill values p binders) t values set))

only_set : (values : Values) (p : Tree) (binders : ℕ) (found : Option Values) → Found values (IsSet p binders) found → IfSome found (IsSet p binders)
only_set values p binders None f = tt
only_set values p binders (Some vs) f = f.1

pub matches_settle : MatchesSettle
matches_settle env calls ctx binders p t values =
    record { tells = λ left x e. only_set values p binders x ((sets env calls ctx binders p t values).tells left x e) }
