-- The loop of conversion: its turns end, keep scope, and answer as the whole loop does; and how a judgement is begun and left.
use Rattle.std.specs.Prelude.{◌≡◌, ℕ, suc, ◌+◌, ◌<◌, List, length, Bool, true, false, Result, Ok, Err, refl}
use Rattle.std.proofs.Common.{arith, ap, sym, ◌∙◌, subst}
use Rattle.base_core.specs.declared.refusals.Stop.{Stop}
use Rattle.base_core.specs.declared.refusals.Stop.TheVariants.{Refused, Out, NoMem}
use Rattle.core_term.specs.Tree.{Tree}
use Rattle.cic_rules.specs.declared.context.Hyp.{Hyp}
use Rattle.cic_rules.specs.declared.env.Slot.{Slot}
use Rattle.cic_rules.specs.declared.judge.Mode.{Mode}
use Rattle.cic_rules.specs.Environments.{IsEnvironment}
use Rattle.cic_rules.specs.Convert as rules
use Rattle.cic_rules.specs.Convert.{compare_cost, compare, conv_step, conv_at}
use Rattle.cic_rules.specs.Fuel.{FuelState, nested, left, calls_left}
use Rattle.cic_rules.specs.Reduce.{whnf_at}
use Rattle.cic_rules.specs.Runs.{Run, ◌>>◌, spend, Turn, Final, GoOn, runs}
use Rattle.cic_rules.specs.Scopes.{IsScopedContext}
use Rattle.cic_rules.proofs.FuelLaws.{IsTurn}
use Rattle.cic_rules.proofs.JudgeFuelLaws.{turn_convert, fuel_of_reduction, fuel_of_conversion}
use Rattle.cic_rules.proofs.JudgeScopes.{scope_of_reduction}
use Rattle.cic_rules.proofs.RunsLaws.{runs_go_on, runs_final, runs_stop}
use Rattle.conversion.specs.declared.sides.Sides.{Sides}
use Rattle.conversion.specs.declared.sides.Turned.TheVariants as turned
use Rattle.conversion.specs.Turns.{IsSpine, IsOkAs, EndsAs}
use Rattle.conversion.specs.Sides.{trees_of}
use Rattle.conversion.specs.Blockers.{IsTurned}
use Rattle.conversion.specs.Conversions.{Is, AreSides}
use Rattle.conversion.proofs.ConvertLaws.{judged}
use Rattle.conversion.proofs.ConvertScopes.{turn_tells}

on_by : (next : Sides) (answer : Result (Turn rules.Sides Bool) Stop) → IsOkAs IsTurned (turned.GoOn next) answer →
    (answer ≡ Ok (GoOn (trees_of next))) × (IsSpine next.left × IsSpine next.right)
on_by next (Ok (Final x)) is = absurd is
on_by next (Ok (GoOn p)) is = (ap (λ q. Ok (GoOn q)) (sym is.0), is.1)
on_by next (Err stop) is = absurd is

final_by : (x : Bool) (answer : Result (Turn rules.Sides Bool) Stop) → IsOkAs IsTurned (turned.Final x) answer → answer ≡ Ok (Final x)
final_by x (Ok (Final y)) is = ap (λ b. Ok (Final b)) (sym is)
final_by x (Ok (GoOn p)) is = absurd is
final_by x (Err stop) is = absurd is

module _ (env : List Slot) (ctx : List Hyp) (calls : ℕ) (mode : Mode) where
  abbrev step : rules.Sides → Run (Turn rules.Sides Bool)
  step sides = conv_step env calls (whnf_at env false calls) (conv_at env calls) ctx mode sides

  turns : (sides : rules.Sides) → IsTurn (step sides)
  turns sides =
      turn_convert env calls (whnf_at env false calls) (conv_at env calls) (λ c t. fuel_of_reduction env false calls c t)
      (λ c m t u. fuel_of_conversion env calls c m t u) ctx mode sides

  abbrev now_step : ℕ → rules.Sides → Run (Turn rules.Sides Bool)
  now_step n sides = conv_step env n (whnf_at env false n) (conv_at env n) ctx mode sides

  -- what holds of a loop under way: it answers as the whole, and both sides are in scope
  pub record IsTurning (s : Sides) (k : ℕ) (first : rules.Sides) (l : ℕ) : Type 0 where
    pub same : runs step (trees_of s) k ≡ runs step first l
    pub sides : AreSides env ctx s

  pub turning : (s : Sides) (l : ℕ) → AreSides env ctx s → IsTurning s l (trees_of s) l
  turning s l are = record { same = refl; sides = are }

  pub next_turning : IsEnvironment env → IsScopedContext (length env) ctx → (now : ℕ) → now ≡ calls → (s : Sides) (k : ℕ) (first : rules.Sides) (l : ℕ) (next : Sides) (j : ℕ) →
      IsTurning s k first l → EndsAs IsTurned (Ok (turned.GoOn next)) j (now_step now (trees_of s) k) → IsTurning next j first l
  next_turning is hyps now one s k first l next j way said =
      let ends = subst (λ n. EndsAs IsTurned (Ok (turned.GoOn next)) j (now_step n (trees_of s) k)) one said in
      let on = on_by next (step (trees_of s) k).answer ends.0 in
      let tells = turn_tells env ctx is calls (whnf_at env false calls) (conv_at env calls) (λ t h. scope_of_reduction env is false calls ctx hyps t h) mode (trees_of s)
      (way.sides.left.term, way.sides.right.term) in
      let scoped = tells.tells k (GoOn (trees_of next)) on.0 in
      record {
        same = ap (λ n. runs step (trees_of next) n) ends.1 ∙ (sym (runs_go_on step turns (trees_of s) (trees_of next) k on.0) ∙ way.same);
        sides = record {
          left = record { spine = on.1.0; term = scoped.0 };
          right = record { spine = on.1.1; term = scoped.1 };
        };
      }

  -- a turn that goes on takes a unit
  pub turn_takes : (now : ℕ) → now ≡ calls → (s next : Sides) (k j : ℕ) → EndsAs IsTurned (Ok (turned.GoOn next)) j (now_step now (trees_of s) k) → j < k
  turn_takes now one s next k j said =
      let ends = subst (λ n. EndsAs IsTurned (Ok (turned.GoOn next)) j (now_step n (trees_of s) k)) one said in
      let on = on_by next (step (trees_of s) k).answer ends.0 in
      let less = (turns (trees_of s)).takes k (trees_of next) on.0 in
      let same = ends.1 in
      omega (arith, less, same)

  pub turned_last : (now : ℕ) → now ≡ calls → (s : Sides) (k : ℕ) (first : rules.Sides) (l j : ℕ) (x : Bool) → IsTurning s k first l →
      EndsAs IsTurned (Ok (turned.Final x)) j (now_step now (trees_of s) k) → EndsAs Is (Ok x) j (runs step first l)
  turned_last now one s k first l j x way said =
      let ends = subst (λ n. EndsAs IsTurned (Ok (turned.Final x)) j (now_step n (trees_of s) k)) one said in
      let whole = sym (runs_final step turns (trees_of s) x k (final_by x (step (trees_of s) k).answer ends.0)) ∙ way.same in
      subst (λ r. EndsAs Is (Ok x) j r) whole (refl, ends.1)

  pub turned_stop : (now : ℕ) → now ≡ calls → (s : Sides) (k : ℕ) (first : rules.Sides) (l j : ℕ) (stop : Stop) → IsTurning s k first l →
      EndsAs IsTurned (Err stop) j (now_step now (trees_of s) k) → EndsAs {A = Bool} Is (Err stop) j (runs step first l)
  turned_stop now one s k first l j (Refused r) way said = absurd said
  turned_stop now one s k first l j NoMem way said = tt
  turned_stop now one s k first l j (Out limit) way said =
      let ends = subst (λ n. EndsAs IsTurned (Err (Out limit)) j (now_step n (trees_of s) k)) one said in
      let whole = sym (runs_stop step turns (trees_of s) (Out limit) k (sym ends.0)) ∙ way.same in
      subst (λ r. EndsAs {A = Bool} Is (Err (Out limit)) j r) whole (refl, ends.1)

-- a judgement that was begun and left
pub entered_judged : (env : List Slot) (ctx : List Hyp) (mode : Mode) (old entered after ended : FuelState) (result : Result Bool Stop) (t u : Tree) →
    entered ≡ nested true old → old.nesting < 2000 → left ended ≡ left after →
    EndsAs Is result (left after) ((spend (compare_cost t u) >> compare env (calls_left entered) (whnf_at env false (calls_left entered)) (conv_at env (calls_left entered)) ctx mode t u) (left entered)) →
    EndsAs Is result (left ended) (conv_at env (calls_left old) ctx mode t u (left old))
entered_judged env ctx mode old entered after ended result t u into room same ends =
    let nest : entered.nesting ≡ old.nesting + 1 = ap (λ f. f.nesting) into in
    let calls : calls_left old ≡ suc (calls_left entered) = omega (arith, nest, room) in
    let units : left entered ≡ left old = ap left into in
    let one = judged env ctx (calls_left entered) mode t u (calls_left old) (left entered) (left after) result calls ends in
    let two = subst (λ l. EndsAs Is result (left after) (conv_at env (calls_left old) ctx mode t u l)) units one in
    subst (λ k. EndsAs Is result k (conv_at env (calls_left old) ctx mode t u (left old))) (sym same) two
