-- Goals and levels, shown one after another.
use Rattle.std.specs.Prelude.{◌≡◌, ℕ, zero, suc, ◌+◌, ◌<◌, List, [], ◌∷◌, ◌++◌, length, drop, Option, Some, None, slice_get}
use Rattle.std.proofs.Common.{refl, ap, sym, ◌∙◌, arith, append_assoc}
use Rattle.prover_iface.specs.declared.goals.GoalView.{GoalView}
use Rattle.bullet_focus.specs.declared.levels.Level.{Level}
use Rattle.bullet_focus.specs.Levels.{waiting_at}
use Rattle.cic_rules.specs.declared.env.Slot.{Slot}
use Rattle.proof_state.specs.declared.goals.Goal.{Goal}
use Rattle.proof_state.specs.Proof.{GoalStatus}
use Rattle.proof_state.specs.Steps.{goal_at}
use Rattle.vernac_exec.specs.Views.{with_goal_view, goal_views, level_views}
use Rattle.vernac_exec.proofs.HypLists.{from_place}

module _ (env : List Slot) (goals : List GoalStatus) where
  goal_first : (o : Option Goal) (views : List GoalView) → with_goal_view env o [] ++ views ≡ with_goal_view env o views
  goal_first None views = refl
  goal_first (Some g) views = refl

  pub goal_shown : (numbers : List ℕ) (i n : ℕ) (shown new all : List GoalView) → Some n ≡ slice_get numbers i →
      shown ++ goal_views env goals (drop i numbers) ≡ all → new ≡ shown ++ with_goal_view env (goal_at goals n) [] →
      new ++ goal_views env goals (drop (i + 1) numbers) ≡ all
  goal_shown numbers i n shown new all found before e =
      ap (λ xs. xs ++ goal_views env goals (drop (i + 1) numbers)) e
      ∙ append_assoc shown (with_goal_view env (goal_at goals n) []) (goal_views env goals (drop (i + 1) numbers))
      ∙ ap (λ xs. shown ++ xs) (goal_first (goal_at goals n) (goal_views env goals (drop (i + 1) numbers)))
      ∙ ap (λ ns. shown ++ goal_views env goals ns) (sym (from_place numbers i n found)) ∙ before

  level_first : (levels : List Level) (i : ℕ) → i < length levels →
      level_views env goals (drop i levels) ≡ goal_views env goals (waiting_at levels i) ∷ level_views env goals (drop (i + 1) levels)
  level_first [] i within = absurd (omega (arith, within))
  level_first (l ∷ levels) zero within = refl
  level_first (l ∷ levels) (suc i) within =
      let k : suc i + 1 ≡ suc (i + 1) = omega arith in rw k (level_first levels i (omega (arith, within)))

  pub level_shown : (levels : List Level) (i : ℕ) (x : List GoalView) (shown new all : List (List GoalView)) → i < length levels →
      x ≡ goal_views env goals (waiting_at levels i) → shown ++ level_views env goals (drop i levels) ≡ all → new ≡ shown ++ x ∷ [] →
      new ++ level_views env goals (drop (i + 1) levels) ≡ all
  level_shown levels i x shown new all within same before e =
      ap (λ xs. xs ++ level_views env goals (drop (i + 1) levels)) e
      ∙ append_assoc shown (x ∷ []) (level_views env goals (drop (i + 1) levels))
      ∙ ap (λ y. shown ++ y ∷ level_views env goals (drop (i + 1) levels)) same
      ∙ ap (λ xs. shown ++ xs) (sym (level_first levels i within)) ∙ before
