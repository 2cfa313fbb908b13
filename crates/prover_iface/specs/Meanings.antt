-- What a prover means, by what a state of it is.
use Rattle.std.specs.Prelude.{ℕ, Option, List, fold}
use Rattle.prover_iface.specs.declared.diagnostics.RelDiag.{RelDiag}
use Rattle.prover_iface.specs.declared.goals.GoalsView.{GoalsView}
use Rattle.prover_iface.specs.declared.outline.OutlineItem.{OutlineItem}
use Rattle.prover_iface.specs.Sentences.{Sentence}

pub record Meanings (M : Type 0) : Type 0 where
  -- the state before any sentence, and what it costs to make it
  pub first : M
  pub first_cost : ℕ
  -- the state behind a sentence, what is told of the sentence, and what it costs
  pub after : M → Sentence → M
  pub diagnosed : M → Sentence → List RelDiag
  pub cost : M → Sentence → ℕ
  -- of a state: the sentence that began the proof under way, its goals, and the declarations
  pub opened : M → Option ℕ
  pub goals_of : M → Option GoalsView
  pub outline_of : M → List OutlineItem

-- the state behind these sentences, from the first
abbrev pub state_behind : {M : Type 0} → Meanings M → List Sentence → M
state_behind means sentences = fold means.after means.first sentences
