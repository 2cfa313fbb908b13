-- What a document shows is sound.
use Rattle.std.specs.Prelude.{◌≡◌, ℕ, ◌<◌, List, length, false}
use Rattle.prover_iface.specs.Sentences.{Sentence}
use Rattle.prover_iface.specs.Meanings.{state_behind}
use Rattle.cic_rules.specs.declared.env.Slot.{Slot}
use Rattle.cic_rules.specs.Grounded.{is_assumption, axioms, IsGrounded}
use Rattle.vernac_exec.specs.Soundness.{IsSound, AreGrounded}
use Rattle.cic_prover.specs.Exec.{means}

-- the environment behind sentences
abbrev pub env_behind : List Sentence → List Slot
env_behind sentences = (state_behind means sentences).env

pub record DocumentsAreSound : Type 0 where
  -- behind any sentences, refused ones among them, the environment is well formed
  pub states : (sentences : List Sentence) → IsSound (state_behind means sentences)
  -- each row of the outline has derivations in the written rules, all the way down to the axioms that are listed with it, and to
  -- itself where it is taken for granted
  pub rows : (sentences : List Sentence) → AreGrounded (state_behind means sentences)
  -- so has each entry that is no assumption, those of the prelude included
  pub entries : (sentences : List Sentence) (place : ℕ) → place < length (env_behind sentences) → is_assumption (env_behind sentences) place ≡ false →
      IsGrounded (env_behind sentences) (axioms (env_behind sentences) place) place
