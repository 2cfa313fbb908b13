-- What a document shows is sound, from the prelude on.
use Rattle.std.specs.Prelude.{List, [], ◌∷◌, fold}
use Rattle.prover_iface.specs.Sentences.{Sentence}
use Rattle.prover_iface.specs.Meanings.{state_behind}
use Rattle.cic_rules.specs.WellFormed.{Nothing}
use Rattle.cic_soundness.proofs.GroundedSound.{entries_are_grounded}
use Rattle.vernac_exec.specs.declared.state.State.{State}
use Rattle.vernac_exec.specs.Exec.{after}
use Rattle.vernac_exec.specs.States.{over}
use Rattle.vernac_exec.specs.Soundness.{IsSound}
use Rattle.vernac_exec.proofs.SoundStates.{states_are_sound}
use Rattle.cic_prover.specs.First.{after_all, prelude_sentences, first}
use Rattle.cic_prover.specs.Exec.{means}
use Rattle.cic_prover.specs.Soundness.{env_behind, DocumentsAreSound}

sound_behind : (m : State) (sentences : List Sentence) → IsSound m → IsSound (fold after m sentences)
sound_behind m [] is = is
sound_behind m (s ∷ sentences) is = sound_behind (after m s) sentences (states_are_sound.after m s is)

sound_first : IsSound first
unfolding first
sound_first =
    states_are_sound.first (after_all (over []) prelude_sentences).env
    (sound_behind (over []) prelude_sentences (states_are_sound.first [] Nothing)).environment

pub documents_are_sound : DocumentsAreSound
documents_are_sound =
    record {
      states = λ sentences. sound_behind first sentences sound_first;
      rows = λ sentences. states_are_sound.grounded (state_behind means sentences) (sound_behind first sentences sound_first);
      entries = λ sentences place there plain.
          entries_are_grounded.others (env_behind sentences) (sound_behind first sentences sound_first).environment place there plain;
    }
