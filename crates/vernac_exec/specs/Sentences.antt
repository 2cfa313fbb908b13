-- The run of a sentence: what it is read as is obeyed.
use Rattle.std.specs.Prelude.{ℕ, List, Option, Some, None}
use Rattle.base_core.specs.declared.kind.Kind.{Kind}
use Rattle.base_core.specs.declared.refusal_codes.TheConstants as code
use Rattle.bullet_focus.specs.Steps.{after_bullet, after_brace_open, after_brace_close}
use Rattle.cic_rules.specs.declared.env.Slot.{Slot}
use Rattle.cic_rules.specs.Runs.{Run, ◌>>=◌, give, pure, refuse}
use Rattle.vernac_exec.specs.declared.deed.Deed.{Deed}
use Rattle.vernac_exec.specs.declared.reading.Reading.{Reading}
use Rattle.vernac_exec.specs.declared.reading.Reading.TheVariants as read
use Rattle.vernac_exec.specs.declared.state.OpenProof.{OpenProof}
use Rattle.vernac_exec.specs.Commands.{obey}
use Rattle.vernac_exec.specs.Proofs.{refocused, prove, obey_inside}
use Rattle.vernac_exec.specs.Readings.{reading}

-- in an environment; so many judgements may stand in one another
module _ (env : List Slot) (calls : ℕ) where
  -- where no proof is under way: proof moves, bullets and braces want one
  abbrev pub run_outside : Reading → Run Deed
  run_outside (read.Command c) = obey env calls c
  run_outside _ = refuse code.NO_PROOF

  -- where this one is
  abbrev pub run_inside : OpenProof → Reading → Run Deed
  run_inside o (read.Command c) = obey_inside env calls o c
  run_inside o (read.Move m) = prove env calls o m
  run_inside o (read.Bullet mark count) = pure (refocused o (after_bullet mark count o.focus))
  run_inside o read.OpenBrace = pure (refocused o (after_brace_open o.focus))
  run_inside o read.CloseBrace = pure (refocused o (after_brace_close o.focus))

  abbrev pub run_reading : Option OpenProof → Reading → Run Deed
  run_reading None r = run_outside r
  run_reading (Some o) r = run_inside o r

  -- it is read first, whether a proof is under way or not
  unfoldable pub sentence_run : Option OpenProof → Kind → List ℕ → Run Deed
  sentence_run opened kind text = do
    r ← give (reading kind text)
    run_reading opened r
