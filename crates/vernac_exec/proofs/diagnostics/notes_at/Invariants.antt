use Rattle.std.proofs.Common.{◌≡◌, ◌++◌, drop, map}
use Rattle.vernac_exec.specs.Diagnostics.{note_at}
use Rattle.vernac_exec.proofs.diagnostics.notes_at.Given as goal

abbrev pub invariant-loop-code : goal.invariant-loop-code
invariant-loop-code l = l.diags ++ map (note_at l.sentence) (drop l.code-index l.codes) ≡ map (note_at l.sentence) l.codes
