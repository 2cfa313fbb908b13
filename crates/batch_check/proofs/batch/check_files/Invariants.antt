use Rattle.std.proofs.Common.{◌≡◌, ◌≤◌, IfSome, map, drop}
use Rattle.base_core.specs.Files.{file_at}
use Rattle.doc_check.specs.Check.{checked}
use Rattle.batch_check.specs.Outcome.{file_outcome}
use Rattle.batch_check.specs.Batch.{files_batch}
use Rattle.batch_check.proofs.Batches.{SoFar, IsReporting}
use Rattle.batch_check.proofs.batch.check_files.Given as goal

abbrev pub invariant-loop-name : goal.invariant-loop-name
invariant-loop-name g l =
    IfSome (g.F.FileSet.content l.initial.files) (λ listed. SoFar (files_batch g.P.Prover.means listed l.names)
    (λ name. file_outcome (checked g.P.Prover.means) name (file_at listed name)) (drop l.name-index l.names) l.ending
    (g.S.Sink.written l.initial.out) (g.S.Sink.written l.out)
    (map g.O.Observer.shown l.initial.watch.items)
    (map g.O.Observer.shown l.watch.items))
    × IsReporting l.ending
    × (g.F.FileSet.content l.files ≡ g.F.FileSet.content l.initial.files)
    × (map g.O.Observer.title l.watch.items
    ≡ map g.O.Observer.title l.initial.watch.items)
    × (g.S.Sink.faults l.initial.out ≤ g.S.Sink.faults l.out)
    × (g.F.FileSet.faults l.initial.files ≤ g.F.FileSet.faults l.files)
