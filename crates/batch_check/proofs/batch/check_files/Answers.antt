use Rattle.std.proofs.Common.{Ok, Err, ◌∙◌, ap, sym, subst, refl, arith}
use Rattle.std.proofs.lemmas.List.{drop_all}
use Rattle.base_core.specs.Files.{file_at}
use Rattle.doc_check.specs.Check.{checked}
use Rattle.batch_check.specs.Outcome.{file_outcome}
use Rattle.batch_check.proofs.Batches.{IsReporting, has_line, sofar_first, sofar_next, unread, no_text, out_of_memory, sink_failed, reports_on, ends_whole, ends_cut, told_both, told_one, told_any}
use Rattle.batch_check.proofs.batch.check_files.Goals as goal

pub loop-name-init : goal.loop-name-init
loop-name-init g c = (
  told_any (g.F.FileSet.content c.args.files.now) _
      (λ listed. sofar_first (λ name. file_outcome (checked g.P.Prover.means) name (file_at listed name)) c.args.names.now (g.S.Sink.written c.args.out.now) _),
  tt,
  refl,
  refl,
  omega arith,
  omega arith,
)

pub returns-in-Ok-NotRead-clause-told : goal.returns-in-Ok-NotRead-clause-told
returns-in-Ok-NotRead-clause-told g c =
    told_both _ _ _ _ _ c.loop-name.invariant.2 c.loop-name.invariant.0 c.check_next.ensures.told
    (λ listed s b. unread _ _ c.args.names.now c.loop-name.name-index c.name-item.result c.as_str.result.now _ _ _ _ _ _ _ c.loop-name-test.true (c.as_str.ensures ∙ c.name-item.is) s _ b _ (c.in-Ok-NotRead.is ∙ ap Ok c.in-Ok-NotRead.field-0-is))

pub returns-in-Ok-NotText-clause-told : goal.returns-in-Ok-NotText-clause-told
returns-in-Ok-NotText-clause-told g c =
    told_both _ _ _ _ _ c.loop-name.invariant.2 c.loop-name.invariant.0 c.check_next.ensures.told
    (λ listed s b. no_text _ _ c.args.names.now c.loop-name.name-index c.name-item.result c.as_str.result.now _ _ _ _ _ _ _ c.loop-name-test.true (c.as_str.ensures ∙ c.name-item.is) s _ b _ (c.in-Ok-NotText.is ∙ ap Ok c.in-Ok-NotText.field-0-is))

pub returns-in-Err-NoMem-clause-told : goal.returns-in-Err-NoMem-clause-told
returns-in-Err-NoMem-clause-told g c =
    told_both _ _ _ _ _ c.loop-name.invariant.2 c.loop-name.invariant.0 c.check_next.ensures.told
    (λ listed s b. out_of_memory _ _ c.args.names.now c.loop-name.name-index c.name-item.result c.as_str.result.now _ _ _ _ _ _ _ c.loop-name-test.true (c.as_str.ensures ∙ c.name-item.is) s _ b (λ n. has_line (checked g.P.Prover.means) n (file_at listed n)) _ (c.in-Err-NoMem.is ∙ ap Err c.in-Err-NoMem.field-0-is))

pub returns-in-Err-SinkFailed-clause-told : goal.returns-in-Err-SinkFailed-clause-told
returns-in-Err-SinkFailed-clause-told g c =
    told_both _ _ _ _ _ c.loop-name.invariant.2 c.loop-name.invariant.0 c.check_next.ensures.told
    (λ listed s b. sink_failed _ _ c.args.names.now c.loop-name.name-index c.name-item.result c.as_str.result.now _ _ _ _ _ _ _ c.loop-name-test.true (c.as_str.ensures ∙ c.name-item.is) s _ b (λ n. has_line (checked g.P.Prover.means) n (file_at listed n)) _ (c.in-Err-SinkFailed.is ∙ ap Err c.in-Err-SinkFailed.field-0-is))

pub loop-name-preserved : goal.loop-name-preserved
loop-name-preserved g c = (
  told_both _ _ _ _ _ c.loop-name.invariant.2 c.loop-name.invariant.0 c.check_next.ensures.told
      (λ listed s b. sofar_next _ _ c.args.names.now c.loop-name.name-index c.name-item.result c.as_str.result.now _ _ _ _ _ _ _ c.loop-name-test.true (c.as_str.ensures ∙ c.name-item.is) s _ b c.in-Ok-Reported.clean _ c.with_clean-ending.ensures (c.in-Ok-Reported.is ∙ ap Ok c.in-Ok-Reported.field-0-is)),
  subst IsReporting (sym c.with_clean-ending.ensures) (reports_on c.loop-name.ending c.in-Ok-Reported.clean c.loop-name.invariant.1),
  c.check_next.ensures.same ∙ c.loop-name.invariant.2,
  c.check_next.ensures.named ∙ c.loop-name.invariant.3,
  omega (arith, c.check_next.ensures.later, c.loop-name.invariant.4),
  omega (arith, c.check_next.ensures.reads, c.loop-name.invariant.5),
)

pub returns-in-Ok-clause-told : goal.returns-in-Ok-clause-told
returns-in-Ok-clause-told g c =
    told_one _ _ _ c.loop-name.invariant.0 (λ listed s. ends_whole _ _ _ _ _ _ _ _ _ _ (drop_all c.loop-name.name-index c.args.names.now (omega (arith, c.loop-name-test.false))) c.loop-name.invariant.1 s c.in-Ok.ensures.told)

pub returns-in-Err-clause-told : goal.returns-in-Err-clause-told
returns-in-Err-clause-told g c =
    told_one _ _ _ c.loop-name.invariant.0 (λ listed s. ends_cut _ _ _ _ _ _ _ _ _ _ (drop_all c.loop-name.name-index c.args.names.now (omega (arith, c.loop-name-test.false))) c.loop-name.invariant.1 s _ c.in-Err.ensures.told)
