use Rattle.std.proofs.Common.{◌<◌, ◌++◌, IfSome, All, map, length, refl, sym, subst, ap, ◌∙◌, arith}
use Rattle.prover_iface.specs.Laws.{IsDiag}
use Rattle.doc_check.specs.Check.{sentence_at, span_of, shifted}
use Rattle.doc_check.proofs.Placed.{all-placed}
use Rattle.doc_check.proofs.Telling.{told_diags, told_next, told_end, told_checked}
use Rattle.doc_check.proofs.reporting.report_diags.Goals as goal

pub add_told-requires-clause-told : goal.add_told-requires-clause-told
add_told-requires-clause-told g c =
    let p = g.P.Prover in
    subst (λ ss. All (IsDiag (sentence_at c.args.text.now (span_of ss c.loop-place.place)).text) c.told_of-told.result.now) (sym c.as_slice-places.ensures)
    (told_diags p.means (λ f. (p.meaning f.state, f.diags)) (λ f. f.diags) (λ f. refl) c.args.text.now c.args.spans.now p.means.first c.args.finished.now c.requires.kept
    g.met.P.Prover.placed c.utf8.text c.loop-place.place c.told_of-told.result.now c.loop-place-test.true c.requires.all c.told_of-told.ensures)

pub loop-place-preserved : goal.loop-place-preserved
loop-place-preserved g c =
    let p = g.P.Prover in
    told_next p.means (λ f. (p.meaning f.state, f.diags)) (λ f. f.diags) (λ f. refl) c.args.text.now c.args.spans.now p.means.first c.args.finished.now c.requires.kept
    c.loop-place.place c.loop-place.diags c.add_told.new.diags c.told_of-told.result.now c.loop-place-test.true c.requires.all c.loop-place.invariant c.told_of-told.ensures
    (c.in_ok-add_told.ensures ∙ ap (λ ss. c.loop-place.diags ++ map (shifted (span_of ss c.loop-place.place).from) c.told_of-told.result.now) c.as_slice-places.ensures)

pub returns-clause-diags : goal.returns-clause-diags
returns-clause-diags g c =
    let p = g.P.Prover in
    let whole =
    told_checked p.means c.args.text.now c.args.spans.now c.as_slice-places.result.now (p.meaning c.args.last.now) c.left_open.result c.loop-place.diags c.add_left_open.new.diags
    c.requires.kept.split c.as_slice-places.ensures c.left_open.ensures c.requires.last
    (told_end p.means c.args.text.now c.args.spans.now c.loop-place.place c.loop-place.diags (omega (arith, c.loop-place-test.false, c.loop-place.auto.place-end, c.requires.all)) c.loop-place.invariant)
    c.in_ok-add_left_open.ensures.diags in
    whole.1

pub returns-clause-placed : goal.returns-clause-placed
returns-clause-placed g c =
    let p = g.P.Prover in
    let whole =
    told_checked p.means c.args.text.now c.args.spans.now c.as_slice-places.result.now (p.meaning c.args.last.now) c.left_open.result c.loop-place.diags c.add_left_open.new.diags
    c.requires.kept.split c.as_slice-places.ensures c.left_open.ensures c.requires.last
    (told_end p.means c.args.text.now c.args.spans.now c.loop-place.place c.loop-place.diags (omega (arith, c.loop-place-test.false, c.loop-place.auto.place-end, c.requires.all)) c.loop-place.invariant)
    c.in_ok-add_left_open.ensures.diags in
    all-placed p.means g.met.P.Prover.placed c.args.text.now p.means.first c.left_open.result c.args.spans.now c.add_left_open.new.diags
    c.utf8.text c.requires.kept.short c.requires.kept.placed
    (subst (λ ss. IfSome c.left_open.result (λ n. n < length ss)) c.as_slice-places.ensures c.in_ok-add_left_open.ensures.known) whole.0
