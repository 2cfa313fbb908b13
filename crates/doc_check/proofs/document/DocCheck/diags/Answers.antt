use Rattle.std.proofs.Common.{length, sym, ap, ◌∙◌}
use Rattle.doc_check.proofs.Telling.{whole_doc, shown_doc, shown_last}
use Rattle.doc_check.proofs.document.DocCheck.diags.Goals as goal

pub report_diags-requires-clause-kept : goal.report_diags-requires-clause-kept
report_diags-requires-clause-kept g c =
    let p = g.P.Prover in
    let whole =
    whole_doc p.means (λ f. (p.meaning f.state, f.diags)) (λ f. f.number) c.self.inside.text c.self.inside.spans (p.meaning c.self.inside.first)
    c.self.inside.finished.items c.args.self.now (sym c.self.view_is) c.self.invariant c.requires in
    shown_doc p.means (λ f. (p.meaning f.state, f.diags)) c.self.inside.text c.as_str.result.now c.self.inside.spans c.self.inside.finished.items c.as_slice.result.now
    c.as_str.ensures c.as_slice.ensures.value whole.2

pub report_diags-requires-clause-all : goal.report_diags-requires-clause-all
report_diags-requires-clause-all g c =
    let p = g.P.Prover in
    let whole =
    whole_doc p.means (λ f. (p.meaning f.state, f.diags)) (λ f. f.number) c.self.inside.text c.self.inside.spans (p.meaning c.self.inside.first)
    c.self.inside.finished.items c.args.self.now (sym c.self.view_is) c.self.invariant c.requires in
    ap length c.as_slice.ensures.value ∙ whole.0

pub report_diags-requires-clause-last : goal.report_diags-requires-clause-last
report_diags-requires-clause-last g c =
    let p = g.P.Prover in
    let whole =
    whole_doc p.means (λ f. (p.meaning f.state, f.diags)) (λ f. f.number) c.self.inside.text c.self.inside.spans (p.meaning c.self.inside.first)
    c.self.inside.finished.items c.args.self.now (sym c.self.view_is) c.self.invariant c.requires in
    shown_last p.means (λ f. f.number) c.self.inside.text c.as_str.result.now c.self.inside.spans c.self.inside.finished.items c.args.self.now c.done.result
    (p.meaning c.state_after-last.result.now) (sym c.self.view_is) c.as_str.ensures c.done.ensures.done c.state_after-last.ensures whole.1
