use Rattle.std.proofs.Common.{rules, sym, subst, ap, ◌∙◌, All}
use Rattle.sentence_split.specs.Sentences.{sentences}
use Rattle.sentence_split.specs.Within.{IsSpanOf}
use Rattle.doc_check.proofs.Trail.{change_seen, change_new}
use Rattle.doc_check.proofs.document.DocCheck.change.Goals as goal

pub invariant_of-self : goal.invariant_of-self
invariant_of-self g c =
    let p = g.P.Prover in
    change_seen p.means (λ f. (p.meaning f.state, f.diags)) c.self.inside.text c.args.text c.as_str-2.result.now c.as_str-3.result.now
    c.self.inside.spans c.in_ok-spans.spans (p.meaning c.self.inside.first) c.self.inside.finished.items c.truncate.new.self.items c.len.result c.common-kept.result
    c.self.invariant c.requires.short (c.in_ok-spans.ensures.same ∙ ap (sentences 0 0) c.as_str.ensures)
    (subst (λ t. All (IsSpanOf t) c.in_ok-spans.spans) c.as_str.ensures c.in_ok-spans.ensures.spans)
    c.as_str-2.ensures c.as_str-3.ensures (search rules) c.common-kept.ensures (search rules)

pub returns-clause-new : goal.returns-clause-new
returns-clause-new g c =
    change_new (λ f. f.number) c.self.inside.text c.args.text c.as_str-2.result.now c.as_str-3.result.now c.self.inside.finished.items c.truncate.new.self.items
    c.len.result c.common-kept.result c.args.self.now (sym c.self.view_is)
    c.as_str-2.ensures c.as_str-3.ensures (search rules) c.common-kept.ensures (search rules)
