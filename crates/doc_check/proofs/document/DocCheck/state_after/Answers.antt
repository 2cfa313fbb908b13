use Rattle.std.proofs.Common.{rules, sym, ◌∙◌, ap}
use Rattle.doc_check.proofs.Trail.{state_seen}
use Rattle.doc_check.proofs.document.DocCheck.state_after.Goals as goal

pub returns : goal.returns
returns g c =
    let p = g.P.Prover in
    ap (λ f. p.meaning f.state) c.index.ensures
    ∙ state_seen p.means (λ f. (p.meaning f.state, f.diags)) (λ f. f.number) c.self.inside.text c.self.inside.spans (p.meaning c.self.inside.first)
    c.self.inside.finished.items c.args.self.now c.args.sentences c.index.result.now
    (sym c.self.view_is) c.self.invariant c.requires (search rules)
