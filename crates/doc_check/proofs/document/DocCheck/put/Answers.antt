use Rattle.std.proofs.Common.{sym}
use Rattle.doc_check.proofs.Trail.{put_seen}
use Rattle.doc_check.proofs.document.DocCheck.put.Goals as goal

pub invariant_of-self-2 : goal.invariant_of-self-2
invariant_of-self-2 g c =
    put_seen g.P.Prover.means _ (λ f. f.number) c.self.inside.text c.self.inside.spans _ c.self.inside.finished.items c.push.new.self.items c.args.finished _
    (sym c.self.view_is) c.self.invariant c.requires.left c.requires.state c.requires.diags c.in_ok-push.ensures.items
