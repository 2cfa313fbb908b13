use Rattle.std.proofs.Common.{inr}
use Rattle.doc_check.proofs.Advancing.{entry_kept, either_way}
use Rattle.doc_check.proofs.document.DocCheck.keep.Goals as goal

pub returns-clause-kept : goal.returns-clause-kept
returns-clause-kept g c =
    let p = g.P.Prover in
    let kept =
    entry_kept p.meaning p.means c.args.table.now c.keep.new.self c.args.self.now c.in_ok-key.key c.in_ok-made.made (p.meaning c.args.state) c.args.diags c.args.cost
    c.in_ok-key.ensures c.in_ok-made.ensures.before c.in_ok-made.ensures.state c.requires.state c.in_ok-made.ensures.diags c.requires.diags
    c.in_ok-made.ensures.cost c.requires.cost c.in_ok-number.ensures.kept in
    either_way c.put.result kept

pub returns-clause-grown : goal.returns-clause-grown
returns-clause-grown g c =
    let p = g.P.Prover in
    let kept =
    entry_kept p.meaning p.means c.args.table.now c.keep.new.self c.args.self.now c.in_ok-key.key c.in_ok-made.made (p.meaning c.args.state) c.args.diags c.args.cost
    c.in_ok-key.ensures c.in_ok-made.ensures.before c.in_ok-made.ensures.state c.requires.state c.in_ok-made.ensures.diags c.requires.diags
    c.in_ok-made.ensures.cost c.requires.cost c.in_ok-number.ensures.kept in
    inr kept
