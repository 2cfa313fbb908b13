use Rattle.std.proofs.Common.{sym}
use Rattle.doc_check.proofs.Whole.{kept_seen}
use Rattle.doc_check.proofs.checking.CheckedText.edit.Goals as goal

pub returns-clause-kept : goal.returns-clause-kept
returns-clause-kept g c =
    kept_seen c.set_text.result c.self.inside.check c.self.inside.table.rows c.args.text c.set_text.new.self c.args.self.now
    (sym c.self.view_is) c.set_text.ensures.check
