use Rattle.std.proofs.Common.{sym, ◌∙◌, ap}
use Rattle.coq_syntax.specs.Spelled.{names}
use Rattle.move_parser.proofs.Turns.{names-append}
use Rattle.move_parser.proofs.cursor.Cursor.names.Goals as goal

pub loop-names-preserved : goal.loop-names-preserved
loop-names-preserved c =
    rw c.in_ok-push.ensures.items (c.loop-names.invariant ∙ ap (names c.loop-names.names.items) (rw c.in-Some.is at c.in_ok-name.ensures) ∙ sym (names-append c.loop-names.names.items c.in-Some.name c.name.new.self))
