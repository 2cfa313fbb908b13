use Rattle.std.proofs.Common.{◌≡◌, drop, sym, ◌∙◌, ap, rules, arith}
use Rattle.coq_syntax.specs.declared.comments.Mode.TheVariants.{Fresh}
use Rattle.coq_syntax.specs.Scan.{as_scanned}
use Rattle.sentence_split.proofs.Stops.{scan-closed}
use Rattle.coq_syntax.proofs.comments.after_comment.Goals as goal

pub returns-then-eq : goal.returns-then-eq
returns-then-eq c =
    let mode : c.loop-i.state.mode ≡ Fresh = search rules in
    (omega arith, sym c.loop-i.invariant.scan ∙ scan-closed c.loop-i.state.depth (as_scanned c.loop-i.state.mode) (drop c.loop-i.i c.args.text.now) c.if-state-eq0.true (ap as_scanned mode))
