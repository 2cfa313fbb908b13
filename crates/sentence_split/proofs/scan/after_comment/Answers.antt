use Rattle.std.proofs.Common.{◌≡◌, drop, sym, ◌∙◌, rules, arith}
use Rattle.sentence_split.specs.declared.scan.Mode.TheVariants.{Item}
use Rattle.sentence_split.proofs.Stops.{scan-closed}
use Rattle.sentence_split.proofs.scan.after_comment.Goals as goal

pub returns-then-eq : goal.returns-then-eq
returns-then-eq c =
    let mode : c.loop-i.state.mode ≡ Item = search rules in
    (omega arith, sym c.loop-i.invariant.scan ∙ scan-closed c.loop-i.state.depth c.loop-i.state.mode (drop c.loop-i.i c.args.text.now) c.if-state-eq0.true mode)
