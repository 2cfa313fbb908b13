use Rattle.std.proofs.Common.{arith, ◌∙◌}
use Rattle.std.proofs.lemmas.List.{length-set}
use Rattle.coq_syntax.proofs.Closing.{passed, marked, rooms_bound, shown_rest}
use Rattle.coq_syntax.proofs.rooms.closing_marks.Goals as goal

pub rooms_before-rooms-requires : goal.rooms_before-rooms-requires
rooms_before-rooms-requires c = rooms_bound c.args.text.now c.loop-i.i c.loop-i.rooms c.loop-i.invariant.rooms c.requires

pub loop-i-preserved : goal.loop-i-preserved
loop-i-preserved c = record {
  within = omega arith;
  rooms = passed c.args.text.now c.loop-i.i c.index-text-i.result _ c.loop-i.rooms _ c.loop-i-test.true c.loop-i.invariant.within c.index-text-i.is (shown_rest c.args.text.now c.loop-i.i c.loop-i-test.true) c.loop-i.invariant.rooms c.rooms_before-rooms.ensures;
  count = length-set _ _ _ ∙ c.loop-i.invariant.count;
  none = marked c.args.text.now c.loop-i.marks.items c.loop-i.i c.loop-i.rooms c.loop-i-test.true c.loop-i.invariant.within c.loop-i.invariant.count c.loop-i.invariant.rooms c.loop-i.invariant.none;
}
