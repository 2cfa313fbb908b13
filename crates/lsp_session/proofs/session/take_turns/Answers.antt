use Rattle.std.proofs.Common.{[], ap, refl, ◌∙◌, arith}
use Rattle.lsp_session.specs.Rules.{counted, counting}
use Rattle.lsp_session.specs.Run.{Going, Gone}
use Rattle.lsp_session.proofs.Turned.{turn_on, turn_over, turn_failed, polled_on}
use Rattle.lsp_session.proofs.Played.{plays_none, plays_next, whole_gone, whole_failed, front_broken}
use Rattle.lsp_session.proofs.session.take_turns.Goals as goal

pub loop-taken-init : goal.loop-taken-init
loop-taken-init g c = record {
  plays = plays_none (counting g.M.Machine.rules) c.args.limit (counted (g.M.Machine.plain c.args.machine.now) c.args.steps.now) _ (g.S.Sink.written c.args.out.now) (g.L.Link.polls c.args.link.now) (ap (λ r. r.bytes) c.new-reader.ensures);
  within = omega arith;
  calm = refl;
  polled = refl;
}

pub loop-taken-preserved : goal.loop-taken-preserved
loop-taken-preserved g c =
    let m = g.M.Machine in
    let rules = counting m.rules in
    let written = g.S.Sink.written in
    let polls = g.L.Link.polls in
    let first = Going (counted (m.plain c.args.machine.now) c.args.steps.now) [] 0 (written c.args.out.now) in
    let start = Going (counted (m.plain c.loop-taken.machine) c.loop-taken.steps) c.loop-taken.reader.bytes c.loop-taken.taken (written c.loop-taken.out) in
    let t = c.take_turn.new in
    let end = Going (counted (m.plain t.machine) t.steps) t.reader.bytes t.taken (written t.out) in
    record {
      plays = plays_next rules c.args.limit first start end (polls c.args.link.now) (polls c.loop-taken.link) (polls t.link) c.loop-taken.invariant.plays
          (turn_on rules c.args.limit start c.in-Ok-On.field-0 (counted (m.plain t.machine) t.steps) t.reader.bytes t.taken (written c.loop-taken.out) (written t.out) (polls c.loop-taken.link) (polls t.link) c.in-Ok-On.field-0-is c.in-Ok-On.ensures.turns);
      within = c.in-Ok-On.ensures.within;
      calm = c.in-Ok-On.ensures.calm ∙ c.loop-taken.invariant.calm;
      polled = polled_on c.in-Ok-On.field-0 _ _ c.in-Ok-On.field-0-is c.in-Ok-On.ensures.polled ∙ c.loop-taken.invariant.polled;
    }

pub returns-in-Ok-Over-clause-serves : goal.returns-in-Ok-Over-clause-serves
returns-in-Ok-Over-clause-serves g c =
    let m = g.M.Machine in
    let rules = counting m.rules in
    let written = g.S.Sink.written in
    let polls = g.L.Link.polls in
    let first = Going (counted (m.plain c.args.machine.now) c.args.steps.now) [] 0 (written c.args.out.now) in
    let start = Going (counted (m.plain c.loop-taken.machine) c.loop-taken.steps) c.loop-taken.reader.bytes c.loop-taken.taken (written c.loop-taken.out) in
    let t = c.take_turn.new in
    let end = Gone c.in-Ok-Over.ending (counted (m.plain t.machine) t.steps) (written t.out) in
    whole_gone rules c.args.limit (counted (m.plain c.args.machine.now) c.args.steps.now) (counted (m.plain t.machine) t.steps) c.in-Ok-Over.ending (written c.args.out.now) (written t.out) (polls c.args.link.now) (polls t.link)
    (plays_next rules c.args.limit first start end (polls c.args.link.now) (polls c.loop-taken.link) (polls t.link) c.loop-taken.invariant.plays
    (turn_over rules c.args.limit start c.in-Ok-Over.field-0 c.in-Ok-Over.ending (counted (m.plain t.machine) t.steps) t.reader.bytes t.taken (written c.loop-taken.out) (written t.out) (polls c.loop-taken.link) (polls t.link) c.in-Ok-Over.field-0-is c.in-Ok-Over.ensures.turns))

pub returns-in-Ok-Failed-clause-serves : goal.returns-in-Ok-Failed-clause-serves
returns-in-Ok-Failed-clause-serves g c =
    let m = g.M.Machine in
    let rules = counting m.rules in
    let written = g.S.Sink.written in
    let polls = g.L.Link.polls in
    let start = Going (counted (m.plain c.loop-taken.machine) c.loop-taken.steps) c.loop-taken.reader.bytes c.loop-taken.taken (written c.loop-taken.out) in
    let t = c.take_turn.new in
    let fails = turn_failed rules c.args.limit start c.in-Ok-Failed.field-0 (counted (m.plain t.machine) t.steps) t.reader.bytes t.taken (written c.loop-taken.out) (written t.out) (polls c.loop-taken.link) (polls t.link) c.in-Ok-Failed.field-0-is c.in-Ok-Failed.ensures.turns in
    whole_failed rules c.args.limit (counted (m.plain c.args.machine.now) c.args.steps.now) (counted (m.plain c.loop-taken.machine) c.loop-taken.steps) (counted (m.plain t.machine) t.steps) c.loop-taken.reader.bytes t.reader.bytes c.loop-taken.taken t.taken
    (written c.args.out.now) (written c.loop-taken.out) (written t.out) (polls c.args.link.now) (polls c.loop-taken.link) (polls t.link) c.loop-taken-test.true c.loop-taken.invariant.plays fails.0 fails.1

pub returns-in-Err-clause-serves : goal.returns-in-Err-clause-serves
returns-in-Err-clause-serves g c =
    let m = g.M.Machine in
    let rules = counting m.rules in
    let written = g.S.Sink.written in
    let polls = g.L.Link.polls in
    let t = c.take_turn.new in
    front_broken rules c.args.limit (counted (m.plain c.args.machine.now) c.args.steps.now) (counted (m.plain c.loop-taken.machine) c.loop-taken.steps) c.loop-taken.reader.bytes c.loop-taken.taken t.steps
    (written c.args.out.now) (written c.loop-taken.out) (written t.out) (polls c.args.link.now) (polls c.loop-taken.link) (polls t.link) c.loop-taken-test.true c.loop-taken.invariant.plays c.in-Err.ensures.turns
