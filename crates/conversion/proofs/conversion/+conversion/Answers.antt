use Rattle.std.proofs.Common.{◌≤◌, ◌<◌, ◌∙◌, suc, sym, ap, subst, arith, rules, length}
use Rattle.term_spine.specs.Spine.{eta_body}
use Rattle.term_spine.specs.Spines.{tree_of_spine}
use Rattle.cic_rules.specs.Fuel.{left, calls_left, nested}
use Rattle.cic_rules.specs.Scopes.{IsScoped}
use Rattle.cic_rules.proofs.ScopeLaws.{scoped_free, scoped_eta}
use Rattle.conversion.specs.Sides.{trees_of}
use Rattle.conversion.proofs.ReduceLaws.{scoped_apart, spent_more}
use Rattle.conversion.proofs.ConvertLaws.{same_calls, side_is, no_judgement}
use Rattle.conversion.proofs.EtaLaws.{built_is, eta_stops}
use Rattle.conversion.proofs.HeadLaws.{heads_apart, heads_same, heads_stop, heads_differ}
use Rattle.conversion.proofs.RoundLaws.{next_turning, turn_takes, turned_last, turned_stop, entered_judged}
use Rattle.conversion.proofs.conversion.+conversion.Goals as goal

pub compare-take_turns-requires : goal.compare-take_turns-requires
compare-take_turns-requires t c = (
  (search rules),
  (
    c.requires.judged,
    record {
      left = side_is c.args.env.now c.args.ctx.now c.in-Ok.sides.left c.args.t.now c.in-Ok.ensures.0 c.requires.terms.first;
      right = side_is c.args.env.now c.args.ctx.now c.in-Ok.sides.right c.args.u.now c.in-Ok.ensures.1 c.requires.terms.second;
    },
  ),
)

pub convert-returns-clause-answer : goal.convert-returns-clause-answer
convert-returns-clause-answer t c =
    let room : c.args.fuel.now.nesting < 2000 = grind arith in
    entered_judged c.args.env.now c.args.ctx.now c.args.mode c.args.fuel.now c.enter.new.self c.compare-answer.new.fuel c.leave.new.self c.compare-answer.result
    c.args.t.now c.args.u.now (c.enter.ensures.nesting ∙ ap (λ b. nested b c.args.fuel.now) c.if-not-enter.false) room (ap left c.leave.ensures) c.compare-answer.ensures.answer

pub convert-returns-then-not-enter-clause-answer : goal.convert-returns-then-not-enter-clause-answer
convert-returns-then-not-enter-clause-answer t c =
    let full : 2000 ≤ c.args.fuel.now.nesting = grind arith in
    no_judgement c.args.env.now c.args.ctx.now 0 c.args.mode c.args.t.now c.args.u.now (calls_left c.args.fuel.now) (left c.args.fuel.now) (left c.enter.new.self)
    (omega (arith, full)) (grind arith)

pub convert_under-under-requires : goal.convert_under-under-requires
convert_under-under-requires t c = scoped_free (length c.args.ctx.now) (length c.args.env.now) c.args.b.now.domain c.requires.binder

pub take_turns-loop-answer-preserved : goal.take_turns-loop-answer-preserved
take_turns-loop-answer-preserved t c =
    let told = rw c.in-Ok-GoOn.field-0-is at c.in-Ok-GoOn.ensures.answer in
    record {
      way = next_turning c.args.env.now c.args.ctx.now (calls_left c.args.fuel.now) c.args.mode c.len-globals.ensures.environment c.requires.judged.scoped (calls_left c.loop-answer.fuel)
          (same_calls _ _ c.loop-answer.invariant.spent) c.loop-answer.sides (left c.loop-answer.fuel) (trees_of c.args.sides) (left c.args.fuel.now) c.in-Ok-GoOn.next
          (left c.turn.new.fuel) c.loop-answer.invariant.way told;
      spent = spent_more _ _ _ c.loop-answer.invariant.spent c.turn.ensures.kept;
    }

pub take_turns-loop-answer-smaller : goal.take_turns-loop-answer-smaller
take_turns-loop-answer-smaller t c =
    let told = rw c.in-Ok-GoOn.field-0-is at c.in-Ok-GoOn.ensures.answer in
    turn_takes c.args.env.now c.args.ctx.now (calls_left c.args.fuel.now) c.args.mode (calls_left c.loop-answer.fuel) (same_calls _ _ c.loop-answer.invariant.spent) c.loop-answer.sides c.in-Ok-GoOn.next
    (left c.loop-answer.fuel) (left c.turn.new.fuel) told

pub take_turns-returns-in-Err-clause-answer : goal.take_turns-returns-in-Err-clause-answer
take_turns-returns-in-Err-clause-answer t c =
    turned_stop c.args.env.now c.args.ctx.now (calls_left c.args.fuel.now) c.args.mode (calls_left c.loop-answer.fuel) (same_calls _ _ c.loop-answer.invariant.spent) c.loop-answer.sides (left c.loop-answer.fuel)
    (trees_of c.args.sides) (left c.args.fuel.now) (left c.turn.new.fuel) c.in-Err.stop c.loop-answer.invariant.way c.in-Err.ensures.answer

pub take_turns-returns-in-Ok-Final-clause-answer : goal.take_turns-returns-in-Ok-Final-clause-answer
take_turns-returns-in-Ok-Final-clause-answer t c =
    let told = rw c.in-Ok-Final.field-0-is at c.in-Ok-Final.ensures.answer in
    turned_last c.args.env.now c.args.ctx.now (calls_left c.args.fuel.now) c.args.mode (calls_left c.loop-answer.fuel) (same_calls _ _ c.loop-answer.invariant.spent) c.loop-answer.sides (left c.loop-answer.fuel)
    (trees_of c.args.sides) (left c.args.fuel.now) (left c.turn.new.fuel) c.in-Ok-Final.answer c.loop-answer.invariant.way told

pub turn_eta_left-applied_under-requires-clause-free : goal.turn_eta_left-applied_under-requires-clause-free
turn_eta_left-applied_under-requires-clause-free t c =
    scoped_free (length c.args.ctx.now) (length c.args.env.now) (tree_of_spine c.args.other.now) c.requires.other.term

pub turn_eta_left-convert_under-requires : goal.turn_eta_left-convert_under-requires
turn_eta_left-convert_under-requires t c =
    let is = built_is c.in-Ok.applied (eta_body (tree_of_spine c.args.other.now)) (left c.args.fuel.now) (left c.applied_under.new.fuel) c.in-Ok.ensures.answer in
    let scoped = subst (IsScoped (suc (length c.args.ctx.now)) (length c.args.env.now)) (sym is)
    (scoped_eta (length c.args.ctx.now) (length c.args.env.now) (tree_of_spine c.args.other.now) c.requires.other.term) in
    ((search rules), (c.requires.judged, (c.requires.function.domain, record { first = c.requires.function.body; second = scoped })))

pub turn_eta_left-returns-in-Err-clause-answer : goal.turn_eta_left-returns-in-Err-clause-answer
turn_eta_left-returns-in-Err-clause-answer t c =
    eta_stops c.args.env.now c.args.ctx.now (calls_left c.args.fuel.now) c.args.b.now.name c.args.b.now.domain (eta_body (tree_of_spine c.args.other.now)) c.args.b.now.body (eta_body (tree_of_spine c.args.other.now))
    (left c.args.fuel.now) (left c.applied_under.new.fuel) c.in-Err.stop c.in-Err.ensures.answer

pub turn_eta_right-applied_under-requires-clause-free : goal.turn_eta_right-applied_under-requires-clause-free
turn_eta_right-applied_under-requires-clause-free t c =
    scoped_free (length c.args.ctx.now) (length c.args.env.now) (tree_of_spine c.args.other.now) c.requires.other.term

pub turn_eta_right-convert_under-requires : goal.turn_eta_right-convert_under-requires
turn_eta_right-convert_under-requires t c =
    let is = built_is c.in-Ok.applied (eta_body (tree_of_spine c.args.other.now)) (left c.args.fuel.now) (left c.applied_under.new.fuel) c.in-Ok.ensures.answer in
    let scoped = subst (IsScoped (suc (length c.args.ctx.now)) (length c.args.env.now)) (sym is)
    (scoped_eta (length c.args.ctx.now) (length c.args.env.now) (tree_of_spine c.args.other.now) c.requires.other.term) in
    ((search rules), (c.requires.judged, (c.requires.function.domain, record { first = scoped; second = c.requires.function.body })))

pub turn_eta_right-returns-in-Err-clause-answer : goal.turn_eta_right-returns-in-Err-clause-answer
turn_eta_right-returns-in-Err-clause-answer t c =
    eta_stops c.args.env.now c.args.ctx.now (calls_left c.args.fuel.now) c.args.b.now.name c.args.b.now.domain (eta_body (tree_of_spine c.args.other.now)) (eta_body (tree_of_spine c.args.other.now)) c.args.b.now.body
    (left c.args.fuel.now) (left c.applied_under.new.fuel) c.in-Err.stop c.in-Err.ensures.answer

pub turn_heads-convert_all-requires : goal.turn_heads-convert_all-requires
turn_heads-convert_all-requires t c = (
  (search rules),
  (
    c.requires.judged,
    record {
      first = (scoped_apart (length c.args.ctx.now) (length c.args.env.now) c.args.left.now.head c.args.left.now.args c.requires.left.term).1;
      second = (scoped_apart (length c.args.ctx.now) (length c.args.env.now) c.args.right.now.head c.args.right.now.args c.requires.right.term).1;
    },
  ),
)

pub turn_heads-returns-else-same-clause-answer : goal.turn_heads-returns-else-same-clause-answer
turn_heads-returns-else-same-clause-answer t c =
    let ends = rw c.if-same.false at c.in-Ok.ensures.answer in
    heads_differ c.args.env.now c.args.ctx.now (calls_left c.args.fuel.now) c.args.left.now c.args.right.now c.requires.left.spine c.requires.right.spine (calls_left c.convert_all.new.fuel) (same_calls _ _ c.convert_all.ensures.kept)
    (left c.args.fuel.now) (left c.convert_all.new.fuel) (left c.unblock-in-Ok.new.fuel) c.unblock-in-Ok.result (sym c.heads_agree.ensures ∙ c.if-not-heads_agree.false)
    ends c.unblock-in-Ok.ensures.answer

pub turn_heads-returns-in-Err-clause-answer : goal.turn_heads-returns-in-Err-clause-answer
turn_heads-returns-in-Err-clause-answer t c =
    heads_stop c.args.env.now c.args.ctx.now (calls_left c.args.fuel.now) c.args.left.now c.args.right.now c.requires.left.spine c.requires.right.spine (left c.args.fuel.now) (left c.convert_all.new.fuel) c.in-Err.stop
    (sym c.heads_agree.ensures ∙ c.if-not-heads_agree.false) c.in-Err.ensures.answer

pub turn_heads-returns-then-not-heads_agree-clause-answer : goal.turn_heads-returns-then-not-heads_agree-clause-answer
turn_heads-returns-then-not-heads_agree-clause-answer t c =
    heads_apart c.args.env.now c.args.ctx.now (calls_left c.args.fuel.now) c.args.left.now c.args.right.now c.requires.left.spine c.requires.right.spine (left c.args.fuel.now) (left c.unblock.new.fuel) c.unblock.result
    (sym c.heads_agree.ensures ∙ c.if-not-heads_agree.true) c.unblock.ensures.answer

pub turn_heads-returns-then-same-clause-answer : goal.turn_heads-returns-then-same-clause-answer
turn_heads-returns-then-same-clause-answer t c =
    let ends = rw c.if-same.true at c.in-Ok.ensures.answer in
    heads_same c.args.env.now c.args.ctx.now (calls_left c.args.fuel.now) c.args.left.now c.args.right.now c.requires.left.spine c.requires.right.spine (left c.args.fuel.now) (left c.convert_all.new.fuel)
    (sym c.heads_agree.ensures ∙ c.if-not-heads_agree.false) ends
