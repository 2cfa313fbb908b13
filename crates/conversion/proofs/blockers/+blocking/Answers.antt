use Rattle.std.proofs.Common.{◌≡◌, ◌∙◌, ◌-◌, sym, arith, rules, None, Some}
use Rattle.std.specs.Prelude.{slice_get}
use Rattle.term_spine.specs.Spines.{tree_of_spine}
use Rattle.cic_rules.specs.Environments.{body_of_global}
use Rattle.cic_rules.specs.Fuel.{left, calls_left}
use Rattle.cic_rules.specs.Reduce.{whnf_at}
use Rattle.cic_rules.specs.Shapes.{shape_at}
use Rattle.conversion.proofs.BlockerLaws.{no_majors, no_global, global, unfolds, waits, argument_there}
use Rattle.conversion.proofs.ReduceLaws.{argument_scoped}
use Rattle.conversion.proofs.blockers.+blocking.Goals as goal
use Rattle.std.specs.Prelude.{false, length}

pub blocker-returns-then-majors-eq0-clause-answer : goal.blocker-returns-then-majors-eq0-clause-answer
blocker-returns-then-majors-eq0-clause-answer t c =
    no_majors c.args.env.now (whnf_at c.args.env.now false (calls_left c.args.fuel.now) c.args.ctx.now) c.args.majors (tree_of_spine c.args.spine.now)
    (left c.args.fuel.now) c.if-majors-eq0.true

pub blocker-returns-in-None-clause-answer : goal.blocker-returns-in-None-clause-answer
blocker-returns-in-None-clause-answer t c =
    no_global c.args.env.now (whnf_at c.args.env.now false (calls_left c.args.fuel.now) c.args.ctx.now) c.args.majors (c.args.majors - 1) c.args.spine.now
    (left c.args.fuel.now) (grind (arith, c.if-majors-eq0.false)) c.requires.spine (sym c.global_in.ensures ∙ c.in-None.is)

pub blocker-returns-in-Some-clause-answer : goal.blocker-returns-in-Some-clause-answer
blocker-returns-in-Some-clause-answer t c =
    global c.args.env.now (whnf_at c.args.env.now false (calls_left c.args.fuel.now) c.args.ctx.now) c.args.majors (c.args.majors - 1) c.in-Some.place c.args.spine.now
    (left c.args.fuel.now) (left c.blocker_of_global.new.fuel) c.blocker_of_global.result (grind (arith, c.if-majors-eq0.false)) c.requires.spine
    (sym c.global_in.ensures ∙ c.in-Some.is) c.blocker_of_global.ensures.answer

pub blocker_of_global-returns-in-Some-clause-answer : goal.blocker_of_global-returns-in-Some-clause-answer
blocker_of_global-returns-in-Some-clause-answer t c =
    unfolds c.args.env.now (whnf_at c.args.env.now false (calls_left c.args.fuel.now) c.args.ctx.now) c.args.majors c.args.place c.args.spine.now (left c.args.fuel.now)
    c.in-Some.body.now c.in_ok-replaced.replaced c.requires.spine (sym c.in-Some.ensures) (search rules)

pub blocker_of_global-blocker_of_major-requires : goal.blocker_of_global-blocker_of_major-requires
blocker_of_global-blocker_of_major-requires t c =
    let found : slice_get c.args.spine.now.args c.in-Some-shape.shape.now.major ≡ Some c.in-Some-argument_at.major.now = sym c.in-Some-argument_at.ensures in (
      (search rules),
      (
        c.requires.judged,
        (
          argument_scoped (length c.args.ctx.now) (length c.args.env.now) c.args.spine.now.head c.args.spine.now.args c.in-Some-shape.shape.now.major c.in-Some-argument_at.major.now found c.requires.term,
          argument_there c.args.spine.now.args c.in-Some-shape.shape.now.major c.in-Some-argument_at.major.now found,
        ),
      ),
    )

pub blocker_of_global-returns-in-Some-argument_at-clause-answer : goal.blocker_of_global-returns-in-Some-argument_at-clause-answer
blocker_of_global-returns-in-Some-argument_at-clause-answer t c =
    let shape : shape_at c.args.env.now c.in-Some-eliminated_place.family ≡ Some c.in-Some-shape.shape.now = sym c.in-Some-shape.ensures in
    let found : slice_get c.args.spine.now.args c.in-Some-shape.shape.now.major ≡ Some c.in-Some-argument_at.major.now = sym c.in-Some-argument_at.ensures in
    let none : body_of_global c.args.env.now c.args.place ≡ None = grind (arith, c.in_default.ensures, c.in_default.not-Some) in
    waits c.args.env.now (whnf_at c.args.env.now false (calls_left c.args.fuel.now) c.args.ctx.now) c.args.majors c.args.place c.in-Some-eliminated_place.family
    c.args.spine.now (left c.args.fuel.now) (left c.blocker_of_major.new.fuel) c.in-Some-shape.shape.now c.in-Some-argument_at.major.now c.blocker_of_major.result
    c.requires.spine none c.in-Some-eliminated_place.ensures shape found c.blocker_of_major.ensures.answer
