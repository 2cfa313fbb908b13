use Rattle.std.proofs.Common.{◌≡◌, ◌≤◌, ◌<◌, ◌∷◌, ◌∙◌, refl, sym, ap, subst, arith, rules, length, true, Some, Ok, Err}
use Rattle.std.specs.Prelude.{slice_get}
use Rattle.core_term.specs.Tree.{Lam, LetIn}
use Rattle.core_term.specs.Nodes.{tree_of}
use Rattle.cic_rules.specs.Shapes.{shape_at}
use Rattle.cic_rules.specs.Families.{eliminator_of}
use Rattle.conversion.specs.Lookups.{family_if_any}
use Rattle.std.proofs.lemmas.Result.{err_from_is_err_and}
use Rattle.term_spine.specs.Spines.{tree_of_spine}
use Rattle.cic_rules.specs.Fuel.{left, calls_left, nested}
use Rattle.conversion.proofs.ReduceLaws.{lam_body, first_bound, let_body, let_value, same_calls, spent_more}
use Rattle.move_compute.proofs.HeadLaws as law
use Rattle.move_compute.proofs.heads.+heads.Goals as goal

pub simpl_head-returns-then-not-enter-clause-answer : goal.simpl_head-returns-then-not-enter-clause-answer
simpl_head-returns-then-not-enter-clause-answer t c =
    let full : 2000 ≤ c.args.fuel.now.nesting = grind arith in
    law.no_calls c.args.env.now 0 (left c.enter.new.self) c.args.t.now (left c.args.fuel.now) (calls_left c.args.fuel.now) (omega (arith, full)) (grind arith)

pub simpl_head-returns-clause-answer : goal.simpl_head-returns-clause-answer
simpl_head-returns-clause-answer t c =
    let room : c.args.fuel.now.nesting < 2000 = grind arith in
    let yes : c.enter.result ≡ true = grind arith in
    law.entered_meets c.args.env.now c.args.fuel.now c.enter.new.self c.reduce-reduced.new.fuel c.leave.new.self c.reduce-reduced.result
    c.args.t.now (c.enter.ensures.nesting ∙ ap (λ b. nested b c.args.fuel.now) yes) room (ap left c.leave.ensures) c.reduce-reduced.ensures.answer

pub simpl_head-returns-clause-scoped : goal.simpl_head-returns-clause-scoped
simpl_head-returns-clause-scoped t c =
    let meets = simpl_head-returns-clause-answer t c in
    law.head_scoped c.args.env.now (calls_left c.args.fuel.now) c.len-globals.ensures.environment c.args.vars
    c.reduce-reduced.result c.args.t.now (left c.leave.new.self) (left c.args.fuel.now) c.requires meets

pub reduce-returns-in-Ok-None-clause-answer : goal.reduce-returns-in-Ok-None-clause-answer
reduce-returns-in-Ok-None-clause-answer t c =
    let of = c.in_ok-first.ensures in
    let way = law.begun c.args.env.now (calls_left c.args.fuel.now) c.args.vars c.in_ok-first.first c.args.t.now (left c.args.fuel.now) of c.requires.term in
    let told = rw c.in-Ok-None.field-0-is at c.in-Ok-None.ensures.answer in
    law.ended c.args.env.now (calls_left c.args.fuel.now) c.in_ok-first.first c.in_ok-same-in-Ok-None.same (left c.turn.new.fuel) c.args.t.now (left c.args.fuel.now)
    (c.in_ok-same-in-Ok-None.ensures ∙ sym of.whole)
    (law.spine_last c.args.env.now (calls_left c.args.fuel.now) (calls_left c.args.fuel.now) refl c.args.vars c.in_ok-first.first (left c.args.fuel.now) c.args.t.now
    (left c.args.fuel.now) (left c.turn.new.fuel) way told)

pub reduce-reduce_spine-requires : goal.reduce-reduce_spine-requires
reduce-reduce_spine-requires t c =
    let of = c.in_ok-first.ensures in
    let way = law.begun c.args.env.now (calls_left c.args.fuel.now) c.args.vars c.in_ok-first.first c.args.t.now (left c.args.fuel.now) of c.requires.term in
    let told = rw c.in-Ok-Some.field-0-is at c.in-Ok-Some.ensures.answer in
    let next = law.meets_step c.args.env.now (calls_left c.args.fuel.now) (calls_left c.args.fuel.now) refl c.requires.environment c.args.vars c.in_ok-first.first
    (left c.args.fuel.now) c.args.t.now (left c.args.fuel.now) c.in-Ok-Some.next (left c.turn.new.fuel) way told in
    ((search rules), (c.requires.environment, next.over))

pub reduce-returns-clause-answer : goal.reduce-returns-clause-answer
reduce-returns-clause-answer t c =
    let of = c.in_ok-first.ensures in
    let way = law.begun c.args.env.now (calls_left c.args.fuel.now) c.args.vars c.in_ok-first.first c.args.t.now (left c.args.fuel.now) of c.requires.term in
    law.ended_stop c.args.env.now (calls_left c.args.fuel.now) c.in-Err.stop (left c.turn.new.fuel) c.args.t.now (left c.args.fuel.now)
    (law.spine_stop c.args.env.now (calls_left c.args.fuel.now) (calls_left c.args.fuel.now) refl c.args.vars c.in_ok-first.first (left c.args.fuel.now) c.args.t.now
    (left c.args.fuel.now) c.in-Err.stop (left c.turn.new.fuel) way c.in-Err.ensures.answer)

pub reduce-returns-in-Ok-clause-answer : goal.reduce-returns-in-Ok-clause-answer
reduce-returns-in-Ok-clause-answer t c =
    let of = c.in_ok-first.ensures in
    let way = law.begun c.args.env.now (calls_left c.args.fuel.now) c.args.vars c.in_ok-first.first c.args.t.now (left c.args.fuel.now) of c.requires.term in
    let told = rw c.in-Ok-Some.field-0-is at c.in-Ok-Some.ensures.answer in
    let next = law.meets_step c.args.env.now (calls_left c.args.fuel.now) (calls_left c.args.fuel.now) refl c.requires.environment c.args.vars c.in_ok-first.first
    (left c.args.fuel.now) c.args.t.now (left c.args.fuel.now) c.in-Ok-Some.next (left c.turn.new.fuel) way told in
    law.ended c.args.env.now (calls_left c.args.fuel.now) c.in-Ok.spine c.in_ok-whole-in-Ok.whole (left c.reduce_spine.new.fuel) c.args.t.now (left c.args.fuel.now)
    c.in_ok-whole-in-Ok.ensures
    (law.rest_ends c.args.env.now (calls_left c.args.fuel.now) (calls_left c.turn.new.fuel) (same_calls _ _ c.turn.ensures.kept) c.args.vars (Ok c.in-Ok.spine)
    (left c.reduce_spine.new.fuel) c.in-Ok-Some.next (left c.turn.new.fuel) c.args.t.now (left c.args.fuel.now) next c.in-Ok.ensures.answer)

pub reduce-returns-in-Ok-Some-clause-answer : goal.reduce-returns-in-Ok-Some-clause-answer
reduce-returns-in-Ok-Some-clause-answer t c =
    let of = c.in_ok-first.ensures in
    let way = law.begun c.args.env.now (calls_left c.args.fuel.now) c.args.vars c.in_ok-first.first c.args.t.now (left c.args.fuel.now) of c.requires.term in
    let told = rw c.in-Ok-Some.field-0-is at c.in-Ok-Some.ensures.answer in
    let next = law.meets_step c.args.env.now (calls_left c.args.fuel.now) (calls_left c.args.fuel.now) refl c.requires.environment c.args.vars c.in_ok-first.first
    (left c.args.fuel.now) c.args.t.now (left c.args.fuel.now) c.in-Ok-Some.next (left c.turn.new.fuel) way told in
    law.ended_stop c.args.env.now (calls_left c.args.fuel.now) c.in-Err-reduce_spine.stop (left c.reduce_spine.new.fuel) c.args.t.now (left c.args.fuel.now)
    (law.rest_ends c.args.env.now (calls_left c.args.fuel.now) (calls_left c.turn.new.fuel) (same_calls _ _ c.turn.ensures.kept) c.args.vars (Err c.in-Err-reduce_spine.stop)
    (left c.reduce_spine.new.fuel) c.in-Ok-Some.next (left c.turn.new.fuel) c.args.t.now (left c.args.fuel.now) next c.in-Err-reduce_spine.ensures.answer)

pub reduce_spine-returns-in_err-next-clause-answer : goal.reduce_spine-returns-in_err-next-clause-answer
reduce_spine-returns-in_err-next-clause-answer t c =
    let p = err_from_is_err_and c.from_residual.result c.from_residual.ensures.1 in
    rw (p.1, p.2)
    (law.spine_stop c.args.env.now (calls_left c.args.fuel.now) (calls_left c.loop-spine.fuel) (same_calls _ _ c.loop-spine.invariant.spent) c.args.vars
    c.loop-spine.spine (left c.loop-spine.fuel) (tree_of_spine c.args.spine) (left c.args.fuel.now) c.in_err-next.field-0.0 (left c.turn.new.fuel)
    c.loop-spine.invariant.way c.in_err-next.ensures.answer)

pub reduce_spine-loop-spine-smaller : goal.reduce_spine-loop-spine-smaller
reduce_spine-loop-spine-smaller t c =
    let told = rw c.in-Some.is at c.in_ok-next.ensures.answer in
    law.step_takes c.args.env.now (calls_left c.args.fuel.now) (calls_left c.loop-spine.fuel) (same_calls _ _ c.loop-spine.invariant.spent)
    c.loop-spine.spine (left c.loop-spine.fuel) (left c.turn.new.fuel) c.in-Some.next c.loop-spine.invariant.way.over.spine.head told

pub reduce_spine-loop-spine-preserved : goal.reduce_spine-loop-spine-preserved
reduce_spine-loop-spine-preserved t c =
    let told = rw c.in-Some.is at c.in_ok-next.ensures.answer in
    record {
      way = law.meets_step c.args.env.now (calls_left c.args.fuel.now) (calls_left c.loop-spine.fuel) (same_calls _ _ c.loop-spine.invariant.spent)
          c.requires.environment c.args.vars c.loop-spine.spine (left c.loop-spine.fuel) (tree_of_spine c.args.spine) (left c.args.fuel.now)
          c.in-Some.next (left c.turn.new.fuel) c.loop-spine.invariant.way told;
      spent = spent_more _ _ _ c.loop-spine.invariant.spent c.turn.ensures.kept;
    }

pub reduce_spine-returns-clause-answer : goal.reduce_spine-returns-clause-answer
reduce_spine-returns-clause-answer t c =
    let told = rw (law.none_is _ c.in_default.not-Some) at c.in_ok-next.ensures.answer in
    law.spine_last c.args.env.now (calls_left c.args.fuel.now) (calls_left c.loop-spine.fuel) (same_calls _ _ c.loop-spine.invariant.spent) c.args.vars
    c.loop-spine.spine (left c.loop-spine.fuel) (tree_of_spine c.args.spine) (left c.args.fuel.now) (left c.turn.new.fuel) c.loop-spine.invariant.way told

pub turn-beta-requires-clause-body : goal.turn-beta-requires-clause-body
turn-beta-requires-clause-body t c =
    let is : c.args.spine.now.head ≡ Lam c.in-Lam.name c.in-Lam.domain c.in-Lam.body = sym c.node.ensures.top ∙ ap tree_of c.in-Lam.is in
    lam_body c.args.vars (length c.args.env.now) c.args.spine.now.head c.args.spine.now.args c.in-Lam.name c.in-Lam.domain c.in-Lam.body is c.requires.room c.requires.term

pub turn-beta-requires-clause-value : goal.turn-beta-requires-clause-value
turn-beta-requires-clause-value t c =
    let split : c.args.spine.now.args ≡ c.in-Some.value ∷ c.in-Some.rest = rw c.in-Some.is at c.in_ok-split-in-Lam.ensures in
    first_bound c.args.vars (length c.args.env.now) c.args.spine.now.head c.args.spine.now.args c.in-Some.value c.in-Some.rest split c.requires.room c.requires.term

pub turn-put_in-requires-clause-body : goal.turn-put_in-requires-clause-body
turn-put_in-requires-clause-body t c =
    let is : c.args.spine.now.head ≡ LetIn c.in-LetIn.name c.in-LetIn.ty c.in-LetIn.value c.in-LetIn.body = sym c.node.ensures.top ∙ ap tree_of c.in-LetIn.is in
    let_body c.args.vars (length c.args.env.now) c.args.spine.now.head c.args.spine.now.args c.in-LetIn.name c.in-LetIn.ty c.in-LetIn.value c.in-LetIn.body is c.requires.room c.requires.term

pub turn-put_in-requires-clause-value : goal.turn-put_in-requires-clause-value
turn-put_in-requires-clause-value t c =
    let is : c.args.spine.now.head ≡ LetIn c.in-LetIn.name c.in-LetIn.ty c.in-LetIn.value c.in-LetIn.body = sym c.node.ensures.top ∙ ap tree_of c.in-LetIn.is in
    let_value c.args.vars (length c.args.env.now) c.args.spine.now.head c.args.spine.now.args c.in-LetIn.name c.in-LetIn.ty c.in-LetIn.value c.in-LetIn.body is c.requires.room c.requires.term

pub turn_constant-turn_eliminator-requires : goal.turn_constant-turn_eliminator-requires
turn_constant-turn_eliminator-requires t c =
    let found : slice_get c.args.spine.now.args c.in-Some-shape.shape.now.major ≡ Some c.in-Some-argument_at.major.now = sym c.in-Some-argument_at.ensures in
    let family = subst (λ h. eliminator_of c.args.env.now h ≡ family_if_any c.args.env.now (Some c.in-Some.family)) (sym c.requires.head) c.in-Some.ensures in (
      (search rules),
      (
        c.requires.spine,
        (
          law.argument_over c.args.env.now c.args.vars c.args.spine.now c.in-Some-shape.shape.now.major c.in-Some-argument_at.major.now found c.requires.spine,
          (family, sym c.in-Some-shape.ensures),
        ),
      ),
    )

pub turn_constant-returns-in-Some-argument_at-clause-answer :
    goal.turn_constant-returns-in-Some-argument_at-clause-answer
turn_constant-returns-in-Some-argument_at-clause-answer t c =
    let shape : shape_at c.args.env.now c.in-Some.family ≡ Some c.in-Some-shape.shape.now = sym c.in-Some-shape.ensures in
    let found : slice_get c.args.spine.now.args c.in-Some-shape.shape.now.major ≡ Some c.in-Some-argument_at.major.now = sym c.in-Some-argument_at.ensures in
    law.shaped_turn c.args.env.now (calls_left c.args.fuel.now) c.turn_eliminator.result (left c.turn_eliminator.new.fuel) c.args.spine.now
    c.args.place c.in-Some.family c.in-Some-shape.shape.now c.in-Some-argument_at.major.now (left c.args.fuel.now) c.requires.head
    c.in-Some.ensures shape found c.turn_eliminator.ensures.answer

pub turn_definition-turn_awaited-requires : goal.turn_definition-turn_awaited-requires
turn_definition-turn_awaited-requires t c =
    let found : slice_get c.args.spine.now.args c.args.refold.now.at ≡ Some c.in-Some.argument.now = sym c.in-Some.ensures in
    let enough : c.args.refold.now.count ≤ length c.args.spine.now.args = grind arith in (
      (search rules),
      (
        c.requires.spine,
        (law.argument_over c.args.env.now c.args.vars c.args.spine.now c.args.refold.now.at c.in-Some.argument.now found c.requires.spine, (c.requires.refold, enough)),
      ),
    )
