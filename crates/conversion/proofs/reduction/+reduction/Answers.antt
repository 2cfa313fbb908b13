use Rattle.std.proofs.Common.{◌≡◌, ◌≤◌, ◌<◌, ◌∷◌, ◌∙◌, refl, sym, ap, subst, arith, rules, length, true, Some}
use Rattle.std.specs.Prelude.{slice_get}
use Rattle.core_term.specs.Tree.{Lam, LetIn}
use Rattle.core_term.specs.Nodes.{tree_of}
use Rattle.cic_rules.specs.Shapes.{shape_at}
use Rattle.cic_rules.specs.Families.{eliminator_of}
use Rattle.conversion.specs.Lookups.{family_if_any}
use Rattle.std.proofs.lemmas.Result.{err_from_is_err_and}
use Rattle.term_spine.specs.Spines.{tree_of_spine}
use Rattle.cic_rules.specs.Fuel.{left, calls_left, nested}
use Rattle.conversion.proofs.ReduceLaws.{meets_step, meets_last, meets_stop, spine_last, spine_stop, meets_spine, meets_spine_stop, no_calls, entered_meets, step_takes, begun, reduced_scoped, shaped_turn, argument_scoped, lam_body, first_bound, let_body, let_value, same_calls, spent_more, is_spine, none_is}
use Rattle.conversion.proofs.reduction.+reduction.Goals as goal

pub reduce-returns-in-Ok-None-clause-answer : goal.reduce-returns-in-Ok-None-clause-answer
reduce-returns-in-Ok-None-clause-answer t c =
    let of = c.in_ok-first.ensures in
    let told = rw c.in-Ok-None.field-0-is at c.in-Ok-None.ensures.answer in
    let way = begun c.args.env.now c.args.delta (calls_left c.args.fuel.now) c.args.ctx.now c.in_ok-first.first c.args.t.now (left c.args.fuel.now)
    of.whole (is_spine _ _ of) c.requires.term in
    meets_last c.args.env.now c.args.delta (calls_left c.args.fuel.now) c.args.ctx.now (calls_left c.args.fuel.now) refl c.in_ok-first.first (left c.args.fuel.now)
    c.args.t.now (left c.args.fuel.now) c.in_ok-same-in-Ok-None.same (left c.turn.new.fuel) way (c.in_ok-same-in-Ok-None.ensures ∙ sym of.whole) told

pub reduce-reduce_spine-requires : goal.reduce-reduce_spine-requires
reduce-reduce_spine-requires t c =
    let of = c.in_ok-first.ensures in
    let told = rw c.in-Ok-Some.field-0-is at c.in-Ok-Some.ensures.answer in
    let way = begun c.args.env.now c.args.delta (calls_left c.args.fuel.now) c.args.ctx.now c.in_ok-first.first c.args.t.now (left c.args.fuel.now)
    of.whole (is_spine _ _ of) c.requires.term in
    let next = meets_step c.args.env.now c.args.delta (calls_left c.args.fuel.now) c.args.ctx.now (calls_left c.args.fuel.now) refl c.requires.environment
    c.requires.judged.scoped c.in_ok-first.first (left c.args.fuel.now) c.args.t.now (left c.args.fuel.now) c.in-Ok-Some.next (left c.turn.new.fuel) way told in
    ((search rules), (c.requires.environment, (c.requires.judged, (next.term, next.spine))))

pub reduce-returns-clause-answer : goal.reduce-returns-clause-answer
reduce-returns-clause-answer t c =
    let of = c.in_ok-first.ensures in
    let way = begun c.args.env.now c.args.delta (calls_left c.args.fuel.now) c.args.ctx.now c.in_ok-first.first c.args.t.now (left c.args.fuel.now)
    of.whole (is_spine _ _ of) c.requires.term in
    meets_stop c.args.env.now c.args.delta (calls_left c.args.fuel.now) c.args.ctx.now (calls_left c.args.fuel.now) refl c.in_ok-first.first (left c.args.fuel.now)
    c.args.t.now (left c.args.fuel.now) c.in-Err.stop (left c.turn.new.fuel) way c.in-Err.ensures.answer

pub reduce_spine-returns-in_err-next-clause-answer : goal.reduce_spine-returns-in_err-next-clause-answer
reduce_spine-returns-in_err-next-clause-answer t c =
    let p = err_from_is_err_and c.from_residual.result c.from_residual.ensures.1 in
    rw (p.1, p.2)
    (spine_stop c.args.env.now c.args.delta (calls_left c.args.fuel.now) c.args.ctx.now (calls_left c.loop-spine.fuel) (same_calls _ _ c.loop-spine.invariant.spent)
    c.loop-spine.spine (left c.loop-spine.fuel) (tree_of_spine c.args.spine) (left c.args.fuel.now) c.in_err-next.field-0.0 (left c.turn.new.fuel)
    c.loop-spine.invariant.way c.in_err-next.ensures.answer)

pub reduce_spine-loop-spine-smaller : goal.reduce_spine-loop-spine-smaller
reduce_spine-loop-spine-smaller t c =
    let told = rw c.in-Some.is at c.in_ok-next.ensures.answer in
    step_takes c.args.env.now c.args.delta (calls_left c.args.fuel.now) c.args.ctx.now (calls_left c.loop-spine.fuel) (same_calls _ _ c.loop-spine.invariant.spent)
    c.loop-spine.spine (left c.loop-spine.fuel) (left c.turn.new.fuel) c.in-Some.next c.loop-spine.invariant.way.spine.head told

pub reduce_spine-loop-spine-preserved : goal.reduce_spine-loop-spine-preserved
reduce_spine-loop-spine-preserved t c =
    let told = rw c.in-Some.is at c.in_ok-next.ensures.answer in
    record {
      way = meets_step c.args.env.now c.args.delta (calls_left c.args.fuel.now) c.args.ctx.now (calls_left c.loop-spine.fuel) (same_calls _ _ c.loop-spine.invariant.spent)
          c.requires.environment c.requires.judged.scoped c.loop-spine.spine (left c.loop-spine.fuel) (tree_of_spine c.args.spine) (left c.args.fuel.now)
          c.in-Some.next (left c.turn.new.fuel) c.loop-spine.invariant.way told;
      spent = spent_more _ _ _ c.loop-spine.invariant.spent c.turn.ensures.kept;
    }

pub reduce_spine-returns-clause-answer : goal.reduce_spine-returns-clause-answer
reduce_spine-returns-clause-answer t c =
    let told = rw (none_is _ c.in_default.not-Some) at c.in_ok-next.ensures.answer in
    spine_last c.args.env.now c.args.delta (calls_left c.args.fuel.now) c.args.ctx.now (calls_left c.loop-spine.fuel) (same_calls _ _ c.loop-spine.invariant.spent)
    c.loop-spine.spine (left c.loop-spine.fuel) (tree_of_spine c.args.spine) (left c.args.fuel.now) (left c.turn.new.fuel) c.loop-spine.invariant.way told

pub turn-beta-requires-clause-body : goal.turn-beta-requires-clause-body
turn-beta-requires-clause-body t c =
    let is : c.args.spine.now.head ≡ Lam c.in-Lam.name c.in-Lam.domain c.in-Lam.body = sym c.node.ensures.top ∙ ap tree_of c.in-Lam.is in
    let short = c.len-count.ensures.context.short in let few : length c.args.ctx.now ≤ 2147485648 = omega (arith, short) in
    lam_body (length c.args.ctx.now) (length c.args.env.now) c.args.spine.now.head c.args.spine.now.args c.in-Lam.name c.in-Lam.domain c.in-Lam.body is few c.requires.term

pub turn-beta-requires-clause-value : goal.turn-beta-requires-clause-value
turn-beta-requires-clause-value t c =
    let short = c.len-count.ensures.context.short in let few : length c.args.ctx.now ≤ 2147485648 = omega (arith, short) in
    let split : c.args.spine.now.args ≡ c.in-Some.value ∷ c.in-Some.rest = rw c.in-Some.is at c.in_ok-split-in-Lam.ensures in
    first_bound (length c.args.ctx.now) (length c.args.env.now) c.args.spine.now.head c.args.spine.now.args c.in-Some.value c.in-Some.rest split few c.requires.term

pub turn-put_in-requires-clause-body : goal.turn-put_in-requires-clause-body
turn-put_in-requires-clause-body t c =
    let is : c.args.spine.now.head ≡ LetIn c.in-LetIn.name c.in-LetIn.ty c.in-LetIn.value c.in-LetIn.body = sym c.node.ensures.top ∙ ap tree_of c.in-LetIn.is in
    let short = c.len-count.ensures.context.short in let few : length c.args.ctx.now ≤ 2147485648 = omega (arith, short) in
    let_body (length c.args.ctx.now) (length c.args.env.now) c.args.spine.now.head c.args.spine.now.args c.in-LetIn.name c.in-LetIn.ty c.in-LetIn.value c.in-LetIn.body is few c.requires.term

pub turn-put_in-requires-clause-value : goal.turn-put_in-requires-clause-value
turn-put_in-requires-clause-value t c =
    let is : c.args.spine.now.head ≡ LetIn c.in-LetIn.name c.in-LetIn.ty c.in-LetIn.value c.in-LetIn.body = sym c.node.ensures.top ∙ ap tree_of c.in-LetIn.is in
    let short = c.len-count.ensures.context.short in let few : length c.args.ctx.now ≤ 2147485648 = omega (arith, short) in
    let_value (length c.args.ctx.now) (length c.args.env.now) c.args.spine.now.head c.args.spine.now.args c.in-LetIn.name c.in-LetIn.ty c.in-LetIn.value c.in-LetIn.body is few c.requires.term

pub turn_constant-turn_eliminator-requires : goal.turn_constant-turn_eliminator-requires
turn_constant-turn_eliminator-requires t c =
    let shape : shape_at c.args.env.now c.in-Some-eliminated_place.family ≡ Some c.in-Some-shape.shape.now = sym c.in-Some-shape.ensures in
    let found : slice_get c.args.spine.now.args c.in-Some-shape.shape.now.major ≡ Some c.in-Some-argument_at.major.now = sym c.in-Some-argument_at.ensures in
    let family = subst (λ h. eliminator_of c.args.env.now h ≡ family_if_any c.args.env.now (Some c.in-Some-eliminated_place.family)) (sym c.requires.head) c.in-Some-eliminated_place.ensures in (
      (search rules),
      (
        c.requires.judged,
        (
          c.requires.term,
          (
            c.requires.spine,
            (argument_scoped (length c.args.ctx.now) (length c.args.env.now) c.args.spine.now.head c.args.spine.now.args c.in-Some-shape.shape.now.major c.in-Some-argument_at.major.now found c.requires.term, family),
          ),
        ),
      ),
    )

pub turn_constant-returns-in-Some-argument_at-clause-answer :
    goal.turn_constant-returns-in-Some-argument_at-clause-answer
turn_constant-returns-in-Some-argument_at-clause-answer t c =
    let shape : shape_at c.args.env.now c.in-Some-eliminated_place.family ≡ Some c.in-Some-shape.shape.now = sym c.in-Some-shape.ensures in
    let found : slice_get c.args.spine.now.args c.in-Some-shape.shape.now.major ≡ Some c.in-Some-argument_at.major.now = sym c.in-Some-argument_at.ensures in
    shaped_turn c.args.env.now c.args.delta (calls_left c.args.fuel.now) c.args.ctx.now c.turn_eliminator.result (left c.turn_eliminator.new.fuel) c.args.spine.now
    c.args.place c.in-Some-eliminated_place.family c.in-Some-shape.shape.now c.in-Some-argument_at.major.now (left c.args.fuel.now) c.requires.head
    (grind (arith, c.in_default.ensures, c.in_default.not-Some)) c.in-Some-eliminated_place.ensures shape found c.turn_eliminator.ensures.answer

pub whnf-returns-then-not-enter-clause-answer : goal.whnf-returns-then-not-enter-clause-answer
whnf-returns-then-not-enter-clause-answer t c =
    let full : 2000 ≤ c.args.fuel.now.nesting = grind arith in
    no_calls c.args.env.now c.args.delta 0 c.args.ctx.now (left c.enter.new.self) c.args.t.now (left c.args.fuel.now) (calls_left c.args.fuel.now) (omega (arith, full)) (grind arith)

pub whnf-returns-clause-answer : goal.whnf-returns-clause-answer
whnf-returns-clause-answer t c =
    let room : c.args.fuel.now.nesting < 2000 = grind arith in
    let yes : c.enter.result ≡ true = grind arith in
    entered_meets c.args.env.now c.args.delta c.args.ctx.now c.args.fuel.now c.enter.new.self c.reduce-reduced.new.fuel c.leave.new.self c.reduce-reduced.result
    c.args.t.now (c.enter.ensures.nesting ∙ ap (λ b. nested b c.args.fuel.now) yes) room (ap left c.leave.ensures) c.reduce-reduced.ensures.answer

pub whnf-returns-clause-scoped : goal.whnf-returns-clause-scoped
whnf-returns-clause-scoped t c =
    let meets = whnf-returns-clause-answer t c in
    reduced_scoped c.args.env.now c.args.delta (calls_left c.args.fuel.now) c.args.ctx.now c.len-globals.ensures.environment c.requires.judged.scoped
    c.reduce-reduced.result c.args.t.now (left c.leave.new.self) (left c.args.fuel.now) c.requires.term meets

pub reduce-returns-in-Ok-clause-answer : goal.reduce-returns-in-Ok-clause-answer
reduce-returns-in-Ok-clause-answer t c =
    let of = c.in_ok-first.ensures in
    let told = rw c.in-Ok-Some.field-0-is at c.in-Ok-Some.ensures.answer in
    let way = begun c.args.env.now c.args.delta (calls_left c.args.fuel.now) c.args.ctx.now c.in_ok-first.first c.args.t.now (left c.args.fuel.now)
    of.whole (is_spine _ _ of) c.requires.term in
    let next = meets_step c.args.env.now c.args.delta (calls_left c.args.fuel.now) c.args.ctx.now (calls_left c.args.fuel.now) refl c.requires.environment
    c.requires.judged.scoped c.in_ok-first.first (left c.args.fuel.now) c.args.t.now (left c.args.fuel.now) c.in-Ok-Some.next (left c.turn.new.fuel) way told in
    meets_spine c.args.env.now c.args.delta (calls_left c.args.fuel.now) c.args.ctx.now (calls_left c.turn.new.fuel) (same_calls _ _ c.turn.ensures.kept)
    c.in-Ok.spine c.in-Ok-Some.next c.in_ok-whole-in-Ok.whole (left c.reduce_spine.new.fuel) (left c.turn.new.fuel) c.args.t.now (left c.args.fuel.now) next
    c.in_ok-whole-in-Ok.ensures c.in-Ok.ensures.answer

pub reduce-returns-in-Ok-Some-clause-answer : goal.reduce-returns-in-Ok-Some-clause-answer
reduce-returns-in-Ok-Some-clause-answer t c =
    let of = c.in_ok-first.ensures in
    let told = rw c.in-Ok-Some.field-0-is at c.in-Ok-Some.ensures.answer in
    let way = begun c.args.env.now c.args.delta (calls_left c.args.fuel.now) c.args.ctx.now c.in_ok-first.first c.args.t.now (left c.args.fuel.now)
    of.whole (is_spine _ _ of) c.requires.term in
    let next = meets_step c.args.env.now c.args.delta (calls_left c.args.fuel.now) c.args.ctx.now (calls_left c.args.fuel.now) refl c.requires.environment
    c.requires.judged.scoped c.in_ok-first.first (left c.args.fuel.now) c.args.t.now (left c.args.fuel.now) c.in-Ok-Some.next (left c.turn.new.fuel) way told in
    meets_spine_stop c.args.env.now c.args.delta (calls_left c.args.fuel.now) c.args.ctx.now (calls_left c.turn.new.fuel) (same_calls _ _ c.turn.ensures.kept)
    c.in-Ok-Some.next c.in-Err-reduce_spine.stop (left c.reduce_spine.new.fuel) (left c.turn.new.fuel) c.args.t.now (left c.args.fuel.now) next
    c.in-Err-reduce_spine.ensures.answer
