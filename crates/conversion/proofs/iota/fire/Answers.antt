use Rattle.std.proofs.Common.{◌≡◌, refl, sym, subst, arith, None, ◌+◌, length, true, false}
use Rattle.std.specs.Prelude.{◌==◌, slice_get}
use Rattle.std.proofs.lemmas.Result.{err_from_is_err_and}
use Rattle.term_spine.specs.Spines.{tree_of_spine}
use Rattle.cic_rules.specs.Fuel.{left}
use Rattle.cic_rules.specs.Families.{constructor_of, iota}
use Rattle.conversion.specs.Iota.{iota_by, MayBuild}
use Rattle.conversion.proofs.FireLaws as law
use Rattle.conversion.proofs.iota.fire.Goals as goal

pub returns-in_default-constructor_index-clause-answer : goal.returns-in_default-constructor_index-clause-answer
returns-in_default-constructor_index-clause-answer c =
    let none : constructor_of c.args.env.now c.args.family c.in_ok-made.made.head ≡ None = grind (arith, c.in_default-constructor_index.ensures, c.in_default-constructor_index.not-Some) in
    law.turn_none (tree_of_spine c.args.spine.now) (iota c.args.env.now c.args.spine.now.head c.args.spine.now.args c.args.value.now) (left c.args.fuel.now) (left c.args.fuel.now) (law.no_index c.args.env.now c.args.spine.now.head c.args.spine.now.args c.args.value.now c.args.family c.requires.family c.in-Some.decl.now (sym c.in-Some.ensures.decl) c.in-Some-shape.shape.now (sym c.in-Some-shape.ensures) c.in_ok-made.made c.in_ok-made.ensures none) refl

pub returns-in_default-ctor_at-clause-answer : goal.returns-in_default-ctor_at-clause-answer
returns-in_default-ctor_at-clause-answer c =
    let none : slice_get c.in-Some.decl.now.ctors c.in-Some-constructor_index.index ≡ None = grind (arith, c.in_default-ctor_at.ensures, c.in_default-ctor_at.not-Some) in
    law.turn_none (tree_of_spine c.args.spine.now) (iota c.args.env.now c.args.spine.now.head c.args.spine.now.args c.args.value.now) (left c.args.fuel.now) (left c.args.fuel.now) (law.no_ctor c.args.env.now c.args.spine.now.head c.args.spine.now.args c.args.value.now c.args.family c.requires.family c.in-Some.decl.now (sym c.in-Some.ensures.decl) c.in-Some-shape.shape.now (sym c.in-Some-shape.ensures) c.in_ok-made.made c.in_ok-made.ensures c.in-Some-constructor_index.index (sym c.in-Some-constructor_index.ensures) none) refl

pub returns-in_default-marks_at-clause-answer : goal.returns-in_default-marks_at-clause-answer
returns-in_default-marks_at-clause-answer c =
    let none : slice_get c.in-Some-shape.shape.now.recursive c.in-Some-constructor_index.index ≡ None = grind (arith, c.in_default-marks_at.ensures, c.in_default-marks_at.not-Some) in
    law.turn_none (tree_of_spine c.args.spine.now) (iota c.args.env.now c.args.spine.now.head c.args.spine.now.args c.args.value.now) (left c.args.fuel.now) (left c.args.fuel.now) (law.no_mark c.args.env.now c.args.spine.now.head c.args.spine.now.args c.args.value.now c.args.family c.requires.family c.in-Some.decl.now (sym c.in-Some.ensures.decl) c.in-Some-shape.shape.now (sym c.in-Some-shape.ensures) c.in_ok-made.made c.in_ok-made.ensures c.in-Some-constructor_index.index (sym c.in-Some-constructor_index.ensures) none) refl

pub returns-in_default-case_at-clause-answer : goal.returns-in_default-case_at-clause-answer
returns-in_default-case_at-clause-answer c =
    let none : slice_get c.args.spine.now.args (c.in-Some-shape.shape.now.params + 1 + c.in-Some-constructor_index.index) ≡ None = grind (arith, c.in_default-case_at.ensures, c.in_default-case_at.not-Some) in
    law.turn_none (tree_of_spine c.args.spine.now) (iota c.args.env.now c.args.spine.now.head c.args.spine.now.args c.args.value.now) (left c.args.fuel.now) (left c.args.fuel.now) (law.no_case c.args.env.now c.args.spine.now.head c.args.spine.now.args c.args.value.now c.args.family c.requires.family c.in-Some.decl.now (sym c.in-Some.ensures.decl) c.in-Some-shape.shape.now (sym c.in-Some-shape.ensures) c.in_ok-made.made c.in_ok-made.ensures c.in-Some-constructor_index.index (sym c.in-Some-constructor_index.ensures) c.in-Some-ctor_at.ctor.now (sym c.in-Some-ctor_at.ensures) none) refl

pub returns-then-not-is_full-clause-answer : goal.returns-then-not-is_full-clause-answer
returns-then-not-is_full-clause-answer c =
    let no : false ≡ (length c.in_ok-made.made.args == c.in-Some-shape.shape.now.params + length c.in-Some-marks_at.marks.now) = grind arith in
    law.turn_none (tree_of_spine c.args.spine.now) (iota c.args.env.now c.args.spine.now.head c.args.spine.now.args c.args.value.now) (left c.args.fuel.now) (left c.args.fuel.now) (law.not_full c.args.env.now c.args.spine.now.head c.args.spine.now.args c.args.value.now c.args.family c.requires.family c.in-Some.decl.now (sym c.in-Some.ensures.decl) c.in-Some-shape.shape.now (sym c.in-Some-shape.ensures) c.in_ok-made.made c.in_ok-made.ensures c.in-Some-constructor_index.index (sym c.in-Some-constructor_index.ensures) c.in-Some-ctor_at.ctor.now (sym c.in-Some-ctor_at.ensures) c.in-Some-case_at.case.now (sym c.in-Some-case_at.ensures) c.in-Some-marks_at.marks.now (sym c.in-Some-marks_at.ensures) no) refl

pub contracted-requires : goal.contracted-requires
contracted-requires c =
    let may = law.may_build c.args.env.now c.inductive.ensures.environment (length c.args.ctx.now) c.args.family c.in-Some-constructor_index.index c.in-Some.decl.now
    c.in-Some-shape.shape.now c.in-Some-ctor_at.ctor.now c.args.spine.now c.in_ok-made.made c.args.value.now c.in-Some-case_at.case.now
    c.len-vars.ensures.context.short (sym c.in-Some.ensures.decl) (sym c.in-Some-shape.ensures) (sym c.in-Some-ctor_at.ensures) (sym c.in-Some-case_at.ensures)
    c.requires.spine c.requires.term c.in_ok-made.ensures c.requires.value in
    record { built = subst (λ n. MayBuild n c.in-Some-shape.shape.now.params c.args.spine.now c.in-Some-ctor_at.ctor.now.ty c.in_ok-made.made.args) (sym c.len-vars.ensures.count) may }

pub returns-in_err-next-clause-answer : goal.returns-in_err-next-clause-answer
returns-in_err-next-clause-answer c =
    let yes : true ≡ (length c.in_ok-made.made.args == c.in-Some-shape.shape.now.params + length c.in-Some-marks_at.marks.now) = grind arith in
    let p = err_from_is_err_and c.from_residual-in_err-next.result c.from_residual-in_err-next.ensures.1 in
    rw (p.1, p.2)
    (law.turn_stop (tree_of_spine c.args.spine.now) (iota c.args.env.now c.args.spine.now.head c.args.spine.now.args c.args.value.now) (iota_by c.in-Some-shape.shape.now.params c.in-Some-shape.shape.now.fixed c.in-Some-shape.shape.now.major c.in-Some-marks_at.marks.now c.args.spine.now.head c.args.spine.now.args c.in-Some-case_at.case.now c.in-Some-ctor_at.ctor.now.ty c.in_ok-made.made.args) c.in_err-next.field-0.0 (left c.contracted.new.fuel) (left c.args.fuel.now) (law.fires c.args.env.now c.args.spine.now.head c.args.spine.now.args c.args.value.now c.args.family c.requires.family c.in-Some.decl.now (sym c.in-Some.ensures.decl) c.in-Some-shape.shape.now (sym c.in-Some-shape.ensures) c.in_ok-made.made c.in_ok-made.ensures c.in-Some-constructor_index.index (sym c.in-Some-constructor_index.ensures) c.in-Some-ctor_at.ctor.now (sym c.in-Some-ctor_at.ensures) c.in-Some-case_at.case.now (sym c.in-Some-case_at.ensures) c.in-Some-marks_at.marks.now (sym c.in-Some-marks_at.ensures) yes) c.in_err-next.ensures.paid)

pub returns-clause-answer : goal.returns-clause-answer
returns-clause-answer c =
    let yes : true ≡ (length c.in_ok-made.made.args == c.in-Some-shape.shape.now.params + length c.in-Some-marks_at.marks.now) = grind arith in
    law.turn_some (tree_of_spine c.args.spine.now) (iota c.args.env.now c.args.spine.now.head c.args.spine.now.args c.args.value.now) (iota_by c.in-Some-shape.shape.now.params c.in-Some-shape.shape.now.fixed c.in-Some-shape.shape.now.major c.in-Some-marks_at.marks.now c.args.spine.now.head c.args.spine.now.args c.in-Some-case_at.case.now c.in-Some-ctor_at.ctor.now.ty c.in_ok-made.made.args) c.in_ok-next.next (left c.contracted.new.fuel) (left c.args.fuel.now) (law.fires c.args.env.now c.args.spine.now.head c.args.spine.now.args c.args.value.now c.args.family c.requires.family c.in-Some.decl.now (sym c.in-Some.ensures.decl) c.in-Some-shape.shape.now (sym c.in-Some-shape.ensures) c.in_ok-made.made c.in_ok-made.ensures c.in-Some-constructor_index.index (sym c.in-Some-constructor_index.ensures) c.in-Some-ctor_at.ctor.now (sym c.in-Some-ctor_at.ensures) c.in-Some-case_at.case.now (sym c.in-Some-case_at.ensures) c.in-Some-marks_at.marks.now (sym c.in-Some-marks_at.ensures) yes) c.in_ok-next.ensures.paid
