use Rattle.std.proofs.Common.{◌≡◌, ◌∙◌, ◌+◌, ◌++◌, ◌∷◌, [], ap, sym, drop, rules}
use Rattle.std.proofs.lemmas.Result.{err_from_is_err_and}
use Rattle.cic_rules.specs.Fuel.{left, calls_left}
use Rattle.inductive_check.specs.Steps.{rows_with, rows_behind}
use Rattle.inductive_check.proofs.OpenLaws.{spent_through}
use Rattle.inductive_check.proofs.PartLaws.{split_at, none_behind}
use Rattle.inductive_check.proofs.RowLaws.{rows_kept, rows_cut, rows_met}
use Rattle.inductive_check.proofs.families.rows_of.Goals as goal

pub returns-in_err-row-clause-answer : goal.returns-in_err-row-clause-answer
returns-in_err-row-clause-answer g c =
    let p = err_from_is_err_and c.from_residual.result c.from_residual.ensures.1 in
    let cs = c.as_slice-ctors.result.now in
    let i = c.loop-ctor.ctor-index in
    let is : rows_with c.args.env.now c.args.ctx.now c.args.d.now c.args.form.place c.args.d.now.ctors c.args.fuel.now
    ≡ rows_behind c.args.env.now (calls_left c.args.fuel.now) c.args.ctx.now c.args.d.now c.args.form.place c.loop-ctor.rows (drop i cs) (left c.loop-ctor.fuel) =
    ap (λ all. rows_with c.args.env.now c.args.ctx.now c.args.d.now c.args.form.place all c.args.fuel.now) (sym c.as_slice-ctors.ensures) ∙ c.loop-ctor.invariant.run in
    rw (p.1, p.2) (rows_cut c.args.env.now c.args.ctx.now c.args.d.now c.args.form.place c.args.form c.ctor-item.result (drop (i + 1) cs) (drop i cs)
    c.loop-ctor.rows c.in_err-row.field-0.0 c.args.fuel.now c.loop-ctor.fuel (left c.ctor_row.new.fuel) _ is
    (split_at cs i c.ctor-item.result c.loop-ctor-test.true c.ctor-item.is) c.loop-ctor.invariant.kept c.requires.form c.in_err-row.ensures.answer)

pub loop-ctor-preserved : goal.loop-ctor-preserved
loop-ctor-preserved g c =
    let cs = c.as_slice-ctors.result.now in
    let i = c.loop-ctor.ctor-index in
    let pushed : c.push.new.self ≡ c.loop-ctor.rows ++ (c.in_ok-row.row ∷ []) = search rules in
    record {
      run = rw pushed (rows_kept c.args.env.now c.args.ctx.now c.args.d.now c.args.form.place c.args.form c.ctor-item.result (drop (i + 1) cs) (drop i cs)
          c.loop-ctor.rows c.in_ok-row.row c.args.fuel.now c.loop-ctor.fuel c.ctor_row.new.fuel (rows_with c.args.env.now c.args.ctx.now c.args.d.now c.args.form.place cs c.args.fuel.now) c.loop-ctor.invariant.run
          (split_at cs i c.ctor-item.result c.loop-ctor-test.true c.ctor-item.is) c.loop-ctor.invariant.kept c.requires.form c.in_ok-row.ensures.answer);
      kept = spent_through c.args.fuel.now c.loop-ctor.fuel c.ctor_row.new.fuel c.loop-ctor.invariant.kept c.in_ok-row.ensures.kept;
    }

pub returns-clause-answer : goal.returns-clause-answer
returns-clause-answer g c =
    let cs = c.as_slice-ctors.result.now in
    let i = c.loop-ctor.ctor-index in
    let is : rows_with c.args.env.now c.args.ctx.now c.args.d.now c.args.form.place c.args.d.now.ctors c.args.fuel.now
    ≡ rows_behind c.args.env.now (calls_left c.args.fuel.now) c.args.ctx.now c.args.d.now c.args.form.place c.loop-ctor.rows (drop i cs) (left c.loop-ctor.fuel) =
    ap (λ all. rows_with c.args.env.now c.args.ctx.now c.args.d.now c.args.form.place all c.args.fuel.now) (sym c.as_slice-ctors.ensures) ∙ c.loop-ctor.invariant.run in
    rows_met c.args.env.now c.args.ctx.now c.args.d.now c.args.form.place (drop i cs) c.loop-ctor.rows (calls_left c.args.fuel.now) (left c.loop-ctor.fuel) _ is
    (none_behind cs i c.loop-ctor-test.false)
