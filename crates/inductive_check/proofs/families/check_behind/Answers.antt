use Rattle.std.proofs.Common.{◌≡◌, ◌∙◌, ap, Ok, Err, length, arith}
use Rattle.std.proofs.lemmas.Result.{err_from_is_err_and}
use Rattle.inductive_check.specs.Steps.{assumption_of, params_opened}
use Rattle.inductive_check.proofs.PartLaws.{counts_small}
use Rattle.inductive_check.proofs.BehindLaws.{assumed_ready, judged_inner, behind_full, behind_cut, behind_met}
use Rattle.inductive_check.proofs.families.check_behind.Goals as goal

pub with_assumed-requires : goal.with_assumed-requires
with_assumed-requires g c =
    assumed_ready c.args.env.now c.args.d.now c.args.params.ctx c.in_ok-ty.ty c.in_ok-ty.ensures c.requires.new c.requires.over c.in_ok-arity.ensures.term

pub returns-in_err-inner-clause-answer : goal.returns-in_err-inner-clause-answer
returns-in_err-inner-clause-answer g c =
    let p = err_from_is_err_and c.from_residual-in_err-inner.result c.from_residual-in_err-inner.ensures.1 in
    rw (p.1, p.2) (behind_full c.args.d.now c.args.env.now c.args.sort (params_opened c.args.params) c.args.fuel.now c.sort_of.new.fuel c.in_ok-arity.arity
    c.in_ok-ty.ty c.in_ok-arity.ensures.answer c.in_ok-ty.ensures _ c.in_err-inner.ensures)

pub rows_of-requires-clause-judged : goal.rows_of-requires-clause-judged
rows_of-requires-clause-judged g c =
    judged_inner c.args.env.now c.in_ok-inner.inner (assumption_of c.args.d.now.name c.in_ok-ty.ty) c.args.params.ctx c.requires.judged c.in_ok-inner.ensures

pub rows_of-requires-clause-room : goal.rows_of-requires-clause-room
rows_of-requires-clause-room g c =
    let small = counts_small c.args.d.now c.in_ok-ty.ty c.in_ok-ty.ensures in rw c.form_of-form.ensures (omega (arith, small))

pub returns-in_err-rows-clause-answer : goal.returns-in_err-rows-clause-answer
returns-in_err-rows-clause-answer g c =
    let p = err_from_is_err_and c.from_residual-in_err-rows.result c.from_residual-in_err-rows.ensures.1 in
    let at : c.form_of-form.result.place ≡ length c.args.env.now = ap (λ f. f.place) c.form_of-form.ensures ∙ c.requires.place in
    rw (p.1, p.2) (behind_cut c.args.d.now c.args.env.now c.args.sort (params_opened c.args.params) c.args.fuel.now c.sort_of.new.fuel c.in_ok-arity.arity
    c.in_ok-ty.ty c.in_ok-arity.ensures.answer c.in_ok-ty.ensures c.in_ok-inner.inner c.form_of-form.result.place _ _ c.in_ok-arity.ensures.kept
    c.in_ok-inner.ensures at c.in_err-rows.ensures.answer)

pub settle-requires-clause-room : goal.settle-requires-clause-room
settle-requires-clause-room g c =
    let small = counts_small c.args.d.now c.in_ok-ty.ty c.in_ok-ty.ensures in rw c.form_of-form.ensures (omega (arith, small))

pub returns-in_err-checked-clause-answer : goal.returns-in_err-checked-clause-answer
returns-in_err-checked-clause-answer g c =
    let p = err_from_is_err_and c.from_residual-in_err-checked.result c.from_residual-in_err-checked.ensures.1 in
    let at : c.form_of-form.result.place ≡ length c.args.env.now = ap (λ f. f.place) c.form_of-form.ensures ∙ c.requires.place in
    rw (p.1, p.2) (behind_met c.args.d.now c.args.env.now c.in_ok-inner.inner c.args.sort (params_opened c.args.params) c.args.fuel.now c.sort_of.new.fuel
    c.rows_of.new.fuel c.in_ok-arity.arity c.in_ok-ty.ty c.in_ok-rows.rows c.in_ok-used.used c.form_of-form.result.place (Err c.in_err-checked.field-0.0) c.in_ok-arity.ensures.answer
    c.in_ok-arity.ensures.kept c.in_ok-ty.ensures c.in_ok-inner.ensures at c.in_ok-rows.ensures.answer c.in_ok-used.ensures c.in_err-checked.ensures)

pub returns-clause-answer : goal.returns-clause-answer
returns-clause-answer g c =
    let at : c.form_of-form.result.place ≡ length c.args.env.now = ap (λ f. f.place) c.form_of-form.ensures ∙ c.requires.place in
    behind_met c.args.d.now c.args.env.now c.in_ok-inner.inner c.args.sort (params_opened c.args.params) c.args.fuel.now c.sort_of.new.fuel
    c.rows_of.new.fuel c.in_ok-arity.arity c.in_ok-ty.ty c.in_ok-rows.rows c.in_ok-used.used c.form_of-form.result.place (Ok c.in_ok-checked.checked)
    c.in_ok-arity.ensures.answer c.in_ok-arity.ensures.kept c.in_ok-ty.ensures c.in_ok-inner.ensures at c.in_ok-rows.ensures.answer c.in_ok-used.ensures
    c.in_ok-checked.ensures
