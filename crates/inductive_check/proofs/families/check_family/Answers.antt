use Rattle.std.proofs.Common.{◌∙◌, ap, Err}
use Rattle.std.proofs.lemmas.Result.{err_from_is_err_and}
use Rattle.cic_rules.specs.Fuel.{left, calls_left}
use Rattle.inductive_check.specs.Steps.{open_with, params_opened}
use Rattle.inductive_check.proofs.OpenLaws.{opened_over}
use Rattle.inductive_check.proofs.BehindLaws.{family_met}
use Rattle.inductive_check.proofs.families.check_family.Goals as goal

pub check_behind-requires-clause-over : goal.check_behind-requires-clause-over
check_behind-requires-clause-over g c =
    opened_over c.args.env.now c.len-place.ensures.environment (calls_left c.args.fuel.now) (left c.args.fuel.now) c.args.d.now c.in_ok-params.params
    (c.in_ok-params.ensures.answer.0 ∙ ap (λ hs. (open_with c.args.env.now hs c.args.fuel.now).answer) c.as_slice.ensures.items)

pub returns-in_err-checked-clause-answer : goal.returns-in_err-checked-clause-answer
returns-in_err-checked-clause-answer g c =
    let p = err_from_is_err_and c.from_residual-in_err-checked.result c.from_residual-in_err-checked.ensures.1 in
    let same = ap (λ hs. open_with c.args.env.now hs c.args.fuel.now) c.as_slice.ensures.items in
    rw (p.1, p.2) (family_met c.args.d.now c.args.env.now c.args.sort (params_opened c.in_ok-params.params) c.args.fuel.now c.open_params.new.fuel
    (Err c.in_err-checked.field-0.0) (left c.check_behind.new.fuel)
    (c.in_ok-params.ensures.answer.0 ∙ ap (λ r. r.answer) same, c.in_ok-params.ensures.answer.1 ∙ ap (λ r. r.left) same)
    c.in_ok-params.ensures.kept c.in_err-checked.ensures.answer)
