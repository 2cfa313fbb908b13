use Rattle.std.specs.Prelude.{Option, Ok}
use Rattle.std.proofs.Common.{subst}
use Rattle.cic_rules.specs.Fuel.{left}
use Rattle.cic_rules.specs.Judges.{Meets}
use Rattle.move_rewrite.specs.declared.searching.Found.{Found}
use Rattle.move_rewrite.specs.Calls.{tried_with}
use Rattle.move_rewrite.proofs.Subterms.{found_itself, stopped_itself}
use Rattle.move_rewrite.proofs.searching.+first_found.Goals as goal

pub returns-in-Ok-Some-clause-answer : goal.returns-in-Ok-Some-clause-answer
returns-in-Ok-Some-clause-answer g t c =
    found_itself c.args.env.now c.args.ctx.now c.args.count c.args.pattern.now c.args.binders c.args.t.now c.args.fuel.now (left c.tried.new.fuel) c.in-Ok-Some.found
    (subst (λ (found : Option Found). Meets (Ok found) (left c.tried.new.fuel)
    (tried_with c.args.env.now c.args.ctx.now c.args.count c.args.pattern.now c.args.binders c.args.t.now c.args.fuel.now))
    c.in-Ok-Some.field-0-is c.in-Ok-Some.ensures.answer)

pub returns-in-Err-clause-answer : goal.returns-in-Err-clause-answer
returns-in-Err-clause-answer g t c =
    stopped_itself c.args.env.now c.args.ctx.now c.args.count c.args.pattern.now c.args.binders c.args.t.now c.args.fuel.now (left c.tried.new.fuel) c.in-Err.stop
    c.in-Err.ensures.answer
