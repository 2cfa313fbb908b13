use Rattle.std.proofs.Common.{◌≡◌, ◌+◌, ◌<◌, ◌∙◌, ap, arith, rules}
use Rattle.prover_iface.specs.Sentences.{sentence}
use Rattle.cic_rules.specs.Fuel.{left}
use Rattle.vernac_exec.specs.Exec.{cost}
use Rattle.vernac_exec.specs.Laws.{grant}
use Rattle.vernac_exec.proofs.ExecLaws.{IsDone, exec_short, exec_done, spent_is, short_work, done_work}
use Rattle.vernac_exec.proofs.exec.exec_sentence.Goals as goal

pub returns-then-is_starved-clause-answer : goal.returns-then-is_starved-clause-answer
returns-then-is_starved-clause-answer g c =
    exec_short c.args.state.now c.state.inside.state c.args.kind c.args.text.now c.read-reading.result c.args.units c.grant_of-grant.result (left c.run_read-answer.new.fuel) c.new-fuel.result
    c.run_read-answer.result (search rules) (grind arith) c.new-fuel.ensures c.grant_of-grant.ensures c.read-reading.ensures (search rules) c.run_read-answer.ensures.answer (search rules)

pub returns-then-is_starved-clause-work : goal.returns-then-is_starved-clause-work
returns-then-is_starved-clause-work g c =
    let short : c.args.units < cost c.args.state.now (sentence c.args.kind c.args.text.now) =
    exec_short c.args.state.now c.state.inside.state c.args.kind c.args.text.now c.read-reading.result c.args.units c.grant_of-grant.result (left c.run_read-answer.new.fuel) c.new-fuel.result
    c.run_read-answer.result (search rules) (grind arith) c.new-fuel.ensures c.grant_of-grant.ensures c.read-reading.ensures (search rules) c.run_read-answer.ensures.answer (search rules) in
    short_work c.rise.new.self c.args.steps.now c.args.units (cost c.args.state.now (sentence c.args.kind c.args.text.now)) (search rules) short

pub returns-clause-answer : goal.returns-clause-answer
returns-clause-answer g c =
    let done : IsDone c.args.state.now (sentence c.args.kind c.args.text.now) c.read-reading.result c.args.units (left c.run_read-answer.new.fuel) c.run_read-answer.result =
    exec_done c.args.state.now c.state.inside.state c.args.kind c.args.text.now c.read-reading.result c.args.units c.grant_of-grant.result (left c.run_read-answer.new.fuel) c.new-fuel.result
    c.run_read-answer.result (search rules) (grind arith) c.new-fuel.ensures c.grant_of-grant.ensures c.read-reading.ensures (search rules) c.run_read-answer.ensures.answer (search rules) in
    let limit : c.run_read-answer.new.fuel.limit ≡ grant c.args.units =
    c.run_read-answer.ensures.kept.limit ∙ ap (λ f. f.limit) c.new-fuel.ensures ∙ c.grant_of-grant.ensures in
    let spent : c.run_read-answer.new.fuel.spent + 1 ≡ cost c.args.state.now (sentence c.args.kind c.args.text.now) =
    spent_is c.run_read-answer.new.fuel.limit c.run_read-answer.new.fuel.spent (grant c.args.units) _ limit c.spent-cost.ensures.within.spent_is done.spent in
    (done.fits, c.in_ok-state.ensures ∙ done.state, c.in_ok-diags.ensures ∙ done.diags, ap (λ n. n + 1) c.spent-cost.ensures.count ∙ spent)

pub returns-clause-work : goal.returns-clause-work
returns-clause-work g c =
    let done : IsDone c.args.state.now (sentence c.args.kind c.args.text.now) c.read-reading.result c.args.units (left c.run_read-answer.new.fuel) c.run_read-answer.result =
    exec_done c.args.state.now c.state.inside.state c.args.kind c.args.text.now c.read-reading.result c.args.units c.grant_of-grant.result (left c.run_read-answer.new.fuel) c.new-fuel.result
    c.run_read-answer.result (search rules) (grind arith) c.new-fuel.ensures c.grant_of-grant.ensures c.read-reading.ensures (search rules) c.run_read-answer.ensures.answer (search rules) in
    let limit : c.run_read-answer.new.fuel.limit ≡ grant c.args.units =
    c.run_read-answer.ensures.kept.limit ∙ ap (λ f. f.limit) c.new-fuel.ensures ∙ c.grant_of-grant.ensures in
    let spent : c.run_read-answer.new.fuel.spent + 1 ≡ cost c.args.state.now (sentence c.args.kind c.args.text.now) =
    spent_is c.run_read-answer.new.fuel.limit c.run_read-answer.new.fuel.spent (grant c.args.units) _ limit c.spent-cost.ensures.within.spent_is done.spent in
    done_work c.rise-2.new.self c.args.steps.now c.args.units (c.spent-cost.result + 1) (cost c.args.state.now (sentence c.args.kind c.args.text.now)) (search rules)
    (ap (λ n. n + 1) c.spent-cost.ensures.count ∙ spent) done.fits
