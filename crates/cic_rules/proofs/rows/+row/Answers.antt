use Rattle.std.proofs.Common.{◌≡◌, length, arith, rules}
use Rattle.std.proofs.lemmas.Bool.Decides.{nat_tests}
use Rattle.cic_rules.specs.Fuel.{left}
use Rattle.cic_rules.proofs.ScopeLaws.{scoped_free}
use Rattle.cic_rules.proofs.RowCalls.{made_meets, made_names, made_uses, leaf_meets, full_meets, product_meets}
use Rattle.cic_rules.proofs.rows.+row.Goals as goal

pub product_row-with_plain-requires : goal.product_row-with_plain-requires
product_row-with_plain-requires g t c = scoped_free (length c.args.ctx.now) (length c.args.env.now) c.args.a.now c.in_ok-first.ensures.term

pub product_row-returns-clause-answer : goal.product_row-returns-clause-answer
product_row-returns-clause-answer g t c =
    made_meets c.args.env.now c.args.ctx.now c.in_ok-inner.inner c.args.name.now c.args.a.now c.args.b.now c.in_ok-first.first c.in_ok-rest.rest c.in_ok-row.row c.args.fuel.now c.spend.new.self c.sort_of.new.fuel _
    (search rules) c.spend.ensures.left c.spend.ensures.kept c.in_ok-first.ensures.answer c.in_ok-first.ensures.kept c.in_ok-inner.ensures c.in_ok-rest.ensures.answer c.in_ok-row.ensures

pub product_row-returns-clause-names : goal.product_row-returns-clause-names
product_row-returns-clause-names g t c =
    made_names _ c.in_ok-first.first c.in_ok-rest.rest c.in_ok-row.row c.in_ok-row.ensures c.in_ok-first.ensures.names c.in_ok-rest.ensures.names

pub product_row-returns-clause-uses : goal.product_row-returns-clause-uses
product_row-returns-clause-uses g t c =
    made_uses c.args.name.now c.args.a.now c.args.b.now c.in_ok-first.first c.in_ok-rest.rest c.in_ok-row.row c.in_ok-row.ensures c.in_ok-first.ensures.uses c.in_ok-rest.ensures.uses

pub row_of-returns-then-not-enter-clause-answer : goal.row_of-returns-then-not-enter-clause-answer
row_of-returns-then-not-enter-clause-answer g t c =
    full_meets c.args.env.now c.args.ctx.now c.args.t.now c.args.fuel.now _ (grind (arith, nat_tests)) (search rules)

pub row_of-returns-else-not-enter-clause-answer : goal.row_of-returns-else-not-enter-clause-answer
row_of-returns-else-not-enter-clause-answer g t c =
    let same : left c.leave.new.self ≡ left c.product_row-row.new.fuel = search rules in
    rw same (product_meets c.args.env.now c.args.ctx.now c.args.t.now c.in-Prod.name c.in-Prod.domain c.in-Prod.codomain c.args.fuel.now c.enter.new.self c.product_row-row.result _ (search rules) (search rules) (search rules) c.product_row-row.ensures.answer)

pub row_of-returns-in_default : goal.row_of-returns-in_default
row_of-returns-in_default g t c = record {
  answer = leaf_meets c.args.env.now c.args.ctx.now c.args.t.now c.node.result.now c.args.fuel.now c.leaf_row.result _ c.node.ensures.top c.in_default.not-Prod c.leaf_row.ensures.answer;
  term = c.leaf_row.ensures.term;
  names = c.leaf_row.ensures.names;
  uses = c.leaf_row.ensures.uses;
  kept = c.leaf_row.ensures.kept;
}
