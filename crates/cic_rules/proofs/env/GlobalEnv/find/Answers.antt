use Rattle.std.proofs.Common.{arith}
use Rattle.std.specs.Cmp.Lexicographic.{slice_cmp, nat_list_cmp_total}
use Rattle.std.specs.Ordering.{nat_cmp}
use Rattle.cic_rules.proofs.IndexLaws.{look_rank}
use Rattle.cic_rules.proofs.env.GlobalEnv.find.Goals as goal

pub returns-in_err-found : goal.returns-in_err-found
returns-in_err-found c =
    let law = look_rank (slice_cmp nat_cmp) nat_list_cmp_total c.self.inside.index c.args.name.now c.self.invariant.order in
    let told = c.self.invariant.found c.args.name.now in
    grind (arith, law, told)

pub returns-in-Equal : goal.returns-in-Equal
returns-in-Equal c =
    let law = look_rank (slice_cmp nat_cmp) nat_list_cmp_total c.self.inside.index c.args.name.now c.self.invariant.order in
    let told = c.self.invariant.found c.args.name.now in
    grind (arith, law, told)

pub returns-in_default : goal.returns-in_default
returns-in_default c =
    let law = look_rank (slice_cmp nat_cmp) nat_list_cmp_total c.self.inside.index c.args.name.now c.self.invariant.order in
    let told = c.self.invariant.found c.args.name.now in
    grind (arith, law, told)
