use Rattle.std.proofs.Common.{◌≡◌, ◌+◌, ◌-◌, ◌<◌, true, false, length, arith, rules}
use Rattle.std.specs.Prelude.{◌/◌, slice_get}
use Rattle.std.specs.Cmp.Lexicographic.{slice_cmp, nat_list_cmp_total}
use Rattle.std.specs.Ordering.{nat_cmp}
use Rattle.cic_rules.specs.Names.{stands_before}
use Rattle.cic_rules.proofs.IndexLaws.{rank_within, passed, not_passed}
use Rattle.cic_rules.proofs.env.rank.Goals as goal

pub loop-from-init : goal.loop-from-init
loop-from-init c = grind (arith, rank_within (slice_cmp nat_cmp) c.args.index.now c.args.name.now)

pub loop-from-preserved-then-is_before : goal.loop-from-preserved-then-is_before
loop-from-preserved-then-is_before c =
    let at = c.loop-from.from + (c.loop-from.to - c.loop-from.from) / 2 in
    let before : stands_before (slice_cmp nat_cmp) (slice_get c.args.index.now at) c.args.name.now ≡ true = search rules in
    let law = passed (slice_cmp nat_cmp) nat_list_cmp_total c.args.index.now c.args.name.now at (search rules) before in
    grind (arith, law)

pub loop-from-preserved : goal.loop-from-preserved
loop-from-preserved c =
    let at = c.loop-from.from + (c.loop-from.to - c.loop-from.from) / 2 in
    let before : stands_before (slice_cmp nat_cmp) (slice_get c.args.index.now at) c.args.name.now ≡ false = search rules in
    let within : at < length c.args.index.now = grind arith in
    let law = not_passed (slice_cmp nat_cmp) c.args.index.now c.args.name.now at within before in
    grind (arith, law, within)
