use Rattle.std.specs.Prelude.{◌≡◌, ◌⊎◌, ◌++◌}
use Rattle.std.proofs.Common.{length, ◌≤◌, drop, arith, rules, inl, inr}
use Rattle.std.proofs.lemmas.Bool.Decides.{nat_tests}
use Rattle.std.proofs.lemmas.Grind.{common_steps}
use Rattle.cic_rules.proofs.UnionLaws.{union_kept, union_ended}
use Rattle.cic_rules.proofs.unions.union.Goals as goal
use Rattle.cic_rules.proofs.unions.union.Goals.{then-loop-i-test+else-j-vs, else-loop-i-test}

pub loop-i-preserved : goal.loop-i-preserved
loop-i-preserved c = record {
  same = union_kept c.as_slice-us.result.now c.as_slice-vs.result.now c.loop-i.all.items _ c.loop-i.i c.loop-i.j _ _ _ (search rules) (search rules) c.loop-i.invariant.same (search rules) (search rules) (search rules) c.in_ok-push.ensures.items;
  first = grind (arith, nat_tests);
  second = grind (arith, nat_tests);
}

pub returns : goal.returns
returns c =
    let past : (length c.as_slice-us.result.now ≤ c.loop-i.i) ⊎ (length c.as_slice-vs.result.now ≤ c.loop-i.j) =
    elim c.loop-i-test.branch [ then-loop-i-test+else-j-vs w ↦ inr (search rules) | else-loop-i-test w ↦ inl (search rules) ] in
    let all : c.from_vec.result ≡ (c.loop-i.all.items ++ drop c.loop-i.i c.as_slice-us.result.now) ++ drop c.loop-i.j c.as_slice-vs.result.now = grind (arith, common_steps) in
    let end = union_ended c.as_slice-us.result.now c.as_slice-vs.result.now c.loop-i.all.items c.from_vec.result c.loop-i.i c.loop-i.j past c.loop-i.invariant.same all in
    search rules
