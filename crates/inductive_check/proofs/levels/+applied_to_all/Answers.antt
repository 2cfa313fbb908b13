use Rattle.std.proofs.Common.{◌≡◌, ◌∷◌, ap, sym, length, arith}
use Rattle.term_spine.specs.Spine.{apply_all}
use Rattle.term_spine.specs.Instantiate.{instantiate, instantiate_all}
use Rattle.inductive_check.specs.Levels.{values_at}
use Rattle.inductive_check.proofs.SizeLaws.{applied_argument_stop}
use Rattle.inductive_check.proofs.LevelLaws.{may_first, may_rest, applied_ends}
use Rattle.inductive_check.proofs.levels.+applied_to_all.Goals as goal

pub placed-requires : goal.placed-requires
placed-requires t c =
    let split : c.args.args.now ≡ c.in-Some.first ∷ c.in-Some.rest = rw c.in-Some.is at c.in_ok-split.ensures in
    may_first c.args.site.now c.args.args.now c.in-Some.first c.in-Some.rest split c.requires

pub applied_to_all-requires : goal.applied_to_all-requires
applied_to_all-requires t c =
    let split : c.args.args.now ≡ c.in-Some.first ∷ c.in-Some.rest = rw c.in-Some.is at c.in_ok-split.ensures in
    let shorter = ap length split in
    (grind (arith, shorter), may_rest c.args.site.now c.args.args.now c.in-Some.first c.in-Some.rest split c.requires)

pub returns-in-Ok : goal.returns-in-Ok
returns-in-Ok t c =
    let split : c.args.args.now ≡ c.in-Some.first ∷ c.in-Some.rest = rw c.in-Some.is at c.in_ok-split.ensures in
    let values = values_at c.args.site.now.depth c.args.site.now.levels in
    applied_ends c.in-Err-app.stop c.args.function c.in-Ok.argument (instantiate values c.in-Some.first) _ (instantiate_all values c.in-Some.rest) c.in-Ok.ensures
    (ap (λ all. apply_all c.args.function (instantiate_all values all)) (sym split)) c.in-Err-app.ensures

pub returns : goal.returns
returns t c =
    let split : c.args.args.now ≡ c.in-Some.first ∷ c.in-Some.rest = rw c.in-Some.is at c.in_ok-split.ensures in
    let values = values_at c.args.site.now.depth c.args.site.now.levels in
    rw split (applied_argument_stop c.in-Err.stop c.args.function (instantiate values c.in-Some.first) (instantiate_all values c.in-Some.rest) c.in-Err.ensures)
