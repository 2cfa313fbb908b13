use Rattle.std.proofs.Common.{◌≡◌, ◌∙◌, sym, ap, subst, arith, ◌∷◌, ◌<◌, take}
use Rattle.std.specs.Prelude.{IfOk}
use Rattle.conversion.proofs.CaseLaws.{take_next}
use Rattle.move_compute.proofs.refolding.+listed.Goals as goal

pub returns-in_ok-later-in-Some : goal.returns-in_ok-later-in-Some
returns-in_ok-later-in-Some t c =
    let split : c.args.args.now ≡ c.in-Some.first ∷ c.in-Some.rest = rw c.in-Some.is at c.in_ok-split.ensures in
    let more : 0 < c.args.count = grind arith in
    let same = take_next c.args.count c.args.args.now c.in-Some.first c.in-Some.rest split more in
    let made : c.in-Some.first ∷ c.in_ok-later-in-Some.later ≡ take c.args.count c.args.args.now =
    ap (λ ts. c.in-Some.first ∷ ts) c.in_ok-later-in-Some.ensures ∙ sym same in
    subst (λ u. IfOk c.with_first.result (λ ts. ts ≡ u)) made c.with_first.ensures
