use Rattle.std.proofs.Common.{rules, length, sym, ap, ◌∙◌, arith}
use Rattle.doc_check.proofs.Shared.{differs, goes_on, none_differs}
use Rattle.doc_check.proofs.change.common.Goals as goal

pub returns-then-not-is_same : goal.returns-then-not-is_same
returns-then-not-is_same c =
    differs c.args.text.now c.args.other.now c.as_slice-spans.result.now c.as_slice-places.result.now
    (c.as_slice-spans.ensures ∙ c.requires.split) (c.as_slice-places.ensures ∙ c.requires.other_split) c.args.most c.min-both.result c.loop-place.place
    (search rules) (omega (arith, c.requires.few, ap length c.as_slice-spans.ensures)) c.loop-place-test.true c.loop-place.invariant (sym c.is_same.ensures ∙ c.if-not-is_same.true)

pub loop-place-preserved : goal.loop-place-preserved
loop-place-preserved c =
    goes_on c.args.text.now c.args.other.now c.as_slice-spans.result.now c.as_slice-places.result.now
    (c.as_slice-spans.ensures ∙ c.requires.split) (c.as_slice-places.ensures ∙ c.requires.other_split) c.args.most c.min-both.result c.loop-place.place
    (search rules) (omega (arith, c.requires.few, ap length c.as_slice-spans.ensures)) c.loop-place-test.true c.loop-place.invariant (sym c.is_same.ensures ∙ c.if-not-is_same.false)

pub returns : goal.returns
returns c =
    none_differs c.args.text.now c.args.other.now c.as_slice-spans.result.now c.as_slice-places.result.now
    (c.as_slice-spans.ensures ∙ c.requires.split) (c.as_slice-places.ensures ∙ c.requires.other_split) c.args.most c.min-both.result c.loop-place.place
    (search rules) (omega (arith, c.loop-place-test.false, c.loop-place.auto.place-end)) c.loop-place.invariant
