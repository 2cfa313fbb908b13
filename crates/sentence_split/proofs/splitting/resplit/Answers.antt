use Rattle.std.proofs.Common.{rules, arith}
use Rattle.std.proofs.lemmas.Grind.{common_steps}
use Rattle.sentence_split.proofs.Resumed.{resumed_behind, kept_few, spans_short}
use Rattle.sentence_split.proofs.splitting.resplit.Goals as goal

pub offset_bounds-as_slice-kept : goal.offset_bounds-as_slice-kept
offset_bounds-as_slice-kept c =
    let within =
    spans_short c.args.text.now c.args.first_changed c.args.old.now c.requires.was c.min-bound.result c.count_before-kept.result
    c.as_slice.result.now c.as_slice-2.result.now c.as_slice.ensures c.as_slice-2.ensures c.count_before-kept.ensures c.if-kept-eq0.false in
    search (rules, within)

pub bounds-as_slice-kept : goal.bounds-as_slice-kept
bounds-as_slice-kept c =
    spans_short c.args.text.now c.args.first_changed c.args.old.now c.requires.was c.min-bound.result c.count_before-kept.result
    c.as_slice.result.now c.as_slice-2.result.now c.as_slice.ensures c.as_slice-2.ensures c.count_before-kept.ensures c.if-kept-eq0.false

pub first-requires : goal.first-requires
first-requires c =
    kept_few c.args.text.now c.args.first_changed c.args.old.now c.requires.was c.min-bound.result c.count_before-kept.result
    c.as_slice.result.now c.as_slice.ensures c.count_before-kept.ensures

pub split_behind-requires-clause-within : goal.split_behind-requires-clause-within
split_behind-requires-clause-within c =
    let behind =
    resumed_behind c.args.text.now c.args.first_changed c.args.old.now c.requires.was c.min-bound.result c.count_before-kept.result
    c.as_slice.result.now c.as_slice-2.result.now c.in_ok-first.field-0
    (grind (arith, common_steps, c.min-bound.ensures)) (grind (arith, common_steps, c.min-bound.ensures))
    c.as_slice.ensures c.as_slice-2.ensures c.count_before-kept.ensures c.if-kept-eq0.false c.in_ok-first.ensures in
    behind.0

pub split_behind-requires-clause-known : goal.split_behind-requires-clause-known
split_behind-requires-clause-known c =
    let behind =
    resumed_behind c.args.text.now c.args.first_changed c.args.old.now c.requires.was c.min-bound.result c.count_before-kept.result
    c.as_slice.result.now c.as_slice-2.result.now c.in_ok-first.field-0
    (grind (arith, common_steps, c.min-bound.ensures)) (grind (arith, common_steps, c.min-bound.ensures))
    c.as_slice.ensures c.as_slice-2.ensures c.count_before-kept.ensures c.if-kept-eq0.false c.in_ok-first.ensures in
    behind.1
