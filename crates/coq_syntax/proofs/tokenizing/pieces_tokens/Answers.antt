use Rattle.std.proofs.Common.{length, encode_utf8_all, arith, ap, ◌∙◌, refl, length-drop}
use Rattle.std.proofs.lemmas.Str.{length-le-encodes}
use Rattle.coq_syntax.specs.Scan.{kind_of}
use Rattle.coq_syntax.proofs.Passing.{gap_passed, lexeme_passed, ended, shown_rest, shown_part, part_fits, no_comment}
use Rattle.coq_syntax.proofs.tokenizing.pieces_tokens.Goals as goal

pub closing_marks-requires : goal.closing_marks-requires
closing_marks-requires c = let h = length-le-encodes c.args.body.now in omega (arith, h)

pub first_piece-requires-clause-short : goal.first_piece-requires-clause-short
first_piece-requires-clause-short c =
    let h = length-le-encodes c.args.body.now in
    omega (arith, h, length-drop c.loop-at.at c.args.body.now, ap length (shown_rest c.args.body.now c.loop-at.at))

pub first_piece-requires-clause-known : goal.first_piece-requires-clause-known
first_piece-requires-clause-known c = no_comment c.args.body.now _ c.loop-at.at c.index.result.now c.loop-at-test.true c.in_ok-marks.ensures c.index.ensures

pub bytes_of-from-requires : goal.bytes_of-from-requires
bytes_of-from-requires c = let h = part_fits c.args.body.now c.loop-at.at c.in-Gap.len c.loop-at.from c.loop-at.items.items c.loop-at.invariant c.requires in omega (arith, h)

pub overflow_add-from : goal.overflow_add-from
overflow_add-from c = let h = part_fits c.args.body.now c.loop-at.at c.in-Gap.len c.loop-at.from c.loop-at.items.items c.loop-at.invariant c.requires in omega (arith, h, c.bytes_of-from.ensures)

pub loop-at-preserved-in-Gap : goal.loop-at-preserved-in-Gap
loop-at-preserved-in-Gap c =
    gap_passed c.args.body.now c.loop-at.at c.in-Gap.len c.loop-at.from c.bytes_of-from.result c.loop-at.items.items _ _ c.loop-at-test.true (shown_rest c.args.body.now c.loop-at.at) c.in-Gap.ensures.within.no_more c.in-Gap.ensures.value refl (c.bytes_of-from.ensures ∙ ap (λ cs. length (encode_utf8_all cs)) (shown_part c.args.body.now c.loop-at.at c.in-Gap.len)) c.loop-at.invariant

pub overflow_cast-to : goal.overflow_cast-to
overflow_cast-to c =
    let h = part_fits c.args.body.now c.loop-at.at c.in-Lexeme.len c.loop-at.from c.loop-at.items.items c.loop-at.invariant c.requires in
    let size = ap length (c.as_str.ensures ∙ c.in_ok-text-in-Lexeme.ensures) in
    omega (arith, h, size)

pub loop-at-preserved : goal.loop-at-preserved
loop-at-preserved c =
    lexeme_passed c.args.body.now c.loop-at.at c.in-Lexeme.len c.loop-at.from _ c.loop-at.items.items _ c.in-Lexeme.shape _ c.in_ok-text-in-Lexeme.text _ _ c.loop-at-test.true (shown_rest c.args.body.now c.loop-at.at) c.in-Lexeme.ensures.within.no_more c.in-Lexeme.ensures.value refl
    (c.in_ok-text-in-Lexeme.ensures ∙ ap encode_utf8_all (shown_part c.args.body.now c.loop-at.at c.in-Lexeme.len))
    (ap length c.as_str.ensures) (c.kind_of-kind.ensures ∙ ap (kind_of c.in-Lexeme.shape) c.as_str-in-Lexeme.ensures) c.in_ok-push-in-Lexeme.ensures.items c.loop-at.invariant

pub returns : goal.returns
returns c = ended c.args.body.now c.loop-at.at c.loop-at.from c.loop-at.items.items c.loop-at-test.false c.loop-at.invariant
