use Rattle.std.proofs.Common.{◌∙◌}
use Rattle.coq_syntax.proofs.Sentence.{bytes_before, bytes_fit, listed}
use Rattle.coq_syntax.specs.SentenceTokens.{sentence_tokens}
use Rattle.coq_syntax.proofs.Unique.{one_list}
use Rattle.coq_syntax.proofs.TokensFrom.{law}
use Rattle.coq_syntax.proofs.TokensPlaced.{list_placed}
use Rattle.coq_syntax.proofs.tokenizing.tokens.Goals as goal

pub pieces_tokens-requires : goal.pieces_tokens-requires
pieces_tokens-requires c =
    bytes_fit c.args.sentence.now c.requires.ended.front _ c.requires.ended.parts
    (bytes_before c.args.sentence.now c.requires.ended.front _ _ c.requires.ended.parts c.range.ensures.value c.range.utf8 (c.as_slice.ensures.value ∙ c.in_ok-body.ensures))
    c.requires.short

pub returns-clause-list : goal.returns-clause-list
returns-clause-list c =
    listed c.args.sentence.now c.requires.ended.front _ _ c.new.result c.requires.ended.parts
    (bytes_before c.args.sentence.now c.requires.ended.front _ _ c.requires.ended.parts c.range.ensures.value c.range.utf8 (c.as_slice.ensures.value ∙ c.in_ok-body.ensures))
    c.in_ok-items.ensures c.new.ensures.items c.new.ensures.period

pub returns-clause-value : goal.returns-clause-value
returns-clause-value c = one_list c.args.sentence.now c.new.result (sentence_tokens c.args.sentence.now) (returns-clause-list c) (law c.args.sentence.now c.utf8.sentence c.requires.ended)

pub returns-clause-places : goal.returns-clause-places
returns-clause-places c = list_placed c.args.sentence.now c.new.result (returns-clause-list c)
