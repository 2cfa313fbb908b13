use Rattle.std.proofs.Common.{◌≡◌, ℕ, List, length, length-drop, refl, sym, subst, ap, arith}
use Rattle.sentence_split.specs.declared.spans.Span.{Span}
use Rattle.sentence_split.specs.Sentences.{sentences}
use Rattle.sentence_split.specs.Split.{IsSplit}
use Rattle.sentence_split.proofs.Lawful.{sentences_split}
use Rattle.sentence_split.proofs.Cuts.{spans_of}
use Rattle.std.proofs.lemmas.Grind.{common_steps}
use Rattle.sentence_split.proofs.Passing.{gap_passed, sentence_passed, shown_rest}
use Rattle.sentence_split.proofs.splitting.split_behind.Goals as goal

pub loop-at-preserved-in-Gap : goal.loop-at-preserved-in-Gap
loop-at-preserved-in-Gap c =
    let shows = shown_rest c.as_bytes-text.result.now c.loop-at.at in
    record {
      within = omega (arith, c.in-Gap.ensures.within.no_more, length-drop c.loop-at.at c.as_bytes-text.result.now, ap length shows);
      spans = gap_passed c.as_bytes-text.result.now _ c.loop-at.spans c.loop-at.at c.in-Gap.len _ c.loop-at-test.true shows c.in-Gap.ensures.value refl c.in-Gap.ensures.within.some c.in-Gap.ensures.within.no_more c.loop-at.invariant.spans;
    }

pub loop-at-preserved : goal.loop-at-preserved
loop-at-preserved c =
    let shows = shown_rest c.as_bytes-text.result.now c.loop-at.at in
    record {
      within = omega (arith, c.in-Sentence.ensures.within.no_more, length-drop c.loop-at.at c.as_bytes-text.result.now, ap length shows);
      spans = sentence_passed c.as_bytes-text.result.now _ c.loop-at.spans c.push.new.self c.loop-at.at c.in-Sentence.len c.in-Sentence.kind _ c.loop-at-test.true shows c.in-Sentence.ensures.value refl c.in-Sentence.ensures.within.some c.in-Sentence.ensures.within.no_more c.in_ok-push-in-Sentence.ensures c.loop-at.invariant.spans;
    }

all_split : (spans : List Span) (text : List ℕ) → spans ≡ sentences 0 0 text → IsSplit (length text) text spans
all_split spans text same = subst (IsSplit (length text) text) (sym same) (sentences_split text)

pub returns-clause-split : goal.returns-clause-split
returns-clause-split c = all_split c.loop-at.spans c.args.text.now (grind (arith, common_steps))

pub returns-clause-spans : goal.returns-clause-spans
returns-clause-spans c = spans_of c.args.text.now c.loop-at.spans c.utf8.text (all_split c.loop-at.spans c.args.text.now (grind (arith, common_steps)))
