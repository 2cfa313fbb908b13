use Rattle.coq_syntax.proofs.Runs.{text_grown}
use Rattle.coq_syntax.proofs.tokenizing.text_of.Goals as goal

pub loop-character-preserved : goal.loop-character-preserved
loop-character-preserved c = text_grown c.args.characters.now c.loop-character.character-index c.character-item.result _ _ c.loop-character-test.true c.character-item.is c.loop-character.invariant c.in_ok-push.ensures.bytes
