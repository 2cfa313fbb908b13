use Rattle.std.proofs.Common.{◌≡◌, ◌+◌, drop, length, encode_utf8_all}
use Rattle.coq_syntax.proofs.tokenizing.bytes_of.Given as goal

abbrev pub invariant-loop-character : goal.invariant-loop-character
invariant-loop-character l = l.bytes + length (encode_utf8_all (drop l.character-index l.characters)) ≡ length (encode_utf8_all l.characters)
