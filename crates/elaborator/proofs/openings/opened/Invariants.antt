use Rattle.std.proofs.Common.{◌≡◌, ◌+◌, length, drop}
use Rattle.elaborator.specs.Parts.{opened}
use Rattle.elaborator.proofs.openings.opened.Given as goal

abbrev pub invariant-loop-name : goal.invariant-loop-name
invariant-loop-name l = record {
  whole : opened l.inner l.ty l.name-index (drop l.name-index l.names) ≡ opened l.scope l.ty 0 l.names;
  count : length l.inner ≡ length l.scope + l.name-index;
}
