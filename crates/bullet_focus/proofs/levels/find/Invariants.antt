use Rattle.std.proofs.Common.{◌≡◌, drop}
use Rattle.bullet_focus.specs.Levels.{place_of}
use Rattle.bullet_focus.proofs.LevelLaws.{place_from}
use Rattle.bullet_focus.proofs.levels.find.Given as goal

abbrev pub invariant-loop-at : goal.invariant-loop-at
invariant-loop-at l = place_from l.opener l.at (drop l.at l.levels) ≡ place_of l.opener l.levels
