use Rattle.std.proofs.Common.{◌≡◌, ◌++◌, drop, map}
use Rattle.vernac_exec.specs.Outline.{item}
use Rattle.vernac_exec.proofs.state.ProverState.outline.Given as goal

abbrev pub invariant-loop-i : goal.invariant-loop-i
invariant-loop-i l = l.outline ++ map (item l.self.env) (drop l.i l.self.outline) ≡ map (item l.self.env) l.self.outline
