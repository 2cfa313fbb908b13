use Rattle.std.proofs.Common.{◌≡◌, drop}
use Rattle.cic_rules.specs.Fuel.{IsSpentOf}
use Rattle.move_basic.specs.Calls.{assumed_with, assumption_with}
use Rattle.move_basic.proofs.whole_terms.assumption.Given as goal

abbrev pub invariant-loop-i : goal.invariant-loop-i
invariant-loop-i g l =
    IsSpentOf l.fn.fuel l.fuel
    × (assumed_with l.env l.ctx l.ty l.i (drop l.i l.ctx) l.fuel ≡ assumption_with l.env l.ctx l.ty l.fn.fuel)
