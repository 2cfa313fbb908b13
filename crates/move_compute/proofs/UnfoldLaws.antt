-- A value put in by beta within a goal: it may be put in, and brings no variable.
use Rattle.std.specs.Prelude.{◌+◌, ◌-◌, ◌^◌, ◌≤◌, max}
use Rattle.std.proofs.Common.{arith}
use Rattle.core_term.specs.Tree.{Tree, IsTerm, IsNumbered, free_bound}
use Rattle.core_term.specs.Places.{subst_of}
use Rattle.core_term.proofs.FreeVariables.{numbered-substituted, free_bound-substituted}

pub argument_numbered : (t v : Tree) → IsTerm t → IsTerm v → free_bound t ≤ 2 ^ 31 + 2001 → free_bound v ≤ 2 ^ 31 + 2000 → IsNumbered (subst_of t v 0)
argument_numbered t v is also few more =
    let shallow = is.shallow in
    let other = also.shallow in
    numbered-substituted t v 0 (2 ^ 31 + 2000) (omega arith) few more (omega (arith, shallow, other))

pub argument_free : (t v : Tree) → free_bound (subst_of t v 0) ≤ max (free_bound t - 1) (free_bound v)
argument_free t v = free_bound-substituted t v 0 (max (free_bound t - 1) (free_bound v)) (omega arith) (omega arith) (omega arith)
