-- Terms that are lifted, and terms applied to arguments.
use Rattle.std.specs.Prelude.{◌≡◌, ℕ, zero, suc, ◌+◌, ◌^◌, ◌≤◌, List, [], ◌∷◌, length, drop, None, Ok, slice_get, refl}
use Rattle.std.proofs.Common.{arith, ap, sym}
use Rattle.core_term.specs.Answers.{within_limits}
use Rattle.core_term.specs.Places.{lift_of}
use Rattle.core_term.specs.Tree.{Tree, IsTerm, IsNumbered, free_bound}
use Rattle.core_term.proofs.Bounds.{bounded-lifted}
use Rattle.core_term.proofs.FreeVariables.{numbered-lifted}
use Rattle.move_elim.specs.Claims.{applied_to}
use Rattle.move_elim.proofs.Lists.{all_behind}

pub lift_numbered : (t : Tree) (by from : ℕ) → IsTerm t → free_bound t + by ≤ 2 ^ 31 + 5000 → IsNumbered (lift_of t by from)
lift_numbered t by from is few = let shallow = is.shallow in numbered-lifted t by from (free_bound t) (omega arith) (omega (arith, few, shallow))

pub lift_fits : (t : Tree) (by from : ℕ) → IsTerm t → within_limits (lift_of t by from) ≡ Ok (lift_of t by from)
lift_fits t by from is = bounded-lifted t by from is

pub applied_end : (f : Tree) (ts : List Tree) (at : ℕ) → None ≡ slice_get ts at → Ok f ≡ applied_to f (drop at ts)
applied_end f [] zero e = refl
applied_end f [] (suc at) e = refl
applied_end f (t ∷ ts) zero e = cc
applied_end f (t ∷ ts) (suc at) e = applied_end f ts at e

pub applied_none : (f : Tree) (ts : List Tree) (at : ℕ) → length ts ≤ at → Ok f ≡ applied_to f (drop at ts)
applied_none f ts at le = ap (applied_to f) (sym (all_behind ts at le))
