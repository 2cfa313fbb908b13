-- Contractions: what is paid, and how each ends.
use Rattle.std.specs.Prelude.{◌≡◌, ℕ, ◌+◌, ◌-◌, ◌^◌, ◌≤◌, ◌<◌, nat_le, List, Ok, Err, true, false, if◌then◌else◌, refl}
use Rattle.std.proofs.Common.{arith, ap, ◌∙◌}
use Rattle.std.proofs.lemmas.Bool.Decides.{nat_tests}
use Rattle.base_core.specs.declared.refusals.Stop.TheVariants.{Out}
use Rattle.base_core.specs.declared.refusals.Limit.TheVariants.{StepLimit}
use Rattle.core_term.specs.Tree.{Tree, IsTerm, IsNumbered, free_bound, is_small}
use Rattle.core_term.specs.Places.{subst_of}
use Rattle.core_term.specs.Answers.{within_limits, Gives}
use Rattle.core_term.specs.Stops.{stop_of}
use Rattle.core_term.specs.declared.stops.TermStop.{TermStop}
use Rattle.core_term.specs.declared.stops.TermStop.TheVariants.{TooLarge, NoMem}
use Rattle.core_term.proofs.FreeVariables.{numbered-substituted}
use Rattle.term_spine.specs.Spine.{apply_all}
use Rattle.term_spine.specs.declared.spines.Spine.{Spine}
use Rattle.term_spine.specs.Spines.{GivesSpine}
use Rattle.term_spine.proofs.SpineFacts.{applied_too_large}
use Rattle.cic_rules.specs.Runs.{GoOn}
use Rattle.cic_rules.specs.Reduce.{contract}
use Rattle.conversion.specs.Turns.{GoesOn}

-- a contraction that is paid and not too large
pub goes_on : (units l k : ℕ) (s : Spine) (t : Tree) → units ≤ l → k ≡ l - units → GivesSpine (Ok s) t → GoesOn (Ok s) k (contract units t l)
goes_on units l k s t enough is of =
    let paid : nat_le units l ≡ true = grind (arith, nat_tests) in
    rw (paid, of.small) (ap (λ u. Ok (GoOn u)) of.whole, is, record { head = of.head; small = ap is_small of.whole ∙ of.small })

-- one that is paid and can't be built
pub stops : (units l k : ℕ) (stop : TermStop) (t : Tree) → units ≤ l → k ≡ l - units → GivesSpine (Err stop) t → GoesOn (Err (stop_of stop)) k (contract units t l)
stops units l k TooLarge t enough is large =
    let paid : nat_le units l ≡ true = grind (arith, nat_tests) in
    rw (paid, large) (refl, is)
stops units l k NoMem t enough is large = tt

-- one that can't be paid takes all
pub too_poor : (units l k : ℕ) (t : Tree) → l < units → k ≡ l - units → GoesOn (Err (Out StepLimit)) k (contract units t l)
too_poor units l k t poor is =
    let unpaid : nat_le units l ≡ false = grind (arith, nat_tests) in
    rw unpaid (refl, omega (arith, poor, is))

pub subst_numbered : (t v : Tree) → IsTerm t → IsTerm v → free_bound t ≤ 2 ^ 31 + 2001 → free_bound v ≤ 2 ^ 31 + 2000 → IsNumbered (subst_of t v 0)
subst_numbered t v is also few more =
    let shallow = is.shallow in
    let other = also.shallow in
    numbered-substituted t v 0 (2 ^ 31 + 2000) (omega arith) few more (omega (arith, shallow, other))

too_large : (t : Tree) → Gives {A = Tree} (Err TooLarge) (within_limits t) → is_small t ≡ false
too_large t gives =
    elim (is_small t) as (λ b. Gives {A = Tree} (Err TooLarge) (if b then Ok t else Err TooLarge) → b ≡ false) [ true ↦ λ is. absurd (cc) | false ↦ λ _. refl ] gives

-- a head that can't be made ends the making of its spine
pub part_stop : (stop : TermStop) (f : Tree) (args : List Tree) → Gives {A = Tree} (Err stop) (within_limits f) → GivesSpine (Err stop) (apply_all f args)
part_stop TooLarge f args gives = applied_too_large f args (too_large f gives)
part_stop NoMem f args gives = tt
