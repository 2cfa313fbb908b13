-- What a definition that goes on becomes, and when it may be built.
use Rattle.std.specs.Prelude.{◌≡◌, ℕ, ◌+◌, ◌-◌, ◌≤◌, ◌<◌, nat_le, List, [], ◌∷◌, length, take, drop, Bool, true, false, ◌&&◌, Result, Ok, Err, refl, if◌then◌else◌}
use Rattle.std.proofs.Common.{arith, ap, sym, ◌∙◌, subst}
use Rattle.std.proofs.lemmas.Bool.Decides.{nat_tests}
use Rattle.base_core.specs.declared.refusals.Stop.TheVariants.{Out}
use Rattle.base_core.specs.declared.refusals.Limit.TheVariants.{StepLimit}
use Rattle.core_term.specs.Answers.{within_limits, Gives}
use Rattle.core_term.specs.Stops.{stop_of}
use Rattle.core_term.specs.Tree.{Tree, App, IsTerm, IsNumbered, free_bound, is_small}
use Rattle.core_term.specs.declared.stops.TermStop.{TermStop}
use Rattle.core_term.specs.declared.stops.TermStop.TheVariants.{TooLarge, NoMem}
use Rattle.term_spine.specs.Instantiate.{instantiate}
use Rattle.term_spine.specs.Spine.{apply_all, arguments_of, are_small}
use Rattle.term_spine.specs.SpineLaws.{AreOver, AreShallow}
use Rattle.term_spine.specs.Spines.{IsSpineOf, GivesSpine}
use Rattle.term_spine.specs.declared.spines.Spine.{Spine}
use Rattle.term_spine.proofs.Instantiations.{instantiate_free, instantiate_numbered}
use Rattle.cic_rules.specs.Families.{newest_first}
use Rattle.cic_rules.specs.Runs.{GoOn}
use Rattle.conversion.specs.Turns.{GoesOn}
use Rattle.conversion.proofs.CaseLaws.{stopped, too_large, same_term}
use Rattle.conversion.proofs.FireLaws.{drop_then, drop_over, first_over, take_over, take_shallow, newest_over, newest_shallow, newest_count, take_count}
use Rattle.conversion.proofs.TurnLaws.{part_stop}
use Rattle.move_compute.specs.Cases.{case_on}
use Rattle.move_compute.specs.Firing.{fired}
use Rattle.move_compute.specs.Refold.{own_eliminator, own_call, refolded}
use Rattle.move_compute.specs.Scopes.{MayFire, MayRefold}
use Rattle.move_compute.specs.Simpl.{paid_refold}
use Rattle.move_compute.specs.Turns.{AreOwnValues, GivesRefolded}
use Rattle.move_compute.specs.declared.cases.Call.{Call}
use Rattle.move_compute.specs.declared.firing.Chosen.{Chosen}
use Rattle.move_compute.specs.declared.refolds.Refold.{Refold}
use Rattle.move_compute.proofs.CallLaws.{case_large}
use Rattle.move_compute.proofs.FiringLaws.{args_shallow}
use Rattle.move_compute.proofs.RefoldLaws.{args_made}
use Rattle.move_compute.proofs.SimplScopes.{arguments_kept}

-- a contraction that is paid and not too large
pub goes_on : (l k : ℕ) (s : Spine) (inner to : Tree) → 2 ≤ l → k ≡ l - 2 → GivesRefolded (Ok s) inner to → GoesOn (Ok s) k (paid_refold inner to l)
goes_on l k s inner to enough is of =
    let paid : nat_le 2 l ≡ true = grind (arith, nat_tests) in
    rw (paid, of.0, of.1.small) (ap (λ u. Ok (GoOn u)) of.1.whole, is, record { head = of.1.head; small = ap is_small of.1.whole ∙ of.1.small })

large_by : (b c : Bool) (l k : ℕ) (inner to : Tree) → is_small inner ≡ b → is_small to ≡ c → (b && c) ≡ false → nat_le 2 l ≡ true → k ≡ l - 2 →
    GoesOn (Err (stop_of TooLarge)) k (paid_refold inner to l)
large_by true true l k inner to one two none paid is = cc
large_by true false l k inner to one two none paid is = rw (paid, one, two) (refl, is)
large_by false c l k inner to one two none paid is = rw (paid, one) (refl, is)

-- one that is paid and can't be built
pub stops : (l k : ℕ) (stop : TermStop) (inner to : Tree) → 2 ≤ l → k ≡ l - 2 → GivesRefolded (Err stop) inner to → GoesOn (Err (stop_of stop)) k (paid_refold inner to l)
stops l k TooLarge inner to enough is large =
    let paid : nat_le 2 l ≡ true = grind (arith, nat_tests) in
    large_by (is_small inner) (is_small to) l k inner to refl refl large paid is
stops l k NoMem inner to enough is large = tt

-- one that can't be paid takes all
pub too_poor : (l k : ℕ) (inner to : Tree) → l < 2 → k ≡ l - 2 → GoesOn (Err (Out StepLimit)) k (paid_refold inner to l)
too_poor l k inner to poor is =
    let unpaid : nat_le 2 l ≡ false = grind (arith, nat_tests) in
    rw unpaid (refl, omega (arith, poor, is))

within_small : (b : Bool) (u t : Tree) → is_small t ≡ b → ◌≡◌ {A = Result Tree TermStop} (Ok u) (if b then Ok t else Err TooLarge) → is_small t ≡ true
within_small true u t is e = is
within_small false u t is e = cc

pub inner_small : (u t : Tree) → Ok u ≡ within_limits t → is_small t ≡ true
inner_small u t e = within_small (is_small t) u t refl e

pub gives_both : (r : Result Spine TermStop) (inner to : Tree) → is_small inner ≡ true → GivesSpine r to → GivesRefolded r inner to
gives_both (Ok s) inner to small gives = (small, gives)
gives_both (Err TooLarge) inner to small gives = rw (small, gives) refl
gives_both (Err NoMem) inner to small gives = tt

pub gives_none : (stop : TermStop) (inner to : Tree) → Gives {A = Tree} (Err stop) (within_limits inner) → GivesRefolded (Err stop) inner to
gives_none TooLarge inner to gives = let large = too_large inner gives in rw large refl
gives_none NoMem inner to gives = tt

module _ (vars : ℕ) (r : Refold) (head : Tree) (args : List Tree) (c : Chosen) (may : MayRefold vars r head args c) where
  values_count : length (newest_first (take r.count args) []) ≡ r.count
  values_count =
      let count = newest_count (take r.count args) [] in
      let taken = take_count r.count args may.enough in omega (arith, count, taken)

  values_over : AreOver vars (newest_first (take r.count args) [])
  values_over = newest_over vars (take r.count args) [] (take_over vars r.count args may.args_over) tt

  values_shallow : are_small args ≡ true → AreShallow 1000 (newest_first (take r.count args) [])
  values_shallow small = newest_shallow 1000 (take r.count args) [] (take_shallow 1000 r.count args (args_shallow args small)) tt

  part_numbered : (t : Tree) → are_small args ≡ true → IsTerm t → free_bound t ≤ r.count → IsNumbered (instantiate (newest_first (take r.count args) []) t)
  part_numbered t small is few =
      let count = values_count in let room = may.room in let shallow = is.shallow in
      instantiate_numbered (newest_first (take r.count args) []) t 0 vars 1000 values_over (values_shallow small) (omega (arith, few, count)) (omega (arith, room, shallow))

  inner_few : free_bound (own_eliminator r head args) ≤ vars
  inner_few =
      let few = may.eliminator in let count = values_count in
      let free = instantiate_free (newest_first (take r.count args) []) r.eliminator 0 vars values_over (omega (arith, few, count)) in omega (arith, free)

pub inner_numbered : (vars : ℕ) (r : Refold) (head : Tree) (args : List Tree) (c : Chosen) (values : List Tree) → MayRefold vars r head args c →
    values ≡ newest_first (take r.count args) [] → are_small args ≡ true → IsTerm r.eliminator → IsNumbered (instantiate values r.eliminator)
inner_numbered vars r head args c values may same small is =
    subst (λ vs. IsNumbered (instantiate vs r.eliminator)) (sym same) (part_numbered vars r head args c may r.eliminator small is may.eliminator)

pub case_numbered : (vars : ℕ) (r : Refold) (head : Tree) (args : List Tree) (c : Chosen) (values : List Tree) → MayRefold vars r head args c →
    AreOwnValues values r args → are_small args ≡ true → IsTerm c.case → IsNumbered (instantiate values c.case)
case_numbered vars r head args c values may same small is =
    subst (λ vs. IsNumbered (instantiate vs c.case)) (sym same) (part_numbered vars r head args c may c.case small is may.case)

parts_over : (n : ℕ) (h : Tree) (args : List Tree) → free_bound (apply_all h args) ≤ n → (free_bound h ≤ n) × AreOver n args
parts_over n h [] le = (le, tt)
parts_over n h (a ∷ more) le =
    let rest = parts_over n (App h a) more le in
    let both = rest.0 in (omega (arith, both), (omega (arith, both), rest.1))

pub may_fire : (vars : ℕ) (r : Refold) (head : Tree) (args : List Tree) (c : Chosen) (call : Call) (inner : Tree) (s : Spine) → MayRefold vars r head args c →
    inner ≡ own_eliminator r head args → IsSpineOf s inner → call ≡ own_call r head args → MayFire vars call s.args c
may_fire vars r head args c call inner s may is of same =
    let whole = of.whole ∙ is in
    let few : free_bound (apply_all s.head s.args) ≤ vars = subst (λ t. free_bound t ≤ vars) (sym whole) (inner_few vars r head args c may) in
    let parts = parts_over vars s.head s.args few in
    let made : arguments_of (own_eliminator r head args) ≡ s.args = ap arguments_of (sym is) ∙ args_made s inner of in
    let kept = arguments_kept (newest_first (take r.count args) []) r.eliminator 0 in
    let one = may.chosen.count in
    let two : length (arguments_of (own_eliminator r head args)) ≡ length s.args = ap length made in
    subst (λ k. MayFire vars k s.args c) (sym same)
    (record {
      room = may.room;
      call_over = record {
        front = first_over vars r.at head args may.head_over may.args_over;
        behind = take_over vars (r.count - r.at - 1) (drop (r.at + 1) args) (drop_over vars (r.at + 1) args may.args_over);
      };
      args_over = parts.1;
      chosen = record { count = omega (arith, kept, one, two); few = may.chosen.few; given = may.chosen.given };
    })

pub refolded_is : (r : Refold) (head : Tree) (args : List Tree) (c : Chosen) (call : Call) (values : List Tree) (inner case : Tree) (s : Spine) (rest : List Tree) →
    AreOwnValues values r args → inner ≡ own_eliminator r head args → IsSpineOf s inner → call ≡ own_call r head args → Ok case ≡ within_limits (instantiate values c.case) →
    rest ≡ drop r.count args → fired call c case s.args rest ≡ refolded r head args c
refolded_is r head args c call values inner case s rest own is of same made behind =
    let args_are : s.args ≡ arguments_of (own_eliminator r head args) = sym (args_made s inner of) ∙ ap arguments_of is in
    let case_is : case ≡ instantiate (newest_first (take r.count args) []) c.case = same_term case (instantiate values c.case) made ∙ ap (λ vs. instantiate vs c.case) own in
    rw (args_are, case_is, same, behind) refl

-- a case that can't be made
pub case_stop : (r : Refold) (head : Tree) (args : List Tree) (c : Chosen) (values : List Tree) (stop : TermStop) → AreOwnValues values r args →
    Gives {A = Tree} (Err stop) (within_limits (instantiate values c.case)) → GivesSpine (Err stop) (refolded r head args c)
case_stop r head args c values stop own gives =
    let told = subst (λ vs. Gives {A = Tree} (Err stop) (within_limits (instantiate vs c.case))) own gives in
    part_stop stop _ (drop r.count args)
    (stopped stop (instantiate (newest_first (take r.count args) []) c.case)
    (case_on c.params c.marks (own_call r head args) (instantiate (newest_first (take r.count args) []) c.case)
    (newest_first (take c.params (arguments_of (own_eliminator r head args))) []) c.ty c.given)
    (case_large c.params c.marks (own_call r head args) (instantiate (newest_first (take r.count args) []) c.case)
    (newest_first (take c.params (arguments_of (own_eliminator r head args))) []) c.ty c.given) told)

pub call_is : (r : Refold) (head : Tree) (args : List Tree) (front first : Tree) (from later behind : List Tree) (count : ℕ) → first ≡ head →
    Ok front ≡ within_limits (apply_all first (take r.at args)) → from ≡ drop r.at args → later ≡ drop 1 from → count ≡ r.count - r.at - 1 → behind ≡ take count later →
    record { front = front; behind = behind } ≡ own_call r head args
call_is r head args front first from later behind count one two three four five six =
    let last : later ≡ drop (r.at + 1) args = four ∙ ap (drop 1) three ∙ drop_then r.at args in
    let all : behind ≡ take (r.count - r.at - 1) (drop (r.at + 1) args) = six ∙ ap (λ n. take n later) five ∙ ap (take (r.count - r.at - 1)) last in
    let made : front ≡ apply_all head (take r.at args) = same_term front (apply_all first (take r.at args)) two ∙ ap (λ h. apply_all h (take r.at args)) one in
    rw (made, all) refl
