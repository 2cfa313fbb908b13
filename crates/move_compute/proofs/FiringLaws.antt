-- What is built of a case that was chosen, and when it may be.
use Rattle.std.specs.Prelude.{◌≡◌, ℕ, ◌+◌, ◌≤◌, List, [], ◌∷◌, take, drop, Bool, true, Result, Ok, Err, refl}
use Rattle.std.proofs.Common.{arith, ap, sym, ◌∙◌, subst}
use Rattle.std.proofs.lemmas.Bool.Decides.{nat_tests}
use Rattle.core_term.specs.Answers.{within_limits, Gives}
use Rattle.core_term.specs.Tree.{Tree, IsTerm}
use Rattle.core_term.specs.declared.stops.TermStop.{TermStop}
use Rattle.term_spine.specs.Spine.{apply_all, arguments_depth, are_small}
use Rattle.term_spine.specs.SpineLaws.{AreShallow}
use Rattle.term_spine.specs.Spines.{GivesSpine}
use Rattle.term_spine.specs.declared.spines.Spine.{Spine}
use Rattle.cic_rules.specs.declared.shapes.FamilyShape.{FamilyShape}
use Rattle.cic_rules.specs.Families.{newest_first}
use Rattle.conversion.specs.Iota.{MayPutIn}
use Rattle.conversion.proofs.CaseLaws.{same_term}
use Rattle.conversion.proofs.FireLaws.{drop_then, first_over, take_over, take_shallow, newest_over, newest_shallow, newest_count, take_count}
use Rattle.conversion.proofs.TurnLaws.{part_stop}
use Rattle.move_compute.specs.Cases.{case_on}
use Rattle.move_compute.specs.Firing.{fired}
use Rattle.move_compute.specs.Scopes.{MayFire, MayContract}
use Rattle.move_compute.specs.Turns.{eliminator_call, iota_fired}
use Rattle.move_compute.specs.declared.cases.Call.{Call}
use Rattle.move_compute.specs.declared.firing.Chosen.{Chosen}

-- arguments that no limit forbids are no deeper than terms
shallow_by : (args : List Tree) → arguments_depth args ≤ 1000 → AreShallow 1000 args
shallow_by [] le = tt
shallow_by (a ∷ more) le = (omega (arith, le), shallow_by more (omega (arith, le)))

pub args_shallow : (args : List Tree) → are_small args ≡ true → AreShallow 1000 args
args_shallow args small = let le : arguments_depth args ≤ 1000 = grind (arith, nat_tests, small) in shallow_by args le

-- the parameters may be put into the constructor's type
pub values_may : (vars : ℕ) (call : Call) (args : List Tree) (c : Chosen) (values : List Tree) → values ≡ newest_first (take c.params args) [] →
    MayFire vars call args c → are_small args ≡ true → IsTerm c.ty → MayPutIn vars values c.ty
values_may vars call args c values same may small is =
    let count = newest_count (take c.params args) [] in
    let taken = take_count c.params args may.chosen.count in
    let few = may.chosen.few in let shallow = is.shallow in let room = may.room in
    let made : MayPutIn vars (newest_first (take c.params args) []) c.ty =
    record {
      over = newest_over vars (take c.params args) [] (take_over vars c.params args may.args_over) tt;
      shallow = newest_shallow 1000 (take c.params args) [] (take_shallow 1000 c.params args (args_shallow args small)) tt;
      few = omega (arith, few, count, taken);
      room = omega (arith, room, shallow);
    } in
    subst (λ vs. MayPutIn vars vs c.ty) (sym same) made

pub eliminator_may : (vars : ℕ) (shape : FamilyShape) (head : Tree) (args : List Tree) (c : Chosen) (call : Call) → call ≡ eliminator_call shape head args →
    MayContract vars head args c → MayFire vars call args c
eliminator_may vars shape head args c call same may =
    let made : MayFire vars (eliminator_call shape head args) args c =
    record {
      room = may.room;
      call_over = record { front = first_over vars shape.fixed head args may.head_over may.args_over; behind = tt };
      args_over = may.args_over;
      chosen = may.chosen;
    } in
    subst (λ k. MayFire vars k args c) (sym same) made

-- the call that is made of it
pub eliminator_made : (shape : FamilyShape) (head first front : Tree) (args none : List Tree) → first ≡ head →
    Ok front ≡ within_limits (apply_all first (take shape.fixed args)) → none ≡ [] → ◌≡◌ {A = Call} (record { front = front; behind = none }) (eliminator_call shape head args)
eliminator_made shape head first front args none same made empty =
    let is : front ≡ apply_all head (take shape.fixed args) = same_term front (apply_all first (take shape.fixed args)) made ∙ ap (λ h. apply_all h (take shape.fixed args)) same in
    rw (is, empty) refl

pub eliminator_is : (shape : FamilyShape) (head : Tree) (args : List Tree) (c : Chosen) (call : Call) (case : Tree) (behind rest : List Tree) →
    call ≡ eliminator_call shape head args → case ≡ c.case → behind ≡ drop shape.major args → rest ≡ drop 1 behind →
    fired call c case args rest ≡ iota_fired shape head args c
eliminator_is shape head args c call case behind rest one two three four =
    let last : rest ≡ drop (shape.major + 1) args = four ∙ ap (drop 1) three ∙ drop_then shape.major args in
    rw (one, two, last) refl

-- what is built of the case, by way of the values for the constructor's type
module _ (call : Call) (c : Chosen) (case : Tree) (args rest none values : List Tree) (slice : List Bool) (are : values ≡ newest_first (take c.params args) none)
    (empty : none ≡ []) (marks : slice ≡ c.marks) where
  on_values : case_on c.params slice call case values c.ty c.given ≡ case_on c.params c.marks call case (newest_first (take c.params args) []) c.ty c.given
  on_values = rw (marks, are, empty) refl

  pub fired_is : (whole : Tree) (r : Result Spine TermStop) → Ok whole ≡ within_limits (case_on c.params slice call case values c.ty c.given) →
      GivesSpine r (apply_all whole rest) → GivesSpine r (fired call c case args rest)
  fired_is whole r made gives =
      let is : whole ≡ case_on c.params c.marks call case (newest_first (take c.params args) []) c.ty c.given =
      same_term whole (case_on c.params slice call case values c.ty c.given) made ∙ on_values in
      subst (λ t. GivesSpine r (apply_all t rest)) is gives

  pub fired_stop : (stop : TermStop) → Gives {A = Tree} (Err stop) (within_limits (case_on c.params slice call case values c.ty c.given)) →
      GivesSpine (Err stop) (fired call c case args rest)
  fired_stop stop gives =
      part_stop stop (case_on c.params c.marks call case (newest_first (take c.params args) []) c.ty c.given) rest
      (subst (λ t. Gives {A = Tree} (Err stop) (within_limits t)) on_values gives)

  pub fired_may : (vars : ℕ) → MayFire vars call args c → are_small args ≡ true → IsTerm c.ty → MayPutIn vars values c.ty
  fired_may vars may small is = values_may vars call args c values (are ∙ ap (newest_first (take c.params args)) empty) may small is
