-- One run tells whether a sentence's cost fits the units that are handed in.
use Rattle.std.proofs.Common.{◌≡◌, ℕ, ◌+◌, ◌-◌, ◌<◌, ◌≤◌, min, Err, refl, arith}
use Rattle.base_core.specs.declared.limits.TheConstants.{UNIT_LIMIT}
use Rattle.base_core.specs.declared.refusals.Stop.TheVariants.{Out}
use Rattle.base_core.specs.declared.refusals.Limit.TheVariants.{StepLimit}
use Rattle.cic_rules.specs.Fuel.{NESTING_LIMIT}
use Rattle.cic_rules.specs.Laws.{IsUnderLimit, SameAnswer, TooFew, KeepsLawOfFuel}
use Rattle.cic_rules.specs.Runs.{Ran, Run}
use Rattle.vernac_exec.specs.Sentences.{sentence_run}
use Rattle.vernac_exec.specs.Laws.{CostsAreBounded, OneRunDecides, grant}
use Rattle.vernac_exec.proofs.FuelOfExec.{fuel_of_sentences}

pub costs_are_bounded : CostsAreBounded
costs_are_bounded m s = (omega arith, omega arith)

-- a run with m of n units is as good as the run with all, unless m were too few
record IsAsGood {A : Type 0} (m n : ℕ) (low high : Ran A) : Type 0 where
  answer : low.answer ≡ high.answer
  spent : m - low.left ≡ n - high.left

good_by : {A : Type 0} (m n : ℕ) (low high : Ran A) → low.left ≤ m → high.left ≤ n → (low.answer ≡ Err (Out StepLimit) → m ≡ n) →
    IsUnderLimit m n low high → IsAsGood m n low high
good_by m n low high few most all (SameAnswer a e) = record { answer = a; spent = omega (arith, e, few, most) }
good_by m n low high few most all (TooFew a more) = let same : m ≡ n = all a in absurd (omega (arith, same, more))

good : {A : Type 0} (run : Run A) (m n : ℕ) → KeepsLawOfFuel run → m ≤ n → ((run m).answer ≡ Err (Out StepLimit) → m ≡ n) → IsAsGood m n (run m) (run n)
good run m n law le all = good_by m n (run m) (run n) (law.falls m) (law.falls n) all (law.lower m n le)

-- a run with fewer units that ends for want of them: all units are more than it had
short_by : {A : Type 0} (m n : ℕ) (low high : Ran A) → m < n → (low.answer ≡ Err (Out StepLimit) → low.left ≡ 0) →
    (high.answer ≡ Err (Out StepLimit) → high.left ≡ 0) → low.answer ≡ Err (Out StepLimit) → IsUnderLimit m n low high → high.left + m < n
short_by m n low high lt empty all e (SameAnswer a same) =
    let one : low.left ≡ 0 = empty e in
    let other : high.answer ≡ Err (Out StepLimit) = cc in
    let two : high.left ≡ 0 = all other in
    omega (arith, one, two, same, lt)
short_by m n low high lt empty all e (TooFew a more) = more

short : {A : Type 0} (run : Run A) (m n : ℕ) → KeepsLawOfFuel run → m < n → (run m).answer ≡ Err (Out StepLimit) → (run n).left + m < n
short run m n law lt e = short_by m n (run m) (run n) lt (law.empty m) (law.empty n) e (law.lower m n (omega (arith, lt)))

costs_more : (units m n left : ℕ) → m ≡ min (units - 1) n → m < n → left + m < n → units < 1 + (n - left)
costs_more units m n left is lt more = omega (arith, is, lt, more)

costs_less : (units m n low high : ℕ) → m ≡ min (units - 1) n → 1 ≤ units → m - low ≡ n - high → 1 + (n - high) ≤ units
costs_less units m n low high is one same = omega (arith, is, one, same)

costs_same : (m n low high : ℕ) → m - low ≡ n - high → 1 + (m - low) ≡ 1 + (n - high)
costs_same m n low high same = omega (arith, same)

granted : (units n : ℕ) → min (units - 1) n ≤ n
granted units n = omega arith

decided : {A : Type 0} (run : Run A) (units n : ℕ) → KeepsLawOfFuel run → ((run (min (units - 1) n)).answer ≡ Err (Out StepLimit) → min (units - 1) n ≡ n) →
    IsAsGood (min (units - 1) n) n (run (min (units - 1) n)) (run n)
decided run units n law all = good run (min (units - 1) n) n law (granted units n) all

pub one_run_decides : OneRunDecides
one_run_decides m s units one =
    let run = sentence_run m.env NESTING_LIMIT m.opened s.kind s.text in
    let law : KeepsLawOfFuel run = fuel_of_sentences m.env NESTING_LIMIT m.opened s.kind s.text in
    record {
      short = λ e lt. costs_more units (grant units) UNIT_LIMIT (run UNIT_LIMIT).left refl lt (short run (grant units) UNIT_LIMIT law lt e);
      fits = λ all. costs_less units (grant units) UNIT_LIMIT (run (grant units)).left (run UNIT_LIMIT).left refl one
          (decided run units UNIT_LIMIT law all).spent;
      answer = λ all. (decided run units UNIT_LIMIT law all).answer;
      spent = λ all. costs_same (grant units) UNIT_LIMIT (run (grant units)).left (run UNIT_LIMIT).left (decided run units UNIT_LIMIT law all).spent;
    }
