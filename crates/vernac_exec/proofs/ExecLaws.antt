-- What one run with the units that are handed in tells of a sentence.
use Rattle.std.proofs.Common.{◌≡◌, ℕ, ◌+◌, ◌-◌, ◌<◌, ◌≤◌, min, List, true, false, Result, Ok, Err, refl, sym, ap, subst, ◌∙◌, arith}
use Rattle.std.proofs.lemmas.Bool.Decides.{nat_tests}
use Rattle.base_core.specs.Answers.{Gives}
use Rattle.base_core.specs.declared.kind.Kind.{Kind}
use Rattle.base_core.specs.declared.limits.TheConstants.{UNIT_LIMIT}
use Rattle.base_core.specs.declared.refusals.Stop.{Stop}
use Rattle.base_core.specs.declared.refusals.Stop.TheVariants.{Refused, Out, NoMem}
use Rattle.base_core.specs.declared.refusals.Limit.TheVariants.{StepLimit, DepthLimit, SizeLimit}
use Rattle.prover_iface.specs.Sentences.{Sentence, sentence}
use Rattle.cic_rules.specs.Fuel.{FuelState, NESTING_LIMIT, full}
use Rattle.cic_rules.specs.Judges.{Meets}
use Rattle.cic_rules.specs.Runs.{Ran}
use Rattle.vernac_exec.specs.declared.deed.Deed.{Deed}
use Rattle.vernac_exec.specs.declared.reading.Reading.{Reading}
use Rattle.vernac_exec.specs.declared.state.State.{State}
use Rattle.vernac_exec.specs.Readings.{reading}
use Rattle.vernac_exec.specs.Sentences.{sentence_run}
use Rattle.vernac_exec.specs.States.{behind}
use Rattle.vernac_exec.specs.Diagnostics.{told}
use Rattle.vernac_exec.specs.Exec.{whole_run, cost, after, diagnosed}
use Rattle.vernac_exec.specs.Laws.{grant, granted_run, HadEnough, IsDecided}
use Rattle.vernac_exec.specs.Answers.{is_want, is_starved}
use Rattle.vernac_exec.specs.Calls.{run_read_with, sentence_with}
use Rattle.vernac_exec.proofs.UnitLaws.{one_run_decides}

answered : (answer : Result Deed Stop) (l : ℕ) (ran : Ran Deed) → is_want answer ≡ false → Meets answer l ran → (answer ≡ ran.answer) × (l ≡ ran.left)
answered (Ok x) l ran served met = met
answered (Err (Refused r)) l ran served met = met
answered (Err (Out limit)) l ran served met = met
answered (Err NoMem) l ran served met = absurd (cc)

starved_is : (answer : Result Deed Stop) (g : ℕ) → is_starved answer g ≡ true → (answer ≡ Err (Out StepLimit)) × (g < UNIT_LIMIT)
starved_is (Ok x) g e = absurd (cc)
starved_is (Err (Refused r)) g e = absurd (cc)
starved_is (Err (Out StepLimit)) g e = (refl, grind (arith, nat_tests, e))
starved_is (Err (Out DepthLimit)) g e = absurd (cc)
starved_is (Err (Out SizeLimit)) g e = absurd (cc)
starved_is (Err NoMem) g e = absurd (cc)

fed_is : (answer : Result Deed Stop) (g : ℕ) → is_starved answer g ≡ false → g ≤ UNIT_LIMIT → answer ≡ Err (Out StepLimit) → g ≡ UNIT_LIMIT
fed_is (Ok x) g e most is = absurd (cc)
fed_is (Err (Refused r)) g e most is = absurd (cc)
fed_is (Err (Out StepLimit)) g e most is = grind (arith, nat_tests, e, most)
fed_is (Err (Out DepthLimit)) g e most is = absurd (cc)
fed_is (Err (Out SizeLimit)) g e most is = absurd (cc)
fed_is (Err NoMem) g e most is = absurd (cc)

granted_most : (units n : ℕ) → min (units - 1) n ≤ n
granted_most units n = omega arith

none_off : (n : ℕ) → n - 0 ≡ n
none_off n = omega arith

-- the run that was made
granted_met : (m : State) (kind : Kind) (text : List ℕ) (units g l : ℕ) (f : FuelState) (answer : Result Deed Stop) → f ≡ full g → g ≡ grant units →
    Meets answer l (sentence_with m.env m.opened kind text f) → Meets answer l (granted_run m (sentence kind text) units)
granted_met m kind text units g l f answer fresh given met =
    let P : FuelState → Type 0 = λ x. Meets answer l (sentence_with m.env m.opened kind text x) in
    let Q : ℕ → Type 0 = λ n. Meets answer l (sentence_run m.env NESTING_LIMIT m.opened kind text n) in
    subst Q (none_off (grant units)) (subst P (fresh ∙ ap full given) met)

-- a sentence that was read, unless memory ran out

not_read : (answer : Result Deed Stop) (l : ℕ) (ran : Ran Deed) → ran.answer ≡ Err NoMem → is_want answer ≡ false → Meets answer l ran → ⊥
not_read (Ok x) l ran none served met = let e : Ok x ≡ Err NoMem = met.0 ∙ none in cc
not_read (Err (Refused r)) l ran none served met = let e : Err (Refused r) ≡ Err NoMem = met.0 ∙ none in cc
not_read (Err (Out limit)) l ran none served met = let e : Err (Out limit) ≡ Err NoMem = met.0 ∙ none in cc
not_read (Err NoMem) l ran none served met = cc

record IsReadSo (m : State) (kind : Kind) (text : List ℕ) (read : Result Reading Stop) (l : ℕ) (f : FuelState) (answer : Result Deed Stop) : Type 0 where
  reads : read ≡ reading kind text
  met : Meets answer l (sentence_with m.env m.opened kind text f)

read_so : (m : State) (kind : Kind) (text : List ℕ) (read : Result Reading Stop) (l : ℕ) (f : FuelState) (answer : Result Deed Stop) →
    read ≡ reading kind text → Meets answer l (run_read_with m.env m.opened read f) → IsReadSo m kind text read l f answer
unfolding sentence_run
read_so m kind text read l f answer same met =
    record { reads = same; met = subst (λ (x : Result Reading Stop). Meets answer l (run_read_with m.env m.opened x f)) same met }

is_read_so : (m : State) (kind : Kind) (text : List ℕ) (read : Result Reading Stop) (l : ℕ) (f : FuelState) (answer : Result Deed Stop) →
    Gives read (reading kind text) → is_want answer ≡ false → Meets answer l (run_read_with m.env m.opened read f) →
    IsReadSo m kind text read l f answer
is_read_so m kind text (Ok r) l f answer given served met = read_so m kind text (Ok r) l f answer given met
is_read_so m kind text (Err (Refused r)) l f answer given served met = read_so m kind text (Err (Refused r)) l f answer given met
is_read_so m kind text (Err (Out limit)) l f answer given served met = read_so m kind text (Err (Out limit)) l f answer given met
is_read_so m kind text (Err NoMem) l f answer given served met =
    absurd (not_read answer l (run_read_with m.env m.opened (Err NoMem) f) refl served met)

-- the sentence was interrupted
exec_short_so : (m : State) (kind : Kind) (text : List ℕ) (read : Result Reading Stop) (units g l : ℕ) (f : FuelState) (answer : Result Deed Stop) →
    1 ≤ units → f ≡ full g → g ≡ grant units → Gives read (reading kind text) → is_want answer ≡ false →
    Meets answer l (run_read_with m.env m.opened read f) → is_starved answer g ≡ true → units < cost m (sentence kind text)
exec_short_so m kind text read units g l f answer one fresh given reads served met starved =
    let so = is_read_so m kind text read l f answer reads served met in
    let same = answered answer l (granted_run m (sentence kind text) units) served (granted_met m kind text units g l f answer fresh given so.met) in
    let ended = starved_is answer g starved in
    (one_run_decides m (sentence kind text) units one).short (sym same.0 ∙ ended.0) (subst (λ n. n < UNIT_LIMIT) given ended.1)

-- .. in a state that is held
pub exec_short : (m held : State) (kind : Kind) (text : List ℕ) (read : Result Reading Stop) (units g l : ℕ) (f : FuelState) (answer : Result Deed Stop) →
    held ≡ m → 1 ≤ units → f ≡ full g → g ≡ grant units → Gives read (reading kind text) → is_want answer ≡ false →
    Meets answer l (run_read_with held.env held.opened read f) → is_starved answer g ≡ true → units < cost m (sentence kind text)
exec_short m held kind text read units g l f answer same one fresh given reads served met starved =
    exec_short_so m kind text read units g l f answer one fresh given reads served
    (subst (λ (x : State). Meets answer l (run_read_with x.env x.opened read f)) same met) starved

-- it was done
pub record IsDone (m : State) (s : Sentence) (read : Result Reading Stop) (units left : ℕ) (answer : Result Deed Stop) : Type 0 where
  pub fits : cost m s ≤ units
  pub state : behind m read answer ≡ after m s
  pub diags : told s.text answer ≡ diagnosed m s
  pub spent : 1 + (grant units - left) ≡ cost m s

exec_done_so : (m : State) (kind : Kind) (text : List ℕ) (read : Result Reading Stop) (units g l : ℕ) (f : FuelState) (answer : Result Deed Stop) →
    1 ≤ units → f ≡ full g → g ≡ grant units → Gives read (reading kind text) → is_want answer ≡ false →
    Meets answer l (run_read_with m.env m.opened read f) → is_starved answer g ≡ false → IsDone m (sentence kind text) read units l answer
exec_done_so m kind text read units g l f answer one fresh given reads served met fed =
    let s = sentence kind text in
    let so = is_read_so m kind text read l f answer reads served met in
    let same = answered answer l (granted_run m s units) served (granted_met m kind text units g l f answer fresh given so.met) in
    let enough : HadEnough m s units =
    λ e. fed_is answer (grant units) (subst (λ n. is_starved answer n ≡ false) given fed) (granted_most units UNIT_LIMIT) (same.0 ∙ e) in
    let decided : IsDecided m s units = one_run_decides m s units one in
    let whole : answer ≡ (whole_run m s).answer = same.0 ∙ decided.answer enough in
    record {
      fits = decided.fits enough;
      state = ap (λ r. behind m r answer) so.reads ∙ ap (behind m (reading kind text)) whole;
      diags = ap (told s.text) whole;
      spent = ap (λ n. 1 + (grant units - n)) same.1 ∙ decided.spent enough;
    }

-- .. in a state that is held
pub exec_done : (m held : State) (kind : Kind) (text : List ℕ) (read : Result Reading Stop) (units g l : ℕ) (f : FuelState) (answer : Result Deed Stop) →
    held ≡ m → 1 ≤ units → f ≡ full g → g ≡ grant units → Gives read (reading kind text) → is_want answer ≡ false →
    Meets answer l (run_read_with held.env held.opened read f) → is_starved answer g ≡ false → IsDone m (sentence kind text) read units l answer
exec_done m held kind text read units g l f answer same one fresh given reads served met fed =
    exec_done_so m kind text read units g l f answer one fresh given reads served
    (subst (λ (x : State). Meets answer l (run_read_with x.env x.opened read f)) same met) fed

-- what was spent, and the sentence's own unit
pub spent_is : (limit spent given total : ℕ) → limit ≡ given → spent ≤ limit → 1 + (given - (limit - spent)) ≡ total → spent + 1 ≡ total
spent_is limit spent given total same within is = omega (arith, same, within, is)

-- the work that is counted
pub short_work : (now before units total : ℕ) → now ≡ before + units → units < total → now ≡ before + min total units
short_work now before units total is short = omega (arith, is, short)

pub done_work : (now before units spent total : ℕ) → now ≡ before + spent → spent ≡ total → total ≤ units → now ≡ before + min total units
done_work now before units spent total is same fits = omega (arith, is, same, fits)
