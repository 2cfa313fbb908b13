-- A document of which units are spent, by what its calls tell.
use Rattle.std.proofs.Common.{◌≡◌, ℕ, ◌+◌, ◌-◌, ◌<◌, ◌≤◌, min, Bool, true, false, if◌then◌else◌, Ok, List, arith, refl, ap, subst, sym, ◌∙◌}
use Rattle.std.specs.Prelude.{nat_le}
use Rattle.std.proofs.lemmas.Bool.{leb-true, leb-false}
use Rattle.base_core.specs.declared.limits.TheConstants.{TABLE_LIMIT}
use Rattle.prover_iface.specs.Sentences.{Sentence}
use Rattle.prover_iface.specs.Meanings.{Meanings}
use Rattle.memo_table.specs.Table.{Table, with_rows}
use Rattle.memo_table.proofs.Plain.{plain_entered}
use Rattle.doc_check.specs.declared.advance.Advance.{Advance}
use Rattle.doc_check.specs.declared.advance.Advance.TheVariants as advance
use Rattle.doc_check.specs.Check.{count, views, cost_at}
use Rattle.doc_check.specs.Document.{Doc, done, all_done, next_key, next_of, state_here, taken}
use Rattle.doc_check.specs.Stands.{IsKept, Runs, Advanced, cost_here}
use Rattle.sched_core.specs.Session.{Document, Held, held_in, held_rows}
use Rattle.sched_core.specs.Done.{Came, came_to, take_kept, finish, after_work, run_next, spend_most, with_check}
use Rattle.sched_core.specs.Coming.{Carries}
use Rattle.sched_core.specs.Work.{spent_on, ran_on}
use Rattle.sched_core.proofs.Taken.{taken_text, taken_done, take_seen}
use Rattle.sched_core.proofs.Carrying.{carries_none, carries_on}
use Rattle.sched_core.proofs.Units.{GoesOn, goes_on, stops_there, spent_ended, left_here, finish_more}

-- what a call makes of a document that took what is held
abbrev pub Ran : (ℕ → ℕ) → ℕ → Came → Advance → Doc → Held → Type 0
Ran cost units c advance.Ended e held = (all_done c.check ≡ true) × (e ≡ c.check) × (held ≡ c.held)
Ran cost units c (advance.Finished spent) e held =
    (all_done c.check ≡ false) × (spent ≡ cost (done c.check)) × (spent ≤ units) × (e ≡ (finish c).check) × (held ≡ (finish c).held)
Ran cost units c advance.Interrupted e held = (all_done c.check ≡ false) × (units < cost (done c.check)) × (e ≡ c.check) × (held ≡ c.held)

module _ {S M : Type 0} (meaning : S → M) (means : Meanings M) where
  -- a new entry, as it is seen
  entry_seen : (t u : Table S) (d : Doc) → IsKept meaning means t u d → held_in u ≡ (finish (came_to d (held_in t) 0)).held
  entry_seen t u d kept =
      ap held_in kept.kept ∙ ap (held_rows (t.given + 1)) (plain_entered S TABLE_LIMIT (t.given + 1) (next_key d) kept.made t.rows)

  ran_from : (units : ℕ) (text : List ℕ) (v u : Table S) (q e : Doc) (answer : Advance) → q.text ≡ text → Runs meaning means units v q (Ok answer) u e → Ran (cost_at means text) units (came_to q (held_in v) 0) answer e (held_in u)
  ran_from units text v u q e advance.Ended same h = (h.0, h.1, ap held_in h.2)
  ran_from units text v u q e (advance.Finished spent) same h =
      (h.0, h.1 ∙ ap (λ x. cost_at means x (done q)) same, h.2, h.3, entry_seen v u q h.4)
  ran_from units text v u q e advance.Interrupted same h =
      (h.0, subst (λ x. units < cost_at means x (done q)) same h.1, h.2, ap held_in h.3)

  -- a call, as it is seen
  pub ran_seen : (units : ℕ) (text : List ℕ) (t u : Table S) (d e : Doc) (answer : Advance) → d.text ≡ text → Advanced meaning means units t d (Ok answer) u e → Ran (cost_at means text) units (take_kept d (held_in t)) answer e (held_in u)
  ran_seen units text t u d e answer same h =
      subst (λ c. Ran (cost_at means text) units c answer e (held_in u)) (sym (take_seen t d))
      (ran_from units text (with_rows t (taken d t.rows).rows) u (taken d t.rows).doc e answer (taken_text d t.rows ∙ same) h)

  -- what the next sentence costs, where there is one
  here_seen : (text : List ℕ) (t : Table S) (d : Doc) → d.text ≡ text → cost_here means (taken d t.rows).doc ≡ (if all_done (take_kept d (held_in t)).check then 0 else cost_at means text (done (take_kept d (held_in t)).check))
  here_seen text t d same =
      ap (λ x. if all_done (taken d t.rows).doc then 0 else cost_at means x (done (taken d t.rows).doc)) (taken_text d t.rows ∙ same)
      ∙ ap (λ c. if all_done c.check then 0 else cost_at means text (done c.check)) (sym (take_seen t d))

  pub here_none : (text : List ℕ) (t : Table S) (d : Doc) → d.text ≡ text → all_done (take_kept d (held_in t)).check ≡ true → cost_here means (taken d t.rows).doc ≡ 0
  here_none text t d same h = here_seen text t d same ∙ ap (λ b. if b then 0 else cost_at means text (done (take_kept d (held_in t)).check)) h

  pub here_cost : (text : List ℕ) (t : Table S) (d : Doc) → d.text ≡ text → all_done (take_kept d (held_in t)).check ≡ false → cost_here means (taken d t.rows).doc ≡ cost_at means text (done (take_kept d (held_in t)).check)
  here_cost text t d same h = here_seen text t d same ∙ ap (λ b. if b then 0 else cost_at means text (done (take_kept d (held_in t)).check)) h

  -- ---- spending: what is left of the units does the rest
  pub record IsUnderWay (units left : ℕ) (t u : Table S) (first now : Document) (before steps : ℕ) : Type 0 where
    pub same : now ≡ with_check now.check first
    pub carries : Carries meaning means t u first.check now.check
    pub most : ℕ
    pub room : count now.check.text - done now.check ≤ most
    pub check : (spend_most (cost_at means first.check.text) most now.check (held_in u) left).check ≡ (spent_on (views means) units first (held_in t)).check
    pub held : (spend_most (cost_at means first.check.text) most now.check (held_in u) left).held ≡ (spent_on (views means) units first (held_in t)).held
    pub later : before ≤ steps
    pub work : steps + (spend_most (cost_at means first.check.text) most now.check (held_in u) left).work ≡ before + (spent_on (views means) units first (held_in t)).work

  pub sets_out : (units : ℕ) (t : Table S) (first : Document) (before : ℕ) → IsUnderWay units units t t first first before before
  sets_out units t first before = record {
    same = refl;
    carries = carries_none meaning means t first.check;
    most = count first.check.text - done first.check;
    room = omega arith;
    check = refl;
    held = refl;
    later = omega arith;
    work = refl;
  }

  -- a sentence that was finished takes its cost off
  pub went_on : (units left spent : ℕ) (t u v : Table S) (first old new : Document) (answer : Advance) (before mid now : ℕ) → answer ≡ advance.Finished spent → Advanced meaning means left u old.check (Ok answer) v new.check → new ≡ with_check new.check old → Carries meaning means u v old.check new.check → now ≡ mid + min (cost_here means (taken old.check u.rows).doc) left → IsUnderWay units left t u first old before mid → IsUnderWay units (left - spent) t v first new before now
  went_on units left spent t u v first old new answer before mid now is advances same carries worked way =
      by (subst (λ a. Ran cost left c a new.check (held_in v)) is (ran_seen left text u v old.check new.check answer way.carries.text advances))
    where
      text : List ℕ
      text = first.check.text

      cost : ℕ → ℕ
      cost = cost_at means text

      c : Came
      c = take_kept old.check (held_in u)

      by : Ran cost left c (advance.Finished spent) new.check (held_in v) → IsUnderWay units (left - spent) t v first new before now
      by a =
          let fits : cost (done c.check) ≤ left = omega (arith, a.1, a.2) in
          let on : GoesOn cost way.most old.check (held_in u) left = goes_on cost way.most old.check (held_in u) left way.room a.0 fits in
          let here : cost_here means (taken old.check u.rows).doc ≡ cost (done c.check) = here_cost text u old.check way.carries.text a.0 in
          let rest : Came = spend_most cost on.fewer (finish c).check (finish c).held (left - cost (done c.check)) in
          let now_is : spend_most cost on.fewer new.check (held_in v) (left - spent) ≡ rest =
          ap (λ d. spend_most cost on.fewer d (held_in v) (left - spent)) a.3
          ∙ ap (λ h. spend_most cost on.fewer (finish c).check h (left - spent)) a.4
          ∙ ap (λ n. spend_most cost on.fewer (finish c).check (finish c).held (left - n)) a.1 in
          record {
            same = same ∙ ap (with_check new.check) way.same;
            carries = carries_on meaning means t u v first.check old.check new.check way.carries carries;
            most = on.fewer;
            room = subst (λ d. count d.text - done d ≤ on.fewer) (sym a.3) on.room;
            check = ap (λ x. x.check) now_is ∙ sym (ap (λ x. x.check) on.is) ∙ way.check;
            held = ap (λ x. x.held) now_is ∙ sym (ap (λ x. x.held) on.is) ∙ way.held;
            later = omega (arith, way.later, worked);
            work = omega (arith, worked, here, fits, way.work, ap (λ x. x.work) on.is, ap (λ x. x.work) now_is);
          }

  -- where the calls came to
  pub record IsThere (units : ℕ) (t u : Table S) (first now : Document) (before steps : ℕ) : Type 0 where
    pub new : now ≡ with_check (spent_on (views means) units first (held_in t)).check first
    pub held : held_in u ≡ (spent_on (views means) units first (held_in t)).held
    pub work : steps ≡ before + (spent_on (views means) units first (held_in t)).work
    pub carries : Carries meaning means t u first.check now.check

  -- where no sentence is left, the units are left over
  pub ended_there : (units left : ℕ) (t u v : Table S) (first old new : Document) (answer : Advance) (before mid now : ℕ) → answer ≡ advance.Ended → Advanced meaning means left u old.check (Ok answer) v new.check → new ≡ with_check new.check old → Carries meaning means u v old.check new.check → now ≡ mid + min (cost_here means (taken old.check u.rows).doc) left → IsUnderWay units left t u first old before mid → IsThere units t v first new before now
  ended_there units left t u v first old new answer before mid now is advances same carries worked way =
      by (subst (λ a. Ran cost left c a new.check (held_in v)) is (ran_seen left text u v old.check new.check answer way.carries.text advances))
    where
      text : List ℕ
      text = first.check.text

      cost : ℕ → ℕ
      cost = cost_at means text

      c : Came
      c = take_kept old.check (held_in u)

      by : Ran cost left c advance.Ended new.check (held_in v) → IsThere units t v first new before now
      by a =
          let whole : spend_most cost way.most old.check (held_in u) left ≡ c = spent_ended cost way.most old.check (held_in u) left a.0 in
          let here : cost_here means (taken old.check u.rows).doc ≡ 0 = here_none text u old.check way.carries.text a.0 in
          record {
            new = same ∙ ap (with_check new.check) way.same ∙ ap (λ d. with_check d first) (a.1 ∙ sym (ap (λ x. x.check) whole) ∙ way.check);
            held = a.2 ∙ sym (ap (λ x. x.held) whole) ∙ way.held;
            work = omega (arith, worked, here, way.work, ap (λ x. x.work) whole);
            carries = carries_on meaning means t u v first.check old.check new.check way.carries carries;
          }

  -- one that costs more than is left takes all of it, in vain
  pub stopped_there : (units left : ℕ) (t u v : Table S) (first old new : Document) (answer : Advance) (before mid now : ℕ) → answer ≡ advance.Interrupted → Advanced meaning means left u old.check (Ok answer) v new.check → new ≡ with_check new.check old → Carries meaning means u v old.check new.check → now ≡ mid + min (cost_here means (taken old.check u.rows).doc) left → IsUnderWay units left t u first old before mid → IsThere units t v first new before now
  stopped_there units left t u v first old new answer before mid now is advances same carries worked way =
      by (subst (λ a. Ran cost left c a new.check (held_in v)) is (ran_seen left text u v old.check new.check answer way.carries.text advances))
    where
      text : List ℕ
      text = first.check.text

      cost : ℕ → ℕ
      cost = cost_at means text

      c : Came
      c = take_kept old.check (held_in u)

      by : Ran cost left c advance.Interrupted new.check (held_in v) → IsThere units t v first new before now
      by a =
          let whole : spend_most cost way.most old.check (held_in u) left ≡ after_work left c = stops_there cost way.most old.check (held_in u) left way.room a.0 a.1 in
          let here : cost_here means (taken old.check u.rows).doc ≡ cost (done c.check) = here_cost text u old.check way.carries.text a.0 in
          record {
            new = same ∙ ap (with_check new.check) way.same ∙ ap (λ d. with_check d first) (a.2 ∙ sym (ap (λ x. x.check) whole) ∙ way.check);
            held = a.3 ∙ sym (ap (λ x. x.held) whole) ∙ way.held;
            work = omega (arith, worked, here, a.1, way.work, ap (λ x. x.work) whole);
            carries = carries_on meaning means t u v first.check old.check new.check way.carries carries;
          }

  -- where memory ran out, no more was done than is due
  pub broken_there : (units left : ℕ) (t u v : Table S) (first old new : Document) (before mid now : ℕ) → mid ≤ now → now ≤ mid + min (cost_here means (taken old.check u.rows).doc) left → IsUnderWay units left t u first old before mid → (before ≤ now) × (now ≤ before + (spent_on (views means) units first (held_in t)).work)
  broken_there units left t u v first old new before mid now more most way = by (all_done c.check) refl (nat_le (cost (done c.check)) left) refl
    where
      text : List ℕ
      text = first.check.text

      cost : ℕ → ℕ
      cost = cost_at means text

      c : Came
      c = take_kept old.check (held_in u)

      by : (b : Bool) → all_done c.check ≡ b → (f : Bool) → nat_le (cost (done c.check)) left ≡ f → (before ≤ now) × (now ≤ before + (spent_on (views means) units first (held_in t)).work)
      by true h f k = (omega (arith, way.later, more), omega (arith, most, way.work, here_none text u old.check way.carries.text h))
      by false h true k =
          let fits : cost (done c.check) ≤ left = leb-true (cost (done c.check)) left k in
          let on : GoesOn cost way.most old.check (held_in u) left = goes_on cost way.most old.check (held_in u) left way.room h fits in
          (omega (arith, way.later, more), omega (arith, most, way.work, here_cost text u old.check way.carries.text h, ap (λ x. x.work) on.is))
      by false h false k =
          let short : left < cost (done c.check) = leb-false (cost (done c.check)) left k in
          let whole : spend_most cost way.most old.check (held_in u) left ≡ after_work left c = stops_there cost way.most old.check (held_in u) left way.room h short in
          (omega (arith, way.later, more), omega (arith, most, way.work, ap (λ x. x.work) whole))

  -- ---- one sentence, whatever it costs
  run_of_ended : (cost : ℕ → ℕ) (d : Doc) (held : Held) → all_done (take_kept d held).check ≡ true → run_next cost d held ≡ take_kept d held
  run_of_ended cost d held h = rw h refl

  run_of_left : (cost : ℕ → ℕ) (d : Doc) (held : Held) → all_done (take_kept d held).check ≡ false → run_next cost d held ≡ after_work (cost (done (take_kept d held).check)) (finish (take_kept d held))
  run_of_left cost d held h = rw h refl

  pub record HasRun (t u : Table S) (old new : Document) (before now : ℕ) : Type 0 where
    pub new_is : new ≡ with_check (ran_on (views means) old (held_in t)).check old
    pub held : held_in u ≡ (ran_on (views means) old (held_in t)).held
    pub work : now ≡ before + (ran_on (views means) old (held_in t)).work

  pub run_ended : (t u : Table S) (old new : Document) (answer : Advance) (units before now : ℕ) → answer ≡ advance.Ended → Advanced meaning means units t old.check (Ok answer) u new.check → new ≡ with_check new.check old → now ≡ before + min (cost_here means (taken old.check t.rows).doc) units → HasRun t u old new before now
  run_ended t u old new answer units before now is advances same worked =
      by (subst (λ a. Ran cost units c a new.check (held_in u)) is (ran_seen units text t u old.check new.check answer refl advances))
    where
      text : List ℕ
      text = old.check.text

      cost : ℕ → ℕ
      cost = cost_at means text

      c : Came
      c = take_kept old.check (held_in t)

      by : Ran cost units c advance.Ended new.check (held_in u) → HasRun t u old new before now
      by a =
          let whole : run_next cost old.check (held_in t) ≡ c = run_of_ended cost old.check (held_in t) a.0 in
          record {
            new_is = same ∙ ap (λ d. with_check d old) (a.1 ∙ sym (ap (λ x. x.check) whole));
            held = a.2 ∙ sym (ap (λ x. x.held) whole);
            work = omega (arith, worked, here_none text t old.check refl a.0, ap (λ x. x.work) whole);
          }

  pub run_finished : (t u : Table S) (old new : Document) (answer : Advance) (units spent before now : ℕ) → answer ≡ advance.Finished spent → Advanced meaning means units t old.check (Ok answer) u new.check → new ≡ with_check new.check old → now ≡ before + min (cost_here means (taken old.check t.rows).doc) units → HasRun t u old new before now
  run_finished t u old new answer units spent before now is advances same worked =
      by (subst (λ a. Ran cost units c a new.check (held_in u)) is (ran_seen units text t u old.check new.check answer refl advances))
    where
      text : List ℕ
      text = old.check.text

      cost : ℕ → ℕ
      cost = cost_at means text

      c : Came
      c = take_kept old.check (held_in t)

      by : Ran cost units c (advance.Finished spent) new.check (held_in u) → HasRun t u old new before now
      by a =
          let whole : run_next cost old.check (held_in t) ≡ after_work (cost (done c.check)) (finish c) = run_of_left cost old.check (held_in t) a.0 in
          record {
            new_is = same ∙ ap (λ d. with_check d old) (a.3 ∙ sym (ap (λ x. x.check) whole));
            held = a.4 ∙ sym (ap (λ x. x.held) whole);
            work = omega (arith, worked, here_cost text t old.check refl a.0, a.1, a.2, ap (λ x. x.work) whole);
          }

  -- none costs more than all units
  pub none_stops : (t u : Table S) (old new : Document) (answer : Advance) (units : ℕ) → ((m : M) (s : Sentence) → means.cost m s ≤ units) → answer ≡ advance.Interrupted → Advanced meaning means units t old.check (Ok answer) u new.check → ⊥
  none_stops t u old new answer units bounded is advances =
      by (subst (λ a. Advanced meaning means units t old.check (Ok a) u new.check) is advances)
    where
      by : Advanced meaning means units t old.check (Ok advance.Interrupted) u new.check → ⊥
      by a = absurd (omega (arith, a.1, bounded (state_here means (taken old.check t.rows).doc) (next_of (taken old.check t.rows).doc)))

  -- where memory ran out
  pub run_broken : (t : Table S) (old : Document) (units before now : ℕ) → before ≤ now → now ≤ before + min (cost_here means (taken old.check t.rows).doc) units → (before ≤ now) × (now ≤ before + (ran_on (views means) old (held_in t)).work)
  run_broken t old units before now more most = by (all_done c.check) refl
    where
      text : List ℕ
      text = old.check.text

      cost : ℕ → ℕ
      cost = cost_at means text

      c : Came
      c = take_kept old.check (held_in t)

      by : (b : Bool) → all_done c.check ≡ b → (before ≤ now) × (now ≤ before + (ran_on (views means) old (held_in t)).work)
      by true h = (more, omega (arith, most, here_none text t old.check refl h))
      by false h = (more, omega (arith, most, here_cost text t old.check refl h, ap (λ x. x.work) (run_of_left cost old.check (held_in t) h)))

  -- fewer sentences are left
  pub fewer_left : (left spent : ℕ) (u v : Table S) (old new : Document) (answer : Advance) → answer ≡ advance.Finished spent → Advanced meaning means left u old.check (Ok answer) v new.check → count new.check.text - done new.check < count old.check.text - done old.check
  fewer_left left spent u v old new answer is advances =
      by (subst (λ a. Ran cost left c a new.check (held_in v)) is (ran_seen left old.check.text u v old.check new.check answer refl advances))
    where
      cost : ℕ → ℕ
      cost = cost_at means old.check.text

      c : Came
      c = take_kept old.check (held_in u)

      by : Ran cost left c (advance.Finished spent) new.check (held_in v) → count new.check.text - done new.check < count old.check.text - done old.check
      by a = omega (arith, ap done a.3, finish_more cost c, ap (λ d. count d.text) a.3, ap count (taken_text old.check (held_in u).rows), taken_done old.check (held_in u).rows, left_here cost old.check (held_in u) a.0)
