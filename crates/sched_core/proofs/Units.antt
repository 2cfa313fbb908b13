-- What units finish of a document.
use Rattle.std.proofs.Common.{◌≡◌, ℕ, zero, suc, ◌+◌, ◌-◌, ◌<◌, ◌≤◌, Bool, true, false, nat_le, if◌then◌else◌, length-append, ◌∷◌, [], arith, refl, ap, ◌∙◌}
use Rattle.std.proofs.lemmas.Bool.{le-leb, lt-leb, leb-false, leb-true}
use Rattle.doc_check.specs.Check.{count}
use Rattle.doc_check.specs.Document.{Doc, done, all_done}
use Rattle.sched_core.specs.Session.{Held}
use Rattle.sched_core.specs.Done.{Came, take_kept, finish, after_work, run_next, spend_taken, spend_most, spend}
use Rattle.sched_core.proofs.Taken.{taken_text, taken_done}

-- ---- one turn

module _ (cost : ℕ → ℕ) where
  -- where all sentences are finished, no more is done
  pub spent_ended : (most : ℕ) (d : Doc) (held : Held) (units : ℕ) → all_done (take_kept d held).check ≡ true → spend_most cost most d held units ≡ take_kept d held
  spent_ended zero d held units h = refl
  spent_ended (suc most) d held units h = rw h refl

  pub left_here : (d : Doc) (held : Held) → all_done (take_kept d held).check ≡ false → done (take_kept d held).check < count d.text
  left_here d held h =
      let less : done (take_kept d held).check < count (take_kept d held).check.text = leb-false (count (take_kept d held).check.text) (done (take_kept d held).check) h in
      omega (arith, less, ap count (taken_text d held.rows))

  pub finish_more : (c : Came) → done (finish c).check ≡ done c.check + 1
  finish_more c = length-append c.check.numbers ((c.held.given + 1) ∷ [])

  -- where the next one costs at most the units, it is finished, and what is left of them does the rest
  pub record GoesOn (most : ℕ) (d : Doc) (held : Held) (units : ℕ) : Type 0 where
    pub fewer : ℕ
    pub room : count (finish (take_kept d held)).check.text - done (finish (take_kept d held)).check ≤ fewer
    pub is : spend_most cost most d held units ≡ after_work (cost (done (take_kept d held).check)) (spend_most cost fewer (finish (take_kept d held)).check (finish (take_kept d held)).held (units - cost (done (take_kept d held).check)))

  pub goes_on : (most : ℕ) (d : Doc) (held : Held) (units : ℕ) → count d.text - done d ≤ most → all_done (take_kept d held).check ≡ false → cost (done (take_kept d held).check) ≤ units → GoesOn most d held units
  goes_on zero d held units room unended fits = absurd (omega (arith, room, left_here d held unended, taken_done d held.rows))
  goes_on (suc fewer) d held units room unended fits = record {
    fewer = fewer;
    room = omega (arith, room, left_here d held unended, taken_done d held.rows, finish_more (take_kept d held), ap count (taken_text d held.rows));
    is = rw (unended, le-leb (cost (done (take_kept d held).check)) units fits) refl;
  }

  -- one that costs more is begun in vain
  pub stops_there : (most : ℕ) (d : Doc) (held : Held) (units : ℕ) → count d.text - done d ≤ most → all_done (take_kept d held).check ≡ false → units < cost (done (take_kept d held).check) → spend_most cost most d held units ≡ after_work units (take_kept d held)
  stops_there zero d held units room unended short = absurd (omega (arith, room, left_here d held unended, taken_done d held.rows))
  stops_there (suc fewer) d held units room unended short = rw (unended, lt-leb (cost (done (take_kept d held).check)) units short) refl

-- ---- texts stay, and no sentence is taken back

pub run_text : (cost : ℕ → ℕ) (d : Doc) (held : Held) → (run_next cost d held).check.text ≡ d.text
run_text cost d held = by (all_done (take_kept d held).check) where
  by : (b : Bool) → (if b then take_kept d held else after_work (cost (done (take_kept d held).check)) (finish (take_kept d held))).check.text ≡ d.text
  by true = taken_text d held.rows
  by false = taken_text d held.rows

-- one more is finished at least where one was left
pub run_more : (cost : ℕ → ℕ) (d : Doc) (held : Held) → done d < count d.text → done d < done (run_next cost d held).check
run_more cost d held left = by (all_done (take_kept d held).check) refl where
  by : (b : Bool) → all_done (take_kept d held).check ≡ b → done d < done (if b then take_kept d held else after_work (cost (done (take_kept d held).check)) (finish (take_kept d held))).check
  by true h = omega (arith, left, leb-true (count (take_kept d held).check.text) (done (take_kept d held).check) h, ap count (taken_text d held.rows))
  by false h = omega (arith, taken_done d held.rows, length-append (take_kept d held).check.numbers ((held.given + 1) ∷ []))

module _ (cost : ℕ → ℕ) where
  text_turn : (later : Doc → Held → ℕ → Came) → ((e : Doc) (h : Held) (left : ℕ) → (later e h left).check.text ≡ e.text) → (c : Came) (units : ℕ) → (spend_taken cost later c units).check.text ≡ c.check.text
  text_turn later h c units = by (all_done c.check) (nat_le (cost (done c.check)) units) where
    by : (b f : Bool) → (if b then c else (if f then after_work (cost (done c.check)) (later (finish c).check (finish c).held (units - cost (done c.check))) else after_work units c)).check.text ≡ c.check.text
    by true f = refl
    by false true = h (finish c).check (finish c).held (units - cost (done c.check))
    by false false = refl

  text_most : (most : ℕ) (d : Doc) (held : Held) (units : ℕ) → (spend_most cost most d held units).check.text ≡ d.text
  text_most zero d held units = taken_text d held.rows
  text_most (suc most) d held units = text_turn (λ e h left. spend_most cost most e h left) (λ e h left. text_most most e h left) (take_kept d held) units ∙ taken_text d held.rows

  pub spend_text : (d : Doc) (held : Held) (units : ℕ) → (spend cost d held units).check.text ≡ d.text
  spend_text d held units = text_most (count d.text - done d) d held units

  done_turn : (later : Doc → Held → ℕ → Came) → ((e : Doc) (h : Held) (left : ℕ) → done e ≤ done (later e h left).check) → (c : Came) (units : ℕ) → done c.check ≤ done (spend_taken cost later c units).check
  done_turn later h c units = by (all_done c.check) (nat_le (cost (done c.check)) units) where
    by : (b f : Bool) → done c.check ≤ done (if b then c else (if f then after_work (cost (done c.check)) (later (finish c).check (finish c).held (units - cost (done c.check))) else after_work units c)).check
    by true f = omega arith
    by false true = omega (arith, h (finish c).check (finish c).held (units - cost (done c.check)), length-append c.check.numbers ((c.held.given + 1) ∷ []))
    by false false = omega arith

  done_most : (most : ℕ) (d : Doc) (held : Held) (units : ℕ) → done d ≤ done (spend_most cost most d held units).check
  done_most zero d held units = taken_done d held.rows
  done_most (suc most) d held units = omega (arith, taken_done d held.rows, done_turn (λ e h left. spend_most cost most e h left) (λ e h left. done_most most e h left) (take_kept d held) units)

  pub spend_more : (d : Doc) (held : Held) (units : ℕ) → done d ≤ done (spend cost d held units).check
  spend_more d held units = done_most (count d.text - done d) d held units
