-- What each step keeps holds all along a run; and where a run polls so that the link may wait.
use Rattle.std.proofs.Common.{◌≡◌, ℕ, ◌+◌, Bool, true, false, nat_le, if◌then◌else◌, Option, None, Some, List, [], ◌∷◌, ◌++◌, length, refl, sym, ◌∙◌, ap, subst}
use Rattle.std.proofs.lemmas.Bool.{and_parts}
use Rattle.base_core.specs.Link.{Seen, Bytes, Nothing, Ended, Fault, Poll}
use Rattle.base_core.specs.Sink.{appended}
use Rattle.rpc_frames.specs.Frames as spec
use Rattle.lsp_types.specs.Decoding.{decoded}
use Rattle.sched_core.specs.declared.events.Event.{Event}
use Rattle.sched_core.specs.declared.events.Event.TheVariants as event
use Rattle.sched_core.specs.declared.events.Exit.{Exit}
use Rattle.sched_core.specs.Step.{Step}
use Rattle.lsp_session.specs.Rules.{Rules, said}
use Rattle.lsp_session.specs.Run.{Progress, Going, Gone, Strange, unless_exit, at_end, each_heard, most_asked, agrees, is_due, brought, play, played, stopped, Outcome}

-- ---- what each step keeps

-- where a run goes on, this holds of its state and of what the sink tells
abbrev pub HoldsAt : {S : Type 0} → (S → Option (List ℕ) → Type 0) → Progress S → Type 0
HoldsAt P (Going s pending taken told) = P s told
HoldsAt P (Gone end s told) = Unit {0}
HoldsAt P Strange = Unit {0}

module _ {S : Type 0} (rules : Rules S) (P : S → Option (List ℕ) → Type 0) (kept : (s : S) (told : Option (List ℕ)) (e : Event) → P s told → P (rules.step s e).state (appended told (said (rules.step s e)))) where
  unless_holds : (exit : Option Exit) (s : S) (told : Option (List ℕ)) (rest : S → Option (List ℕ) → Progress S) → HoldsAt P (rest s told) → HoldsAt P (unless_exit exit s told rest)
  unless_holds None s told rest h = h
  unless_holds (Some exit) s told rest h = tt

  end_holds : (taken : ℕ) (end : spec.End) (s : S) (told : Option (List ℕ)) → P s told → HoldsAt P (at_end taken end s told)
  end_holds taken (spec.Rest pending) s told h = h
  end_holds taken (spec.Fault fault) s told h = tt

  heard_holds : (taken : ℕ) (end : spec.End) (bodies : List (List ℕ)) (s : S) (told : Option (List ℕ)) → P s told → HoldsAt P (each_heard rules taken end bodies s told)
  heard_holds taken end [] s told h = end_holds taken end s told h
  heard_holds taken end (body ∷ bodies) s told h =
      let step : Step S = rules.step s (event.Message (decoded body)) in
      unless_holds step.exit step.state (appended told (said step)) (λ s t. each_heard rules taken end bodies s t)
      (heard_holds taken end bodies step.state (appended told (said step)) (kept s told (event.Message (decoded body)) h))

  if_holds : (test : Bool) (p q : Progress S) → HoldsAt P p → HoldsAt P q → HoldsAt P (if test then p else q)
  if_holds true p q h k = h
  if_holds false p q h k = k

  brought_holds : (limit : ℕ) (waits : Bool) (seen : Seen) (s : S) (pending : List ℕ) (taken : ℕ) (told : Option (List ℕ)) → P s told → HoldsAt P (brought rules limit waits seen s pending taken told)
  brought_holds limit waits (Bytes bytes) s pending taken told h =
      if_holds (nat_le (length bytes) (most_asked limit taken)) _ Strange (heard_holds (taken + length bytes) (spec.frames (pending ++ bytes)).end (spec.frames (pending ++ bytes)).bodies s told h) tt
  brought_holds limit waits Nothing s pending taken told h =
      let step : Step S = rules.step s event.Idle in
      if_holds waits Strange _ tt (unless_holds step.exit step.state (appended told (said step)) (λ s t. Going s pending taken t) (kept s told event.Idle h))
  brought_holds limit waits Ended s pending taken told h = tt
  brought_holds limit waits Fault s pending taken told h = tt

  play_holds : (limit : ℕ) (p : Progress S) (one : Poll) → HoldsAt P p → HoldsAt P (play rules limit p one)
  play_holds limit (Going s pending taken told) one h = if_holds (is_due rules limit s taken one.waits) _ Strange (brought_holds limit one.waits one.seen s pending taken told h) tt
  play_holds limit (Gone end s told) one h = tt
  play_holds limit Strange one h = tt

  pub played_holds : (limit : ℕ) (polls : List Poll) (p : Progress S) → HoldsAt P p → HoldsAt P (played rules limit p polls)
  played_holds limit [] p h = h
  played_holds limit (one ∷ polls) p h = played_holds limit polls (play rules limit p one) (play_holds limit p one h)

-- ---- where a run waits

-- a run goes on here, and nothing is to be done until something comes
pub record IsAtWait {S : Type 0} (rules : Rules S) (p : Progress S) : Type 0 where
  pub state : S
  pub pending : List ℕ
  pub taken : ℕ
  pub told : Option (List ℕ)
  pub is : p ≡ Going state pending taken told
  pub waits : rules.waits state ≡ true

module _ {S : Type 0} (rules : Rules S) (limit : ℕ) where
  pub played_parts : (p : Progress S) (xs ys : List Poll) → played rules limit p (xs ++ ys) ≡ played rules limit (played rules limit p xs) ys
  played_parts p [] ys = refl
  played_parts p (x ∷ xs) ys = played_parts (play rules limit p x) xs ys

  strange_on : (polls : List Poll) → played rules limit Strange polls ≡ Strange
  strange_on [] = refl
  strange_on (one ∷ polls) = strange_on polls

  never_strange : {Q : Type 0} (polls : List Poll) (whole : Outcome S) → stopped limit (played rules limit Strange polls) ≡ Some whole → Q
  never_strange polls whole e =
      let none : None ≡ Some whole = sym (ap (stopped limit) (strange_on polls)) ∙ e in
      cc

  pub at_wait : (p : Progress S) (one : Poll) (after : List Poll) (whole : Outcome S) → one.waits ≡ true → stopped limit (played rules limit (play rules limit p one) after) ≡ Some whole → IsAtWait rules p
  at_wait (Gone end s told) one after whole may e = never_strange after whole e
  at_wait Strange one after whole may e = never_strange after whole e
  at_wait (Going s pending taken told) one after whole may e = by (is_due rules limit s taken one.waits) refl e where
    next : Progress S
    next = brought rules limit one.waits one.seen s pending taken told

    by : (test : Bool) → is_due rules limit s taken one.waits ≡ test → stopped limit (played rules limit (if test then next else Strange) after) ≡ Some whole → IsAtWait rules (Going s pending taken told)
    by false due e = never_strange after whole e
    by true due e = record { state = s; pending = pending; taken = taken; told = told; is = refl; waits = subst (λ flag. agrees flag (rules.waits s) ≡ true) may (and_parts _ _ due).1 }

pub holds_there : {S : Type 0} (rules : Rules S) (P : S → Option (List ℕ) → Type 0) (p : Progress S) (at : IsAtWait rules p) → HoldsAt P p → P at.state at.told
holds_there rules P p at h = subst (HoldsAt P) at.is h
