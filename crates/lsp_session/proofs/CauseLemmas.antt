-- Runs, and what their polls brought.
use Rattle.std.proofs.Common.{◌≡◌, ℕ, ◌+◌, ◌<◌, ◌≤◌, ◌||◌, Bool, true, false, nat_lt, nat_le, Option, None, Some, List, [], ◌∷◌, ◌++◌, length, map, refl, sym, ◌∙◌, ap, subst, append_assoc, append-nil, arith, length-append, if◌then◌else◌}
use Rattle.std.proofs.lemmas.Bool.{and_parts, ltb-true, ltb-false, leb-true}
use Rattle.std.proofs.lemmas.List.{map-append}
use Rattle.base_core.specs.Link.{Seen, Bytes, Nothing, Ended, Fault, Poll}
use Rattle.base_core.specs.Sink.{appended}
use Rattle.rpc_frames.specs.Frames as spec
use Rattle.rpc_frames.proofs.StreamLemmas.{frames_none, frames_go_on}
use Rattle.lsp_types.specs.Decoding.{decoded}
use Rattle.sched_core.specs.declared.events.Exit.{Exit}
use Rattle.lsp_session.specs.declared.endings.Ending.{Ending}
use Rattle.lsp_session.specs.declared.endings.Ending.TheVariants as ending
use Rattle.sched_core.specs.declared.events.Event.TheVariants as event
use Rattle.sched_core.specs.Step.{Step}
use Rattle.lsp_session.specs.Rules.{Rules, said}
use Rattle.lsp_session.specs.Run.{Progress, Going, Gone, Strange, unless_exit, at_end, each_heard, is_due, most_asked, brought, play, played, Outcome, stopped, run}
use Rattle.sched_core.specs.declared.phase.Phase.{Phase}
use Rattle.sched_core.specs.declared.phase.Phase.TheVariants.{Fresh}
use Rattle.lsp_session.specs.Causes.{Message, phase_after, is_exit, exit_in, exit_of, bytes_seen, bytes_taken, is_end, saw_end, messages_of, has_fault, is_fault, exit_among, IsQuiet}
use Rattle.lsp_session.proofs.PhaseLemmas.{MovesPhase}

-- the phase behind messages
abbrev pub phase_behind : Phase → List Message → Phase
phase_behind phase [] = phase
phase_behind phase (message ∷ messages) = phase_behind (phase_after phase message) messages

pub never_some : {X : Type 0} {x : X} → Some x ≡ None → ⊥
never_some e = cc

-- messages that bring no exit, and then others
pub exit_go_on : (phase : Phase) (xs ys : List Message) → exit_of phase xs ≡ None → exit_of phase (xs ++ ys) ≡ exit_of (phase_behind phase xs) ys
exit_go_on phase [] ys e = refl
exit_go_on phase (x ∷ xs) ys e = by (is_exit x) e (λ h. exit_go_on (phase_after phase x) xs ys h) where
  by : (b : Bool) → (if b then Some (exit_in phase) else exit_of (phase_after phase x) xs) ≡ None → (exit_of (phase_after phase x) xs ≡ None → exit_of (phase_after phase x) (xs ++ ys) ≡ exit_of (phase_behind (phase_after phase x) xs) ys) → (if b then Some (exit_in phase) else exit_of (phase_after phase x) (xs ++ ys)) ≡ exit_of (phase_behind (phase_after phase x) xs) ys
  by true h go = absurd (never_some h)
  by false h go = go h

pub phase_go_on : (phase : Phase) (xs ys : List Message) → phase_behind phase (xs ++ ys) ≡ phase_behind (phase_behind phase xs) ys
phase_go_on phase [] ys = refl
phase_go_on phase (x ∷ xs) ys = phase_go_on (phase_after phase x) xs ys

-- in this phase these bodies are left of the bytes, of which none before made an exit
record IsLeft (limit : ℕ) (phase : Phase) (bodies : List (List ℕ)) (end : spec.End) (taken : ℕ) (bytes : List ℕ) (saw : Bool) : Type 0 where
  pub exit : exit_among bytes ≡ exit_of phase (map decoded bodies)
  pub behind : phase_behind Fresh (messages_of bytes) ≡ phase_behind phase (map decoded bodies)
  pub ends : (spec.frames bytes).end ≡ end
  pub size : taken ≡ length bytes
  pub within : taken ≤ limit
  pub unseen : saw ≡ false

-- the cause of an ending, of bytes and an end that was seen or not
abbrev pub Due : ℕ → Ending → List ℕ → Bool → Type 0
Due limit (ending.Exit exit) bytes saw = (exit_among bytes ≡ Some exit) × (saw ≡ false)
Due limit ending.LinkFailed bytes saw = IsQuiet bytes × (length bytes < limit) × (saw ≡ false)
Due limit ending.LinkEnded bytes saw = IsQuiet bytes × (length bytes < limit) × (saw ≡ true)
Due limit ending.FrameFault bytes saw = (exit_among bytes ≡ None) × (has_fault bytes ≡ true) × (saw ≡ false)
Due limit ending.TakenLimit bytes saw = IsQuiet bytes × (length bytes ≡ limit) × (saw ≡ false)

-- how far a run is behind these bytes
abbrev Stands : {S : Type 0} → ℕ → (S → Phase) → Progress S → List ℕ → Bool → Type 0
Stands limit phase_of (Going s pending taken told) bytes saw = IsLeft limit (phase_of s) [] (spec.Rest pending) taken bytes saw
Stands limit phase_of (Gone end s told) bytes saw = Due limit end bytes saw
Stands limit phase_of Strange bytes saw = Unit {0}

-- all bodies are heard
end_stands : {S : Type 0} (limit : ℕ) (phase_of : S → Phase) (taken : ℕ) (end : spec.End) (s : S) (told : Option (List ℕ)) (bytes : List ℕ) (saw : Bool) → IsLeft limit (phase_of s) [] end taken bytes saw → Stands limit phase_of (at_end taken end s told) bytes saw
end_stands limit phase_of taken (spec.Rest pending) s told bytes saw h = h
end_stands limit phase_of taken (spec.Fault fault) s told bytes saw h = (h.exit, ap is_fault h.ends, h.unseen)

-- a step that ends the session or not
exit_stands : {S : Type 0} (limit : ℕ) (phase_of : S → Phase) (exit : Option Exit) (s : S) (told : Option (List ℕ)) (rest : S → Option (List ℕ) → Progress S) (bytes : List ℕ) (saw : Bool) → ((last : Exit) → exit ≡ Some last → Due limit (ending.Exit last) bytes saw) → (exit ≡ None → Stands limit phase_of (rest s told) bytes saw) → Stands limit phase_of (unless_exit exit s told rest) bytes saw
exit_stands limit phase_of None s told rest bytes saw over on = on refl
exit_stands limit phase_of (Some last) s told rest bytes saw over on = over last refl

exit_here : (b : Bool) (x e : Exit) (more : Option Exit) → (if b then Some x else None) ≡ Some e → (if b then Some x else more) ≡ Some e
exit_here true x e more h = h
exit_here false x e more h = absurd (never_some (sym h))

none_here : (b : Bool) (x : Exit) (more : Option Exit) → (if b then Some x else None) ≡ None → (if b then Some x else more) ≡ more
none_here true x more h = absurd (never_some h)
none_here false x more h = refl

-- a message, and the bodies behind it
heard_stands : {S : Type 0} (limit : ℕ) (rules : Rules S) (phase_of : S → Phase) → MovesPhase rules phase_of → (taken : ℕ) (end : spec.End) (bodies : List (List ℕ)) (s : S) (told : Option (List ℕ)) (bytes : List ℕ) (saw : Bool) → IsLeft limit (phase_of s) bodies end taken bytes saw → Stands limit phase_of (each_heard rules taken end bodies s told) bytes saw
heard_stands limit rules phase_of moves taken end [] s told bytes saw h = end_stands limit phase_of taken end s told bytes saw h
heard_stands {S = S} limit rules phase_of moves taken end (body ∷ bodies) s told bytes saw h =
    exit_stands limit phase_of step.exit step.state (appended told (said step)) (λ s t. each_heard rules taken end bodies s t) bytes saw over
    (λ e. heard_stands limit rules phase_of moves taken end bodies step.state (appended told (said step)) bytes saw (left e)) where
      step : Step S
      step = rules.step s (event.Message (decoded body))

      over : (last : Exit) → step.exit ≡ Some last → Due limit (ending.Exit last) bytes saw
      over last e = (h.exit ∙ exit_here (is_exit (decoded body)) _ last _ (sym (moves.heard_exit s (decoded body)) ∙ e), h.unseen)

      left : step.exit ≡ None → IsLeft limit (phase_of step.state) bodies end taken bytes saw
      left e = record {
        exit = h.exit ∙ none_here (is_exit (decoded body)) _ _ (sym (moves.heard_exit s (decoded body)) ∙ e) ∙ ap (λ p. exit_of p (map decoded bodies)) (sym (moves.heard_phase s (decoded body)));
        behind = h.behind ∙ ap (λ p. phase_behind p (map decoded bodies)) (sym (moves.heard_phase s (decoded body)));
        ends = h.ends;
        size = h.size;
        within = h.within;
        unseen = h.unseen;
      }

-- more bytes, of which no message was heard yet
more_left : (limit : ℕ) (phase : Phase) (pending : List ℕ) (taken : ℕ) (bytes more : List ℕ) (saw : Bool) → IsLeft limit phase [] (spec.Rest pending) taken bytes saw → taken + length more ≤ limit → IsLeft limit phase (spec.frames (pending ++ more)).bodies (spec.frames (pending ++ more)).end (taken + length more) (bytes ++ more) false
more_left limit phase pending taken bytes more saw h few = record {
  exit = ap (exit_of Fresh) messages ∙ exit_go_on Fresh (messages_of bytes) _ h.exit ∙ ap (λ p. exit_of p (map decoded (spec.frames (pending ++ more)).bodies)) h.behind;
  behind = ap (phase_behind Fresh) messages ∙ phase_go_on Fresh (messages_of bytes) _ ∙ ap (λ p. phase_behind p (map decoded (spec.frames (pending ++ more)).bodies)) h.behind;
  ends = ap (λ s. s.end) stream;
  size = omega (arith, h.size, length-append bytes more);
  within = few;
  unseen = refl;
} where
  stream : spec.frames (bytes ++ more) ≡ spec.with_bodies (spec.frames bytes).bodies (spec.frames (pending ++ more))
  stream = frames_go_on bytes more ∙ ap (λ e. spec.with_bodies (spec.frames bytes).bodies (spec.end_goes_on e more)) h.ends

  messages : messages_of (bytes ++ more) ≡ messages_of bytes ++ map decoded (spec.frames (pending ++ more)).bodies
  messages = ap (λ (s : spec.Stream). map decoded s.bodies) stream ∙ map-append decoded (spec.frames bytes).bodies (spec.frames (pending ++ more)).bodies

-- polls that no session makes say nothing
if_stands : {S : Type 0} (limit : ℕ) (phase_of : S → Phase) (test : Bool) (p : Progress S) (bytes : List ℕ) (saw : Bool) → (test ≡ true → Stands limit phase_of p bytes saw) → Stands limit phase_of (if test then p else Strange) bytes saw
if_stands limit phase_of true p bytes saw h = h refl
if_stands limit phase_of false p bytes saw h = tt

unless_stands : {S : Type 0} (limit : ℕ) (phase_of : S → Phase) (test : Bool) (p : Progress S) (bytes : List ℕ) (saw : Bool) → Stands limit phase_of p bytes saw → Stands limit phase_of (if test then Strange else p) bytes saw
unless_stands limit phase_of true p bytes saw h = tt
unless_stands limit phase_of false p bytes saw h = h

fits : (limit : ℕ) (taken n : ℕ) → taken ≤ limit → nat_le n (most_asked limit taken) ≡ true → taken + n ≤ limit
fits limit taken n h e = omega (arith, leb-true n (most_asked limit taken) e)

quiet : (limit : ℕ) (phase : Phase) (pending : List ℕ) (taken : ℕ) (bytes : List ℕ) (saw : Bool) → IsLeft limit phase [] (spec.Rest pending) taken bytes saw → IsQuiet bytes
quiet limit phase pending taken bytes saw h = record { no_exit = h.exit; no_fault = ap is_fault h.ends }

-- what a poll brings
brought_stands : {S : Type 0} (limit : ℕ) (rules : Rules S) (phase_of : S → Phase) → MovesPhase rules phase_of → (waits : Bool) (seen : Seen) (s : S) (pending : List ℕ) (taken : ℕ) (told : Option (List ℕ)) (bytes : List ℕ) (saw : Bool) → taken < limit → IsLeft limit (phase_of s) [] (spec.Rest pending) taken bytes saw → Stands limit phase_of (brought rules limit waits seen s pending taken told) (bytes ++ bytes_seen seen) (is_end seen)
brought_stands limit rules phase_of moves waits (Bytes more) s pending taken told bytes saw few h =
    if_stands limit phase_of (nat_le (length more) (most_asked limit taken)) _ (bytes ++ more) false
    (λ e. heard_stands limit rules phase_of moves (taken + length more) (spec.frames (pending ++ more)).end (spec.frames (pending ++ more)).bodies s told (bytes ++ more) false
    (more_left limit (phase_of s) pending taken bytes more saw h (fits limit taken (length more) h.within e)))
brought_stands {S = S} limit rules phase_of moves waits Nothing s pending taken told bytes saw few h =
    rw (append-nil bytes) (unless_stands limit phase_of waits _ bytes false (exit_stands limit phase_of (rules.step s event.Idle).exit (rules.step s event.Idle).state (appended told (said (rules.step s event.Idle))) (λ s t. Going s pending taken t) bytes false (λ last e. absurd (never_some (sym e ∙ moves.idle_exit s))) (λ e. left))) where
      left : IsLeft limit (phase_of (rules.step s event.Idle).state) [] (spec.Rest pending) taken bytes false
      left = record { exit = h.exit; behind = h.behind ∙ sym (moves.idle_phase s); ends = h.ends; size = h.size; within = h.within; unseen = refl }
brought_stands limit rules phase_of moves waits Ended s pending taken told bytes saw few h =
    rw (append-nil bytes) (quiet limit (phase_of s) pending taken bytes saw h, omega (arith, h.size, few), refl)
brought_stands limit rules phase_of moves waits Fault s pending taken told bytes saw few h =
    rw (append-nil bytes) (quiet limit (phase_of s) pending taken bytes saw h, omega (arith, h.size, few), refl)

-- one poll more
play_stands : {S : Type 0} (rules : Rules S) (phase_of : S → Phase) → MovesPhase rules phase_of → (limit : ℕ) (p : Progress S) (one : Poll) (bytes : List ℕ) (saw : Bool) → Stands limit phase_of p bytes saw → Stands limit phase_of (play rules limit p one) (bytes ++ bytes_seen one.seen) (saw || is_end one.seen)
play_stands rules phase_of moves limit (Going s pending taken told) one bytes saw h =
    if_stands limit phase_of (is_due rules limit s taken one.waits) _ (bytes ++ bytes_seen one.seen) (saw || is_end one.seen)
    (λ e. rw h.unseen (brought_stands limit rules phase_of moves one.waits one.seen s pending taken told bytes saw (ltb-true taken limit (and_parts _ _ e).0) h))
play_stands rules phase_of moves limit (Gone end s told) one bytes saw h = tt
play_stands rules phase_of moves limit Strange one bytes saw h = tt

or_assoc : (a b c : Bool) → ((a || b) || c) ≡ (a || (b || c))
or_assoc true b c = refl
or_assoc false b c = refl

or_false : (a : Bool) → (a || false) ≡ a
or_false true = refl
or_false false = refl

-- all polls
played_stands : {S : Type 0} (rules : Rules S) (phase_of : S → Phase) → MovesPhase rules phase_of → (limit : ℕ) (polls : List Poll) (p : Progress S) (bytes : List ℕ) (saw : Bool) → Stands limit phase_of p bytes saw → Stands limit phase_of (played rules limit p polls) (bytes ++ bytes_taken polls) (saw || saw_end polls)
played_stands rules phase_of moves limit [] p bytes saw h = rw (append-nil bytes, or_false saw) h
played_stands rules phase_of moves limit (one ∷ polls) p bytes saw h =
    rw (← append_assoc bytes (bytes_seen one.seen) (bytes_taken polls), ← or_assoc saw (is_end one.seen) (saw_end polls))
    (played_stands rules phase_of moves limit polls (play rules limit p one) (bytes ++ bytes_seen one.seen) (saw || is_end one.seen) (play_stands rules phase_of moves limit p one bytes saw h))

-- how a run ends
DueIn : {S : Type 0} → ℕ → Option (Outcome S) → List ℕ → Bool → Type 0
DueIn limit None bytes saw = Unit {0}
DueIn limit (Some whole) bytes saw = Due limit whole.ending bytes saw

stopped_due : {S : Type 0} (limit : ℕ) (phase_of : S → Phase) (p : Progress S) (bytes : List ℕ) (saw : Bool) → Stands limit phase_of p bytes saw → DueIn limit (stopped limit p) bytes saw
unfolding DueIn
stopped_due limit phase_of (Going s pending taken told) bytes saw h = by (nat_lt taken limit) (λ e. ltb-true taken limit e) (λ e. ltb-false taken limit e) where
  by : (b : Bool) → (b ≡ true → taken < limit) → (b ≡ false → limit ≤ taken) → Due limit (if b then ending.LinkFailed else ending.TakenLimit) bytes saw
  by true few full = (quiet limit (phase_of s) pending taken bytes saw h, omega (arith, h.size, few refl), h.unseen)
  by false few full = (quiet limit (phase_of s) pending taken bytes saw h, omega (arith, h.size, h.within, full refl), h.unseen)
stopped_due limit phase_of (Gone end s told) bytes saw h = h
stopped_due limit phase_of Strange bytes saw h = tt

pub run_due : {S : Type 0} (rules : Rules S) (phase_of : S → Phase) → MovesPhase rules phase_of → (limit : ℕ) (start : S) (polls : List Poll) (whole : Outcome S) → phase_of start ≡ Fresh → run rules limit start polls ≡ Some whole → Due limit whole.ending (bytes_taken polls) (saw_end polls)
unfolding DueIn
run_due rules phase_of moves limit start polls whole first ran =
    subst (λ o. DueIn limit o (bytes_taken polls) (saw_end polls)) ran
    (stopped_due limit phase_of (played rules limit (Going start [] 0 (Some [])) polls) (bytes_taken polls) (saw_end polls) (played_stands rules phase_of moves limit polls (Going start [] 0 (Some [])) [] false begun)) where
      begun : IsLeft limit (phase_of start) [] (spec.Rest []) 0 [] false
      begun = record {
        exit = ap (λ (s : spec.Stream). exit_of Fresh (map decoded s.bodies)) frames_none;
        behind = ap (λ (s : spec.Stream). phase_behind Fresh (map decoded s.bodies)) frames_none ∙ sym first;
        ends = ap (λ (s : spec.Stream). s.end) frames_none;
        size = refl;
        within = omega arith;
        unseen = refl;
      }
