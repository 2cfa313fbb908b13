-- Polls, and what they bring.
use Rattle.std.proofs.Common.{◌≡◌, ℕ, ◌+◌, ◌<◌, ◌≤◌, Bool, true, false, nat_le, nat_lt, Option, None, Some, Ok, Err, List, [], ◌∷◌, ◌++◌, length, take, refl, ◌∙◌, ap, subst, arith}
use Rattle.std.proofs.lemmas.Bool.Decides.{nat_tests}
use Rattle.std.proofs.lemmas.List.{length-take-le}
use Rattle.base_core.specs.Link.{Seen, Bytes, Nothing, Poll, poll, polled}
use Rattle.base_core.specs.Sink.{appended}
use Rattle.rpc_frames.specs.Frames as spec
use Rattle.lsp_types.specs.Decoding.{decoded}
use Rattle.sched_core.specs.declared.events.Exit.{Exit}
use Rattle.base_core.specs.declared.writing.Halt.{Halt}
use Rattle.lsp_session.specs.declared.messages.Drained.{Drained}
use Rattle.lsp_session.specs.declared.messages.Drained.TheVariants as drained
use Rattle.lsp_session.specs.declared.endings.Ending.{Ending}
use Rattle.lsp_session.specs.declared.turns.Turn.{Turn}
use Rattle.lsp_session.specs.declared.turns.Turn.TheVariants as turn
use Rattle.sched_core.specs.declared.events.Event.TheVariants as event
use Rattle.lsp_session.specs.Rules.{Rules, Counted, said}
use Rattle.lsp_session.specs.Run.{Progress, Going, Gone, unless_exit, after_step, at_end, each_heard, all_heard, agrees, most_asked, brought, play}
use Rattle.lsp_session.specs.Calls.{IsCut, Drains, Turns, IsCalmTurn, after_bytes, IsRun, OnePoll}
use Rattle.lsp_session.proofs.Heard.{extends_none, step_cut, Mounts, Begun}

agrees_same : (b : Bool) → agrees b b ≡ true
agrees_same true = refl
agrees_same false = refl

-- a poll that is due
play_due : {S : Type 0} (rules : Rules S) (limit : ℕ) (s : S) (pending : List ℕ) (taken : ℕ) (told : Option (List ℕ)) (waits : Bool) (seen : Seen) → taken < limit → waits ≡ (rules.waits s) → play rules limit (Going s pending taken told) (poll waits seen) ≡ brought rules limit waits seen s pending taken told
play_due rules limit s pending taken told waits seen few flag =
    let below : nat_lt taken limit ≡ true = grind (arith, nat_tests) in
    let same : agrees waits (rules.waits s) ≡ true = rw (← flag) (agrees_same waits) in
    rw (below, same) refl

brought_bytes : {S : Type 0} (rules : Rules S) (limit : ℕ) (s : S) (pending : List ℕ) (taken : ℕ) (told : Option (List ℕ)) (waits : Bool) (bytes : List ℕ) → length bytes ≤ most_asked limit taken → brought rules limit waits (Bytes bytes) s pending taken told ≡ all_heard rules (taken + length bytes) (spec.frames (pending ++ bytes)) s told
brought_bytes rules limit s pending taken told waits bytes fits =
    let within : nat_le (length bytes) (most_asked limit taken) ≡ true = grind (arith, nat_tests) in
    rw within refl

exit_runs : {S : Type 0} (exit : Option Exit) (s : S) (told : Option (List ℕ)) (rest : S → Option (List ℕ) → Progress S) → ((s : S) (t : Option (List ℕ)) → IsRun (rest s t)) → IsRun (unless_exit exit s told rest)
exit_runs None s told rest go = go s told
exit_runs (Some exit) s told rest go = tt

end_runs : {S : Type 0} (taken : ℕ) (end : spec.End) (s : S) (told : Option (List ℕ)) → IsRun (at_end taken end s told)
end_runs taken (spec.Rest pending) s told = tt
end_runs taken (spec.Fault fault) s told = tt

heard_runs : {S : Type 0} (rules : Rules S) (taken : ℕ) (end : spec.End) (bodies : List (List ℕ)) (s : S) (told : Option (List ℕ)) → IsRun (each_heard rules taken end bodies s told)
heard_runs rules taken end [] s told = end_runs taken end s told
heard_runs rules taken end (body ∷ bodies) s told =
    let step = rules.step s (event.Message (decoded body)) in
    exit_runs step.exit step.state (appended told (said step)) (λ s t. each_heard rules taken end bodies s t) (λ s t. heard_runs rules taken end bodies s t)

-- the bytes of a poll that is due
bytes_play : {S : Type 0} (rules : Rules S) (limit : ℕ) (s : S) (pending : List ℕ) (taken n : ℕ) (told : Option (List ℕ)) (waits : Bool) (bytes : List ℕ) → taken < limit → waits ≡ (rules.waits s) → length bytes ≡ n → n ≤ most_asked limit taken → play rules limit (Going s pending taken told) (poll waits (Bytes bytes)) ≡ all_heard rules (taken + n) (spec.frames (pending ++ bytes)) s told
bytes_play rules limit s pending taken n told waits bytes few flag size fits =
    play_due rules limit s pending taken told waits (Bytes bytes) few flag
    ∙ brought_bytes rules limit s pending taken told waits bytes (rw size fits)
    ∙ ap (λ k. all_heard rules (taken + k) (spec.frames (pending ++ bytes)) s told) size

-- bytes came, and were heard
pub turned_bytes : {S : Type 0} (rules : Rules (Counted S)) (limit : ℕ) (s s' : Counted S) (pending pending' : List ℕ) (taken n : ℕ) (told now : Option (List ℕ)) (waits : Bool) (bytes : List ℕ) (last : Drained) (t : Turn) (old new : Option (List Poll)) → t ≡ after_bytes last → taken < limit → waits ≡ (rules.waits s) → length bytes ≡ n → n ≤ most_asked limit taken → new ≡ polled old (poll waits (Bytes bytes)) → Drains (taken + n) (all_heard rules (taken + n) (spec.frames (pending ++ bytes)) s told) (Ok last) s' pending' told now → Turns rules limit (Going s pending taken told) (Ok t) s' pending' (taken + n) told now old new
turned_bytes {S = S} rules limit s s' pending pending' taken n told now waits bytes last t old new e few flag size fits grown drains = rw e (by last drains) where
  by : (d : Drained) → Drains (taken + n) (all_heard rules (taken + n) (spec.frames (pending ++ bytes)) s told) (Ok d) s' pending' told now → Turns {S = S} rules limit (Going s pending taken told) (Ok (after_bytes d)) s' pending' (taken + n) told now old new
  by drained.Rest h = record { one = poll waits (Bytes bytes); grown = grown; plays = bytes_play rules limit s pending taken n told waits bytes few flag size fits ∙ h }
  by (drained.Exit exit) h = record { one = poll waits (Bytes bytes); grown = grown; plays = bytes_play rules limit s pending taken n told waits bytes few flag size fits ∙ h }
  by drained.Fault h = record { one = poll waits (Bytes bytes); grown = grown; plays = bytes_play rules limit s pending taken n told waits bytes few flag size fits ∙ h }

-- what they bring was broken off
pub turned_cut : {S : Type 0} (rules : Rules (Counted S)) → Mounts rules → (limit : ℕ) (s s' : Counted S) (pending pending' : List ℕ) (taken n : ℕ) (told now : Option (List ℕ)) (waits : Bool) (bytes : List ℕ) (halt : Halt) (old new : Option (List Poll)) → taken < limit → waits ≡ (rules.waits s) → length bytes ≡ n → n ≤ most_asked limit taken → new ≡ polled old (poll waits (Bytes bytes)) → IsCut (all_heard rules (taken + n) (spec.frames (pending ++ bytes)) s told) s'.work told now → Turns rules limit (Going s pending taken told) (Err halt) s' pending' (taken + n) told now old new
turned_cut rules mounts limit s s' pending pending' taken n told now waits bytes halt old new few flag size fits grown cut = record {
  whole = all_heard rules (taken + n) (spec.frames (pending ++ bytes)) s told;
  poll = record { one = poll waits (Bytes bytes); grown = grown; plays = bytes_play rules limit s pending taken n told waits bytes few flag size fits };
  is_run = heard_runs rules (taken + n) (spec.frames (pending ++ bytes)).end (spec.frames (pending ++ bytes)).bodies s told;
  cut = cut;
}

-- nothing came, and the idle step was made
idle_play : {S : Type 0} (rules : Rules S) (limit : ℕ) (s : S) (pending : List ℕ) (taken : ℕ) (told : Option (List ℕ)) (waits : Bool) → taken < limit → waits ≡ (rules.waits s) → waits ≡ false → play rules limit (Going s pending taken told) (poll waits Nothing) ≡ after_step (rules.step s event.Idle) told (λ s t. Going s pending taken t)
idle_play rules limit s pending taken told waits few flag unset = play_due rules limit s pending taken told waits Nothing few flag ∙ by waits unset where
  by : (w : Bool) → w ≡ false → brought rules limit w Nothing s pending taken told ≡ after_step (rules.step s event.Idle) told (λ s t. Going s pending taken t)
  by false e = refl
  by true e = absurd (never e) where
    never : true ≡ false → ⊥
    never k = cc

pub turned_idle_cut : {S : Type 0} (rules : Rules (Counted S)) → Mounts rules → (limit : ℕ) (s s' : Counted S) (pending : List ℕ) (taken : ℕ) (told now : Option (List ℕ)) (waits : Bool) (halt : Halt) (old new : Option (List Poll)) → taken < limit → waits ≡ (rules.waits s) → waits ≡ false → new ≡ polled old (poll waits Nothing) → Begun (rules.step s event.Idle) s'.work told now → Turns rules limit (Going s pending taken told) (Err halt) s' pending taken told now old new
turned_idle_cut rules mounts limit s s' pending taken told now waits halt old new few flag unset grown begins = record {
  whole = after_step (rules.step s event.Idle) told (λ s t. Going s pending taken t);
  poll = record { one = poll waits Nothing; grown = grown; plays = idle_play rules limit s pending taken told waits few flag unset };
  is_run = exit_runs (rules.step s event.Idle).exit (rules.step s event.Idle).state (appended told (said (rules.step s event.Idle))) (λ s t. Going s pending taken t) (λ s t. tt);
  cut = step_cut (rules.step s event.Idle) s'.work told now (λ s t. Going s pending taken t) (λ s t. extends_none t) (λ s t. omega arith) begins;
}

pub length_front : (n : ℕ) (xs : List ℕ) → n ≤ length xs → length (take n xs) ≡ n
length_front n xs h = length-take-le n xs h

-- a turn by its answer
pub turn_on : {S : Type 0} (rules : Rules (Counted S)) (limit : ℕ) (start : Progress (Counted S)) (t : Turn) (s : Counted S) (pending : List ℕ) (taken : ℕ) (told now : Option (List ℕ)) (old new : Option (List Poll)) → t ≡ turn.On → Turns rules limit start (Ok t) s pending taken told now old new → OnePoll rules limit start (Going s pending taken now) old new
turn_on rules limit start t s pending taken told now old new e h = subst (λ t. Turns rules limit start (Ok t) s pending taken told now old new) e h

pub turn_over : {S : Type 0} (rules : Rules (Counted S)) (limit : ℕ) (start : Progress (Counted S)) (t : Turn) (end : Ending) (s : Counted S) (pending : List ℕ) (taken : ℕ) (told now : Option (List ℕ)) (old new : Option (List Poll)) → t ≡ turn.Over end → Turns rules limit start (Ok t) s pending taken told now old new → OnePoll rules limit start (Gone end s now) old new
turn_over rules limit start t end s pending taken told now old new e h = subst (λ t. Turns rules limit start (Ok t) s pending taken told now old new) e h

pub turn_failed : {S : Type 0} (rules : Rules (Counted S)) (limit : ℕ) (start : Progress (Counted S)) (t : Turn) (s : Counted S) (pending : List ℕ) (taken : ℕ) (told now : Option (List ℕ)) (old new : Option (List Poll)) → t ≡ turn.Failed → Turns rules limit start (Ok t) s pending taken told now old new → Turns rules limit start (Ok turn.Failed) s pending taken told now old new
turn_failed rules limit start t s pending taken told now old new e h = subst (λ t. Turns rules limit start (Ok t) s pending taken told now old new) e h

pub polled_on : (t : Turn) (old new : ℕ) → t ≡ turn.On → IsCalmTurn (Ok t) old new → new ≡ old
polled_on t old new e h = subst (λ t. IsCalmTurn (Ok t) old new) e h
