-- What a run writes does not depend on what was told before.
use Rattle.std.proofs.Common.{◌≡◌, ℕ, Bool, true, false, Option, None, Some, Result, Ok, Err, List, [], ◌∷◌, ◌++◌, refl, sym, ◌∙◌, ap, subst, append_assoc, arith, if◌then◌else◌}
use Rattle.std.proofs.lemmas.List.{append_cancel_left}
use Rattle.base_core.specs.Link.{Seen, Bytes, Nothing, Ended, Fault, Poll}
use Rattle.base_core.specs.Sink.{appended}
use Rattle.base_core.proofs.Begun.{appended-appended, appended-nil}
use Rattle.rpc_frames.specs.Frames as spec
use Rattle.lsp_types.specs.Decoding.{decoded}
use Rattle.sched_core.specs.declared.events.Exit.{Exit}
use Rattle.lsp_session.specs.declared.endings.Ending.{Ending}
use Rattle.lsp_session.specs.declared.endings.Ending.TheVariants as ending
use Rattle.sched_core.specs.declared.events.Event.TheVariants as event
use Rattle.sched_core.specs.Step.{Step}
use Rattle.lsp_session.specs.Rules.{Rules, Counted, said}
use Rattle.lsp_session.specs.Run.{Progress, Going, Gone, Strange, unless_exit, after_step, at_end, each_heard, fault_bytes, is_due, brought, play, played, stopped, Outcome, outcome, run_from, run}
use Rattle.lsp_session.specs.Serves.{WholeFrom, FrontFrom, IsWhole, IsFront, ServesFrom, Serves}
use Rattle.base_core.specs.declared.writing.Halt.{Halt}

-- what is told after a base
abbrev pub added_to : Option (List ℕ) → Option (List ℕ) → Option (List ℕ)
added_to base None = None
added_to base (Some bytes) = appended base bytes

added_more : (base told : Option (List ℕ)) (bytes : List ℕ) → appended (added_to base told) bytes ≡ added_to base (appended told bytes)
added_more base None bytes = refl
added_more base (Some told) bytes = appended-appended base told bytes

abbrev pub lift : {S : Type 0} → Option (List ℕ) → Progress S → Progress S
lift base (Going s pending taken told) = Going s pending taken (added_to base told)
lift base (Gone end s told) = Gone end s (added_to base told)
lift base Strange = Strange

lift_exit : {S : Type 0} (base : Option (List ℕ)) (exit : Option Exit) (s : S) (told : Option (List ℕ)) (rest : S → Option (List ℕ) → Progress S) → ((s : S) (t : Option (List ℕ)) → rest s (added_to base t) ≡ lift base (rest s t)) → unless_exit exit s (added_to base told) rest ≡ lift base (unless_exit exit s told rest)
lift_exit base None s told rest go = go s told
lift_exit base (Some exit) s told rest go = refl

lift_step : {S : Type 0} (base : Option (List ℕ)) (step : Step S) (told : Option (List ℕ)) (rest : S → Option (List ℕ) → Progress S) → ((s : S) (t : Option (List ℕ)) → rest s (added_to base t) ≡ lift base (rest s t)) → after_step step (added_to base told) rest ≡ lift base (after_step step told rest)
lift_step base step told rest go = ap (λ t. unless_exit step.exit step.state t rest) (added_more base told (said step)) ∙ lift_exit base step.exit step.state (appended told (said step)) rest go

lift_end : {S : Type 0} (base : Option (List ℕ)) (taken : ℕ) (end : spec.End) (s : S) (told : Option (List ℕ)) → at_end taken end s (added_to base told) ≡ lift base (at_end taken end s told)
lift_end base taken (spec.Rest pending) s told = refl
lift_end base taken (spec.Fault fault) s told = ap (λ t. Gone ending.FrameFault s t) (added_more base told fault_bytes)

lift_heard : {S : Type 0} (rules : Rules S) (base : Option (List ℕ)) (taken : ℕ) (end : spec.End) (bodies : List (List ℕ)) (s : S) (told : Option (List ℕ)) → each_heard rules taken end bodies s (added_to base told) ≡ lift base (each_heard rules taken end bodies s told)
lift_heard rules base taken end [] s told = lift_end base taken end s told
lift_heard rules base taken end (body ∷ bodies) s told =
    lift_step base (rules.step s (event.Message (decoded body))) told (λ s t. each_heard rules taken end bodies s t) (λ s t. lift_heard rules base taken end bodies s t)

lift_if : {S : Type 0} (base : Option (List ℕ)) (test : Bool) (a b : Progress S) → a ≡ lift base b → (if test then a else Strange) ≡ lift base (if test then b else Strange)
lift_if base true a b e = e
lift_if base false a b e = refl

lift_unless : {S : Type 0} (base : Option (List ℕ)) (test : Bool) (a b : Progress S) → a ≡ lift base b → (if test then Strange else a) ≡ lift base (if test then Strange else b)
lift_unless base true a b e = refl
lift_unless base false a b e = e

lift_brought : {S : Type 0} (rules : Rules S) (limit : ℕ) (base : Option (List ℕ)) (waits : Bool) (seen : Seen) (s : S) (pending : List ℕ) (taken : ℕ) (told : Option (List ℕ)) → brought rules limit waits seen s pending taken (added_to base told) ≡ lift base (brought rules limit waits seen s pending taken told)
lift_brought rules limit base waits (Bytes bytes) s pending taken told =
    lift_if base _ _ _ (lift_heard rules base _ (spec.frames (pending ++ bytes)).end (spec.frames (pending ++ bytes)).bodies s told)
lift_brought rules limit base waits Nothing s pending taken told =
    lift_unless base waits _ _ (lift_step base (rules.step s event.Idle) told (λ s t. Going s pending taken t) (λ s t. refl))
lift_brought rules limit base waits Ended s pending taken told = refl
lift_brought rules limit base waits Fault s pending taken told = refl

lift_play : {S : Type 0} (rules : Rules S) (limit : ℕ) (base : Option (List ℕ)) (p : Progress S) (one : Poll) → play rules limit (lift base p) one ≡ lift base (play rules limit p one)
lift_play rules limit base (Going s pending taken told) one = lift_if base (is_due rules limit s taken one.waits) _ _ (lift_brought rules limit base one.waits one.seen s pending taken told)
lift_play rules limit base (Gone end s told) one = refl
lift_play rules limit base Strange one = refl

lift_played : {S : Type 0} (rules : Rules S) (limit : ℕ) (base : Option (List ℕ)) (p : Progress S) (polls : List Poll) → played rules limit (lift base p) polls ≡ lift base (played rules limit p polls)
lift_played rules limit base p [] = refl
lift_played rules limit base p (one ∷ polls) =
    ap (λ q. played rules limit q polls) (lift_play rules limit base p one) ∙ lift_played rules limit base (play rules limit p one) polls

-- a run keeps telling
abbrev Tells : Option (List ℕ) → Type 0
Tells None = ⊥
Tells (Some told) = Unit {0}

abbrev Keeps : {S : Type 0} → Progress S → Type 0
Keeps (Going s pending taken told) = Tells told
Keeps (Gone end s told) = Tells told
Keeps Strange = Unit {0}

tells_more : (told : Option (List ℕ)) (bytes : List ℕ) → Tells told → Tells (appended told bytes)
tells_more None bytes h = absurd h
tells_more (Some told) bytes h = tt

keeps_exit : {S : Type 0} (exit : Option Exit) (s : S) (told : Option (List ℕ)) (rest : S → Option (List ℕ) → Progress S) → Tells told → ((s : S) (t : Option (List ℕ)) → Tells t → Keeps (rest s t)) → Keeps (unless_exit exit s told rest)
keeps_exit None s told rest h go = go s told h
keeps_exit (Some exit) s told rest h go = h

keeps_step : {S : Type 0} (step : Step S) (told : Option (List ℕ)) (rest : S → Option (List ℕ) → Progress S) → Tells told → ((s : S) (t : Option (List ℕ)) → Tells t → Keeps (rest s t)) → Keeps (after_step step told rest)
keeps_step step told rest h go = keeps_exit step.exit step.state (appended told (said step)) rest (tells_more told (said step) h) go

keeps_heard : {S : Type 0} (rules : Rules S) (taken : ℕ) (end : spec.End) (bodies : List (List ℕ)) (s : S) (told : Option (List ℕ)) → Tells told → Keeps (each_heard rules taken end bodies s told)
keeps_heard rules taken (spec.Rest pending) [] s told h = h
keeps_heard rules taken (spec.Fault fault) [] s told h = tells_more told fault_bytes h
keeps_heard rules taken end (body ∷ bodies) s told h =
    keeps_step (rules.step s (event.Message (decoded body))) told (λ s t. each_heard rules taken end bodies s t) h (λ s t k. keeps_heard rules taken end bodies s t k)

keeps_if : {S : Type 0} (test : Bool) (a : Progress S) → Keeps a → Keeps (if test then a else Strange)
keeps_if true a h = h
keeps_if false a h = tt

keeps_unless : {S : Type 0} (test : Bool) (a : Progress S) → Keeps a → Keeps (if test then Strange else a)
keeps_unless true a h = tt
keeps_unless false a h = h

keeps_brought : {S : Type 0} (rules : Rules S) (limit : ℕ) (waits : Bool) (seen : Seen) (s : S) (pending : List ℕ) (taken : ℕ) (told : Option (List ℕ)) → Tells told → Keeps (brought rules limit waits seen s pending taken told)
keeps_brought rules limit waits (Bytes bytes) s pending taken told h =
    keeps_if _ _ (keeps_heard rules _ (spec.frames (pending ++ bytes)).end (spec.frames (pending ++ bytes)).bodies s told h)
keeps_brought rules limit waits Nothing s pending taken told h =
    keeps_unless waits _ (keeps_step (rules.step s event.Idle) told (λ s t. Going s pending taken t) h (λ s t k. k))
keeps_brought rules limit waits Ended s pending taken told h = h
keeps_brought rules limit waits Fault s pending taken told h = h

keeps_play : {S : Type 0} (rules : Rules S) (limit : ℕ) (p : Progress S) (one : Poll) → Keeps p → Keeps (play rules limit p one)
keeps_play rules limit (Going s pending taken told) one h = keeps_if (is_due rules limit s taken one.waits) _ (keeps_brought rules limit one.waits one.seen s pending taken told h)
keeps_play rules limit (Gone end s told) one h = tt
keeps_play rules limit Strange one h = tt

keeps_played : {S : Type 0} (rules : Rules S) (limit : ℕ) (p : Progress S) (polls : List Poll) → Keeps p → Keeps (played rules limit p polls)
keeps_played rules limit p [] h = h
keeps_played rules limit p (one ∷ polls) h = keeps_played rules limit (play rules limit p one) polls (keeps_play rules limit p one h)

-- what an outcome tells
told_in : {S : Type 0} → Option (Outcome S) → Option (List ℕ)
told_in None = None
told_in (Some o) = o.told

retold : {S : Type 0} → List ℕ → Option (Outcome S) → Option (Outcome S)
retold bytes None = None
retold bytes (Some o) = Some (outcome o.ending o.state (Some bytes))

-- the bytes of a run, whose outcome tells them after what was told before
pub record Runs {S : Type 0} (rules : Rules S) (limit : ℕ) (start : S) (polls : List Poll) (end : Ending) (state : S) (told now : Option (List ℕ)) : Type 0 where
  pub bytes : List ℕ
  pub wrote : now ≡ appended told bytes
  pub ran : run rules limit start polls ≡ Some (outcome end state (Some bytes))

pub runs : {S : Type 0} (rules : Rules S) (limit : ℕ) (start : S) (polls : List Poll) (end : Ending) (state : S) (told now : Option (List ℕ)) → run_from rules limit start told polls ≡ Some (outcome end state now) → Runs rules limit start polls end state told now
unfolding told_in retold
runs {S = S} rules limit start polls end state told now ran = by (played rules limit (Going start [] 0 (Some [])) polls) refl (keeps_played rules limit (Going start [] 0 (Some [])) polls tt) lifted where
  begun : Going start [] 0 told ≡ lift told (Going start [] 0 (Some []))
  begun = ap (λ t. Going start [] 0 t) (sym (appended-nil told))

  lifted : stopped limit (lift told (played rules limit (Going start [] 0 (Some [])) polls)) ≡ Some (outcome end state now)
  lifted = ap (stopped limit) (sym (ap (λ p. played rules limit p polls) begun ∙ lift_played rules limit told (Going start [] 0 (Some [])) polls)) ∙ ran

  by : (p : Progress S) → played rules limit (Going start [] 0 (Some [])) polls ≡ p → Keeps p → stopped limit (lift told p) ≡ Some (outcome end state now) → Runs rules limit start polls end state told now
  by (Going s pending taken None) is keeps h = absurd keeps
  by (Going s pending taken (Some bytes)) is keeps h = record { bytes = bytes; wrote = sym (ap told_in h); ran = ap (stopped limit) is ∙ ap (retold bytes) h }
  by (Gone e s None) is keeps h = absurd keeps
  by (Gone e s (Some bytes)) is keeps h = record { bytes = bytes; wrote = sym (ap told_in h); ran = ap (stopped limit) is ∙ ap (retold bytes) h }
  by Strange is keeps h = absurd (never h) where
    never : None ≡ Some (outcome end state now) → ⊥
    never k = cc

-- the same of all of a session
pub whole_told : {S : Type 0} (rules : Rules S) (limit : ℕ) (start : S) (end : Ending) (state : S) (told now : Option (List ℕ)) (old new : Option (List Poll)) → WholeFrom rules limit start end state told now old new → IsWhole rules limit start end state told now old new
whole_told rules limit start end state told now old new h =
    let r : Runs rules limit start h.polls end state told now = runs rules limit start h.polls end state told now h.ran in
    record { polls = h.polls; grown = h.grown; bytes = r.bytes; wrote = r.wrote; ran = r.ran }

some_same : (a b : List ℕ) → Some a ≡ Some b → a ≡ b
some_same a b e = cc

-- and of one that is broken off
pub front_told : {S : Type 0} (rules : Rules (Counted S)) (limit : ℕ) (start : Counted S) (used : ℕ) (bytes : List ℕ) (now : Option (List ℕ)) (old new : Option (List Poll)) → FrontFrom rules limit start used (Some bytes) now old new → IsFront rules limit start used (Some bytes) now old new
front_told {S = S} rules limit start used bytes now old new h = record {
  earlier = h.earlier;
  last = h.last ∷ [];
  few = omega arith;
  grown = h.grown;
  held = held.bytes;
  more = h.holds.more;
  rest = h.front.more;
  wrote = wrote;
  before = rw held.ran refl;
  ran = rw full.ran (ap Some parts, h.spent);
} where
  held : Runs rules limit start h.earlier h.held.ending h.held.state (Some bytes) h.held.told
  held = runs rules limit start h.earlier h.held.ending h.held.state (Some bytes) h.held.told h.before

  full : Runs rules limit start (h.earlier ++ h.last ∷ []) h.full.ending h.full.state (Some bytes) h.full.told
  full = runs rules limit start (h.earlier ++ h.last ∷ []) h.full.ending h.full.state (Some bytes) h.full.told h.ran

  wrote : now ≡ Some (bytes ++ (held.bytes ++ h.holds.more))
  wrote = h.holds.grown ∙ ap (λ t. appended t h.holds.more) held.wrote ∙ ap Some (append_assoc bytes held.bytes h.holds.more)

  same : Some (bytes ++ full.bytes) ≡ Some (bytes ++ ((held.bytes ++ h.holds.more) ++ h.front.more))
  same = sym full.wrote ∙ h.front.grown ∙ ap (λ t. appended t h.front.more) wrote ∙ ap Some (append_assoc bytes (held.bytes ++ h.holds.more) h.front.more)

  parts : full.bytes ≡ (held.bytes ++ h.holds.more) ++ h.front.more
  parts = append_cancel_left bytes full.bytes ((held.bytes ++ h.holds.more) ++ h.front.more) (some_same _ _ same)

pub serves_told : {S : Type 0} (rules : Rules (Counted S)) (limit : ℕ) (start : Counted S) (result : Result Ending Halt) (state : Counted S) (told now : Option (List ℕ)) (old new : Option (List Poll)) → ServesFrom rules limit start result state told now old new → Serves rules limit start result state told now old new
serves_told rules limit start (Ok end) state told now old new h = whole_told rules limit start end state told now old new h
serves_told rules limit start (Err halt) state told now old new h = λ bytes e. broken bytes told e h where
  broken : (bytes : List ℕ) (t : Option (List ℕ)) → t ≡ Some bytes → FrontFrom rules limit start state.work t now old new → IsFront rules limit start state.work t now old new
  broken bytes t e k = rw e (front_told rules limit start state.work bytes now old new (subst (λ t. FrontFrom rules limit start state.work t now old new) e k))
