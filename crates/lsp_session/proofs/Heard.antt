-- Steps, and the bytes they add.
use Rattle.std.proofs.Common.{◌≡◌, ℕ, ◌≤◌, arith, Option, None, Some, Result, Ok, Err, List, [], ◌∷◌, ◌++◌, refl, sym, ◌∙◌, ap, subst}
use Rattle.base_core.specs.Sink.{appended, Begins}
use Rattle.base_core.proofs.Begun.{appended-appended, appended-nil}
use Rattle.rpc_frames.specs.Frames as spec
use Rattle.lsp_types.specs.Decoding.{decoded}
use Rattle.sched_core.specs.declared.events.Exit.{Exit}
use Rattle.base_core.specs.declared.writing.Halt.{Halt}
use Rattle.lsp_session.specs.declared.messages.Drained.{Drained}
use Rattle.lsp_session.specs.declared.messages.Drained.TheVariants as drained
use Rattle.sched_core.specs.declared.events.Event.{Event}
use Rattle.sched_core.specs.declared.events.Event.TheVariants as event
use Rattle.sched_core.specs.Step.{Step}
use Rattle.lsp_session.specs.Rules.{Rules, Counted, counting, said}
use Rattle.lsp_session.specs.Run.{Progress, unless_exit, after_step, at_end, each_heard, fault_bytes}
use Rattle.lsp_session.specs.Calls.{Extends, told_at, work_at, IsCut, Drains, Goes, heard_of}

pub extends_none : (told : Option (List ℕ)) → Extends told told
extends_none told = record { more = []; grown = sym (appended-nil told) }

pub extends_by : (told : Option (List ℕ)) (bytes : List ℕ) → Extends told (appended told bytes)
extends_by told bytes = record { more = bytes; grown = refl }

pub extends_on : (a b c : Option (List ℕ)) → Extends a b → Extends b c → Extends a c
extends_on a b c h k = record { more = h.more ++ k.more; grown = k.grown ∙ ap (λ w. appended w k.more) h.grown ∙ appended-appended a h.more k.more }

-- what was begun goes on to the whole
pub extends_left : (old new : Option (List ℕ)) (bytes : List ℕ) → Begins old new bytes → Extends new (appended old bytes)
extends_left old new bytes h = record {
  more = h.left;
  grown = ap (appended old) h.parts ∙ sym (appended-appended old h.begun h.left) ∙ ap (λ w. appended w h.left) (sym h.grown);
}

pub extends_begun : (old new : Option (List ℕ)) (bytes : List ℕ) → Begins old new bytes → Extends old new
extends_begun old new bytes h = record { more = h.begun; grown = h.grown }

-- a step and what follows only add bytes, where what follows does
pub exit_extends : {S : Type 0} (exit : Option Exit) (s : S) (told : Option (List ℕ)) (rest : S → Option (List ℕ) → Progress S) → ((s : S) (t : Option (List ℕ)) → Extends t (told_at (rest s t))) → Extends told (told_at (unless_exit exit s told rest))
exit_extends None s told rest go = go s told
exit_extends (Some exit) s told rest go = extends_none told

pub step_extends : {S : Type 0} (step : Step S) (told : Option (List ℕ)) (rest : S → Option (List ℕ) → Progress S) → ((s : S) (t : Option (List ℕ)) → Extends t (told_at (rest s t))) → Extends told (told_at (after_step step told rest))
step_extends step told rest go = extends_on _ _ _ (extends_by told (said step)) (exit_extends step.exit step.state (appended told (said step)) rest go)

end_extends : {S : Type 0} (taken : ℕ) (end : spec.End) (s : S) (told : Option (List ℕ)) → Extends told (told_at (at_end taken end s told))
end_extends taken (spec.Rest pending) s told = extends_none told
end_extends taken (spec.Fault fault) s told = extends_by told fault_bytes

pub heard_extends : {S : Type 0} (rules : Rules S) (taken : ℕ) (end : spec.End) (bodies : List (List ℕ)) (s : S) (told : Option (List ℕ)) → Extends told (told_at (each_heard rules taken end bodies s told))
heard_extends rules taken end [] s told = end_extends taken end s told
heard_extends rules taken end (body ∷ bodies) s told =
    step_extends (rules.step s (event.Message (decoded body))) told (λ s t. each_heard rules taken end bodies s t) (λ s t. heard_extends rules taken end bodies s t)

-- no step takes from the count of work
pub record Mounts {S : Type 0} (rules : Rules (Counted S)) : Type 0 where
  pub more : (s : Counted S) (e : Event) → s.work ≤ (rules.step s e).state.work

pub counting_mounts : {S : Type 0} (rules : Rules S) → Mounts (counting rules)
counting_mounts rules = record { more = λ s e. omega arith }

exit_mounts : {S : Type 0} (exit : Option Exit) (s : Counted S) (told : Option (List ℕ)) (rest : Counted S → Option (List ℕ) → Progress (Counted S)) → ((s : Counted S) (t : Option (List ℕ)) → s.work ≤ work_at (rest s t)) → s.work ≤ work_at (unless_exit exit s told rest)
exit_mounts None s told rest go = go s told
exit_mounts (Some exit) s told rest go = omega arith

end_mounts : {S : Type 0} (taken : ℕ) (end : spec.End) (s : Counted S) (told : Option (List ℕ)) → s.work ≤ work_at (at_end taken end s told)
end_mounts taken (spec.Rest pending) s told = omega arith
end_mounts taken (spec.Fault fault) s told = omega arith

pub heard_mounts : {S : Type 0} (rules : Rules (Counted S)) → Mounts rules → (taken : ℕ) (end : spec.End) (bodies : List (List ℕ)) (s : Counted S) (told : Option (List ℕ)) → s.work ≤ work_at (each_heard rules taken end bodies s told)
heard_mounts rules mounts taken end [] s told = end_mounts taken end s told
heard_mounts {S} rules mounts taken end (body ∷ bodies) s told =
    let step : Step (Counted S) = rules.step s (event.Message (decoded body)) in
    omega (
      arith,
      mounts.more s (event.Message (decoded body)),
      exit_mounts step.exit step.state (appended told (said step)) (λ s t. each_heard rules taken end bodies s t) (λ s t. heard_mounts rules mounts taken end bodies s t),
    )

-- a step that is broken off
pub step_cut : {S : Type 0} (step : Step (Counted S)) (used : ℕ) (told now : Option (List ℕ)) (rest : Counted S → Option (List ℕ) → Progress (Counted S)) → ((s : Counted S) (t : Option (List ℕ)) → Extends t (told_at (rest s t))) → ((s : Counted S) (t : Option (List ℕ)) → s.work ≤ work_at (rest s t)) → (used ≤ step.state.work) × Begins told now (said step) → IsCut (after_step step told rest) used told now
step_cut step used told now rest go mounts h = record {
  holds = extends_begun told now (said step) h.1;
  front = extends_on _ _ _ (extends_left told now (said step) h.1) (exit_extends step.exit step.state (appended told (said step)) rest go);
  spent = omega (arith, h.0, exit_mounts step.exit step.state (appended told (said step)) rest mounts);
}

-- what a call that is broken off did of a step
abbrev pub Begun : {S : Type 0} → Step (Counted S) → ℕ → Option (List ℕ) → Option (List ℕ) → Type 0
Begun step used told now = (used ≤ step.state.work) × Begins told now (said step)

pub goes_cut : {S : Type 0} (rules : Rules (Counted S)) → Mounts rules → (taken : ℕ) (old new body shown : List ℕ) (s : Counted S) (used : ℕ) (told now : Option (List ℕ)) → spec.frames old ≡ spec.with_body body (spec.frames new) → shown ≡ body → Begun (rules.step s (event.Message (decoded shown))) used told now → IsCut (heard_of rules taken s old told) used told now
goes_cut {S} rules mounts taken old new body shown s used told now e same h =
    let step : Step (Counted S) = rules.step s (event.Message (decoded body)) in
    let h2 : Begun step used told now = subst (λ b. Begun (rules.step s (event.Message (decoded b))) used told now) same h in
    rw e (step_cut step used told now (λ s t. each_heard rules taken (spec.frames new).end (spec.frames new).bodies s t)
    (λ s t. heard_extends rules taken (spec.frames new).end (spec.frames new).bodies s t)
    (λ s t. heard_mounts rules mounts taken (spec.frames new).end (spec.frames new).bodies s t) h2)

-- nothing was written yet
pub cut_before : {S : Type 0} (rules : Rules (Counted S)) → Mounts rules → (taken : ℕ) (bytes : List ℕ) (s : Counted S) (told : Option (List ℕ)) → IsCut (heard_of rules taken s bytes told) s.work told told
cut_before rules mounts taken bytes s told = record {
  holds = extends_none told;
  front = heard_extends rules taken (spec.frames bytes).end (spec.frames bytes).bodies s told;
  spent = heard_mounts rules mounts taken (spec.frames bytes).end (spec.frames bytes).bodies s told;
}

-- from an earlier point of the same bytes
pub drains_from : {S : Type 0} (taken : ℕ) (whole whole' : Progress (Counted S)) (result : Result Drained Halt) (s : Counted S) (pending : List ℕ) (told mid now : Option (List ℕ)) → whole' ≡ whole → Extends told mid → Drains taken whole' result s pending mid now → Drains taken whole result s pending told now
drains_from taken whole whole' (Ok drained.Rest) s pending told mid now e h k = sym e ∙ k
drains_from taken whole whole' (Ok (drained.Exit exit)) s pending told mid now e h k = sym e ∙ k
drains_from taken whole whole' (Ok drained.Fault) s pending told mid now e h k = sym e ∙ k
drains_from taken whole whole' (Err halt) s pending told mid now e h k = record { holds = extends_on _ _ _ h k.holds; front = rw (← e) k.front; spent = rw (← e) k.spent }

-- one message was heard, and others are left
pub next_none : {S : Type 0} (rules : Rules (Counted S)) (taken : ℕ) (whole : Progress (Counted S)) (r : Option Drained) (s : Counted S) (pending : List ℕ) (told now : Option (List ℕ)) → r ≡ None → Goes (heard_of rules taken) taken whole (Ok r) s pending told now → Goes (heard_of rules taken) taken whole (Ok None) s pending told now
next_none rules taken whole None s pending told now e h = h
next_none rules taken whole (Some last) s pending told now e h = absurd (never e) where
  never : Some last ≡ None → ⊥
  never k = cc

pub next_some : {S : Type 0} (rules : Rules (Counted S)) (taken : ℕ) (whole : Progress (Counted S)) (r : Option Drained) (last : Drained) (s : Counted S) (pending : List ℕ) (told now : Option (List ℕ)) → r ≡ Some last → Goes (heard_of rules taken) taken whole (Ok r) s pending told now → Drains taken whole (Ok last) s pending told now
next_some rules taken whole r last s pending told now e h = subst (λ r. Goes (heard_of rules taken) taken whole (Ok r) s pending told now) e h
