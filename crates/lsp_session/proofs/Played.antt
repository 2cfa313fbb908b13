-- The polls of a call, one after another.
use Rattle.std.proofs.Common.{◌≡◌, ℕ, ◌<◌, inl, inr, true, nat_lt, Option, None, Some, List, [], ◌∷◌, ◌++◌, refl, sym, ◌∙◌, ap, arith, if◌then◌else◌}
use Rattle.std.proofs.lemmas.Bool.Decides.{nat_tests}
use Rattle.base_core.specs.Link.{Poll, polled}
use Rattle.base_core.specs.Sink.{appended}
use Rattle.base_core.proofs.Begun.{appended-appended, appended-nil}
use Rattle.lsp_session.specs.declared.endings.Ending.{Ending}
use Rattle.lsp_session.specs.declared.endings.Ending.TheVariants as ending
use Rattle.lsp_session.specs.Rules.{Rules, Counted}
use Rattle.lsp_session.specs.Run.{Progress, Going, Gone, Strange, play, played, stopped, Outcome, outcome}
use Rattle.lsp_session.specs.Calls.{IsCut, IsRun, OnePoll, IsBroken, Fails}
use Rattle.lsp_session.specs.Serves.{Plays, WholeFrom, FrontFrom}

-- no poll leads nowhere
pub plays_none : {S : Type 0} (rules : Rules S) (limit : ℕ) (start : S) (bytes : List ℕ) (told : Option (List ℕ)) (old : Option (List Poll)) → bytes ≡ [] → Plays rules limit (Going start [] 0 told) (Going start bytes 0 told) old old
plays_none rules limit start bytes told old e = record { polls = []; grown = sym (appended-nil old); plays = ap (λ b. Going start b 0 told) (sym e) }

played_next : {S : Type 0} (rules : Rules S) (limit : ℕ) (start : Progress S) (polls : List Poll) (one : Poll) → played rules limit start (polls ++ one ∷ []) ≡ play rules limit (played rules limit start polls) one
played_next rules limit start [] one = refl
played_next rules limit start (first ∷ polls) one = played_next rules limit (play rules limit start first) polls one

-- one poll further
pub plays_next : {S : Type 0} (rules : Rules S) (limit : ℕ) (start mid end : Progress S) (old now new : Option (List Poll)) → Plays rules limit start mid old now → OnePoll rules limit mid end now new → Plays rules limit start end old new
plays_next rules limit start mid end old now new h k = record {
  polls = h.polls ++ k.one ∷ [];
  grown = k.grown ∙ ap (λ p. polled p k.one) h.grown ∙ appended-appended old h.polls (k.one ∷ []);
  plays = played_next rules limit start h.polls k.one ∙ ap (λ p. play rules limit p k.one) h.plays ∙ k.plays;
}

-- the run ended at the last poll
pub whole_gone : {S : Type 0} (rules : Rules S) (limit : ℕ) (first state : S) (end : Ending) (told now : Option (List ℕ)) (old new : Option (List Poll)) → Plays rules limit (Going first [] 0 told) (Gone end state now) old new → WholeFrom rules limit first end state told now old new
whole_gone rules limit first state end told now old new h = record { polls = h.polls; grown = h.grown; ran = ap (stopped limit) h.plays }

stopped_on : {S : Type 0} (limit : ℕ) (state : S) (pending : List ℕ) (taken : ℕ) (told : Option (List ℕ)) → taken < limit → stopped limit (Going state pending taken told) ≡ Some (outcome ending.LinkFailed state told)
stopped_on limit state pending taken told few =
    let below : nat_lt taken limit ≡ true = grind (arith, nat_tests) in
    rw below refl

abbrev lost_at : {S : Type 0} → Progress S → Option (Outcome S)
lost_at (Going state pending taken told) = Some (outcome ending.LinkFailed state told)
lost_at (Gone end state told) = None
lost_at Strange = None

-- a poll failed, whether or not it was told
pub whole_failed : {S : Type 0} (rules : Rules S) (limit : ℕ) (first state state' : S) (pending pending' : List ℕ) (taken taken' : ℕ) (told mid now : Option (List ℕ)) (old here new : Option (List Poll)) → taken < limit → Plays rules limit (Going first [] 0 told) (Going state pending taken mid) old here → Fails rules limit (Going state pending taken mid) state' now here new → Going state pending taken mid ≡ Going state' pending' taken' now → WholeFrom rules limit first ending.LinkFailed state' told now old new
whole_failed rules limit first state state' pending pending' taken taken' told mid now old here new few h fails same = by fails where
  by : Fails rules limit (Going state pending taken mid) state' now here new → WholeFrom rules limit first ending.LinkFailed state' told now old new
  by (inl e) = record { polls = h.polls; grown = e ∙ h.grown; ran = ap (stopped limit) h.plays ∙ stopped_on limit state pending taken mid few ∙ ap lost_at same }
  by (inr k) = whole_gone rules limit first state' ending.LinkFailed told now old new (plays_next rules limit (Going first [] 0 told) (Going state pending taken mid) (Gone ending.LinkFailed state' now) old here new h k)

-- what the last poll brought was broken off
pub front_broken : {S : Type 0} (rules : Rules (Counted S)) (limit : ℕ) (first state : Counted S) (pending : List ℕ) (taken used : ℕ) (told mid now : Option (List ℕ)) (old here new : Option (List Poll)) → taken < limit → Plays rules limit (Going first [] 0 told) (Going state pending taken mid) old here → IsBroken rules limit (Going state pending taken mid) used mid now here new → FrontFrom rules limit first used told now old new
front_broken {S = S} rules limit first state pending taken used told mid now old here new few h b = by b.whole b.is_run b.cut b.poll.plays where
  grown : new ≡ appended old (h.polls ++ b.poll.one ∷ [])
  grown = b.poll.grown ∙ ap (λ p. polled p b.poll.one) h.grown ∙ appended-appended old h.polls (b.poll.one ∷ [])

  plays : played rules limit (Going first [] 0 told) (h.polls ++ b.poll.one ∷ []) ≡ play rules limit (Going state pending taken mid) b.poll.one
  plays = played_next rules limit (Going first [] 0 told) h.polls b.poll.one ∙ ap (λ p. play rules limit p b.poll.one) h.plays

  by : (p : Progress (Counted S)) → IsRun p → IsCut p used mid now → play rules limit (Going state pending taken mid) b.poll.one ≡ p → FrontFrom rules limit first used told now old new
  by (Going s pending' taken' w) r cut e = record {
    earlier = h.polls;
    last = b.poll.one;
    grown = grown;
    held = outcome ending.LinkFailed state mid;
    full = outcome (if nat_lt taken' limit then ending.LinkFailed else ending.TakenLimit) s w;
    before = ap (stopped limit) h.plays ∙ stopped_on limit state pending taken mid few;
    ran = ap (stopped limit) (plays ∙ e);
    holds = cut.holds;
    front = cut.front;
    spent = cut.spent;
  }
  by (Gone end s w) r cut e = record {
    earlier = h.polls;
    last = b.poll.one;
    grown = grown;
    held = outcome ending.LinkFailed state mid;
    full = outcome end s w;
    before = ap (stopped limit) h.plays ∙ stopped_on limit state pending taken mid few;
    ran = ap (stopped limit) (plays ∙ e);
    holds = cut.holds;
    front = cut.front;
    spent = cut.spent;
  }
  by Strange r cut e = absurd r
