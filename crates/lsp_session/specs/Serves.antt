-- What a session is held to.
use Rattle.std.specs.Prelude.{◌≡◌, ℕ, ◌≤◌, Option, Some, Result, Ok, Err, List, [], ◌∷◌, ◌++◌, length}
use Rattle.std.specs.Option.{IsSomeAnd}
use Rattle.base_core.specs.Link.{Poll}
use Rattle.base_core.specs.Sink.{appended}
use Rattle.lsp_session.specs.declared.endings.Ending.{Ending}
use Rattle.base_core.specs.declared.writing.Halt.{Halt}
use Rattle.lsp_session.specs.Rules.{Rules, Counted}
use Rattle.lsp_session.specs.Run.{Progress, played, Outcome, outcome, run_from, run}
use Rattle.lsp_session.specs.Calls.{Extends}
use Rattle.lsp_session.specs.Status.{status_of}

-- the polls of the call bring a run from here to there
pub record Plays {S : Type 0} (rules : Rules S) (limit : ℕ) (start end : Progress S) (old new : Option (List Poll)) : Type 0 where
  pub polls : List Poll
  pub grown : new ≡ appended old polls
  pub plays : played rules limit start polls ≡ end

-- over the polls of the call, the run from what the sink told ends so, in this state, and the sink tells
-- what it then tells
pub record WholeFrom {S : Type 0} (rules : Rules S) (limit : ℕ) (start : S) (end : Ending) (state : S) (told now : Option (List ℕ)) (old new : Option (List Poll)) : Type 0 where
  pub polls : List Poll
  pub grown : new ≡ appended old polls
  pub ran : run_from rules limit start told polls ≡ Some (outcome end state now)

-- the same of a run that is broken off: at least what is told without the last poll, and at most with it, by no
-- more work
pub record FrontFrom {S : Type 0} (rules : Rules (Counted S)) (limit : ℕ) (start : Counted S) (used : ℕ) (told now : Option (List ℕ)) (old new : Option (List Poll)) : Type 0 where
  pub earlier : List Poll
  pub last : Poll
  pub grown : new ≡ appended old (earlier ++ last ∷ [])
  pub held : Outcome (Counted S)
  pub full : Outcome (Counted S)
  pub before : run_from rules limit start told earlier ≡ Some held
  pub ran : run_from rules limit start told (earlier ++ last ∷ []) ≡ Some full
  pub holds : Extends held.told now
  pub front : Extends now full.told
  pub spent : used ≤ full.state.work

-- a session that ends, or is broken off
abbrev pub ServesFrom : {S : Type 0} → Rules (Counted S) → ℕ → Counted S → Result Ending Halt → Counted S → Option (List ℕ) → Option (List ℕ) → Option (List Poll) → Option (List Poll) → Type 0
ServesFrom rules limit start (Ok end) state told now old new = WholeFrom rules limit start end state told now old new
ServesFrom rules limit start (Err halt) state told now old new = FrontFrom rules limit start state.work told now old new

-- the bytes written in this call are exactly those of the run over its polls, which ends so in this state
pub record IsWhole {S : Type 0} (rules : Rules S) (limit : ℕ) (start : S) (end : Ending) (state : S) (told now : Option (List ℕ)) (old new : Option (List Poll)) : Type 0 where
  pub polls : List Poll
  pub grown : new ≡ appended old polls
  pub bytes : List ℕ
  pub wrote : now ≡ appended told bytes
  pub ran : run rules limit start polls ≡ Some (outcome end state (Some bytes))

-- the bytes written in this call are a first part of those of the run over its polls, and hold all of the
-- run without the last poll; and no more work was done than in that run
pub record IsFront {S : Type 0} (rules : Rules (Counted S)) (limit : ℕ) (start : Counted S) (used : ℕ) (told now : Option (List ℕ)) (old new : Option (List Poll)) : Type 0 where
  pub earlier : List Poll
  pub last : List Poll
  pub few : length last ≤ 1
  pub grown : new ≡ appended old (earlier ++ last)
  pub held : List ℕ
  pub more : List ℕ
  pub rest : List ℕ
  pub wrote : now ≡ appended told (held ++ more)
  pub before : IsSomeAnd (run rules limit start earlier) (λ o. o.told ≡ Some held)
  pub ran : IsSomeAnd (run rules limit start (earlier ++ last)) (λ o. (o.told ≡ Some ((held ++ more) ++ rest)) × (used ≤ o.state.work))

-- a session that ends; or is broken off, to a sink that tells
abbrev pub Serves : {S : Type 0} → Rules (Counted S) → ℕ → Counted S → Result Ending Halt → Counted S → Option (List ℕ) → Option (List ℕ) → Option (List Poll) → Option (List Poll) → Type 0
Serves rules limit start (Ok end) state told now old new = IsWhole rules limit start end state told now old new
Serves rules limit start (Err halt) state told now old new = (bytes : List ℕ) → told ≡ Some bytes → IsFront rules limit start state.work told now old new

-- the same by the status
pub record ServesWhole {S : Type 0} (rules : Rules S) (limit : ℕ) (start : S) (status : ℕ) (state : S) (told now : Option (List ℕ)) (old new : Option (List Poll)) : Type 0 where
  pub end : Ending
  pub is : status ≡ status_of end
  pub whole : IsWhole rules limit start end state told now old new
