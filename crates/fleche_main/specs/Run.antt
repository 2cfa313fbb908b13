-- What a run is held to.
use Rattle.std.specs.Prelude.{◌≡◌, ◌≢◌, ℕ, Bool, Option, Result, Err, List, [], ◌∷◌, Contains}
use Rattle.std.specs.List.{list_any}
use Rattle.std.specs.Str.{bytes_eq}
use Rattle.base_core.specs.declared.limits.TheConstants.{SESSION_LIMIT}
use Rattle.base_core.specs.Link.{Poll}
use Rattle.cic_prover.specs.Exec.{means}
use Rattle.lsp_session.specs.Status.{IsStatus as IsSessionStatus}
use Rattle.lsp_session.specs.Served.{SessionServes}
use Rattle.lsp_session.specs.Causes.{HasCauses}
use Rattle.base_core.specs.declared.writing.Halt.{Halt}
use Rattle.base_core.specs.declared.writing.Halt.TheVariants.{NoMem}
use Rattle.batch_check.specs.declared.endings.Ending.{Ending}
use Rattle.batch_check.specs.Status.{IsStatus, result_status}
use Rattle.fleche_main.specs.Words.{Form, NoForm, Documents, Generated, Session}

-- a session, by its status: what was written is what the plain session's run over its polls writes, by that work, and
-- the status comes exactly where the polls brought its cause; or what was written is a first part of that, which
-- holds all that the run without the last poll writes
pub record IsSession (paced : Bool) (status before after : ℕ) (told now : Option (List ℕ)) (old new : Option (List Poll)) : Type 0 where
  pub serves : SessionServes means paced SESSION_LIMIT status before after told now old new
  pub causes : status ≢ 4 → status ≢ 5 → HasCauses SESSION_LIMIT status old new

-- whether an observer of this title is wanted
abbrev pub is_wanted : List (List ℕ) → List ℕ → Bool
is_wanted names title = list_any (bytes_eq title) names

-- memory ran out before a file was read: nothing was written, and observers are as they were
pub record IsUnbegun {W : Type 0} (end : Result Ending Halt) (old new : Option (List ℕ)) (watch watched : W) : Type 0 where
  pub halts : end ≡ Err NoMem
  pub wrote : new ≡ old
  pub shown : watched ≡ watch

-- an end that this status tells
pub record ByStatus (status : ℕ) (Fact : Result Ending Halt → Type 0) : Type 0 where
  pub end : Result Ending Halt
  pub status_is : status ≡ result_status end
  pub holds : Fact end

-- which statuses come with which form
abbrev pub HasStatus : Form → ℕ → Type 0
HasStatus NoForm status = status ≡ 2
HasStatus (Documents asked) status = IsStatus status
HasStatus (Generated count) status = Contains (0 ∷ 4 ∷ 5 ∷ []) status
HasStatus (Session paced) status = IsSessionStatus status
