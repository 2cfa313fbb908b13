-- Messages by which a client leaves.
use Rattle.std.proofs.Common.{◌≡◌, ℕ, ◌↔◌, ◌||◌, Bool, true, false, None, Some, Ok, Err, List, [], ◌∷◌, refl, sym, ◌∙◌, ap, if◌then◌else◌}
use Rattle.std.specs.List.{list_any}
use Rattle.base_core.specs.Link.{Poll}
use Rattle.lsp_types.specs.declared.messages.Call.{Call}
use Rattle.lsp_types.specs.declared.messages.Call.TheVariants.{Initialize, Shutdown}
use Rattle.lsp_types.specs.declared.messages.Note.TheVariants as note
use Rattle.lsp_types.specs.declared.messages.Incoming.TheVariants as incoming
use Rattle.sched_core.specs.declared.events.Exit.TheVariants.{Clean, Early}
use Rattle.lsp_session.specs.declared.endings.Ending.TheVariants as ending
use Rattle.lsp_session.specs.Run.{Outcome}
use Rattle.lsp_session.specs.Status.{status_of}
use Rattle.sched_core.specs.declared.phase.Phase.{Phase}
use Rattle.sched_core.specs.declared.phase.Phase.TheVariants.{Fresh, Running, ShutDown}
use Rattle.doc_check.specs.Check.{Views}
use Rattle.sched_core.specs.Session.{Session}
use Rattle.lsp_session.specs.Rules.{Counted}
use Rattle.lsp_session.specs.Served.{session_run}
use Rattle.lsp_session.specs.Causes.{Message, phase_after_call, phase_after, is_exit, exit_in, exit_of, messages_of, bytes_taken, NoExit, Leaves, AsksAndLeaves, IsWholeSession}
use Rattle.lsp_session.proofs.CauseLemmas.{phase_behind, never_some, exit_go_on}
use Rattle.lsp_session.proofs.EndingLemmas.{endings_have_causes}

-- messages without `exit` make none, whatever the phase
without_exit : (phase : Phase) (messages : List Message) → NoExit messages → exit_of phase messages ≡ None
without_exit phase [] h = refl
without_exit phase (m ∷ messages) h = by (is_exit m) h (λ k. without_exit (phase_after phase m) messages k) where
  by : (b : Bool) → (b || list_any is_exit messages) ≡ false → (NoExit messages → exit_of (phase_after phase m) messages ≡ None) → (if b then Some (exit_in phase) else exit_of (phase_after phase m) messages) ≡ None
  by true h go = absurd (never h) where
    never : true ≡ false → ⊥
    never k = cc
  by false h go = go h

none_without : (phase : Phase) (messages : List Message) → exit_of phase messages ≡ None → NoExit messages
none_without phase [] h = refl
none_without phase (m ∷ messages) h = by (is_exit m) h (λ k. none_without (phase_after phase m) messages k) where
  by : (b : Bool) → (if b then Some (exit_in phase) else exit_of (phase_after phase m) messages) ≡ None → (exit_of (phase_after phase m) messages ≡ None → NoExit messages) → (b || list_any is_exit messages) ≡ false
  by true h go = absurd (never_some h)
  by false h go = go h

-- a session that has begun, and perhaps is shut down
abbrev IsBegun : Phase → Type 0
IsBegun Fresh = ⊥
IsBegun Running = Unit {0}
IsBegun ShutDown = Unit {0}

begun_by : (phase : Phase) (utf8 : Bool) → IsBegun (phase_after_call phase (Initialize utf8))
begun_by Fresh utf8 = tt
begun_by Running utf8 = tt
begun_by ShutDown utf8 = tt

begun_call : (phase : Phase) (call : Call) → IsBegun phase → IsBegun (phase_after_call phase call)
begun_call Fresh call h = absurd h
begun_call Running Shutdown h = tt
begun_call Running call h = tt
begun_call ShutDown call h = tt

begun_after : (phase : Phase) (m : Message) → IsBegun phase → IsBegun (phase_after phase m)
begun_after phase (Ok (incoming.Request id call)) h = begun_call phase call h
begun_after phase m h = h

begun_behind : (phase : Phase) (messages : List Message) → IsBegun phase → IsBegun (phase_behind phase messages)
begun_behind phase [] h = h
begun_behind phase (m ∷ messages) h = begun_behind (phase_after phase m) messages (begun_after phase m h)

shut_by : (phase : Phase) → IsBegun phase → phase_after_call phase Shutdown ≡ ShutDown
shut_by Fresh h = absurd h
shut_by Running h = refl
shut_by ShutDown h = refl

shut_after : (m : Message) → phase_after ShutDown m ≡ ShutDown
shut_after (Ok (incoming.Request id call)) = refl
shut_after m = refl

shut_behind : (messages : List Message) → phase_behind ShutDown messages ≡ ShutDown
shut_behind [] = refl
shut_behind (m ∷ messages) = ap (λ p. phase_behind p messages) (shut_after m) ∙ shut_behind messages

-- a whole session makes a clean exit
leaves_clean : (messages : List Message) → Leaves messages → exit_of ShutDown messages ≡ Some Clean
leaves_clean messages h =
    ap (exit_of ShutDown) h.parts ∙ exit_go_on ShutDown h.before (Ok (incoming.Note note.Exit) ∷ h.after) (without_exit ShutDown h.before h.first)
    ∙ ap (λ p. exit_of p (Ok (incoming.Note note.Exit) ∷ h.after)) (shut_behind h.before)

asks_clean : (phase : Phase) (messages : List Message) → IsBegun phase → AsksAndLeaves messages → exit_of phase messages ≡ Some Clean
asks_clean phase messages begun h =
    ap (exit_of phase) h.parts ∙ exit_go_on phase h.before (Ok (incoming.Request h.id Shutdown) ∷ h.after) (without_exit phase h.before h.first)
    ∙ ap (λ p. exit_of p h.after) (shut_by (phase_behind phase h.before) (begun_behind phase h.before begun)) ∙ leaves_clean h.after h.leaves

pub session_clean : (messages : List Message) → IsWholeSession messages → exit_of Fresh messages ≡ Some Clean
session_clean messages h =
    ap (exit_of Fresh) h.parts ∙ exit_go_on Fresh h.before (Ok (incoming.Request h.id (Initialize h.utf8)) ∷ h.after) (without_exit Fresh h.before h.first)
    ∙ asks_clean (phase_after_call (phase_behind Fresh h.before) (Initialize h.utf8)) h.after (begun_by (phase_behind Fresh h.before) h.utf8) h.asks

-- one message more at the front
or_none : (a b : Bool) → a ≡ false → b ≡ false → (a || b) ≡ false
or_none true b h k = h
or_none false b h k = k

leaves_later : (m : Message) (messages : List Message) → is_exit m ≡ false → Leaves messages → Leaves (m ∷ messages)
leaves_later m messages e h = record { before = m ∷ h.before; after = h.after; parts = ap (λ l. m ∷ l) h.parts; first = or_none (is_exit m) _ e h.first }

asks_later : (m : Message) (messages : List Message) → is_exit m ≡ false → AsksAndLeaves messages → AsksAndLeaves (m ∷ messages)
asks_later m messages e h = record { id = h.id; before = m ∷ h.before; after = h.after; parts = ap (λ l. m ∷ l) h.parts; first = or_none (is_exit m) _ e h.first; leaves = h.leaves }

session_later : (m : Message) (messages : List Message) → is_exit m ≡ false → IsWholeSession messages → IsWholeSession (m ∷ messages)
session_later m messages e h = record { id = h.id; utf8 = h.utf8; before = m ∷ h.before; after = h.after; parts = ap (λ l. m ∷ l) h.parts; first = or_none (is_exit m) _ e h.first; asks = h.asks }

not_early : Some Early ≡ Some Clean → ⊥
not_early e = cc

-- and nothing else does
clean_leaves : (messages : List Message) → exit_of ShutDown messages ≡ Some Clean → Leaves messages
clean_leaves [] e = absurd (never_some (sym e))
clean_leaves (Ok (incoming.Note note.Exit) ∷ messages) e = record { before = []; after = messages; parts = refl; first = refl }
clean_leaves (Ok (incoming.Note told) ∷ messages) e = leaves_later (Ok (incoming.Note told)) messages refl (clean_leaves messages e)
clean_leaves (Ok (incoming.Request id call) ∷ messages) e = leaves_later (Ok (incoming.Request id call)) messages refl (clean_leaves messages e)
clean_leaves (Ok incoming.Reply ∷ messages) e = leaves_later (Ok incoming.Reply) messages refl (clean_leaves messages e)
clean_leaves (Err why ∷ messages) e = leaves_later (Err why) messages refl (clean_leaves messages e)

clean_asks : (messages : List Message) → exit_of Running messages ≡ Some Clean → AsksAndLeaves messages
clean_asks [] e = absurd (never_some (sym e))
clean_asks (Ok (incoming.Note note.Exit) ∷ messages) e = absurd (not_early e)
clean_asks (Ok (incoming.Note told) ∷ messages) e = asks_later (Ok (incoming.Note told)) messages refl (clean_asks messages e)
clean_asks (Ok (incoming.Request id Shutdown) ∷ messages) e = record { id = id; before = []; after = messages; parts = refl; first = refl; leaves = clean_leaves messages e }
clean_asks (Ok (incoming.Request id call) ∷ messages) e = asks_later (Ok (incoming.Request id call)) messages refl (clean_asks messages e)
clean_asks (Ok incoming.Reply ∷ messages) e = asks_later (Ok incoming.Reply) messages refl (clean_asks messages e)
clean_asks (Err why ∷ messages) e = asks_later (Err why) messages refl (clean_asks messages e)

clean_session : (messages : List Message) → exit_of Fresh messages ≡ Some Clean → IsWholeSession messages
clean_session [] e = absurd (never_some (sym e))
clean_session (Ok (incoming.Note note.Exit) ∷ messages) e = absurd (not_early e)
clean_session (Ok (incoming.Note told) ∷ messages) e = session_later (Ok (incoming.Note told)) messages refl (clean_session messages e)
clean_session (Ok (incoming.Request id (Initialize utf8)) ∷ messages) e = record { id = id; utf8 = utf8; before = []; after = messages; parts = refl; first = refl; asks = clean_asks messages e }
clean_session (Ok (incoming.Request id call) ∷ messages) e = session_later (Ok (incoming.Request id call)) messages refl (clean_session messages e)
clean_session (Ok incoming.Reply ∷ messages) e = session_later (Ok incoming.Reply) messages refl (clean_session messages e)
clean_session (Err why ∷ messages) e = session_later (Err why) messages refl (clean_session messages e)

pub clean_exits : (messages : List Message) → (exit_of Fresh messages ≡ Some Clean) ↔ IsWholeSession messages
clean_exits messages = (clean_session messages, session_clean messages)

pub no_exits : (messages : List Message) → (exit_of Fresh messages ≡ None) ↔ NoExit messages
no_exits messages = (none_without Fresh messages, without_exit Fresh messages)

pub whole_sessions_end_clean : (views : Views) (paced : Bool) (limit work : ℕ) (polls : List Poll) (whole : Outcome (Counted Session)) → session_run views paced limit work polls ≡ Some whole → IsWholeSession (messages_of (bytes_taken polls)) → whole.ending ≡ ending.Exit Clean
whole_sessions_end_clean views paced limit work polls whole ran h = (endings_have_causes views paced limit work polls whole ran).clean.1 (session_clean (messages_of (bytes_taken polls)) h)

pub taken_sessions_end_clean : (views : Views) (paced : Bool) (limit work : ℕ) (polls : List Poll) (whole : Outcome (Counted Session)) (status : ℕ) → session_run views paced limit work polls ≡ Some whole → status ≡ status_of whole.ending → IsWholeSession (messages_of (bytes_taken polls)) → status ≡ 0
taken_sessions_end_clean views paced limit work polls whole status ran is h = is ∙ ap status_of (whole_sessions_end_clean views paced limit work polls whole ran h)
