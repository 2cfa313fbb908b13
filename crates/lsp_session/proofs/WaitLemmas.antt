-- Where a session that isn't paced asks the link to wait no request waits, and each that waited was answered.
use Rattle.std.proofs.Common.{◌≡◌, ℕ, true, false, IsSomeAnd, zero, suc, ◌<◌, ◌⊎◌, inl, inr, ⊎_elim, Option, None, Some, List, [], ◌∷◌, ◌++◌, length, get_or, append_assoc, refl, sym, ◌∙◌, ap, subst, arith}
use Rattle.std.specs.Prelude.{All, Contains}
use Rattle.std.specs.List.{flat_map}
use Rattle.std.proofs.lemmas.List.Elements.{All-contains, All-contains_itself}
use Rattle.base_core.specs.Link.{Poll}
use Rattle.base_core.specs.Sink.{appended}
use Rattle.base_core.proofs.Begun.{appended-appended, appended-nil}
use Rattle.rpc_frames.specs.Frames.{framed}
use Rattle.doc_check.specs.Check.{Views}
use Rattle.sched_core.specs.declared.events.Event.{Event}
use Rattle.sched_core.specs.Step.{Step}
use Rattle.sched_core.specs.Session.{Session}
use Rattle.sched_core.specs.declared.waiting.Waiting.{Waiting}
use Rattle.sched_core.specs.Plain.{step}
use Rattle.sched_core.specs.Pending.{AllWaitForOpen}
use Rattle.sched_core.specs.Answered.{IsAnswered, WaitsOrIsAnswered}
use Rattle.sched_core.proofs.PendingLemmas.{each_of}
use Rattle.sched_core.proofs.AnsweredLemmas.{steps_forget_none}
use Rattle.sched_core.proofs.PendingLaws.{steps_keep_waiting, none_waits_in_vain}
use Rattle.lsp_session.specs.Rules.{Rules, Counted, counted, counting, said}
use Rattle.lsp_session.specs.Run.{Progress, Going, play, played, stopped, Outcome}
use Rattle.lsp_session.specs.Served.{rules, begun, session_run, IsServed, IsFrontOf}
use Rattle.lsp_session.specs.Calls.{told_at}
use Rattle.lsp_session.specs.Waits.{behind, NoneWaits, WaitsForNobody, AnsweredSince, CallWaitsForNobody}
use Rattle.lsp_session.proofs.Along.{HoldsAt, played_holds, played_parts, at_wait, holds_there}

-- it isn't paced, and each request that waits does so for an open document
record IsUnpaced (s : Counted Session) (told : Option (List ℕ)) : Type 0 where
  pub unpaced : s.plain.paced ≡ false
  pub open_ones : AllWaitForOpen s.plain

unpaced_kept : (views : Views) (s : Counted Session) (told : Option (List ℕ)) (e : Event) → IsUnpaced s told → IsUnpaced ((counting (rules views)).step s e).state (appended told (said ((counting (rules views)).step s e)))
unpaced_kept views s told e h =
    let kept = steps_keep_waiting views s.plain e h.open_ones in
    record { unpaced = kept.paced ∙ h.unpaced; open_ones = kept.waits }

pub sessions_wait_for_nobody : (views : Views) (limit work : ℕ) (polls : List Poll) (whole : Outcome (Counted Session)) → session_run views false limit work polls ≡ Some whole → WaitsForNobody views limit work polls
sessions_wait_for_nobody views limit work polls whole ran before after one parts may =
    let r : Rules (Counted Session) = counting (rules views) in
    let start : Progress (Counted Session) = Going (begun false work) [] 0 (Some []) in
    let there : Progress (Counted Session) = played r limit start before in
    let on : stopped limit (played r limit (play r limit there one) after) ≡ Some whole =
    sym (ap (stopped limit) (ap (played r limit start) parts ∙ played_parts r limit start before (one ∷ after))) ∙ ran in
    let at = at_wait r limit there one after whole may on in
    let holds : IsUnpaced at.state at.told = holds_there r IsUnpaced there at (played_holds r IsUnpaced (unpaced_kept views) limit before start (record { unpaced = refl; open_ones = refl })) in
    record {
      state = at.state.plain;
      used = at.state.work;
      pending = at.pending;
      taken = at.taken;
      told = at.told;
      there = at.is;
      none = none_waits_in_vain at.state.plain holds.open_ones holds.unpaced at.waits;
    }

-- ---- no request is forgotten

-- a body stands framed among bytes
record IsPiece (bytes body : List ℕ) : Type 0 where
  pub before : List ℕ
  pub after : List ℕ
  pub parts : bytes ≡ before ++ (framed body ++ after)

piece_of : (bodies : List (List ℕ)) (body : List ℕ) → Contains bodies body → IsPiece (flat_map framed bodies) body
piece_of [] body h = absurd (omega (arith, h.1))
piece_of (first ∷ rest) body h = by (piece_of rest body) h.0 h.1 h.2 where
  by : (Contains rest body → IsPiece (flat_map framed rest) body) → (k : ℕ) → k < length (first ∷ rest) → get_or (first ∷ rest) k body ≡ body → IsPiece (framed first ++ flat_map framed rest) body
  by later zero within is = record { before = []; after = flat_map framed rest; parts = ap (λ b. framed b ++ flat_map framed rest) is }
  by later (suc k) within is =
      let piece = later (k, omega (arith, within), is) in
      record { before = framed first ++ piece.before; after = piece.after; parts = ap (λ bs. framed first ++ bs) piece.parts ∙ sym (append_assoc (framed first) piece.before (framed body ++ piece.after)) }

-- since the sink told this, a request waits, or it was answered
record IsKnown (w : Waiting) (old : Option (List ℕ)) (s : Counted Session) (told : Option (List ℕ)) : Type 0 where
  pub more : List ℕ
  pub grown : told ≡ appended old more
  pub either : Contains s.plain.waiting w ⊎ AnsweredSince w old told

grown_more : (old told : Option (List ℕ)) (more bytes : List ℕ) → told ≡ appended old more → appended told bytes ≡ appended old (more ++ bytes)
grown_more old told more bytes e = ap (λ t. appended t bytes) e ∙ appended-appended old more bytes

answered_then : (w : Waiting) (old told : Option (List ℕ)) (bytes : List ℕ) → AnsweredSince w old told → AnsweredSince w old (appended told bytes)
answered_then w old told bytes h = record {
  body = h.body;
  before = h.before;
  after = h.after ++ bytes;
  grown = grown_more old told (h.before ++ (framed h.body ++ h.after)) bytes h.grown ∙ ap (appended old) (append_assoc h.before (framed h.body ++ h.after) bytes ∙ ap (λ bs. h.before ++ bs) (append_assoc (framed h.body) h.after bytes));
  answers = h.answers;
}

answered_now : (w : Waiting) (old told : Option (List ℕ)) (more : List ℕ) (bodies : List (List ℕ)) → told ≡ appended old more → IsAnswered bodies w → AnsweredSince w old (appended told (flat_map framed bodies))
answered_now w old told more bodies e h =
    let piece = piece_of bodies h.body h.listed in
    record {
      body = h.body;
      before = more ++ piece.before;
      after = piece.after;
      grown = grown_more old told more (flat_map framed bodies) e ∙ ap (appended old) (ap (λ bs. more ++ bs) piece.parts ∙ sym (append_assoc more piece.before (framed h.body ++ piece.after)));
      answers = h.answers;
    }

known_kept : (views : Views) (w : Waiting) (old : Option (List ℕ)) (s : Counted Session) (told : Option (List ℕ)) (e : Event) → IsKnown w old s told → IsKnown w old ((counting (rules views)).step s e).state (appended told (said ((counting (rules views)).step s e)))
known_kept views w old s told e h =
    let made : Step Session = step views s.plain e in
    record {
      more = h.more ++ said made;
      grown = grown_more old told h.more (said made) h.grown;
      either = ⊎_elim
          (λ here. ⊎_elim (λ still. inl still) (λ answered. inr (answered_now w old told h.more made.bodies h.grown answered))
          (All-contains (WaitsOrIsAnswered made) s.plain.waiting w (steps_forget_none views s.plain e) here))
          (λ before. inr (answered_then w old told (said made) before)) h.either;
    }

pub sessions_forget_none : (views : Views) (limit : ℕ) (polls : List Poll) (old new : Counted Session) (pending rest : List ℕ) (taken later : ℕ) (told now : Option (List ℕ)) → played (counting (rules views)) limit (Going old pending taken told) polls ≡ Going new rest later now → All (λ w. Contains new.plain.waiting w ⊎ AnsweredSince w told now) old.plain.waiting
sessions_forget_none views limit polls old new pending rest taken later told now e =
    each_of {R = λ w. Contains new.plain.waiting w ⊎ AnsweredSince w told now} old.plain.waiting
    (λ w here. (known w (subst (HoldsAt (IsKnown w told)) e (played_holds (counting (rules views)) (IsKnown w told) (known_kept views w told) limit polls (Going old pending taken told) (begins w here)))).either)
    (All-contains_itself old.plain.waiting) where
      begins : (w : Waiting) → Contains old.plain.waiting w → IsKnown w told old told
      begins w here = record { more = []; grown = sym (appended-nil told); either = inl here }

      known : (w : Waiting) → IsKnown w told new now → IsKnown w told new now
      known w h = h

none_in : {P : Type 0} (waiting : List Waiting) (w : Waiting) → waiting ≡ [] → Contains waiting w → P
none_in waiting w e h = absurd (omega (arith, h.1, ap length e))

pub sessions_answer_first : (views : Views) (limit work : ℕ) (first more after : List Poll) (one : Poll) (whole : Outcome (Counted Session)) (state : Counted Session) (pending : List ℕ) (taken : ℕ) (told : Option (List ℕ)) → session_run views false limit work ((first ++ more) ++ one ∷ after) ≡ Some whole → one.waits ≡ true → behind views limit work first ≡ Going state pending taken told → All (λ w. AnsweredSince w told (told_at (behind views limit work (first ++ more)))) state.plain.waiting
sessions_answer_first views limit work first more after one whole state pending taken told ran may here =
    let r : Rules (Counted Session) = counting (rules views) in
    let start : Progress (Counted Session) = Going (begun false work) [] 0 (Some []) in
    let at : NoneWaits views limit work (first ++ more) = sessions_wait_for_nobody views limit work ((first ++ more) ++ one ∷ after) whole ran (first ++ more) after one refl may in
    let on : played r limit (Going state pending taken told) more ≡ Going (counted at.state at.used) at.pending at.taken at.told =
    ap (λ p. played r limit p more) (sym here) ∙ sym (played_parts r limit start first more) ∙ at.there in
    each_of {R = λ w. AnsweredSince w told (told_at (behind views limit work (first ++ more)))} state.plain.waiting
    (λ w either. ⊎_elim (λ still. none_in at.state.waiting w at.none still) (λ answered. subst (AnsweredSince w told) (sym (ap told_at at.there)) answered) either)
    (sessions_forget_none views limit more state (counted at.state at.used) pending at.pending taken at.taken told at.told on)

-- ---- over a link and a sink

pub served_sessions_wait : (views : Views) (limit status before after : ℕ) (told now : Option (List ℕ)) (old new : Option (List Poll)) → IsServed views false limit status before after told now old new → CallWaitsForNobody views limit before old new
served_sessions_wait views limit status before after told now old new h =
    let whole = h.whole.whole in
    record { polls = whole.polls; grown = whole.grown; waits = sessions_wait_for_nobody views limit before whole.polls _ whole.ran }

pub broken_sessions_wait : (views : Views) (limit before after : ℕ) (told now : Option (List ℕ)) (old new : Option (List Poll)) → IsFrontOf views false limit before after told now old new → CallWaitsForNobody views limit before old new
broken_sessions_wait views limit before after told now old new h =
    record { polls = h.earlier ++ h.last; grown = h.grown; waits = by (session_run views false limit before (h.earlier ++ h.last)) _ refl h.ran } where
      by : (found : Option (Outcome (Counted Session))) (P : Outcome (Counted Session) → Type 0) → session_run views false limit before (h.earlier ++ h.last) ≡ found → IsSomeAnd found P → WaitsForNobody views limit before (h.earlier ++ h.last)
      by None P e k = absurd k
      by (Some whole) P e k = sessions_wait_for_nobody views limit before (h.earlier ++ h.last) whole e
