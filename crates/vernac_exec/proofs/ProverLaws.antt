-- What is told of a sentence stands in it, and what a state declares is by sentences before.
use Rattle.std.proofs.Common.{◌≡◌, ℕ, ◌+◌, ◌-◌, ◌^◌, ◌<◌, ◌≤◌, nat_lt, List, [], ◌∷◌, length, fold, map, Bool, true, false, Option, Some, None, Result, Ok, Err, refl, subst, arith, All}
use Rattle.std.specs.Prelude.{if◌then◌else◌, IfSome}
use Rattle.std.specs.Str.{IsUtf8}
use Rattle.std.proofs.lemmas.Str.{IsCharBoundary-start, IsCharBoundary-end}
use Rattle.std.proofs.lemmas.List.Elements.{All-nil, All-cons, All-push, All-map}
use Rattle.base_core.specs.declared.refusals.Place.{Place}
use Rattle.base_core.specs.declared.refusals.Place.TheVariants.{Whole, Part}
use Rattle.base_core.specs.declared.refusals.Stop.{Stop}
use Rattle.base_core.specs.declared.refusals.Stop.TheVariants.{Refused, Out, NoMem}
use Rattle.prover_iface.specs.declared.diagnostics.RelDiag.{RelDiag}
use Rattle.prover_iface.specs.declared.outline.ItemKind.{ItemKind}
use Rattle.prover_iface.specs.declared.outline.ItemKind.TheVariants as item_kind
use Rattle.prover_iface.specs.Sentences.{Sentence}
use Rattle.prover_iface.specs.Laws.{IsDiag, IsPast}
use Rattle.base_core.specs.declared.refusal_codes.TheConstants.{GOAL_ADMITTED, THEOREM_ADMITTED}
use Rattle.bullet_focus.specs.FocusState.{FocusState}
use Rattle.proof_state.specs.Proof.{Proof}
use Rattle.cic_rules.specs.declared.env.Slot.{Slot}
use Rattle.cic_rules.specs.Fuel.{NESTING_LIMIT}
use Rattle.vernac_exec.specs.declared.deed.Deed.{Deed}
use Rattle.vernac_exec.specs.declared.deed.Deed.TheVariants.{Declares, Answers, Begins, GoesOn, Passes, Drops}
use Rattle.vernac_exec.specs.declared.state.Row.{Row}
use Rattle.vernac_exec.specs.declared.state.State.{State}
use Rattle.vernac_exec.specs.declared.state.OpenProof.{OpenProof}
use Rattle.vernac_exec.specs.declared.reading.Reading.{Reading}
use Rattle.vernac_exec.specs.Diagnostics.{limit_code, error_at, answer_at, told_stop, note_at, told_entry, told}
use Rattle.vernac_exec.specs.Readings.{is_end_of, reading}
use Rattle.vernac_exec.specs.States.{over, raised, passed, opened_by, first_of, next_row, declared, with_progress, done, entered_as_admitted, behind}
use Rattle.vernac_exec.specs.Exec.{whole_run, after}
use Rattle.vernac_exec.specs.Outline.{item}
use Rattle.vernac_exec.specs.ProverLaws.{DiagsArePlaced, RowsArePast, ProofsArePast}
use Rattle.vernac_exec.proofs.StandsLaws.{IsAt, StopsAt}
use Rattle.vernac_exec.proofs.StandsOfSentences.{IsInside, sentence_stands}

module _ (text : List ℕ) (utf8 : IsUtf8 text) where
  one : (diag : RelDiag) → IsDiag text diag → All (IsDiag text) (diag ∷ [])
  one diag h = All-cons (IsDiag text) diag [] h (All-nil (IsDiag text))

  error_placed : (number : ℕ) (place : Place) → IsAt (IsInside text) place → IsDiag text (error_at text number place)
  error_placed number Whole at =
      record { severe = omega arith; mild = omega arith; ordered = omega arith; from_cut = IsCharBoundary-start text utf8; to_cut = IsCharBoundary-end text }
  error_placed number (Part from to) at =
      record { severe = omega arith; mild = omega arith; ordered = at.ordered; from_cut = at.from_cut; to_cut = at.to_cut }

  answer_placed : (answer : List ℕ) → IsDiag text (answer_at text answer)
  answer_placed answer =
      record { severe = omega arith; mild = omega arith; ordered = omega arith; from_cut = IsCharBoundary-start text utf8; to_cut = IsCharBoundary-end text }

  stop_placed : (stop : Stop) → StopsAt (IsInside text) stop → All (IsDiag text) (told_stop text stop)
  stop_placed (Refused r) at = one (error_at text r.code r.place) (error_placed r.code r.place at)
  stop_placed (Out limit) at = one (error_at text (limit_code limit) Whole) (error_placed (limit_code limit) Whole tt)
  stop_placed NoMem at = All-nil (IsDiag text)

  severe_by : (b : Bool) → 1 ≤ (if b then 1 else 2)
  severe_by true = omega arith
  severe_by false = omega arith

  mild_by : (b : Bool) → (if b then 1 else 2) ≤ 3
  mild_by true = omega arith
  mild_by false = omega arith

  note_placed : (number : ℕ) → IsDiag text (note_at text number)
  note_placed number = record {
    severe = severe_by (nat_lt number GOAL_ADMITTED);
    mild = mild_by (nat_lt number GOAL_ADMITTED);
    ordered = omega arith;
    from_cut = IsCharBoundary-start text utf8;
    to_cut = IsCharBoundary-end text;
  }

  notes_placed : (numbers : List ℕ) → All (IsDiag text) (map (note_at text) numbers)
  notes_placed [] = All-nil (IsDiag text)
  notes_placed (n ∷ ns) = All-cons (IsDiag text) (note_at text n) (map (note_at text) ns) (note_placed n) (notes_placed ns)

  entry_placed : (kind : ItemKind) → All (IsDiag text) (told_entry text kind)
  entry_placed item_kind.Admitted = one (note_at text THEOREM_ADMITTED) (note_placed THEOREM_ADMITTED)
  entry_placed item_kind.Axiom = All-nil (IsDiag text)
  entry_placed item_kind.Definition = All-nil (IsDiag text)
  entry_placed item_kind.Inductive = All-nil (IsDiag text)
  entry_placed item_kind.Theorem = All-nil (IsDiag text)

  told_placed : (answer : Result Deed Stop) → ((stop : Stop) → answer ≡ Err stop → StopsAt (IsInside text) stop) → All (IsDiag text) (told text answer)
  told_placed (Ok (Declares kind env)) at = entry_placed kind
  told_placed (Ok (Answers answer)) at = one (answer_at text answer) (answer_placed answer)
  told_placed (Ok (Begins theorem proof)) at = All-nil (IsDiag text)
  told_placed (Ok (GoesOn proof focus numbers)) at = notes_placed numbers
  told_placed (Ok Passes) at = All-nil (IsDiag text)
  told_placed (Ok Drops) at = All-nil (IsDiag text)
  told_placed (Err stop) at = stop_placed stop (at stop refl)

pub diags_are_placed : DiagsArePlaced
diags_are_placed m s utf8 fit short =
    told_placed s.text utf8 (whole_run m s).answer ((sentence_stands m.env NESTING_LIMIT m.opened s.kind s.text utf8 fit short).stands _)

-- a row is by one of so many sentences
record IsRowPast (count : ℕ) (row : Row) : Type 0 where
  ordered : row.first ≤ row.last
  past : row.last < count

-- the proof under way was begun by one of so many sentences, and by one that was counted
abbrev IsOpenPast : ℕ → ℕ → Option OpenProof → Type 0
IsOpenPast n count None = Unit {0}
IsOpenPast n count (Some o) = (o.first < n) × (o.first ≤ count)

-- behind so many sentences no more are counted; each row is by one of them, and so is the beginning of the proof under way
record IsAfter (n : ℕ) (m : State) : Type 0 where
  few : m.count ≤ n
  limit : m.count ≤ 2 ^ 32 - 1
  past : All (IsRowPast n) m.outline
  opened : IsOpenPast n m.count m.opened

later : (n : ℕ) (rows : List Row) → All (IsRowPast n) rows → All (IsRowPast (n + 1)) rows
later n rows h = λ k d lt. let p = h k d lt in record { ordered = p.ordered; past = omega (arith, p.past) }

still_open : (n count : ℕ) (opened : Option OpenProof) → count ≤ 2 ^ 32 - 1 → IsOpenPast n count opened → IsOpenPast (n + 1) (raised count) opened
still_open n count None few h = tt
still_open n count (Some o) few h = (omega (arith, h.0), omega (arith, h.1, few))

open_on : (n count : ℕ) (opened : Option OpenProof) (proof : Proof) (focus : FocusState) → count ≤ 2 ^ 32 - 1 → IsOpenPast n count opened →
    IsOpenPast (n + 1) (raised count) (with_progress opened proof focus)
open_on n count None proof focus few h = tt
open_on n count (Some o) proof focus few h = (omega (arith, h.0), omega (arith, h.1, few))

-- a row begins at its sentence, or before it
first_before : (n count : ℕ) (opened : Option OpenProof) → IsOpenPast n count opened → first_of opened count ≤ count
first_before n count None h = omega arith
first_before n count (Some o) h = h.1

passed_after : (n : ℕ) (m : State) → IsAfter n m → IsAfter (n + 1) (passed m)
passed_after n m h = record {
  few = omega (arith, h.few);
  limit = omega (arith, h.limit);
  past = later n m.outline h.past;
  opened = still_open n m.count m.opened h.limit h.opened;
}

declared_after : (n : ℕ) (m : State) (kind : ItemKind) (env : List Slot) → IsAfter n m → IsAfter (n + 1) (declared m kind env)
declared_after n m kind env h = record {
  few = omega (arith, h.few);
  limit = omega (arith, h.limit);
  past = All-push (IsRowPast (n + 1)) m.outline (next_row m kind) (later n m.outline h.past)
      (record { ordered = first_before n m.count m.opened h.opened; past = omega (arith, h.few) });
  opened = tt;
}

done_after : (n : ℕ) (m : State) (deed : Deed) → IsAfter n m → IsAfter (n + 1) (done m deed)
done_after n m (Declares kind env) h = declared_after n m kind env h
done_after n m (Answers text) h = passed_after n m h
done_after n m (Begins theorem proof) h = record {
  few = omega (arith, h.few);
  limit = omega (arith, h.limit);
  past = later n m.outline h.past;
  opened = (omega (arith, h.few), omega (arith, h.limit));
}
done_after n m (GoesOn proof focus told) h = record {
  few = omega (arith, h.few);
  limit = omega (arith, h.limit);
  past = later n m.outline h.past;
  opened = open_on n m.count m.opened proof focus h.limit h.opened;
}
done_after n m Passes h = passed_after n m h
done_after n m Drops h = record { few = omega (arith, h.few); limit = omega (arith, h.limit); past = later n m.outline h.past; opened = tt }

admitted_after : (n : ℕ) (m : State) (opened : Option OpenProof) → IsAfter n m → IsAfter (n + 1) (entered_as_admitted m opened)
admitted_after n m None h = passed_after n m h
admitted_after n m (Some o) h = declared_after n m item_kind.Admitted o.theorem.admitted h

refused_after : (n : ℕ) (m : State) (b : Bool) → IsAfter n m → IsAfter (n + 1) (if b then entered_as_admitted m m.opened else passed m)
refused_after n m true h = admitted_after n m m.opened h
refused_after n m false h = passed_after n m h

behind_after : (n : ℕ) (m : State) (r : Result Reading Stop) (answer : Result Deed Stop) → IsAfter n m → IsAfter (n + 1) (behind m r answer)
behind_after n m r (Ok deed) h = done_after n m deed h
behind_after n m r (Err stop) h = refused_after n m (is_end_of r) h

fold_after : (sentences : List Sentence) (n k : ℕ) (m : State) → n + length sentences ≡ k → IsAfter n m → IsAfter k (fold after m sentences)
fold_after [] n k m e h = subst (λ j. IsAfter j m) (omega arith) h
fold_after (s ∷ sentences) n k m e h =
    fold_after sentences (n + 1) k (after m s) (omega arith) (behind_after n m (reading s.kind s.text) (whole_run m s).answer h)

shown : (n : ℕ) (env : List Slot) (rows : List Row) → All (IsRowPast n) rows → All (IsPast n) (map (item env) rows)
shown n env rows h = All-map (IsPast n) (item env) rows (λ k d lt. let p = h k d lt in record { ordered = p.ordered; past = p.past })

after_all : (env : List Slot) (sentences : List Sentence) → IsAfter (length sentences) (fold after (over env) sentences)
after_all env sentences =
    fold_after sentences 0 (length sentences) (over env) (omega arith)
    (record { few = omega arith; limit = omega arith; past = All-nil (IsRowPast 0); opened = tt })

pub rows_are_past : RowsArePast
rows_are_past env sentences =
    let m = fold after (over env) sentences in shown (length sentences) m.env m.outline (after_all env sentences).past

open_past : (n count : ℕ) (opened : Option OpenProof) → IsOpenPast n count opened → IfSome (opened_by opened) (λ first. first < n)
open_past n count None h = tt
open_past n count (Some o) h = h.0

pub proofs_are_past : ProofsArePast
proofs_are_past env sentences =
    let m = fold after (over env) sentences in open_past (length sentences) m.count m.opened (after_all env sentences).opened
