-- How a scan of a header part goes on.
use Rattle.std.proofs.Common.{◌≡◌, ℕ, ◌+◌, ◌-◌, ◌<◌, ◌≤◌, suc, nat_lt, Bool, true, false, cond, List, [], ◌∷◌, ◌++◌, length, take, drop, refl, sym, ◌∙◌, ap, subst, append_assoc, append-nil, arith, length-drop}
use Rattle.std.specs.List.{list_all, prefix_len}
use Rattle.std.proofs.Math.Seq.{take-add}
use Rattle.std.proofs.lemmas.Bool.{and_from, lt-ltb, le-ltb}
use Rattle.std.proofs.lemmas.List.{drop-drop, take-append-drop, length-take-le}
use Rattle.std.proofs.lemmas.List.Folds.{list_all-append}
use Rattle.std.proofs.lemmas.List.Sums.{prefix_len-le-length}
use Rattle.rpc_frames.specs.declared.faults.FrameFault.TheVariants.{BadHeader}
use Rattle.rpc_frames.specs.declared.header.Scan.{Scan}
use Rattle.rpc_frames.specs.declared.header.Step.{Step}
use Rattle.rpc_frames.specs.declared.header.Step.TheVariants.{Next, Stay}
use Rattle.rpc_frames.specs.declared.header.Stage.TheVariants.{Header, Body, Broken}
use Rattle.rpc_frames.specs.declared.header.Ending.TheVariants.{Missing, Stray as StrayByte, End}
use Rattle.rpc_frames.specs.Lines.{Lines, Line, Open, is_text, onto, lines}
use Rattle.rpc_frames.specs.Frames.{header, header_of, Short, Whole, Faulty}
use Rattle.rpc_frames.specs.Stages.{IsScan, seen_text, ending_of, ReadsLine, EndsLine}
use Rattle.rpc_frames.proofs.LineLemmas.{lines_text, lines_missing, lines_stray, lines_end}

passes_by : (p : ℕ → Bool) (x : ℕ) (xs : List ℕ) (n : ℕ) (t : Bool) → p x ≡ t → list_all p (take n xs) ≡ true → list_all p (take (cond t (1 + n) 0) (x ∷ xs)) ≡ true
passes_by p x xs n true e h = let s : 1 + n ≡ suc n = omega arith in rw s (and_from (p x) (list_all p (take n xs)) e h)
passes_by p x xs n false e h = refl

-- the longest front that passes does
pub front_passes : (p : ℕ → Bool) (xs : List ℕ) → list_all p (take (prefix_len p xs) xs) ≡ true
front_passes p [] = refl
front_passes p (x ∷ xs) = passes_by p x xs (prefix_len p xs) (p x) refl (front_passes p xs)

stops_by : (p : ℕ → Bool) (x : ℕ) (xs : List ℕ) (n : ℕ) (t : Bool) → p x ≡ t → prefix_len p (drop n xs) ≡ 0 → prefix_len p (drop (cond t (1 + n) 0) (x ∷ xs)) ≡ 0
stops_by p x xs n true e h = let s : 1 + n ≡ suc n = omega arith in rw s h
stops_by p x xs n false e h = ap (λ t. cond t (1 + prefix_len p xs) 0) e

-- what follows it doesn't pass
front_stops : (p : ℕ → Bool) (xs : List ℕ) → prefix_len p (drop (prefix_len p xs) xs) ≡ 0
front_stops p [] = refl
front_stops p (x ∷ xs) = stops_by p x xs (prefix_len p xs) (p x) refl (front_stops p xs)

passes_on : (p : ℕ → Bool) (xs : List ℕ) (k n : ℕ) → list_all p (take k xs) ≡ true → list_all p (take n (drop k xs)) ≡ true → list_all p (take (k + n) xs) ≡ true
passes_on p xs k n a b = ap (list_all p) (take-add k n xs) ∙ list_all-append p (take k xs) (take n (drop k xs)) ∙ and_from _ _ a b

drop_from : (bytes : List ℕ) (a b : ℕ) → a ≤ b → drop (b - a) (drop a bytes) ≡ drop b bytes
drop_from bytes a b h = drop-drop (b - a) a bytes ∙ ap (λ n. drop n bytes) (omega arith)

-- more text of the line was seen
pub scan_text : (scan : Scan) (bytes : List ℕ) (n : ℕ) → IsScan scan bytes → n ≡ prefix_len is_text (drop scan.seen bytes) → IsScan (record scan { seen = scan.seen + n }) bytes
scan_text scan bytes n is e = record {
  from = omega (arith, is.from);
  within = omega (arith, is.within, prefix_len-le-length is_text (drop scan.seen bytes), length-drop scan.seen bytes);
  text =
      let more : list_all is_text (take n (drop scan.seen bytes)) ≡ true = ap (λ m. list_all is_text (take m (drop scan.seen bytes))) e ∙ front_passes is_text (drop scan.seen bytes) in
      let there : list_all is_text (take n (drop (scan.seen - scan.line) (drop scan.line bytes))) ≡ true = ap (λ d. list_all is_text (take n d)) (drop_from bytes scan.line scan.seen is.from) ∙ more in
      let sum : scan.seen + n - scan.line ≡ scan.seen - scan.line + n = omega (arith, is.from) in
      ap (λ m. list_all is_text (take m (drop scan.line bytes))) sum ∙ passes_on is_text (drop scan.line bytes) (scan.seen - scan.line) n is.text there;
  reads = is.reads;
}

pub text_stops : (bytes : List ℕ) (at n : ℕ) → n ≡ prefix_len is_text (drop at bytes) → prefix_len is_text (drop (at + n) bytes) ≡ 0
text_stops bytes at n e =
    ap (prefix_len is_text) (sym (drop-drop n at bytes)) ∙ ap (λ m. prefix_len is_text (drop m (drop at bytes))) e ∙ front_stops is_text (drop at bytes)

-- the line under way is its text so far, and the bytes from there on
line_parts : (scan : Scan) (bytes : List ℕ) → IsScan scan bytes → seen_text scan bytes ++ drop scan.seen bytes ≡ drop scan.line bytes
line_parts scan bytes is =
    ap (λ d. seen_text scan bytes ++ d) (sym (drop_from bytes scan.line scan.seen is.from)) ∙ take-append-drop (scan.seen - scan.line) (drop scan.line bytes)

line_lines : (scan : Scan) (bytes : List ℕ) → IsScan scan bytes → lines (drop scan.line bytes) ≡ onto (seen_text scan bytes) (lines (drop scan.seen bytes))
line_lines scan bytes is = ap lines (sym (line_parts scan bytes is)) ∙ lines_text (seen_text scan bytes) (drop scan.seen bytes) is.text

here : (scan : Scan) (bytes : List ℕ) → IsScan scan bytes → header bytes ≡ header_of scan.line scan.told (lines (drop scan.line bytes))
here scan bytes is = ap header (sym (append-nil bytes)) ∙ is.reads [] ∙ ap (λ b. header_of scan.line scan.told (lines b)) (append-nil (drop scan.line bytes))

open_header : (scan : Scan) (bytes : List ℕ) → IsScan scan bytes → ending_of (drop scan.seen bytes) ≡ Missing → header bytes ≡ cond (nat_lt (length bytes) 4096) Short (Faulty BadHeader)
open_header scan bytes is e =
    let open_line : lines (drop scan.line bytes) ≡ Open (drop scan.line bytes) =
    line_lines scan bytes is ∙ ap (onto (seen_text scan bytes)) (lines_missing (drop scan.seen bytes) e) ∙ ap Open (line_parts scan bytes is) in
    let size : scan.line + length (drop scan.line bytes) ≡ length bytes = omega (arith, is.from, is.within, length-drop scan.line bytes) in
    here scan bytes is ∙ ap (header_of scan.line scan.told) open_line ∙ ap (λ n. cond (nat_lt n 4096) Short (Faulty BadHeader)) size

pub scan_short : (scan : Scan) (bytes : List ℕ) → IsScan scan bytes → ending_of (drop scan.seen bytes) ≡ Missing → length bytes < 4096 → header bytes ≡ Short
scan_short scan bytes is e h = open_header scan bytes is e ∙ ap (λ t. cond t Short (Faulty BadHeader)) (lt-ltb (length bytes) 4096 h)

pub scan_long : (scan : Scan) (bytes : List ℕ) → IsScan scan bytes → ending_of (drop scan.seen bytes) ≡ Missing → 4096 ≤ length bytes → header bytes ≡ Faulty BadHeader
scan_long scan bytes is e h = open_header scan bytes is e ∙ ap (λ t. cond t Short (Faulty BadHeader)) (le-ltb (length bytes) 4096 h)

pub scan_stray : (scan : Scan) (bytes : List ℕ) → IsScan scan bytes → prefix_len is_text (drop scan.seen bytes) ≡ 0 → ending_of (drop scan.seen bytes) ≡ StrayByte → header bytes ≡ Faulty BadHeader
scan_stray scan bytes is n e =
    here scan bytes is ∙ ap (header_of scan.line scan.told) (line_lines scan bytes is ∙ ap (onto (seen_text scan bytes)) (lines_stray (drop scan.seen bytes) n e))

scan_end : (scan : Scan) (bytes : List ℕ) → IsScan scan bytes → ending_of (drop scan.seen bytes) ≡ End → (more : List ℕ) →
    header (bytes ++ more) ≡ header_of scan.line scan.told (Line (seen_text scan bytes) (drop (scan.seen + 2) bytes ++ more) (lines (drop (scan.seen + 2) bytes ++ more)))
scan_end scan bytes is e more =
    let parts : drop scan.line bytes ++ more ≡ seen_text scan bytes ++ (drop scan.seen bytes ++ more) = ap (λ d. d ++ more) (sym (line_parts scan bytes is)) ∙ append_assoc (seen_text scan bytes) (drop scan.seen bytes) more in
    let after : drop 2 (drop scan.seen bytes) ≡ drop (scan.seen + 2) bytes = drop-drop 2 scan.seen bytes in
    let ends : lines (drop scan.seen bytes ++ more) ≡ Line [] (drop (scan.seen + 2) bytes ++ more) (lines (drop (scan.seen + 2) bytes ++ more)) =
    lines_end (drop scan.seen bytes) more e ∙ ap (λ d. Line [] (d ++ more) (lines (d ++ more))) after in
    let whole : lines (drop scan.line bytes ++ more) ≡ Line (seen_text scan bytes) (drop (scan.seen + 2) bytes ++ more) (lines (drop (scan.seen + 2) bytes ++ more)) =
    ap lines parts ∙ lines_text (seen_text scan bytes) (drop scan.seen bytes ++ more) is.text ∙ ap (onto (seen_text scan bytes)) ends ∙ ap (λ t. Line t (drop (scan.seen + 2) bytes ++ more) (lines (drop (scan.seen + 2) bytes ++ more))) (append-nil (seen_text scan bytes)) in
    is.reads more ∙ ap (header_of scan.line scan.told) whole

end_size : (rest : List ℕ) → ending_of rest ≡ End → 2 ≤ length rest
end_size [] e = cc
end_size (b ∷ []) e = absurd (never _ e) where
  never : (t : Bool) → cond t Missing StrayByte ≡ End → ⊥
  never true h = cc
  never false h = cc
end_size (b ∷ c ∷ bytes) e = omega arith

-- what the end of the line leads to
pub scan_line : (scan : Scan) (bytes : List ℕ) (step : Step) → IsScan scan bytes → ending_of (drop scan.seen bytes) ≡ End →
    ((rest : List ℕ) (more : Lines) → EndsLine step (scan.line + length (seen_text scan bytes) + 2) rest more (header_of scan.line scan.told (Line (seen_text scan bytes) rest more))) → ReadsLine step scan bytes
scan_line scan bytes step is e led = by step (λ rest more. subst (λ n. EndsLine step n rest more (header_of scan.line scan.told (Line (seen_text scan bytes) rest more))) size (led rest more)) where
  size : scan.line + length (seen_text scan bytes) + 2 ≡ scan.seen + 2
  size = omega (arith, is.from, is.within, length-drop scan.line bytes, length-take-le (scan.seen - scan.line) (drop scan.line bytes) (omega (arith, is.from, is.within, length-drop scan.line bytes)))

  room : scan.seen + 2 ≤ length bytes
  room = omega (arith, end_size (drop scan.seen bytes) e, length-drop scan.seen bytes)

  now : header bytes ≡ header_of scan.line scan.told (Line (seen_text scan bytes) (drop (scan.seen + 2) bytes) (lines (drop (scan.seen + 2) bytes)))
  now = ap header (sym (append-nil bytes)) ∙ scan_end scan bytes is e [] ∙ ap (λ d. header_of scan.line scan.told (Line (seen_text scan bytes) d (lines d))) (append-nil (drop (scan.seen + 2) bytes))

  by : (s : Step) → ((rest : List ℕ) (more : Lines) → EndsLine s (scan.seen + 2) rest more (header_of scan.line scan.told (Line (seen_text scan bytes) rest more))) → ReadsLine s scan bytes
  by (Next next) f =
      let first = f [] (Open []) in (
        record {
          from = omega (arith, first.0, first.1);
          within = omega (arith, first.1, room);
          text = ap (λ n. list_all is_text (take n (drop next.line bytes))) (empty next first.0 first.1);
          reads = λ more. scan_end scan bytes is e more ∙ (f (drop (scan.seen + 2) bytes ++ more) (lines (drop (scan.seen + 2) bytes ++ more))).2
              ∙ ap (λ n. header_of n next.told (lines (drop n bytes ++ more))) (sym first.0);
        },
        omega (arith, first.0, is.from),
      ) where
        empty : (next : Scan) → next.line ≡ scan.seen + 2 → next.seen ≡ scan.seen + 2 → next.seen - next.line ≡ 0
        empty next a b = omega arith
  by (Stay (Body from told)) f =
      let first = f (drop (scan.seen + 2) bytes) (lines (drop (scan.seen + 2) bytes)) in
      (omega (arith, first.0, room), now ∙ first.1 ∙ ap (λ n. Whole told (drop n bytes)) (sym first.0))
  by (Stay (Broken fault)) f = now ∙ f (drop (scan.seen + 2) bytes) (lines (drop (scan.seen + 2) bytes))
  by (Stay (Header other)) f = absurd (f [] (Open []))
