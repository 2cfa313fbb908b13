-- What is written is read again.
use Rattle.std.proofs.Common.{◌≡◌, ℕ, ◌+◌, ◌<◌, ◌≤◌, ◌^◌, ◌==◌, suc, nat_le, true, false, cond, Some, None, Ok, Err, List, [], ◌∷◌, ◌++◌, length, take, drop, codes, refl, ◌∙◌, ap, append_assoc, append-nil, arith, rules, length-append}
use Rattle.std.specs.Char.{is_ascii_digit}
use Rattle.std.specs.List.{list_all, prefix_len, flat_map, All, AllByRecursion, position}
use Rattle.std.specs.Fmt.{decimal}
use Rattle.std.specs.Str.{all_ascii_digits}
use Rattle.std.proofs.lemmas.Bool.{and_parts, and_from, lt-ltb, le-leb, leb-true, ne_eqb, or_from, not_from_false}
use Rattle.std.proofs.lemmas.Fmt.{digits_decimal, digits_value-decimal, length-decimal-le, decimal_nonempty}
use Rattle.std.proofs.Math.Seq.{take-length, drop-length, take-append_seam, drop-append_seam}
use Rattle.std.proofs.lemmas.List.Elements.{recursion_from_All}
use Rattle.std.proofs.lemmas.Str.Parse.{IsNumeralModel, numerals_by_fold}
use Rattle.rpc_frames.specs.declared.faults.FrameFault.TheVariants.{BadHeader, TooLong}
use Rattle.rpc_frames.specs.Lines.{Line, is_text, onto, lines}
use Rattle.rpc_frames.specs.Fields.{is_space, is_colon, number_after, digits_length, trimmed_length, value_length, told_once, field_at, line_length}
use Rattle.rpc_frames.specs.Frames.{Whole, Faulty, header, header_of, after_line, Frame, front, frames, framed, with_body, with_bodies}
use Rattle.rpc_frames.proofs.LineLemmas.{lines_text}
use Rattle.rpc_frames.proofs.StageLemmas.{front_whole}
use Rattle.rpc_frames.proofs.StreamLemmas.{frames_frame}

own : IsNumeralModel (λ ds. all_ascii_digits ds ≡ true) (number_after 0)
own = numerals_by_fold _ (search rules) number_after (search rules)

-- the two line ends that close a header part with one line
lines_close : (rest : List ℕ) → lines (13 ∷ 10 ∷ 13 ∷ 10 ∷ rest) ≡ Line [] (13 ∷ 10 ∷ rest) (Line [] rest (lines rest))
unfolding lines
lines_close rest = refl

digit_text : (d : ℕ) → is_ascii_digit d ≡ true → is_text d ≡ true
digit_text d e =
    let low : 48 ≤ d = leb-true 48 d (and_parts (nat_le 48 d) (nat_le d 57) e).0 in
    not_from_false _ (or_from (d == 13) (d == 10) (ne_eqb d 13 (λ h. omega arith)) (ne_eqb d 10 (λ h. omega arith)))

digits_text : (digits : List ℕ) → all_ascii_digits digits ≡ true → list_all is_text digits ≡ true
digits_text [] e = refl
digits_text (d ∷ digits) e = let both = and_parts (is_ascii_digit d) (all_ascii_digits digits) e in and_from (is_text d) (list_all is_text digits) (digit_text d both.0) (digits_text digits both.1)

all_digits_len : (digits : List ℕ) → all_ascii_digits digits ≡ true → prefix_len is_ascii_digit digits ≡ length digits
all_digits_len [] e = refl
all_digits_len (d ∷ digits) e =
    let both = and_parts (is_ascii_digit d) (all_ascii_digits digits) e in
    ap (λ t. cond t (1 + prefix_len is_ascii_digit digits) 0) both.0 ∙ ap (λ n. 1 + n) (all_digits_len digits both.1) ∙ one (length digits) where
      one : (n : ℕ) → 1 + n ≡ suc n
      one n = omega arith

digit_no_space : (d : ℕ) → is_ascii_digit d ≡ true → is_space d ≡ false
digit_no_space d e =
    let low : 48 ≤ d = leb-true 48 d (and_parts (nat_le 48 d) (nat_le d 57) e).0 in
    ne_eqb d 32 (λ h. omega arith)

no_space_len : (digits : List ℕ) → all_ascii_digits digits ≡ true → prefix_len is_space digits ≡ 0
no_space_len [] e = refl
no_space_len (d ∷ digits) e = ap (λ t. cond t (1 + prefix_len is_space digits) 0) (digit_no_space d (and_parts (is_ascii_digit d) (all_ascii_digits digits) e).0)

digits_told : (digits : List ℕ) (n : ℕ) → 0 < length digits → number_after 0 digits ≡ n → n ≤ 4194304 → digits_length digits [] ≡ Ok n
digits_told [] n some e h = absurd (omega arith)
digits_told (d ∷ digits) n some e h = ap (λ m. cond (nat_le m 4194304) (Ok m) (Err TooLong)) e ∙ ap (λ t. cond t (Ok n) (Err TooLong)) (le-leb n 4194304 h)

-- a space and digits give the number
value_told : (digits : List ℕ) (n : ℕ) → all_ascii_digits digits ≡ true → 0 < length digits → number_after 0 digits ≡ n → n ≤ 4194304 → value_length (32 ∷ digits) ≡ Ok n
value_told digits n all some e h =
    ap (λ k. trimmed_length (drop (1 + k) (32 ∷ digits))) (no_space_len digits all)
    ∙ ap (λ k. digits_length (take k digits) (drop k digits)) (all_digits_len digits all)
    ∙ ap (λ ds. digits_length ds (drop (length digits) digits)) (take-length digits)
    ∙ ap (digits_length digits) (drop-length digits)
    ∙ digits_told digits n some e h

-- the line before the line end
abbrev length_line : List ℕ → List ℕ
length_line digits = codes "Content-Length: " ++ digits

line_told : (digits : List ℕ) (n : ℕ) → value_length (32 ∷ digits) ≡ Ok n → line_length None (length_line digits) ≡ Ok (Some n)
line_told digits n e =
    ap (field_at None (length_line digits)) colon ∙ ap (told_once None) e where
      colon : position is_colon (length_line digits) ≡ Some 14
      colon = ap (λ t. cond t (Some 14) None) (lt-ltb 14 (length (length_line digits)) (omega arith))

-- the header part of a frame
header_told : (digits body : List ℕ) (n : ℕ) → all_ascii_digits digits ≡ true → length digits ≤ 7 → value_length (32 ∷ digits) ≡ Ok n → header (length_line digits ++ (13 ∷ 10 ∷ 13 ∷ 10 ∷ body)) ≡ Whole n body
header_told digits body n all short e =
    ap (header_of 0 None) (lines_text (length_line digits) (13 ∷ 10 ∷ 13 ∷ 10 ∷ body) (digits_text digits all)
    ∙ ap (onto (length_line digits)) (lines_close body)
    ∙ ap (λ text. Line text (13 ∷ 10 ∷ body) (Line [] body (lines body))) (append-nil (length_line digits)))
    ∙ ap (λ t. cond t (after_line (line_length None (length_line digits)) (λ known. header_of next known (Line [] body (lines body)))) (Faulty BadHeader)) (lt-ltb next 4096 (omega arith))
    ∙ ap (λ told. after_line told (λ known. header_of next known (Line [] body (lines body)))) (line_told digits n e)
    ∙ ap (λ t. cond t (Whole n body) (Faulty BadHeader)) (le-leb (next + 2) 4096 (omega arith)) where
      next : ℕ
      next = 0 + length (length_line digits) + 2

regroup : (text ends body rest : List ℕ) → ((text ++ ends) ++ body) ++ rest ≡ text ++ (ends ++ (body ++ rest))
regroup text ends body rest = append_assoc (text ++ ends) body rest ∙ append_assoc text ends (body ++ rest)

pub front_framed : (body rest : List ℕ) → length body ≤ 4194304 → front (framed body ++ rest) ≡ Frame body rest
front_framed body rest h =
    ap front (regroup (length_line digits) (13 ∷ 10 ∷ 13 ∷ 10 ∷ []) body rest)
    ∙ front_whole (length_line digits ++ (13 ∷ 10 ∷ 13 ∷ 10 ∷ (body ++ rest))) (body ++ rest) (length body) told (omega (arith, length-append body rest))
    ∙ ap (λ b. Frame b (drop (length body) (body ++ rest))) (take-append_seam body rest) ∙ ap (Frame body) (drop-append_seam body rest) where
      digits : List ℕ
      digits = decimal (length body)

      small : length body < 2 ^ 64
      small = omega arith

      all : all_ascii_digits digits ≡ true
      all = digits_decimal own (length body) small

      value : value_length (32 ∷ digits) ≡ Ok (length body)
      value = value_told digits (length body) all (decimal_nonempty (length body) small) (digits_value-decimal own (length body) small) h

      told : header (length_line digits ++ (13 ∷ 10 ∷ 13 ∷ 10 ∷ (body ++ rest))) ≡ Whole (length body) (body ++ rest)
      told = header_told digits (body ++ rest) (length body) all (length-decimal-le 7 (length body) (omega arith) (omega arith) small) value

framed_from : (bodies : List (List ℕ)) (rest : List ℕ) → AllByRecursion (λ body. length body ≤ 4194304) bodies → frames (flat_map framed bodies ++ rest) ≡ with_bodies bodies (frames rest)
framed_from [] rest h = refl
framed_from (body ∷ bodies) rest h =
    ap frames (append_assoc (framed body) (flat_map framed bodies) rest)
    ∙ frames_frame (framed body ++ (flat_map framed bodies ++ rest)) body (flat_map framed bodies ++ rest) (front_framed body (flat_map framed bodies ++ rest) h.0)
    ∙ ap (with_body body) (framed_from bodies rest h.1)

pub frames_framed : (bodies : List (List ℕ)) (rest : List ℕ) → All (λ body. length body ≤ 4194304) bodies → frames (flat_map framed bodies ++ rest) ≡ with_bodies bodies (frames rest)
frames_framed bodies rest h = framed_from bodies rest (recursion_from_All _ _ h)
