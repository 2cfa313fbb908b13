-- Bytes and their lines.
use Rattle.std.proofs.Common.{◌≡◌, ℕ, ◌+◌, ◌==◌, ◌&&◌, ◌||◌, not, Bool, true, false, cond, List, [], ◌∷◌, ◌++◌, drop, refl, sym, ◌∙◌, ap, arith}
use Rattle.std.specs.List.{list_all, prefix_len}
use Rattle.std.proofs.lemmas.Bool.{not-true, or_parts, and_parts, eqb-true, ne_eqb}
use Rattle.rpc_frames.specs.declared.header.Ending.TheVariants.{Missing, Stray as StrayByte, End}
use Rattle.rpc_frames.specs.Lines.{Lines, Line, Open, Stray, is_text, onto, lines}
use Rattle.rpc_frames.specs.Stages.{ending_of}

pub onto-nil : (ls : Lines) → onto [] ls ≡ ls
onto-nil (Line text rest more) = refl
onto-nil (Open text) = refl
onto-nil Stray = refl

pub onto-onto : (b : ℕ) (text : List ℕ) (ls : Lines) → onto (b ∷ []) (onto text ls) ≡ onto (b ∷ text) ls
onto-onto b text (Line t rest more) = refl
onto-onto b text (Open t) = refl
onto-onto b text Stray = refl

no_lf : (b : ℕ) → is_text b ≡ true → (b == 10) ≡ false
no_lf b e = (or_parts (b == 13) (b == 10) (not-true _ e)).1

cr_no_lf : (b : ℕ) → (b == 13) ≡ true → (b == 10) ≡ false
cr_no_lf b e = let same : b ≡ 13 = eqb-true b 13 e in ne_eqb b 10 (λ other. omega arith)

-- a byte of a text joins the first line
pub lines_cons : (b : ℕ) (bytes : List ℕ) → is_text b ≡ true → lines (b ∷ bytes) ≡ onto (b ∷ []) (lines bytes)
unfolding lines
lines_cons b [] e = ap (λ t. cond t Stray (Open (b ∷ []))) (no_lf b e)
lines_cons b (c ∷ bytes) e = ap (λ t. cond t (onto (b ∷ []) (lines (c ∷ bytes))) (cond ((b == 13) && (c == 10)) (Line [] bytes (lines bytes)) Stray)) e

-- a text joins the first line
pub lines_text : (text bytes : List ℕ) → list_all is_text text ≡ true → lines (text ++ bytes) ≡ onto text (lines bytes)
lines_text [] bytes e = sym (onto-nil (lines bytes))
lines_text (b ∷ text) bytes e =
    let both = and_parts (is_text b) (list_all is_text text) e in
    lines_cons b (text ++ bytes) both.0 ∙ ap (onto (b ∷ [])) (lines_text text bytes both.1) ∙ onto-onto b text (lines bytes)

-- a byte that is no text, and one after it
pub lines_marked : (b c : ℕ) (bytes : List ℕ) → is_text b ≡ false → lines (b ∷ c ∷ bytes) ≡ cond ((b == 13) && (c == 10)) (Line [] bytes (lines bytes)) Stray
unfolding lines
lines_marked b c bytes e = ap (λ t. cond t (onto (b ∷ []) (lines (c ∷ bytes))) (cond ((b == 13) && (c == 10)) (Line [] bytes (lines bytes)) Stray)) e

pub lines_single : (b : ℕ) → lines (b ∷ []) ≡ cond (b == 10) Stray (Open (b ∷ []))
unfolding lines
lines_single b = refl

pub lines_none : lines [] ≡ Open []
unfolding lines
lines_none = refl

pub first_marked : (b : ℕ) (bytes : List ℕ) → prefix_len is_text (b ∷ bytes) ≡ 0 → is_text b ≡ false
first_marked b bytes e = stops (is_text b) (prefix_len is_text bytes) e where
  stops : (t : Bool) (n : ℕ) → cond t (1 + n) 0 ≡ 0 → t ≡ false
  stops true n h = absurd (omega arith)
  stops false n h = refl

missing_cr : (t : Bool) → cond t Missing StrayByte ≡ Missing → t ≡ true
missing_cr true e = refl
missing_cr false e = cc

stray_lf : (s t : Bool) → not (s || t) ≡ false → cond s Missing StrayByte ≡ StrayByte → t ≡ true
stray_lf true t n e = cc
stray_lf false true n e = refl
stray_lf false false n e = cc

pair_stray : (t : Bool) → cond t End StrayByte ≡ StrayByte → t ≡ false
pair_stray true e = cc
pair_stray false e = refl

pair_end : (t : Bool) → cond t End StrayByte ≡ End → t ≡ true
pair_end true e = refl
pair_end false e = cc

pair_missing : (t : Bool) → cond t End StrayByte ≡ Missing → ⊥
pair_missing true e = cc
pair_missing false e = cc

cr_marked : (b c : ℕ) → ((b == 13) && (c == 10)) ≡ true → is_text b ≡ false
cr_marked b c e = ap (λ t. not (t || (b == 10))) (and_parts (b == 13) (c == 10) e).0

-- no line end, and none that is out of place
pub lines_missing : (rest : List ℕ) → ending_of rest ≡ Missing → lines rest ≡ Open rest
lines_missing [] e = lines_none
lines_missing (b ∷ []) e = lines_single b ∙ ap (λ t. cond t Stray (Open (b ∷ []))) (cr_no_lf b (missing_cr (b == 13) e))
lines_missing (b ∷ c ∷ bytes) e = absurd (pair_missing ((b == 13) && (c == 10)) e)

-- a CR or LF out of place
pub lines_stray : (rest : List ℕ) → prefix_len is_text rest ≡ 0 → ending_of rest ≡ StrayByte → lines rest ≡ Stray
lines_stray [] n e = cc
lines_stray (b ∷ []) n e = lines_single b ∙ ap (λ t. cond t Stray (Open (b ∷ []))) (stray_lf (b == 13) (b == 10) (first_marked b [] n) e)
lines_stray (b ∷ c ∷ bytes) n e =
    lines_marked b c bytes (first_marked b (c ∷ bytes) n) ∙ ap (λ t. cond t (Line [] bytes (lines bytes)) Stray) (pair_stray _ e)

-- a line end
pub lines_end : (rest more : List ℕ) → ending_of rest ≡ End → lines (rest ++ more) ≡ Line [] (drop 2 rest ++ more) (lines (drop 2 rest ++ more))
lines_end [] more e = cc
lines_end (b ∷ []) more e = absurd (never (b == 13) e) where
  never : (t : Bool) → cond t Missing StrayByte ≡ End → ⊥
  never true h = cc
  never false h = cc
lines_end (b ∷ c ∷ bytes) more e =
    let pair : ((b == 13) && (c == 10)) ≡ true = pair_end _ e in
    lines_marked b c (bytes ++ more) (cr_marked b c pair) ∙ ap (λ t. cond t (Line [] (bytes ++ more) (lines (bytes ++ more))) Stray) pair
