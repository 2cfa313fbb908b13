-- Sentences, one piece after another.
use Rattle.std.proofs.Common.{◌≡◌, ℕ, ◌+◌, ◌-◌, ◌<◌, ◌≤◌, List, [], ◌∷◌, ◌++◌, length, get_or, take, drop, length-drop, append_assoc, zero, suc, refl, sym, ◌∙◌, ap, arith, add-zero}
use Rattle.std.proofs.lemmas.Grind.{common_steps}
use Rattle.base_core.specs.declared.kind.Kind.{Kind}
use Rattle.sentence_split.specs.declared.spans.Span.{Span}
use Rattle.sentence_split.specs.declared.pieces.Piece.{Piece}
use Rattle.sentence_split.specs.declared.pieces.Piece.TheVariants.{Gap, Sentence}
use Rattle.sentence_split.specs.Sentences.{first_piece, with_piece, sentences}

-- the bytes of a piece are passed
pass : (xs : List ℕ) (at k : ℕ) → k ≤ length xs → sentences at k xs ≡ sentences (at + k) 0 (drop k xs)
pass xs at zero h = rw add-zero refl
pass [] at (suc k) h = absurd (omega arith)
pass (b ∷ rest) at (suc k) h =
    let n : at + 1 + k ≡ at + suc k = omega arith in
    pass rest (at + 1) k (omega arith) ∙ ap (λ m. sentences m 0 (drop k rest)) n

pub pass_front : (b : ℕ) (rest : List ℕ) (at n : ℕ) → 0 < n → n ≤ length (b ∷ rest) → sentences (at + 1) (n - 1) rest ≡ sentences (at + n) 0 (drop n (b ∷ rest))
pass_front b rest at zero some h = absurd (omega arith)
pass_front b rest at (suc m) some h =
    let one : suc m - 1 ≡ m = omega arith in
    let n : at + 1 + m ≡ at + suc m = omega arith in
    rw one (pass rest (at + 1) m (omega arith) ∙ ap (λ k. sentences k 0 (drop m rest)) n)

-- a gap begins here
pub sentences-gap : (xs : List ℕ) (at n : ℕ) → 0 < length xs → first_piece (get_or xs 0 0) (drop 1 xs) ≡ Gap n → 0 < n → n ≤ length xs → sentences at 0 xs ≡ sentences (at + n) 0 (drop n xs)
sentences-gap [] at n some is pos h = absurd (omega arith)
sentences-gap (b ∷ rest) at n some is pos h = ap (λ p. with_piece at p (λ m. sentences (at + 1) m rest)) is ∙ pass_front b rest at n pos h

-- a sentence begins here
pub sentences-sentence : (xs : List ℕ) (at n : ℕ) (kind : Kind) → 0 < length xs → first_piece (get_or xs 0 0) (drop 1 xs) ≡ Sentence kind n → 0 < n → n ≤ length xs → sentences at 0 xs ≡ record { from = at; to = at + n; kind = kind } ∷ sentences (at + n) 0 (drop n xs)
sentences-sentence [] at n kind some is pos h = absurd (omega arith)
sentences-sentence (b ∷ rest) at n kind some is pos h =
    ap (λ p. with_piece at p (λ m. sentences (at + 1) m rest)) is ∙ ap (λ ss. record { from = at; to = at + n; kind = kind } ∷ ss) (pass_front b rest at n pos h)

drop-drop : (text : List ℕ) (at n : ℕ) → drop n (drop at text) ≡ drop (at + n) text
drop-drop text at n = grind (arith, common_steps)

-- the loop passed a gap
pub gap_passed : (text shown : List ℕ) (done : List Span) (at n : ℕ) (p : Piece) → at < length text → shown ≡ drop at text → p ≡ first_piece (get_or shown 0 0) (drop 1 shown) → p ≡ Gap n → 0 < n → n ≤ length shown → done ++ sentences at 0 (drop at text) ≡ sentences 0 0 text → done ++ sentences (at + n) 0 (drop (at + n) text) ≡ sentences 0 0 text
gap_passed text shown done at n p h shows found is pos most before =
    let some : 0 < length shown = omega (arith, length-drop at text, ap length shows) in
    let next : sentences at 0 (drop at text) ≡ sentences (at + n) 0 (drop (at + n) text) =
    ap (sentences at 0) (sym shows) ∙ sentences-gap shown at n some (sym found ∙ is) pos most ∙ ap (λ xs. sentences (at + n) 0 (drop n xs)) shows ∙ ap (sentences (at + n) 0) (drop-drop text at n) in
    ap (λ ss. done ++ ss) (sym next) ∙ before

-- the loop passed a sentence
pub sentence_passed : (text shown : List ℕ) (done now : List Span) (at n : ℕ) (kind : Kind) (p : Piece) → at < length text → shown ≡ drop at text → p ≡ first_piece (get_or shown 0 0) (drop 1 shown) → p ≡ Sentence kind n → 0 < n → n ≤ length shown → now ≡ done ++ record { from = at; to = at + n; kind = kind } ∷ [] → done ++ sentences at 0 (drop at text) ≡ sentences 0 0 text → now ++ sentences (at + n) 0 (drop (at + n) text) ≡ sentences 0 0 text
sentence_passed text shown done now at n kind p h shows found is pos most grown before =
    let some : 0 < length shown = omega (arith, length-drop at text, ap length shows) in
    let span : Span = record { from = at; to = at + n; kind = kind } in
    let next : sentences at 0 (drop at text) ≡ span ∷ sentences (at + n) 0 (drop (at + n) text) =
    ap (sentences at 0) (sym shows) ∙ sentences-sentence shown at n kind some (sym found ∙ is) pos most ∙ ap (λ xs. span ∷ sentences (at + n) 0 (drop n xs)) shows ∙ ap (λ xs. span ∷ sentences (at + n) 0 xs) (drop-drop text at n) in
    ap (λ ss. ss ++ sentences (at + n) 0 (drop (at + n) text)) grown
    ∙ append_assoc done (span ∷ []) (sentences (at + n) 0 (drop (at + n) text))
    ∙ ap (λ ss. done ++ ss) (sym next)
    ∙ before

-- the rest of a text, as the code slices it
pub shown_rest : (text : List ℕ) (at : ℕ) → take (length text - at) (drop at text) ≡ drop at text
shown_rest text at = grind (arith, common_steps)
