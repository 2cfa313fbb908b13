-- A split goes on behind a sentence that ended before the first byte that may have changed.
use Rattle.std.proofs.Common.{◌≡◌, ℕ, ◌+◌, ◌-◌, ◌<◌, ◌≤◌, nat_lt, true, List, [], ◌∷◌, ◌++◌, length, get_or, take, drop, length-append, length-take, append_assoc, zero, suc, refl, sym, ◌∙◌, ap, subst, arith}
use Rattle.std.specs.List.{prefix_len}
use Rattle.std.proofs.lemmas.Bool.Decides.{nat_tests}
use Rattle.std.proofs.lemmas.Grind.{common_steps}
use Rattle.std.proofs.lemmas.List.{take_more, take-append-drop}
use Rattle.std.proofs.lemmas.List.Sums.{prefix_len-le-length, prefix_len_passes}
use Rattle.base_core.specs.declared.kind.Kind.TheVariants.{Plain}
use Rattle.sentence_split.specs.declared.spans.Span.{Span}
use Rattle.sentence_split.specs.declared.pieces.Piece.{Piece}
use Rattle.sentence_split.specs.declared.pieces.Piece.TheVariants.{Gap, Sentence}
use Rattle.sentence_split.specs.Sentences.{first_piece, with_piece, sentences}
use Rattle.sentence_split.specs.Pieces.{piece_len}
use Rattle.sentence_split.specs.Resplit.{WasSplit}
use Rattle.sentence_split.proofs.Passing.{pass_front}
use Rattle.sentence_split.proofs.Lawful.{piece_sizes, piece_law}
use Rattle.sentence_split.proofs.Local.{piece_same}

-- a sentence among those from a place on
pub record IsLater (at : ℕ) (span : Span) : Type 0 where
  pub from_later : at ≤ span.from
  pub some : span.from < span.to

abbrev pub nowhere : Span
nowhere = record { from = 0; to = 0; kind = Plain }

later_piece : (p : Piece) (at : ℕ) (t : List ℕ) (m : ℕ) → 0 < piece_len p → ((n m : ℕ) → m < length (sentences (at + 1) n t) → IsLater (at + 1 + n) (get_or (sentences (at + 1) n t) m nowhere)) → m < length (with_piece at p (λ n. sentences (at + 1) n t)) → IsLater at (get_or (with_piece at p (λ n. sentences (at + 1) n t)) m nowhere)
later_piece (Gap len) at t m some later h = let l = later (len - 1) m h in record { from_later = omega (arith, l.from_later); some = l.some }
later_piece (Sentence kind len) at t zero some later h = record { from_later = omega arith; some = omega (arith, some) }
later_piece (Sentence kind len) at t (suc m) some later h =
    let l = later (len - 1) m (omega (arith, h)) in record { from_later = omega (arith, l.from_later); some = l.some }

later_ones : (t : List ℕ) (at k m : ℕ) → m < length (sentences at k t) → IsLater (at + k) (get_or (sentences at k t) m nowhere)
later_ones [] at k m h = absurd (omega (arith, h))
later_ones (b ∷ t) at (suc k) m h =
    let l = later_ones t (at + 1) k m h in record { from_later = omega (arith, l.from_later); some = l.some }
later_ones (b ∷ t) at zero m h =
    let l = later_piece (first_piece b t) at t m (piece_sizes b t (first_piece b t) (piece_law b t)).0 (λ n i. later_ones t (at + 1) n i) h in
    record { from_later = omega (arith, l.from_later); some = l.some }

dropped : (b : ℕ) (t : List ℕ) (at to : ℕ) → at < to → drop (to - at) (b ∷ t) ≡ drop (to - (at + 1)) t
dropped b t at to h = let one : to - at ≡ suc (to - (at + 1)) = omega (arith, h) in rw one refl

-- the sentences up to one, and those of what follows it
Resumes : List ℕ → List ℕ → ℕ → ℕ → ℕ → ℕ → Type 0
Resumes was now at k m to = sentences at k now ≡ take (suc m) (sentences at k was) ++ sentences to 0 (drop (to - at) now)

module _ (c : ℕ) (v w : List ℕ) where
  resumes_piece : (p : Piece) (b : ℕ) (u : List ℕ) (at m to : ℕ) → first_piece b (u ++ c ∷ v) ≡ p → 0 < piece_len p → piece_len p ≤ suc (length (u ++ c ∷ v)) → m < length (with_piece at p (λ n. sentences (at + 1) n (u ++ c ∷ v))) → to ≡ (get_or (with_piece at p (λ n. sentences (at + 1) n (u ++ c ∷ v))) m nowhere).to → to ≤ at + suc (length u) → ((n i : ℕ) → i < length (sentences (at + 1) n (u ++ c ∷ v)) → to ≡ (get_or (sentences (at + 1) n (u ++ c ∷ v)) i nowhere).to → Resumes (u ++ c ∷ v) (u ++ c ∷ w) (at + 1) n i to) → with_piece at p (λ n. sentences (at + 1) n (u ++ c ∷ w)) ≡ take (suc m) (with_piece at p (λ n. sentences (at + 1) n (u ++ c ∷ v))) ++ sentences to 0 (drop (to - at) (b ∷ (u ++ c ∷ w)))
  unfolding Resumes
  resumes_piece (Gap len) b u at m to is some most h e near rec =
      let l = later_ones (u ++ c ∷ v) (at + 1) (len - 1) m h in
      rec (len - 1) m h e
      ∙ ap (λ t. take (suc m) (sentences (at + 1) (len - 1) (u ++ c ∷ v)) ++ sentences to 0 t) (sym (dropped b (u ++ c ∷ w) at to (omega (arith, l.from_later, l.some, e))))
  resumes_piece (Sentence kind len) b u at zero to is some most h e near rec =
      let size : length (u ++ c ∷ w) ≡ length u + suc (length w) = length-append u (c ∷ w) in
      let far : to - at ≡ len = omega (arith, e) in
      ap (λ ss. record { from = at; to = at + len; kind = kind } ∷ ss)
      (pass_front b (u ++ c ∷ w) at len some (omega (arith, near, e, size))
      ∙ ap (λ n. sentences n 0 (drop len (b ∷ (u ++ c ∷ w)))) (sym e) ∙ ap (λ n. sentences to 0 (drop n (b ∷ (u ++ c ∷ w)))) (sym far))
  resumes_piece (Sentence kind len) b u at (suc m) to is some most h e near rec =
      let l = later_ones (u ++ c ∷ v) (at + 1) (len - 1) m (omega (arith, h)) in
      ap (λ ss. record { from = at; to = at + len; kind = kind } ∷ ss)
      (rec (len - 1) m (omega (arith, h)) e
      ∙ ap (λ t. take (suc m) (sentences (at + 1) (len - 1) (u ++ c ∷ v)) ++ sentences to 0 t) (sym (dropped b (u ++ c ∷ w) at to (omega (arith, l.from_later, l.some, e)))))

  -- a piece that a sentence before the change stands in or behind ends before it
  near_piece : (p : Piece) (b : ℕ) (u : List ℕ) (at m to : ℕ) → 0 < piece_len p → m < length (with_piece at p (λ n. sentences (at + 1) n (u ++ c ∷ v))) → to ≡ (get_or (with_piece at p (λ n. sentences (at + 1) n (u ++ c ∷ v))) m nowhere).to → to ≤ at + suc (length u) → piece_len p ≤ suc (length u)
  near_piece (Gap len) b u at m to some h e near =
      let l = later_ones (u ++ c ∷ v) (at + 1) (len - 1) m h in omega (arith, l.from_later, l.some, e, near)
  near_piece (Sentence kind len) b u at zero to some h e near = omega (arith, e, near)
  near_piece (Sentence kind len) b u at (suc m) to some h e near =
      let l = later_ones (u ++ c ∷ v) (at + 1) (len - 1) m (omega (arith, h)) in omega (arith, l.from_later, l.some, e, near)

  resumes : (u : List ℕ) (at k m to : ℕ) → m < length (sentences at k (u ++ c ∷ v)) → to ≡ (get_or (sentences at k (u ++ c ∷ v)) m nowhere).to → to ≤ at + length u → Resumes (u ++ c ∷ v) (u ++ c ∷ w) at k m to
  unfolding Resumes
  resumes [] at k m to h e near = let l = later_ones (c ∷ v) at k m h in absurd (omega (arith, l.from_later, l.some, e, near))
  resumes (b ∷ u) at (suc k) m to h e near =
      let l = later_ones (u ++ c ∷ v) (at + 1) k m h in
      resumes u (at + 1) k m to h e (omega (arith, near))
      ∙ ap (λ t. take (suc m) (sentences (at + 1) k (u ++ c ∷ v)) ++ sentences to 0 t) (sym (dropped b (u ++ c ∷ w) at to (omega (arith, l.from_later, l.some, e))))
  resumes (b ∷ u) at zero m to h e near =
      let p : Piece = first_piece b (u ++ c ∷ v) in
      let size = piece_sizes b (u ++ c ∷ v) p (piece_law b (u ++ c ∷ v)) in
      ap (λ p. with_piece at p (λ n. sentences (at + 1) n (u ++ c ∷ w))) (piece_same b u c v w (near_piece p b u at m to size.0 h e near))
      ∙ resumes_piece p b u at m to refl size.0 size.1 h e near (λ n i g f. resumes u (at + 1) n i to g f (omega (arith, near)))

shorter : (xs ys : List ℕ) (n m : ℕ) → n ≤ m → take m xs ≡ take m ys → take n xs ≡ take n ys
shorter xs ys n m h e =
    let left : take n (take m xs) ≡ take n xs = grind (arith, common_steps) in
    let right : take n (take m ys) ≡ take n ys = grind (arith, common_steps) in
    sym left ∙ ap (take n) e ∙ right

same_byte : (xs ys : List ℕ) (n m : ℕ) → n < m → take m xs ≡ take m ys → get_or xs n 0 ≡ get_or ys n 0
same_byte xs ys n m h e =
    let left : get_or (take m xs) n 0 ≡ get_or xs n 0 = grind (arith, common_steps) in
    let right : get_or (take m ys) n 0 ≡ get_or ys n 0 = grind (arith, common_steps) in
    sym left ∙ ap (λ t. get_or t n 0) e ∙ right

-- a text, cut at a byte
cut_at : (t : List ℕ) (to : ℕ) → to < length t → t ≡ take to t ++ get_or t to 0 ∷ drop (to + 1) t
cut_at t to h =
    sym (take-append-drop (to + 1) t) ∙ ap (λ x. x ++ drop (to + 1) t) (take_more t to 0 h) ∙ append_assoc (take to t) (get_or t to 0 ∷ []) (drop (to + 1) t)

module _ (text : List ℕ) (same : ℕ) (spans : List Span) (was : WasSplit text same spans) where
  resumed : (n bound : ℕ) → bound ≤ same → bound ≤ length text → n < prefix_len (λ s. nat_lt s.to bound) spans → ((get_or spans n nowhere).to ≤ length text) × (take (n + 1) spans ++ sentences (get_or spans n nowhere).to 0 (drop (get_or spans n nowhere).to text) ≡ sentences 0 0 text)
  unfolding Resumes
  resumed n bound a b h =
      let to : ℕ = (get_or spans n nowhere).to in
      let before : List ℕ = was.before in
      let passes : nat_lt to bound ≡ true = prefix_len_passes (λ s. nat_lt s.to bound) spans n nowhere h in
      let near : to < bound = grind (arith, nat_tests) in
      let within : n < length spans = omega (arith, h, prefix_len-le-length (λ s. nat_lt s.to bound) spans) in
      let long : to < length before = omega (arith, near, a, b, ap length was.agree, length-take same before, length-take same text) in
      let u : List ℕ = take to before in
      let c : ℕ = get_or before to 0 in
      let v : List ℕ = drop (to + 1) before in
      let w : List ℕ = drop (to + 1) text in
      let size : length u ≡ to = omega (arith, length-take to before, long) in
      let before_is : before ≡ u ++ c ∷ v = cut_at before to long in
      let text_is : text ≡ u ++ c ∷ w =
      cut_at text to (omega (arith, near, b))
      ∙ ap (λ x. x ++ get_or text to 0 ∷ w) (sym (shorter before text to same (omega (arith, near, a)) was.agree))
      ∙ ap (λ x. u ++ x ∷ w) (sym (same_byte before text to same (omega (arith, near, a)) was.agree)) in
      let old : spans ≡ sentences 0 0 (u ++ c ∷ v) = was.split ∙ ap (sentences 0 0) before_is in
      let found = resumes c v w u 0 0 n to (omega (arith, within, ap length old)) (ap (λ ss. (get_or ss n nowhere).to) old) (omega (arith, size)) in
      let one : n + 1 ≡ suc n = omega arith in
      let whole : to ≡ to - 0 = omega arith in (
        omega (arith, near, b),
        ap (λ ss. take (n + 1) ss ++ sentences to 0 (drop to text)) old
            ∙ ap (λ k. take k (sentences 0 0 (u ++ c ∷ v)) ++ sentences to 0 (drop to text)) one
            ∙ ap (λ t. take (suc n) (sentences 0 0 (u ++ c ∷ v)) ++ sentences to 0 (drop to t)) text_is
            ∙ ap (λ k. take (suc n) (sentences 0 0 (u ++ c ∷ v)) ++ sentences to 0 (drop k (u ++ c ∷ w))) whole
            ∙ sym found
            ∙ ap (sentences 0 0) (sym text_is),
      )

  -- the same, as the code finds it
  pub resumed_behind : (bound kept : ℕ) (seen again known : List Span) → bound ≤ same → bound ≤ length text → seen ≡ spans → again ≡ spans → kept ≡ prefix_len (λ s. nat_lt s.to bound) seen → (kept ≡ 0 → ⊥) → known ≡ take kept spans → ((get_or again (kept - 1) nowhere).to ≤ length text) × (known ++ sentences (get_or again (kept - 1) nowhere).to 0 (drop (get_or again (kept - 1) nowhere).to text) ≡ sentences 0 0 text)
  resumed_behind bound kept seen again known a b e f count some is =
      let pos : 0 < kept = omega (arith, some) in
      let r = resumed (kept - 1) bound a b (omega (arith, count ∙ ap (prefix_len (λ s. nat_lt s.to bound)) e, pos)) in
      let last : kept - 1 + 1 ≡ kept = omega (arith, pos) in
      let place : (get_or spans (kept - 1) nowhere).to ≡ (get_or again (kept - 1) nowhere).to = ap (λ ss. (get_or ss (kept - 1) nowhere).to) (sym f) in (
        subst (λ n. n ≤ length text) place r.0,
        subst (λ n. known ++ sentences n 0 (drop n text) ≡ sentences 0 0 text) place
            (ap (λ ss. ss ++ sentences (get_or spans (kept - 1) nowhere).to 0 (drop (get_or spans (kept - 1) nowhere).to text)) (is ∙ ap (λ k. take k spans) (sym last)) ∙ r.1),
      )

  pub kept_few : (bound kept : ℕ) (seen : List Span) → seen ≡ spans → kept ≡ prefix_len (λ s. nat_lt s.to bound) seen → kept ≤ length spans
  kept_few bound kept seen e count = omega (arith, count, ap length e, prefix_len-le-length (λ s. nat_lt s.to bound) seen)

  -- a text of fewer than 2^32 bytes has fewer sentences
  pub spans_short : (bound kept : ℕ) (seen again : List Span) → seen ≡ spans → again ≡ spans → kept ≡ prefix_len (λ s. nat_lt s.to bound) seen → (kept ≡ 0 → ⊥) → kept - 1 < length again
  spans_short bound kept seen again e f count some = omega (arith, kept_few bound kept seen e count, ap length f, some)
