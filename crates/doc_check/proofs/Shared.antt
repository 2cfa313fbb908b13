-- How many sentences two texts begin with.
use Rattle.std.proofs.Common.{◌≡◌, ℕ, ◌+◌, ◌<◌, ◌≤◌, min, true, false, List, [], length, map, get_or, drop, sym, ◌∙◌, ap, arith}
use Rattle.std.specs.List.{common_prefix_len}
use Rattle.std.proofs.lemmas.Grind.{common_steps}
use Rattle.std.proofs.lemmas.List.{get_or-map, length-map}
use Rattle.std.proofs.lemmas.List.Sums.{common_prefix_len-le, common_prefix_len-drop_no, common_prefix_len-drop_yes}
use Rattle.sentence_split.specs.declared.spans.Span.{Span}
use Rattle.sentence_split.specs.Sentences.{sentences}
use Rattle.base_core.specs.declared.kind.Kind.TheVariants.{Plain}
use Rattle.prover_iface.specs.Sentences.{Sentence, sentence}
use Rattle.doc_check.specs.Check.{sentence_at, span_of}
use Rattle.doc_check.specs.Document.{parts, same_sentence}

abbrev pub shared : List ℕ → List ℕ → ℕ
shared text other = common_prefix_len same_sentence (parts text) (parts other)

-- of the first so many the texts have the same
abbrev pub AreShared : List ℕ → List ℕ → ℕ → Type 0
AreShared text other k = shared text other ≡ k + common_prefix_len same_sentence (drop k (parts text)) (drop k (parts other))

nothing : Sentence
nothing = sentence Plain []

module _ (text other : List ℕ) (spans places : List Span) (split : spans ≡ sentences 0 0 text) (others : places ≡ sentences 0 0 other) where
  part_at : (t : List ℕ) (ss : List Span) (k : ℕ) (d : Sentence) → ss ≡ sentences 0 0 t → k < length ss → get_or (parts t) k d ≡ sentence_at t (span_of ss k)
  part_at t ss k d e h = ap (λ xs. get_or xs k d) (ap (λ xs. map (sentence_at t) xs) (sym e)) ∙ get_or-map (sentence_at t) ss k _ d h

  parts_long : (t : List ℕ) (ss : List Span) → ss ≡ sentences 0 0 t → length (parts t) ≡ length ss
  parts_long t ss e = length-map (sentences 0 0 t) (sentence_at t) ∙ ap length (sym e)

  one_more : (k : ℕ) → k < length spans → k < length places → AreShared text other k → same_sentence (sentence_at text (span_of spans k)) (sentence_at other (span_of places k)) ≡ true → AreShared text other (k + 1)
  one_more k a b h e =
      let yes_here = common_prefix_len-drop_yes same_sentence (parts text) (parts other) k nothing nothing (omega (arith, a, parts_long text spans split)) (omega (arith, b, parts_long other places others))
      (ap (λ s. same_sentence s (get_or (parts other) k nothing)) (part_at text spans k nothing split a) ∙ ap (same_sentence (sentence_at text (span_of spans k))) (part_at other places k nothing others b) ∙ e) in
      omega (arith, h, yes_here)

  one_less : (k : ℕ) → k < length spans → k < length places → AreShared text other k → same_sentence (sentence_at text (span_of spans k)) (sentence_at other (span_of places k)) ≡ false → shared text other ≡ k
  one_less k a b h e =
      let no_here = common_prefix_len-drop_no same_sentence (parts text) (parts other) k nothing nothing (omega (arith, a, parts_long text spans split)) (omega (arith, b, parts_long other places others))
      (ap (λ s. same_sentence s (get_or (parts other) k nothing)) (part_at text spans k nothing split a) ∙ ap (same_sentence (sentence_at text (span_of spans k))) (part_at other places k nothing others b) ∙ e) in
      omega (arith, h, no_here)

  -- a sentence differs
  pub differs : (most both k : ℕ) → both ≡ min most (length places) → most ≤ length spans → k < both → AreShared text other k → same_sentence (sentence_at text (span_of spans k)) (sentence_at other (span_of places k)) ≡ false → k ≡ min most (shared text other)
  differs most both k e few h a f =
      let small : both ≤ most = grind (arith, common_steps, e) in
      let within : both ≤ length places = grind (arith, common_steps, e) in
      let is = one_less k (omega (arith, few, h, small)) (omega (arith, within, h)) a f in
      let less : k < most = omega (arith, h, small) in
      grind (arith, common_steps, is, less)

  -- the same one more
  pub goes_on : (most both k : ℕ) → both ≡ min most (length places) → most ≤ length spans → k < both → AreShared text other k → same_sentence (sentence_at text (span_of spans k)) (sentence_at other (span_of places k)) ≡ true → AreShared text other (k + 1)
  goes_on most both k e few h a f =
      let small : both ≤ most = grind (arith, common_steps, e) in
      let within : both ≤ length places = grind (arith, common_steps, e) in
      one_more k (omega (arith, few, h, small)) (omega (arith, within, h)) a f

  -- none differs
  pub none_differs : (most both k : ℕ) → both ≡ min most (length places) → k ≡ both → AreShared text other k → both ≡ min most (shared text other)
  none_differs most both k e last a =
      let most_there = (common_prefix_len-le same_sentence (parts text) (parts other)).1 in
      let long : shared text other ≤ length places = omega (arith, most_there, parts_long other places others) in
      let some : both ≤ shared text other = omega (arith, a, last) in
      grind (arith, common_steps, e, long, some)
