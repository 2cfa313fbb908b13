-- What comes of sentences, one after another, and what is kept of a document.
use Rattle.std.proofs.Common.{◌≡◌, ℕ, ◌+◌, ◌-◌, ◌<◌, ◌≤◌, Bool, true, false, cond, min, List, [], ◌∷◌, ◌++◌, length, map, fold, get_or, take, length-take, zero, suc, refl, sym, ◌∙◌, ap, subst, arith, All}
use Rattle.std.specs.List.{common_prefix_len}
use Rattle.std.proofs.lemmas.Bool.Decides.{nat_tests}
use Rattle.std.proofs.lemmas.Grind.{common_steps}
use Rattle.std.proofs.lemmas.List.{take_more, take-map, map-append, get_or-map, take-take, length-map}
use Rattle.std.proofs.lemmas.List.Sums.{common_prefix_len-le}
use Rattle.base_core.specs.declared.kind.Kind.TheVariants.{Plain}
use Rattle.base_core.specs.declared.limits.TheConstants.{TEXT_LIMIT}
use Rattle.sentence_split.specs.declared.spans.Span.{Span}
use Rattle.sentence_split.specs.Sentences.{sentences}
use Rattle.sentence_split.specs.Within.{IsSpanOf}
use Rattle.prover_iface.specs.declared.diagnostics.RelDiag.{RelDiag}
use Rattle.prover_iface.specs.Sentences.{Sentence, sentence}
use Rattle.prover_iface.specs.Meanings.{Meanings, state_behind}
use Rattle.memo_table.specs.declared.key.Key.{Key}
use Rattle.memo_table.proofs.Keys.{key_same}
use Rattle.doc_check.specs.Check.{sentence_at, span_of, count}
use Rattle.doc_check.specs.Document.{Doc, doc, parts, first_parts, state_at, done, all_done, next_of, state_here, same_sentence, changed}
use Rattle.doc_check.specs.Stands.{trail, IsDoc}

pub nowhere : Span
nowhere = record { from = 0; to = 0; kind = Plain }

-- one sentence more
pub first_more : (text : List ℕ) (k : ℕ) → k < count text → first_parts text (k + 1) ≡ first_parts text k ++ sentence_at text (span_of (sentences 0 0 text) k) ∷ []
unfolding nowhere
first_more text k h =
    ap (map (sentence_at text)) (take_more (sentences 0 0 text) k nowhere h)
    ∙ map-append (sentence_at text) (take k (sentences 0 0 text)) (span_of (sentences 0 0 text) k ∷ [])

pub fold_more : {M : Type 0} (means : Meanings M) (m : M) (ss : List Sentence) (s : Sentence) → fold means.after m (ss ++ s ∷ []) ≡ means.after (fold means.after m ss) s
fold_more means m [] s = refl
fold_more means m (t ∷ ss) s = fold_more means (means.after m t) ss s

-- the state behind one sentence more
pub state_more : {M : Type 0} (means : Meanings M) (text : List ℕ) (k : ℕ) → k < count text → state_at means text (k + 1) ≡ means.after (state_at means text k) (sentence_at text (span_of (sentences 0 0 text) k))
state_more means text k h =
    ap (state_behind means) (first_more text k h) ∙ fold_more means means.first (first_parts text k) (sentence_at text (span_of (sentences 0 0 text) k))

module _ {M : Type 0} (means : Meanings M) where
  trail_more : (m : M) (ss : List Sentence) (s : Sentence) → trail means m (ss ++ s ∷ []) ≡ trail means m ss ++ (means.after (fold means.after m ss) s, means.diagnosed (fold means.after m ss) s) ∷ []
  trail_more m [] s = refl
  trail_more m (t ∷ ss) s = ap (λ ps. (means.after m t, means.diagnosed m t) ∷ ps) (trail_more (means.after m t) ss s)

  take_trail : (m : M) (ss : List Sentence) (k : ℕ) → take k (trail means m ss) ≡ trail means m (take k ss)
  take_trail m ss zero = refl
  take_trail m [] (suc k) = refl
  take_trail m (s ∷ ss) (suc k) = ap (λ ps. (means.after m s, means.diagnosed m s) ∷ ps) (take_trail (means.after m s) ss k)

  trail_long : (m : M) (ss : List Sentence) → length (trail means m ss) ≡ length ss
  trail_long m [] = refl
  trail_long m (s ∷ ss) = ap suc (trail_long (means.after m s) ss)

  -- the state behind the sentence of a number, and what is told of it
  trail_at : (m : M) (ss : List Sentence) (k : ℕ) (d : M × List RelDiag) (s : Sentence) → k < length ss → get_or (trail means m ss) k d ≡ (fold means.after m (take (suc k) ss), means.diagnosed (fold means.after m (take k ss)) (get_or ss k s))
  trail_at m [] k d s h = absurd (omega (arith, h))
  trail_at m (t ∷ ss) zero d s h = refl
  trail_at m (t ∷ ss) (suc k) d s h = trail_at (means.after m t) ss k d s (omega (arith, h))

-- the first of the first sentences
pub take_first : (text : List ℕ) (k n : ℕ) → k ≤ n → take k (first_parts text n) ≡ first_parts text k
take_first text k n h = take-map (sentence_at text) k (take n (sentences 0 0 text)) ∙ ap (map (sentence_at text)) (take-take k n (sentences 0 0 text) h)

first_long : (text : List ℕ) (n : ℕ) → n ≤ count text → length (first_parts text n) ≡ n
first_long text n h = omega (arith, length-map (take n (sentences 0 0 text)) (sentence_at text), length-take n (sentences 0 0 text), h)

module _ {M : Type 0} (means : Meanings M) (text : List ℕ) (spans : List Span) (first : M) (made : List (M × List RelDiag)) (h : IsDoc means text spans first made) where
  few : length made ≤ count text
  few = omega (arith, h.few, ap length h.split)

  -- the state behind the first so many
  pub kept_state : (k : ℕ) (d : M × List RelDiag) → 0 < k → k ≤ length made → (get_or made (k - 1) d).0 ≡ state_at means text k
  kept_state k d some most =
      let n : suc (k - 1) ≡ k = omega (arith, some) in
      let long : length (first_parts text (length made)) ≡ length made = first_long text (length made) few in
      ap (λ ps. (get_or ps (k - 1) d).0) h.made_is
      ∙ ap (λ p. p.0) (trail_at means means.first (first_parts text (length made)) (k - 1) d (sentence_at text nowhere) (omega (arith, some, most, long)))
      ∙ ap (λ i. state_behind means (take i (first_parts text (length made)))) n
      ∙ ap (state_behind means) (take_first text k (length made) most)

  -- what is told of the sentence of a number
  pub kept_told : (k : ℕ) (d : M × List RelDiag) → k < length made → (get_or made k d).1 ≡ means.diagnosed (state_at means text k) (sentence_at text (span_of (sentences 0 0 text) k))
  unfolding nowhere
  kept_told k d h2 =
      let long : length (first_parts text (length made)) ≡ length made = first_long text (length made) few in
      let spot : get_or (first_parts text (length made)) k (sentence_at text nowhere) ≡ sentence_at text (span_of (sentences 0 0 text) k) =
      get_or-map (sentence_at text) (take (length made) (sentences 0 0 text)) k nowhere (sentence_at text nowhere) (omega (arith, long, h2, length-map (take (length made) (sentences 0 0 text)) (sentence_at text)))
      ∙ ap (sentence_at text) (grind (arith, common_steps)) in
      ap (λ ps. (get_or ps k d).1) h.made_is
      ∙ ap (λ p. p.1) (trail_at means means.first (first_parts text (length made)) k d (sentence_at text nowhere) (omega (arith, h2, long)))
      ∙ ap (λ ss. means.diagnosed (state_behind means ss) (get_or (first_parts text (length made)) k (sentence_at text nowhere))) (take_first text k (length made) (omega (arith, h2)))
      ∙ ap (means.diagnosed (state_at means text k)) spot

  -- one sentence more is finished
  pub put_kept : (m : M) (ds : List RelDiag) (grown : List (M × List RelDiag)) → length made < count text → m ≡ means.after (state_at means text (length made)) (sentence_at text (span_of (sentences 0 0 text) (length made))) → ds ≡ means.diagnosed (state_at means text (length made)) (sentence_at text (span_of (sentences 0 0 text) (length made))) → grown ≡ made ++ (m, ds) ∷ [] → IsDoc means text spans first grown
  put_kept m ds grown left is told grown_is =
      let s : Sentence = sentence_at text (span_of (sentences 0 0 text) (length made)) in
      let before : M = state_at means text (length made) in
      let size : length grown ≡ length made + 1 = ap length grown_is ∙ grind (arith, common_steps) in
      record {
        short = h.short;
        split = h.split;
        placed = h.placed;
        few = omega (arith, size, left, ap length h.split);
        first_is = h.first_is;
        made_is =
            grown_is
            ∙ ap (λ ps. ps ++ (m, ds) ∷ []) h.made_is
            ∙ ap (λ x. trail means means.first (first_parts text (length made)) ++ (x, ds) ∷ []) is
            ∙ ap (λ x. trail means means.first (first_parts text (length made)) ++ (means.after before s, x) ∷ []) told
            ∙ sym (trail_more means means.first (first_parts text (length made)) s)
            ∙ ap (trail means means.first) (sym (first_more text (length made) left))
            ∙ ap (λ n. trail means means.first (first_parts text n)) (sym size);
      }

-- the same, as callers see it
pub put_seen : {M F : Type 0} (means : Meanings M) (of : F → M × List RelDiag) (number : F → ℕ) (text : List ℕ) (spans : List Span) (first : M) (items grown : List F) (f : F) (old : Doc) → old ≡ doc text (map number items) → IsDoc means text spans first (map of items) → all_done old ≡ false → (of f).0 ≡ means.after (state_here means old) (next_of old) → (of f).1 ≡ means.diagnosed (state_here means old) (next_of old) → grown ≡ items ++ f ∷ [] → IsDoc means text spans first (map of grown)
put_seen {M} {F} means of number text spans first items grown f old seen h left is told grown_is =
    let size : length (map number items) ≡ length (map of items) = length-map items number ∙ sym (length-map items of) in
    let unended : all_done (doc text (map number items)) ≡ false = subst (λ d. all_done d ≡ false) seen left in
    let more : length (map number items) < count text = grind (arith, nat_tests) in
    put_kept means text spans first (map of items) h (of f).0 (of f).1 (map of grown) (omega (arith, more, size))
    (is ∙ ap (λ d. means.after (state_here means d) (next_of d)) seen
    ∙ ap (λ n. means.after (state_at means text n) (sentence_at text (span_of (sentences 0 0 text) n))) size)
    (told ∙ ap (λ d. means.diagnosed (state_here means d) (next_of d)) seen
    ∙ ap (λ n. means.diagnosed (state_at means text n) (sentence_at text (span_of (sentences 0 0 text) n))) size)
    (ap (map of) grown_is ∙ map-append of items (f ∷ []))

-- the state behind the first so many, as it is kept
pub state_seen : {M F : Type 0} (means : Meanings M) (of : F → M × List RelDiag) (number : F → ℕ) (text : List ℕ) (spans : List Span) (first : M) (items : List F) (old : Doc) (k : ℕ) (d : F) → old ≡ doc text (map number items) → IsDoc means text spans first (map of items) → k ≤ done old → (k ≡ 0 → ⊥) → (of (get_or items (k - 1) d)).0 ≡ state_at means old.text k
state_seen means of number text spans first items old k d seen h most some =
    let size : length (map of items) ≡ length items = length-map items of in
    let within : k ≤ length items = omega (arith, most, ap done seen, length-map items number) in
    ap (λ p. p.0) (sym (get_or-map of items (k - 1) d (of d) (omega (arith, within, some))))
    ∙ kept_state means text spans first (map of items) h k (of d) (omega (arith, some)) (omega (arith, within, size))
    ∙ ap (λ x. state_at means x.text k) (sym seen)

-- the same sentences
parts_cons : (s t : Sentence) (ss ts : List Sentence) (n : ℕ) → s ≡ t → take n ss ≡ take n ts → take (suc n) (s ∷ ss) ≡ take (suc n) (t ∷ ts)
parts_cons s t ss ts n e f = ap (λ x. x ∷ take n ss) e ∙ ap (λ xs. t ∷ xs) f

pub key_from : Sentence → Key
key_from s = record { from = 0; kind = s.kind; text = s.text }

same_is : (s t : Sentence) → same_sentence s t ≡ true → s ≡ t
unfolding key_from
same_is s t e = ap (λ k. sentence k.kind k.text) (key_same (key_from s) (key_from t) e)

common_take : (ss ts : List Sentence) (n : ℕ) → n ≤ common_prefix_len same_sentence ss ts → take n ss ≡ take n ts
common_take ss ts zero h = refl
common_take [] ts (suc n) h = absurd (omega (arith, h))
common_take (s ∷ ss) [] (suc n) h = absurd (omega (arith, h))
common_take (s ∷ ss) (t ∷ ts) (suc n) h = by_test (same_sentence s t) refl h (common_take ss ts n)
  where
    by_test : (b : Bool) → same_sentence s t ≡ b → suc n ≤ cond b (1 + common_prefix_len same_sentence ss ts) 0 → (n ≤ common_prefix_len same_sentence ss ts → take n ss ≡ take n ts) → take (suc n) (s ∷ ss) ≡ take (suc n) (t ∷ ts)
    by_test true e h later = parts_cons s t ss ts n (same_is s t e) (later (omega (arith, h)))
    by_test false e h later = absurd (omega (arith, h))

-- texts have the same first sentences
pub first_same : (text other : List ℕ) (k : ℕ) → k ≤ common_prefix_len same_sentence (parts text) (parts other) → first_parts text k ≡ first_parts other k
first_same text other k h =
    sym (take-map (sentence_at text) k (sentences 0 0 text)) ∙ common_take (parts text) (parts other) k h ∙ take-map (sentence_at other) k (sentences 0 0 other)

-- what is kept of another text
pub change_kept : {M : Type 0} (means : Meanings M) (text other : List ℕ) (spans places : List Span) (first : M) (made : List (M × List RelDiag)) (kept : ℕ) → IsDoc means text spans first made → length other ≤ TEXT_LIMIT → places ≡ sentences 0 0 other → All (IsSpanOf other) places → kept ≤ length made → kept ≤ common_prefix_len same_sentence (parts text) (parts other) → IsDoc means other places first (take kept made)
change_kept means text other spans places first made kept h short split placed within common =
    let size : length (take kept made) ≡ kept = omega (arith, length-take kept made, within) in
    let most = (common_prefix_len-le same_sentence (parts text) (parts other)).1 in
    record {
      short = short;
      split = split;
      placed = placed;
      few = omega (arith, size, common, most, length-map (sentences 0 0 other) (sentence_at other), ap length split);
      first_is = h.first_is;
      made_is =
          ap (take kept) h.made_is
          ∙ take_trail means means.first (first_parts text (length made)) kept
          ∙ ap (trail means means.first) (take_first text kept (length made) within ∙ first_same text other kept common)
          ∙ ap (λ n. trail means means.first (first_parts other n)) (sym size);
    }

-- the same, as callers see it
pub change_seen : {M F : Type 0} (means : Meanings M) (of : F → M × List RelDiag) (text other seen new : List ℕ) (spans places : List Span) (first : M) (items cut : List F) (most kept : ℕ) → IsDoc means text spans first (map of items) → length other ≤ TEXT_LIMIT → places ≡ sentences 0 0 other → All (IsSpanOf other) places → seen ≡ text → new ≡ other → most ≡ length items → kept ≡ min most (common_prefix_len same_sentence (parts seen) (parts new)) → cut ≡ take kept items → IsDoc means other places first (map of cut)
change_seen means of text other seen new spans places first items cut most kept h short split placed old_is new_is most_is kept_is cut_is =
    let common : kept ≤ common_prefix_len same_sentence (parts text) (parts other) =
    subst (λ t. kept ≤ common_prefix_len same_sentence (parts t) (parts other)) old_is
    (subst (λ t. kept ≤ common_prefix_len same_sentence (parts seen) (parts t)) new_is (grind (arith, common_steps, kept_is))) in
    let few : kept ≤ most = grind (arith, common_steps, kept_is) in
    subst (IsDoc means other places first) (sym (ap (map of) cut_is ∙ sym (take-map of kept items)))
    (change_kept means text other spans places first (map of items) kept h short split placed (omega (arith, few, most_is, length-map items of)) common)

pub change_new : {F : Type 0} (number : F → ℕ) (text other seen new : List ℕ) (items cut : List F) (most kept : ℕ) (old : Doc) → old ≡ doc text (map number items) → seen ≡ text → new ≡ other → most ≡ length items → kept ≡ min most (common_prefix_len same_sentence (parts seen) (parts new)) → cut ≡ take kept items → doc other (map number cut) ≡ changed other old
change_new number text other seen new items cut most kept old seen_is old_is new_is most_is kept_is cut_is =
    ap (λ ns. doc other ns)
    (ap (map number) cut_is ∙ sym (take-map number kept items)
    ∙ ap (λ k. take k (map number items))
    (kept_is
    ∙ ap (λ t. min most (common_prefix_len same_sentence (parts t) (parts new))) old_is
    ∙ ap (λ t. min most (common_prefix_len same_sentence (parts text) (parts t))) new_is
    ∙ ap (λ n. min n (common_prefix_len same_sentence (parts text) (parts other))) (most_is ∙ sym (length-map items number))))
    ∙ ap (changed other) (sym seen_is)
