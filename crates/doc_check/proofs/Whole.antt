-- A text is checked to its end over a table of its own, and then edited.
use Rattle.std.proofs.Common.{◌≡◌, ℕ, suc, zero, ◌+◌, ◌-◌, ◌<◌, ◌≤◌, min, Bool, true, false, cond, if◌then◌else◌, Result, Ok, Err, OnOk, List, [], ◌∷◌, length, length-take, take, drop, get_or, Contains, ◌⊎◌, inl, inr, refl, sym, ◌∙◌, ap, subst, arith}
use Rattle.std.specs.List.{common_prefix_len}
use Rattle.std.proofs.lemmas.Bool.Decides.{nat_tests}
use Rattle.std.proofs.lemmas.Grind.{common_steps}
use Rattle.std.proofs.lemmas.List.{drop_more, drop_all, length-map, get_or-map}
use Rattle.std.proofs.lemmas.List.Sums.{common_prefix_len-le}
use Rattle.base_core.specs.declared.limits.TheConstants.{COST_LIMIT, TABLE_LIMIT}
use Rattle.base_core.specs.declared.kind.Kind.TheVariants.{Plain}
use Rattle.sentence_split.specs.declared.spans.Span.{Span}
use Rattle.sentence_split.specs.Sentences.{sentences}
use Rattle.prover_iface.specs.Sentences.{Sentence}
use Rattle.prover_iface.specs.Meanings.{Meanings}
use Rattle.prover_iface.specs.Exec.{Works}
use Rattle.memo_table.specs.declared.key.Key.{Key}
use Rattle.memo_table.specs.declared.slots.Entry.{Entry}
use Rattle.memo_table.specs.Entries.{entry_of, entered}
use Rattle.memo_table.specs.Table.{Table, table, with_rows}
use Rattle.memo_table.specs.Fits.{sentence_of, Fits}
use Rattle.memo_table.proofs.Keys.{key_same, key_refl, number_none}
use Rattle.doc_check.specs.declared.advance.Advance.{Advance}
use Rattle.doc_check.specs.declared.advance.Advance.TheVariants as advance
use Rattle.doc_check.specs.Check.{sentence_at, span_of, count, costs}
use Rattle.doc_check.specs.Document.{Doc, doc, parts, state_at, done, all_done, last_of, next_of, next_key, state_here, with_number, Took, took, taken, IsTaken, same_sentence, kept_of, changed}
use Rattle.doc_check.specs.Stands.{Follows, Moved, Runs, Advanced, cost_here}
use Rattle.doc_check.specs.Checked.{IsOwn, IsChecked, IsUnderWay, cost_left}
use Rattle.doc_check.proofs.Trail.{state_more}
use Rattle.base_core.specs.declared.memory.NoMem.{NoMem}
use Rattle.doc_check.proofs.Taking.{unfinished, more_done, none_taken, last_at, number_before, number_last, either}
use Rattle.doc_check.proofs.Advancing.{nothing_follows}

nowhere : Span
nowhere = record { from = 0; to = 0; kind = Plain }

part_at : (text : List ℕ) (k : ℕ) (s : Sentence) → k < count text → get_or (parts text) k s ≡ sentence_at text (span_of (sentences 0 0 text) k)
unfolding nowhere
part_at text k s h = get_or-map (sentence_at text) (sentences 0 0 text) k nowhere s h

parts_long : (text : List ℕ) → length (parts text) ≡ count text
parts_long text = length-map (sentences 0 0 text) (sentence_at text)

-- one sentence less is left
pub left_step : {M : Type 0} (means : Meanings M) (d : Doc) (n : ℕ) → all_done d ≡ false → cost_left means d ≡ means.cost (state_here means d) (next_of d) + cost_left means (with_number n d)
left_step means d n left =
    let less : done d < count d.text = unfinished d left in
    ap (costs means (state_here means d))
    (drop_more (parts d.text) (done d) (next_of d) (omega (arith, less, parts_long d.text)) ∙ ap (λ s. s ∷ drop (done d + 1) (parts d.text)) (part_at d.text (done d) (next_of d) less))
    ∙ ap (λ m. means.cost (state_here means d) (next_of d) + costs means m (drop (done d + 1) (parts d.text))) (sym (state_more means d.text (done d) less))
    ∙ ap (λ k. means.cost (state_here means d) (next_of d) + costs means (state_at means d.text k) (drop k (parts d.text))) (sym (more_done d n))

-- none is left
pub left_none : {M : Type 0} (means : Meanings M) (d : Doc) → all_done d ≡ true → cost_left means d ≡ 0
left_none means d ended =
    let most : count d.text ≤ done d = grind (arith, nat_tests) in
    ap (costs means (state_here means d)) (drop_all (done d) (parts d.text) (omega (arith, most, parts_long d.text)))

-- work that was counted, by what was left before and after
pub left_on : {M : Type 0} (means : Meanings M) (before here now : ℕ) (c d e : Doc) (n : ℕ) → e ≡ with_number n d → all_done d ≡ false → here + cost_left means d ≡ before + cost_left means c → now ≡ here + cost_here means d → now + cost_left means e ≡ before + cost_left means c
left_on means before here now c d e n is left so_far more =
    let cost : cost_here means d ≡ means.cost (state_here means d) (next_of d) = ap (λ b. if b then 0 else means.cost (state_here means d) (next_of d)) left in
    omega (arith, so_far, more, cost, left_step means d n left, ap (cost_left means) is)

pub left_broken : {M : Type 0} (means : Meanings M) (before here now : ℕ) (c d : Doc) → all_done d ≡ false → here + cost_left means d ≡ before + cost_left means c → here ≤ now → now ≤ here + cost_here means d → before ≤ here → (before ≤ now) × (now ≤ before + cost_left means c)
left_broken means before here now c d left so_far least most less =
    let cost : cost_here means d ≡ means.cost (state_here means d) (next_of d) = ap (λ b. if b then 0 else means.cost (state_here means d) (next_of d)) left in
    let step = left_step means d 0 left in
    (omega (arith, least, less), omega (arith, so_far, most, cost, step))

-- the last number, where the numbers are 1 and on
numbers_last : (d : Doc) → ((k : ℕ) → k < done d → get_or d.numbers k 0 ≡ k + 1) → last_of d.numbers ≡ done d
numbers_last d h = by (done d) refl
  where
    by : (n : ℕ) → done d ≡ n → last_of d.numbers ≡ n
    by zero e = ap (λ k. get_or (0 ∷ d.numbers) k 0) e
    by (suc n) e = let is : n + 1 ≡ suc n = omega arith in last_at d.numbers n e ∙ h n (omega (arith, e)) ∙ is

module _ {M : Type 0} where
  -- the next sentence has no entry
  pub own_taken : (d : Doc) (rows : List (ℕ × Entry M)) → IsOwn d rows → IsTaken d rows
  own_taken d rows o = λ left. sym (number_none (next_key d) rows (λ e there same.
      let key : next_key d ≡ e.1.key = key_same (next_key d) e.1.key same in
      omega (arith, o.earlier e there, ap (λ k. k.from) key, numbers_last d o.numbers)))

  entry_cases : (n : ℕ) (f : ℕ × Entry M) (rows : List (ℕ × Entry M)) (e : ℕ × Entry M) (k : ℕ) → k < length (f ∷ take n rows) → get_or (f ∷ take n rows) k e ≡ e → (f ≡ e) ⊎ Contains rows e
  entry_cases n f rows e zero h is = inl is
  entry_cases n f rows e (suc k) h is =
      let less : k < length (take n rows) = omega (arith, h) in
      let same : get_or (take n rows) k e ≡ get_or rows k e = grind (arith, common_steps, less) in
      inr (k, omega (arith, less, length-take n rows), sym same ∙ is)

  -- it gets one
  own_more : (limit n : ℕ) (d : Doc) (rows : List (ℕ × Entry M)) (made : M) → IsOwn d rows → n ≡ done d + 1 → IsOwn (with_number n d) (entered limit (n, entry_of (next_key d) made) rows)
  own_more limit n d rows made o is =
      let size : done (with_number n d) ≡ done d + 1 = more_done d n in
      let last : last_of d.numbers ≡ done d = numbers_last d o.numbers in
      record {
        numbers = λ k h. elim (either k (done d) (omega (arith, h, size))) [
          | inl less ↦ number_before d n k less ∙ o.numbers k less
          | inr same ↦ number_last d n k same ∙ is ∙ ap (λ i. i + 1) (sym same)
        ];
        earlier = λ e c. elim (entry_cases (limit - 1) (n, entry_of (next_key d) made) rows e c.0 c.1 c.2) [
          | inl here ↦ subst (λ x. x.1.key.from < done (with_number n d)) here (omega (arith, last, size))
          | inr there ↦ omega (arith, size, o.earlier e there)
        ];
        own = λ e c. elim (entry_cases (limit - 1) (n, entry_of (next_key d) made) rows e c.0 c.1 c.2) [
          | inl here ↦ subst (λ x. sentence_of x.1.key ≡ sentence_at d.text (span_of (sentences 0 0 d.text) x.1.key.from)) here (ap (λ k. sentence_at d.text (span_of (sentences 0 0 d.text) k)) (sym last))
          | inr there ↦ o.own e there
        ];
      }

module _ {S M : Type 0} (meaning : S → M) (means : Meanings M) where
  -- nothing is finished yet
  way_start : (root : S) (text : List ℕ) → meaning root ≡ means.first → IsUnderWay meaning means (table root 0 []) (doc text [])
  way_start root text first = record {
    stands = record {
      prefix = λ n. [];
      fits = record { zero = refl; root = first; rows = λ e c. absurd (let within = c.1 in omega (arith, within)) };
      follows = nothing_follows (λ n. []) 0 text;
    };
    given = refl;
    few = omega arith;
    own = record { numbers = λ k h. absurd (omega (arith, h)); earlier = λ e c. absurd (let within = c.1 in omega (arith, within)); own = λ e c. absurd (let within = c.1 in omega (arith, within)) };
  }

  pub way_begun : (t : Table S) (d : Doc) (root : S) (text : List ℕ) → t ≡ table root 0 [] → d ≡ doc text [] → meaning root ≡ means.first → IsUnderWay meaning means t d
  way_begun t d root text t_is d_is first =
      subst (λ x. IsUnderWay meaning means x d) (sym t_is) (subst (λ x. IsUnderWay meaning means (table root 0 []) x) (sym d_is) (way_start root text first))

  -- a call that takes none first
  pub runs_here : (units : ℕ) (t u : Table S) (d e : Doc) (result : Result Advance NoMem) → IsUnderWay meaning means t d → Advanced meaning means units t d result u e → Runs meaning means units t d result u e
  runs_here units t u d e result w ran = subst (λ x. Runs meaning means units (with_rows t x.rows) x.doc result u e) (none_taken d t.rows (own_taken d t.rows w.own)) ran

  pub works_here : {A E : Type 0} (units before now : ℕ) (t : Table S) (d : Doc) (result : Result A E) → IsUnderWay meaning means t d → Works (cost_here means (taken d t.rows).doc) units before now result → Works (cost_here means d) units before now result
  works_here units before now t d result w works = subst (λ x. Works (cost_here means x.doc) units before now result) (none_taken d t.rows (own_taken d t.rows w.own)) works

  -- one sentence more is finished
  pub way_on : (units spent : ℕ) (t u : Table S) (d e : Doc) → IsUnderWay meaning means t d → Runs meaning means units t d (Ok (advance.Finished spent)) u e → ((p : ℕ → List Sentence) → Fits meaning means p t → Follows p t.given d → Moved meaning means p t u e) → IsUnderWay meaning means u e × (e ≡ with_number (done d + 1) d)
  way_on units spent t u d e w ran move =
      let m = move w.stands.prefix w.stands.fits w.stands.follows in
      let next : e ≡ with_number (done d + 1) d = ran.3 ∙ ap (λ n. with_number (n + 1) d) w.given in
      let kept = ran.4 in
      let less : done d < count d.text = unfinished d ran.0 in
      let size : done e ≡ done d + 1 = ap done next ∙ more_done d (done d + 1) in
      let rows : u.rows ≡ entered TABLE_LIMIT (done d + 1, entry_of (next_key d) kept.made) t.rows =
      ap (λ x. x.rows) kept.kept ∙ ap (λ n. entered TABLE_LIMIT (n + 1, entry_of (next_key d) kept.made) t.rows) w.given in (
        record {
          stands = record { prefix = m.now; fits = m.fits; follows = m.follows };
          given = ap (λ x. x.given) kept.kept ∙ ap (λ n. n + 1) w.given ∙ sym size;
          few = omega (arith, size, less, ap (λ x. count x.text) next);
          own = subst (IsOwn e) (sym rows) (subst (λ x. IsOwn x (entered TABLE_LIMIT (done d + 1, entry_of (next_key d) kept.made) t.rows)) (sym next)
              (own_more TABLE_LIMIT (done d + 1) d t.rows kept.made w.own refl));
        },
        next,
      )

  module _ (bounded : (m : M) (s : Sentence) → means.cost m s ≤ COST_LIMIT) (t u : Table S) (d e : Doc) (w : IsUnderWay meaning means t d) (left : all_done d ≡ false) (result : Result Advance NoMem) (ran : Advanced meaning means COST_LIMIT t d result u e) where
    ran_so : (so : Result Advance NoMem) → result ≡ so → Runs meaning means COST_LIMIT t d so u e
    ran_so so is = subst (λ x. Runs meaning means COST_LIMIT t d x u e) is (runs_here COST_LIMIT t u d e result w ran)

    pub not_ended : result ≡ Ok advance.Ended → ⊥
    not_ended is = let ended : all_done d ≡ true = (ran_so (Ok advance.Ended) is).0 in cc

    pub not_interrupted : result ≡ Ok advance.Interrupted → ⊥
    not_interrupted is = let more = (ran_so (Ok advance.Interrupted) is).1 in omega (arith, more, bounded (state_here means d) (next_of d))

    pub went_on : (spent : ℕ) → result ≡ Ok (advance.Finished spent) → ((p : ℕ → List Sentence) → Fits meaning means p t → Follows p t.given d → Moved meaning means p t u e) → IsUnderWay meaning means u e × (e ≡ with_number (done d + 1) d)
    went_on spent is move = way_on COST_LIMIT spent t u d e w (ran_so (Ok (advance.Finished spent)) is) move

    cost_is : cost_here means d ≡ means.cost (state_here means d) (next_of d)
    cost_is = ap (λ b. if b then 0 else means.cost (state_here means d) (next_of d)) left

    least : min (cost_here means d) COST_LIMIT ≡ cost_here means d
    least = let small : cost_here means d ≤ COST_LIMIT = omega (arith, cost_is, bounded (state_here means d) (next_of d)) in grind (arith, common_steps, small)

    pub work_done : (before now : ℕ) (a : Advance) → result ≡ Ok a → Works (cost_here means (taken d t.rows).doc) COST_LIMIT before now result → now ≡ before + cost_here means d
    work_done before now a is works = subst (Works (cost_here means d) COST_LIMIT before now) is (works_here COST_LIMIT before now t d result w works) ∙ ap (λ n. before + n) least

    pub work_broken : (before now : ℕ) (x : NoMem) → result ≡ Err x → Works (cost_here means (taken d t.rows).doc) COST_LIMIT before now result → (before ≤ now) × (now ≤ before + cost_here means d)
    work_broken before now x is works =
        let h = subst (Works (cost_here means d) COST_LIMIT before now) is (works_here COST_LIMIT before now t d result w works) in
        (h.0, omega (arith, h.1, least))

  -- at the end
  pub way_ended : (t : Table S) (d : Doc) → IsUnderWay meaning means t d → all_done d ≡ true → IsChecked (took d t.rows)
  way_ended t d w ended =
      let most : count d.text ≤ done d = grind (arith, nat_tests) in
      record { ended = ended; all = omega (arith, most, w.few); own = w.own }

cut_off : (ss ts : List Sentence) (k : ℕ) (s : Sentence) → k ≡ common_prefix_len same_sentence ss ts → k < length ss → k < length ts → same_sentence (get_or ss k s) (get_or ts k s) ≡ false
cut_off [] ts k s e h i = absurd (omega (arith, h))
cut_off (x ∷ ss) [] k s e h i = absurd (omega (arith, i))
cut_off (x ∷ ss) (y ∷ ts) k s e h i = by (same_sentence x y) refl e (cut_off ss ts (common_prefix_len same_sentence ss ts) s refl)
  where
    by : (b : Bool) → same_sentence x y ≡ b → k ≡ cond b (1 + common_prefix_len same_sentence ss ts) 0 → (common_prefix_len same_sentence ss ts < length ss → common_prefix_len same_sentence ss ts < length ts → same_sentence (get_or ss (common_prefix_len same_sentence ss ts) s) (get_or ts (common_prefix_len same_sentence ss ts) s) ≡ false) → same_sentence (get_or (x ∷ ss) k s) (get_or (y ∷ ts) k s) ≡ false
    by false f e later = subst (λ n. same_sentence (get_or (x ∷ ss) n s) (get_or (y ∷ ts) n s) ≡ false) (sym e) f
    by true f e later =
        let one : k ≡ suc (common_prefix_len same_sentence ss ts) = omega (arith, e) in
        subst (λ n. same_sentence (get_or (x ∷ ss) n s) (get_or (y ∷ ts) n s) ≡ false) (sym one) (later (omega (arith, h, one)) (omega (arith, i, one)))

key_from : Sentence → Key
key_from s = record { from = 0; kind = s.kind; text = s.text }

itself : (s t : Sentence) → s ≡ t → same_sentence s t ≡ true
unfolding key_from
itself s t e = subst (λ x. same_sentence s x ≡ true) e (key_refl (key_from s))

-- behind the sentences that two texts begin with
differs_there : (text other : List ℕ) (k : ℕ) → k ≡ kept_of text other → k < count text → k < count other → sentence_at text (span_of (sentences 0 0 text) k) ≡ sentence_at other (span_of (sentences 0 0 other) k) → ⊥
differs_there text other k is a b same =
    let s : Sentence = sentence_at text (span_of (sentences 0 0 text) k) in
    let apart : same_sentence (get_or (parts text) k s) (get_or (parts other) k s) ≡ false =
    cut_off (parts text) (parts other) k s is (omega (arith, a, parts_long text)) (omega (arith, b, parts_long other)) in
    let equal : same_sentence (get_or (parts text) k s) (get_or (parts other) k s) ≡ true =
    itself (get_or (parts text) k s) (get_or (parts other) k s) (part_at text k s a ∙ same ∙ sym (part_at other k s b)) in
    cc

-- of another text that begins with these sentences the table has no further one
pub kept_whole : {M : Type 0} (d : Doc) (rows : List (ℕ × Entry M)) (text : List ℕ) (e : Took M) → IsChecked (took d rows) → e ≡ taken (changed text d) rows → done e.doc ≡ kept_of d.text text
kept_whole {M} d rows text e w is =
    let kept : ℕ = kept_of d.text text in
    let most = (common_prefix_len-le same_sentence (parts d.text) (parts text)).0 in
    let few : kept ≤ done d = omega (arith, most, parts_long d.text, w.all) in
    let c : Doc = changed text d in
    let size : done c ≡ kept = length-take (min (done d) kept) d.numbers ∙ grind (arith, common_steps) in
    let same : (k : ℕ) → k < done c → get_or c.numbers k 0 ≡ k + 1 = λ k h.
    let there : get_or c.numbers k 0 ≡ get_or d.numbers k 0 = grind (arith, common_steps) in
    there ∙ w.own.numbers k (omega (arith, h, size, few)) in
    let last : last_of c.numbers ≡ kept = numbers_last c same ∙ size in
    let none : IsTaken c rows = λ left. sym (number_none (next_key c) rows (λ x there found.
    let key : next_key c ≡ x.1.key = key_same (next_key c) x.1.key found in
    let from : x.1.key.from ≡ kept = ap (λ k. k.from) (sym key) ∙ last in
    let here : next_of c ≡ sentence_at text (span_of (sentences 0 0 text) kept) = ap (λ k. sentence_at text (span_of (sentences 0 0 text) k)) size in
    let old : next_of c ≡ sentence_at d.text (span_of (sentences 0 0 d.text) kept) =
    ap sentence_of key ∙ w.own.own x there ∙ ap (λ k. sentence_at d.text (span_of (sentences 0 0 d.text) k)) from in
    differs_there d.text text kept refl (omega (arith, w.own.earlier x there, from, w.all)) (omega (arith, unfinished c left, size)) (sym old ∙ here))) in
    ap (λ x. done x.doc) (is ∙ none_taken c rows none) ∙ size

pub edit_taken : {S : Type 0} (t u : Table S) (c e : Doc) → e ≡ (taken c t.rows).doc → u ≡ with_rows t (taken c t.rows).rows → took e u.rows ≡ taken c t.rows
edit_taken t u c e is rows = ap (λ x. took x u.rows) is ∙ ap (λ x. took (taken c t.rows).doc x.rows) rows

pub kept_seen : {M A E : Type 0} (result : Result A E) (d : Doc) (rows : List (ℕ × Entry M)) (text : List ℕ) (e : Doc) (old : Took M) → old ≡ took d rows → OnOk result (e ≡ (taken (changed text d) rows).doc) → OnOk result (IsChecked old → done e ≡ kept_of old.doc.text text)
kept_seen (Err _) d rows text e old seen is = tt
kept_seen (Ok _) d rows text e old seen is = λ w.
    ap done is ∙ kept_whole d rows text (taken (changed text d) rows) (subst IsChecked seen w) refl ∙ ap (λ o. kept_of o.doc.text text) (sym seen)
