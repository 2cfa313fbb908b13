-- Kept sentences are taken, and new ones are entered.
use Rattle.std.proofs.Common.{◌≡◌, ℕ, ◌+◌, ◌-◌, ◌<◌, ◌≤◌, nat_eq, Bool, true, false, Option, Some, None, IsSome, List, [], ◌∷◌, ◌++◌, length, length-append, get_or, zero, suc, refl, sym, ◌∙◌, ap, subst, arith, inl, inr, ◌⊎◌}
use Rattle.std.proofs.lemmas.Bool.Decides.{nat_tests}
use Rattle.std.proofs.lemmas.Grind.{common_steps}
use Rattle.prover_iface.specs.Sentences.{Sentence}
use Rattle.prover_iface.specs.Meanings.{Meanings, state_behind}
use Rattle.memo_table.specs.declared.key.Key.{Key}
use Rattle.memo_table.specs.declared.slots.Entry.{Entry}
use Rattle.memo_table.specs.declared.table.Kept.{Kept}
use Rattle.memo_table.specs.Entries.{number_of, made_of, touched}
use Rattle.memo_table.specs.Table.{Table, with_rows}
use Rattle.memo_table.specs.Fits.{behind_key, extended, IsMade, Fits}
use Rattle.memo_table.proofs.Standing.{touched_fits, kept_fits, number_stands, entry_stands, number_is_held}
use Rattle.doc_check.specs.Check.{count}
use Rattle.doc_check.specs.Document.{Doc, first_parts, done, all_done, last_of, next_of, next_key, state_here, with_number, took, taken_by, taken_most, taken, IsTaken}
use Rattle.doc_check.specs.Stands.{Follows, Stands, Moved, IsHeld, IsKept, TookOne}
use Rattle.doc_check.proofs.Trail.{first_more}

pub unfinished : (d : Doc) → all_done d ≡ false → done d < count d.text
unfinished d e = grind (arith, nat_tests)

pub more_done : (d : Doc) (n : ℕ) → done (with_number n d) ≡ done d + 1
more_done d n = length-append d.numbers (n ∷ []) ∙ omega arith

module _ {M : Type 0} where
  -- a sentence that is found is taken first
  pub one_taken : (d : Doc) (rows : List (ℕ × Entry M)) (n : ℕ) → all_done d ≡ false → number_of (next_key d) rows ≡ Some n → taken (with_number n d) (touched (next_key d) rows) ≡ taken d rows
  one_taken d rows n left e =
      let one : count d.text - done d ≡ suc (count d.text - done (with_number n d)) = omega (arith, more_done d n, unfinished d left) in
      sym (ap (λ k. taken_most k d rows) one ∙ ap (λ o. taken_by (λ x es. taken_most (count d.text - done (with_number n d)) x es) o d rows) e)

  none_most : (left : ℕ) (d : Doc) (rows : List (ℕ × Entry M)) → left ≡ count d.text - done d → IsTaken d rows → taken_most left d rows ≡ took d rows
  none_most zero d rows e h = refl
  none_most (suc left) d rows e h =
      let more : done d < count d.text = omega (arith, e) in
      let none : all_done d ≡ false = grind (arith, nat_tests) in
      ap (λ o. taken_by (λ x es. taken_most left x es) o d rows) (h none)

  -- where no further one is found, that is all
  pub none_taken : (d : Doc) (rows : List (ℕ × Entry M)) → IsTaken d rows → taken d rows ≡ took d rows
  none_taken d rows h = none_most (count d.text - done d) d rows refl h

  pub ended_taken : (d : Doc) (rows : List (ℕ × Entry M)) → all_done d ≡ true → IsTaken d rows
  ended_taken d rows e = λ f. cc

  pub unfound_taken : (d e : Doc) (rows after : List (ℕ × Entry M)) → e ≡ d → after ≡ touched (next_key d) rows → number_of (next_key d) rows ≡ None → (taken e after ≡ taken d rows) × IsTaken e after
  unfound_taken d e rows after same moved none =
      let stays : after ≡ rows = moved ∙ (rw none refl) in (
        ap (λ x. taken x after) same ∙ ap (taken d) stays,
        λ left. ap (λ x. number_of (next_key x) after) same ∙ ap (number_of (next_key d)) stays ∙ none,
      )

some_of : {X : Type 0} (o : Option X) → IsSome o → (x : X) × (o ≡ Some x)
some_of None h = cc
some_of (Some x) h = (x, refl)

pub last_at : (numbers : List ℕ) (n : ℕ) → length numbers ≡ suc n → last_of numbers ≡ get_or numbers n 0
last_at numbers n e = ap (λ k. get_or (0 ∷ numbers) k 0) e

-- what the last number stands for
last_by : (prefix : ℕ → List Sentence) (given : ℕ) (d : Doc) (n : ℕ) → done d ≡ n → prefix 0 ≡ [] → Follows prefix given d → (prefix (last_of d.numbers) ≡ first_parts d.text n) × (last_of d.numbers ≤ given)
last_by prefix given d zero e none f =
    let is : last_of d.numbers ≡ 0 = ap (λ k. get_or (0 ∷ d.numbers) k 0) e in
    (ap prefix is ∙ none, omega (arith, is))
last_by prefix given d (suc n) e none f =
    let is : last_of d.numbers ≡ get_or d.numbers n 0 = last_at d.numbers n e in
    let one : n + 1 ≡ suc n = omega arith in
    (ap prefix is ∙ f.stands n (omega (arith, e)) ∙ ap (first_parts d.text) one, omega (arith, is, f.known n (omega (arith, e))))

pub last_stands : (prefix : ℕ → List Sentence) (given : ℕ) (d : Doc) → prefix 0 ≡ [] → Follows prefix given d → (prefix (last_of d.numbers) ≡ first_parts d.text (done d)) × (last_of d.numbers ≤ given)
last_stands prefix given d none f = last_by prefix given d (done d) refl none f

-- a further number that stands for one sentence more
pub number_before : (d : Doc) (n k : ℕ) → k < done d → get_or (with_number n d).numbers k 0 ≡ get_or d.numbers k 0
number_before d n k h = grind (arith, common_steps)

pub number_last : (d : Doc) (n k : ℕ) → k ≡ done d → get_or (with_number n d).numbers k 0 ≡ n
number_last d n k h = grind (arith, common_steps)

pub either : (k n : ℕ) → k < n + 1 → (k < n) ⊎ (k ≡ n)
either k n h = by (nat_eq k n) refl
  where
    by : (b : Bool) → nat_eq k n ≡ b → (k < n) ⊎ (k ≡ n)
    by true e = inr (grind (arith, nat_tests))
    by false e = inl (grind (arith, nat_tests))

pub follows_more : (prefix : ℕ → List Sentence) (given : ℕ) (d : Doc) (n : ℕ) → Follows prefix given d → n ≤ given → prefix n ≡ first_parts d.text (done d + 1) → Follows prefix given (with_number n d)
follows_more prefix given d n f known stands = record {
  known = λ k h. elim (either k (done d) (omega (arith, h, more_done d n))) [
    | inl less ↦ omega (arith, number_before d n k less, f.known k less)
    | inr same ↦ omega (arith, number_last d n k same, known)
  ];
  stands = λ k h. elim (either k (done d) (omega (arith, h, more_done d n))) [
    | inl less ↦ ap prefix (number_before d n k less) ∙ f.stands k less
    | inr same ↦ ap prefix (number_last d n k same) ∙ stands ∙ ap (λ i. first_parts d.text (i + 1)) (sym same)
  ];
}

-- the sentences that the next key stands for
pub next_stands : (prefix : ℕ → List Sentence) (given : ℕ) (d : Doc) → prefix 0 ≡ [] → Follows prefix given d → all_done d ≡ false → behind_key prefix (next_key d) ≡ first_parts d.text (done d + 1)
next_stands prefix given d none f left =
    ap (λ ss. ss ++ next_of d ∷ []) (last_stands prefix given d none f).0 ∙ sym (first_more d.text (done d) (unfinished d left))

module _ {S M : Type 0} (meaning : S → M) (means : Meanings M) where
  -- an entry that is found
  pub found_follows : (prefix : ℕ → List Sentence) (t : Table S) (d : Doc) (n : ℕ) → Fits meaning means prefix t → Follows prefix t.given d → all_done d ≡ false → number_of (next_key d) t.rows ≡ Some n → Follows prefix t.given (with_number n d)
  found_follows prefix t d n fits f left e =
      let stands = number_stands meaning means prefix t (next_key d) n fits e in
      follows_more prefix t.given d n f stands.1 (stands.2 ∙ next_stands prefix t.given d fits.zero f left)

  here_made : (prefix : ℕ → List Sentence) (given : ℕ) (d : Doc) (made : Kept S) → prefix 0 ≡ [] → Follows prefix given d → IsMade meaning means (state_behind means (prefix (last_of d.numbers))) (next_of d) made → IsMade meaning means (state_here means d) (next_of d) made
  here_made prefix given d made none f h = subst (λ ss. IsMade meaning means (state_behind means ss) (next_of d) made) (last_stands prefix given d none f).0 h

  pub found_held : (prefix : ℕ → List Sentence) (t : Table S) (d : Doc) (n : ℕ) → Fits meaning means prefix t → Follows prefix t.given d → number_of (next_key d) t.rows ≡ Some n → IsHeld meaning means (touched (next_key d) t.rows) n d
  found_held prefix t d n fits f e =
      let some = some_of (made_of n (touched (next_key d) t.rows)) (number_is_held t (next_key d) n e).1 in
      let stands = number_stands meaning means prefix t (next_key d) n fits e in
      record {
        made = some.0;
        found = some.1;
        value = here_made prefix t.given d some.0 fits.zero f
            (entry_stands meaning means prefix (with_rows t (touched (next_key d) t.rows)) (next_key d) n some.0 (touched_fits meaning means prefix t (next_key d) fits) stands.2 some.1);
      }

  -- nothing moved
  pub unmoved : (prefix : ℕ → List Sentence) (t u : Table S) (d e : Doc) → u ≡ t → e ≡ d → Fits meaning means prefix t → Follows prefix t.given d → Moved meaning means prefix t u e
  unmoved prefix t u d e same stays fits f =
      subst (λ x. Moved meaning means prefix t x e) (sym same)
      (subst (λ x. Moved meaning means prefix t t x) (sym stays)
      (record { now = prefix; same = λ n h. refl; more = omega arith; fits = fits; follows = f }))

  other : (prefix : ℕ → List Sentence) (n m : ℕ) (ss : List Sentence) → m < n → extended prefix n ss m ≡ prefix m
  other prefix n m ss less = let apart : nat_eq n m ≡ false = grind (arith, nat_tests) in rw apart refl

  itself : (prefix : ℕ → List Sentence) (n : ℕ) (ss : List Sentence) → extended prefix n ss n ≡ ss
  itself prefix n ss = let same : nat_eq n n ≡ true = grind (arith, nat_tests) in rw same refl

  -- a number more
  pub follows_on : (prefix : ℕ → List Sentence) (given : ℕ) (d : Doc) (ss : List Sentence) → Follows prefix given d → Follows (extended prefix (given + 1) ss) (given + 1) d
  follows_on prefix given d ss f = record {
    known = λ k h. omega (arith, f.known k h);
    stands = λ k h. other prefix (given + 1) (get_or d.numbers k 0) ss (omega (arith, f.known k h)) ∙ f.stands k h;
  }

  kept_at : (prefix : ℕ → List Sentence) (t u : Table S) (d e : Doc) → Fits meaning means prefix t → Follows prefix t.given d → (k : IsKept meaning means t u d) → Follows (extended prefix (t.given + 1) (behind_key prefix (next_key d))) (t.given + 1) e → Moved meaning means prefix t u e
  kept_at prefix t u d e fits f k follows =
      let last = last_stands prefix t.given d fits.zero f in
      subst (λ x. Moved meaning means prefix t x e) (sym k.kept)
      (record {
        now = extended prefix (t.given + 1) (behind_key prefix (next_key d));
        same = λ n h. other prefix (t.given + 1) n (behind_key prefix (next_key d)) (omega (arith, h));
        more = omega arith;
        fits = kept_fits meaning means prefix t (next_key d) k.made fits last.1
            (subst (λ ss. IsMade meaning means (state_behind means ss) (next_of d) k.made) (sym last.0) k.value);
        follows = follows;
      })

  -- an entry more, which the document has not taken
  pub kept_moved : (prefix : ℕ → List Sentence) (t u : Table S) (d e : Doc) → e ≡ d → Fits meaning means prefix t → Follows prefix t.given d → IsKept meaning means t u d → Moved meaning means prefix t u e
  kept_moved prefix t u d e same fits f k =
      subst (λ x. Moved meaning means prefix t u x) (sym same)
      (kept_at prefix t u d d fits f k (follows_on prefix t.given d (behind_key prefix (next_key d)) f))

  -- an entry more, which is the document's
  pub put_moved : (prefix : ℕ → List Sentence) (t u : Table S) (d e : Doc) → e ≡ with_number (t.given + 1) d → all_done d ≡ false → Fits meaning means prefix t → Follows prefix t.given d → IsKept meaning means t u d → Moved meaning means prefix t u e
  put_moved prefix t u d e same left fits f k =
      subst (λ x. Moved meaning means prefix t u x) (sym same)
      (kept_at prefix t u d (with_number (t.given + 1) d) fits f k
      (follows_more (extended prefix (t.given + 1) (behind_key prefix (next_key d))) (t.given + 1) d (t.given + 1)
      (follows_on prefix t.given d (behind_key prefix (next_key d)) f) (omega arith)
      (itself prefix (t.given + 1) (behind_key prefix (next_key d)) ∙ next_stands prefix t.given d fits.zero f left)))

  -- perhaps an entry more
  pub grown_moved : (prefix : ℕ → List Sentence) (t u : Table S) (d e : Doc) → e ≡ d → (u ≡ t) ⊎ IsKept meaning means t u d → Fits meaning means prefix t → Follows prefix t.given d → Moved meaning means prefix t u e
  grown_moved prefix t u d e same (inl stays) fits f = unmoved prefix t u d e stays same fits f
  grown_moved prefix t u d e same (inr kept) fits f = kept_moved prefix t u d e same fits f kept

  -- where entries only changed their order before
  pub moved_behind : (prefix : ℕ → List Sentence) (t u v : Table S) (d : Doc) → u ≡ with_rows t u.rows → Moved meaning means prefix u v d → Moved meaning means prefix t v d
  moved_behind prefix t u v d same m =
      let given : u.given ≡ t.given = ap (λ x. x.given) same in
      record { now = m.now; same = λ n h. m.same n (omega (arith, given, h)); more = omega (arith, given, m.more); fits = m.fits; follows = m.follows }

  -- what a look-up leaves
  pub look_stands : (prefix : ℕ → List Sentence) (t u : Table S) (d e : Doc) (key : Key) → u ≡ with_rows t (touched key t.rows) → e ≡ d → Fits meaning means prefix t → Follows prefix t.given d → Fits meaning means prefix u × Follows prefix t.given e
  look_stands prefix t u d e key is same fits f =
      (subst (Fits meaning means prefix) (sym is) (touched_fits meaning means prefix t key fits), subst (Follows prefix t.given) (sym same) f)

  pub take_stands : (prefix : ℕ → List Sentence) (t u : Table S) (d e : Doc) (key : Key) (found : Option ℕ) (n : ℕ) → key ≡ next_key d → found ≡ number_of key t.rows → found ≡ Some n → u ≡ with_rows t (touched key t.rows) → all_done d ≡ false → e ≡ with_number n d → Fits meaning means prefix t → Follows prefix t.given d → Fits meaning means prefix u × Follows prefix t.given e
  take_stands prefix t u d e key found n key_is looked some is left put fits f = (
    subst (Fits meaning means prefix) (sym is) (touched_fits meaning means prefix t key fits),
    subst (Follows prefix t.given) (sym put) (found_follows prefix t d n fits f left (ap (λ k. number_of k t.rows) (sym key_is) ∙ sym looked ∙ some)),
  )

  pub look_held : (t u : Table S) (d : Doc) (key : Key) (found : Option ℕ) (n : ℕ) → key ≡ next_key d → found ≡ number_of key t.rows → found ≡ Some n → u ≡ with_rows t (touched key t.rows) → Stands meaning means t d → IsHeld meaning means u.rows n d
  look_held t u d key found n key_is looked some is s =
      subst (λ es. IsHeld meaning means es n d) (sym (ap (λ x. x.rows) is ∙ ap (λ k. touched k t.rows) key_is))
      (found_held s.prefix t d n s.fits s.follows (ap (λ k. number_of k t.rows) (sym key_is) ∙ sym looked ∙ some))

  pub take_same : (t u : Table S) (d e : Doc) (key : Key) (found : Option ℕ) (n : ℕ) → key ≡ next_key d → found ≡ number_of key t.rows → found ≡ Some n → u ≡ with_rows t (touched key t.rows) → all_done d ≡ false → e ≡ with_number n d → taken e u.rows ≡ taken d t.rows
  take_same t u d e key found n key_is looked some is left put =
      ap (λ x. taken x u.rows) put ∙ ap (taken (with_number n d)) (ap (λ x. x.rows) is ∙ ap (λ k. touched k t.rows) key_is)
      ∙ one_taken d t.rows n left (ap (λ k. number_of k t.rows) (sym key_is) ∙ sym looked ∙ some)

  pub none_same : (t u : Table S) (d e : Doc) (key : Key) (found : Option ℕ) → key ≡ next_key d → found ≡ number_of key t.rows → found ≡ None → u ≡ with_rows t (touched key t.rows) → e ≡ d → (taken e u.rows ≡ taken d t.rows) × IsTaken e u.rows
  none_same t u d e key found key_is looked none is same =
      unfound_taken d e t.rows u.rows same (ap (λ x. x.rows) is ∙ ap (λ k. touched k t.rows) key_is) (ap (λ k. number_of k t.rows) (sym key_is) ∙ sym looked ∙ none)

  -- some sentences were taken, and the table changed its order alone
  pub record IsUnder (t u : Table S) (d e : Doc) : Type 0 where
    pub same : taken e u.rows ≡ taken d t.rows
    pub text : e.text ≡ d.text
    pub rows : u ≡ with_rows t u.rows
    pub stands : (prefix : ℕ → List Sentence) → Fits meaning means prefix t → Follows prefix t.given d → Fits meaning means prefix u × Follows prefix t.given e

  pub under_start : (t : Table S) (d : Doc) → IsUnder t t d d
  under_start t d = record { same = refl; text = refl; rows = refl; stands = λ prefix fits f. (fits, f) }

  given_same : (t u : Table S) → u ≡ with_rows t u.rows → u.given ≡ t.given
  given_same t u e = ap (λ x. x.given) e

  pub under_stands : (t u : Table S) (d e : Doc) → IsUnder t u d e → Stands meaning means t d → Stands meaning means u e
  under_stands t u d e h s =
      let now = h.stands s.prefix s.fits s.follows in
      record { prefix = s.prefix; fits = now.0; follows = subst (λ n. Follows s.prefix n e) (sym (given_same t u h.rows)) now.1 }

  -- with one turn more
  pub on_stands : (t u v : Table S) (d e f : Doc) → IsUnder t u d e → ((prefix : ℕ → List Sentence) → Fits meaning means prefix u → Follows prefix u.given e → Fits meaning means prefix v × Follows prefix u.given f) → (prefix : ℕ → List Sentence) → Fits meaning means prefix t → Follows prefix t.given d → Fits meaning means prefix v × Follows prefix t.given f
  on_stands t u v d e f h step prefix fits follows =
      let now = h.stands prefix fits follows in
      let next = step prefix now.0 (subst (λ n. Follows prefix n e) (sym (given_same t u h.rows)) now.1) in
      (next.0, subst (λ n. Follows prefix n f) (given_same t u h.rows) next.1)

  pub on_rows : (t u v : Table S) (d e : Doc) → IsUnder t u d e → v ≡ with_rows u v.rows → v ≡ with_rows t v.rows
  on_rows t u v d e h is = is ∙ ap (λ x. with_rows x v.rows) h.rows

  pub under_on : (t u v : Table S) (d e f : Doc) → IsUnder t u d e → taken f v.rows ≡ taken e u.rows → f.text ≡ e.text → v ≡ with_rows u v.rows → ((prefix : ℕ → List Sentence) → Fits meaning means prefix u → Follows prefix u.given e → Fits meaning means prefix v × Follows prefix u.given f) → IsUnder t v d f
  under_on t u v d e f h same text rows step = record {
    same = same ∙ h.same;
    text = text ∙ h.text;
    rows = on_rows t u v d e h rows;
    stands = on_stands t u v d e f h step;
  }

  pub under_ends : (t u v : Table S) (d e f : Doc) → IsUnder t u d e → taken f v.rows ≡ taken e u.rows → IsTaken f v.rows → took f v.rows ≡ taken d t.rows
  under_ends t u v d e f h same ends = sym (none_taken f v.rows ends) ∙ same ∙ h.same

pub smaller : (d e : Doc) (more : Bool) → more ≡ true → TookOne more d e → e.text ≡ d.text → count e.text - done e < count d.text - done d
smaller d e true is one same = omega (arith, one.0, one.1, ap count same)
smaller d e false is one same = cc
