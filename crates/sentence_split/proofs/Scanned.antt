-- What a scan passes: items, and a closing mark for each open comment.
use Rattle.std.proofs.Common.{◌≡◌, ℕ, Bool, true, false, eqb, Option, None, Some, List, [], ◌∷◌, ◌++◌, zero, suc, refl, sym, ◌∙◌, ap, subst, arith}
use Rattle.std.proofs.lemmas.Bool.Decides.{nat_tests}
use Rattle.sentence_split.specs.declared.scan.Mode.{Mode}
use Rattle.sentence_split.specs.declared.scan.Mode.TheVariants.{Item, Quoted, Second}
use Rattle.sentence_split.specs.declared.scan.State.{State}
use Rattle.sentence_split.specs.Items.{Items, End, Comment, Quotation, Byte, spells, opens, closes, HasNoQuote, AreItems}
use Rattle.sentence_split.specs.Scan.{state, item_step, step, or_else, scan}

-- items and a closing mark, and then something
pub record Level (Next : List ℕ → Type 0) (text : List ℕ) : Type 0 where
  pub inside : Items
  pub after : List ℕ
  pub items : AreItems inside (42 ∷ 41 ∷ after)
  pub spelled : text ≡ spells inside (42 ∷ 41 ∷ after)
  pub next : Next after

-- the end of a string, and then something
pub record Quoting (Next : List ℕ → Type 0) (text : List ℕ) : Type 0 where
  pub bytes : List ℕ
  pub more : List ℕ
  pub unquoted : HasNoQuote bytes
  pub spelled : text ≡ bytes ++ 34 ∷ more
  pub next : Next more

-- a byte, and then something
pub record Seconds (Next : List ℕ → Type 0) (text : List ℕ) : Type 0 where
  pub second : ℕ
  pub more : List ℕ
  pub spelled : text ≡ second ∷ more
  pub next : Next more

-- the bytes of two marks and of a quotation mark
pub opened : (b : ℕ) (rest : List ℕ) (s : ℕ) (more : List ℕ) → opens b rest ≡ true → rest ≡ s ∷ more → b ∷ rest ≡ 40 ∷ 42 ∷ more
opened b rest s more e h =
    let test : opens b (s ∷ more) ≡ true = ap (opens b) (sym h) ∙ e in
    let one : b ≡ 40 = grind (arith, nat_tests) in
    let two : s ≡ 42 = grind (arith, nat_tests) in
    ap (λ xs. b ∷ xs) h ∙ ap (λ x. x ∷ (s ∷ more)) one ∙ ap (λ x. 40 ∷ (x ∷ more)) two

closed : (b : ℕ) (rest : List ℕ) (s : ℕ) (more : List ℕ) → closes b rest ≡ true → rest ≡ s ∷ more → b ∷ rest ≡ 42 ∷ 41 ∷ more
closed b rest s more e h =
    let test : closes b (s ∷ more) ≡ true = ap (closes b) (sym h) ∙ e in
    let one : b ≡ 42 = grind (arith, nat_tests) in
    let two : s ≡ 41 = grind (arith, nat_tests) in
    ap (λ xs. b ∷ xs) h ∙ ap (λ x. x ∷ (s ∷ more)) one ∙ ap (λ x. 42 ∷ (x ∷ more)) two

quoted_mark : (b : ℕ) → (eqb b 34) ≡ true → b ≡ 34
quoted_mark b e = grind (arith, nat_tests)

step-open : (d b : ℕ) (rest : List ℕ) → opens b rest ≡ true → item_step (suc d) b rest ≡ state (suc (suc d)) Second
step-open d b rest e = rw e refl

step-close : (d b : ℕ) (rest : List ℕ) → opens b rest ≡ false → closes b rest ≡ true → item_step (suc d) b rest ≡ state d Second
step-close d b rest e f = rw (e, f) refl

step-quote : (d b : ℕ) (rest : List ℕ) → opens b rest ≡ false → closes b rest ≡ false → (eqb b 34) ≡ true → item_step (suc d) b rest ≡ state (suc d) Quoted
step-quote d b rest e f g = rw (e, f, g) refl

pub step-byte : (d b : ℕ) (rest : List ℕ) → opens b rest ≡ false → closes b rest ≡ false → (eqb b 34) ≡ false → item_step (suc d) b rest ≡ state (suc d) Item
step-byte d b rest e f g = rw (e, f, g) refl

pub flat-open : (b : ℕ) (rest : List ℕ) → opens b rest ≡ true → item_step 0 b rest ≡ state 1 Second
flat-open b rest e = rw e refl

flat-quote : (b : ℕ) (rest : List ℕ) → opens b rest ≡ false → (eqb b 34) ≡ true → item_step 0 b rest ≡ state 0 Quoted
flat-quote b rest e g = rw (e, g) refl

pub flat-byte : (b : ℕ) (rest : List ℕ) → opens b rest ≡ false → (eqb b 34) ≡ false → item_step 0 b rest ≡ state 0 Item
flat-byte b rest e g = rw (e, g) refl

module _
    (test : List ℕ → Option (List ℕ)) (Base : List ℕ → List ℕ → Type 0)
    (stopped : (text rest : List ℕ) → test text ≡ Some rest → Base text rest)
    (add_comment : (inside : Items) (tail rest : List ℕ) → test (40 ∷ 42 ∷ spells inside (42 ∷ 41 ∷ tail)) ≡ None → AreItems inside (42 ∷ 41 ∷ tail) → Base tail rest → Base (40 ∷ 42 ∷ spells inside (42 ∷ 41 ∷ tail)) rest)
    (add_quotation : (bytes tail rest : List ℕ) → test (34 ∷ (bytes ++ 34 ∷ tail)) ≡ None → HasNoQuote bytes → Base tail rest → Base (34 ∷ (bytes ++ 34 ∷ tail)) rest)
    (add_byte : (b : ℕ) (tail rest : List ℕ) → test (b ∷ tail) ≡ None → opens b tail ≡ false → (eqb b 34) ≡ false → Base tail rest → Base (b ∷ tail) rest)
  where
    abbrev pub Closing : ℕ → List ℕ → List ℕ → Type 0
    Closing zero text rest = Base text rest
    Closing (suc d) text rest = Level (λ after. Closing d after rest) text

    abbrev pub Found : Mode → ℕ → List ℕ → List ℕ → Type 0
    Found Item d text rest = Closing d text rest
    Found Quoted d text rest = Quoting (λ more. Closing d more rest) text
    Found Second d text rest = Seconds (λ more. Closing d more rest) text

    deep_open : (d b : ℕ) (rest r : List ℕ) → opens b rest ≡ true → Seconds (λ more. Closing (suc (suc d)) more r) rest → Closing (suc d) (b ∷ rest) r
    deep_open d b rest r e s =
        let outer = s.next.next in
        record {
          inside = Comment s.next.inside outer.inside;
          after = outer.after;
          items = (subst (λ t. AreItems s.next.inside (42 ∷ 41 ∷ t)) outer.spelled s.next.items, outer.items);
          spelled = opened b rest s.second s.more e s.spelled ∙ ap (λ t. 40 ∷ 42 ∷ t) (s.next.spelled ∙ ap (λ t. spells s.next.inside (42 ∷ 41 ∷ t)) outer.spelled);
          next = outer.next;
        }

    deep_close : (d b : ℕ) (rest r : List ℕ) → closes b rest ≡ true → Seconds (λ more. Closing d more r) rest → Closing (suc d) (b ∷ rest) r
    deep_close d b rest r e s = record { inside = End; after = s.more; items = tt; spelled = closed b rest s.second s.more e s.spelled; next = s.next }

    deep_quote : (d b : ℕ) (rest r : List ℕ) → (eqb b 34) ≡ true → Quoting (λ more. Closing (suc d) more r) rest → Closing (suc d) (b ∷ rest) r
    deep_quote d b rest r e q = record {
      inside = Quotation q.bytes q.next.inside;
      after = q.next.after;
      items = (q.unquoted, q.next.items);
      spelled = ap (λ x. x ∷ rest) (quoted_mark b e) ∙ ap (λ t. 34 ∷ t) (q.spelled ∙ ap (λ t. q.bytes ++ 34 ∷ t) q.next.spelled);
      next = q.next.next;
    }

    deep_byte : (d b : ℕ) (rest r : List ℕ) → opens b rest ≡ false → closes b rest ≡ false → (eqb b 34) ≡ false → Closing (suc d) rest r → Closing (suc d) (b ∷ rest) r
    deep_byte d b rest r e f g h = record {
      inside = Byte b h.inside;
      after = h.after;
      items = (subst (λ t. opens b t ≡ false) h.spelled e, subst (λ t. closes b t ≡ false) h.spelled f, g, h.items);
      spelled = ap (λ t. b ∷ t) h.spelled;
      next = h.next;
    }

    flat_open : (b : ℕ) (rest r : List ℕ) → test (b ∷ rest) ≡ None → opens b rest ≡ true → Seconds (λ more. Closing 1 more r) rest → Base (b ∷ rest) r
    flat_open b rest r none e s =
        let whole : b ∷ rest ≡ 40 ∷ 42 ∷ spells s.next.inside (42 ∷ 41 ∷ s.next.after) = opened b rest s.second s.more e s.spelled ∙ ap (λ t. 40 ∷ 42 ∷ t) s.next.spelled in
        subst (λ t. Base t r) (sym whole) (add_comment s.next.inside s.next.after r (ap test (sym whole) ∙ none) s.next.items s.next.next)

    flat_quote : (b : ℕ) (rest r : List ℕ) → test (b ∷ rest) ≡ None → (eqb b 34) ≡ true → Quoting (λ more. Closing 0 more r) rest → Base (b ∷ rest) r
    flat_quote b rest r none e q =
        let whole : b ∷ rest ≡ 34 ∷ (q.bytes ++ 34 ∷ q.more) = ap (λ x. x ∷ rest) (quoted_mark b e) ∙ ap (λ t. 34 ∷ t) q.spelled in
        subst (λ t. Base t r) (sym whole) (add_quotation q.bytes q.more r (ap test (sym whole) ∙ none) q.unquoted q.next)

    IsScanned : List ℕ → List ℕ → State → Type 0
    IsScanned rest r s = scan test s.mode s.depth rest ≡ Some r

    deep : (o c q : Bool) (d b : ℕ) (rest r : List ℕ) → opens b rest ≡ o → closes b rest ≡ c → (eqb b 34) ≡ q → ((m : Mode) (n : ℕ) → scan test m n rest ≡ Some r → Found m n rest r) → scan test (item_step (suc d) b rest).mode (item_step (suc d) b rest).depth rest ≡ Some r → Closing (suc d) (b ∷ rest) r
    unfolding IsScanned
    deep true c q d b rest r eo ec eq ih h = deep_open d b rest r eo (ih Second (suc (suc d)) (subst (IsScanned rest r) (step-open d b rest eo) h))
    deep false true q d b rest r eo ec eq ih h = deep_close d b rest r ec (ih Second d (subst (IsScanned rest r) (step-close d b rest eo ec) h))
    deep false false true d b rest r eo ec eq ih h = deep_quote d b rest r eq (ih Quoted (suc d) (subst (IsScanned rest r) (step-quote d b rest eo ec eq) h))
    deep false false false d b rest r eo ec eq ih h = deep_byte d b rest r eo ec eq (ih Item (suc d) (subst (IsScanned rest r) (step-byte d b rest eo ec eq) h))

    flat_on : (o q : Bool) (b : ℕ) (rest r : List ℕ) → test (b ∷ rest) ≡ None → opens b rest ≡ o → (eqb b 34) ≡ q → ((m : Mode) (n : ℕ) → scan test m n rest ≡ Some r → Found m n rest r) → scan test (item_step 0 b rest).mode (item_step 0 b rest).depth rest ≡ Some r → Base (b ∷ rest) r
    unfolding IsScanned
    flat_on true q b rest r none eo eq ih h = flat_open b rest r none eo (ih Second 1 (subst (IsScanned rest r) (flat-open b rest eo) h))
    flat_on false true b rest r none eo eq ih h = flat_quote b rest r none eq (ih Quoted 0 (subst (IsScanned rest r) (flat-quote b rest eo eq) h))
    flat_on false false b rest r none eo eq ih h = add_byte b rest r none eo eq (ih Item 0 (subst (IsScanned rest r) (flat-byte b rest eo eq) h))

    flat : (o : Option (List ℕ)) (b : ℕ) (rest r : List ℕ) → test (b ∷ rest) ≡ o → ((m : Mode) (n : ℕ) → scan test m n rest ≡ Some r → Found m n rest r) → or_else o (scan test (item_step 0 b rest).mode (item_step 0 b rest).depth rest) ≡ Some r → Base (b ∷ rest) r
    flat (Some found) b rest r e ih h = stopped (b ∷ rest) r (e ∙ h)
    flat None b rest r e ih h = flat_on (opens b rest) (eqb b 34) b rest r e refl refl ih h

    quoting : (q : Bool) (d b : ℕ) (rest r : List ℕ) → (eqb b 34) ≡ q → ((m : Mode) (n : ℕ) → scan test m n rest ≡ Some r → Found m n rest r) → scan test (step d Quoted b rest).mode (step d Quoted b rest).depth rest ≡ Some r → Quoting (λ more. Closing d more r) (b ∷ rest)
    unfolding IsScanned
    quoting true d b rest r e ih h =
        let to_item : step d Quoted b rest ≡ state d Item = rw e refl in
        record { bytes = []; more = rest; unquoted = tt; spelled = ap (λ x. x ∷ rest) (quoted_mark b e); next = ih Item d (subst (IsScanned rest r) to_item h) }
    quoting false d b rest r e ih h =
        let stays : step d Quoted b rest ≡ state d Quoted = rw e refl in
        let q = ih Quoted d (subst (IsScanned rest r) stays h) in
        record { bytes = b ∷ q.bytes; more = q.more; unquoted = (e, q.unquoted); spelled = ap (λ t. b ∷ t) q.spelled; next = q.next }

    -- what a scan finds stands behind items and closing marks
    pub sound : (m : Mode) (d : ℕ) (text r : List ℕ) → scan test m d text ≡ Some r → Found m d text r
    sound Item zero [] r h = stopped [] r h
    sound Item (suc d) [] r h = cc
    sound Quoted d [] r h = cc
    sound Second d [] r h = cc
    sound Item zero (b ∷ rest) r h = flat (test (b ∷ rest)) b rest r refl (λ m n. sound m n rest r) h
    sound Item (suc d) (b ∷ rest) r h = deep (opens b rest) (closes b rest) (eqb b 34) d b rest r refl refl refl (λ m n. sound m n rest r) h
    sound Quoted d (b ∷ rest) r h = quoting (eqb b 34) d b rest r refl (λ m n. sound m n rest r) h
    sound Second d (b ∷ rest) r h = record { second = b; more = rest; spelled = refl; next = sound Item d rest r h }
