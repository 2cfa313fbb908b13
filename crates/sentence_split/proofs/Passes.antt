-- Items are passed by a scan, and the end of a sentence is found.
use Rattle.std.proofs.Common.{◌≡◌, ℕ, ◌≤◌, Bool, true, false, cond, eqb, Option, None, Some, List, [], ◌∷◌, ◌++◌, ◌&&◌, length, length-append, append_assoc, suc, refl, sym, ◌∙◌, ap, subst, arith}
use Rattle.std.proofs.lemmas.Bool.Decides.{nat_tests}
use Rattle.sentence_split.specs.declared.scan.Mode.TheVariants.{Item, Quoted, Second}
use Rattle.sentence_split.specs.Items.{Items, End, Comment, Quotation, Byte, spells, opens, HasNoQuote, AreItems, IsStretch}
use Rattle.sentence_split.specs.Split.{is_ended, Ends, EndsFirst}
use Rattle.sentence_split.specs.Scan.{state, item_step, step, or_else, scan, at_period, sentence_end, comment_end}
use Rattle.sentence_split.proofs.Scanned.{flat-byte, step-byte, opened, sound}
use Rattle.sentence_split.proofs.Stops.{stops_at}

pub spells-append : (is : Items) (xs ys : List ℕ) → spells is (xs ++ ys) ≡ spells is xs ++ ys
spells-append End xs ys = refl
spells-append (Comment inside after) xs ys =
    ap (λ t. 40 ∷ 42 ∷ spells inside (42 ∷ 41 ∷ t)) (spells-append after xs ys) ∙ ap (λ t. 40 ∷ 42 ∷ t) (spells-append inside (42 ∷ 41 ∷ spells after xs) ys)
spells-append (Quotation bytes after) xs ys =
    ap (λ t. 34 ∷ (bytes ++ 34 ∷ t)) (spells-append after xs ys) ∙ ap (λ t. 34 ∷ t) (sym (append_assoc bytes (34 ∷ spells after xs) ys))
spells-append (Byte b after) xs ys = ap (λ t. b ∷ t) (spells-append after xs ys)

module _ (test : List ℕ → Option (List ℕ)) where
  quote_passes : (bytes : List ℕ) (d : ℕ) (tail : List ℕ) → HasNoQuote bytes → scan test Quoted d (bytes ++ 34 ∷ tail) ≡ scan test Item d tail
  quote_passes [] d tail h = refl
  quote_passes (b ∷ bytes) d tail h =
      let stays : step d Quoted b (bytes ++ 34 ∷ tail) ≡ state d Quoted = rw h.0 refl in
      ap (λ s. scan test s.mode s.depth (bytes ++ 34 ∷ tail)) stays ∙ quote_passes bytes d tail h.1

  pub passes : (is : Items) (d : ℕ) (rest : List ℕ) → AreItems is rest → scan test Item (suc d) (spells is rest) ≡ scan test Item (suc d) rest
  passes End d rest h = refl
  passes (Comment inside after) d rest h = passes inside (suc d) (42 ∷ 41 ∷ spells after rest) h.0 ∙ passes after d rest h.1
  passes (Quotation bytes after) d rest h = quote_passes bytes (suc d) (spells after rest) h.0 ∙ passes after d rest h.1
  passes (Byte b after) d rest h =
      ap (λ s. scan test s.mode s.depth (spells after rest)) (step-byte d b (spells after rest) h.0 h.1 h.2) ∙ passes after d rest h.3

-- the end of a closed comment is found
pub comment_found : (inside : Items) (tail : List ℕ) → AreItems inside (42 ∷ 41 ∷ tail) → comment_end (42 ∷ spells inside (42 ∷ 41 ∷ tail)) ≡ Some tail
comment_found inside tail h = passes Some inside 0 (42 ∷ 41 ∷ tail) h ∙ stops_at tail

-- the scan for a period stops no later than at the end of any stretch
pub record Stopped (text rest : List ℕ) : Type 0 where
  pub at : List ℕ
  pub is : sentence_end text ≡ Some at
  pub early : length rest ≤ length at

pub length-spells : (is : Items) (rest : List ℕ) → length rest ≤ length (spells is rest)
length-spells is rest =
    let parts : length (spells is rest) ≡ length (spells is [] ++ rest) = ap length (spells-append is [] rest) in
    omega (arith, parts, length-append (spells is []) rest)

stopped_more : (text more rest : List ℕ) → sentence_end text ≡ sentence_end more → Stopped more rest → Stopped text rest
stopped_more text more rest e s = record { at = s.at; is = e ∙ s.is; early = s.early }

stopped_byte : (t : Bool) (b : ℕ) (tail rest : List ℕ) → (eqb b 46 && is_ended tail) ≡ t → opens b tail ≡ false → (eqb b 34) ≡ false → length rest ≤ length tail → Stopped tail rest → Stopped (b ∷ tail) rest
stopped_byte true b tail rest e f g h s = record { at = tail; is = rw e refl; early = h }
stopped_byte false b tail rest e f g h s =
    let goes_on : at_period (b ∷ tail) ≡ None = rw e refl in
    stopped_more (b ∷ tail) tail rest
    (ap (λ o. or_else o (scan at_period (item_step 0 b tail).mode (item_step 0 b tail).depth tail)) goes_on ∙ ap (λ s. scan at_period s.mode s.depth tail) (flat-byte b tail f g)) s

pub stops : (is : Items) (rest : List ℕ) → IsStretch is (46 ∷ rest) → is_ended rest ≡ true → Stopped (spells is (46 ∷ rest)) rest
stops End rest h e =
    let found : at_period (46 ∷ rest) ≡ Some rest = rw e refl in
    record { at = rest; is = ap (λ o. or_else o (scan at_period (item_step 0 46 rest).mode (item_step 0 46 rest).depth rest)) found; early = omega arith }
stops (Comment inside after) rest h e =
    stopped_more _ (spells after (46 ∷ rest)) rest (passes at_period inside 0 (42 ∷ 41 ∷ spells after (46 ∷ rest)) h.0) (stops after rest h.1 e)
stops (Quotation bytes after) rest h e =
    stopped_more _ (spells after (46 ∷ rest)) rest (quote_passes at_period bytes 0 (spells after (46 ∷ rest)) h.0) (stops after rest h.1 e)
stops (Byte b after) rest h e =
    let tail : List ℕ = spells after (46 ∷ rest) in
    let longer = length-spells after (46 ∷ rest) in
    stopped_byte (eqb b 46 && is_ended tail) b tail rest refl h.0 h.1 (omega (arith, longer)) (stops after rest h.2 e)

-- stretches grow at the front
same_rest : (x y : List ℕ) → ◌≡◌ {A = Option (List ℕ)} (Some x) (Some y) → x ≡ y
same_rest x y e = cc

period_cases : (p t : Bool) (b : ℕ) (tail rest : List ℕ) → eqb b 46 ≡ p → is_ended tail ≡ t → cond (p && t) (Some tail) None ≡ Some rest → Ends (b ∷ tail) rest
period_cases true true b tail rest e f h =
    let same : tail ≡ rest = same_rest tail rest h in
    let period : b ≡ 46 = grind (arith, nat_tests) in
    record { stretch = End; fits = tt; spelled = ap (λ x. x ∷ tail) period ∙ ap (λ t. 46 ∷ t) same; ended = subst (λ t. is_ended t ≡ true) same f }
period_cases true false b tail rest e f h = cc
period_cases false t b tail rest e f h = cc

period_ends : (text rest : List ℕ) → at_period text ≡ Some rest → Ends text rest
period_ends [] rest e = cc
period_ends (b ∷ tail) rest e = period_cases (eqb b 46) (is_ended tail) b tail rest refl refl e

add_comment : (inside : Items) (tail rest : List ℕ) → AreItems inside (42 ∷ 41 ∷ tail) → Ends tail rest → Ends (40 ∷ 42 ∷ spells inside (42 ∷ 41 ∷ tail)) rest
add_comment inside tail rest h e = record {
  stretch = Comment inside e.stretch;
  fits = (subst (λ t. AreItems inside (42 ∷ 41 ∷ t)) e.spelled h, e.fits);
  spelled = ap (λ t. 40 ∷ 42 ∷ spells inside (42 ∷ 41 ∷ t)) e.spelled;
  ended = e.ended;
}

add_quotation : (bytes tail rest : List ℕ) → HasNoQuote bytes → Ends tail rest → Ends (34 ∷ (bytes ++ 34 ∷ tail)) rest
add_quotation bytes tail rest h e = record {
  stretch = Quotation bytes e.stretch;
  fits = (h, e.fits);
  spelled = ap (λ t. 34 ∷ (bytes ++ 34 ∷ t)) e.spelled;
  ended = e.ended;
}

add_byte : (b : ℕ) (tail rest : List ℕ) → opens b tail ≡ false → (eqb b 34) ≡ false → Ends tail rest → Ends (b ∷ tail) rest
add_byte b tail rest f g e = record {
  stretch = Byte b e.stretch;
  fits = (subst (λ t. opens b t ≡ false) e.spelled f, g, e.fits);
  spelled = ap (λ t. b ∷ t) e.spelled;
  ended = e.ended;
}

pub ends : (text rest : List ℕ) → sentence_end text ≡ Some rest → Ends text rest
ends text rest h =
    sound at_period Ends period_ends (λ inside tail rest none. add_comment inside tail rest) (λ bytes tail rest none. add_quotation bytes tail rest) (λ b tail rest none. add_byte b tail rest) Item 0 text rest h

pub stopped_at : (text other : List ℕ) → Ends text other → Stopped text other
stopped_at text other e = subst (λ t. Stopped t other) (sym e.spelled) (stops e.stretch other e.fits e.ended)

pub ends_first : (text rest : List ℕ) → sentence_end text ≡ Some rest → EndsFirst text rest
ends_first text rest h = record {
  ends = ends text rest h;
  shortest = λ other e. let s = stopped_at text other e in let same : rest ≡ s.at = same_rest rest s.at (sym h ∙ s.is) in omega (arith, s.early, ap length same);
}

pub none_some : (x : List ℕ) → ◌≡◌ {A = Option (List ℕ)} None (Some x) → ⊥
none_some x e = cc

pub ends_never : (text : List ℕ) → sentence_end text ≡ None → (other : List ℕ) → Ends text other → ⊥
ends_never text h other e = let s = stopped_at text other e in none_some s.at (sym h ∙ s.is)

-- a closed comment, from what the scan found
pub same_text : (text rest : List ℕ) → ◌≡◌ {A = Option (List ℕ)} (Some text) (Some rest) → text ≡ rest
same_text text rest e = cc

pub record Commented (b : ℕ) (text rest : List ℕ) : Type 0 where
  pub inside : Items
  pub items : AreItems inside (42 ∷ 41 ∷ rest)
  pub spelled : b ∷ text ≡ 40 ∷ 42 ∷ spells inside (42 ∷ 41 ∷ rest)

pub commented : (b : ℕ) (text rest : List ℕ) → opens b text ≡ true → comment_end text ≡ Some rest → Commented b text rest
commented b text rest e h =
    let s = sound Some (λ text rest. text ≡ rest) same_text (λ inside tail rest none. cc) (λ bytes tail rest none. cc) (λ b tail rest none. cc) Second 1 text rest h in
    record {
      inside = s.next.inside;
      items = subst (λ t. AreItems s.next.inside (42 ∷ 41 ∷ t)) s.next.next s.next.items;
      spelled = opened b text s.second s.more e s.spelled ∙ ap (λ t. 40 ∷ 42 ∷ t) (s.next.spelled ∙ ap (λ t. spells s.next.inside (42 ∷ 41 ∷ t)) s.next.next);
    }
