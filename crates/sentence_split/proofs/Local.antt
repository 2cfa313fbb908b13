-- What begins at a byte is the same in texts that agree up to one byte behind its end.
use Rattle.std.proofs.Common.{◌≡◌, ℕ, ◌+◌, ◌-◌, ◌<◌, ◌≤◌, Bool, true, false, cond, eqb, Option, None, Some, List, [], ◌∷◌, ◌++◌, ◌&&◌, length, length-append, zero, suc, refl, sym, ◌∙◌, ap, subst, arith}
use Rattle.std.specs.List.{prefix_len}
use Rattle.sentence_split.specs.declared.pieces.Piece.TheVariants.{Gap, Sentence}
use Rattle.std.proofs.lemmas.Bool.Decides.{nat_tests}
use Rattle.base_core.specs.declared.kind.Kind.TheVariants.{Plain, Bullet}
use Rattle.sentence_split.specs.declared.scan.Mode.{Mode}
use Rattle.sentence_split.specs.declared.scan.Mode.TheVariants.{Item, Quoted, Second}
use Rattle.sentence_split.specs.Items.{begins, opens, is_blank}
use Rattle.sentence_split.specs.Split.{is_bullet, is_ended}
use Rattle.sentence_split.specs.Scan.{step, item_step, or_else, scan, at_period, sentence_end, comment_end}
use Rattle.sentence_split.specs.Sentences.{plain_piece, comment_piece, first_piece}
use Rattle.sentence_split.specs.Pieces.{piece_len}
use Rattle.sentence_split.proofs.Passes.{none_some, same_text}
use Rattle.sentence_split.proofs.Scanned.{flat-open}

begins_same : (x : ℕ) (u : List ℕ) (c : ℕ) (v w : List ℕ) → begins x (u ++ c ∷ v) ≡ begins x (u ++ c ∷ w)
begins_same x [] c v w = refl
begins_same x (b ∷ u) c v w = refl

opens_same : (b : ℕ) (u : List ℕ) (c : ℕ) (v w : List ℕ) → opens b (u ++ c ∷ v) ≡ opens b (u ++ c ∷ w)
opens_same b u c v w = ap (λ t. eqb b 40 && t) (begins_same 42 u c v w)

ended_same : (u : List ℕ) (c : ℕ) (v w : List ℕ) → is_ended (u ++ c ∷ v) ≡ is_ended (u ++ c ∷ w)
ended_same [] c v w = refl
ended_same (b ∷ u) c v w = refl

step_same : (depth : ℕ) (mode : Mode) (b : ℕ) (u : List ℕ) (c : ℕ) (v w : List ℕ) → step depth mode b (u ++ c ∷ v) ≡ step depth mode b (u ++ c ∷ w)
step_same zero Item b [] c v w = refl
step_same zero Item b (x ∷ u) c v w = refl
step_same (suc depth) Item b [] c v w = refl
step_same (suc depth) Item b (x ∷ u) c v w = refl
step_same depth Quoted b u c v w = refl
step_same depth Second b u c v w = refl

-- an answer found in another text: as many bytes are used up
pub record Found (answer : Option (List ℕ)) (v w rest : List ℕ) : Type 0 where
  pub found : List ℕ
  pub is : answer ≡ Some found
  pub size : length found + length v ≡ length rest + length w

moved : (o p : Option (List ℕ)) (v w rest : List ℕ) → p ≡ o → Found o v w rest → Found p v w rest
moved o p v w rest e f = record { found = f.found; is = e ∙ f.is; size = f.size }

-- a test that looks at no more than one byte behind what it takes
pub record IsLocal (test : List ℕ → Option (List ℕ)) : Type 0 where
  pub short : (t rest : List ℕ) → test t ≡ Some rest → length rest ≤ length t
  pub same : (u : List ℕ) (c : ℕ) (v w rest : List ℕ) → test (u ++ c ∷ v) ≡ Some rest → length v < length rest → Found (test (u ++ c ∷ w)) v w rest
  pub none : (b : ℕ) (u : List ℕ) (c : ℕ) (v w : List ℕ) → test (b ∷ (u ++ c ∷ v)) ≡ None → test (b ∷ (u ++ c ∷ w)) ≡ None

module _ (test : List ℕ → Option (List ℕ)) (law : IsLocal test) where
  or_short : (o : Option (List ℕ)) (b : ℕ) (t rest : List ℕ) (later : Option (List ℕ)) → test (b ∷ t) ≡ o → (later ≡ Some rest → length rest ≤ length t) → or_else o later ≡ Some rest → length rest ≤ suc (length t)
  or_short None b t rest later e h f = let most = h f in omega (arith, most)
  or_short (Some x) b t rest later e h f = law.short (b ∷ t) rest (e ∙ f)

  scan_short : (t : List ℕ) (mode : Mode) (depth : ℕ) (rest : List ℕ) → scan test mode depth t ≡ Some rest → length rest ≤ length t
  scan_short [] Item zero rest e = law.short [] rest e
  scan_short [] Item (suc depth) rest e = absurd (none_some rest e)
  scan_short [] Quoted depth rest e = absurd (none_some rest e)
  scan_short [] Second depth rest e = absurd (none_some rest e)
  scan_short (b ∷ t) Item zero rest e =
      or_short (test (b ∷ t)) b t rest (scan test (step zero Item b t).mode (step zero Item b t).depth t) refl (scan_short t (step zero Item b t).mode (step zero Item b t).depth rest) e
  scan_short (b ∷ t) Item (suc depth) rest e =
      let most = scan_short t (step (suc depth) Item b t).mode (step (suc depth) Item b t).depth rest e in omega (arith, most)
  scan_short (b ∷ t) Quoted depth rest e =
      let most = scan_short t (step depth Quoted b t).mode (step depth Quoted b t).depth rest e in omega (arith, most)
  scan_short (b ∷ t) Second depth rest e =
      let most = scan_short t (step depth Second b t).mode (step depth Second b t).depth rest e in omega (arith, most)

  -- where the step is the same, so is what is scanned then
  stepped : (depth : ℕ) (mode : Mode) (b : ℕ) (u : List ℕ) (c : ℕ) (v w : List ℕ) → scan test (step depth mode b (u ++ c ∷ w)).mode (step depth mode b (u ++ c ∷ w)).depth (u ++ c ∷ w) ≡ scan test (step depth mode b (u ++ c ∷ v)).mode (step depth mode b (u ++ c ∷ v)).depth (u ++ c ∷ w)
  stepped depth mode b u c v w = ap (λ s. scan test s.mode s.depth (u ++ c ∷ w)) (step_same depth mode b u c w v)

  first_same : (o : Option (List ℕ)) (c : ℕ) (v w rest : List ℕ) → test (c ∷ v) ≡ o → or_else o (scan test (step zero Item c v).mode (step zero Item c v).depth v) ≡ Some rest → length v < length rest → Found (scan test Item zero (c ∷ w)) v w rest
  first_same None c v w rest h e long =
      let most = scan_short v (step zero Item c v).mode (step zero Item c v).depth rest e in absurd (omega (arith, most, long))
  first_same (Some x) c v w rest h e long =
      let f = law.same [] c v w rest (h ∙ e) long in
      record { found = f.found; is = ap (λ o. or_else o (scan test (step zero Item c w).mode (step zero Item c w).depth w)) f.is; size = f.size }

  item_same : (o : Option (List ℕ)) (b : ℕ) (u : List ℕ) (c : ℕ) (v w rest : List ℕ) → test (b ∷ (u ++ c ∷ v)) ≡ o → or_else o (scan test (step zero Item b (u ++ c ∷ v)).mode (step zero Item b (u ++ c ∷ v)).depth (u ++ c ∷ v)) ≡ Some rest → length v < length rest → (scan test (step zero Item b (u ++ c ∷ v)).mode (step zero Item b (u ++ c ∷ v)).depth (u ++ c ∷ v) ≡ Some rest → Found (scan test (step zero Item b (u ++ c ∷ v)).mode (step zero Item b (u ++ c ∷ v)).depth (u ++ c ∷ w)) v w rest) → Found (scan test Item zero (b ∷ (u ++ c ∷ w))) v w rest
  item_same None b u c v w rest h e long later =
      moved (scan test (step zero Item b (u ++ c ∷ v)).mode (step zero Item b (u ++ c ∷ v)).depth (u ++ c ∷ w)) (scan test Item zero (b ∷ (u ++ c ∷ w))) v w rest
      (ap (λ o. or_else o (scan test (step zero Item b (u ++ c ∷ w)).mode (step zero Item b (u ++ c ∷ w)).depth (u ++ c ∷ w))) (law.none b u c v w h) ∙ stepped zero Item b u c v w)
      (later e)
  item_same (Some x) b u c v w rest h e long later =
      let f = law.same (b ∷ u) c v w rest (h ∙ e) long in
      record { found = f.found; is = ap (λ o. or_else o (scan test (step zero Item b (u ++ c ∷ w)).mode (step zero Item b (u ++ c ∷ w)).depth (u ++ c ∷ w))) f.is; size = f.size }

  pub scan_same : (u : List ℕ) (mode : Mode) (depth : ℕ) (c : ℕ) (v w rest : List ℕ) → scan test mode depth (u ++ c ∷ v) ≡ Some rest → length v < length rest → Found (scan test mode depth (u ++ c ∷ w)) v w rest
  scan_same [] Item zero c v w rest e long = first_same (test (c ∷ v)) c v w rest refl e long
  scan_same [] Item (suc depth) c v w rest e long =
      let most = scan_short v (step (suc depth) Item c v).mode (step (suc depth) Item c v).depth rest e in absurd (omega (arith, most, long))
  scan_same [] Quoted depth c v w rest e long =
      let most = scan_short v (step depth Quoted c v).mode (step depth Quoted c v).depth rest e in absurd (omega (arith, most, long))
  scan_same [] Second depth c v w rest e long =
      let most = scan_short v (step depth Second c v).mode (step depth Second c v).depth rest e in absurd (omega (arith, most, long))
  scan_same (b ∷ u) Item zero c v w rest e long =
      item_same (test (b ∷ (u ++ c ∷ v))) b u c v w rest refl e long
      (λ f. scan_same u (step zero Item b (u ++ c ∷ v)).mode (step zero Item b (u ++ c ∷ v)).depth c v w rest f long)
  scan_same (b ∷ u) Item (suc depth) c v w rest e long =
      moved _ (scan test Item (suc depth) (b ∷ (u ++ c ∷ w))) v w rest (stepped (suc depth) Item b u c v w)
      (scan_same u (step (suc depth) Item b (u ++ c ∷ v)).mode (step (suc depth) Item b (u ++ c ∷ v)).depth c v w rest e long)
  scan_same (b ∷ u) Quoted depth c v w rest e long =
      moved _ (scan test Quoted depth (b ∷ (u ++ c ∷ w))) v w rest (stepped depth Quoted b u c v w)
      (scan_same u (step depth Quoted b (u ++ c ∷ v)).mode (step depth Quoted b (u ++ c ∷ v)).depth c v w rest e long)
  scan_same (b ∷ u) Second depth c v w rest e long =
      moved _ (scan test Second depth (b ∷ (u ++ c ∷ w))) v w rest (stepped depth Second b u c v w)
      (scan_same u (step depth Second b (u ++ c ∷ v)).mode (step depth Second b (u ++ c ∷ v)).depth c v w rest e long)

  -- where no comment closes, no sentence ends
  pub scan_never : (t : List ℕ) (mode : Mode) (depth : ℕ) → scan Some mode depth t ≡ None → scan test mode depth t ≡ None
  scan_never [] Item zero e = absurd (none_some [] (sym e))
  scan_never [] Item (suc depth) e = refl
  scan_never [] Quoted depth e = refl
  scan_never [] Second depth e = refl
  scan_never (b ∷ t) Item zero e = absurd (none_some (b ∷ t) (sym e))
  scan_never (b ∷ t) Item (suc depth) e = scan_never t (step (suc depth) Item b t).mode (step (suc depth) Item b t).depth e
  scan_never (b ∷ t) Quoted depth e = scan_never t (step depth Quoted b t).mode (step depth Quoted b t).depth e
  scan_never (b ∷ t) Second depth e = scan_never t (step depth Second b t).mode (step depth Second b t).depth e

-- a period looks at the byte behind it
period_cases : (t : Bool) (b : ℕ) (tail rest : List ℕ) → (eqb b 46 && is_ended tail) ≡ t → cond t (Some tail) None ≡ Some rest → ((eqb b 46 && is_ended tail) ≡ true) × (tail ≡ rest)
period_cases true b tail rest e h = (e, same_text tail rest h)
period_cases false b tail rest e h = absurd (none_some rest h)

at_end : (b : ℕ) (tail rest : List ℕ) → at_period (b ∷ tail) ≡ Some rest → ((eqb b 46 && is_ended tail) ≡ true) × (tail ≡ rest)
at_end b tail rest e = period_cases (eqb b 46 && is_ended tail) b tail rest refl e

sizes : (u : List ℕ) (c : ℕ) (v : List ℕ) → length (u ++ c ∷ v) ≡ length u + suc (length v)
sizes u c v = length-append u (c ∷ v)

period_short : (t rest : List ℕ) → at_period t ≡ Some rest → length rest ≤ length t
period_short [] rest e = absurd (none_some rest e)
period_short (b ∷ t) rest e = let size = ap length (at_end b t rest e).1 in omega (arith, size)

period_same : (u : List ℕ) (c : ℕ) (v w rest : List ℕ) → at_period (u ++ c ∷ v) ≡ Some rest → length v < length rest → Found (at_period (u ++ c ∷ w)) v w rest
period_same [] c v w rest e long = let size = ap length (at_end c v rest e).1 in absurd (omega (arith, size, long))
period_same (b ∷ u) c v w rest e long =
    let found = at_end b (u ++ c ∷ v) rest e in
    let test : (eqb b 46 && is_ended (u ++ c ∷ w)) ≡ true = ap (λ t. eqb b 46 && t) (ended_same u c w v) ∙ found.0 in
    let size = ap length found.1 in
    record { found = u ++ c ∷ w; is = rw test refl; size = omega (arith, size, sizes u c v, sizes u c w) }

none_cases : (t : Bool) (tail : List ℕ) → cond t (Some tail) None ≡ None → t ≡ false
none_cases true tail e = absurd (none_some tail (sym e))
none_cases false tail e = refl

period_none : (b : ℕ) (u : List ℕ) (c : ℕ) (v w : List ℕ) → at_period (b ∷ (u ++ c ∷ v)) ≡ None → at_period (b ∷ (u ++ c ∷ w)) ≡ None
period_none b u c v w e =
    let test : (eqb b 46 && is_ended (u ++ c ∷ w)) ≡ false = ap (λ t. eqb b 46 && t) (ended_same u c w v) ∙ none_cases (eqb b 46 && is_ended (u ++ c ∷ v)) (u ++ c ∷ v) e in
    rw test refl

period_local : IsLocal at_period
period_local = record { short = period_short; same = period_same; none = period_none }

-- the end of a comment looks at nothing
comment_local : IsLocal Some
comment_local = record {
  short = λ t rest e. let size = ap length (same_text t rest e) in omega (arith, size);
  same = λ u c v w rest e long.
      let size = ap length (same_text (u ++ c ∷ v) rest e) in
      record { found = u ++ c ∷ w; is = refl; size = omega (arith, size, sizes u c v, sizes u c w) };
  none = λ b u c v w e. absurd (none_some (b ∷ (u ++ c ∷ v)) (sym e));
}

module _ (b : ℕ) (u : List ℕ) (c : ℕ) (v w : List ℕ) where
  -- as many bytes are used up
  used_same : (rest found : List ℕ) → length found + length v ≡ length rest + length w → length v < length rest → length (b ∷ (u ++ c ∷ w)) - length found ≡ length (b ∷ (u ++ c ∷ v)) - length rest
  used_same rest found size long = omega (arith, size, long, sizes u c v, sizes u c w)

  long_rest : (rest : List ℕ) → length (b ∷ (u ++ c ∷ v)) - length rest ≤ suc (length u) → length v < length rest
  long_rest rest small = omega (arith, small, sizes u c v)

  too_long : suc (length u) < length (b ∷ (u ++ c ∷ v))
  too_long = omega (arith, sizes u c v)

  plain_same : (o : Option (List ℕ)) → sentence_end (b ∷ (u ++ c ∷ v)) ≡ o → piece_len (plain_piece (b ∷ (u ++ c ∷ v)) o) ≤ suc (length u) → plain_piece (b ∷ (u ++ c ∷ w)) (sentence_end (b ∷ (u ++ c ∷ w))) ≡ plain_piece (b ∷ (u ++ c ∷ v)) o
  plain_same None e small = absurd (omega (arith, small, too_long))
  plain_same (Some rest) e small =
      let long = long_rest rest small in
      let f = scan_same at_period period_local (b ∷ u) Item 0 c v w rest e long in
      ap (plain_piece (b ∷ (u ++ c ∷ w))) f.is ∙ ap (λ n. Sentence Plain n) (used_same rest f.found f.size long)

  -- a comment that isn't closed goes on to the end
  never_ends : opens b (u ++ c ∷ v) ≡ true → comment_end (u ++ c ∷ v) ≡ None → plain_piece (b ∷ (u ++ c ∷ v)) (sentence_end (b ∷ (u ++ c ∷ v))) ≡ plain_piece (b ∷ (u ++ c ∷ v)) None
  never_ends h e = ap (plain_piece (b ∷ (u ++ c ∷ v))) (opened_never (u ++ c ∷ v) h e)
    where
      no_period : (x : ℕ) (t : List ℕ) (p : Bool) → eqb x 40 ≡ p → (p && begins 42 t) ≡ true → at_period (x ∷ t) ≡ None
      no_period x t true f k = let other : eqb x 46 ≡ false = grind (arith, nat_tests) in rw other refl
      no_period x t false f k = cc

      opened_never : (t : List ℕ) → opens b t ≡ true → comment_end t ≡ None → sentence_end (b ∷ t) ≡ None
      opened_never t h e =
          ap (λ o. or_else o (scan at_period (item_step 0 b t).mode (item_step 0 b t).depth t)) (no_period b t (eqb b 40) refl h)
          ∙ ap (λ s. scan at_period s.mode s.depth t) (flat-open b t h)
          ∙ scan_never at_period period_local t Second 1 e

  comment_same : (o : Option (List ℕ)) → opens b (u ++ c ∷ v) ≡ true → comment_end (u ++ c ∷ v) ≡ o → piece_len (comment_piece (b ∷ (u ++ c ∷ v)) o) ≤ suc (length u) → comment_piece (b ∷ (u ++ c ∷ w)) (comment_end (u ++ c ∷ w)) ≡ comment_piece (b ∷ (u ++ c ∷ v)) o
  comment_same None h e small =
      let most = subst (λ p. piece_len p ≤ suc (length u)) (never_ends h e) small in absurd (omega (arith, most, too_long))
  comment_same (Some rest) h e small =
      let long = long_rest rest small in
      let f = scan_same Some comment_local u Second 1 c v w rest e long in
      ap (comment_piece (b ∷ (u ++ c ∷ w))) f.is ∙ ap (λ n. Gap n) (used_same rest f.found f.size long)

run_same : (p : ℕ → Bool) (u : List ℕ) (c : ℕ) (v w : List ℕ) → prefix_len p (u ++ c ∷ v) ≤ length u → prefix_len p (u ++ c ∷ w) ≡ prefix_len p (u ++ c ∷ v)
run_same p [] c v w small = run_ends (p c) refl small
  where
    run_ends : (t : Bool) → p c ≡ t → cond t (1 + prefix_len p v) 0 ≤ 0 → cond (p c) (1 + prefix_len p w) 0 ≡ cond (p c) (1 + prefix_len p v) 0
    run_ends true e h = absurd (omega (arith, h))
    run_ends false e h = rw e refl
run_same p (x ∷ u) c v w small = run_goes (p x) (run_same p u c v w) small
  where
    run_goes : (t : Bool) → (prefix_len p (u ++ c ∷ v) ≤ length u → prefix_len p (u ++ c ∷ w) ≡ prefix_len p (u ++ c ∷ v)) → cond t (1 + prefix_len p (u ++ c ∷ v)) 0 ≤ suc (length u) → cond t (1 + prefix_len p (u ++ c ∷ w)) 0 ≡ cond t (1 + prefix_len p (u ++ c ∷ v)) 0
    run_goes true later h = ap (λ n. 1 + n) (later (omega (arith, h)))
    run_goes false later h = refl

module _ (b : ℕ) (u : List ℕ) (c : ℕ) (v w : List ℕ) where
  on_open : (t : Bool) → is_blank b ≡ false → is_bullet b ≡ false → eqb b 123 ≡ false → eqb b 125 ≡ false → opens b (u ++ c ∷ v) ≡ t → piece_len (first_piece b (u ++ c ∷ v)) ≤ suc (length u) → first_piece b (u ++ c ∷ w) ≡ first_piece b (u ++ c ∷ v)
  on_open true e f g h k small =
      let other : opens b (u ++ c ∷ w) ≡ true = opens_same b u c w v ∙ k in
      let is : first_piece b (u ++ c ∷ v) ≡ comment_piece (b ∷ (u ++ c ∷ v)) (comment_end (u ++ c ∷ v)) = rw (e, f, g, h, k) refl in
      let now : first_piece b (u ++ c ∷ w) ≡ comment_piece (b ∷ (u ++ c ∷ w)) (comment_end (u ++ c ∷ w)) = rw (e, f, g, h, other) refl in
      now ∙ comment_same b u c v w (comment_end (u ++ c ∷ v)) k refl (subst (λ p. piece_len p ≤ suc (length u)) is small) ∙ sym is
  on_open false e f g h k small =
      let other : opens b (u ++ c ∷ w) ≡ false = opens_same b u c w v ∙ k in
      let is : first_piece b (u ++ c ∷ v) ≡ plain_piece (b ∷ (u ++ c ∷ v)) (sentence_end (b ∷ (u ++ c ∷ v))) = rw (e, f, g, h, k) refl in
      let now : first_piece b (u ++ c ∷ w) ≡ plain_piece (b ∷ (u ++ c ∷ w)) (sentence_end (b ∷ (u ++ c ∷ w))) = rw (e, f, g, h, other) refl in
      now ∙ plain_same b u c v w (sentence_end (b ∷ (u ++ c ∷ v))) refl (subst (λ p. piece_len p ≤ suc (length u)) is small) ∙ sym is

  on_close : (t : Bool) → is_blank b ≡ false → is_bullet b ≡ false → eqb b 123 ≡ false → eqb b 125 ≡ t → piece_len (first_piece b (u ++ c ∷ v)) ≤ suc (length u) → first_piece b (u ++ c ∷ w) ≡ first_piece b (u ++ c ∷ v)
  on_close true e f g h small = rw (e, f, g, h) refl
  on_close false e f g h small = on_open (opens b (u ++ c ∷ v)) e f g h refl small

  on_brace : (t : Bool) → is_blank b ≡ false → is_bullet b ≡ false → eqb b 123 ≡ t → piece_len (first_piece b (u ++ c ∷ v)) ≤ suc (length u) → first_piece b (u ++ c ∷ w) ≡ first_piece b (u ++ c ∷ v)
  on_brace true e f g small = rw (e, f, g) refl
  on_brace false e f g small = on_close (eqb b 125) e f g refl small

  on_bullet : (t : Bool) → is_blank b ≡ false → is_bullet b ≡ t → piece_len (first_piece b (u ++ c ∷ v)) ≤ suc (length u) → first_piece b (u ++ c ∷ w) ≡ first_piece b (u ++ c ∷ v)
  on_bullet true e f small =
      let is : first_piece b (u ++ c ∷ v) ≡ Sentence Bullet (1 + prefix_len (λ x. eqb x b) (u ++ c ∷ v)) = rw (e, f) refl in
      let now : first_piece b (u ++ c ∷ w) ≡ Sentence Bullet (1 + prefix_len (λ x. eqb x b) (u ++ c ∷ w)) = rw (e, f) refl in
      let most : 1 + prefix_len (λ x. eqb x b) (u ++ c ∷ v) ≤ suc (length u) = subst (λ p. piece_len p ≤ suc (length u)) is small in
      now ∙ ap (λ n. Sentence Bullet (1 + n)) (run_same (λ x. eqb x b) u c v w (omega (arith, most))) ∙ sym is
  on_bullet false e f small = on_brace (eqb b 123) e f refl small

  on_blank : (t : Bool) → is_blank b ≡ t → piece_len (first_piece b (u ++ c ∷ v)) ≤ suc (length u) → first_piece b (u ++ c ∷ w) ≡ first_piece b (u ++ c ∷ v)
  on_blank true e small = rw e refl
  on_blank false e small = on_bullet (is_bullet b) e refl small

  -- a gap or a sentence
  pub piece_same : piece_len (first_piece b (u ++ c ∷ v)) ≤ suc (length u) → first_piece b (u ++ c ∷ w) ≡ first_piece b (u ++ c ∷ v)
  piece_same small = on_blank (is_blank b) refl small
