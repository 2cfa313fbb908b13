-- Where there is no room, no comment is closed.
use Rattle.std.proofs.Common.{◌≡◌, ℕ, ◌+◌, ◌-◌, ◌<◌, ◌≤◌, Bool, true, false, cond, eqb, None, Some, List, [], ◌∷◌, length, zero, suc, refl, sym, ◌∙◌, ap, arith, ◌^◌, get_or, take, drop, length-drop, drop-cons, nat_lt, inl, inr}
use Rattle.std.proofs.lemmas.Bool.Decides.{nat_tests}
use Rattle.std.proofs.lemmas.Bool.{cases_eq}
use Rattle.std.proofs.lemmas.Grind.{get_or-set_at, common_steps}
use Rattle.std.proofs.lemmas.List.{get_or-set_other}
use Rattle.std.proofs.Math.ListN.{set}
use Rattle.sentence_split.specs.declared.scan.Mode.TheVariants.{Item, Quoted, Second}
use Rattle.sentence_split.specs.Items.{opens, closes}
use Rattle.sentence_split.specs.Scan.{state, item_step, step, scan, comment_end}
use Rattle.coq_syntax.specs.declared.rooms.Rooms.{Rooms}
use Rattle.coq_syntax.specs.Scan.{rooms_before, rooms_of}

-- what is known of the rest in each mode
pub record NoRoom (text : List ℕ) (rooms : Rooms) : Type 0 where
  pub fresh : (d : ℕ) → rooms.fresh ≤ d → scan Some Item (suc d) text ≡ None
  pub in_string : (d : ℕ) → rooms.in_string ≤ d → scan Some Quoted (suc d) text ≡ None
  pub in_mark : (d : ℕ) → rooms.in_mark ≤ d → scan Some Second (suc d) text ≡ None

fresh_cases : (o k q : Bool) (c : ℕ) (rest : List ℕ) (rooms : Rooms) → opens c rest ≡ o → closes c rest ≡ k → eqb c 34 ≡ q → NoRoom rest rooms → (d : ℕ) → (rooms_before c rest rooms).fresh ≤ d → scan Some Item (suc d) (c ∷ rest) ≡ None
fresh_cases true k q c rest rooms e f g n d h =
    let less : rooms.in_mark - 1 ≤ d = rw e at h in
    let goes : item_step (suc d) c rest ≡ state (suc (suc d)) Second = rw e refl in
    ap (λ s. scan Some s.mode s.depth rest) goes ∙ n.in_mark (suc d) (omega (arith, less))
fresh_cases false true q c rest rooms e f g n zero h =
    let less : rooms.in_mark + 1 ≤ 0 = rw (e, f) at h in absurd (omega (arith, less))
fresh_cases false true q c rest rooms e f g n (suc d) h =
    let less : rooms.in_mark + 1 ≤ suc d = rw (e, f) at h in
    let goes : item_step (suc (suc d)) c rest ≡ state (suc d) Second = rw (e, f) refl in
    ap (λ s. scan Some s.mode s.depth rest) goes ∙ n.in_mark d (omega (arith, less))
fresh_cases false false true c rest rooms e f g n d h =
    let less : rooms.in_string ≤ d = rw (e, f, g) at h in
    let goes : item_step (suc d) c rest ≡ state (suc d) Quoted = rw (e, f, g) refl in
    ap (λ s. scan Some s.mode s.depth rest) goes ∙ n.in_string d less
fresh_cases false false false c rest rooms e f g n d h =
    let less : rooms.fresh ≤ d = rw (e, f, g) at h in
    let goes : item_step (suc d) c rest ≡ state (suc d) Item = rw (e, f, g) refl in
    ap (λ s. scan Some s.mode s.depth rest) goes ∙ n.fresh d less

string_cases : (q : Bool) (c : ℕ) (rest : List ℕ) (rooms : Rooms) → eqb c 34 ≡ q → NoRoom rest rooms → (d : ℕ) → (rooms_before c rest rooms).in_string ≤ d → scan Some Quoted (suc d) (c ∷ rest) ≡ None
string_cases true c rest rooms g n d h =
    let less : rooms.fresh ≤ d = rw g at h in
    let goes : step (suc d) Quoted c rest ≡ state (suc d) Item = rw g refl in
    ap (λ s. scan Some s.mode s.depth rest) goes ∙ n.fresh d less
string_cases false c rest rooms g n d h =
    let less : rooms.in_string ≤ d = rw g at h in
    let goes : step (suc d) Quoted c rest ≡ state (suc d) Quoted = rw g refl in
    ap (λ s. scan Some s.mode s.depth rest) goes ∙ n.in_string d less

no_room : (text : List ℕ) → NoRoom text (rooms_of text)
no_room [] = record { fresh = λ d h. refl; in_string = λ d h. refl; in_mark = λ d h. refl }
no_room (c ∷ rest) =
    let n = no_room rest in
    record {
      fresh = fresh_cases (opens c rest) (closes c rest) (eqb c 34) c rest (rooms_of rest) refl refl refl n;
      in_string = string_cases (eqb c 34) c rest (rooms_of rest) refl n;
      in_mark = λ d h. n.fresh d h;
    }

-- where there is no room behind a comment's first mark, nothing closes it
pub not_closed : (text : List ℕ) (rooms : Rooms) → rooms ≡ rooms_of text → rooms.in_mark ≡ 0 → comment_end text ≡ None
not_closed text rooms e h = (no_room text).in_mark 0 (omega (arith, h, ap (λ r. r.in_mark) e))

few_cases : (o k q : Bool) (n fresh in_string in_mark : ℕ) → fresh ≤ n → in_string ≤ n → in_mark ≤ n → cond o (in_mark - 1) (cond k (in_mark + 1) (cond q in_string fresh)) ≤ n + 1
few_cases true k q n x y z f s m = omega arith
few_cases false true q n x y z f s m = omega arith
few_cases false false true n x y z f s m = omega arith
few_cases false false false n x y z f s m = omega arith

few_string : (q : Bool) (n x y : ℕ) → x ≤ n → y ≤ n → cond q x y ≤ n + 1
few_string true n x y h k = omega arith
few_string false n x y h k = omega arith

pub record AreFew (rooms : Rooms) (most : ℕ) : Type 0 where
  pub fresh : rooms.fresh ≤ most
  pub in_string : rooms.in_string ≤ most
  pub in_mark : rooms.in_mark ≤ most

pub few : (text : List ℕ) → AreFew (rooms_of text) (length text)
few [] = record { fresh = omega arith; in_string = omega arith; in_mark = omega arith }
few (c ∷ rest) =
    let n = few rest in
    let f = few_cases (opens c rest) (closes c rest) (eqb c 34) (length rest) (rooms_of rest).fresh (rooms_of rest).in_string (rooms_of rest).in_mark n.fresh n.in_string n.in_mark in
    let s = few_string (eqb c 34) (length rest) (rooms_of rest).fresh (rooms_of rest).in_string n.fresh n.in_string in
    record { fresh = omega (arith, f); in_string = omega (arith, s); in_mark = omega (arith, n.fresh) }

-- the state of the pass from the end, one character earlier
pub passed : (text : List ℕ) (i c : ℕ) (shown : List ℕ) (rooms now : Rooms) → 0 < i → i ≤ length text → c ≡ get_or text (i - 1) c → shown ≡ drop i text → rooms ≡ rooms_of (drop i text) → now ≡ rooms_before c shown rooms → now ≡ rooms_of (drop (i - 1) text)
passed text zero c shown rooms now h k x s e f = absurd (omega arith)
passed text (suc i) c shown rooms now h k x s e f =
    let one : suc i - 1 ≡ i = omega arith in
    let bound : i < length text = omega arith in
    let front : drop i text ≡ get_or text i c ∷ drop (suc i) text = drop-cons text i c bound in
    rw one (f ∙ ap (λ t. rooms_before c t rooms) s ∙ ap (rooms_before c (drop (suc i) text)) e ∙ ap (λ d. rooms_before d (drop (suc i) text) (rooms_of (drop (suc i) text))) (x ∙ ap (λ n. get_or text n c) one) ∙ sym (ap rooms_of front))

nothing_left : (n : ℕ) → nat_lt 0 n ≡ false → n ≡ 0
nothing_left n e = grind (arith, nat_tests)

-- the marks, one more
pub marked : (text : List ℕ) (marks : List Bool) (i : ℕ) (rooms : Rooms) → 0 < i → i ≤ length text → length marks ≡ length text → rooms ≡ rooms_of (drop i text) →
    ((k : ℕ) → i ≤ k → k < length text → get_or marks k true ≡ false → comment_end (drop (k + 1) text) ≡ None) →
    (k : ℕ) → i - 1 ≤ k → k < length text → get_or (set marks (i - 1) (nat_lt 0 rooms.in_mark)) k true ≡ false → comment_end (drop (k + 1) text) ≡ None
marked text marks i rooms pos within count e before k low high is = elim (cases_eq k (i - 1)) [
  | inl same ↦
      let set_here : get_or (set marks (i - 1) (nat_lt 0 rooms.in_mark)) k true ≡ nat_lt 0 rooms.in_mark = get_or-set_at marks (i - 1) k (nat_lt 0 rooms.in_mark) true same (omega arith) in
      let next : k + 1 ≡ i = omega arith in
      ap (λ n. comment_end (drop n text)) next ∙ not_closed (drop i text) rooms e (nothing_left rooms.in_mark (sym set_here ∙ is))
  | inr other ↦ before k (omega arith) high (sym (get_or-set_other marks (i - 1) k (nat_lt 0 rooms.in_mark) true other) ∙ is)
]

pub rooms_bound : (text : List ℕ) (i : ℕ) (rooms : Rooms) → rooms ≡ rooms_of (drop i text) → length text < 2 ^ 32 → rooms.in_mark < 2 ^ 32
rooms_bound text i rooms e h = let f = (few (drop i text)).in_mark in omega (arith, f, length-drop i text, ap (λ r. r.in_mark) e)

-- the rest of a text behind a place, as the code slices it
pub shown_rest : (text : List ℕ) (i : ℕ) → 0 < i → take (length text - (i - 1 + 1)) (drop (i - 1 + 1) text) ≡ drop i text
shown_rest text i h = let one : i - 1 + 1 ≡ i = omega arith in grind (arith, common_steps)
