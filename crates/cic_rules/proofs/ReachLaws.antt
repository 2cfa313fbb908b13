-- What an entry's list of reached places holds.
use Rattle.std.proofs.Common.{◌≡◌, ℕ, zero, suc, ◌+◌, ◌<◌, ◌≤◌, ◌==◌, nat_lt, List, [], ◌∷◌, ◌++◌, length, Bool, true, false, cond, refl, arith}
use Rattle.std.proofs.lemmas.Bool.Decides.{nat_tests}
use Rattle.term_spine.specs.Globals.{has}
use Rattle.cic_rules.specs.declared.env.Slot.{Slot}
use Rattle.cic_rules.specs.Scopes.{AreBefore}
use Rattle.cic_rules.specs.Environments.{AreSlots}
use Rattle.cic_rules.specs.Infer.{merge_in, union}
use Rattle.cic_rules.specs.Grounded.{used_at, reached, assumptions, is_assumption, axioms, Reaches, Uses, UsesFurther}
use Rattle.cic_rules.specs.Laws.{UsesBefore, EntriesUseBefore, AxiomsAreReached}

never : false ≡ true → ⊥
never e = cc

has_by : (b : Bool) (x q : ℕ) (more : Bool) → (x == q) ≡ b → more ≡ true → cond (x == q) true more ≡ true
has_by true x q more is h = rw is refl
has_by false x q more is h = rw is h

data Has (q x : ℕ) (more : Bool) : Type 0 where
  Is : x ≡ q → Has q x more
  More : more ≡ true → Has q x more

split_by : (b : Bool) (x q : ℕ) (more : Bool) → (x == q) ≡ b → cond b true more ≡ true → Has q x more
split_by true x q more is h = Is (grind (arith, nat_tests, is))
split_by false x q more is h = More h

split : (x q : ℕ) (more : Bool) → cond (x == q) true more ≡ true → Has q x more
split x q more h = split_by (x == q) x q more refl h

here : (x q : ℕ) (more : Bool) → x ≡ q → cond (x == q) true more ≡ true
here x q more e = let is : (x == q) ≡ true = grind (arith, nat_tests, e) in rw is refl

there : (x q : ℕ) (more : Bool) → more ≡ true → cond (x == q) true more ≡ true
there x q more h = has_by (x == q) x q more refl h

pub data InTwo (q : ℕ) (us vs : List ℕ) : Type 0 where
  First : has us q ≡ true → InTwo q us vs
  Second : has vs q ≡ true → InTwo q us vs

module _ (q : ℕ) where
  wide1 : (u : ℕ) (us vs : List ℕ) → InTwo q us vs → InTwo q (u ∷ us) vs
  wide1 u us vs (First h) = First (there u q (has us q) h)
  wide1 u us vs (Second h) = Second h

  wide2 : (v : ℕ) (us vs : List ℕ) → InTwo q us vs → InTwo q us (v ∷ vs)
  wide2 v us vs (First h) = First h
  wide2 v us vs (Second h) = Second (there v q (has vs q) h)

  put1 : (u : ℕ) (us vs m : List ℕ) → (has m q ≡ true → InTwo q us vs) → Has q u (has m q) → InTwo q (u ∷ us) vs
  put1 u us vs m f (Is e) = First (here u q (has us q) e)
  put1 u us vs m f (More h) = wide1 u us vs (f h)

  put2 : (v : ℕ) (us vs m : List ℕ) → (has m q ≡ true → InTwo q us vs) → Has q v (has m q) → InTwo q us (v ∷ vs)
  put2 v us vs m f (Is e) = Second (here v q (has vs q) e)
  put2 v us vs m f (More h) = wide2 v us vs (f h)

  parts_by : (b c : Bool) (u v : ℕ) (us vs m1 m2 m3 : List ℕ) → (has m1 q ≡ true → InTwo q us (v ∷ vs)) →
      (has m2 q ≡ true → InTwo q (u ∷ us) vs) → (has m3 q ≡ true → InTwo q us vs) →
      has (cond b (u ∷ m1) (cond c (v ∷ m2) (u ∷ m3))) q ≡ true → InTwo q (u ∷ us) (v ∷ vs)
  parts_by true c u v us vs m1 m2 m3 f g k h = put1 u us (v ∷ vs) m1 f (split u q (has m1 q) h)
  parts_by false true u v us vs m1 m2 m3 f g k h = put2 v (u ∷ us) vs m2 g (split v q (has m2 q) h)
  parts_by false false u v us vs m1 m2 m3 f g k h = wide2 v (u ∷ us) vs (put1 u us vs m3 k (split u q (has m3 q) h))

  -- what is in the merged list is in one of the two
  pub merged_parts : (turns : ℕ) (us vs : List ℕ) → has (merge_in turns us vs) q ≡ true → InTwo q us vs
  merged_parts turns [] vs h = Second h
  merged_parts turns (u ∷ us) [] h = First h
  merged_parts zero (u ∷ us) (v ∷ vs) h = absurd (never h)
  merged_parts (suc turns) (u ∷ us) (v ∷ vs) h =
      parts_by (nat_lt u v) (nat_lt v u) u v us vs (merge_in turns us (v ∷ vs)) (merge_in turns (u ∷ us) vs) (merge_in turns us vs)
      (merged_parts turns us (v ∷ vs)) (merged_parts turns (u ∷ us) vs) (merged_parts turns us vs) h

  put_in : (x : ℕ) (ps m : List ℕ) → (has ps q ≡ true → has m q ≡ true) → has (x ∷ ps) q ≡ true → has (x ∷ m) q ≡ true
  put_in x ps m f h = by (split x q (has ps q) h) where
    by : Has q x (has ps q) → has (x ∷ m) q ≡ true
    by (Is e) = here x q (has m q) e
    by (More g) = there x q (has m q) (f g)

  first_by : (b c : Bool) (u v : ℕ) (us m1 m2 m3 : List ℕ) → (has us q ≡ true → has m1 q ≡ true) →
      (has (u ∷ us) q ≡ true → has m2 q ≡ true) → (has us q ≡ true → has m3 q ≡ true) →
      has (u ∷ us) q ≡ true → has (cond b (u ∷ m1) (cond c (v ∷ m2) (u ∷ m3))) q ≡ true
  first_by true c u v us m1 m2 m3 f g k h = put_in u us m1 f h
  first_by false true u v us m1 m2 m3 f g k h = there v q (has m2 q) (g h)
  first_by false false u v us m1 m2 m3 f g k h = put_in u us m3 k h

  second_by : (b c : Bool) (u v : ℕ) (vs m1 m2 m3 : List ℕ) → nat_lt u v ≡ b → nat_lt v u ≡ c →
      (has (v ∷ vs) q ≡ true → has m1 q ≡ true) → (has vs q ≡ true → has m2 q ≡ true) → (has vs q ≡ true → has m3 q ≡ true) →
      has (v ∷ vs) q ≡ true → has (cond b (u ∷ m1) (cond c (v ∷ m2) (u ∷ m3))) q ≡ true
  second_by true c u v vs m1 m2 m3 lt gt f g k h = there u q (has m1 q) (f h)
  second_by false true u v vs m1 m2 m3 lt gt f g k h = put_in v vs m2 g h
  second_by false false u v vs m1 m2 m3 lt gt f g k h =
      let same : v ≡ u = grind (arith, nat_tests, lt, gt) in
      put_in u vs m3 k (rw (← same) h)

  -- what is in one of the two lists is in the merged one
  pub merged_first : (turns : ℕ) (us vs : List ℕ) → length us + length vs ≤ turns → has us q ≡ true → has (merge_in turns us vs) q ≡ true
  merged_first turns [] vs room h = absurd (never h)
  merged_first turns (u ∷ us) [] room h = h
  merged_first zero (u ∷ us) (v ∷ vs) room h = let none : ⊥ = omega (arith, room) in absurd none
  merged_first (suc turns) (u ∷ us) (v ∷ vs) room h =
      let one : length us + suc (length vs) ≤ turns = omega (arith, room) in
      let two : suc (length us) + length vs ≤ turns = omega (arith, room) in
      let both : length us + length vs ≤ turns = omega (arith, room) in
      first_by (nat_lt u v) (nat_lt v u) u v us (merge_in turns us (v ∷ vs)) (merge_in turns (u ∷ us) vs) (merge_in turns us vs)
      (merged_first turns us (v ∷ vs) one) (merged_first turns (u ∷ us) vs two) (merged_first turns us vs both) h

  pub merged_second : (turns : ℕ) (us vs : List ℕ) → length us + length vs ≤ turns → has vs q ≡ true → has (merge_in turns us vs) q ≡ true
  merged_second turns [] vs room h = h
  merged_second turns (u ∷ us) [] room h = absurd (never h)
  merged_second zero (u ∷ us) (v ∷ vs) room h = let none : ⊥ = omega (arith, room) in absurd none
  merged_second (suc turns) (u ∷ us) (v ∷ vs) room h =
      let one : length us + suc (length vs) ≤ turns = omega (arith, room) in
      let two : suc (length us) + length vs ≤ turns = omega (arith, room) in
      let both : length us + length vs ≤ turns = omega (arith, room) in
      second_by (nat_lt u v) (nat_lt v u) u v vs (merge_in turns us (v ∷ vs)) (merge_in turns (u ∷ us) vs) (merge_in turns us vs) refl refl
      (merged_second turns us (v ∷ vs) one) (merged_second turns (u ∷ us) vs two) (merged_second turns us vs both) h

  last_parts : (p : ℕ) (ps : List ℕ) → has (ps ++ (p ∷ [])) q ≡ true → InTwo q ps (p ∷ [])
  last_parts p [] h = Second h
  last_parts p (x ∷ ps) h = put1 x ps (p ∷ []) (ps ++ (p ∷ [])) (last_parts p ps) (split x q (has (ps ++ (p ∷ [])) q) h)

  before_last : (p : ℕ) (ps : List ℕ) → has ps q ≡ true → has (ps ++ (p ∷ [])) q ≡ true
  before_last p [] h = absurd (never h)
  before_last p (x ∷ ps) h = put_in x ps (ps ++ (p ∷ [])) (before_last p ps) h

  at_last : (p : ℕ) (ps : List ℕ) → p ≡ q → has (ps ++ (p ∷ [])) q ≡ true
  at_last p [] e = here p q false e
  at_last p (x ∷ ps) e = there x q (has (ps ++ (p ∷ [])) q) (at_last p ps e)

  below : (r : ℕ) (ps : List ℕ) → AreBefore r ps → has ps q ≡ true → q < r
  below r [] all h = absurd (never h)
  below r (x ∷ ps) all h = by (below r ps all.1) (split x q (has ps q) h) where
    by : (has ps q ≡ true → q < r) → Has q x (has ps q) → q < r
    by f (Is e) = rw (← e) all.0
    by f (More g) = f g

  union_parts : (us vs : List ℕ) → has (union us vs) q ≡ true → InTwo q us vs
  union_parts us vs h = merged_parts (length us + length vs) us vs h

-- a name below a place, or one that reaches
pub data Starts (env : List Slot) (names : List ℕ) (p q : ℕ) : Type 0 where
  Stands : q < p → has names q ≡ true → Starts env names p q
  Goes : (n : ℕ) → n < p → has names n ≡ true → Reaches env n q → Starts env names p q

module _ (env : List Slot) (q : ℕ) where
  further : (p : ℕ) (names : List ℕ) → Starts env names p q → Starts env names (suc p) q
  further p names (Stands lt m) = Stands (omega (arith, lt)) m
  further p names (Goes n lt m r) = Goes n (omega (arith, lt)) m r

  through : (p : ℕ) (names : List ℕ) → has names p ≡ true → Starts env (union names (used_at env p)) p q → Starts env names (suc p) q
  through p names is (Stands lt m) = by (union_parts q names (used_at env p) m) where
    by : InTwo q names (used_at env p) → Starts env names (suc p) q
    by (First a) = Stands (omega (arith, lt)) a
    by (Second b) = Goes p (omega arith) is (Uses b)
  through p names is (Goes n lt m r) = by (union_parts n names (used_at env p) m) where
    by : InTwo n names (used_at env p) → Starts env names (suc p) q
    by (First a) = Goes n (omega (arith, lt)) a r
    by (Second b) = Goes p (omega arith) is (UsesFurther b r)

  at_place : (p : ℕ) (names : List ℕ) → has names p ≡ true → Has q p false → Starts env names (suc p) q
  at_place p names is (Is e) = let at : has names q ≡ true = rw (← e) is in Stands (omega (arith, e)) at
  at_place p names is (More h) = absurd (never h)

  union_first : (x : ℕ) (us vs : List ℕ) → has us x ≡ true → has (union us vs) x ≡ true
  union_first x us vs h = let room : length us + length vs ≤ length us + length vs = omega arith in merged_first x (length us + length vs) us vs room h

  union_second : (x : ℕ) (us vs : List ℕ) → has vs x ≡ true → has (union us vs) x ≡ true
  union_second x us vs h = let room : length us + length vs ≤ length us + length vs = omega arith in merged_second x (length us + length vs) us vs room h

clash : (b : Bool) → b ≡ false → b ≡ true → ⊥
clash b f t = cc

-- a place is the last one, or it starts below it
data Down (env : List Slot) (names : List ℕ) (p q : ℕ) : Type 0 where
  AtIt : p ≡ q → Down env names p q
  Below : Starts env (union names (used_at env p)) p q → Down env names p q

module _ (env : List Slot) where
  from_by : (b : Bool) (p q : ℕ) (names with out : List ℕ) → has names p ≡ b →
      (has with q ≡ true → Starts env (union names (used_at env p)) p q) → (has out q ≡ true → Starts env names p q) →
      has (cond b (with ++ (p ∷ [])) out) q ≡ true → Starts env names (suc p) q
  from_by true p q names with out is f g h = by (last_parts q p with h) where
    by : InTwo q with (p ∷ []) → Starts env names (suc p) q
    by (First a) = through env q p names is (f a)
    by (Second b) = at_place env q p names is (split p q false b)
  from_by false p q names with out is f g h = further env q p names (g h)

  from_reached : (p q : ℕ) (names : List ℕ) → has (reached env p names) q ≡ true → Starts env names p q
  from_reached zero q names h = absurd (never h)
  from_reached (suc p) q names h =
      from_by (has names p) p q names (reached env p (union names (used_at env p))) (reached env p names) refl
      (from_reached p q (union names (used_at env p))) (from_reached p q names) h

  far : (p q n : ℕ) (names : List ℕ) → AreBefore p (used_at env p) → has (used_at env p) n ≡ true → Reaches env n q → Down env names p q
  far p q n names before u r =
      Below (Goes n (below n p (used_at env p) before u) (union_second env q n names (used_at env p) u) r)

  near : (p q : ℕ) (names : List ℕ) → AreBefore p (used_at env p) → has (used_at env p) q ≡ true → Down env names p q
  near p q names before u = Below (Stands (below q p (used_at env p) before u) (union_second env q q names (used_at env p) u))

  reach_down : (p q : ℕ) (names : List ℕ) → AreBefore p (used_at env p) → Reaches env p q → Down env names p q
  reach_down p q names before (Uses u) = near p q names before u
  reach_down p q names before (UsesFurther u r) = far p q _ names before u r

  stands_down : (b : Bool) (p q : ℕ) (names : List ℕ) → (p == q) ≡ b → q < suc p → has names q ≡ true → Down env names p q
  stands_down true p q names is lt m = AtIt (grind (arith, nat_tests, is))
  stands_down false p q names is lt m =
      let less : q < p = grind (arith, nat_tests, is, lt) in
      Below (Stands less (union_first env q q names (used_at env p) m))

  goes_down : (b : Bool) (p q n : ℕ) (names : List ℕ) → (n == p) ≡ b → AreBefore p (used_at env p) → n < suc p → has names n ≡ true →
      Reaches env n q → Down env names p q
  goes_down true p q n names is before lt m r =
      let e : n ≡ p = grind (arith, nat_tests, is) in
      let at : Reaches env p q = rw (← e) r in
      reach_down p q names before at
  goes_down false p q n names is before lt m r =
      let less : n < p = grind (arith, nat_tests, is, lt) in
      Below (Goes n less (union_first env q n names (used_at env p) m) r)

  down : (p q : ℕ) (names : List ℕ) → AreBefore p (used_at env p) → Starts env names (suc p) q → Down env names p q
  down p q names before (Stands lt m) = stands_down (p == q) p q names refl lt m
  down p q names before (Goes n lt m r) = goes_down (n == p) p q n names refl before lt m r

  less_by : (b : Bool) (p n : ℕ) (names : List ℕ) → (n == p) ≡ b → has names p ≡ false → has names n ≡ true → n < suc p → n < p
  less_by true p n names is free m lt =
      let e : n ≡ p = grind (arith, nat_tests, is) in
      let at : has names p ≡ true = rw (← e) m in
      absurd (clash (has names p) free at)
  less_by false p n names is free m lt = grind (arith, nat_tests, is, lt)

  skip : (p q : ℕ) (names : List ℕ) → has names p ≡ false → Starts env names (suc p) q → Starts env names p q
  skip p q names free (Stands lt m) = Stands (less_by (q == p) p q names refl free m lt) m
  skip p q names free (Goes n lt m r) = Goes n (less_by (n == p) p n names refl free m lt) m r

  to_by : (b : Bool) (p q : ℕ) (names with out : List ℕ) → has names p ≡ b → AreBefore p (used_at env p) →
      (Starts env (union names (used_at env p)) p q → has with q ≡ true) → (Starts env names p q → has out q ≡ true) →
      Starts env names (suc p) q → has (cond b (with ++ (p ∷ [])) out) q ≡ true
  to_by true p q names with out is before f g s = by (down p q names before s) where
    by : Down env names p q → has (with ++ (p ∷ [])) q ≡ true
    by (AtIt e) = at_last q p with e
    by (Below t) = before_last q p with (f t)
  to_by false p q names with out is before f g s = g (skip p q names is s)

  reached_from : UsesBefore env → (p q : ℕ) (names : List ℕ) → Starts env names p q → has (reached env p names) q ≡ true
  reached_from all zero q names (Stands lt m) = let none : ⊥ = omega (arith, lt) in absurd none
  reached_from all zero q names (Goes n lt m r) = let none : ⊥ = omega (arith, lt) in absurd none
  reached_from all (suc p) q names s =
      to_by (has names p) p q names (reached env p (union names (used_at env p))) (reached env p names) refl (all p)
      (reached_from all p q (union names (used_at env p))) (reached_from all p q names) s

  kept_by : (b : Bool) (p q : ℕ) (ps : List ℕ) → is_assumption env p ≡ b →
      (has (assumptions env ps) q ≡ true → (has ps q ≡ true) × (is_assumption env q ≡ true)) →
      has (cond b (p ∷ assumptions env ps) (assumptions env ps)) q ≡ true → (has (p ∷ ps) q ≡ true) × (is_assumption env q ≡ true)
  kept_by true p q ps is f h = by (split p q (has (assumptions env ps) q) h) where
    by : Has q p (has (assumptions env ps) q) → (has (p ∷ ps) q ≡ true) × (is_assumption env q ≡ true)
    by (Is e) = let at : is_assumption env q ≡ true = rw (← e) is in (here p q (has ps q) e, at)
    by (More g) = (there p q (has ps q) (f g).0, (f g).1)
  kept_by false p q ps is f h = (there p q (has ps q) (f h).0, (f h).1)

  kept : (q : ℕ) (ps : List ℕ) → has (assumptions env ps) q ≡ true → (has ps q ≡ true) × (is_assumption env q ≡ true)
  kept q [] h = absurd (never h)
  kept q (p ∷ ps) h = kept_by (is_assumption env p) p q ps refl (kept q ps) h

  keep_by : (b : Bool) (p q : ℕ) (ps : List ℕ) → is_assumption env p ≡ b → is_assumption env q ≡ true →
      (has ps q ≡ true → has (assumptions env ps) q ≡ true) → has (p ∷ ps) q ≡ true →
      has (cond b (p ∷ assumptions env ps) (assumptions env ps)) q ≡ true
  keep_by true p q ps is a f h = by (split p q (has ps q) h) where
    by : Has q p (has ps q) → has (p ∷ assumptions env ps) q ≡ true
    by (Is e) = here p q (has (assumptions env ps) q) e
    by (More g) = there p q (has (assumptions env ps) q) (f g)
  keep_by false p q ps is a f h = by (split p q (has ps q) h) where
    by : Has q p (has ps q) → has (assumptions env ps) q ≡ true
    by (Is e) = let at : is_assumption env p ≡ true = rw e a in absurd (clash (is_assumption env p) is at)
    by (More g) = f g

  keep : (q : ℕ) (ps : List ℕ) → is_assumption env q ≡ true → has ps q ≡ true → has (assumptions env ps) q ≡ true
  keep q [] a h = absurd (never h)
  keep q (p ∷ ps) a h = keep_by (is_assumption env p) p q ps refl a (keep q ps a) h

  -- what an entry's names start is what it reaches
  started : (p q : ℕ) → AreBefore p (used_at env p) → Reaches env p q → Starts env (used_at env p) p q
  started p q before (Uses u) = Stands (below q p (used_at env p) before u) u
  started p q before (UsesFurther u r) = Goes _ (below _ p (used_at env p) before u) u r

  reaches : (p q : ℕ) → Starts env (used_at env p) p q → Reaches env p q
  reaches p q (Stands lt m) = Uses m
  reaches p q (Goes n lt m r) = UsesFurther m r

  only_reached : (place q : ℕ) → has (axioms env place) q ≡ true → (is_assumption env q ≡ true) × Reaches env place q
  only_reached place q h =
      let k = kept q (reached env place (used_at env place)) h in
      (k.1, reaches place q (from_reached place q (used_at env place) k.0))

  all_reached : UsesBefore env → (place q : ℕ) → (is_assumption env q ≡ true) × Reaches env place q → has (axioms env place) q ≡ true
  all_reached all place q h =
      keep q (reached env place (used_at env place)) h.0 (reached_from all place q (used_at env place) (started place q (all place) h.1))

pub axioms_are_reached : AxiomsAreReached
axioms_are_reached env all place q = (only_reached env place q, all_reached env all place q)

used_before : (n : ℕ) (env : List Slot) (place : ℕ) → AreSlots n env → AreBefore (n + place) (used_at env place)
used_before n [] place all = tt
used_before n (s ∷ ss) zero all = let none : n + 0 ≡ n = omega arith in rw none all.0.entry.names.before
used_before n (s ∷ ss) (suc place) all =
    let same : n + suc place ≡ suc n + place = omega arith in
    rw same (used_before (suc n) ss place all.1)

pub entries_use_before : EntriesUseBefore
entries_use_before env is place =
    let same : 0 + place ≡ place = omega arith in
    rw same at (used_before 0 env place is.slots)
