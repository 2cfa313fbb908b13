-- Names used: lists of places that ascend, and what goes with the union of two.
use Rattle.std.proofs.Common.{◌≡◌, ℕ, zero, suc, ◌+◌, ◌<◌, ◌≤◌, nat_lt, List, [], ◌∷◌, length, Bool, true, false, refl, arith}
use Rattle.std.specs.Prelude.{IsTrue, if◌then◌else◌}
use Rattle.std.proofs.lemmas.Bool.Decides.{nat_tests}
use Rattle.core_term.specs.Tree.{Tree, Var, Sorted, Constant, Prod, Lam, LetIn, App}
use Rattle.term_spine.specs.Globals.{has, AreBehind, IsAscending}
use Rattle.cic_rules.specs.Infer.{merge_in, union}
use Rattle.cic_rules.specs.Scopes.{AreBefore, UsesOnly, AreNames}
use Rattle.cic_rules.proofs.ReachLaws.{merged_first, merged_second}

pub behind_more : (p q : ℕ) (ps : List ℕ) → p ≤ q → AreBehind q ps → AreBehind p ps
behind_more p q [] le h = tt
behind_more p q (x ∷ ps) le h = let lt = h.0 in (omega (arith, le, lt), behind_more p q ps le h.1)

behind_by : (b c : Bool) (p u v : ℕ) (one two three : List ℕ) → p < u → p < v → AreBehind p one → AreBehind p two → AreBehind p three →
    AreBehind p (if b then u ∷ one else (if c then v ∷ two else u ∷ three))
behind_by true c p u v one two three lu lv h k l = (lu, h)
behind_by false true p u v one two three lu lv h k l = (lv, k)
behind_by false false p u v one two three lu lv h k l = (lu, l)

behind_merged : (p turns : ℕ) (us vs : List ℕ) → AreBehind p us → AreBehind p vs → AreBehind p (merge_in turns us vs)
behind_merged p turns [] vs h k = k
behind_merged p turns (u ∷ us) [] h k = h
behind_merged p zero (u ∷ us) (v ∷ vs) h k = tt
behind_merged p (suc turns) (u ∷ us) (v ∷ vs) h k =
    behind_by (nat_lt u v) (nat_lt v u) p u v (merge_in turns us (v ∷ vs)) (merge_in turns (u ∷ us) vs) (merge_in turns us vs) h.0 k.0
    (behind_merged p turns us (v ∷ vs) h.1 k) (behind_merged p turns (u ∷ us) vs h k.1) (behind_merged p turns us vs h.1 k.1)

before_by : (b c : Bool) (p u v : ℕ) (one two three : List ℕ) → u < p → v < p → AreBefore p one → AreBefore p two → AreBefore p three →
    AreBefore p (if b then u ∷ one else (if c then v ∷ two else u ∷ three))
before_by true c p u v one two three lu lv h k l = (lu, h)
before_by false true p u v one two three lu lv h k l = (lv, k)
before_by false false p u v one two three lu lv h k l = (lu, l)

before_merged : (p turns : ℕ) (us vs : List ℕ) → AreBefore p us → AreBefore p vs → AreBefore p (merge_in turns us vs)
before_merged p turns [] vs h k = k
before_merged p turns (u ∷ us) [] h k = h
before_merged p zero (u ∷ us) (v ∷ vs) h k = tt
before_merged p (suc turns) (u ∷ us) (v ∷ vs) h k =
    before_by (nat_lt u v) (nat_lt v u) p u v (merge_in turns us (v ∷ vs)) (merge_in turns (u ∷ us) vs) (merge_in turns us vs) h.0 k.0
    (before_merged p turns us (v ∷ vs) h.1 k) (before_merged p turns (u ∷ us) vs h k.1) (before_merged p turns us vs h.1 k.1)

ascending_by : (b c : Bool) (turns u v : ℕ) (us vs : List ℕ) → nat_lt u v ≡ b → nat_lt v u ≡ c → IsAscending (u ∷ us) → IsAscending (v ∷ vs) →
    IsAscending (merge_in turns us (v ∷ vs)) → IsAscending (merge_in turns (u ∷ us) vs) → IsAscending (merge_in turns us vs) →
    IsAscending (if b then u ∷ merge_in turns us (v ∷ vs) else (if c then v ∷ merge_in turns (u ∷ us) vs else u ∷ merge_in turns us vs))
ascending_by true c turns u v us vs low high h k one two three =
    let lt : u < v = grind (arith, nat_tests, low) in
    (behind_merged u turns us (v ∷ vs) h.0 (lt, behind_more u v vs (omega (arith, lt)) k.0), one)
ascending_by false true turns u v us vs low high h k one two three =
    let lt : v < u = grind (arith, nat_tests, high) in
    (behind_merged v turns (u ∷ us) vs (lt, behind_more v u us (omega (arith, lt)) h.0) k.0, two)
ascending_by false false turns u v us vs low high h k one two three =
    let le : u ≤ v = grind (arith, nat_tests, low, high) in
    (behind_merged u turns us vs h.0 (behind_more u v vs le k.0), three)

ascending_merged : (turns : ℕ) (us vs : List ℕ) → IsAscending us → IsAscending vs → IsAscending (merge_in turns us vs)
ascending_merged turns [] vs h k = k
ascending_merged turns (u ∷ us) [] h k = h
ascending_merged zero (u ∷ us) (v ∷ vs) h k = tt
ascending_merged (suc turns) (u ∷ us) (v ∷ vs) h k =
    ascending_by (nat_lt u v) (nat_lt v u) turns u v us vs refl refl h k (ascending_merged turns us (v ∷ vs) h.1 k)
    (ascending_merged turns (u ∷ us) vs h k.1) (ascending_merged turns us vs h.1 k.1)

pub union_first : (us vs : List ℕ) (x : ℕ) → IsTrue (has us x) → IsTrue (has (union us vs) x)
union_first us vs x h = merged_first x (length us + length vs) us vs (omega arith) h

pub union_second : (us vs : List ℕ) (x : ℕ) → IsTrue (has vs x) → IsTrue (has (union us vs) x)
union_second us vs x h = merged_second x (length us + length vs) us vs (omega arith) h

-- the names of two runs
pub names_union : (m : ℕ) (us vs : List ℕ) → AreNames m us → AreNames m vs → AreNames m (union us vs)
names_union m us vs h k =
    record {
      ascending = ascending_merged (length us + length vs) us vs h.ascending k.ascending;
      before = before_merged m (length us + length vs) us vs h.before k.before;
    }

-- more names
pub uses_more : (used all : List ℕ) (t : Tree) → ((c : ℕ) → IsTrue (has used c) → IsTrue (has all c)) → UsesOnly used t → UsesOnly all t
uses_more used all (Var i) more h = tt
uses_more used all (Sorted s) more h = tt
uses_more used all (Constant c) more h = more c h
uses_more used all (Prod n a b) more h = (uses_more used all a more h.0, uses_more used all b more h.1)
uses_more used all (Lam n a b) more h = (uses_more used all a more h.0, uses_more used all b more h.1)
uses_more used all (LetIn n a t b) more h = (uses_more used all a more h.0, uses_more used all t more h.1, uses_more used all b more h.2)
uses_more used all (App f a) more h = (uses_more used all f more h.0, uses_more used all a more h.1)

pub uses_first : (us vs : List ℕ) (t : Tree) → UsesOnly us t → UsesOnly (union us vs) t
uses_first us vs t h = uses_more us (union us vs) t (union_first us vs) h

pub uses_second : (us vs : List ℕ) (t : Tree) → UsesOnly vs t → UsesOnly (union us vs) t
uses_second us vs t h = uses_more vs (union us vs) t (union_second us vs) h
