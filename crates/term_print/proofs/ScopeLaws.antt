-- What an index of names has after one more.
use Rattle.std.proofs.Common.{◌≡◌, ℕ, List, [], ◌∷◌, ◌++◌, Bool, true, false, Option, Some, None, is_some, if◌then◌else◌, bytes_eq, refl, sym, ◌∙◌, ap, subst}
use Rattle.std.proofs.lemmas.Slice.Eq.{bytes_eq-Decides}
use Rattle.std.specs.Ordering.{is_eq, nat_cmp}
use Rattle.std.specs.Cmp.Lexicographic.{slice_cmp}
use Rattle.std.proofs.lemmas.Map.Text.{is_eq-slice_cmp}
use Rattle.shared_map.specs.Entries.{look, PutsOnly}
use Rattle.term_print.specs.Freshness.{has_name, candidate}
use Rattle.term_print.specs.Scope.{IsIndex, AreTaken, AreNumbers}

there_by : (b : Bool) (value : Unit {0}) (old : Option (Unit {0})) → is_some (if b then Some value else old) ≡ (if b then true else is_some old)
there_by true value old = refl
there_by false value old = refl

index_more : (old new : List (List ℕ × Unit {0})) (names : List (List ℕ)) (key : List ℕ) (value : Unit {0}) →
    IsIndex old names → PutsOnly (slice_cmp nat_cmp) old new key value → IsIndex new (key ∷ names)
index_more old new names key value h only name =
    ap is_some (only name) ∙ there_by (is_eq (slice_cmp nat_cmp name key)) value (look (slice_cmp nat_cmp) old name)
    ∙ ap (λ b. if b then true else is_some (look (slice_cmp nat_cmp) old name)) (is_eq-slice_cmp name key)
    ∙ ap (λ b. if bytes_eq name key then true else b) (h name)

pub index_first : (old new : List (List ℕ × Unit {0})) (names now : List (List ℕ)) (key own : List ℕ) (value : Unit {0}) →
    IsIndex old names → PutsOnly (slice_cmp nat_cmp) old new key value → key ≡ own → now ≡ own ∷ names → IsIndex new now
index_first old new names now key own value h only e f name =
    index_more old new names key value h only name ∙ ap (λ k. has_name (k ∷ names) name) e ∙ ap (λ ns. has_name ns name) (sym f)

apart : (a b c : Bool) → (if a then true else (if b then true else c)) ≡ (if b then true else (if a then true else c))
apart true true c = refl
apart true false c = refl
apart false true c = refl
apart false false c = refl

among : (names : List (List ℕ)) (key name : List ℕ) → has_name (names ++ key ∷ []) name ≡ (if bytes_eq name key then true else has_name names name)
among [] key name = refl
among (n ∷ ns) key name =
    ap (λ b. if bytes_eq name n then true else b) (among ns key name) ∙ apart (bytes_eq name n) (bytes_eq name key) (has_name ns name)

pub index_last : (old new : List (List ℕ × Unit {0})) (names now : List (List ℕ)) (key own : List ℕ) (value : Unit {0}) →
    IsIndex old names → PutsOnly (slice_cmp nat_cmp) old new key value → key ≡ own → now ≡ names ++ own ∷ [] → IsIndex new now
index_last old new names now key own value h only e f name =
    index_more old new names key value h only name ∙ ap (λ k. has_name (k ∷ names) name) e ∙ sym (among names own name) ∙ ap (λ ns. has_name ns name) (sym f)

true_either : (a b : Bool) → b ≡ true → (if a then true else b) ≡ true
true_either true b h = refl
true_either false b h = h

-- what is known of numbers stays where a name comes first
pub numbers_first : (old new : List (List ℕ × ℕ)) (names now : List (List ℕ)) (own : List ℕ) →
    AreNumbers old names → new ≡ old → now ≡ own ∷ names → AreNumbers new now
numbers_first old new names now own h e f stem n found k less =
    ap (λ ns. has_name ns (candidate stem k)) f
    ∙ true_either (bytes_eq (candidate stem k) own) (has_name names (candidate stem k))
    (h stem n (sym (ap (λ ns. look (slice_cmp nat_cmp) ns stem) e) ∙ found) k less)

-- and where one comes last
pub numbers_last : (old new : List (List ℕ × ℕ)) (names now : List (List ℕ)) (own : List ℕ) →
    AreNumbers old names → new ≡ old → now ≡ names ++ own ∷ [] → AreNumbers new now
numbers_last old new names now own h e f stem n found k less =
    ap (λ ns. has_name ns (candidate stem k)) f ∙ among names own (candidate stem k)
    ∙ true_either (bytes_eq (candidate stem k) own) (has_name names (candidate stem k))
    (h stem n (sym (ap (λ ns. look (slice_cmp nat_cmp) ns stem) e) ∙ found) k less)

-- what is known of a stem is so under each name of the list
pub known_taken : (numbers : List (List ℕ × ℕ)) (names now : List (List ℕ)) (stem : List ℕ) (n : ℕ) →
    AreNumbers numbers names → now ≡ names → look (slice_cmp nat_cmp) numbers stem ≡ Some n → AreTaken now stem n
known_taken numbers names now stem n h e found k less = ap (λ ns. has_name ns (candidate stem k)) e ∙ h stem n found k less

abbrev number_of : Option ℕ → ℕ
number_of None = 0
number_of (Some n) = n

put_one : (P : ℕ → Type 0) (b : Bool) (n : ℕ) (old : Option ℕ) → (b ≡ true → P n) → ((m : ℕ) → old ≡ Some m → P m) →
    (m : ℕ) → (if b then Some n else old) ≡ Some m → P m
put_one P true n old f g m e = subst P (ap number_of e) (f refl)
put_one P false n old f g m e = g m e

numbers_more : (old new : List (List ℕ × ℕ)) (names : List (List ℕ)) (key : List ℕ) (n : ℕ) →
    AreNumbers old names → PutsOnly (slice_cmp nat_cmp) old new key n → AreTaken names key n → AreNumbers new names
numbers_more old new names key n h only all stem =
    λ m found. put_one (λ x. AreTaken names stem x) (is_eq (slice_cmp nat_cmp stem key)) n (look (slice_cmp nat_cmp) old stem)
    (λ e k less. ap (λ s. has_name names (candidate s k)) ((bytes_eq-Decides stem key).0 (sym (is_eq-slice_cmp stem key) ∙ e)) ∙ all k less)
    (h stem) m (sym (only stem) ∙ found)

pub number_more : (index : List (List ℕ × Unit {0})) (new_index : List (List ℕ × Unit {0})) (old new : List (List ℕ × ℕ)) (names same now : List (List ℕ)) (key stem : List ℕ) (n : ℕ) →
    IsIndex index names × AreNumbers old names → PutsOnly (slice_cmp nat_cmp) old new key n → AreTaken same stem n →
    key ≡ stem → same ≡ names → new_index ≡ index → now ≡ names → IsIndex new_index now × AreNumbers new now
number_more index new_index old new names same now key stem n h only all e f g i =
    let taken : AreTaken names key n =
    λ k less. ap (λ ns. has_name ns (candidate key k)) (sym f) ∙ ap (λ s. has_name same (candidate s k)) e ∙ all k less in (
      λ name. ap (λ xs. is_some (look (slice_cmp nat_cmp) xs name)) g ∙ h.0 name ∙ ap (λ ns. has_name ns name) (sym i),
      λ m x found k less. ap (λ ns. has_name ns (candidate m k)) i ∙ numbers_more old new names key n h.1 only taken m x found k less,
    )
