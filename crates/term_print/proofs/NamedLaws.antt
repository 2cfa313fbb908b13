-- Named terms: they are written as the terms are, they are no larger, and one pass marks the binders that are used.
use Rattle.std.specs.Prelude.{if◌then◌else◌, nat_lt, not, bytes_eq, slice_set, ◌||◌, ◌==◌}
use Rattle.std.proofs.Common.{◌≡◌, ℕ, suc, ◌+◌, ◌-◌, ◌<◌, ◌≤◌, List, [], ◌∷◌, ◌++◌, length, codes, Bool, true, false, Result, Ok, Err, OnOk, refl, sym, ap, ◌∙◌, arith}
use Rattle.std.proofs.lemmas.Bool.Decides.{nat_tests}
use Rattle.core_term.specs.Tree.{Tree, Var, Sorted, Constant, Prod, Lam, LetIn, App, size_of, depth_of, IsTerm}
use Rattle.core_term.specs.declared.sorts.Sort.{Sort}
use Rattle.core_term.specs.declared.stops.TermStop.TheVariants.{TooLarge}
use Rattle.core_term.specs.Places.{occurrences}
use Rattle.core_term.specs.Answers.{within_limits}
use Rattle.core_term.specs.Tree.{is_small}
use Rattle.cic_rules.specs.declared.env.Slot.{Slot}
use Rattle.term_print.specs.Freshness.{fresh, stem_of, first_free}
use Rattle.term_print.specs.Pieces.{Piece, applied, arrow, quantified, function, definition}
use Rattle.term_print.specs.Show.{show, is_used, is_quantified, is_function, parameter}
use Rattle.term_print.specs.Named.{named, own_name, is_named, marked, marked_under, show as show_named, is_quantified as is_quantified_named, parameter as parameter_named}
use Rattle.term_print.proofs.SpineLaws.{term_small}

stem_twice_by : (b : Bool) (name : List ℕ) → bytes_eq name (codes "_") ≡ b →
    stem_of (if b then codes "x" else name) ≡ (if b then codes "x" else name)
stem_twice_by true name h = refl
stem_twice_by false name h = ap (λ b. if b then codes "x" else name) h

stem_twice : (name : List ℕ) → stem_of (stem_of name) ≡ stem_of name
stem_twice name = stem_twice_by (bytes_eq name (codes "_")) name refl

fresh_stem : (names : List (List ℕ)) (name : List ℕ) → fresh names (stem_of name) ≡ fresh names name
fresh_stem names name = ap (λ stem. first_free names stem 0 (length names)) (stem_twice name)

stem_named_by : (b : Bool) (name : List ℕ) → bytes_eq name (codes "_") ≡ b → is_named (if b then codes "x" else name) ≡ true
stem_named_by true name h = refl
stem_named_by false name h = ap not h

named_used : (used : Bool) (name : List ℕ) → is_named (own_name used name) ≡ used
named_used true name = stem_named_by (bytes_eq name (codes "_")) name refl
named_used false name = refl

-- what is made of a binder's free name, by whether it is used
binder : {A : Type 0} (used : Bool) (name : List ℕ) (names : List (List ℕ)) (P : List ℕ → A) (other : A) →
    (if is_named (own_name used name) then P (fresh names (own_name used name)) else other) ≡ (if used then P (fresh names name) else other)
binder true name names P other =
    ap (λ b. if b then P (fresh names (stem_of name)) else other) (named_used true name) ∙ ap P (fresh_stem names name)
binder false name names P other = refl

quantified_named : (t : Tree) → is_quantified_named (named t) ≡ is_quantified t
quantified_named (Var i) = refl
quantified_named (Sorted s) = refl
quantified_named (Constant c) = refl
quantified_named (Prod n a b) = named_used (is_used b) n
quantified_named (Lam n a b) = refl
quantified_named (LetIn n a t b) = refl
quantified_named (App f a) = refl

function_named : (t : Tree) → is_function (named t) ≡ is_function t
function_named (Var i) = refl
function_named (Sorted s) = refl
function_named (Constant c) = refl
function_named (Prod n a b) = refl
function_named (Lam n a b) = refl
function_named (LetIn n a t b) = refl
function_named (App f a) = refl

parameter_same : (names : List (List ℕ)) (n : List ℕ) (b : Tree) → parameter_named names (own_name (is_used b) n) ≡ parameter names n b
parameter_same names n b = binder (is_used b) n names (λ name. name) (codes "_")

product_by : (c : Bool) (goes_on on : Bool) (name : List ℕ) (a a2 b b2 d d2 : Piece) → goes_on ≡ on → a ≡ a2 → b ≡ b2 → d ≡ d2 →
    (if c then quantified goes_on name a b else arrow a d) ≡ (if c then quantified on name a2 b2 else arrow a2 d2)
product_by c goes_on on name a a2 b b2 d d2 h i j k =
    ap (λ x. if c then quantified x name a b else arrow a d) h ∙ ap (λ x. if c then quantified on name x b else arrow x d) i
    ∙ ap (λ x. if c then quantified on name a2 x else arrow a2 d) j ∙ ap (λ x. if c then quantified on name a2 b2 else arrow a2 x) k

function_by : (goes_on on : Bool) (name own : List ℕ) (a a2 : Piece) (body : List ℕ → Piece) (b2 : Piece) → goes_on ≡ on → name ≡ own → a ≡ a2 →
    body own ≡ b2 → function goes_on name a (body name) ≡ function on own a2 b2
function_by goes_on on name own a a2 body b2 h i j k =
    ap (λ x. function x name a (body name)) h ∙ ap (λ x. function on x a (body x)) i ∙ ap (λ x. function on own x (body own)) j
    ∙ ap (λ x. function on own a2 x) k

let_by : (name : List ℕ) (a a2 t t2 b b2 : Piece) → a ≡ a2 → t ≡ t2 → b ≡ b2 → definition name a t b ≡ definition name a2 t2 b2
let_by name a a2 t t2 b b2 h i j = ap (λ x. definition name x t b) h ∙ ap (λ x. definition name a2 x b) i ∙ ap (λ x. definition name a2 t2 x) j

-- a named term is written as the term is
pub shown_named : (env : List Slot) (t : Tree) (args : List Piece) (names : List (List ℕ)) → show_named env (named t) args names ≡ show env t args names
unfolding show show_named
shown_named env (Var i) args names = refl
shown_named env (Sorted s) args names = refl
shown_named env (Constant c) args names = refl
shown_named env (Prod n a b) args names =
    ap (λ p. applied p args)
    (binder (is_used b) n names (λ name. quantified (is_quantified_named (named b)) name (show_named env (named a) [] names) (show_named env (named b) [] (name ∷ names)))
    (arrow (show_named env (named a) [] names) (show_named env (named b) [] (codes "_" ∷ names)))
    ∙ product_by (is_used b) (is_quantified_named (named b)) (is_quantified b) (fresh names n) _ _ _ _ _ _ (quantified_named b)
    (shown_named env a [] names) (shown_named env b [] (fresh names n ∷ names)) (shown_named env b [] (codes "_" ∷ names)))
shown_named env (Lam n a b) args names =
    ap (λ p. applied p args)
    (function_by (is_function (named b)) (is_function b) (parameter_named names (own_name (is_used b) n)) (parameter names n b) _ _
    (λ name. show_named env (named b) [] (name ∷ names)) _ (function_named b) (parameter_same names n b)
    (shown_named env a [] names) (shown_named env b [] (parameter names n b ∷ names)))
shown_named env (LetIn n a t b) args names =
    ap (λ p. applied p args)
    (let_by (fresh names n) _ _ _ _ _ _ (shown_named env a [] names) (shown_named env t [] names) (shown_named env b [] (fresh names n ∷ names)))
shown_named env (App f a) args names =
    shown_named env f (show_named env (named a) [] names ∷ args) names ∙ ap (λ p. show env f (p ∷ args) names) (shown_named env a [] names)

size_named : (t : Tree) → size_of (named t) ≡ size_of t
size_named (Var i) = refl
size_named (Sorted s) = refl
size_named (Constant c) = refl
size_named (Prod n a b) = cc (size_named a, size_named b)
size_named (Lam n a b) = cc (size_named a, size_named b)
size_named (LetIn n a t b) = cc (size_named a, size_named t, size_named b)
size_named (App f a) = cc (size_named f, size_named a)

depth_named : (t : Tree) → depth_of (named t) ≡ depth_of t
depth_named (Var i) = refl
depth_named (Sorted s) = refl
depth_named (Constant c) = refl
depth_named (Prod n a b) = cc (depth_named a, depth_named b)
depth_named (Lam n a b) = cc (depth_named a, depth_named b)
depth_named (LetIn n a t b) = cc (depth_named a, depth_named t, depth_named b)
depth_named (App f a) = cc (depth_named f, depth_named a)

small_named : (t : Tree) → is_small (named t) ≡ is_small t
small_named t = cc (size_named t, depth_named t)

-- so it is never too large
pub named_small : (t : Tree) → IsTerm t → within_limits (named t) ≡ Ok (named t)
named_small t is = ap (λ b. if b then Ok (named t) else Err TooLarge) (small_named t ∙ term_small t is)

or_none : (b : Bool) → (b || false) ≡ b
or_none true = refl
or_none false = refl

sum_by : (x y : ℕ) → (nat_lt 0 x || nat_lt 0 y) ≡ nat_lt 0 (x + y)
sum_by x y = elim (nat_lt 0 x) as (λ b. nat_lt 0 x ≡ b → (b || nat_lt 0 y) ≡ nat_lt 0 (x + y)) [
  | true ↦ λ h. grind (arith, nat_tests)
  | false ↦ λ h. let e : x ≡ 0 = grind (arith, nat_tests) in let k : y ≡ x + y = omega (arith, e) in ap (nat_lt 0) k
] refl

or_sum : (b : Bool) (x y : ℕ) → ((b || nat_lt 0 x) || nat_lt 0 y) ≡ (b || nat_lt 0 (x + y))
or_sum true x y = refl
or_sum false x y = sum_by x y

marked_length : (t : Tree) (marks : List Bool) → length (marked t marks) ≡ length marks
marked_length t [] = refl
marked_length t (u ∷ us) = ap suc (marked_length t us)

none_by : (t : Tree) (marks : List Bool) → ((k : ℕ) → occurrences t k ≡ 0) → marked t marks ≡ marks
none_by t [] none = refl
none_by t (u ∷ us) none =
    ap (λ n. (u || nat_lt 0 n) ∷ marked t us) (none (length us)) ∙ ap (λ b. b ∷ marked t us) (or_none u) ∙ ap (λ bs. u ∷ bs) (none_by t us none)

pub marked_sort : (s : Sort) (marks : List Bool) → marked (Sorted s) marks ≡ marks
marked_sort s marks = none_by (Sorted s) marks (λ k. refl)

pub marked_constant : (c : ℕ) (marks : List Bool) → marked (Constant c) marks ≡ marks
marked_constant c marks = none_by (Constant c) marks (λ k. refl)

pub marked_app : (f a : Tree) (marks : List Bool) → marked a (marked f marks) ≡ marked (App f a) marks
marked_app f a [] = refl
marked_app f a (u ∷ us) =
    ap (λ n. ((u || nat_lt 0 (occurrences f (length us))) || nat_lt 0 (occurrences a n)) ∷ marked a (marked f us)) (marked_length f us)
    ∙ ap (λ b. b ∷ marked a (marked f us)) (or_sum u (occurrences f (length us)) (occurrences a (length us)))
    ∙ ap (λ bs. (u || nat_lt 0 (occurrences f (length us) + occurrences a (length us))) ∷ bs) (marked_app f a us)

pub marked_prod : (n : List ℕ) (a b : Tree) (marks : List Bool) → marked_under b (marked a marks) ≡ marked (Prod n a b) marks
marked_prod n a b [] = refl
marked_prod n a b (u ∷ us) =
    ap (λ k. ((u || nat_lt 0 (occurrences a (length us))) || nat_lt 0 (occurrences b (k + 1))) ∷ marked_under b (marked a us)) (marked_length a us)
    ∙ ap (λ c. c ∷ marked_under b (marked a us)) (or_sum u (occurrences a (length us)) (occurrences b (length us + 1)))
    ∙ ap (λ bs. (u || nat_lt 0 (occurrences a (length us) + occurrences b (length us + 1))) ∷ bs) (marked_prod n a b us)

pub marked_lam : (n : List ℕ) (a b : Tree) (marks : List Bool) → marked_under b (marked a marks) ≡ marked (Lam n a b) marks
marked_lam n a b [] = refl
marked_lam n a b (u ∷ us) =
    ap (λ k. ((u || nat_lt 0 (occurrences a (length us))) || nat_lt 0 (occurrences b (k + 1))) ∷ marked_under b (marked a us)) (marked_length a us)
    ∙ ap (λ c. c ∷ marked_under b (marked a us)) (or_sum u (occurrences a (length us)) (occurrences b (length us + 1)))
    ∙ ap (λ bs. (u || nat_lt 0 (occurrences a (length us) + occurrences b (length us + 1))) ∷ bs) (marked_lam n a b us)

-- a definition is a function over two terms
pub marked_let : (n : List ℕ) (a t b : Tree) (marks : List Bool) → marked_under b (marked t (marked a marks)) ≡ marked (LetIn n a t b) marks
marked_let n a t b [] = refl
marked_let n a t b (u ∷ us) =
    ap (λ marks. marked_under b marks) (marked_app a t (u ∷ us))
    ∙ ap (λ k. ((u || nat_lt 0 (occurrences a (length us) + occurrences t (length us))) || nat_lt 0 (occurrences b (k + 1))) ∷ marked_under b (marked (App a t) us)) (marked_length (App a t) us)
    ∙ ap (λ c. c ∷ marked_under b (marked (App a t) us)) (or_sum u (occurrences a (length us) + occurrences t (length us)) (occurrences b (length us + 1)))
    ∙ ap (λ bs. (u || nat_lt 0 (occurrences a (length us) + occurrences t (length us) + occurrences b (length us + 1))) ∷ bs)
    (ap (λ marks. marked_under b marks) (sym (marked_app a t us)) ∙ marked_let n a t b us)

length_more : (marks : List Bool) → length (marks ++ false ∷ []) ≡ length marks + 1
length_more [] = refl
length_more (u ∷ us) = let e : length (us ++ false ∷ []) ≡ length us + 1 = length_more us in omega (arith, e)

marked_behind : (b : Tree) (marks : List Bool) → marked b (marks ++ false ∷ []) ≡ marked_under b marks ++ is_used b ∷ []
marked_behind b [] = refl
marked_behind b (u ∷ us) =
    ap (λ k. (u || nat_lt 0 (occurrences b k)) ∷ marked b (us ++ false ∷ [])) (length_more us)
    ∙ ap (λ bs. (u || nat_lt 0 (occurrences b (length us + 1))) ∷ bs) (marked_behind b us)

abbrev last_mark : List Bool → Bool
last_mark [] = false
last_mark (u ∷ []) = u
last_mark (u ∷ v ∷ us) = last_mark (v ∷ us)

abbrev without_last : List Bool → List Bool
without_last [] = []
without_last (u ∷ []) = []
without_last (u ∷ v ∷ us) = u ∷ without_last (v ∷ us)

last_behind : (us : List Bool) (u : Bool) → last_mark (us ++ u ∷ []) ≡ u
last_behind [] u = refl
last_behind (v ∷ []) u = refl
last_behind (v ∷ w ∷ us) u = last_behind (w ∷ us) u

without_behind : (us : List Bool) (u : Bool) → without_last (us ++ u ∷ []) ≡ us
without_behind [] u = refl
without_behind (v ∷ []) u = refl
without_behind (v ∷ w ∷ us) u = ap (λ vs. v ∷ vs) (without_behind (w ∷ us) u)

-- what the binder's own mark tells once it is taken off, and what is left
pub mark_taken : (b : Tree) (old pushed seen left : List Bool) (u : Bool) → pushed ≡ old ++ false ∷ [] → seen ≡ marked b pushed → seen ≡ left ++ u ∷ [] → u ≡ is_used b
mark_taken b old pushed seen left u h i j =
    sym (last_behind left u) ∙ ap last_mark (sym j ∙ i ∙ ap (marked b) h ∙ marked_behind b old) ∙ last_behind (marked_under b old) (is_used b)

pub marks_left : (b : Tree) (old pushed seen left : List Bool) (u : Bool) → pushed ≡ old ++ false ∷ [] → seen ≡ marked b pushed → seen ≡ left ++ u ∷ [] → left ≡ marked_under b old
marks_left b old pushed seen left u h i j =
    sym (without_behind left u) ∙ ap without_last (sym j ∙ i ∙ ap (marked b) h ∙ marked_behind b old) ∙ without_behind (marked_under b old) (is_used b)

far : (i : ℕ) (marks : List Bool) → length marks ≤ i → marked (Var i) marks ≡ marks
far i [] h = refl
far i (u ∷ us) h =
    let e : (i == length us) ≡ false = grind (arith, nat_tests) in
    let k : length us ≤ i = omega (arith, h) in
    ap (λ b. (u || nat_lt 0 (if b then 1 else 0)) ∷ marked (Var i) us) e ∙ ap (λ b. b ∷ marked (Var i) us) (or_none u) ∙ ap (λ bs. u ∷ bs) (far i us k)

or_true : (b : Bool) → (b || true) ≡ true
or_true true = refl
or_true false = refl

near_by : (b : Bool) (i : ℕ) (u : Bool) (us : List Bool) (n : ℕ) → (i == length us) ≡ b → i < length (u ∷ us) → n ≡ length us - i →
    (b ≡ false → slice_set us (n - 1) true ≡ marked (Var i) us) → slice_set (u ∷ us) n true ≡ marked (Var i) (u ∷ us)
near_by true i u us n h less e rest =
    let same : i ≡ length us = grind (arith, nat_tests) in
    let zero_is : n ≡ 0 = omega (arith, same, e) in
    let k : length us ≤ i = omega (arith, same) in
    ap (λ m. slice_set (u ∷ us) m true) zero_is ∙ ap (λ bs. true ∷ bs) (sym (far i us k)) ∙ ap (λ b. b ∷ marked (Var i) us) (sym (or_true u))
    ∙ ap (λ b. (u || nat_lt 0 (if b then 1 else 0)) ∷ marked (Var i) us) (sym h)
near_by false i u us n h less e rest =
    let differ : i < length us = grind (arith, nat_tests) in
    let more : n ≡ suc (n - 1) = omega (arith, differ, e) in
    ap (λ m. slice_set (u ∷ us) m true) more ∙ ap (λ bs. u ∷ bs) (rest refl) ∙ ap (λ b. b ∷ marked (Var i) us) (sym (or_none u))
    ∙ ap (λ b. (u || nat_lt 0 (if b then 1 else 0)) ∷ marked (Var i) us) (sym h)

near : (i : ℕ) (marks : List Bool) (n : ℕ) → i < length marks → n ≡ length marks - 1 - i → slice_set marks n true ≡ marked (Var i) marks
near i [] n less e = absurd (omega arith)
near i (u ∷ us) n less e =
    let f : n ≡ length us - i = omega (arith, e) in
    near_by (i == length us) i u us n refl less f
    (λ h. let differ : i < length us = grind (arith, nat_tests) in let g : n - 1 ≡ length us - 1 - i = omega (arith, f) in near i us (n - 1) differ g)

-- the variable marks its binder where that is open, and none else
pub mark_set : (i : ℕ) (marks : List Bool) → i < length marks → slice_set marks (length marks - 1 - i) true ≡ marked (Var i) marks
mark_set i marks less = near i marks (length marks - 1 - i) less refl

pub mark_far : (i : ℕ) (marks : List Bool) → length marks ≤ i → marked (Var i) marks ≡ marks
mark_far i marks h = far i marks h

-- the same with what code holds
pub set_at : (i count : ℕ) (marks : List Bool) → count ≡ length marks → i < count → slice_set marks (count - 1 - i) true ≡ marked (Var i) marks
set_at i count marks e less =
    let h : i < length marks = omega (arith, less, e) in
    ap (λ n. slice_set marks (n - 1 - i) true) e ∙ mark_set i marks h

pub far_at : (i count : ℕ) (marks : List Bool) → count ≡ length marks → count ≤ i → marks ≡ marked (Var i) marks
far_at i count marks e more = let h : length marks ≤ i = omega (arith, more, e) in sym (mark_far i marks h)

pub at_sort : (s : Sort) (t : Tree) (marks : List Bool) → t ≡ Sorted s → marks ≡ marked t marks
at_sort s t marks e = sym (ap (λ u. marked u marks) e ∙ marked_sort s marks)

pub at_constant : (k : ℕ) (t : Tree) (marks : List Bool) → t ≡ Constant k → marks ≡ marked t marks
at_constant k t marks e = sym (ap (λ u. marked u marks) e ∙ marked_constant k marks)

pub at_prod : (n : List ℕ) (a b t : Tree) (old one two : List Bool) → t ≡ Prod n a b → one ≡ marked a old → two ≡ marked_under b one → two ≡ marked t old
at_prod n a b t old one two e h k = k ∙ ap (marked_under b) h ∙ marked_prod n a b old ∙ ap (λ u. marked u old) (sym e)

pub at_lam : (n : List ℕ) (a b t : Tree) (old one two : List Bool) → t ≡ Lam n a b → one ≡ marked a old → two ≡ marked_under b one → two ≡ marked t old
at_lam n a b t old one two e h k = k ∙ ap (marked_under b) h ∙ marked_lam n a b old ∙ ap (λ u. marked u old) (sym e)

pub at_let : (n : List ℕ) (a v b t : Tree) (old one two three : List Bool) → t ≡ LetIn n a v b → one ≡ marked a old → two ≡ marked v one →
    three ≡ marked_under b two → three ≡ marked t old
at_let n a v b t old one two three e h k l =
    l ∙ ap (marked_under b) (k ∙ ap (marked v) h) ∙ marked_let n a v b old ∙ ap (λ u. marked u old) (sym e)

pub at_app : (f a t : Tree) (old one two : List Bool) → t ≡ App f a → one ≡ marked f old → two ≡ marked a one → two ≡ marked t old
at_app f a t old one two e h k = k ∙ ap (marked a) h ∙ marked_app f a old ∙ ap (λ u. marked u old) (sym e)

-- what holds in any case holds where a call succeeds
pub always : {A E P : Type 0} (r : Result A E) → P → OnOk r P
always (Ok x) p = p
always (Err e) p = tt
