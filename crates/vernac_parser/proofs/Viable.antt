-- What was read before a refusal begins a tree: how this goes from the parts of a rule to the rule.
use Rattle.std.proofs.Common.{◌≡◌, ℕ, zero, suc, ◌≤◌, ◌⊎◌, inl, inr, Bool, true, false, cond, Option, None, Some, Ok, Err, List, [], ◌∷◌, ◌++◌, length, refl, sym, ◌∙◌, ap, subst, arith, append_assoc, length-append}
use Rattle.coq_syntax.specs.declared.token.Token.{Token}
use Rattle.coq_syntax.specs.Faults.{Fault, first, nested, value_of}
use Rattle.vernac_parser.specs.declared.sign.Sign.{Sign}
use Rattle.vernac_parser.specs.declared.sign.Sign.TheVariants as sign
use Rattle.vernac_parser.specs.Signs.{is_sign, sign_of, sign_at}
use Rattle.vernac_parser.specs.Parser.{Outcome, Parser, and_then, pure, refuse, unexpected, taken, place_of, word_of, number, many, repeated}
use Rattle.vernac_parser.proofs.SignLaws.{mark, is_mark, mark_is, word_is, number_is}
use Rattle.coq_syntax.specs.declared.words.TokenPlace.{TokenPlace}
use Rattle.coq_syntax.specs.declared.words.Word.{Word}
use Rattle.coq_syntax.specs.Spelled as spelled
use Rattle.coq_syntax.specs.Refusals.{IsBehind}
use Rattle.vernac_parser.proofs.Answered.{took, passed}

-- what a rule reads: which values are good, their tokens, their fault before some tokens, and what may follow them
pub record Shape (A : Type 0) : Type 1 where
  pub good : A → Type 0
  pub tokens : A → List Token → List Token
  pub fault : A → List Token → Option Fault
  pub follows : A → List Token → Type 0

pub record Read {A : Type 0} (S : Shape A) (i : List Token) (x : A) (rest : List Token) : Type 0 where
  pub fits : S.good x
  pub word : List Token
  pub parts : i ≡ word ++ rest
  pub spelled : (tail : List Token) → S.tokens x tail ≡ word ++ tail
  pub sound : (tail : List Token) → S.fault x tail ≡ None
  pub end : S.follows x rest

-- why a value that begins with what was used is refused: the next token is unexpected and no fault stands before it, or a limit is passed there
pub record Passed {A : Type 0} (S : Shape A) (x : A) (more : List Token) (f : Fault) : Type 0 where
  pub next : Token
  pub after : List Token
  pub others : List Token
  pub place : f.rest ≡ next ∷ after
  pub here : more ≡ next ∷ others
  pub is : (tail : List Token) → S.fault x tail ≡ Some (record { code = f.code; rest = more ++ tail })

abbrev pub Why : {A : Type 0} → Shape A → A → List Token → Fault → Type 0
Why S x more f = (f.code ≡ unexpected) × ((tail : List Token) → IsBehind (length (more ++ tail)) (S.fault x tail)) ⊎ Passed S x more f

pub record Partial {A : Type 0} (S : Shape A) (i : List Token) (f : Fault) : Type 0 where
  pub used : List Token
  pub parts : i ≡ used ++ f.rest
  pub more : List Token
  pub value : A
  pub fits : S.good value
  pub spelled : (tail : List Token) → S.tokens value tail ≡ used ++ (more ++ tail)
  pub why : Why S value more f

unfoldable pub Answers : {A : Type 0} → Shape A → List Token → Outcome A → Type 0
Answers S i (Ok p) = Read S i p.0 p.1
Answers S i (Err f) = Partial S i f

-- a rule that answers so everywhere
abbrev pub Viable : {A : Type 0} → Shape A → Parser A → Type 0
Viable S p = (i : List Token) → Answers S i (p i)

-- ---- faults behind a place

pub behind_more : (k m : ℕ) (f : Option Fault) → k ≤ m → IsBehind k f → IsBehind m f
behind_more k m None l h = tt
behind_more k m (Some f) l h = omega arith

pub behind_first : (k : ℕ) (f g : Option Fault) → IsBehind k f → IsBehind k g → IsBehind k (first f g)
behind_first k None g p q = q
behind_first k (Some f) g p q = p

pub behind_none : (k : ℕ) (f : Option Fault) → f ≡ None → IsBehind k f
behind_none k f e = subst (IsBehind k) (sym e) tt

pub behind_nested : (k n : ℕ) (f : ℕ → Option Fault) (start : List Token) → length start ≤ k → ((m : ℕ) → IsBehind k (f m)) → IsBehind k (nested n f start)
behind_nested k zero f start l h = l
behind_nested k (suc n) f start l h = h n

pub none_first : (f g : Option Fault) → f ≡ None → g ≡ None → first f g ≡ None
none_first f g p q = ap (λ x. first x g) p ∙ q

pub first_none : (f : Option Fault) → first f None ≡ f
first_none None = refl
first_none (Some f) = refl

-- why a row is refused, where a part of it is
why_part : {A B : Type 0} (S : Shape A) (T : Shape B) (x : A) (y : B) (more back : List Token) (f : Fault) → ((tail : List Token) → (g : Option Fault) × (T.fault y tail ≡ first (S.fault x (back ++ tail)) g) × IsBehind (length (back ++ tail)) g) → Why S x more f → Why T y (more ++ back) f
why_part S T x y more back f fault (inl h) = inl (
  h.0,
  λ tail.
      let whole : length ((more ++ back) ++ tail) ≡ length (more ++ (back ++ tail)) = ap length (append_assoc more back tail) in
      subst (IsBehind (length ((more ++ back) ++ tail))) (sym (fault tail).1)
      (behind_first _ _ _ (subst (λ k. IsBehind k (S.fault x (back ++ tail))) (sym whole) (h.1 (back ++ tail)))
      (behind_more (length (back ++ tail)) (length ((more ++ back) ++ tail)) (fault tail).0 (omega (arith, whole, length-append more (back ++ tail))) (fault tail).2)),
)
why_part S T x y more back f fault (inr h) = inr (record {
  next = h.next;
  after = h.after;
  others = h.others ++ back;
  place = h.place;
  here = ap (λ w. w ++ back) h.here;
  is = λ tail. (fault tail).1 ∙ ap (λ k. first k (fault tail).0) (h.is (back ++ tail)) ∙ ap (λ w. Some (record { code = f.code; rest = w })) (sym (append_assoc more back tail));
})

-- ---- a row, of which so many tokens were read

module _ {B : Type 0} (T : Shape B) (start : List Token) where
  pub answer_pure : (u rest : List Token) (y : B) → start ≡ u ++ rest → T.good y → ((tail : List Token) → T.tokens y tail ≡ u ++ tail) → ((tail : List Token) → T.fault y tail ≡ None) → T.follows y rest → Answers T start (Ok (y, rest))
  unfolding Answers
  answer_pure u rest y h g s f e = record { fits = g; word = u; parts = h; spelled = s; sound = f; end = e }

  -- the next token is refused, and these tokens would finish this value
  pub answer_refuse : (u i more : List Token) (y : B) → start ≡ u ++ i → T.good y → ((tail : List Token) → T.tokens y tail ≡ u ++ (more ++ tail)) → ((tail : List Token) → IsBehind (length (more ++ tail)) (T.fault y tail)) → Answers T start (Err (record { code = unexpected; rest = i }))
  unfolding Answers
  answer_refuse u i more y h g s b = record { used = u; parts = h; more = more; value = y; fits = g; spelled = s; why = inl (refl, b) }

  -- a token
  pub answer_token : {A : Type 0} (make : Token → A) (s : Sign) (k : A → Parser B) (u i more : List Token) (y : B) → start ≡ u ++ i → T.good y → ((tail : List Token) → T.tokens y tail ≡ u ++ (more ++ tail)) → ((tail : List Token) → IsBehind (length (more ++ tail)) (T.fault y tail)) → ((t : Token) (rest : List Token) → is_sign (sign_of t) s ≡ true → start ≡ (u ++ t ∷ []) ++ rest → Answers T start (k (make t) rest)) → Answers T start (and_then (taken make s i) k)
  unfolding Answers
  answer_token make s k u [] more y h g z b later = answer_refuse u [] more y h g z b
  answer_token {A} make s k u (t ∷ rest) more y h g z b later = by (is_sign (sign_of t) s) refl
    where
      by : (d : Bool) → is_sign (sign_of t) s ≡ d → Answers T start (and_then (taken make s (t ∷ rest)) k)
      by true e = subst (λ o. Answers T start (and_then o k)) (sym (took (Ok (make t, rest)) (refuse (t ∷ rest)) e)) (later t rest e (h ∙ sym (append_assoc u (t ∷ []) rest)))
      by false e = subst (λ o. Answers T start (and_then o k)) (sym (passed (Ok (make t, rest)) (refuse {A = A} (t ∷ rest)) e)) (answer_refuse u (t ∷ rest) more y h g z b)

  -- a symbol or a reserved word
  pub answer_mark : (s : Sign) (k : TokenPlace → Parser B) (u i more : List Token) (y : B) → is_mark s ≡ true → start ≡ u ++ i → T.good y → ((tail : List Token) → T.tokens y tail ≡ u ++ (more ++ tail)) → ((tail : List Token) → IsBehind (length (more ++ tail)) (T.fault y tail)) → ((p : TokenPlace) (rest : List Token) → start ≡ (u ++ mark s p ∷ []) ++ rest → Answers T start (k p rest)) → Answers T start (and_then (taken place_of s i) k)
  unfolding Answers
  answer_mark s k u i more y m h g z b later = answer_token place_of s k u i more y h g z b (λ t rest e h'. later (place_of t) rest (h' ∙ ap (λ x. (u ++ x ∷ []) ++ rest) (mark_is s t m e)))

  pub answer_word : (k : Word → Parser B) (u i more : List Token) (y : B) → start ≡ u ++ i → T.good y → ((tail : List Token) → T.tokens y tail ≡ u ++ (more ++ tail)) → ((tail : List Token) → IsBehind (length (more ++ tail)) (T.fault y tail)) → ((w : Word) (rest : List Token) → start ≡ (u ++ spelled.identifier w ∷ []) ++ rest → Answers T start (k w rest)) → Answers T start (and_then (taken word_of sign.Identifier i) k)
  unfolding Answers
  answer_word k u i more y h g z b later = answer_token word_of sign.Identifier k u i more y h g z b (λ t rest e h'. later (word_of t) rest (h' ∙ ap (λ x. (u ++ x ∷ []) ++ rest) (word_is t e)))

  -- a number, which is refused where its value is out of range
  pub answer_number : (is_out : ℕ → Bool) (code : ℕ) (k : Word → Parser B) (u i more back : List Token) (y : B) (build : Word → B) → start ≡ u ++ i → T.good y → ((tail : List Token) → T.tokens y tail ≡ u ++ (more ++ tail)) → ((tail : List Token) → IsBehind (length (more ++ tail)) (T.fault y tail))
      → ((w : Word) → T.good (build w)) → ((w : Word) (tail : List Token) → T.tokens (build w) tail ≡ u ++ (spelled.number w ∷ (back ++ tail)))
      → ((w : Word) (tail : List Token) → is_out (value_of w) ≡ true → T.fault (build w) tail ≡ Some (record { code = code; rest = spelled.number w ∷ (back ++ tail) }))
      → ((w : Word) (rest : List Token) → is_out (value_of w) ≡ false → start ≡ (u ++ spelled.number w ∷ []) ++ rest → Answers T start (k w rest)) → Answers T start (and_then (number is_out code i) k)
  unfolding Answers
  answer_number is_out code k u [] more back y build h g z b good tokens fault later = answer_refuse u [] more y h g z b
  answer_number is_out code k u (t ∷ rest) more back y build h g z b good tokens fault later = by (is_sign (sign_of t) sign.Number) refl
    where
      in_range : (d : Bool) → is_out (value_of (word_of t)) ≡ d → t ≡ spelled.number (word_of t) → Answers T start (and_then (cond d (Err (record { code = code; rest = t ∷ rest })) (Ok (word_of t, rest))) k)
      in_range true e n = record {
        used = u;
        parts = h;
        more = spelled.number (word_of t) ∷ back;
        value = build (word_of t);
        fits = good (word_of t);
        spelled = tokens (word_of t);
        why = inr (record { next = spelled.number (word_of t); after = rest; others = back; place = ap (λ x. x ∷ rest) n; here = refl; is = λ tail. fault (word_of t) tail e });
      }
      in_range false e n = later (word_of t) rest e (h ∙ ap (λ x. u ++ x ∷ rest) n ∙ sym (append_assoc u (spelled.number (word_of t) ∷ []) rest))

      by : (d : Bool) → is_sign (sign_of t) sign.Number ≡ d → Answers T start (and_then (number is_out code (t ∷ rest)) k)
      by true e = subst (λ o. Answers T start (and_then o k)) (sym (took _ (refuse (t ∷ rest)) e)) (in_range (is_out (value_of (word_of t))) refl (number_is t e))
      by false e = subst (λ o. Answers T start (and_then o k)) (sym (passed _ (refuse {A = Word} (t ∷ rest)) e)) (answer_refuse u (t ∷ rest) more y h g z b)

  -- a part, which these tokens would finish to the row's value
  pub answer_part : {A : Type 0} (S : Shape A) (o : Outcome A) (k : A → Parser B) (u i back : List Token) (build : A → B) → start ≡ u ++ i → Answers S i o
      → ((x : A) → S.good x → T.good (build x))
      → ((x : A) (tail : List Token) → T.tokens (build x) tail ≡ u ++ S.tokens x (back ++ tail))
      → ((x : A) (tail : List Token) → (g : Option Fault) × (T.fault (build x) tail ≡ first (S.fault x (back ++ tail)) g) × IsBehind (length (back ++ tail)) g)
      → ((x : A) (rest : List Token) → (r : Read S i x rest) → start ≡ (u ++ r.word) ++ rest → Answers T start (k x rest))
      → Answers T start (and_then o k)
  unfolding Answers
  answer_part {A} S o' k u i back build h a good tokens fault later = by o' a
    where
      by : (o : Outcome A) → Answers S i o → Answers T start (and_then o k)
      by (Ok x) r = later x.0 x.1 r (h ∙ ap (λ w. u ++ w) r.parts ∙ sym (append_assoc u r.word x.1))
      by (Err f) r = record {
        used = u ++ r.used;
        parts = h ∙ ap (λ w. u ++ w) r.parts ∙ sym (append_assoc u r.used f.rest);
        more = r.more ++ back;
        value = build r.value;
        fits = good r.value r.fits;
        spelled = λ tail. tokens r.value tail ∙ ap (λ w. u ++ w) (r.spelled (back ++ tail)) ∙ sym (append_assoc u r.used _) ∙ ap (λ w. (u ++ r.used) ++ w) (sym (append_assoc r.more back tail));
        why = why_part S T r.value (build r.value) r.more back f (fault r.value) r.why;
      }

  -- the last part
  pub answer_last : {A : Type 0} (S : Shape A) (o : Outcome A) (u i : List Token) (build : A → B) → start ≡ u ++ i → Answers S i o
      → ((x : A) → S.good x → T.good (build x))
      → ((x : A) (tail : List Token) → T.tokens (build x) tail ≡ u ++ S.tokens x tail)
      → ((x : A) (tail : List Token) → T.fault (build x) tail ≡ S.fault x tail)
      → ((x : A) (rest : List Token) → S.good x → S.follows x rest → T.follows (build x) rest)
      → Answers T start (and_then o (λ x. pure (build x)))
  unfolding Answers
  answer_last S o u i build h a good tokens fault follows =
      answer_part S o (λ x. pure (build x)) u i [] build h a good tokens (λ x tail. (None, fault x tail ∙ sym (first_none (S.fault x tail)), tt))
      (λ x rest r e. answer_pure (u ++ r.word) rest (build x) e (good x r.fits) (λ tail. tokens x tail ∙ ap (λ w. u ++ w) (r.spelled tail) ∙ sym (append_assoc u r.word tail)) (λ tail. fault x tail ∙ r.sound tail) (follows x rest r.fits r.end))

-- a choice
pub answer_if : {A : Type 0} (S : Shape A) (start : List Token) (b : Bool) (o o' : Outcome A) → (b ≡ true → Answers S start o) → (b ≡ false → Answers S start o') → Answers S start (cond b o o')
unfolding Answers
answer_if S start true o o' f g = f refl
answer_if S start false o o' f g = g refl

-- lists: the shape of a list is that of its items, one after another
module _ {A B : Type 0} (S : Shape A) (T : Shape B) (begins : Sign → Bool) (item : Parser A) (front : A → B → B) (none : B) (items : Viable S item)
    (none_good : T.good none) (none_tokens : (tail : List Token) → T.tokens none tail ≡ tail) (none_fault : (tail : List Token) → T.fault none tail ≡ None)
    (good : (x : A) (xs : B) → S.good x → T.good xs → T.good (front x xs))
    (tokens : (x : A) (xs : B) (tail : List Token) → T.tokens (front x xs) tail ≡ S.tokens x (T.tokens xs tail))
    (fault : (x : A) (xs : B) (tail : List Token) → T.fault (front x xs) tail ≡ first (S.fault x (T.tokens xs tail)) (T.fault xs tail))
    (last : (rest : List Token) → begins (sign_at rest) ≡ false → T.follows none rest)
    (follows : (x : A) (xs : B) (rest : List Token) → T.follows xs rest → T.follows (front x xs) rest) where
  pub viable_many : (n : ℕ) → Viable T (many begins item front none n)
  unfolding many Answers
  viable_many zero i = answer_refuse T i [] i [] none refl none_good none_tokens (λ tail. behind_none (length tail) _ (none_fault tail))
  viable_many (suc n) i =
      answer_if T i (begins (sign_at i)) _ _
      (λ _. answer_part T i S (item i) _ [] i [] (λ x. front x none) refl (items i)
      (λ x g. good x none g none_good)
      (λ x tail. tokens x none tail ∙ ap (S.tokens x) (none_tokens tail))
      (λ x tail. (None, fault x none tail ∙ ap (first (S.fault x (T.tokens none tail))) (none_fault tail) ∙ ap (λ w. first (S.fault x w) None) (none_tokens tail), tt))
      (λ x rest r e. answer_last T i T _ r.word rest (front x) e (viable_many n rest)
      (λ xs g. good x xs r.fits g)
      (λ xs tail. tokens x xs tail ∙ r.spelled (T.tokens xs tail))
      (λ xs tail. fault x xs tail ∙ ap (λ f. first f (T.fault xs tail)) (r.sound (T.tokens xs tail)))
      (λ xs w _ h. follows x xs w h)))
      (λ e. answer_pure T i [] i none refl none_good none_tokens none_fault (last i e))

  pub viable_repeated : Viable T (repeated begins item front none)
  unfolding Answers
  viable_repeated i = viable_many (suc (length i)) i

-- an answer under another shape
pub answer_as : {A : Type 0} (S T : Shape A) (i : List Token) (o : Outcome A) → ((x : A) → S.good x → T.good x) → ((x : A) (tail : List Token) → T.tokens x tail ≡ S.tokens x tail) → ((x : A) (tail : List Token) → S.good x → T.fault x tail ≡ S.fault x tail) → ((x : A) (rest : List Token) → S.good x → S.follows x rest → T.follows x rest) → Answers S i o → Answers T i o
unfolding Answers
answer_as S T i (Ok p) good tokens fault follows r = record { fits = good p.0 r.fits; word = r.word; parts = r.parts; spelled = λ tail. tokens p.0 tail ∙ r.spelled tail; sound = λ tail. fault p.0 tail r.fits ∙ r.sound tail; end = follows p.0 p.1 r.fits r.end }
answer_as S T i (Err f) good tokens fault follows r = record { used = r.used; parts = r.parts; more = r.more; value = r.value; fits = good r.value r.fits; spelled = λ tail. tokens r.value tail ∙ r.spelled tail; why = by r.why }
  where
    by : Why S r.value r.more f → Why T r.value r.more f
    by (inl h) = inl (h.0, λ tail. subst (IsBehind (length (r.more ++ tail))) (sym (fault r.value tail r.fits)) (h.1 tail))
    by (inr h) = inr (record { next = h.next; after = h.after; others = h.others; place = h.place; here = h.here; is = λ tail. fault r.value tail r.fits ∙ h.is tail })
