-- A move is its word and what stands behind the word.
use Rattle.std.proofs.Common.{◌≡◌, inl, ℕ, Bool, true, false, cond, bytes_eq, Option, None, Some, Result, Err, List, [], ◌∷◌, drop, take, codes, refl, sym, ◌∙◌, ap, subst, ◌≤◌, length, arith}
use Rattle.std.proofs.lemmas.Slice.Eq.{bytes_eq-Decides}
use Rattle.base_core.specs.declared.refusals.Stop.{Stop}
use Rattle.base_core.specs.declared.refusals.Stop.TheVariants as stop
use Rattle.coq_syntax.specs.declared.token.Token.{Token}
use Rattle.coq_syntax.specs.declared.token.TokenKind.TheVariants.{Identifier}
use Rattle.coq_syntax.specs.declared.words.TokenPlace.{TokenPlace}
use Rattle.coq_syntax.specs.declared.words.Word.{Word}
use Rattle.coq_syntax.specs.declared.moves.Direction.{Direction}
use Rattle.coq_syntax.specs.Tokens.{Tokens}
use Rattle.coq_syntax.specs.Trees.{Term}
use Rattle.coq_syntax.specs.MoveTrees.{Pattern, Move}
use Rattle.coq_syntax.specs.MoveTrees as move
use Rattle.coq_syntax.specs.Spelled.{keyword}
use Rattle.coq_syntax.specs.Grammar.{IsTermOf}
use Rattle.coq_syntax.specs.Faults.{Fault}
use Rattle.coq_syntax.specs.Moves.{IsMoveOf, move_fault}
use Rattle.coq_syntax.specs.Meets.{fault_of_term}
use Rattle.vernac_parser.specs.Parser.{unexpected}
use Rattle.coq_syntax.specs.Refusals.{IsBehind, IsUnexpected}
use Rattle.vernac_parser.proofs.Refused.{fault_within}
use Rattle.vernac_parser.proofs.Viable.{behind_more}
use Rattle.move_parser.proofs.Terms.{rewriting_within}
use Rattle.coq_syntax.specs.Answers.{next_place}
use Rattle.vernac_parser.proofs.SignLaws.{is_token}
use Rattle.vernac_parser.proofs.Shapes.{spare}
use Rattle.move_parser.specs.declared.cursor.Halt.{Halt}
use Rattle.move_parser.specs.declared.cursor.Halt.TheVariants.{Unexpected, NoMem}
use Rattle.move_parser.specs.MoveAnswers.{IsMoveWord, stop_of}
use Rattle.move_parser.specs.declared.move_word.MoveWord.{MoveWord}
use Rattle.move_parser.specs.declared.move_word.MoveWord.TheVariants.{Exact, Apply, Rewrite, Plain}
use Rattle.move_parser.specs.declared.move_word.PlainWord.{PlainWord}
use Rattle.move_parser.specs.declared.move_word.PlainWord.TheVariants.{Intro, Intros, Assumption, Split, Left, Right, Reflexivity, Admit, Simpl, Unfold, Destruct, Induction}
use Rattle.move_parser.specs.MoveWords.{plain_text, text_of, plain, plain_word_of_text, word_of_text}
use Rattle.move_parser.specs.MoveRests.{PlainRest, Rest, build_plain, build}
use Rattle.move_parser.specs.Parts.{IsEndOf, IsOptionalOf, AreIdentifiersOf, IsIdentifierOf, IsSubjectOf, IsRewritingOf, fault_of_rewriting, no_fault, IsPart, IsTail}
use Rattle.move_parser.proofs.Tokens.{heads, tails, next_of}
use Rattle.move_parser.proofs.Behind.{Behind, part_halted, tail_stopped, read_behind, unexpected_here}

abbrev pub IsPlainRest : (w : PlainWord) → List Token → PlainRest w → Type 0
IsPlainRest Intro = IsOptionalOf
IsPlainRest Intros = AreIdentifiersOf
IsPlainRest Assumption = IsEndOf
IsPlainRest Split = IsEndOf
IsPlainRest Left = IsEndOf
IsPlainRest Right = IsEndOf
IsPlainRest Reflexivity = IsEndOf
IsPlainRest Admit = IsEndOf
IsPlainRest Simpl = IsEndOf
IsPlainRest Unfold = IsIdentifierOf
IsPlainRest Destruct = IsSubjectOf
IsPlainRest Induction = IsSubjectOf

abbrev pub IsRest : (w : MoveWord) → List Token → Rest w → Type 0
IsRest Exact = IsTermOf
IsRest Apply = IsTermOf
IsRest Rewrite = IsRewritingOf
IsRest (Plain w) = IsPlainRest w

abbrev pub rest_fault : (w : MoveWord) → Rest w → Option Fault
rest_fault Exact = fault_of_term
rest_fault Apply = fault_of_term
rest_fault Rewrite = fault_of_rewriting
rest_fault (Plain w) = no_fault

-- each move is built so
pub record Built (m : Move) : Type 0 where
  pub word : MoveWord
  pub place : TokenPlace
  pub rest : Rest word
  pub is : m ≡ build word place rest

pub built : (m : Move) → Built m
built (move.Intro p x) = record { word = Plain Intro; place = p; rest = x; is = refl }
built (move.Intros p xs) = record { word = Plain Intros; place = p; rest = xs; is = refl }
built (move.Exact p t) = record { word = Exact; place = p; rest = t; is = refl }
built (move.Apply p t) = record { word = Apply; place = p; rest = t; is = refl }
built (move.Assumption p) = record { word = Plain Assumption; place = p; rest = tt; is = refl }
built (move.Split p) = record { word = Plain Split; place = p; rest = tt; is = refl }
built (move.Left p) = record { word = Plain Left; place = p; rest = tt; is = refl }
built (move.Right p) = record { word = Plain Right; place = p; rest = tt; is = refl }
built (move.Reflexivity p) = record { word = Plain Reflexivity; place = p; rest = tt; is = refl }
built (move.Admit p) = record { word = Plain Admit; place = p; rest = tt; is = refl }
built (move.Simpl p) = record { word = Plain Simpl; place = p; rest = tt; is = refl }
built (move.Unfold p x) = record { word = Plain Unfold; place = p; rest = x; is = refl }
built (move.Destruct p x y) = record { word = Plain Destruct; place = p; rest = (x, y); is = refl }
built (move.Induction p x y) = record { word = Plain Induction; place = p; rest = (x, y); is = refl }
built (move.Rewrite p d t) = record { word = Rewrite; place = p; rest = (d, t); is = refl }

-- ---- words are told apart by their texts

pub named : (w : MoveWord) → word_of_text (text_of w) ≡ Some w
unfolding word_of_text plain_word_of_text
named Exact = refl
named Apply = refl
named Rewrite = refl
named (Plain Intro) = refl
named (Plain Intros) = refl
named (Plain Assumption) = refl
named (Plain Split) = refl
named (Plain Left) = refl
named (Plain Right) = refl
named (Plain Reflexivity) = refl
named (Plain Admit) = refl
named (Plain Simpl) = refl
named (Plain Unfold) = refl
named (Plain Destruct) = refl
named (Plain Induction) = refl

same_word : (w v : MoveWord) → text_of w ≡ text_of v → w ≡ v
same_word w v e = let same : Some w ≡ Some v = sym (named w) ∙ ap word_of_text e ∙ named v in cc

-- ---- what stands behind a word has the tokens behind it

rest_into_plain : (w : PlainWord) (p : TokenPlace) (l : List Token) (r : PlainRest w) → IsPlainRest w l r → IsMoveOf (keyword (plain_text w) p ∷ l) (build_plain w p r)
rest_into_plain Intro p l r h = (tt, ap (λ i. keyword (codes "intro") p ∷ i) h)
rest_into_plain Intros p l r h = (tt, ap (λ i. keyword (codes "intros") p ∷ i) h)
rest_into_plain Assumption p l r h = (tt, ap (λ i. keyword (codes "assumption") p ∷ i) h)
rest_into_plain Split p l r h = (tt, ap (λ i. keyword (codes "split") p ∷ i) h)
rest_into_plain Left p l r h = (tt, ap (λ i. keyword (codes "left") p ∷ i) h)
rest_into_plain Right p l r h = (tt, ap (λ i. keyword (codes "right") p ∷ i) h)
rest_into_plain Reflexivity p l r h = (tt, ap (λ i. keyword (codes "reflexivity") p ∷ i) h)
rest_into_plain Admit p l r h = (tt, ap (λ i. keyword (codes "admit") p ∷ i) h)
rest_into_plain Simpl p l r h = (tt, ap (λ i. keyword (codes "simpl") p ∷ i) h)
rest_into_plain Unfold p l r h = (tt, ap (λ i. keyword (codes "unfold") p ∷ i) h)
rest_into_plain Destruct p l r h = (tt, ap (λ i. keyword (codes "destruct") p ∷ i) h)
rest_into_plain Induction p l r h = (tt, ap (λ i. keyword (codes "induction") p ∷ i) h)

rest_into : (w : MoveWord) (p : TokenPlace) (l : List Token) (r : Rest w) → IsRest w l r → IsMoveOf (keyword (text_of w) p ∷ l) (build w p r)
rest_into Exact p l r h = (h.0, ap (λ i. keyword (codes "exact") p ∷ i) h.1)
rest_into Apply p l r h = (h.0, ap (λ i. keyword (codes "apply") p ∷ i) h.1)
rest_into Rewrite p l r h = (h.0, ap (λ i. keyword (codes "rewrite") p ∷ i) h.1)
rest_into (Plain w) p l r h = rest_into_plain w p l r h

-- the first token of a move, and the others
pub record Splits (w : MoveWord) (p : TokenPlace) (r : Rest w) (t : Token) (l : List Token) : Type 0 where
  pub first : keyword (text_of w) p ≡ t
  pub rest : IsRest w l r

abbrev Split_of : (w : MoveWord) → TokenPlace → Rest w → Type 0
Split_of w p r = (t : Token) (l : List Token) → IsMoveOf (t ∷ l) (build w p r) → Splits w p r t l

splits_plain : (w : PlainWord) (p : TokenPlace) (r : PlainRest w) → Split_of (Plain w) p r
splits_plain Intro p r t l h = record { first = heads _ _ _ _ h.1; rest = tails _ _ _ _ h.1 }
splits_plain Intros p r t l h = record { first = heads _ _ _ _ h.1; rest = tails _ _ _ _ h.1 }
splits_plain Assumption p r t l h = record { first = heads _ _ _ _ h.1; rest = tails _ _ _ _ h.1 }
splits_plain Split p r t l h = record { first = heads _ _ _ _ h.1; rest = tails _ _ _ _ h.1 }
splits_plain Left p r t l h = record { first = heads _ _ _ _ h.1; rest = tails _ _ _ _ h.1 }
splits_plain Right p r t l h = record { first = heads _ _ _ _ h.1; rest = tails _ _ _ _ h.1 }
splits_plain Reflexivity p r t l h = record { first = heads _ _ _ _ h.1; rest = tails _ _ _ _ h.1 }
splits_plain Admit p r t l h = record { first = heads _ _ _ _ h.1; rest = tails _ _ _ _ h.1 }
splits_plain Simpl p r t l h = record { first = heads _ _ _ _ h.1; rest = tails _ _ _ _ h.1 }
splits_plain Unfold p r t l h = record { first = heads _ _ _ _ h.1; rest = tails _ _ _ _ h.1 }
splits_plain Destruct p r t l h = record { first = heads _ _ _ _ h.1; rest = tails _ _ _ _ h.1 }
splits_plain Induction p r t l h = record { first = heads _ _ _ _ h.1; rest = tails _ _ _ _ h.1 }

splits : (w : MoveWord) (p : TokenPlace) (r : Rest w) → Split_of w p r
splits Exact p r t l h = record { first = heads _ _ _ _ h.1; rest = (h.0, tails _ _ _ _ h.1) }
splits Apply p r t l h = record { first = heads _ _ _ _ h.1; rest = (h.0, tails _ _ _ _ h.1) }
splits Rewrite p r t l h = record { first = heads _ _ _ _ h.1; rest = (h.0, tails _ _ _ _ h.1) }
splits (Plain w) p r t l h = splits_plain w p r t l h

-- a move that begins with a word
pub record From (w : MoveWord) (p : TokenPlace) (l : List Token) (m : Move) : Type 0 where
  pub rest : Rest w
  pub read : IsRest w l rest
  pub is : m ≡ build w p rest

moved : (w v : MoveWord) (p q : TokenPlace) (l : List Token) (m : Move) (r : Rest v) → v ≡ w → q ≡ p → IsRest v l r → m ≡ build v q r → From w p l m
moved w v p q l m r e f h is =
    subst (λ x. (s : Rest x) → IsRest x l s → m ≡ build x p s → From w p l m) (sym e) (λ s k i. record { rest = s; read = k; is = i }) r h (is ∙ ap (λ x. build v x r) f)

pub from_word : (w : MoveWord) (p : TokenPlace) (l : List Token) (m : Move) → IsMoveOf (keyword (text_of w) p ∷ l) m → From w p l m
from_word w p l m h =
    let b = built m in
    let s = splits b.word b.place b.rest (keyword (text_of w) p) l (subst (IsMoveOf (keyword (text_of w) p ∷ l)) b.is h) in
    let place : b.place ≡ p = λ i. record { from = (s.first i).from; to = (s.first i).to } in
    moved w b.word p b.place l m b.rest (same_word b.word w (ap (λ t. t.text) s.first)) place s.rest b.is

fault_plain : (w : PlainWord) (p : TokenPlace) (r : PlainRest w) → move_fault (build_plain w p r) ≡ None
fault_plain Intro p r = refl
fault_plain Intros p r = refl
fault_plain Assumption p r = refl
fault_plain Split p r = refl
fault_plain Left p r = refl
fault_plain Right p r = refl
fault_plain Reflexivity p r = refl
fault_plain Admit p r = refl
fault_plain Simpl p r = refl
fault_plain Unfold p r = refl
fault_plain Destruct p r = refl
fault_plain Induction p r = refl

same_fault : (w : MoveWord) (p : TokenPlace) (r : Rest w) → move_fault (build w p r) ≡ rest_fault w r
same_fault Exact p r = refl
same_fault Apply p r = refl
same_fault Rewrite p r = refl
same_fault (Plain w) p r = fault_plain w p r

pub behind_word : (w : MoveWord) (p : TokenPlace) (l : List Token) → Behind IsMoveOf move_fault (IsRest w) (rest_fault w) (keyword (text_of w) p ∷ []) l (build w p)
behind_word w p l = record {
  into = λ i r h. rest_into w p i r h;
  back = λ i m a h. let f = from_word w p i m h in (f.rest, f.read, f.is);
  same = λ r. same_fault w p r;
  elsewhere = λ i m h a e. let f = from_word w p i m h in subst (IsBehind (length i)) (sym (ap move_fault f.is ∙ same_fault w p f.rest)) (e i f.rest f.read a);
}

-- ---- the answer to a move, by the answer to what stands behind its word

pub word_halted : {C D : Type 0} (w : MoveWord) (view : C → Rest w) (seen : D → Move) (p : TokenPlace) (l : List Token) (e : Halt) → IsPart (IsRest w) (rest_fault w) view l (Err e) → IsPart IsMoveOf move_fault seen (keyword (text_of w) p ∷ l) (Err e)
word_halted w view seen p l e h = part_halted IsMoveOf move_fault (IsRest w) (rest_fault w) (keyword (text_of w) p ∷ []) l (build w p) (behind_word w p l) view seen (keyword (text_of w) p ∷ l) e refl h

pub word_read : (w : MoveWord) (p : TokenPlace) (l : List Token) (r : Rest w) → IsRest w l r → rest_fault w r ≡ None → IsMoveOf (keyword (text_of w) p ∷ l) (build w p r) × (move_fault (build w p r) ≡ None)
word_read w p l r h n = read_behind IsMoveOf move_fault (IsRest w) (rest_fault w) (keyword (text_of w) p ∷ []) l (build w p) (behind_word w p l) r h n

pub word_stopped : {C D : Type 0} (w : MoveWord) (view : C → Rest w) (seen : D → Move) (p : TokenPlace) (tokens : Tokens) (l : List Token) (e : Stop) → tokens.items ≡ keyword (text_of w) p ∷ l → IsTail (IsRest w) (rest_fault w) view tokens 1 (Err e) → IsTail IsMoveOf move_fault seen tokens 0 (Err e)
word_stopped w view seen p tokens l e s h =
    let one : drop 1 tokens.items ≡ l = ap (drop 1) s in
    tail_stopped IsMoveOf move_fault (IsRest w) (rest_fault w) (keyword (text_of w) p ∷ []) l (build w p) (behind_word w p l) view seen tokens 0 1 e one s h

-- a row of moves without a term, as its code sees it
pub row_halted : {C D : Type 0} (w v : PlainWord) (view : C → PlainRest w) (seen : D → Move) (p : TokenPlace) (i l : List Token) (y e : Halt) (r : Result D Halt) → v ≡ w → i ≡ l → r ≡ Err y → y ≡ e → IsPart (IsPlainRest w) no_fault view i (Err e)
    → IsPart IsMoveOf move_fault seen (keyword (plain_text v) p ∷ l) r
row_halted w v view seen p i l y e r is same s t h =
    rw (is, s, t) (word_halted (Plain w) view seen p l e (subst (λ j. IsPart (IsPlainRest w) no_fault view j (Err e)) same h))

-- ---- each move begins with its word

pub record Cut (w : MoveWord) (p : TokenPlace) (r : Rest w) (tokens : List Token) : Type 0 where
  pub rest : List Token
  pub parts : tokens ≡ keyword (text_of w) p ∷ rest
  pub read : IsRest w rest r

cut_plain : (w : PlainWord) (p : TokenPlace) (r : PlainRest w) (tokens : List Token) → IsMoveOf tokens (build_plain w p r) → Cut (Plain w) p r tokens
cut_plain Intro p r tokens h = record { rest = _; parts = sym h.1; read = refl }
cut_plain Intros p r tokens h = record { rest = _; parts = sym h.1; read = refl }
cut_plain Assumption p r tokens h = record { rest = _; parts = sym h.1; read = refl }
cut_plain Split p r tokens h = record { rest = _; parts = sym h.1; read = refl }
cut_plain Left p r tokens h = record { rest = _; parts = sym h.1; read = refl }
cut_plain Right p r tokens h = record { rest = _; parts = sym h.1; read = refl }
cut_plain Reflexivity p r tokens h = record { rest = _; parts = sym h.1; read = refl }
cut_plain Admit p r tokens h = record { rest = _; parts = sym h.1; read = refl }
cut_plain Simpl p r tokens h = record { rest = _; parts = sym h.1; read = refl }
cut_plain Unfold p r tokens h = record { rest = _; parts = sym h.1; read = refl }
cut_plain Destruct p r tokens h = record { rest = _; parts = sym h.1; read = refl }
cut_plain Induction p r tokens h = record { rest = _; parts = sym h.1; read = refl }

pub cut : (w : MoveWord) (p : TokenPlace) (r : Rest w) (tokens : List Token) → IsMoveOf tokens (build w p r) → Cut w p r tokens
cut Exact p r tokens h = record { rest = _; parts = sym h.1; read = (h.0, refl) }
cut Apply p r tokens h = record { rest = _; parts = sym h.1; read = (h.0, refl) }
cut Rewrite p r tokens h = record { rest = _; parts = sym h.1; read = (h.0, refl) }
cut (Plain w) p r tokens h = cut_plain w p r tokens h

-- ---- which tokens are words

abbrev IsTextOf : List ℕ → Option MoveWord → Type 0
IsTextOf text None = Unit {0}
IsTextOf text (Some w) = text ≡ text_of w

pick : {A : Type 0} (P : A → Type 0) (b : Bool) (x y : A) → (b ≡ true → P x) → P y → P (cond b x y)
pick P true x y f g = f refl
pick P false x y f g = g

same_text : (a b : List ℕ) → bytes_eq a b ≡ true → a ≡ b
same_text a b e = (bytes_eq-Decides a b).0 e

plain_text_of : (text : List ℕ) → IsTextOf text (plain (plain_word_of_text text))
unfolding plain_word_of_text
plain_text_of text =
    pick (λ o. IsTextOf text (plain o)) (bytes_eq text (codes "intro")) _ _ (λ e. same_text text _ e) (
    pick (λ o. IsTextOf text (plain o)) (bytes_eq text (codes "intros")) _ _ (λ e. same_text text _ e) (
    pick (λ o. IsTextOf text (plain o)) (bytes_eq text (codes "assumption")) _ _ (λ e. same_text text _ e) (
    pick (λ o. IsTextOf text (plain o)) (bytes_eq text (codes "split")) _ _ (λ e. same_text text _ e) (
    pick (λ o. IsTextOf text (plain o)) (bytes_eq text (codes "left")) _ _ (λ e. same_text text _ e) (
    pick (λ o. IsTextOf text (plain o)) (bytes_eq text (codes "right")) _ _ (λ e. same_text text _ e) (
    pick (λ o. IsTextOf text (plain o)) (bytes_eq text (codes "reflexivity")) _ _ (λ e. same_text text _ e) (
    pick (λ o. IsTextOf text (plain o)) (bytes_eq text (codes "admit")) _ _ (λ e. same_text text _ e) (
    pick (λ o. IsTextOf text (plain o)) (bytes_eq text (codes "simpl")) _ _ (λ e. same_text text _ e) (
    pick (λ o. IsTextOf text (plain o)) (bytes_eq text (codes "unfold")) _ _ (λ e. same_text text _ e) (
    pick (λ o. IsTextOf text (plain o)) (bytes_eq text (codes "destruct")) _ _ (λ e. same_text text _ e) (
    pick (λ o. IsTextOf text (plain o)) (bytes_eq text (codes "induction")) _ _ (λ e. same_text text _ e) tt)))))))))))

word_text_of : (text : List ℕ) → IsTextOf text (word_of_text text)
unfolding word_of_text
word_text_of text =
    pick (IsTextOf text) (bytes_eq text (codes "exact")) _ _ (λ e. same_text text _ e) (
    pick (IsTextOf text) (bytes_eq text (codes "apply")) _ _ (λ e. same_text text _ e) (
    pick (IsTextOf text) (bytes_eq text (codes "rewrite")) _ _ (λ e. same_text text _ e) (plain_text_of text)))

pub is_move_word : (t : Token) (o : Option MoveWord) → t.kind ≡ Identifier → o ≡ word_of_text t.text → IsMoveWord t o
is_move_word t (Some w) k e = is_token t Identifier (text_of w) k (subst (IsTextOf t.text) (sym e) (word_text_of t.text))
is_move_word t None k e = λ w p same. absurd (let bad : None ≡ Some w = e ∙ ap (λ u. word_of_text u.text) same ∙ named w in cc)

abbrev spelled_word : MoveWord × TokenPlace → Token
spelled_word x = keyword (text_of x.0) x.1

rest_within : (w : MoveWord) (l : List Token) (r : Rest w) → IsRest w l r → IsBehind (length l) (rest_fault w r)
rest_within Exact l r h = subst (λ i. IsBehind (length i) (fault_of_term r)) h.1 (fault_within r h.0)
rest_within Apply l r h = subst (λ i. IsBehind (length i) (fault_of_term r)) h.1 (fault_within r h.0)
rest_within Rewrite l r h = rewriting_within l r h
rest_within (Plain w) l r h = tt

-- the faults of a move are among its tokens
move_within : (i : List Token) (m : Move) → IsMoveOf i m → IsBehind (length i) (move_fault m)
move_within i m h =
    let b = built m in
    let c = cut b.word b.place b.rest i (subst (IsMoveOf i) b.is h) in
    let size : length c.rest ≤ length i = omega (arith, ap length c.parts) in
    subst (IsBehind (length i)) (sym (ap move_fault b.is ∙ same_fault b.word b.place b.rest))
    (behind_more (length c.rest) (length i) (rest_fault b.word b.rest) size (rest_within b.word c.rest b.rest c.read))

-- no word stands first
pub no_word_first : (tokens : List Token) → ((w : MoveWord) (p : TokenPlace) (rest : List Token) → tokens ≡ keyword (text_of w) p ∷ rest → ⊥) → IsUnexpected IsMoveOf move_fault tokens tokens
no_word_first tokens none = unexpected_here IsMoveOf move_fault tokens (keyword (codes "split") spare ∷ []) (move.Split spare) (tt, refl) move_within by
  where
    by : (i : List Token) (m : Move) → take 1 i ≡ take 1 tokens → IsMoveOf i m → ⊥
    by i m a f =
        let b = built m in
        let c = cut b.word b.place b.rest i (subst (IsMoveOf i) b.is f) in
        next_of spelled_word (b.word, b.place) i tokens c.rest a c.parts (λ x rest same. none x.0 x.1 rest same)

pub no_word : {D : Type 0} (seen : D → Move) (tokens : Tokens) (e : Stop) (left : List Token) → ((w : MoveWord) (p : TokenPlace) (rest : List Token) → tokens.items ≡ keyword (text_of w) p ∷ rest → ⊥) → left ≡ tokens.items → e ≡ stop.Refused (record { code = unexpected; place = next_place tokens.period left }) → IsTail IsMoveOf move_fault seen tokens 0 (Err e)
no_word seen tokens e left none here is =
    rw is (record { code = unexpected; rest = left }, inl (refl, subst (λ i. IsUnexpected IsMoveOf move_fault tokens.items i) (sym here) (no_word_first tokens.items none)), (refl, refl))

-- a move that halted
pub halted : {C : Type 0} (seen : C → Move) (tokens : Tokens) (l : List Token) (e : Stop) (h : Halt) → tokens.items ≡ l → IsPart IsMoveOf move_fault seen l (Err h) → e ≡ stop_of tokens h → IsTail IsMoveOf move_fault seen tokens 0 (Err e)
halted seen tokens l e NoMem same k is = rw is tt
halted seen tokens l e (Unexpected left) same k is =
    rw is (record { code = unexpected; rest = left.now }, inl (refl, subst (λ i. IsUnexpected IsMoveOf move_fault i left.now) (sym same) k), (refl, refl))
