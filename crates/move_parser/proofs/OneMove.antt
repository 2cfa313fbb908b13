-- A token list has at most one move.
use Rattle.std.proofs.Common.{◌≡◌, Option, None, Some, List, [], ◌∷◌, refl, sym, ◌∙◌, ap, subst, append-nil}
use Rattle.coq_syntax.specs.declared.token.Token.{Token}
use Rattle.coq_syntax.specs.declared.words.Word.{Word}
use Rattle.coq_syntax.specs.declared.moves.Direction.{Direction}
use Rattle.coq_syntax.specs.declared.moves.Direction.TheVariants.{Unmarked, Forward, Backward}
use Rattle.coq_syntax.specs.Trees.{Term}
use Rattle.coq_syntax.specs.MoveTrees.{Pattern}
use Rattle.coq_syntax.specs.Spelled.{identifier, spells}
use Rattle.coq_syntax.specs.Grammar.{IsTerm, IsTermOf}
use Rattle.coq_syntax.specs.Moves.{optional, identifiers, pattern_tokens, direction, IsMoveOf}
use Rattle.vernac_parser.proofs.Unique.{one_tree}
use Rattle.move_parser.specs.declared.mark.Mark.TheVariants.{CloseBracket}
use Rattle.move_parser.specs.declared.mark.Mark.TheVariants as mark
use Rattle.move_parser.specs.declared.move_word.MoveWord.{MoveWord}
use Rattle.move_parser.specs.declared.move_word.MoveWord.TheVariants.{Exact, Apply, Rewrite, Plain}
use Rattle.move_parser.specs.declared.move_word.PlainWord.{PlainWord}
use Rattle.move_parser.specs.declared.move_word.PlainWord.TheVariants.{Intro, Intros, Assumption, Split, Left, Right, Reflexivity, Admit, Simpl, Unfold, Destruct, Induction}
use Rattle.move_parser.specs.Marks.{written}
use Rattle.coq_syntax.specs.MeetsWhole.{OneMove}
use Rattle.move_parser.proofs.Tokens.{identifier_same, written_same, heads, tails, none_at_end, close_no_name, close_no_bar}
use Rattle.move_parser.proofs.PartLaws.{all_back, case_back, body-append}
use Rattle.move_parser.proofs.Terms.{forward_back, backward_back}
use Rattle.move_parser.specs.MoveRests.{PlainRest, Rest, build}
use Rattle.move_parser.proofs.Words.{IsPlainRest, IsRest, built, from_word, cut}

same_optional : (x y : Option Word) → optional x ≡ optional y → x ≡ y
same_optional None None e = refl
same_optional None (Some v) e = absurd (cc)
same_optional (Some w) None e = absurd (cc)
same_optional (Some w) (Some v) e = ap (λ x. Some x) (identifier_same w v (heads _ _ _ _ e))

same_identifiers : (xs ys : List Word) → identifiers xs ≡ identifiers ys → xs ≡ ys
same_identifiers xs ys e = (all_back ys xs [] [] refl (none_at_end identifier) (e ∙ sym (append-nil (identifiers ys)))).2

same_pattern : (x y : Option Pattern) → pattern_tokens x ≡ pattern_tokens y → x ≡ y
same_pattern None None e = refl
same_pattern None (Some q) e = absurd (cc)
same_pattern (Some p) None e = absurd (cc)
same_pattern (Some p) (Some q) e =
    let end : List Token = written CloseBracket q.closing ∷ [] in
    let whole : pattern_tokens (Some p) ≡ pattern_tokens (Some q) = e in
    let b = case_back q.keyword q.opening q.first q.others end end (Some p) (close_no_name q.closing []) (close_no_bar q.closing []) refl
    (whole ∙ ap (λ i. written mark.As q.keyword ∷ written mark.OpenBracket q.opening ∷ i) (sym (body-append q.first q.others end))) in
    let closing : b.0 ≡ q.closing = written_same CloseBracket b.0 q.closing (heads _ _ _ _ b.1) in
    b.2 ∙ (λ i. Some (record { keyword = q.keyword; opening = q.opening; first = q.first; others = q.others; closing = closing i }))

same_subject : (x y : Word × Option Pattern) → identifier x.0 ∷ pattern_tokens x.1 ≡ identifier y.0 ∷ pattern_tokens y.1 → x ≡ y
same_subject x y e =
    let first : x.0 ≡ y.0 = identifier_same x.0 y.0 (heads _ _ _ _ e) in
    let second : x.1 ≡ y.1 = same_pattern x.1 y.1 (tails _ _ _ _ e) in
    λ i. (first i, second i)

same_pair : (d f : Direction) (t u : Term) (l : List Token) → IsTermOf l t × (d ≡ f) → IsTermOf l u → ◌≡◌ {A = Direction × Term} (d, t) (f, u)
same_pair d f t u l h k =
    let first : d ≡ f = h.1 in
    let second : t ≡ u = one_tree l t u h.0 k in
    λ i. (first i, second i)

same_rewriting : (d f : Direction) (t u : Term) → IsTerm t → IsTerm u → direction d (spells t []) ≡ direction f (spells u []) → ◌≡◌ {A = Direction × Term} (d, t) (f, u)
same_rewriting d (Forward p) t u h k e = same_pair d (Forward p) t u (spells u []) (forward_back p (spells u []) d t h e) (k, refl)
same_rewriting d (Backward p) t u h k e = same_pair d (Backward p) t u (spells u []) (backward_back p (spells u []) d t h e) (k, refl)
same_rewriting (Forward p) Unmarked t u h k e = sym (same_pair Unmarked (Forward p) u t (spells t []) (forward_back p (spells t []) Unmarked u k (sym e)) (h, refl))
same_rewriting (Backward p) Unmarked t u h k e = sym (same_pair Unmarked (Backward p) u t (spells t []) (backward_back p (spells t []) Unmarked u k (sym e)) (h, refl))
same_rewriting Unmarked Unmarked t u h k e = same_pair Unmarked Unmarked t u (spells u []) ((h, e), refl) (k, refl)

same_plain : (w : PlainWord) (l : List Token) (r s : PlainRest w) → IsPlainRest w l r → IsPlainRest w l s → r ≡ s
same_plain Intro l r s h k = same_optional r s (h ∙ sym k)
same_plain Intros l r s h k = same_identifiers r s (h ∙ sym k)
same_plain Assumption l r s h k = refl
same_plain Split l r s h k = refl
same_plain Left l r s h k = refl
same_plain Right l r s h k = refl
same_plain Reflexivity l r s h k = refl
same_plain Admit l r s h k = refl
same_plain Simpl l r s h k = refl
same_plain Unfold l r s h k = identifier_same r s (heads _ _ _ _ (h ∙ sym k))
same_plain Destruct l r s h k = same_subject r s (h ∙ sym k)
same_plain Induction l r s h k = same_subject r s (h ∙ sym k)

same_rest : (w : MoveWord) (l : List Token) (r s : Rest w) → IsRest w l r → IsRest w l s → r ≡ s
same_rest Exact l r s h k = one_tree l r s h k
same_rest Apply l r s h k = one_tree l r s h k
same_rest Rewrite l r s h k = same_rewriting r.0 s.0 r.1 s.1 h.0 k.0 (h.1 ∙ sym k.1)
same_rest (Plain w) l r s h k = same_plain w l r s h k

pub one_move : OneMove
one_move tokens a b f g =
    let m = built a in
    let c = cut m.word m.place m.rest tokens (subst (IsMoveOf tokens) m.is f) in
    let other = from_word m.word m.place c.rest b (subst (λ i. IsMoveOf i b) c.parts g) in
    m.is ∙ ap (build m.word m.place) (same_rest m.word c.rest m.rest other.rest c.read other.read) ∙ sym other.is
