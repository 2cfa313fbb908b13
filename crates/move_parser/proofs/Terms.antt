-- The answer to a term that ends a move, and to a rewriting.
use Rattle.std.proofs.Common.{◌≡◌, ℕ, suc, ◌-◌, ◌≤◌, inl, inr, true, false, None, Err, List, [], ◌∷◌, ◌++◌, drop, take, length, refl, sym, ◌∙◌, ap, subst, arith, append-nil, length-drop}
use Rattle.std.proofs.lemmas.List.{take_all}
use Rattle.base_core.specs.declared.refusals.Stop.{Stop}
use Rattle.base_core.specs.declared.refusals.Stop.TheVariants as stop
use Rattle.coq_syntax.specs.declared.token.Token.{Token}
use Rattle.coq_syntax.specs.declared.words.TokenPlace.{TokenPlace}
use Rattle.coq_syntax.specs.declared.moves.Direction.{Direction}
use Rattle.coq_syntax.specs.declared.moves.Direction.TheVariants.{Unmarked, Forward, Backward}
use Rattle.coq_syntax.specs.Tokens.{Tokens}
use Rattle.coq_syntax.specs.Trees.{Term}
use Rattle.coq_syntax.specs.Spelled.{spells}
use Rattle.coq_syntax.specs.Grammar.{IsTerm, IsTermOf}
use Rattle.coq_syntax.specs.Moves.{direction}
use Rattle.vernac_parser.specs.Signs.{sign_at, symbol_sign, begins_term}
use Rattle.vernac_parser.specs.Parser.{unexpected}
use Rattle.coq_syntax.specs.Refusals.{IsBehind, NoTree, AtEnd, IsUnexpected}
use Rattle.coq_syntax.specs.Meets.{fault_of_term, IsRead, IsRefused}
use Rattle.coq_syntax.specs.MeetsWhole.{IsRefusedWhole}
use Rattle.coq_syntax.specs.Answers.{next_place}
use Rattle.vernac_parser.specs.Answers.{IsParsed}
use Rattle.vernac_parser.proofs.Refused.{fault_within}
use Rattle.vernac_parser.proofs.Viable.{behind_more}
use Rattle.vernac_parser.proofs.Heads.{head_of, term_begins}
use Rattle.move_parser.specs.declared.mark.Mark.TheVariants as mark
use Rattle.move_parser.specs.Marks.{written, is_mark}
use Rattle.move_parser.specs.Reading.{NoneNext}
use Rattle.move_parser.specs.Parts.{IsTail, IsRewritingOf, fault_of_rewriting, IsDirection, term_place, IsBehindFirst}
use Rattle.move_parser.proofs.Tokens.{written_same, heads, tails, next_of}
use Rattle.move_parser.proofs.Behind.{Behind, tail_stopped}

-- ---- a term to the end

pub from_place : (at : ℕ) (items : List Token) → take (length items - at) (drop at items) ≡ drop at items
from_place at items = take_all (length items - at) (drop at items) (omega (arith, length-drop at items))

pub term_whole : (l rest : List Token) (t : Term) → IsRead l t rest → rest ≡ [] → IsTermOf l t × (fault_of_term t ≡ None)
term_whole l rest t r none =
    let whole : r.used ≡ l = sym (r.parts ∙ ap (λ i. r.used ++ i) none ∙ append-nil r.used) in
    (subst (λ i. IsTermOf i t) whole r.tree, r.sound)

some_left : (rest : List Token) (P : Type 0) → (rest ≡ [] → ⊥) → AtEnd rest P
some_left [] P some = absurd (some refl)
some_left (t ∷ w) P some = tt

pub term_left : (l rest : List Token) (t : Term) → IsRead l t rest → (rest ≡ [] → ⊥) → IsUnexpected IsTermOf fault_of_term l rest
term_left l rest t r some = record {
  used = r.used;
  parts = r.parts;
  more = [];
  tree = t;
  begun = subst (λ i. IsTermOf i t) (sym (append-nil r.used)) r.tree;
  each = λ others x is a. r.each others x is a;
  sound = subst (IsBehind 0) (sym r.sound) tt;
  longest = r.longest;
  early = some_left rest (NoTree IsTermOf r.used) some;
}

-- tokens stand behind the term
pub term_stopped_behind : {C : Type 0} (view : C → Term) (tokens : Tokens) (at : ℕ) (rest left : List Token) (t : Term) (e : Stop) → IsRead (drop at tokens.items) t rest → left ≡ rest → (rest ≡ [] → ⊥) → e ≡ stop.Refused (record { code = unexpected; place = next_place tokens.period left }) → IsTail IsTermOf fault_of_term view tokens at (Err e)
term_stopped_behind view tokens at rest left t e r same some is =
    rw is (record { code = unexpected; rest = left }, inl (refl, subst (λ i. IsUnexpected IsTermOf fault_of_term (drop at tokens.items) i) (sym same) (term_left (drop at tokens.items) rest t r some)), (refl, refl))

-- no term stands there
pub term_stopped : {C : Type 0} (view : C → Term) (tokens : Tokens) (at : ℕ) (e : Stop) → IsParsed tokens at (Err e) → IsTail IsTermOf fault_of_term view tokens at (Err e)
term_stopped view tokens at (stop.Refused r) h = (h.0, by h.1, h.2)
  where
    by : IsRefused (drop at tokens.items) h.0 → IsRefusedWhole IsTermOf fault_of_term (drop at tokens.items) h.0
    by (inl k) = inl (k.0, k.1)
    by (inr k) = inr k
term_stopped view tokens at (stop.Out limit) h = h
term_stopped view tokens at stop.NoMem h = tt

-- ---- rewritings

no_arrow : (p : TokenPlace) (t : Term) (i : List Token) → spells t [] ≡ written mark.Forward p ∷ i → ⊥
unfolding symbol_sign
no_arrow p t i e = absurd (let bad : true ≡ false = sym (term_begins t) ∙ ap begins_term (sym (head_of t []) ∙ ap sign_at e) in cc)

no_back_arrow : (p : TokenPlace) (t : Term) (i : List Token) → spells t [] ≡ written mark.Backward p ∷ i → ⊥
unfolding symbol_sign
no_back_arrow p t i e = absurd (let bad : true ≡ false = sym (term_begins t) ∙ ap begins_term (sym (head_of t []) ∙ ap sign_at e) in cc)

abbrev Rewriting : Type 0
Rewriting = Direction × Term

back_arrow_differs : (p q : TokenPlace) (i j : List Token) → written mark.Backward p ∷ i ≡ written mark.Forward q ∷ j → ⊥
back_arrow_differs p q i j e = absurd (let bad : false ≡ true = ap (is_mark mark.Forward) (heads (written mark.Backward p) (written mark.Forward q) i j e) in cc)

pub forward_back : (p : TokenPlace) (i : List Token) (d : Direction) (t : Term) → IsTerm t → direction d (spells t []) ≡ written mark.Forward p ∷ i → IsTermOf i t × (d ≡ Forward p)
forward_back p i Unmarked t h e = absurd (no_arrow p t i e)
forward_back p i (Forward q) t h e = ((h, tails (written mark.Forward q) (written mark.Forward p) _ _ e), ap (λ x. Forward x) (written_same mark.Forward q p (heads _ _ _ _ e)))
forward_back p i (Backward q) t h e = absurd (back_arrow_differs q p _ _ e)

pub backward_back : (p : TokenPlace) (i : List Token) (d : Direction) (t : Term) → IsTerm t → direction d (spells t []) ≡ written mark.Backward p ∷ i → IsTermOf i t × (d ≡ Backward p)
backward_back p i Unmarked t h e = absurd (no_back_arrow p t i e)
backward_back p i (Forward q) t h e = absurd (back_arrow_differs p q _ _ (sym e))
backward_back p i (Backward q) t h e = ((h, tails (written mark.Backward q) (written mark.Backward p) _ _ e), ap (λ x. Backward x) (written_same mark.Backward q p (heads _ _ _ _ e)))

pub unmarked_back : (l i : List Token) (d : Direction) (t : Term) → NoneNext (written mark.Forward) l → NoneNext (written mark.Backward) l → take 1 i ≡ take 1 l → IsTerm t → direction d (spells t []) ≡ i → IsTermOf i t × (d ≡ Unmarked)
unmarked_back l i Unmarked t f b a h e = ((h, e), refl)
unmarked_back l i (Forward q) t f b a h e = absurd (next_of (written mark.Forward) q i l _ a (sym e) f)
unmarked_back l i (Backward q) t f b a h e = absurd (next_of (written mark.Backward) q i l _ a (sym e) b)

pair_back : (i : List Token) (r : Rewriting) (d : Direction) → IsTermOf i r.1 × (r.0 ≡ d) → (t : Term) × IsTermOf i t × (r ≡ (d, t))
pair_back i r d h = let same : r.0 ≡ d = h.1 in (r.1, h.0, λ k. (same k, r.1))

-- the faults of a rewriting are among its tokens
direction_longer : (d : Direction) (l : List Token) → length l ≤ length (direction d l)
direction_longer Unmarked l = omega arith
direction_longer (Forward p) l = omega arith
direction_longer (Backward p) l = omega arith

pub rewriting_within : (i : List Token) (r : Rewriting) → IsRewritingOf i r → IsBehind (length i) (fault_of_rewriting r)
rewriting_within i r h =
    let size : length (spells r.1 []) ≤ length i = omega (arith, direction_longer r.0 (spells r.1 []), ap length h.1) in
    behind_more (length (spells r.1 [])) (length i) (fault_of_term r.1) size (fault_within r.1 h.0)

pub behind_forward : (p : TokenPlace) (l : List Token) → Behind IsRewritingOf fault_of_rewriting IsTermOf fault_of_term (written mark.Forward p ∷ []) l (λ t. (Forward p, t))
behind_forward p l = record { into = λ i t h. (h.0, ap (λ j. written mark.Forward p ∷ j) h.1); back = λ i r a h. pair_back i r (Forward p) (forward_back p i r.0 r.1 h.0 h.1); same = λ t. refl; elsewhere = λ i r h a e. e i r.1 (forward_back p i r.0 r.1 h.0 h.1).0 a }

pub behind_backward : (p : TokenPlace) (l : List Token) → Behind IsRewritingOf fault_of_rewriting IsTermOf fault_of_term (written mark.Backward p ∷ []) l (λ t. (Backward p, t))
behind_backward p l = record { into = λ i t h. (h.0, ap (λ j. written mark.Backward p ∷ j) h.1); back = λ i r a h. pair_back i r (Backward p) (backward_back p i r.0 r.1 h.0 h.1); same = λ t. refl; elsewhere = λ i r h a e. e i r.1 (backward_back p i r.0 r.1 h.0 h.1).0 a }

pub behind_unmarked : (l : List Token) → NoneNext (written mark.Forward) l → NoneNext (written mark.Backward) l → Behind IsRewritingOf fault_of_rewriting IsTermOf fault_of_term [] l (λ t. (Unmarked, t))
behind_unmarked l f b = record { into = λ i t h. h; back = λ i r a h. pair_back i r Unmarked (unmarked_back l i r.0 r.1 f b a h.0 h.1); same = λ t. refl; elsewhere = λ i r h a e. rewriting_within i r h }

-- the tokens behind the first
rest_of : (items rest : List Token) → IsBehindFirst items rest → drop 1 items ≡ rest
rest_of [] rest h = absurd h
rest_of (t ∷ tokens) rest h = h

next_of_rest : (items rest more : List Token) (t : Token) → IsBehindFirst items rest → rest ≡ t ∷ more → drop 2 items ≡ more
next_of_rest [] rest more t h e = absurd h
next_of_rest (u ∷ items) rest more t h e = ap (drop 1) (h ∙ e)

pub term_within : (items rest : List Token) (d : Direction) → IsBehindFirst items rest → IsDirection rest d → term_place d ≤ length items
term_within [] rest d h k = absurd h
term_within (u ∷ items) rest Unmarked h k = omega arith
term_within (u ∷ items) rest (Forward p) h k = let size : length items ≡ suc (length k.0) = ap length (h ∙ k.1) in omega arith
term_within (u ∷ items) rest (Backward p) h k = let size : length items ≡ suc (length k.0) = ap length (h ∙ k.1) in omega arith

pub rewriting_read : (items rest : List Token) (d : Direction) (t : Term) → IsBehindFirst items rest → IsDirection rest d → IsTermOf (drop (term_place d) items) t → IsRewritingOf (drop 1 items) (d, t)
rewriting_read items rest Unmarked t h k is = is
rewriting_read items rest (Forward p) t h k is = (is.0, ap (λ i. written mark.Forward p ∷ i) (is.1 ∙ next_of_rest items rest k.0 _ h k.1) ∙ sym (rest_of items rest h ∙ k.1))
rewriting_read items rest (Backward p) t h k is = (is.0, ap (λ i. written mark.Backward p ∷ i) (is.1 ∙ next_of_rest items rest k.0 _ h k.1) ∙ sym (rest_of items rest h ∙ k.1))

pub rewriting_stopped : {C D : Type 0} (view : C → Term) (seen : D → Rewriting) (tokens : Tokens) (rest : List Token) (d : Direction) (e : Stop) → IsBehindFirst tokens.items rest → IsDirection rest d → IsTail IsTermOf fault_of_term view tokens (term_place d) (Err e) → IsTail IsRewritingOf fault_of_rewriting seen tokens 1 (Err e)
rewriting_stopped view seen tokens rest Unmarked e h k is =
    tail_stopped IsRewritingOf fault_of_rewriting IsTermOf fault_of_term [] rest (λ t. (Unmarked, t)) (behind_unmarked rest k.0 k.1) view seen tokens 1 1 e (rest_of tokens.items rest h) (rest_of tokens.items rest h) is
rewriting_stopped view seen tokens rest (Forward p) e h k is =
    tail_stopped IsRewritingOf fault_of_rewriting IsTermOf fault_of_term (written mark.Forward p ∷ []) k.0 (λ t. (Forward p, t)) (behind_forward p k.0) view seen tokens 1 2 e (next_of_rest tokens.items rest k.0 _ h k.1) (rest_of tokens.items rest h ∙ k.1) is
rewriting_stopped view seen tokens rest (Backward p) e h k is =
    tail_stopped IsRewritingOf fault_of_rewriting IsTermOf fault_of_term (written mark.Backward p ∷ []) k.0 (λ t. (Backward p, t)) (behind_backward p k.0) view seen tokens 1 2 e (next_of_rest tokens.items rest k.0 _ h k.1) (rest_of tokens.items rest h ∙ k.1) is
