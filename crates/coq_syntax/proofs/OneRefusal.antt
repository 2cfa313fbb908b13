-- The clauses on a refusal leave nothing open: two refusals of one token list are the same.
use Rattle.std.proofs.Common.{◌≡◌, ℕ, suc, ◌==◌, ◌<◌, ◌⊎◌, inl, inr, Bool, true, false, Option, None, Some, Ok, Err, List, [], ◌∷◌, ◌++◌, length, refl, sym, ◌∙◌, ap, subst, arith, append_assoc, append-nil, length-append}
use Rattle.coq_syntax.specs.declared.token.Token.{Token}
use Rattle.coq_syntax.specs.Limits.{too_deep}
use Rattle.coq_syntax.specs.Faults.{Fault}
use Rattle.coq_syntax.specs.Refusals.{Outcome, unexpected, IsBehind, Begin, IsLongest, NoTree, OneTreeOf, AtEnd, IsUnexpectedBy, IsLimitBy, IsAssigned, AssignedAlike, IsUnexpected, IsLimit}
use Rattle.coq_syntax.specs.MeetsWhole.{IsRefusedWhole, IsWholeAnswer, OneWholeAnswer}
use Rattle.coq_syntax.proofs.Splits.{Longer, longer, Order, Before, Behind, Here, order}
use Rattle.coq_syntax.proofs.Assigned.{assigned_or}

pub equal_of : (a b : ℕ) → (a == b) ≡ true → a ≡ b
equal_of a b e = grind arith

pub unequal_of : (a b : ℕ) → (a == b) ≡ false → a ≡ b → ⊥
unequal_of a b e = grind arith

-- what stands behind decides by its first token, if at all: of two lists one decides all that the other does
pub record IsDecisive (Alike : List Token → List Token → Type 0) : Type 0 where
  pub either : (p : List Token) → ((q : List Token) → Alike p q) ⊎ ((q : List Token) → Alike q p)
  pub first : (t : Token) (v w : List Token) → Alike (t ∷ v) (t ∷ w)
  pub none : (q : List Token) → Alike [] q

pub assigned_decides : IsDecisive AssignedAlike
assigned_decides = record {
  either = λ p. elim (assigned_or p) as (λ _. ((q : List Token) → AssignedAlike p q) ⊎ ((q : List Token) → AssignedAlike q p)) [ inl k ↦ inr (λ q _. k) | inr free ↦ inl (λ q k. absurd (free k)) ];
  first = λ t v w k. k;
  none = λ q k. absurd k;
}

fault_made : ℕ → List Token → Fault
fault_made code rest = record { code = code; rest = rest }

same_fault : (f g : Fault) → f.code ≡ g.code → f.rest ≡ g.rest → f ≡ g
unfolding fault_made
same_fault f g c r = ap (λ x. fault_made x f.rest) c ∙ ap (fault_made g.code) r

fault_code : Option Fault → ℕ
fault_code None = 0
fault_code (Some f) = f.code

fault_rest : Option Fault → List Token
fault_rest None = []
fault_rest (Some f) = f.rest

module _ {Alike : List Token → List Token → Type 0} (alike : IsDecisive Alike) {A : Type 0} (Is : List Token → A → Type 0) (fault_of : A → Option Fault) where
  -- the tokens before a later place begin a tree, so a refusal of an unexpected token does not stand before it
  pub not_longest : (u v u' v' w : List Token) (t : A) → Longer u v u' v' → IsLongest Is u' v' → Is (u ++ w) t → ⊥
  not_longest u v u' v' w t l long tree =
      let none : Begin Is (u' ++ l.first ∷ []) → ⊥ = subst (IsLongest Is u') l.last long in
      none (l.back ++ w, t, subst (λ x. Is x t) (ap (λ x. x ++ w) l.whole ∙ append_assoc u' (l.first ∷ l.back) w ∙ sym (append_assoc u' (l.first ∷ []) (l.back ++ w))) tree)

  pub two_unexpected : (i : List Token) (f g : Fault) → f.code ≡ unexpected → g.code ≡ unexpected → IsUnexpectedBy Alike Is fault_of i f.rest → IsUnexpectedBy Alike Is fault_of i g.rest → f ≡ g
  two_unexpected i f g c d a b = by (order i a.used f.rest b.used g.rest a.parts b.parts)
    where
      by : Order a.used f.rest b.used g.rest → f ≡ g
      by (Before l) = absurd (not_longest a.used f.rest b.used g.rest a.more a.tree l b.longest a.begun)
      by (Behind l) = absurd (not_longest b.used g.rest a.used f.rest b.more b.tree l a.longest b.begun)
      by (Here e r) = same_fault f g (c ∙ sym d) r

  -- a limit before a place at which no tree with these tokens has passed one
  passed_there : (k : Option Fault) (n : ℕ) (f : Fault) → IsBehind n k → k ≡ Some f → n < length f.rest → ⊥
  unfolding fault_rest
  passed_there None n f h e l = cc
  passed_there (Some g) n f h e l = let size : length g.rest ≡ length f.rest = ap (λ k. length (fault_rest k)) e in omega arith

  pub begins_next : (u w : List Token) (next : Token) (t : A) → Is (u ++ next ∷ w) t → Begin Is (u ++ next ∷ [])
  begins_next u w next t h = (w, t, subst (λ x. Is x t) (sym (append_assoc u (next ∷ []) w)) h)

  -- the limit stands before the unexpected token
  limit_first : (rest : List Token) (i : List Token) (g : Fault) (a : IsUnexpectedBy Alike Is fault_of i rest) (b : IsLimitBy Alike Is fault_of i g) (back : List Token) → b.after ≡ back ++ rest → a.used ≡ b.used ++ b.next ∷ back → ⊥
  limit_first rest i g a b [] after used = by (alike.either rest)
    where
      by : ((q : List Token) → Alike rest q) ⊎ ((q : List Token) → Alike q rest) → ⊥
      by (inl all) =
          let tree : Is (a.used ++ b.more) b.tree = subst (λ x. Is x b.tree) (sym (append_assoc b.used (b.next ∷ []) b.more) ∙ ap (λ x. x ++ b.more) (sym used)) b.begun in
          passed_there (fault_of b.tree) (length b.more) (record { code = g.code; rest = b.next ∷ b.more }) (a.each b.more b.tree tree (all b.more)) b.first (omega arith)
      by (inr all) =
          let tree : Is (b.used ++ b.next ∷ a.more) a.tree = subst (λ x. Is x a.tree) (ap (λ x. x ++ a.more) used ∙ append_assoc b.used (b.next ∷ []) a.more) a.begun in
          passed_there (fault_of a.tree) (length a.more) (record { code = g.code; rest = b.next ∷ a.more }) a.sound (b.each a.more a.tree tree (λ _. subst (Alike a.more) (sym after) (all a.more))) (omega arith)
  limit_first rest i g a b (x ∷ back) after used =
      let tree : Is (b.used ++ b.next ∷ x ∷ (back ++ a.more)) a.tree = subst (λ y. Is y a.tree) (ap (λ y. y ++ a.more) used ∙ append_assoc b.used (b.next ∷ x ∷ back) a.more) a.begun in
      passed_there (fault_of a.tree) (length a.more) (record { code = g.code; rest = b.next ∷ x ∷ (back ++ a.more) }) a.sound
      (b.each (x ∷ (back ++ a.more)) a.tree tree (λ _. subst (Alike (x ∷ (back ++ a.more))) (sym after) (alike.first x (back ++ a.more) (back ++ rest)))) (omega (arith, length-append back a.more))

  pub unexpected_limit : (i : List Token) (f g : Fault) → IsUnexpectedBy Alike Is fault_of i f.rest → IsLimitBy Alike Is fault_of i g → ⊥
  unexpected_limit i f g a b = by (order i a.used f.rest b.used (b.next ∷ b.after) a.parts b.parts)
    where
      by : Order a.used f.rest b.used (b.next ∷ b.after) → ⊥
      by (Before l) =
          let last : b.next ∷ b.after ≡ l.first ∷ (l.back ++ f.rest) = l.last in
          let head : l.first ≡ b.next = cc in
          let tail : b.after ≡ l.back ++ f.rest = cc in
          limit_first f.rest i g a b l.back tail (l.whole ∙ ap (λ x. b.used ++ x ∷ l.back) head)
      by (Behind l) = not_longest b.used (b.next ∷ b.after) a.used f.rest (b.next ∷ b.more) b.tree l a.longest b.begun
      by (Here e r) =
          let long : IsLongest Is a.used (b.next ∷ b.after) = subst (IsLongest Is a.used) r a.longest in
          long (begins_next a.used b.more b.next b.tree (subst (λ x. Is (x ++ b.next ∷ b.more) b.tree) (sym e) b.begun))

  alike_front : (back : List Token) (t : Token) (w w' : List Token) → Alike (back ++ t ∷ w) (back ++ t ∷ w')
  alike_front [] t w w' = alike.first t w w'
  alike_front (x ∷ back) t w w' = alike.first x (back ++ t ∷ w) (back ++ t ∷ w')

  -- what was decided at the end is decided by any tokens there
  pub alike_more : (back rest : List Token) → Alike back (back ++ rest)
  alike_more [] rest = alike.none rest
  alike_more (x ∷ back) rest = alike.first x back (back ++ rest)

  -- one limit stands before another
  earlier : (i : List Token) (f g : Fault) (a : IsLimitBy Alike Is fault_of i f) (b : IsLimitBy Alike Is fault_of i g) → Longer a.used (a.next ∷ a.after) b.used (b.next ∷ b.after) → ⊥
  unfolding fault_rest
  earlier i f g a b l =
      let last : b.next ∷ b.after ≡ l.first ∷ (l.back ++ a.next ∷ a.after) = l.last in
      let head : l.first ≡ b.next = cc in
      let tail : b.after ≡ l.back ++ a.next ∷ a.after = cc in
      let tree : Is (b.used ++ b.next ∷ (l.back ++ a.next ∷ a.more)) a.tree = subst (λ x. Is x a.tree) (ap (λ x. x ++ a.next ∷ a.more) (l.whole ∙ ap (λ x. b.used ++ x ∷ l.back) head) ∙ append_assoc b.used (b.next ∷ l.back) (a.next ∷ a.more)) a.begun in
      let there : fault_of a.tree ≡ Some (record { code = g.code; rest = b.next ∷ (l.back ++ a.next ∷ a.more) }) = b.each (l.back ++ a.next ∷ a.more) a.tree tree (λ _. subst (Alike (l.back ++ a.next ∷ a.more)) (sym tail) (alike_front l.back a.next a.more a.after)) in
      let size : length (a.next ∷ a.more) ≡ length (b.next ∷ (l.back ++ a.next ∷ a.more)) = ap (λ k. length (fault_rest k)) (sym a.first ∙ there) in
      omega (arith, length-append l.back (a.next ∷ a.more))

  code_here : (i : List Token) (f g : Fault) (a : IsLimitBy Alike Is fault_of i f) (b : IsLimitBy Alike Is fault_of i g) → a.used ≡ b.used → a.next ≡ b.next → (f.code ≡ too_deep → ⊥) → f.code ≡ g.code
  unfolding fault_code
  code_here i f g a b e n d =
      let tree : Is (a.used ++ a.next ∷ b.more) b.tree = subst (λ x. Is x b.tree) (sym (ap (λ x. x ++ a.next ∷ b.more) e ∙ ap (λ x. b.used ++ x ∷ b.more) n)) b.begun in
      let there : fault_of b.tree ≡ Some (record { code = f.code; rest = a.next ∷ b.more }) = a.each b.more b.tree tree (λ k. absurd (d k)) in
      ap fault_code (sym there ∙ b.first)

  pub two_limits : (i : List Token) (f g : Fault) → IsLimitBy Alike Is fault_of i f → IsLimitBy Alike Is fault_of i g → f ≡ g
  two_limits i f g a b = by (order i a.used (a.next ∷ a.after) b.used (b.next ∷ b.after) a.parts b.parts)
    where
      codes_same : (c d : Bool) → (f.code == too_deep) ≡ c → (g.code == too_deep) ≡ d → a.used ≡ b.used → a.next ≡ b.next → f.code ≡ g.code
      codes_same true true p q e n = equal_of f.code too_deep p ∙ sym (equal_of g.code too_deep q)
      codes_same false d p q e n = code_here i f g a b e n (unequal_of f.code too_deep p)
      codes_same true false p q e n = sym (code_here i g f b a (sym e) (sym n) (unequal_of g.code too_deep q))

      by : Order a.used (a.next ∷ a.after) b.used (b.next ∷ b.after) → f ≡ g
      by (Before l) = absurd (earlier i f g a b l)
      by (Behind l) = absurd (earlier i g f b a l)
      by (Here e r) =
          let n : a.next ≡ b.next = cc in
          same_fault f g (codes_same (f.code == too_deep) (g.code == too_deep) refl refl e n) (a.place ∙ r ∙ sym b.place)

-- ---- whole lists, for a grammar in which a list has at most one tree

module _ {A : Type 0} (Is : List Token → A → Type 0) (fault_of : A → Option Fault) (one : OneTreeOf Is) where
  no_fault_there : (k : Option Fault) (f : Fault) → k ≡ None → k ≡ Some f → ⊥
  no_fault_there k f p q = let bad : None ≡ Some f = sym p ∙ q in cc

  tree_refused : (i : List Token) (x : A) (g : Fault) → Is i x → fault_of x ≡ None → IsRefusedWhole Is fault_of i g → ⊥
  tree_refused i x g tree sound (inl h) = by g.rest h.1.parts h.1.longest h.1.early
    where
      by : (rest : List Token) → i ≡ h.1.used ++ rest → IsLongest Is h.1.used rest → AtEnd rest (NoTree Is h.1.used) → ⊥
      by [] parts long early = early x (subst (λ y. Is y x) (parts ∙ append-nil h.1.used) tree)
      by (next ∷ w) parts long early = long (begins_next assigned_decides Is fault_of h.1.used w next x (subst (λ y. Is y x) parts tree))
  tree_refused i x g tree sound (inr b) =
      let there : fault_of x ≡ Some (record { code = g.code; rest = b.next ∷ b.after }) = b.each b.after x (subst (λ y. Is y x) b.parts tree) (λ _ k. k) in
      no_fault_there (fault_of x) _ sound there

  two_refused : (i : List Token) (f g : Fault) → IsRefusedWhole Is fault_of i f → IsRefusedWhole Is fault_of i g → f ≡ g
  two_refused i f g (inl a) (inl b) = two_unexpected assigned_decides Is fault_of i f g a.0 b.0 a.1 b.1
  two_refused i f g (inl a) (inr b) = absurd (unexpected_limit assigned_decides Is fault_of i f g a.1 b)
  two_refused i f g (inr a) (inl b) = absurd (unexpected_limit assigned_decides Is fault_of i g f b.1 a)
  two_refused i f g (inr a) (inr b) = two_limits assigned_decides Is fault_of i f g a b

  ok : A → List Token → Outcome A
  ok x rest = Ok (x, rest)

  err : Fault → Outcome A
  err f = Err f

  pub one_whole_answer : OneWholeAnswer Is fault_of
  unfolding ok err
  one_whole_answer i (Ok p) (Ok q) a b = ap (λ x. ok x p.1) (one i p.0 q.0 a.1 b.1) ∙ ap (ok q.0) (a.0 ∙ sym b.0)
  one_whole_answer i (Ok p) (Err g) a b = absurd (tree_refused i p.0 g a.1 a.2 b)
  one_whole_answer i (Err f) (Ok q) a b = absurd (tree_refused i q.0 f b.1 b.2 a)
  one_whole_answer i (Err f) (Err g) a b = ap err (two_refused i f g a b)
