-- The answer to a list, by the answer to what stands behind its first tokens.
use Rattle.std.proofs.Common.{◌≡◌, ℕ, inl, inr, Option, None, Err, List, [], ◌∷◌, ◌++◌, length, take, drop, refl, sym, ◌∙◌, ap, subst, append_assoc, append-nil}
use Rattle.base_core.specs.declared.refusals.Stop.{Stop}
use Rattle.base_core.specs.declared.refusals.Stop.TheVariants as stop
use Rattle.coq_syntax.specs.declared.token.Token.{Token}
use Rattle.coq_syntax.specs.Tokens.{Tokens}
use Rattle.coq_syntax.specs.Faults.{Fault}
use Rattle.coq_syntax.specs.Refusals.{IsBehind, IsAssigned, IsLongest, NoTree, AtEnd, IsUnexpected, IsLimit}
use Rattle.coq_syntax.specs.MeetsWhole.{IsRefusedWhole}
use Rattle.move_parser.specs.declared.cursor.Halt.{Halt}
use Rattle.move_parser.specs.declared.cursor.Halt.TheVariants.{Unexpected, NoMem}
use Rattle.move_parser.specs.Parts.{IsPart, IsTail}

-- The trees of a list that begins with `front` are those of a part behind it, where the part begins as `l` does.
pub record Behind {A B : Type 0} (Is : List Token → A → Type 0) (fault : A → Option Fault) (Part : List Token → B → Type 0) (part_fault : B → Option Fault) (front l : List Token) (build : B → A) : Type 0 where
  pub into : (i : List Token) (x : B) → Part i x → Is (front ++ i) (build x)
  pub back : (i : List Token) (y : A) → take 1 i ≡ take 1 l → Is (front ++ i) y → (x : B) × Part i x × (y ≡ build x)
  pub same : (x : B) → fault (build x) ≡ part_fault x
  -- where nothing of the part was read, the faults of other trees are no earlier either
  pub elsewhere : (i : List Token) (y : A) → Is (front ++ i) y → (IsAssigned l → IsAssigned i) → ((j : List Token) (x : B) → Part j x → (IsAssigned l → IsAssigned j) → IsBehind (length j) (part_fault x)) → IsBehind (length i) (fault y)

-- lists that begin alike
alike : (l used : List Token) (t : Token) (after more : List Token) → l ≡ used ++ t ∷ after → take 1 (used ++ t ∷ more) ≡ take 1 l
alike l [] t after more e = sym (ap (take 1) e)
alike l (u ∷ used) t after more e = sym (ap (take 1) e)

at_end : (rest : List Token) (P Q : Type 0) → (rest ≡ [] → P → Q) → AtEnd rest P → AtEnd rest Q
at_end [] P Q f h = f refl h
at_end (t ∷ w) P Q f h = tt

module _ {A B : Type 0} (Is : List Token → A → Type 0) (fault : A → Option Fault) (Part : List Token → B → Type 0) (part_fault : B → Option Fault) (front l : List Token) (build : B → A) (b : Behind Is fault Part part_fault front l build) where
  longest_behind : (used rest : List Token) → l ≡ used ++ rest → IsLongest Part used rest → IsLongest Is (front ++ used) rest
  longest_behind used [] e h = tt
  longest_behind used (t ∷ w) e h = λ begun.
      let more : List Token = begun.0 in
      let whole : ((front ++ used) ++ t ∷ []) ++ more ≡ front ++ (used ++ t ∷ more) = append_assoc (front ++ used) (t ∷ []) more ∙ append_assoc front used (t ∷ more) in
      let x = b.back (used ++ t ∷ more) begun.1 (alike l used t w more e) (subst (λ i. Is i begun.1) whole begun.2) in
      h (more, x.0, subst (λ i. Part i x.0) (sym (append_assoc used (t ∷ []) more)) x.1)

  each_behind : (used rest : List Token) → l ≡ used ++ rest → ((others : List Token) (x : B) → Part (used ++ others) x → (IsAssigned rest → IsAssigned others) → IsBehind (length others) (part_fault x)) → (others : List Token) (y : A) → Is (front ++ (used ++ others)) y
      → (IsAssigned rest → IsAssigned others) → IsBehind (length others) (fault y)
  each_behind [] rest e h others y is a = b.elsewhere others y is (λ k. a (subst IsAssigned e k)) (λ j x part k. h j x part (λ m. k (subst IsAssigned (sym e) m)))
  each_behind (u ∷ used) rest e h others y is a =
      let x = b.back (u ∷ (used ++ others)) y (sym (ap (take 1) e)) is in
      subst (IsBehind (length others)) (sym (ap fault x.2 ∙ b.same x.0)) (h others x.0 x.1 a)

  pub unexpected_behind : (rest : List Token) → IsUnexpected Part part_fault l rest → IsUnexpected Is fault (front ++ l) rest
  unexpected_behind rest u = record {
    used = front ++ u.used;
    parts = ap (λ i. front ++ i) u.parts ∙ sym (append_assoc front u.used rest);
    more = u.more;
    tree = build u.tree;
    begun = subst (λ i. Is i (build u.tree)) (sym (append_assoc front u.used u.more)) (b.into (u.used ++ u.more) u.tree u.begun);
    sound = subst (IsBehind (length u.more)) (sym (b.same u.tree)) u.sound;
    each = λ others y h a. each_behind u.used rest u.parts u.each others y (subst (λ i. Is i y) (append_assoc front u.used others) h) a;
    longest = longest_behind u.used rest u.parts u.longest;
    early = at_end rest (NoTree Part u.used) (NoTree Is (front ++ u.used)) (λ none no_part y h.
        let x = b.back u.used y (ap (take 1) (sym (u.parts ∙ ap (λ i. u.used ++ i) none ∙ append-nil u.used))) h in no_part x.0 x.1) u.early;
  }

  limit_behind : (f : Fault) → IsLimit Part part_fault l f → IsLimit Is fault (front ++ l) f
  limit_behind f u = record {
    used = front ++ u.used;
    next = u.next;
    after = u.after;
    parts = ap (λ i. front ++ i) u.parts ∙ sym (append_assoc front u.used (u.next ∷ u.after));
    place = u.place;
    more = u.more;
    tree = build u.tree;
    begun = subst (λ i. Is i (build u.tree)) (sym (append_assoc front u.used (u.next ∷ u.more))) (b.into (u.used ++ u.next ∷ u.more) u.tree u.begun);
    first = b.same u.tree ∙ u.first;
    each = λ others y h deep.
        let x = b.back (u.used ++ u.next ∷ others) y (alike l u.used u.next u.after others u.parts) (subst (λ i. Is i y) (append_assoc front u.used (u.next ∷ others)) h) in
        ap fault x.2 ∙ b.same x.0 ∙ u.each others x.0 x.1 deep;
  }

  pub refused_behind : (f : Fault) → IsRefusedWhole Part part_fault l f → IsRefusedWhole Is fault (front ++ l) f
  refused_behind f (inl h) = inl (h.0, unexpected_behind f.rest h.1)
  refused_behind f (inr h) = inr (limit_behind f h)

  pub read_behind : (x : B) → Part l x → part_fault x ≡ None → Is (front ++ l) (build x) × (fault (build x) ≡ None)
  read_behind x h n = (b.into l x h, b.same x ∙ n)

  -- a part that halted
  pub part_halted : {C D : Type 0} (view : C → B) (seen : D → A) (i : List Token) (e : Halt) → i ≡ front ++ l → IsPart Part part_fault view l (Err e) → IsPart Is fault seen i (Err e)
  part_halted view seen i (Unexpected left) s h = subst (λ j. IsUnexpected Is fault j left.now) (sym s) (unexpected_behind left.now h)
  part_halted view seen i NoMem s h = tt

  -- a part that stopped
  pub tail_stopped : {C D : Type 0} (view : C → B) (seen : D → A) (tokens : Tokens) (at from : ℕ) (e : Stop) → drop from tokens.items ≡ l → drop at tokens.items ≡ front ++ l → IsTail Part part_fault view tokens from (Err e) → IsTail Is fault seen tokens at (Err e)
  tail_stopped view seen tokens at from (stop.Refused r) k s h = (h.0, subst (λ j. IsRefusedWhole Is fault j h.0) (sym s) (refused_behind h.0 (subst (λ j. IsRefusedWhole Part part_fault j h.0) k h.1)), h.2)
  tail_stopped view seen tokens at from (stop.Out limit) k s h = h
  tail_stopped view seen tokens at from stop.NoMem k s h = tt

-- the next token is unexpected where no part begins with it, though there are parts; at the end nothing is one
pub unexpected_here : {A : Type 0} (Is : List Token → A → Type 0) (fault : A → Option Fault) (l more : List Token) (tree : A) → Is more tree → ((i : List Token) (y : A) → Is i y → IsBehind (length i) (fault y)) → ((i : List Token) (y : A) → take 1 i ≡ take 1 l → Is i y → ⊥) → IsUnexpected Is fault l l
unexpected_here {A} Is fault l more tree h s none = record {
  used = [];
  parts = refl;
  more = more;
  tree = tree;
  begun = h;
  sound = s more tree h;
  each = λ others y is a. s others y is;
  longest = by l none;
  early = ends l none;
}
  where
    by : (i : List Token) → ((j : List Token) (y : A) → take 1 j ≡ take 1 i → Is j y → ⊥) → IsLongest Is [] i
    by [] f = tt
    by (t ∷ w) f = λ begun. f (t ∷ begun.0) begun.1 refl begun.2

    ends : (i : List Token) → ((j : List Token) (y : A) → take 1 j ≡ take 1 i → Is j y → ⊥) → AtEnd i (NoTree Is [])
    ends [] f = λ y k. f [] y refl k
    ends (t ∷ w) f = tt
