-- Keys that are the same, and the number of a key.
use Rattle.std.proofs.Common.{◌≡◌, ℕ, Bool, true, false, List, [], ◌∷◌, Some, None, Contains, refl, sym, ap, ◌∙◌, subst, inl, inr}
use Rattle.std.proofs.lemmas.Bool.{eqb-true, eq-eqb, and_parts}
use Rattle.std.proofs.lemmas.Slice.Eq.{bytes_eq-Decides}
use Rattle.base_core.specs.declared.kind.Kind.{Kind}
use Rattle.base_core.specs.declared.kind.Kind.TheVariants.{Plain, Bullet, BraceOpen, BraceClose, Unfinished}
use Rattle.base_core.specs.contracts.kind.KindPartialEq.TheImpl as kinds
use Rattle.lru.proofs.Splits.{Contains-head, Contains-tail, Contains-cons, Contains-nil}
use Rattle.memo_table.specs.declared.key.Key.{Key}
use Rattle.memo_table.specs.declared.slots.Entry.{Entry}
use Rattle.memo_table.specs.Entries.{same_key, number_of}

kinds_same : (k e : Kind) → kinds.ghosts.eq k e ≡ true → k ≡ e
kinds_same Plain Plain h = refl
kinds_same Bullet Bullet h = refl
kinds_same BraceOpen BraceOpen h = refl
kinds_same BraceClose BraceClose h = refl
kinds_same Unfinished Unfinished h = refl
kinds_same _ _ h = cc

kinds_refl : (k : Kind) → kinds.ghosts.eq k k ≡ true
kinds_refl Plain = refl
kinds_refl Bullet = refl
kinds_refl BraceOpen = refl
kinds_refl BraceClose = refl
kinds_refl Unfinished = refl

made_key : ℕ → Kind → List ℕ → Key
made_key from kind text = record { from = from; kind = kind; text = text }

-- keys that the test takes for the same are the same
pub key_same : (k e : Key) → same_key k e ≡ true → k ≡ e
unfolding made_key
key_same k e h = let p = and_parts _ _ h in let q = and_parts _ _ p.1 in
    let from : k.from ≡ e.from = eqb-true k.from e.from p.0 in
    let kind : k.kind ≡ e.kind = kinds_same k.kind e.kind q.0 in
    let text : k.text ≡ e.text = (bytes_eq-Decides k.text e.text).0 q.1 in
    ap (λ n. made_key n k.kind k.text) from ∙ ap (λ x. made_key e.from x k.text) kind ∙ ap (λ t. made_key e.from e.kind t) text

pub key_refl : (k : Key) → same_key k k ≡ true
key_refl k = rw (eq-eqb k.from k.from refl, kinds_refl k.kind, (bytes_eq-Decides k.text k.text).1 refl) refl

pub apart : (b : Bool) → (b ≡ true → ⊥) → b ≡ false
apart true h = absurd (h refl)
apart false h = refl

module _ {M : Type 0} (key : Key) where
  -- no entry has the key
  pub number_none : (es : List (ℕ × Entry M)) → ((e : ℕ × Entry M) → Contains es e → same_key key e.1.key ≡ true → ⊥) → None ≡ number_of key es
  number_none [] h = refl
  number_none (e ∷ es) h = rw (apart _ (h e (Contains-head e es)), number_none es (λ f c. h f (Contains-tail e es f c)))

  -- one has it, and whichever has it has this number
  pub number_some : (n : ℕ) (es : List (ℕ × Entry M)) → ((e : ℕ × Entry M) → Contains es e → same_key key e.1.key ≡ true → e.0 ≡ n)
      → (e : ℕ × Entry M) → Contains es e → same_key key e.1.key ≡ true → Some n ≡ number_of key es
  number_some n [] h e c s = absurd (Contains-nil e c)
  number_some n (f ∷ es) h e c s = (elim (same_key key f.1.key) as (λ b. same_key key f.1.key ≡ b → Some n ≡ number_of key (f ∷ es)) [
    | true ↦ λ t. rw (t, h f (Contains-head f es) t) refl
    | false ↦ λ t. rw t (elim (Contains-cons f es e c) [
      | inl same ↦ let bad : true ≡ false = sym s ∙ ap (λ x. same_key key x.1.key) (sym same) ∙ t in cc
      | inr d ↦ number_some n es (λ x d. h x (Contains-tail f es x d)) e d s
    ])
  ]) refl

  -- where no entry is found, none has the key
  pub none_has : (es : List (ℕ × Entry M)) → number_of key es ≡ None → (e : ℕ × Entry M) → Contains es e → same_key key e.1.key ≡ false
  none_has [] h e c = absurd (Contains-nil e c)
  none_has (f ∷ es) h e c = (elim (same_key key f.1.key) as (λ b. same_key key f.1.key ≡ b → same_key key e.1.key ≡ false) [
    | true ↦ λ t. let bad = rw t at h in cc
    | false ↦ λ t. elim (Contains-cons f es e c) [
      | inl same ↦ subst (λ x. same_key key x.1.key ≡ false) same t
      | inr d ↦ none_has es (rw t at h) e d
    ]
  ]) refl
