-- A name's rank among names in order, and what is found there.
use Rattle.std.proofs.Common.{◌≡◌, ℕ, zero, suc, ◌≤◌, ◌<◌, Bool, true, false, cond, List, [], ◌∷◌, length, Option, Some, None, refl, ap, ◌∙◌, arith}
use Rattle.std.specs.Prelude.{slice_get, insert}
use Rattle.std.proofs.lemmas.Bool.{false≢true}
use Rattle.std.specs.Cmp.{IsTotalOrder}
use Rattle.std.specs.declared.cmp.Ordering.{Ordering}
use Rattle.std.specs.declared.cmp.Ordering.TheVariants.{Less, Equal, Greater}
use Rattle.std.specs.Ordering.{is_eq, match_ordering, ordering_reverse}
use Rattle.shared_map.specs.Entries.{look, put, IsBelowAll, IsInOrder}
use Rattle.cic_rules.specs.Names.{is_less, stands_before, rank_of}

rank_by : (b : Bool) (n at : ℕ) → n ≤ at → cond b (suc n) zero ≤ suc at
rank_by true n at h = omega (arith, h)
rank_by false n at h = omega arith

module _ {K V : Type 0} (cmp : K → K → Ordering) where
  -- the rank is at most the place of an entry that is not below the key
  pub not_passed : (es : List (K × V)) (key : K) (at : ℕ) → at < length es → stands_before cmp (slice_get es at) key ≡ false → rank_of cmp es key ≤ at
  not_passed [] key at lt h = omega (arith, lt)
  not_passed (e ∷ es) key zero lt h = rw h (omega arith)
  not_passed (e ∷ es) key (suc at) lt h = rank_by (is_less (cmp e.0 key)) (rank_of cmp es key) at (not_passed es key at (omega (arith, lt)) h)

  -- .. and at most the length
  pub rank_within : (es : List (K × V)) (key : K) → rank_of cmp es key ≤ length es
  rank_within [] key = omega arith
  rank_within (e ∷ es) key = rank_by (is_less (cmp e.0 key)) (rank_of cmp es key) (length es) (rank_within es key)

less_is : (o : Ordering) → is_less o ≡ true → o ≡ Less
less_is Less h = refl
less_is Equal h = absurd (false≢true h)
less_is Greater h = absurd (false≢true h)

-- what is found at the rank, where its key is equal
abbrev pub found : {K V : Type 0} → (K → K → Ordering) → K → Option (K × V) → Option V
found cmp key None = None
found cmp key (Some e) = cond (is_eq (cmp key e.0)) (Some e.1) None

module _ {K V : Type 0} (cmp : K → K → Ordering) (o : IsTotalOrder cmp) where
  first_passes : (k key : K) (es : List (K × V)) (at : ℕ) → IsBelowAll cmp k es → stands_before cmp (slice_get es at) key ≡ true → cmp k key ≡ Less
  first_passes k key [] at below h = absurd (false≢true h)
  first_passes k key (e ∷ es) zero below h = o.trans k e.0 key below.0 (less_is (cmp e.0 key) h)
  first_passes k key (e ∷ es) (suc at) below h = first_passes k key es at below.1 h

  -- the rank is behind each entry that is below the key
  pub passed : (es : List (K × V)) (key : K) (at : ℕ) → IsInOrder cmp es → stands_before cmp (slice_get es at) key ≡ true → at < rank_of cmp es key
  passed [] key at order h = absurd (false≢true h)
  passed (e ∷ es) key zero order h = rw h (omega arith)
  passed (e ∷ es) key (suc at) order h =
      let first : cmp e.0 key ≡ Less = first_passes e.0 key es at order.0 h in
      let later : at < rank_of cmp es key = passed es key at order.1 h in
      rw first (omega (arith, later))

  absent : (k key : K) (es : List (K × V)) → cmp key k ≡ Less → IsBelowAll cmp k es → look cmp es key ≡ None
  absent k key [] h below = refl
  absent k key (e ∷ es) h below = rw (o.trans key k e.0 h below.0) (absent k key es h below.1)

  look_rank_by : (r : Ordering) (e : K × V) (es : List (K × V)) (key : K) → cmp e.0 key ≡ r → IsInOrder cmp (e ∷ es) → look cmp es key ≡ found cmp key (slice_get es (rank_of cmp es key)) → cond (is_eq (cmp key e.0)) (Some e.1) (look cmp es key) ≡ found cmp key (slice_get (e ∷ es) (cond (is_less r) (suc (rank_of cmp es key)) zero))
  look_rank_by Less e es key h order later = rw (o.antisymm key e.0 ∙ ap ordering_reverse h) later
  look_rank_by Equal e es key h order later = rw (o.antisymm key e.0 ∙ ap ordering_reverse h) refl
  look_rank_by Greater e es key h order later =
      let below : cmp key e.0 ≡ Less = o.antisymm key e.0 ∙ ap ordering_reverse h in
      rw below (absent e.0 key es below order.0)

  -- a key is found at its rank or nowhere
  pub look_rank : (es : List (K × V)) (key : K) → IsInOrder cmp es → look cmp es key ≡ found cmp key (slice_get es (rank_of cmp es key))
  look_rank [] key order = refl
  look_rank (e ∷ es) key order = look_rank_by (cmp e.0 key) e es key refl order (look_rank es key order.1)

  insert_rank_by : (r : Ordering) (e new : K × V) (es : List (K × V)) → cond (is_eq (ordering_reverse r)) (Some e.1) (look cmp es new.0) ≡ None → (look cmp es new.0 ≡ None → insert es (rank_of cmp es new.0) new ≡ put cmp es new) → insert (e ∷ es) (cond (is_less r) (suc (rank_of cmp es new.0)) zero) new ≡ match_ordering (ordering_reverse r) (new ∷ e ∷ es) (new ∷ es) (e ∷ put cmp es new)
  insert_rank_by Less e new es none later = ap (λ more. e ∷ more) (later none)
  insert_rank_by Equal e new es none later = cc
  insert_rank_by Greater e new es none later = refl

  -- an entry of a new key is put at its rank
  pub insert_rank : (es : List (K × V)) (new : K × V) → look cmp es new.0 ≡ None → insert es (rank_of cmp es new.0) new ≡ put cmp es new
  insert_rank [] new none = refl
  insert_rank (e ∷ es) new none =
      let turned : cmp new.0 e.0 ≡ ordering_reverse (cmp e.0 new.0) = o.antisymm new.0 e.0 in
      let absent : cond (is_eq (ordering_reverse (cmp e.0 new.0))) (Some e.1) (look cmp es new.0) ≡ None = rw (← turned) none in
      rw turned (insert_rank_by (cmp e.0 new.0) e new es absent (insert_rank es new))
