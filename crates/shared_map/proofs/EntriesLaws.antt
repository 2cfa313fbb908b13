-- What is found in entries whose keys rise, and after one more is put there.
use Rattle.std.proofs.Common.{◌≡◌, Bool, true, false, cond, List, [], ◌∷◌, ◌++◌, Option, Some, None, refl, sym, ap, ◌∙◌}
use Rattle.std.proofs.lemmas.Bool.{false≢true}
use Rattle.std.proofs.lemmas.Cmp.{alike_right}
use Rattle.std.specs.Cmp.{IsTotalOrder}
use Rattle.std.specs.declared.cmp.Ordering.{Ordering}
use Rattle.std.specs.declared.cmp.Ordering.TheVariants.{Less, Equal, Greater}
use Rattle.std.specs.Ordering.{is_eq, match_ordering, ordering_reverse}
use Rattle.shared_map.specs.Entries.{look, put, IsBelowAll, IsInOrder, PutsOnly}

module _ {K : Type 0} (cmp : K → K → Ordering) (o : IsTotalOrder cmp) where
  turned : (a b : K) → cmp a b ≡ Less → cmp b a ≡ Greater
  turned a b h = o.antisymm b a ∙ ap ordering_reverse h

  turned_back : (a b : K) → cmp a b ≡ Greater → cmp b a ≡ Less
  turned_back a b h = o.antisymm b a ∙ ap ordering_reverse h

-- of two entries of different keys either may be looked at first
look_swap : {A : Type 0} (r s : Ordering) (a b found : A) → (r ≡ Equal → s ≡ Equal → a ≡ b) → cond (is_eq r) a (cond (is_eq s) b found) ≡ cond (is_eq s) b (cond (is_eq r) a found)
look_swap Equal Equal a b found h = h refl refl
look_swap Equal Less a b found h = refl
look_swap Equal Greater a b found h = refl
look_swap Less s a b found h = refl
look_swap Greater s a b found h = refl

look_over : {A : Type 0} (r s : Ordering) (a b found : A) → r ≡ s → cond (is_eq r) a found ≡ cond (is_eq r) a (cond (is_eq s) b found)
look_over Less s a b found h = rw (← h) refl
look_over Equal s a b found h = refl
look_over Greater s a b found h = rw (← h) refl

module _ {K V : Type 0} (cmp : K → K → Ordering) where
  below_front : (key : K) (left : List (K × V)) (e : K × V) (right : List (K × V)) → IsBelowAll cmp key (left ++ (e ∷ right)) → IsBelowAll cmp key left
  below_front key [] e right h = tt
  below_front key (x ∷ left) e right h = (h.0, below_front key left e right h.1)

  below_here : (key : K) (left : List (K × V)) (e : K × V) (right : List (K × V)) → IsBelowAll cmp key (left ++ (e ∷ right)) → cmp key e.0 ≡ Less
  below_here key [] e right h = h.0
  below_here key (x ∷ left) e right h = below_here key left e right h.1

  pub in_order_front : (left : List (K × V)) (e : K × V) (right : List (K × V)) → IsInOrder cmp (left ++ (e ∷ right)) → IsInOrder cmp left
  in_order_front [] e right h = tt
  in_order_front (x ∷ left) e right h = (below_front x.0 left e right h.0, in_order_front left e right h.1)

  pub in_order_back : (left : List (K × V)) (e : K × V) (right : List (K × V)) → IsInOrder cmp (left ++ (e ∷ right)) → IsInOrder cmp right
  in_order_back [] e right h = h.1
  in_order_back (x ∷ left) e right h = in_order_back left e right h.1

  -- no entry of a greater key is found
  look-below : (key : K) (es : List (K × V)) → IsBelowAll cmp key es → look cmp es key ≡ None
  look-below key [] h = refl
  look-below key (e ∷ es) h = rw h.0 (look-below key es h.1)

  put_by-append : (o : Ordering) (new x : K × V) (left rest more : List (K × V)) → match_ordering o (new ∷ x ∷ (left ++ rest)) (new ∷ (left ++ rest)) (x ∷ (more ++ rest)) ≡ match_ordering o (new ∷ x ∷ left) (new ∷ left) (x ∷ more) ++ rest
  put_by-append Less new x left rest more = refl
  put_by-append Equal new x left rest more = refl
  put_by-append Greater new x left rest more = refl

  pub put-left : (new : K × V) (left : List (K × V)) (e : K × V) (right : List (K × V)) → cmp new.0 e.0 ≡ Less → put cmp (left ++ (e ∷ right)) new ≡ put cmp left new ++ (e ∷ right)
  put-left new [] e right h = rw h refl
  put-left new (x ∷ left) e right h =
      ap (λ more. match_ordering (cmp new.0 x.0) (new ∷ x ∷ (left ++ (e ∷ right))) (new ∷ (left ++ (e ∷ right))) (x ∷ more)) (put-left new left e right h)
      ∙ put_by-append (cmp new.0 x.0) new x left (e ∷ right) (put cmp left new)

  module _ (o : IsTotalOrder cmp) where
    below_all : (a b : K) (es : List (K × V)) → cmp a b ≡ Less → IsBelowAll cmp b es → IsBelowAll cmp a es
    below_all a b [] h below = tt
    below_all a b (e ∷ es) h below = (o.trans a b e.0 h below.0, below_all a b es h below.1)

    alike_all : (a b : K) (es : List (K × V)) → cmp a b ≡ Equal → IsBelowAll cmp b es → IsBelowAll cmp a es
    alike_all a b [] h below = tt
    alike_all a b (e ∷ es) h below = (o.congr a b e.0 h ∙ below.0, alike_all a b es h below.1)

    -- what stands before an entry is below each key that the entry does not pass
    above_tied : (key : K) (x e : K × V) → cmp x.0 e.0 ≡ Less → cmp key e.0 ≡ Equal → cmp key x.0 ≡ Greater
    above_tied key x e below h = turned cmp o x.0 key (alike_right o key e.0 x.0 h ∙ below)

    above_more : (key : K) (x e : K × V) → cmp x.0 e.0 ≡ Less → cmp key e.0 ≡ Greater → cmp key x.0 ≡ Greater
    above_more key x e below h = turned cmp o x.0 key (o.trans x.0 e.0 key below (turned_back cmp o key e.0 h))

    pub look-left : (key : K) (left : List (K × V)) (e : K × V) (right : List (K × V)) → IsInOrder cmp (left ++ (e ∷ right)) → cmp key e.0 ≡ Less → look cmp (left ++ (e ∷ right)) key ≡ look cmp left key
    look-left key [] e right order h = rw h (look-below key right (below_all key e.0 right h order.0))
    look-left key (x ∷ left) e right order h = ap (λ found. cond (is_eq (cmp key x.0)) (Some x.1) found) (look-left key left e right order.1 h)

    pub look-here : (key : K) (left : List (K × V)) (e : K × V) (right : List (K × V)) → IsInOrder cmp (left ++ (e ∷ right)) → cmp key e.0 ≡ Equal → look cmp (left ++ (e ∷ right)) key ≡ Some e.1
    look-here key [] e right order h = rw h refl
    look-here key (x ∷ left) e right order h = rw (above_tied key x e (below_here x.0 left e right order.0) h) (look-here key left e right order.1 h)

    pub look-right : (key : K) (left : List (K × V)) (e : K × V) (right : List (K × V)) → IsInOrder cmp (left ++ (e ∷ right)) → cmp key e.0 ≡ Greater → look cmp (left ++ (e ∷ right)) key ≡ look cmp right key
    look-right key [] e right order h = rw h refl
    look-right key (x ∷ left) e right order h = rw (above_more key x e (below_here x.0 left e right order.0) h) (look-right key left e right order.1 h)

    pub put-here : (new : K × V) (left : List (K × V)) (e : K × V) (right : List (K × V)) → IsInOrder cmp (left ++ (e ∷ right)) → cmp new.0 e.0 ≡ Equal → put cmp (left ++ (e ∷ right)) new ≡ left ++ (new ∷ right)
    put-here new [] e right order h = rw h refl
    put-here new (x ∷ left) e right order h = rw (above_tied new.0 x e (below_here x.0 left e right order.0) h) (ap (λ more. x ∷ more) (put-here new left e right order.1 h))

    pub put-right : (new : K × V) (left : List (K × V)) (e : K × V) (right : List (K × V)) → IsInOrder cmp (left ++ (e ∷ right)) → cmp new.0 e.0 ≡ Greater → put cmp (left ++ (e ∷ right)) new ≡ left ++ (e ∷ put cmp right new)
    put-right new [] e right order h = rw h refl
    put-right new (x ∷ left) e right order h = rw (above_more new.0 x e (below_here x.0 left e right order.0) h) (ap (λ more. x ∷ more) (put-right new left e right order.1 h))

    below_put_by : (key : K) (r : Ordering) (new e : K × V) (es more : List (K × V)) → cmp key new.0 ≡ Less → IsBelowAll cmp key (e ∷ es) → IsBelowAll cmp key more → IsBelowAll cmp key (match_ordering r (new ∷ e ∷ es) (new ∷ es) (e ∷ more))
    below_put_by key Less new e es more h below later = (h, below)
    below_put_by key Equal new e es more h below later = (h, below.1)
    below_put_by key Greater new e es more h below later = (below.0, later)

    below-put : (key : K) (es : List (K × V)) (new : K × V) → cmp key new.0 ≡ Less → IsBelowAll cmp key es → IsBelowAll cmp key (put cmp es new)
    below-put key [] new h below = (h, tt)
    below-put key (e ∷ es) new h below = below_put_by key (cmp new.0 e.0) new e es (put cmp es new) h below (below-put key es new h below.1)

    in_order_put_by : (r : Ordering) (new e : K × V) (es : List (K × V)) → cmp new.0 e.0 ≡ r → IsInOrder cmp (e ∷ es) → IsInOrder cmp (put cmp es new) → IsInOrder cmp (match_ordering r (new ∷ e ∷ es) (new ∷ es) (e ∷ put cmp es new))
    in_order_put_by Less new e es h order later = ((h, below_all new.0 e.0 es h order.0), order)
    in_order_put_by Equal new e es h order later = (alike_all new.0 e.0 es h order.0, order.1)
    in_order_put_by Greater new e es h order later = (below-put e.0 es new (turned_back cmp o new.0 e.0 h) order.0, later)

    -- a put keeps the order
    pub in_order-put : (es : List (K × V)) (new : K × V) → IsInOrder cmp es → IsInOrder cmp (put cmp es new)
    in_order-put [] new order = (tt, tt)
    in_order-put (e ∷ es) new order = in_order_put_by (cmp new.0 e.0) new e es refl order (in_order-put es new order.1)

    look_put_by : (r : Ordering) (new e : K × V) (es : List (K × V)) (key : K) → cmp new.0 e.0 ≡ r → look cmp (put cmp es new) key ≡ cond (is_eq (cmp key new.0)) (Some new.1) (look cmp es key) → look cmp (match_ordering r (new ∷ e ∷ es) (new ∷ es) (e ∷ put cmp es new)) key ≡ cond (is_eq (cmp key new.0)) (Some new.1) (look cmp (e ∷ es) key)
    look_put_by Less new e es key h later = refl
    look_put_by Equal new e es key h later = look_over (cmp key new.0) (cmp key e.0) (Some new.1) (Some e.1) (look cmp es key) (alike_right o new.0 e.0 key h)
    look_put_by Greater new e es key h later =
        let apart : cmp key e.0 ≡ Equal → cmp key new.0 ≡ Equal → Some e.1 ≡ Some new.1 =
        λ (p : cmp key e.0 ≡ Equal) (q : cmp key new.0 ≡ Equal). absurd (false≢true (ap is_eq (sym h ∙ sym (o.congr key new.0 e.0 q) ∙ p))) in
        ap (λ found. cond (is_eq (cmp key e.0)) (Some e.1) found) later
        ∙ look_swap (cmp key e.0) (cmp key new.0) (Some e.1) (Some new.1) (look cmp es key) apart

    -- what is found after a put: no order of the list is needed
    pub look-put : (es : List (K × V)) (key : K) (value : V) → PutsOnly cmp es (put cmp es (key, value)) key value
    look-put [] key value other = refl
    look-put (e ∷ es) key value other = look_put_by (cmp key e.0) (key, value) e es other refl (look-put es key value other)

    not_found : (t : Bool) (value : V) (later : Option V) → cond t (Some value) later ≡ None → (t ≡ false) × (later ≡ None)
    not_found true value later h = cc
    not_found false value later h = (refl, h)

    -- an entry of a new key after all others is found as if it were put
    pub look-last : (es : List (K × V)) (key : K) (value : V) → look cmp es key ≡ None → PutsOnly cmp es (es ++ ((key, value) ∷ [])) key value
    look-last [] key value none other = refl
    look-last (e ∷ es) key value none other =
        let passed = not_found (is_eq (cmp key e.0)) e.1 (look cmp es key) none in
        let apart : cmp other e.0 ≡ Equal → cmp other key ≡ Equal → Some e.1 ≡ Some value =
        λ (p : cmp other e.0 ≡ Equal) (q : cmp other key ≡ Equal). absurd (false≢true (sym passed.0 ∙ ap is_eq (sym (o.congr other key e.0 q) ∙ p))) in
        ap (λ found. cond (is_eq (cmp other e.0)) (Some e.1) found) (look-last es key value passed.1 other)
        ∙ look_swap (cmp other e.0) (cmp other key) (Some e.1) (Some value) (look cmp es other) apart
