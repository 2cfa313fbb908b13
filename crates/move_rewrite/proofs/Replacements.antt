-- A new variable in place of a subterm: sizes and scope.
use Rattle.std.specs.Prelude.{◌≡◌, ℕ, suc, ◌+◌, ◌^◌, ◌<◌, ◌≤◌, nat_le, Bool, true, false, Result, Ok, refl, if◌then◌else◌}
use Rattle.std.proofs.Common.{subst, sym, ap, ◌∙◌, arith}
use Rattle.std.proofs.lemmas.Bool.Decides.{nat_tests}
use Rattle.core_term.specs.Answers.{within_limits, Gives}
use Rattle.core_term.specs.declared.stops.TermStop.{TermStop}
use Rattle.core_term.specs.Places.{lift_of, subst_of}
use Rattle.core_term.specs.Tree.{Tree, Var, Sorted, Constant, Prod, Lam, LetIn, App, IsTerm, IsNumbered, size_of, depth_of, free_bound, same_tree}
use Rattle.core_term.proofs.Bounds.{size-lifted}
use Rattle.core_term.proofs.Equality.{same_tree-apart}
use Rattle.core_term.proofs.FreeVariables.{numbered-substituted}
use Rattle.cic_rules.specs.Scopes.{IsScoped}
use Rattle.cic_rules.proofs.ScopeLaws.{scoped_free, scoped_subst}
use Rattle.move_rewrite.specs.Replacement.{abstracted, abstracted_parts}

-- a term is compared first
pub abstracted_is : (u t : Tree) (binders : ℕ) →
    abstracted u t binders ≡ (if same_tree t (lift_of u binders 0) then Var binders else abstracted_parts u t binders)
abstracted_is u (Var i) binders = refl
abstracted_is u (Sorted s) binders = refl
abstracted_is u (Constant c) binders = refl
abstracted_is u (Prod n a b) binders = refl
abstracted_is u (Lam n a b) binders = refl
abstracted_is u (LetIn n a t b) binders = refl
abstracted_is u (App f a) binders = refl

pub here : (u t : Tree) (binders : ℕ) → same_tree t (lift_of u binders 0) ≡ true → Var binders ≡ abstracted u t binders
here u t binders is = sym (abstracted_is u t binders ∙ ap (λ b. if b then Var binders else abstracted_parts u t binders) is)

pub not_here : (u t : Tree) (binders : ℕ) → same_tree t (lift_of u binders 0) ≡ false → abstracted_parts u t binders ≡ abstracted u t binders
not_here u t binders is = sym (abstracted_is u t binders ∙ ap (λ b. if b then Var binders else abstracted_parts u t binders) is)

pub here_gives : (u t : Tree) (binders : ℕ) (result : Result Tree TermStop) → same_tree t (lift_of u binders 0) ≡ true →
    Gives result (within_limits (Var binders)) → Gives result (within_limits (abstracted u t binders))
here_gives u t binders result is gives = subst (λ (v : Tree). Gives result (within_limits v)) (here u t binders is) gives

pub parts_give : (u t : Tree) (binders : ℕ) (result : Result Tree TermStop) → same_tree t (lift_of u binders 0) ≡ false →
    Gives result (within_limits (abstracted_parts u t binders)) → Gives result (within_limits (abstracted u t binders))
parts_give u t binders result is gives = subst (λ (v : Tree). Gives result (within_limits v)) (not_here u t binders is) gives

pub sizes_apart : (u t : Tree) (binders : ℕ) → (size_of t ≡ size_of u → ⊥) → false ≡ same_tree t (lift_of u binders 0)
sizes_apart u t binders apart = same_tree-apart t (lift_of u binders 0) (λ same. apart (same ∙ size-lifted u binders 0))

-- it is no larger, and no deeper
size_by : (b : Bool) (k n : ℕ) (t : Tree) → size_of t ≤ n → 1 ≤ n → size_of (if b then Var k else t) ≤ n
size_by true k n t le some = some
size_by false k n t le some = le

depth_by : (b : Bool) (k n : ℕ) (t : Tree) → depth_of t ≤ n → 1 ≤ n → depth_of (if b then Var k else t) ≤ n
depth_by true k n t le some = some
depth_by false k n t le some = le

abstracted_size : (u t : Tree) (k : ℕ) → size_of (abstracted u t k) ≤ size_of t
abstracted_size u (Var i) k = size_by (same_tree (Var i) (lift_of u k 0)) k _ (lift_of (Var i) 1 k) (omega arith) (omega arith)
abstracted_size u (Sorted s) k = size_by (same_tree (Sorted s) (lift_of u k 0)) k _ (Sorted s) (omega arith) (omega arith)
abstracted_size u (Constant c) k = size_by (same_tree (Constant c) (lift_of u k 0)) k _ (Constant c) (omega arith) (omega arith)
abstracted_size u (Prod n a b) k =
    size_by (same_tree (Prod n a b) (lift_of u k 0)) k _ (Prod n (abstracted u a k) (abstracted u b (k + 1)))
    (omega (arith, abstracted_size u a k, abstracted_size u b (k + 1))) (omega arith)
abstracted_size u (Lam n a b) k =
    size_by (same_tree (Lam n a b) (lift_of u k 0)) k _ (Lam n (abstracted u a k) (abstracted u b (k + 1)))
    (omega (arith, abstracted_size u a k, abstracted_size u b (k + 1))) (omega arith)
abstracted_size u (LetIn n a t b) k =
    size_by (same_tree (LetIn n a t b) (lift_of u k 0)) k _ (LetIn n (abstracted u a k) (abstracted u t k) (abstracted u b (k + 1)))
    (omega (arith, abstracted_size u a k, abstracted_size u t k, abstracted_size u b (k + 1))) (omega arith)
abstracted_size u (App f a) k =
    size_by (same_tree (App f a) (lift_of u k 0)) k _ (App (abstracted u f k) (abstracted u a k))
    (omega (arith, abstracted_size u f k, abstracted_size u a k)) (omega arith)

abstracted_depth : (u t : Tree) (k : ℕ) → depth_of (abstracted u t k) ≤ depth_of t
abstracted_depth u (Var i) k = depth_by (same_tree (Var i) (lift_of u k 0)) k _ (lift_of (Var i) 1 k) (omega arith) (omega arith)
abstracted_depth u (Sorted s) k = depth_by (same_tree (Sorted s) (lift_of u k 0)) k _ (Sorted s) (omega arith) (omega arith)
abstracted_depth u (Constant c) k = depth_by (same_tree (Constant c) (lift_of u k 0)) k _ (Constant c) (omega arith) (omega arith)
abstracted_depth u (Prod n a b) k =
    depth_by (same_tree (Prod n a b) (lift_of u k 0)) k _ (Prod n (abstracted u a k) (abstracted u b (k + 1)))
    (omega (arith, abstracted_depth u a k, abstracted_depth u b (k + 1))) (omega arith)
abstracted_depth u (Lam n a b) k =
    depth_by (same_tree (Lam n a b) (lift_of u k 0)) k _ (Lam n (abstracted u a k) (abstracted u b (k + 1)))
    (omega (arith, abstracted_depth u a k, abstracted_depth u b (k + 1))) (omega arith)
abstracted_depth u (LetIn n a t b) k =
    depth_by (same_tree (LetIn n a t b) (lift_of u k 0)) k _ (LetIn n (abstracted u a k) (abstracted u t k) (abstracted u b (k + 1)))
    (omega (arith, abstracted_depth u a k, abstracted_depth u t k, abstracted_depth u b (k + 1))) (omega arith)
abstracted_depth u (App f a) k =
    depth_by (same_tree (App f a) (lift_of u k 0)) k _ (App (abstracted u f k) (abstracted u a k))
    (omega (arith, abstracted_depth u f k, abstracted_depth u a k)) (omega arith)

fits_by : (size depth : ℕ) (u : Tree) → size_of u ≤ size → depth_of u ≤ depth → size ≤ 2 ^ 20 → depth ≤ 1000 → within_limits u ≡ Ok u
fits_by size depth u e f small shallow = grind (arith, nat_tests, e, f, small, shallow)

pub abstracted_fits : (u t : Tree) (k : ℕ) → IsTerm t → within_limits (abstracted u t k) ≡ Ok (abstracted u t k)
abstracted_fits u t k is =
    fits_by (size_of t) (depth_of t) (abstracted u t k) (abstracted_size u t k) (abstracted_depth u t k) is.small is.shallow

-- it has one variable more to speak of
scoped_by : (b : Bool) (p m k : ℕ) (t : Tree) → IsScoped p m t → k < p → IsScoped p m (if b then Var k else t)
scoped_by true p m k t scoped below = below
scoped_by false p m k t scoped below = scoped

index_by : (b : Bool) (i p : ℕ) → i < p → (if b then i + 1 else i) < suc p
index_by true i p below = omega (arith, below)
index_by false i p below = omega (arith, below)

pub abstracted_under : (u t : Tree) (p q m k : ℕ) → q ≡ suc p → k ≤ p → IsScoped p m t → IsScoped q m (abstracted u t k)
abstracted_under u (Var i) p q m k e le h =
    let below : (if nat_le k i then i + 1 else i) < q = subst (λ n. (if nat_le k i then i + 1 else i) < n) (sym e) (index_by (nat_le k i) i p h) in
    scoped_by (same_tree (Var i) (lift_of u k 0)) q m k (lift_of (Var i) 1 k) below (omega (arith, e, le))
abstracted_under u (Sorted s) p q m k e le h = scoped_by (same_tree (Sorted s) (lift_of u k 0)) q m k (Sorted s) tt (omega (arith, e, le))
abstracted_under u (Constant c) p q m k e le h = scoped_by (same_tree (Constant c) (lift_of u k 0)) q m k (Constant c) h (omega (arith, e, le))
abstracted_under u (Prod n a b) p q m k e le h =
    scoped_by (same_tree (Prod n a b) (lift_of u k 0)) q m k (Prod n (abstracted u a k) (abstracted u b (k + 1)))
    (abstracted_under u a p q m k e le h.0, abstracted_under u b (suc p) (suc q) m (k + 1) (omega (arith, e)) (omega (arith, le)) h.1)
    (omega (arith, e, le))
abstracted_under u (Lam n a b) p q m k e le h =
    scoped_by (same_tree (Lam n a b) (lift_of u k 0)) q m k (Lam n (abstracted u a k) (abstracted u b (k + 1)))
    (abstracted_under u a p q m k e le h.0, abstracted_under u b (suc p) (suc q) m (k + 1) (omega (arith, e)) (omega (arith, le)) h.1)
    (omega (arith, e, le))
abstracted_under u (LetIn n a t b) p q m k e le h =
    scoped_by (same_tree (LetIn n a t b) (lift_of u k 0)) q m k (LetIn n (abstracted u a k) (abstracted u t k) (abstracted u b (k + 1)))
    (abstracted_under u a p q m k e le h.0, abstracted_under u t p q m k e le h.1, abstracted_under u b (suc p) (suc q) m (k + 1) (omega (arith, e)) (omega (arith, le)) h.2)
    (omega (arith, e, le))
abstracted_under u (App f a) p q m k e le h =
    scoped_by (same_tree (App f a) (lift_of u k 0)) q m k (App (abstracted u f k) (abstracted u a k))
    (abstracted_under u f p q m k e le h.0, abstracted_under u a p q m k e le h.1) (omega (arith, e, le))

pub abstracted_scoped : (u t : Tree) (n m : ℕ) → IsScoped n m t → IsScoped (suc n) m (abstracted u t 0)
abstracted_scoped u t n m h = abstracted_under u t n (suc n) m 0 refl (omega arith) h

-- what may be called for terms in scope
pub free_in_scope : (n m : ℕ) (t : Tree) → IsScoped n m t → n ≤ 2 ^ 31 → free_bound t ≤ 2 ^ 31
free_in_scope n m t scoped few = let free = scoped_free n m t scoped in omega (arith, free, few)

side_numbered : (n m : ℕ) (body side : Tree) → IsScoped (suc n) m body → IsScoped n m side → n ≤ 2 ^ 31 → IsTerm body → IsTerm side →
    IsNumbered (subst_of body side 0)
side_numbered n m body side one two few first second =
    let free = scoped_free (suc n) m body one in
    let other = scoped_free n m side two in
    let deep = first.shallow in
    let low = second.shallow in
    numbered-substituted body side 0 n (omega arith) (omega (arith, free)) other (omega (arith, few, deep, low))

pub goal_numbered : (n m : ℕ) (u goal body side other : Tree) → body ≡ abstracted u goal 0 → side ≡ other → IsScoped n m goal → IsScoped n m other →
    n ≤ 2 ^ 31 → IsTerm body → IsTerm side → IsNumbered (subst_of body other 0)
goal_numbered n m u goal body side other made is scoped one few first second =
    subst (λ (v : Tree). IsNumbered (subst_of body v 0)) is
    (side_numbered n m body side (subst (IsScoped (suc n) m) (sym made) (abstracted_scoped u goal n m scoped)) (subst (IsScoped n m) (sym is) one) few first second)

pub side_scoped : (n m : ℕ) (body side : Tree) → IsScoped (suc n) m body → IsScoped n m side → IsScoped n m (subst_of body side 0)
side_scoped n m body side one two = scoped_subst n (suc n) m 0 body side refl (omega arith) one two
