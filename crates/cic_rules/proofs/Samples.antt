-- Worked values of the rules, proved by computation.
use Rattle.std.specs.Prelude.{◌≡◌, ℕ, List, [], ◌∷◌, ◌++◌, true, false, Some, refl}
use Rattle.base_core.specs.declared.refusals.Limit.TheVariants.{StepLimit, DepthLimit}
use Rattle.core_term.specs.declared.sorts.Sort.TheVariants.{PropSort, SetSort, TypeSort}
use Rattle.core_term.specs.Tree.{Tree, Var, Sorted, Constant, Prod, Lam, LetIn, App}
use Rattle.cic_rules.specs.declared.decls.InductiveDecl.{InductiveDecl}
use Rattle.cic_rules.specs.declared.entries.EntryKind.TheVariants.{Assumed}
use Rattle.cic_rules.specs.declared.env.Slot.{Slot}
use Rattle.cic_rules.specs.declared.judge.Mode.TheVariants.{Same, Below}
use Rattle.cic_rules.specs.Contexts.{plain_hyp}
use Rattle.cic_rules.specs.Environments.{own_slot, slotted}
use Rattle.cic_rules.specs.Families.{iota}
use Rattle.cic_rules.specs.Inductive.{ALL_SORTS}
use Rattle.cic_rules.specs.Eliminators.{eliminator_type, family_entries}
use Rattle.cic_rules.specs.Runs.{pure, out_of, refuse, repeat}
use Rattle.cic_rules.specs.Reduce.{whnf_at}
use Rattle.cic_rules.specs.Convert.{conv_at, blocker_at}
use Rattle.cic_rules.specs.Infer.{infer_at, inferred}

-- the name x
abbrev pub X : List ℕ
X = (120 ∷ [])

-- the environment of the assumption A : Prop, which stands at place 0
abbrev pub ASSUMED : List Slot
ASSUMED = own_slot (record { name = (65 ∷ []); ty = Sorted PropSort; kind = Assumed; used = [] }) ∷ []

abbrev pub A : Tree
A = Constant 0

-- let x : Prop := A in x
pub whnf_let : whnf_at ASSUMED true 2000 [] (LetIn X (Sorted PropSort) A (Var 0)) 1000000 ≡ pure A 999999
unfolding repeat whnf_at
whnf_let = refl

-- (fun x : Prop => x) A and A: a unit for the sizes that differ, two for beta
conv_beta : conv_at ASSUMED 2000 [] Same (App (Lam X (Sorted PropSort) (Var 0)) A) A 1000000 ≡ pure true 999997
unfolding repeat whnf_at conv_at blocker_at
conv_beta = refl

-- .. and with two units alone
pub conv_poor : conv_at ASSUMED 2000 [] Same (App (Lam X (Sorted PropSort) (Var 0)) A) A 2 ≡ out_of StepLimit 0
unfolding repeat whnf_at conv_at blocker_at
conv_poor = refl

-- no more judgement may begin: nothing is charged
conv_deep : conv_at ASSUMED 0 [] Same A A 5 ≡ out_of DepthLimit 5
unfolding conv_at
conv_deep = refl

-- a sort is below a greater one, and not the same
conv_below : conv_at ASSUMED 2000 [] Below (Sorted PropSort) (Sorted SetSort) 9 ≡ pure true 8
unfolding repeat whnf_at conv_at blocker_at
conv_below = refl

conv_same : conv_at ASSUMED 2000 [] Same (Sorted PropSort) (Sorted SetSort) 9 ≡ pure false 8
unfolding repeat whnf_at conv_at blocker_at
conv_same = refl

-- A
infer_global : infer_at ASSUMED 2000 [] A 1000000 ≡ pure (inferred (Sorted PropSort) (0 ∷ [])) 999999
unfolding repeat whnf_at conv_at infer_at
infer_global = refl

-- forall x : A, A
infer_product : infer_at ASSUMED 2000 [] (Prod X A A) 1000000 ≡ pure (inferred (Sorted PropSort) (0 ∷ [])) 999997
unfolding repeat whnf_at conv_at infer_at
infer_product = refl

-- fun x : A => x
pub infer_identity : infer_at ASSUMED 2000 [] (Lam X A (Var 0)) 1000000 ≡ pure (inferred (Prod X A A) (0 ∷ [])) 999996
unfolding repeat whnf_at conv_at infer_at
infer_identity = refl

-- the last level of Type has no type; the level before has
infer_last : infer_at ASSUMED 2000 [] (Sorted (TypeSort 1000)) 5 ≡ refuse 24 4
unfolding infer_at
infer_last = refl

infer_level : infer_at ASSUMED 2000 [] (Sorted (TypeSort 999)) 5 ≡ pure (inferred (Sorted (TypeSort 1000)) []) 4
unfolding infer_at
infer_level = refl

-- a variable and a global that are not there
infer_unbound : infer_at ASSUMED 2000 [] (Var 0) 5 ≡ refuse 20 4
unfolding infer_at
infer_unbound = refl

infer_no_global : infer_at ASSUMED 2000 [] (Constant 1) 5 ≡ refuse 20 4
unfolding infer_at
infer_no_global = refl

-- A applied to A, though A is no function
infer_no_function : infer_at ASSUMED 2000 [] (App A A) 1000000 ≡ refuse 21 999998
unfolding repeat whnf_at conv_at infer_at
infer_no_function = refl

-- forall x : A, x is no type
infer_no_type : infer_at ASSUMED 2000 [] (Prod X A (Var 0)) 9 ≡ refuse 23 6
unfolding repeat whnf_at conv_at infer_at
infer_no_type = refl

-- let x : Prop := Prop in x: the value's type is Type, which is not below Prop
infer_wrong : infer_at ASSUMED 2000 [] (LetIn X (Sorted PropSort) (Sorted PropSort) (Var 0)) 9 ≡ refuse 22 4
unfolding repeat whnf_at conv_at infer_at blocker_at
infer_wrong = refl

-- the assumptions nat : Set, z : nat and s : nat -> nat, at the places 0, 1 and 2
abbrev NUMBERS : List Slot
NUMBERS =
    own_slot (record { name = (110 ∷ []); ty = Sorted SetSort; kind = Assumed; used = [] })
    ∷ own_slot (record { name = (122 ∷ []); ty = Constant 0; kind = Assumed; used = (0 ∷ []) })
    ∷ own_slot (record { name = (115 ∷ []); ty = Prod X (Constant 0) (Constant 0); kind = Assumed; used = (0 ∷ []) })
    ∷ []

-- fun x : nat => s x and s: a unit for the sizes, one for eta, and three for s x and s x; and the other way round
conv_eta_left : conv_at NUMBERS 2000 [] Same (Lam X (Constant 0) (App (Constant 2) (Var 0))) (Constant 2) 9 ≡ pure true 4
unfolding repeat whnf_at conv_at blocker_at
conv_eta_left = refl

conv_eta_right : conv_at NUMBERS 2000 [] Same (Constant 2) (Lam X (Constant 0) (App (Constant 2) (Var 0))) 9 ≡ pure true 4
unfolding repeat whnf_at conv_at blocker_at
conv_eta_right = refl

-- fun x : nat => z and s: what stands under the binder is not the same
conv_eta_fails : conv_at NUMBERS 2000 [] Same (Lam X (Constant 0) (Constant 1)) (Constant 2) 9 ≡ pure false 6
unfolding repeat whnf_at conv_at blocker_at
conv_eta_fails = refl

-- trees o : Set, at the place 3, of the constructors e : o and l : (nat -> o) -> o
abbrev TREES : InductiveDecl
TREES =
    record {
      name = (111 ∷ []);
      params = [];
      arity = Sorted SetSort;
      ctors = record { name = (101 ∷ []); ty = Constant 3 } ∷ record { name = (108 ∷ []); ty = Prod (102 ∷ []) (Prod X (Constant 0) (Constant 3)) (Constant 3) } ∷ [];
    }

-- forall P : o -> Set, P e -> (forall f : nat -> o, (forall x : nat, P (f x)) -> P (l f)) -> forall o : o, P o
trees_eliminator : eliminator_type NUMBERS 3 TREES SetSort
    ≡ Prod (80 ∷ []) (Prod (111 ∷ []) (Constant 3) (Sorted SetSort))
    (Prod (102 ∷ 95 ∷ 101 ∷ []) (App (Var 0) (Constant 4))
    (Prod (102 ∷ 95 ∷ 108 ∷ [])
    (Prod (102 ∷ []) (Prod X (Constant 0) (Constant 3))
    (Prod (73 ∷ 72 ∷ 102 ∷ []) (Prod X (Constant 0) (App (Var 3) (App (Var 1) (Var 0))))
    (App (Var 3) (App (Constant 5) (Var 1)))))
    (Prod (111 ∷ []) (Constant 3) (App (Var 3) (Var 0)))))
trees_eliminator = refl

-- o_rec P c d (l f) is d f (fun x : nat => o_rec P c d (f x))
trees_iota : iota (NUMBERS ++ slotted (Some TREES) (family_entries NUMBERS TREES (0 ∷ []) ALL_SORTS)) (Constant 7)
    (Var 3 ∷ Var 2 ∷ Var 1 ∷ App (Constant 5) (Var 0) ∷ []) (App (Constant 5) (Var 0))
    ≡ Some (App (App (Var 1) (Var 0))
    (Lam X (Constant 0) (App (App (App (App (Constant 7) (Var 4)) (Var 3)) (Var 2)) (App (Var 1) (Var 0)))))
trees_iota = refl

abbrev vector : Tree → Tree → Tree
vector a n = App (App (Constant 3) a) n

-- vectors v (A : Set) : nat -> Set, at the place 3, of the constructors e : v A z and
-- c : forall (x : A) (n : nat), v A n -> v A (s n)
abbrev VECTORS : InductiveDecl
VECTORS =
    record {
      name = (118 ∷ []);
      params = plain_hyp (65 ∷ []) (Sorted SetSort) ∷ [];
      arity = Prod (110 ∷ []) (Constant 0) (Sorted SetSort);
      ctors = record { name = (101 ∷ []); ty = vector (Var 0) (Constant 1) }
          ∷ record { name = (99 ∷ []); ty = Prod X (Var 0) (Prod (110 ∷ []) (Constant 0) (Prod (116 ∷ []) (vector (Var 2) (Var 0)) (vector (Var 3) (App (Constant 2) (Var 1))))) }
          ∷ [];
    }

abbrev cell : Tree → Tree → Tree → Tree → Tree
cell a x n t = App (App (App (App (Constant 5) a) x) n) t

-- forall (A : Set) (P : forall n : nat, v A n -> Set), P z (e A) ->
-- (forall (x : A) (n : nat) (t : v A n), P n t -> P (s n) (c A x n t)) -> forall (n : nat) (v : v A n), P n v
vectors_eliminator : eliminator_type NUMBERS 3 VECTORS SetSort
    ≡ Prod (65 ∷ []) (Sorted SetSort)
    (Prod (80 ∷ []) (Prod (110 ∷ []) (Constant 0) (Prod (118 ∷ []) (vector (Var 1) (Var 0)) (Sorted SetSort)))
    (Prod (102 ∷ 95 ∷ 101 ∷ []) (App (App (Var 0) (Constant 1)) (App (Constant 4) (Var 1)))
    (Prod (102 ∷ 95 ∷ 99 ∷ [])
    (Prod X (Var 2)
    (Prod (110 ∷ []) (Constant 0)
    (Prod (116 ∷ []) (vector (Var 4) (Var 0))
    (Prod (73 ∷ 72 ∷ 116 ∷ []) (App (App (Var 4) (Var 1)) (Var 0))
    (App (App (Var 5) (App (Constant 2) (Var 2))) (cell (Var 6) (Var 3) (Var 2) (Var 1)))))))
    (Prod (110 ∷ []) (Constant 0)
    (Prod (118 ∷ []) (vector (Var 4) (Var 0)) (App (App (Var 4) (Var 1)) (Var 0)))))))
vectors_eliminator = refl

-- v_rec A P b d (s n) (c A x n t) is d x n t (v_rec A P b d n t)
vectors_iota : iota (NUMBERS ++ slotted (Some VECTORS) (family_entries NUMBERS VECTORS (0 ∷ 1 ∷ 2 ∷ []) ALL_SORTS)) (Constant 7)
    (Var 6 ∷ Var 5 ∷ Var 4 ∷ Var 3 ∷ App (Constant 2) (Var 1) ∷ cell (Var 6) (Var 2) (Var 1) (Var 0) ∷ [])
    (cell (Var 6) (Var 2) (Var 1) (Var 0))
    ≡ Some (App (App (App (App (Var 3) (Var 2)) (Var 1)) (Var 0))
    (App (App (App (App (App (App (Constant 7) (Var 6)) (Var 5)) (Var 4)) (Var 3)) (Var 1)) (Var 0)))
vectors_iota = refl
