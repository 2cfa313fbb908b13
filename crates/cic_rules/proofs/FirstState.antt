-- The ten sentences of the first state as declarations, and what they give, proved by computation.
use Rattle.std.specs.Prelude.{◌≡◌, ℕ, List, [], ◌∷◌, ◌++◌, length, true, false, Option, Some, Result, Ok, Err, refl}
use Rattle.base_core.specs.declared.refusals.Stop.{Stop}
use Rattle.core_term.specs.declared.sorts.Sort.{Sort}
use Rattle.core_term.specs.declared.sorts.Sort.TheVariants.{PropSort, SetSort, TypeSort}
use Rattle.core_term.specs.Tree.{Tree, Var, Sorted, Constant, Prod, Lam, App}
use Rattle.term_spine.specs.Spine.{apply_all}
use Rattle.cic_rules.specs.declared.context.Hyp.{Hyp}
use Rattle.cic_rules.specs.declared.decls.Decl.{Decl}
use Rattle.cic_rules.specs.declared.decls.Decl.TheVariants.{Define, Induct}
use Rattle.cic_rules.specs.declared.decls.Ctor.{Ctor}
use Rattle.cic_rules.specs.declared.decls.InductiveDecl.{InductiveDecl}
use Rattle.cic_rules.specs.declared.entries.Entry.{Entry}
use Rattle.cic_rules.specs.declared.entries.EntryKind.TheVariants.{Inductive, Eliminator}
use Rattle.cic_rules.specs.declared.env.Slot.{Slot}
use Rattle.cic_rules.specs.declared.judge.Mode.TheVariants.{Same}
use Rattle.cic_rules.specs.Contexts.{plain_hyp}
use Rattle.cic_rules.specs.Environments.{entry_at}
use Rattle.cic_rules.specs.Runs.{Ran, Run, ◌>>=◌, pure, refuse, repeat}
use Rattle.cic_rules.specs.Reduce.{whnf_at}
use Rattle.cic_rules.specs.Convert.{conv_at, blocker_at}
use Rattle.cic_rules.specs.Infer.{infer_at}
use Rattle.cic_rules.specs.Inductive.{row_at, assumed_type}
use Rattle.cic_rules.specs.Declare.{declare_at}

-- declarations one after the other
abbrev declare_all : List Decl → List Slot → Run (List Slot)
declare_all [] env = pure env
declare_all (d ∷ ds) env = declare_at env 2000 d >>= declare_all ds

abbrev PROP : Tree
PROP = Sorted PropSort

abbrev SET : Tree
SET = Sorted SetSort

abbrev TYPE : Tree
TYPE = Sorted (TypeSort 1)

-- the name `_`
abbrev ANY : List ℕ
ANY = 95 ∷ []

abbrev arrow : Tree → Tree → Tree
arrow a b = Prod ANY a b

abbrev inductive : List ℕ → List Hyp → Tree → List Ctor → Decl
inductive name params arity ctors = Induct (record { name = name; params = params; arity = arity; ctors = ctors })

abbrev ctor : List ℕ → Tree → Ctor
ctor name ty = record { name = name; ty = ty }

abbrev apply2 : Tree → Tree → Tree → Tree
apply2 f a b = App (App f a) b

abbrev NAT : Tree
NAT = Constant 33

abbrev O : Tree
O = Constant 34

abbrev S : Tree
S = Constant 35

abbrev NAT_REC : Tree
NAT_REC = Constant 37

abbrev PLUS : Tree
PLUS = Constant 39

-- the first state's declarations
abbrev pub PRELUDE : List Decl
PRELUDE =
    inductive (70 ∷ 97 ∷ 108 ∷ 115 ∷ 101 ∷ []) [] PROP []
    ∷ inductive (84 ∷ 114 ∷ 117 ∷ 101 ∷ []) [] PROP (ctor (73 ∷ []) (Constant 4) ∷ [])
    ∷ inductive (97 ∷ 110 ∷ 100 ∷ []) (plain_hyp (65 ∷ []) PROP ∷ plain_hyp (66 ∷ []) PROP ∷ []) PROP
    (ctor (99 ∷ 111 ∷ 110 ∷ 106 ∷ []) (arrow (Var 1) (arrow (Var 1) (apply2 (Constant 9) (Var 3) (Var 2)))) ∷ [])
    ∷ inductive (111 ∷ 114 ∷ []) (plain_hyp (65 ∷ []) PROP ∷ plain_hyp (66 ∷ []) PROP ∷ []) PROP
    (ctor (111 ∷ 114 ∷ 95 ∷ 105 ∷ 110 ∷ 116 ∷ 114 ∷ 111 ∷ 108 ∷ []) (arrow (Var 1) (apply2 (Constant 14) (Var 2) (Var 1)))
    ∷ ctor (111 ∷ 114 ∷ 95 ∷ 105 ∷ 110 ∷ 116 ∷ 114 ∷ 111 ∷ 114 ∷ []) (arrow (Var 0) (apply2 (Constant 14) (Var 2) (Var 1))) ∷ [])
    ∷ Define (110 ∷ 111 ∷ 116 ∷ []) (Some (Prod (65 ∷ []) PROP PROP)) (Lam (65 ∷ []) PROP (arrow (Var 0) (Constant 0))) false
    ∷ inductive (101 ∷ 113 ∷ []) (plain_hyp (65 ∷ []) TYPE ∷ plain_hyp (120 ∷ []) (Var 0) ∷ []) (arrow (Var 1) PROP)
    (ctor (101 ∷ 113 ∷ 95 ∷ 114 ∷ 101 ∷ 102 ∷ 108 ∷ []) (App (apply2 (Constant 19) (Var 1) (Var 0)) (Var 0)) ∷ [])
    ∷ inductive (101 ∷ 120 ∷ []) (plain_hyp (65 ∷ []) TYPE ∷ plain_hyp (80 ∷ []) (arrow (Var 0) PROP) ∷ []) PROP
    (ctor (101 ∷ 120 ∷ 95 ∷ 105 ∷ 110 ∷ 116 ∷ 114 ∷ 111 ∷ []) (Prod (120 ∷ []) (Var 1) (arrow (App (Var 1) (Var 0)) (apply2 (Constant 24) (Var 3) (Var 2)))) ∷ [])
    ∷ inductive (98 ∷ 111 ∷ 111 ∷ 108 ∷ []) [] (Sorted SetSort) (ctor (116 ∷ 114 ∷ 117 ∷ 101 ∷ []) (Constant 27) ∷ ctor (102 ∷ 97 ∷ 108 ∷ 115 ∷ 101 ∷ []) (Constant 27) ∷ [])
    ∷ inductive (110 ∷ 97 ∷ 116 ∷ []) [] (Sorted SetSort) (ctor (79 ∷ []) NAT ∷ ctor (83 ∷ []) (arrow NAT NAT) ∷ [])
    ∷ Define (112 ∷ 108 ∷ 117 ∷ 115 ∷ []) (Some (Prod (110 ∷ []) NAT (Prod (109 ∷ []) NAT NAT)))
    (Lam (110 ∷ []) NAT (Lam (109 ∷ []) NAT
    (apply_all NAT_REC (Lam ANY NAT NAT ∷ Var 0 ∷ Lam ANY NAT (Lam (114 ∷ []) NAT (App S (Var 0))) ∷ Var 1 ∷ [])))) false
    ∷ []

abbrev environment_of : Result (List Slot) Stop → List Slot
environment_of (Ok env) = env
environment_of (Err stop) = []

-- the environment of the first state
abbrev pub first_state : Ran (List Slot)
first_state = declare_all PRELUDE [] 1000000

-- 200 units and one for each of the ten sentences make its cost of 210
prelude_units : first_state.left ≡ 999800
unfolding repeat whnf_at conv_at blocker_at infer_at row_at declare_at
prelude_units = refl

prelude_length : length (environment_of first_state.answer) ≡ 40
unfolding repeat whnf_at conv_at blocker_at infer_at row_at declare_at
prelude_length = refl

-- what stands at some places of the first state
abbrev found : List ℕ → List (Option Entry)
found [] = []
found (p ∷ ps) = entry_at (environment_of first_state.answer) p ∷ found ps

-- an eliminator of the family at a place, into a sort
abbrev eliminator : List ℕ → Tree → ℕ → Sort → Option Entry
eliminator name ty place sort = Some (record { name = name; ty = ty; kind = Eliminator place sort; used = place ∷ [] })

-- its name with _ind, and its type at Prop
abbrev into_prop : List ℕ → ℕ → (Tree → Tree) → Option Entry
into_prop name place ty = eliminator (name ++ (95 ∷ 105 ∷ 110 ∷ 100 ∷ [])) (ty PROP) place PropSort

-- .. and those of _rec at Set and _rect at Type
abbrev into_all : List ℕ → ℕ → (Tree → Tree) → List (Option Entry)
into_all name place ty =
    into_prop name place ty
    ∷ eliminator (name ++ (95 ∷ 114 ∷ 101 ∷ 99 ∷ [])) (ty SET) place SetSort
    ∷ eliminator (name ++ (95 ∷ 114 ∷ 101 ∷ 99 ∷ 116 ∷ [])) (ty TYPE) place (TypeSort 1)
    ∷ []

-- forall P : Prop, False -> P, where False is f
false_eliminators : found (1 ∷ 2 ∷ 3 ∷ []) ≡ into_all (70 ∷ 97 ∷ 108 ∷ 115 ∷ 101 ∷ []) 0 (λ sort.
    Prod (80 ∷ []) sort (Prod (102 ∷ []) (Constant 0) (Var 1)))
unfolding repeat whnf_at conv_at blocker_at infer_at row_at declare_at
false_eliminators = refl

-- forall P : Prop, P -> True -> P
true_eliminators : found (6 ∷ 7 ∷ 8 ∷ []) ≡ into_all (84 ∷ 114 ∷ 117 ∷ 101 ∷ []) 4 (λ sort.
    Prod (80 ∷ []) sort (Prod (102 ∷ 95 ∷ 73 ∷ []) (Var 0) (Prod (116 ∷ []) (Constant 4) (Var 2))))
unfolding repeat whnf_at conv_at blocker_at infer_at row_at declare_at
true_eliminators = refl

-- forall (A B P : Prop), (A -> B -> P) -> and A B -> P
and_eliminators : found (11 ∷ 12 ∷ 13 ∷ []) ≡ into_all (97 ∷ 110 ∷ 100 ∷ []) 9 (λ sort.
    Prod (65 ∷ []) PROP (Prod (66 ∷ []) PROP (Prod (80 ∷ []) sort
    (Prod (102 ∷ 95 ∷ 99 ∷ 111 ∷ 110 ∷ 106 ∷ []) (Prod (72 ∷ []) (Var 2) (Prod (72 ∷ 48 ∷ []) (Var 2) (Var 2)))
    (Prod (97 ∷ []) (apply2 (Constant 9) (Var 3) (Var 2)) (Var 2))))))
unfolding repeat whnf_at conv_at blocker_at infer_at row_at declare_at
and_eliminators = refl

-- forall A B P : Prop, (A -> P) -> (B -> P) -> or A B -> P, into Prop alone
or_eliminator : found (17 ∷ []) ≡ into_prop (111 ∷ 114 ∷ []) 14 (λ sort.
    Prod (65 ∷ []) PROP (Prod (66 ∷ []) PROP (Prod (80 ∷ []) sort
    (Prod (102 ∷ 95 ∷ 111 ∷ 114 ∷ 95 ∷ 105 ∷ 110 ∷ 116 ∷ 114 ∷ 111 ∷ 108 ∷ []) (Prod (72 ∷ []) (Var 2) (Var 1))
    (Prod (102 ∷ 95 ∷ 111 ∷ 114 ∷ 95 ∷ 105 ∷ 110 ∷ 116 ∷ 114 ∷ 111 ∷ 114 ∷ []) (Prod (72 ∷ []) (Var 2) (Var 2))
    (Prod (111 ∷ []) (apply2 (Constant 14) (Var 4) (Var 3)) (Var 3))))))) ∷ []
unfolding repeat whnf_at conv_at blocker_at infer_at row_at declare_at
or_eliminator = refl

-- forall (A : Type) (x : A) (P : A -> Prop), P x -> forall x0 : A, eq A x x0 -> P x0, where the index has no name
eq_eliminators : found (21 ∷ 22 ∷ 23 ∷ []) ≡ into_all (101 ∷ 113 ∷ []) 19 (λ sort.
    Prod (65 ∷ []) TYPE (Prod (120 ∷ []) (Var 0)
    (Prod (80 ∷ []) (arrow (Var 1) sort)
    (Prod (102 ∷ 95 ∷ 101 ∷ 113 ∷ 95 ∷ 114 ∷ 101 ∷ 102 ∷ 108 ∷ []) (App (Var 0) (Var 1))
    (arrow (Var 3) (Prod (101 ∷ []) (App (apply2 (Constant 19) (Var 4) (Var 3)) (Var 0)) (App (Var 3) (Var 1))))))))
unfolding repeat whnf_at conv_at blocker_at infer_at row_at declare_at
eq_eliminators = refl

-- forall (A : Type) (P : A -> Prop) (P0 : Prop), (forall x : A, P x -> P0) -> ex A P -> P0, into Prop alone; the motive is named P too
ex_eliminator : found (26 ∷ []) ≡ into_prop (101 ∷ 120 ∷ []) 24 (λ sort.
    Prod (65 ∷ []) TYPE (Prod (80 ∷ []) (arrow (Var 0) PROP) (Prod (80 ∷ []) sort
    (Prod (102 ∷ 95 ∷ 101 ∷ 120 ∷ 95 ∷ 105 ∷ 110 ∷ 116 ∷ 114 ∷ 111 ∷ [])
    (Prod (120 ∷ []) (Var 2) (Prod (72 ∷ []) (App (Var 2) (Var 0)) (Var 2)))
    (Prod (101 ∷ []) (apply2 (Constant 24) (Var 3) (Var 2)) (Var 2)))))) ∷ []
unfolding repeat whnf_at conv_at blocker_at infer_at row_at declare_at
ex_eliminator = refl

-- forall P : bool -> Prop, P true -> P false -> forall b : bool, P b
bool_eliminators : found (30 ∷ 31 ∷ 32 ∷ []) ≡ into_all (98 ∷ 111 ∷ 111 ∷ 108 ∷ []) 27 (λ sort.
    Prod (80 ∷ []) (Prod (98 ∷ []) (Constant 27) sort)
    (Prod (102 ∷ 95 ∷ 116 ∷ 114 ∷ 117 ∷ 101 ∷ []) (App (Var 0) (Constant 28))
    (Prod (102 ∷ 95 ∷ 102 ∷ 97 ∷ 108 ∷ 115 ∷ 101 ∷ []) (App (Var 1) (Constant 29))
    (Prod (98 ∷ []) (Constant 27) (App (Var 3) (Var 0))))))
unfolding repeat whnf_at conv_at blocker_at infer_at row_at declare_at
bool_eliminators = refl

-- forall P : nat -> Prop, P O -> (forall n : nat, P n -> P (S n)) -> forall n : nat, P n
nat_eliminators : found (36 ∷ 37 ∷ 38 ∷ []) ≡ into_all (110 ∷ 97 ∷ 116 ∷ []) 33 (λ sort.
    Prod (80 ∷ []) (Prod (110 ∷ []) NAT sort)
    (Prod (102 ∷ 95 ∷ 79 ∷ []) (App (Var 0) O)
    (Prod (102 ∷ 95 ∷ 83 ∷ []) (Prod (110 ∷ []) NAT (Prod (73 ∷ 72 ∷ 110 ∷ []) (App (Var 2) (Var 0)) (App (Var 3) (App S (Var 1)))))
    (Prod (110 ∷ []) NAT (App (Var 3) (Var 0))))))
unfolding repeat whnf_at conv_at blocker_at infer_at row_at declare_at
nat_eliminators = refl

-- 2 + 1 = 3: a unit for the sizes, one for plus, 20 and 22 for its two arguments; for each S of 2 one for iota, 6 and 4 for the
-- arguments of its case, and one for the sizes that are left; last one for iota at O, and one for O and O
two_and_one : conv_at (environment_of first_state.answer) 2000 [] Same (apply2 PLUS (App S (App S O)) (App S O)) (App S (App S (App S O))) 1000000 ≡ pure true 999930
unfolding repeat whnf_at conv_at blocker_at infer_at row_at declare_at
two_and_one = refl

-- an inductive type T, at place 40, whose only constructor c has this type
abbrev one_constructor : Tree → Decl
one_constructor ty = inductive (84 ∷ []) [] SET (ctor (99 ∷ []) ty ∷ [])

-- its answer in the first state, where 100 units are left
abbrev tried : Decl → Ran (List Slot)
tried d = declare_at (environment_of first_state.answer) 2000 d 100

-- even : nat -> Prop, whose only constructor e0 has the type even O
abbrev EVEN : InductiveDecl
EVEN =
    record {
      name = (101 ∷ 118 ∷ 101 ∷ 110 ∷ []);
      params = [];
      arity = arrow NAT PROP;
      ctors = ctor (101 ∷ 48 ∷ []) (App (Constant 40) O) ∷ [];
    }

-- while its constructor is judged it uses nat; in the end O too, for three units of the arity and four of the constructor's type
even_assumed : (assumed_type EVEN).used ≡ 33 ∷ []
even_assumed = refl

even_left : (tried (Induct EVEN)).left ≡ 93
unfolding repeat whnf_at conv_at blocker_at infer_at row_at declare_at
even_left = refl

even_entry : entry_at (environment_of (tried (Induct EVEN)).answer) 40
    ≡ Some (record { name = EVEN.name; ty = arrow NAT PROP; kind = Inductive 1; used = 33 ∷ 34 ∷ [] })
unfolding repeat whnf_at conv_at blocker_at infer_at row_at declare_at
even_entry = refl

-- two names are one: the type and its constructor
refused_twice : tried (inductive (84 ∷ []) [] SET (ctor (84 ∷ []) (Constant 40) ∷ [])) ≡ refuse 34 100
unfolding repeat whnf_at conv_at blocker_at infer_at row_at declare_at
refused_twice = refl

-- the name I is taken
refused_taken : tried (inductive (84 ∷ []) [] SET (ctor (73 ∷ []) (Constant 40) ∷ [])) ≡ refuse 25 100
unfolding repeat whnf_at conv_at blocker_at infer_at row_at declare_at
refused_taken = refl

-- the arity is no row of products that ends in a sort
refused_arity : tried (inductive (84 ∷ []) [] NAT []) ≡ refuse 30 100
unfolding repeat whnf_at conv_at blocker_at infer_at row_at declare_at
refused_arity = refl

-- the constructor is one of nat
refused_constructor : tried (one_constructor NAT) ≡ refuse 31 98
unfolding repeat whnf_at conv_at blocker_at infer_at row_at declare_at
refused_constructor = refl

-- (T -> nat) -> T
refused_positivity : tried (one_constructor (arrow (arrow (Constant 40) NAT) (Constant 40))) ≡ refuse 32 94
unfolding repeat whnf_at conv_at blocker_at infer_at row_at declare_at
refused_positivity = refl

-- Set -> T
refused_universe : tried (one_constructor (arrow SET (Constant 40))) ≡ refuse 33 96
unfolding repeat whnf_at conv_at blocker_at infer_at row_at declare_at
refused_universe = refl
