-- When iota fires, and what it builds.
use Rattle.std.specs.Prelude.{◌≡◌, ℕ, zero, suc, ◌+◌, ◌^◌, ◌≤◌, ◌<◌, ◌==◌, List, [], ◌∷◌, ◌++◌, length, take, drop, Bool, true, false, Option, Some, None, Ok, Err, slice_get, refl}
use Rattle.std.proofs.Common.{arith, ap, sym, ◌∙◌, subst}
use Rattle.std.proofs.lemmas.Bool.Decides.{nat_tests}
use Rattle.base_core.specs.declared.refusals.Stop.{Stop}
use Rattle.base_core.specs.declared.refusals.Stop.TheVariants.{Refused, Out, NoMem}
use Rattle.core_term.specs.Tree.{Tree, Var, Sorted, Constant, Prod, Lam, LetIn, App, IsTerm, free_bound, depth_of}
use Rattle.term_spine.specs.SpineLaws.{AreOver, AreShallow}
use Rattle.term_spine.specs.declared.spines.Spine.{Spine}
use Rattle.term_spine.specs.Spines.{tree_of_spine, IsSpineOf}
use Rattle.term_spine.proofs.SpineFacts.{head_applied, head_is, arguments_applied, no_arguments, depth_applied}
use Rattle.cic_rules.specs.declared.decls.Ctor.{Ctor}
use Rattle.cic_rules.specs.declared.decls.InductiveDecl.{InductiveDecl}
use Rattle.cic_rules.specs.declared.env.Slot.{Slot}
use Rattle.cic_rules.specs.declared.shapes.FamilyShape.{FamilyShape}
use Rattle.cic_rules.specs.Environments.{decl_at, AreScopedCtors, IsEnvironment}
use Rattle.cic_rules.specs.Families.{eliminator_of, constructor_of, newest_first, case_applied, case_applied_to, iota_result, iota}
use Rattle.cic_rules.specs.Reduce.{contract, contract_iota}
use Rattle.term_spine.specs.Spine.{head_of, arguments_of, apply_all, count_products}
use Rattle.term_spine.specs.Globals.{mentions}
use Rattle.cic_rules.specs.Scopes.{IsScoped, AreScoped}
use Rattle.cic_rules.specs.Shapes.{recursive_of, recursive_in, shape_of, shape_if_any, shape_at}
use Rattle.cic_rules.proofs.EnvironmentScopes.{decl_scoped}
use Rattle.cic_rules.proofs.ScopeLaws.{scoped_free}
use Rattle.conversion.specs.Iota.{case_by, iota_by, MayPutIn, MayBuild}
use Rattle.conversion.specs.Lookups.{family_if_any}
use Rattle.conversion.specs.Turns.{GoesOn, Turns, IsSpine}
use Rattle.conversion.proofs.ReduceLaws.{scoped_apart}

pub beyond : {A : Type 0} (i : ℕ) (ts : List A) → length ts ≤ i → slice_get ts i ≡ None
beyond i [] le = refl
beyond zero (t ∷ ts) le = absurd (omega arith)
beyond (suc i) (t ∷ ts) le = beyond i ts (omega (arith, le))

get_within : {A : Type 0} (i : ℕ) (ts : List A) (t : A) → slice_get ts i ≡ Some t → i < length ts
get_within i [] t e = cc
get_within zero (u ∷ us) t e = omega arith
get_within (suc i) (u ∷ us) t e = let rest = get_within i us t e in omega (arith, rest)

-- a turn by what iota finds
pub turn_none : (t : Tree) (found : Option Tree) (k l : ℕ) → found ≡ None → k ≡ l → Turns (Ok None) k t (contract_iota t found l)
turn_none t found k l none same = rw none (refl, same)

pub turn_some : (t : Tree) (found : Option Tree) (to : Tree) (s : Spine) (k l : ℕ) → found ≡ Some to → GoesOn (Ok s) k (contract 1 to l) →
    Turns (Ok (Some s)) k t (contract_iota t found l)
turn_some t found to s k l some goes = rw some goes

pub turn_stop : (t : Tree) (found : Option Tree) (to : Tree) (stop : Stop) (k l : ℕ) → found ≡ Some to → GoesOn (Err stop) k (contract 1 to l) →
    Turns (Err stop) k t (contract_iota t found l)
turn_stop t found to (Refused r) k l some goes = absurd goes
turn_stop t found to NoMem k l some goes = tt
turn_stop t found to (Out limit) k l some goes = rw some goes

-- marks are those of the constructor's type
case_marked : (params place : ℕ) (e case : Tree) (values : List Tree) (t : Tree) (vs : List Tree) →
    case_by params (recursive_of place t) e case values t vs ≡ case_applied params place e case values t vs
case_marked params place e case values (Prod n a b) [] = refl
case_marked params place e case values (Prod n a b) (v ∷ vs) =
    case_marked params place e (case_applied_to params (mentions place a) e case v values a) (v ∷ values) b vs
case_marked params place e case values (Var _) vs = refl
case_marked params place e case values (Sorted _) vs = refl
case_marked params place e case values (Constant _) vs = refl
case_marked params place e case values (Lam _ _ _) vs = refl
case_marked params place e case values (LetIn _ _ _ _) vs = refl
case_marked params place e case values (App _ _) vs = refl

marks_count : (place : ℕ) (t : Tree) → length (recursive_of place t) ≡ count_products t
marks_count place (Prod n a b) = ap suc (marks_count place b)
marks_count place (Var _) = refl
marks_count place (Sorted _) = refl
marks_count place (Constant _) = refl
marks_count place (Lam _ _ _) = refl
marks_count place (LetIn _ _ _ _) = refl
marks_count place (App _ _) = refl

marks_are : (place i : ℕ) (cs : List Ctor) (c : Ctor) (marks : List Bool) → slice_get cs i ≡ Some c → slice_get (recursive_in place cs) i ≡ Some marks →
    marks ≡ recursive_of place c.ty
marks_are place i [] c marks e f = cc
marks_are place zero (x ∷ xs) c marks e f = let same : x ≡ c = cc in let told : recursive_of place x.ty ≡ marks = cc in sym told ∙ ap (λ y. recursive_of place y.ty) same
marks_are place (suc i) (x ∷ xs) c marks e f = marks_are place i xs c marks e f

no_marks : (place i : ℕ) (cs : List Ctor) → slice_get (recursive_in place cs) i ≡ None → slice_get cs i ≡ None
no_marks place i [] e = refl
no_marks place zero (x ∷ xs) e = cc
no_marks place (suc i) (x ∷ xs) e = no_marks place i xs e

no_shape_by : (place : ℕ) (found : Option InductiveDecl) → shape_if_any place found ≡ None → found ≡ None
no_shape_by place None e = refl
no_shape_by place (Some d) e = cc

shape_by : (place : ℕ) (found : Option InductiveDecl) (d : InductiveDecl) (shape : FamilyShape) → found ≡ Some d → shape_if_any place found ≡ Some shape →
    shape_of place d ≡ shape
shape_by place found d shape e f = let told : shape_if_any place (Some d) ≡ Some shape = rw e at f in cc

module _ (env : List Slot) (head : Tree) (args : List Tree) (w : Tree) (of : ℕ) (family : eliminator_of env head ≡ family_if_any env (Some of)) where
  pub no_decl : decl_at env of ≡ None → iota env head args w ≡ None
  no_decl e = rw (family, e) refl

  pub no_shape : shape_at env of ≡ None → iota env head args w ≡ None
  no_shape e = no_decl (no_shape_by of (decl_at env of) e)

  module _ (d : InductiveDecl) (decl : decl_at env of ≡ Some d) (shape : FamilyShape) (told : shape_at env of ≡ Some shape) (m : Spine) (made : IsSpineOf m w) where
    head_made : head_of w ≡ m.head
    head_made = ap head_of (sym made.whole) ∙ head_applied m.head m.args ∙ head_is m.head made.head

    args_made : arguments_of w ≡ m.args
    args_made =
        ap arguments_of (sym made.whole) ∙ arguments_applied m.head m.args ∙ ap (λ first. first ++ m.args) (no_arguments m.head made.head)

    shape_is : shape_of of d ≡ shape
    shape_is = shape_by of (decl_at env of) d shape decl told

    params_are : length d.params ≡ shape.params
    params_are = ap (λ s. s.params) shape_is

    pub no_index : constructor_of env of m.head ≡ None → iota env head args w ≡ None
    no_index e = rw (family, decl, head_made, e) refl

    module _ (i : ℕ) (index : constructor_of env of m.head ≡ Some i) where
      pub no_ctor : slice_get d.ctors i ≡ None → iota env head args w ≡ None
      no_ctor e = rw (family, decl, head_made, index, e) refl

      pub no_mark : slice_get shape.recursive i ≡ None → iota env head args w ≡ None
      no_mark e = no_ctor (no_marks of i d.ctors (ap (λ s. slice_get s.recursive i) shape_is ∙ e))

      module _ (c : Ctor) (ctor : slice_get d.ctors i ≡ Some c) where
        pub no_case : slice_get args (shape.params + 1 + i) ≡ None → iota env head args w ≡ None
        no_case e =
            let there : slice_get args (length d.params + 1 + i) ≡ None = ap (λ n. slice_get args (n + 1 + i)) params_are ∙ e in
            rw (family, decl, head_made, index, ctor, there) refl

        module _ (case : Tree) (found : slice_get args (shape.params + 1 + i) ≡ Some case) (marks : List Bool) (marked : slice_get shape.recursive i ≡ Some marks) where
          there : slice_get args (length d.params + 1 + i) ≡ Some case
          there = ap (λ n. slice_get args (n + 1 + i)) params_are ∙ found

          marks_is : marks ≡ recursive_of of c.ty
          marks_is = marks_are of i d.ctors c marks ctor (ap (λ s. slice_get s.recursive i) shape_is ∙ marked)

          full_is : (length m.args == shape.params + length marks) ≡ (length (arguments_of w) == length d.params + count_products c.ty)
          full_is =
              let one : length m.args ≡ length (arguments_of w) = ap length (sym args_made) in
              let two : length marks ≡ count_products c.ty = ap length marks_is ∙ marks_count of c.ty in
              cc (one, two, params_are)

          pub not_full : false ≡ (length m.args == shape.params + length marks) → iota env head args w ≡ None
          not_full e =
              let full : (length (arguments_of w) == length d.params + count_products c.ty) ≡ false = sym full_is ∙ sym e in
              rw (family, decl, head_made, index, ctor, there, full) refl

          result_is : iota_by shape.params shape.fixed shape.major marks head args case c.ty m.args ≡
              iota_result (record { place = of; decl = d }) head args c case (drop (length d.params) (arguments_of w))
          result_is =
              ap (λ s. iota_by s.params s.fixed s.major marks head args case c.ty m.args) (sym shape_is) ∙
              ap (λ ms. iota_by (length d.params) (shape_of of d).fixed (shape_of of d).major ms head args case c.ty m.args) marks_is ∙
              ap (λ vs. iota_by (length d.params) (shape_of of d).fixed (shape_of of d).major (recursive_of of c.ty) head args case c.ty vs) (sym args_made) ∙
              ap (λ t. apply_all t (drop ((shape_of of d).major + 1) args))
              (case_marked (length d.params) of (apply_all head (take (shape_of of d).fixed args)) case (newest_first (take (length d.params) args) []) c.ty
              (drop (length d.params) (arguments_of w)))

          pub fires : true ≡ (length m.args == shape.params + length marks) →
              iota env head args w ≡ Some (iota_by shape.params shape.fixed shape.major marks head args case c.ty m.args)
          fires e =
              let full : (length (arguments_of w) == length d.params + count_products c.ty) ≡ true = sym full_is ∙ sym e in
              let found : iota env head args w ≡ Some (iota_result (record { place = of; decl = d }) head args c case (drop (length d.params) (arguments_of w))) =
              rw (family, decl, head_made, index, ctor, there, full) refl in
              found ∙ ap Some (sym result_is)

-- what is built stands in scope
scoped_over : (n m : ℕ) (ts : List Tree) → AreScoped n m ts → AreOver n ts
scoped_over n m [] h = tt
scoped_over n m (t ∷ ts) h = (scoped_free n m t h.0, scoped_over n m ts h.1)

ctor_few : (n m i : ℕ) (cs : List Ctor) (c : Ctor) → slice_get cs i ≡ Some c → AreScopedCtors n m cs → free_bound c.ty ≤ n
ctor_few n m i [] c e h = cc
ctor_few n m zero (x ∷ xs) c e h = let same : x ≡ c = cc in subst (λ y. free_bound y.ty ≤ n) same (scoped_free n m x.ty h.0)
ctor_few n m (suc i) (x ∷ xs) c e h = ctor_few n m i xs c e h.1

pub may_build : (env : List Slot) → IsEnvironment env → (vars of i : ℕ) (d : InductiveDecl) (shape : FamilyShape) (c : Ctor) (s m : Spine) (w case : Tree) →
    vars ≤ 2 ^ 31 → decl_at env of ≡ Some d → shape_at env of ≡ Some shape → slice_get d.ctors i ≡ Some c → slice_get s.args (shape.params + 1 + i) ≡ Some case →
    IsSpine s → IsScoped vars (length env) (tree_of_spine s) → IsSpineOf m w → IsScoped vars (length env) w → MayBuild vars shape.params s c.ty m.args
may_build env is vars of i d shape c s m w case few decl told ctor found spine term made value =
    let apart = scoped_apart vars (length env) s.head s.args term in
    let parts = scoped_apart vars (length env) m.head m.args (subst (IsScoped vars (length env)) (sym made.whole) value) in
    let same : length d.params ≡ shape.params = ap (λ x. x.params) (shape_by of (decl_at env of) d shape decl told) in
    let within = get_within (shape.params + 1 + i) s.args case found in
    record {
      spine = spine;
      count = omega (arith, within);
      room = few;
      head = scoped_free vars (length env) s.head apart.0;
      args = scoped_over vars (length env) s.args apart.1;
      few = subst (λ n. free_bound c.ty ≤ n) same (ctor_few (length d.params) (length env) i d.ctors c ctor (decl_scoped env is of d decl).ctors);
      made = scoped_over vars (length env) m.args parts.1;
    }

pub take_over : (n i : ℕ) (ts : List Tree) → AreOver n ts → AreOver n (take i ts)
take_over n zero ts h = tt
take_over n (suc i) [] h = tt
take_over n (suc i) (t ∷ ts) h = (h.0, take_over n i ts h.1)

pub drop_over : (n i : ℕ) (ts : List Tree) → AreOver n ts → AreOver n (drop i ts)
drop_over n zero ts h = h
drop_over n (suc i) [] h = tt
drop_over n (suc i) (t ∷ ts) h = drop_over n i ts h.1

applied_over : (n : ℕ) (h : Tree) (ts : List Tree) → free_bound h ≤ n → AreOver n ts → free_bound (apply_all h ts) ≤ n
applied_over n h [] few all = few
applied_over n h (t ∷ ts) few all = applied_over n (App h t) ts (omega (arith, few, all.0)) all.1

pub first_over : (n i : ℕ) (h : Tree) (ts : List Tree) → free_bound h ≤ n → AreOver n ts → free_bound (apply_all h (take i ts)) ≤ n
first_over n i h ts few all = applied_over n h (take i ts) few (take_over n i ts all)

pub newest_over : (n : ℕ) (ts later : List Tree) → AreOver n ts → AreOver n later → AreOver n (newest_first ts later)
newest_over n [] later h k = k
newest_over n (t ∷ ts) later h k = newest_over n ts (t ∷ later) h.1 (h.0, k)

pub newest_shallow : (n : ℕ) (ts later : List Tree) → AreShallow n ts → AreShallow n later → AreShallow n (newest_first ts later)
newest_shallow n [] later h k = k
newest_shallow n (t ∷ ts) later h k = newest_shallow n ts (t ∷ later) h.1 (h.0, k)

pub take_shallow : (n i : ℕ) (ts : List Tree) → AreShallow n ts → AreShallow n (take i ts)
take_shallow n zero ts h = tt
take_shallow n (suc i) [] h = tt
take_shallow n (suc i) (t ∷ ts) h = (h.0, take_shallow n i ts h.1)

args_shallow : (n : ℕ) (h : Tree) (ts : List Tree) → depth_of (apply_all h ts) ≤ n → AreShallow n ts
args_shallow n h [] le = tt
args_shallow n h (t ∷ ts) le =
    let whole = depth_applied (App h t) ts in
    (omega (arith, whole, le), args_shallow n (App h t) ts le)

pub newest_count : (ts later : List Tree) → length (newest_first ts later) ≡ length ts + length later
newest_count [] later = omega arith
newest_count (t ∷ ts) later = let rest = newest_count ts (t ∷ later) in omega (arith, rest)

pub take_count : (i : ℕ) (ts : List Tree) → i ≤ length ts → length (take i ts) ≡ i
take_count zero ts le = refl
take_count (suc i) [] le = absurd (omega (arith, le))
take_count (suc i) (t ∷ ts) le = ap suc (take_count i ts (omega (arith, le)))

-- the parameters may be put into the constructor's type
pub built_may : (vars params : ℕ) (s : Spine) (ty : Tree) (value_args : List Tree) → MayBuild vars params s ty value_args → IsTerm ty →
    MayPutIn vars (newest_first (take params s.args) []) ty
built_may vars params s ty value_args may is =
    let small = may.spine.small in
    let depth : depth_of (tree_of_spine s) ≤ 1000 = grind (arith, nat_tests, small) in
    let count = newest_count (take params s.args) [] in
    let taken = take_count params s.args may.count in
    let few = may.few in let shallow = is.shallow in let room = may.room in
    record {
      over = newest_over vars (take params s.args) [] (take_over vars params s.args may.args) tt;
      shallow = newest_shallow 1000 (take params s.args) [] (take_shallow 1000 params s.args (args_shallow 1000 s.head s.args depth)) tt;
      few = omega (arith, few, count, taken);
      room = omega (arith, room, shallow);
    }

-- behind so many and then one
pub drop_then : {A : Type 0} (i : ℕ) (ts : List A) → drop 1 (drop i ts) ≡ drop (i + 1) ts
drop_then zero [] = refl
drop_then zero (t ∷ ts) = refl
drop_then (suc i) [] = let e : suc i + 1 ≡ suc (i + 1) = omega arith in rw e refl
drop_then (suc i) (t ∷ ts) = let e : suc i + 1 ≡ suc (i + 1) = omega arith in rw e (drop_then i ts)

pub built_is : (params fixed major : ℕ) (marks slice : List Bool) (head : Tree) (args : List Tree) (case ty : Tree) (value_args : List Tree)
    (eliminator whole : Tree) (values arguments behind rest : List Tree) → slice ≡ marks → eliminator ≡ apply_all head (take fixed args) →
    values ≡ newest_first (take params args) [] → arguments ≡ drop params value_args → behind ≡ drop major args → rest ≡ drop 1 behind →
    whole ≡ case_by params slice eliminator case values ty arguments → apply_all whole rest ≡ iota_by params fixed major marks head args case ty value_args
built_is params fixed major marks slice head args case ty value_args eliminator whole values arguments behind rest one two three four five six seven =
    let last : rest ≡ drop (major + 1) args = six ∙ ap (drop 1) five ∙ drop_then major args in
    rw (seven, one, two, three, four, last) refl
