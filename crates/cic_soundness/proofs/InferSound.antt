-- What inference, sorts and checks answer is derivable.
use Rattle.std.specs.Prelude.{◌≡◌, ℕ, zero, suc, ◌<◌, List, [], ◌∷◌, length, Bool, true, Option, Some, None, IsTrue, slice_get, refl}
use Rattle.std.proofs.Common.{arith}
use Rattle.std.proofs.lemmas.Bool.Decides.{nat_tests}
use Rattle.base_core.specs.declared.refusals.Stop.TheVariants.{Out}
use Rattle.base_core.specs.declared.refusals.Limit.TheVariants.{DepthLimit}
use Rattle.core_term.specs.declared.sorts.Sort.{Sort}
use Rattle.core_term.specs.Sorts.{sort_of_product}
use Rattle.core_term.specs.Tree.{Tree, Var, Sorted, Constant, Prod, Lam, LetIn, App, same_tree}
use Rattle.core_term.specs.Places.{subst_of}
use Rattle.term_spine.specs.Globals.{has}
use Rattle.cic_rules.specs.declared.context.Hyp.{Hyp}
use Rattle.cic_rules.specs.declared.env.Slot.{Slot}
use Rattle.cic_rules.specs.declared.judge.Mode.{Mode}
use Rattle.cic_rules.specs.declared.judge.Mode.TheVariants.{Below}
use Rattle.cic_rules.specs.declared.judge.Inferred.{Inferred}
use Rattle.cic_rules.specs.declared.judge.Arrow.{Arrow}
use Rattle.cic_rules.specs.Contexts.{plain_hyp, defined_hyp, type_of_variable}
use Rattle.cic_rules.specs.Environments.{slot_entry, entry_type, type_of_global}
use Rattle.cic_rules.specs.Derive.{Conv, Cumul, Equal, WfContext, Assumes, Defines, HasType, OfSort, OfVariable, OfGlobal, OfProduct, OfLambda, OfApply, OfLet, Converts, Alpha}
use Rattle.cic_rules.specs.Runs.{Run, spend, check_size}
use Rattle.cic_rules.specs.Reduce.{whnf_at}
use Rattle.cic_rules.specs.Convert.{compare_cost, conv_at}
use Rattle.cic_rules.specs.Infer.{union, type_of_sort, inferred, inferred_sort, arrow, must_be_sort, as_sort, sort_of, must_be_arrow, as_arrow, check, infer_by, infer_at}
use Rattle.cic_rules.specs.Laws.{HasAll, Tells}
use Rattle.cic_rules.proofs.NamesLaws.{names_may_grow}
use Rattle.cic_rules.proofs.TellsLaws.{tells_pure, tells_stop, tells_bind, tells_step, tells_if, tells_require, tells_some, tells_within}
use Rattle.cic_rules.proofs.UsedLaws.{union_first, union_second, names_union}
use Rattle.cic_soundness.specs.Laws.{Fits, IsKnown, TypesAreSound, SortsAreSound, ChecksAreSound}
use Rattle.cic_soundness.proofs.ReduceSound.{reduction_is_sound}
use Rattle.cic_soundness.proofs.ConvSound.{conversion_is_sound}

has_first : (c : ℕ) → IsTrue (has (c ∷ []) c)
has_first c = grind (arith, nat_tests)

pub all_first : (us vs all : List ℕ) → HasAll (union us vs) all → HasAll us all
all_first us vs all more = λ c h. more c (union_first us vs c h)

pub all_second : (us vs all : List ℕ) → HasAll (union us vs) all → HasAll vs all
all_second us vs all more = λ c h. more c (union_second us vs c h)

fits_below : (env : List Slot) (ctx : List Hyp) (t u : Tree) → Fits env ctx Below t u → Cumul env ctx t u
unfolding Fits
fits_below env ctx t u h = h

-- a global that is found is there
pub got_within : {A : Type 0} (i : ℕ) (xs : List A) (x : A) → slice_get xs i ≡ Some x → i < length xs
got_within i [] x e = cc
got_within zero (y ∷ ys) x e = omega arith
got_within (suc i) (y ∷ ys) x e = let rest = got_within i ys x e in omega (arith, rest)

typed_by : (env : List Slot) (c : ℕ) (found : Option Slot) (t : Tree) → slice_get env c ≡ found → entry_type (slot_entry found) ≡ Some t → c < length env
typed_by env c None t is e = cc
typed_by env c (Some s) t is e = got_within c env s is

pub typed_within : (env : List Slot) (c : ℕ) (t : Tree) → type_of_global env c ≡ Some t → c < length env
typed_within env c t e = typed_by env c (slice_get env c) t refl e

module _ (env : List Slot) where
  variable_known : (ctx : List Hyp) (i : ℕ) (ty : Tree) → type_of_variable ctx i ≡ Some ty → IsKnown env ctx (Var i) ty []
  variable_known ctx i ty e = record { names = record { ascending = tt; before = tt }; derived = λ all more formed. OfVariable i ty formed e }

  sorted_known : (ctx : List Hyp) (s r : Sort) → type_of_sort s ≡ Some r → IsKnown env ctx (Sorted s) (Sorted r) []
  sorted_known ctx s r e = record { names = record { ascending = tt; before = tt }; derived = λ all more formed. OfSort s r formed e }

  global_known : (ctx : List Hyp) (c : ℕ) (ty : Tree) → type_of_global env c ≡ Some ty → IsKnown env ctx (Constant c) ty (c ∷ [])
  global_known ctx c ty e =
      record {
        names = record { ascending = (tt, tt); before = (typed_within env c ty e, tt) };
        derived = λ all more formed. OfGlobal c ty formed (more c (has_first c)) e;
      }

  product_known : (ctx : List Hyp) (n : List ℕ) (a b : Tree) (s r : Sort) (us vs : List ℕ) → IsKnown env ctx a (Sorted s) us →
      IsKnown env (plain_hyp n a ∷ ctx) b (Sorted r) vs → IsKnown env ctx (Prod n a b) (Sorted (sort_of_product s r)) (union us vs)
  product_known ctx n a b s r us vs h k =
      record {
        names = names_union (length env) us vs h.names k.names;
        derived = λ all more formed.
            let domain : HasType env all ctx a (Sorted s) = h.derived all (all_first us vs all more) formed in
            OfProduct n s r domain (k.derived all (all_second us vs all more) (Assumes n s formed domain));
      }

  lambda_known : (ctx : List Hyp) (n : List ℕ) (a t b : Tree) (s r : Sort) (us vs ws : List ℕ) → IsKnown env ctx a (Sorted s) us →
      IsKnown env (plain_hyp n a ∷ ctx) t b vs → IsKnown env (plain_hyp n a ∷ ctx) b (Sorted r) ws →
      IsKnown env ctx (Lam n a t) (Prod n a b) (union us (union vs ws))
  lambda_known ctx n a t b s r us vs ws h k l =
      record {
        names = names_union (length env) us (union vs ws) h.names (names_union (length env) vs ws k.names l.names);
        derived = λ all more formed.
            let domain : HasType env all ctx a (Sorted s) = h.derived all (all_first us (union vs ws) all more) formed in
            let inner : WfContext env all (plain_hyp n a ∷ ctx) = Assumes n s formed domain in
            let later : HasAll (union vs ws) all = all_second us (union vs ws) all more in
            OfLambda n (sort_of_product s r) (OfProduct n s r domain (l.derived all (all_second vs ws all later) inner))
            (k.derived all (all_first vs ws all later) inner);
      }

  let_known : (ctx : List Hyp) (n : List ℕ) (a t b c : Tree) (s : Sort) (us vs ws : List ℕ) → IsKnown env ctx a (Sorted s) us → IsKnown env ctx t a vs →
      IsKnown env (defined_hyp n a t ∷ ctx) b c ws → IsKnown env ctx (LetIn n a t b) (subst_of c t 0) (union (union us vs) ws)
  let_known ctx n a t b c s us vs ws h k l =
      record {
        names = names_union (length env) (union us vs) ws (names_union (length env) us vs h.names k.names) l.names;
        derived = λ all more formed.
            let before : HasAll (union us vs) all = all_first (union us vs) ws all more in
            let ty : HasType env all ctx a (Sorted s) = h.derived all (all_first us vs all before) formed in
            let value : HasType env all ctx t a = k.derived all (all_second us vs all before) formed in
            OfLet n s ty value (l.derived all (all_second (union us vs) ws all more) (Defines n s formed ty value));
      }

  apply_known : (ctx : List Hyp) (n : List ℕ) (f v a b : Tree) (us vs : List ℕ) → IsKnown env ctx f (Prod n a b) us → IsKnown env ctx v a vs →
      IsKnown env ctx (App f v) (subst_of b v 0) (union us vs)
  apply_known ctx n f v a b us vs h k =
      record {
        names = names_union (length env) us vs h.names k.names;
        derived = λ all more formed. OfApply n (h.derived all (all_first us vs all more) formed) (k.derived all (all_second us vs all more) formed);
      }

  -- a type that reduces to a sort that has a type
  reduced_known : (ctx : List Hyp) (t ty : Tree) (s r : Sort) (used : List ℕ) → IsKnown env ctx t ty used → Conv env ctx ty (Sorted s) → type_of_sort s ≡ Some r →
      IsKnown env ctx t (Sorted s) used
  reduced_known ctx t ty s r used h conv e =
      record { names = h.names; derived = λ all more formed. Converts r (h.derived all more formed) (Equal conv) (OfSort s r formed e) }

  -- a type below another that has a sort
  below_known : (ctx : List Hyp) (t ty wanted : Tree) (s : Sort) (us vs : List ℕ) → IsKnown env ctx t ty us → Cumul env ctx ty wanted →
      IsKnown env ctx wanted (Sorted s) vs → IsKnown env ctx t wanted (union us vs)
  below_known ctx t ty wanted s us vs h below k =
      record {
        names = names_union (length env) us vs h.names k.names;
        derived = λ all more formed. Converts s (h.derived all (all_first us vs all more) formed) below (k.derived all (all_second us vs all more) formed);
      }

  same_known : (ctx : List Hyp) (t ty wanted : Tree) (used : List ℕ) → IsKnown env ctx t ty used → same_tree ty wanted ≡ true → IsKnown env ctx t wanted used
  same_known ctx t ty wanted used h e = record { names = h.names; derived = λ all more formed. Alpha (h.derived all more formed) e }

  -- a function's type, as a product of some name
  record IsArrow (ctx : List Hyp) (t : Tree) (p : Arrow) : Type 0 where
    name : List ℕ
    known : IsKnown env ctx t (Prod name p.domain p.codomain) p.used

-- the judgements that inference calls
module _ (env : List Slot) (whnf : List Hyp → Tree → Run Tree) (conv : List Hyp → Mode → Tree → Tree → Run Bool) (infer : List Hyp → Tree → Run Inferred)
    (whnfs : (ctx : List Hyp) (t : Tree) → Tells (whnf ctx t) (λ u. Conv env ctx t u))
    (convs : (ctx : List Hyp) (mode : Mode) (t u : Tree) → Tells (conv ctx mode t u) (λ answer. answer ≡ true → Fits env ctx mode t u))
    (infers : (ctx : List Hyp) (t : Tree) → Tells (infer ctx t) (λ i. IsKnown env ctx t i.ty i.used)) where
  must_sort_tells : (ctx : List Hyp) (t ty : Tree) (used : List ℕ) (reduced : Tree) → IsKnown env ctx t ty used → Conv env ctx ty reduced →
      Tells (must_be_sort used reduced) (λ s. IsKnown env ctx t (Sorted s.sort) s.used)
  must_sort_tells ctx t ty used (Sorted s) h k =
      tells_bind (tells_some 24 (type_of_sort s) (λ r e. e)) (λ r e. tells_pure (inferred_sort s used) (reduced_known env ctx t ty s r used h k e))
  must_sort_tells ctx t ty used _ h k = tells_stop _

  as_sort_tells : (ctx : List Hyp) (t ty : Tree) (used : List ℕ) → IsKnown env ctx t ty used →
      Tells (as_sort whnf conv infer ctx ty used) (λ s. IsKnown env ctx t (Sorted s.sort) s.used)
  as_sort_tells ctx t (Sorted s) used h = tells_pure (inferred_sort s used) h
  as_sort_tells ctx t ty used h = tells_bind (whnfs ctx ty) (λ reduced k. must_sort_tells ctx t ty used reduced h k)

  sort_tells : (ctx : List Hyp) (a : Tree) → Tells (sort_of whnf conv infer ctx a) (λ s. IsKnown env ctx a (Sorted s.sort) s.used)
  sort_tells ctx a = tells_bind (infers ctx a) (λ i h. as_sort_tells ctx a i.ty i.used h)

  must_arrow_tells : (ctx : List Hyp) (t ty : Tree) (used : List ℕ) (reduced : Tree) → IsKnown env ctx t ty used → Conv env ctx ty reduced →
      Tells (must_be_arrow whnf conv infer ctx used reduced) (IsArrow env ctx t)
  must_arrow_tells ctx t ty used (Prod n a b) h k =
      tells_bind (sort_tells ctx (Prod n a b)) (λ s j. tells_pure (arrow a b (union used s.used))
      (record { name = n; known = below_known env ctx t ty (Prod n a b) s.sort used s.used h (Equal k) j }))
  must_arrow_tells ctx t ty used _ h k = tells_stop _

  as_arrow_tells : (ctx : List Hyp) (t ty : Tree) (used : List ℕ) → IsKnown env ctx t ty used → Tells (as_arrow whnf conv infer ctx ty used) (IsArrow env ctx t)
  as_arrow_tells ctx t (Prod n a b) used h = tells_pure (arrow a b used) (record { name = n; known = h })
  as_arrow_tells ctx t ty used h = tells_bind (whnfs ctx ty) (λ reduced k. must_arrow_tells ctx t ty used reduced h k)

  check_tells : (ctx : List Hyp) (t wanted : Tree) → Tells (check whnf conv infer ctx t wanted) (λ used. IsKnown env ctx t wanted used)
  check_tells ctx t wanted =
      tells_bind (infers ctx t) (λ i h. tells_step (spend (compare_cost i.ty wanted)) (tells_if (same_tree i.ty wanted)
      (λ e. tells_pure i.used (same_known env ctx t i.ty wanted i.used h e))
      (λ e. tells_bind (convs ctx Below i.ty wanted) (λ fits k. tells_require fits 22 (λ is. tells_bind (sort_tells ctx wanted)
      (λ s j. tells_pure (union i.used s.used) (below_known env ctx t i.ty wanted s.sort i.used s.used h (fits_below env ctx i.ty wanted (k is)) j)))))))

  infer_tells : (ctx : List Hyp) (t : Tree) → Tells (infer_by whnf conv infer env ctx t) (λ i. IsKnown env ctx t i.ty i.used)
  infer_tells ctx (Var i) = tells_bind (tells_some 20 (type_of_variable ctx i) (λ ty e. e)) (λ ty e. tells_pure (inferred ty []) (variable_known env ctx i ty e))
  infer_tells ctx (Sorted s) =
      tells_bind (tells_some 24 (type_of_sort s) (λ r e. e)) (λ r e. tells_pure (inferred (Sorted r) []) (sorted_known env ctx s r e))
  infer_tells ctx (Constant c) =
      tells_bind (tells_some 20 (type_of_global env c) (λ ty e. e)) (λ ty e. tells_pure (inferred ty (c ∷ [])) (global_known env ctx c ty e))
  infer_tells ctx (Prod n a b) =
      tells_bind (sort_tells ctx a) (λ s h. tells_within ctx (plain_hyp n a) _ (tells_bind (sort_tells (plain_hyp n a ∷ ctx) b)
      (λ r k. tells_pure (inferred (Sorted (sort_of_product s.sort r.sort)) (union s.used r.used)) (product_known env ctx n a b s.sort r.sort s.used r.used h k))))
  infer_tells ctx (Lam n a b) =
      tells_bind (sort_tells ctx a) (λ s h. tells_within ctx (plain_hyp n a) _ (tells_bind (infers (plain_hyp n a ∷ ctx) b)
      (λ i k. tells_bind (sort_tells (plain_hyp n a ∷ ctx) i.ty)
      (λ r l. tells_step (check_size (Prod n a i.ty)) (tells_pure (inferred (Prod n a i.ty) (union s.used (union i.used r.used)))
      (lambda_known env ctx n a b i.ty s.sort r.sort s.used i.used r.used h k l))))))
  infer_tells ctx (LetIn n a t b) =
      tells_bind (sort_tells ctx a) (λ s h. tells_bind (check_tells ctx t a) (λ used k. tells_within ctx (defined_hyp n a t) _
      (tells_bind (infers (defined_hyp n a t ∷ ctx) b) (λ i l. tells_step (check_size (subst_of i.ty t 0))
      (tells_pure (inferred (subst_of i.ty t 0) (union (union s.used used) i.used)) (let_known env ctx n a t b i.ty s.sort s.used used i.used h k l))))))
  infer_tells ctx (App f v) =
      tells_bind (infers ctx f) (λ i h. tells_bind (as_arrow_tells ctx f i.ty i.used h) (λ p g. tells_bind (check_tells ctx v p.domain)
      (λ used k. tells_step (check_size (subst_of p.codomain v 0)) (tells_pure (inferred (subst_of p.codomain v 0) (union p.used used))
      (apply_known env ctx g.name f v p.domain p.codomain p.used used g.known k)))))

types_told : (env : List Slot) (calls : ℕ) (ctx : List Hyp) (t : Tree) → Tells (infer_at env calls ctx t) (λ i. IsKnown env ctx t i.ty i.used)
unfolding infer_at
types_told env zero ctx t = tells_stop (Out DepthLimit)
types_told env (suc calls) ctx t =
    tells_step (spend 1) (infer_tells env (whnf_at env true calls) (conv_at env calls) (infer_at env calls)
    (λ c u. reduction_is_sound env true calls c u) (λ c m u v. conversion_is_sound env calls c m u v) (λ c u. types_told env calls c u) ctx t)

pub types_are_sound : TypesAreSound
types_are_sound env calls ctx t = types_told env calls ctx t

pub sorts_are_sound : SortsAreSound
sorts_are_sound env calls ctx a =
    sort_tells env (whnf_at env true calls) (conv_at env calls) (infer_at env calls)
    (λ c u. reduction_is_sound env true calls c u) (λ c m u v. conversion_is_sound env calls c m u v) (λ c u. types_told env calls c u) ctx a

pub checks_are_sound : ChecksAreSound
checks_are_sound env calls ctx t wanted =
    check_tells env (whnf_at env true calls) (conv_at env calls) (infer_at env calls)
    (λ c u. reduction_is_sound env true calls c u) (λ c m u v. conversion_is_sound env calls c m u v) (λ c u. types_told env calls c u) ctx t wanted

-- what is known of a term, over its names together with those of a context that is well formed
pub over_both : (env : List Slot) (ctx : List Hyp) (t ty : Tree) (used names : List ℕ) → IsKnown env ctx t ty used → WfContext env names ctx →
    HasType env (union used names) ctx t ty
over_both env ctx t ty used names h formed =
    h.derived (union used names) (union_first used names) (names_may_grow.formed env names (union used names) ctx (union_second used names) formed)
