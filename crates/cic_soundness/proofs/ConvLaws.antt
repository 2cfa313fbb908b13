-- Conversion of terms that are one, names aside, and of heads with arguments.
use Rattle.std.specs.Prelude.{◌≡◌, ◌&&◌, ℕ, zero, suc, List, [], ◌∷◌, true, Some, slice_get, refl}
use Rattle.std.proofs.Common.{arith, ap, subst}
use Rattle.std.proofs.lemmas.Bool.Decides.{nat_tests}
use Rattle.core_term.specs.declared.sorts.Sort.{Sort}
use Rattle.core_term.specs.declared.sorts.Sort.TheVariants.{PropSort, SetSort, TypeSort}
use Rattle.core_term.specs.Tree.{Tree, Var, Sorted, Constant, Prod, Lam, LetIn, App, same_sort, same_tree}
use Rattle.core_term.proofs.Equality.{both}
use Rattle.term_spine.specs.Spine.{apply_all}
use Rattle.cic_rules.specs.declared.context.Hyp.{Hyp}
use Rattle.cic_rules.specs.declared.env.Slot.{Slot}
use Rattle.cic_rules.specs.Contexts.{plain_hyp, defined_hyp}
use Rattle.cic_rules.specs.Families.{replace_major}
use Rattle.cic_rules.specs.Derive.{Conv, Refl, InProduct, InLambda, InLet, InApply}

pub one_sort : (s r : Sort) → same_sort s r ≡ true → s ≡ r
one_sort PropSort PropSort same = refl
one_sort SetSort SetSort same = refl
one_sort (TypeSort i) (TypeSort j) same = let e : i ≡ j = grind (arith, nat_tests, same) in ap TypeSort e
one_sort _ _ same = cc

-- terms of which each is convertible to the other's at its place
pub data AreConv (env : List Slot) (ctx : List Hyp) : List Tree → List Tree → Type 0 where
  End : AreConv env ctx [] []
  Next : {t u : Tree} {ts us : List Tree} → Conv env ctx t u → AreConv env ctx ts us → AreConv env ctx (t ∷ ts) (u ∷ us)

module _ (env : List Slot) where
  pub same_conv : (ctx : List Hyp) (t u : Tree) → same_tree t u ≡ true → Conv env ctx t u
  same_conv ctx (Var i) (Var j) same = let e : i ≡ j = grind (arith, nat_tests, same) in subst (λ k. Conv env ctx (Var i) (Var k)) e (Refl ctx (Var i))
  same_conv ctx (Sorted s) (Sorted r) same = subst (λ k. Conv env ctx (Sorted s) (Sorted k)) (one_sort s r same) (Refl ctx (Sorted s))
  same_conv ctx (Constant c) (Constant d) same =
      let e : c ≡ d = grind (arith, nat_tests, same) in subst (λ k. Conv env ctx (Constant c) (Constant k)) e (Refl ctx (Constant c))
  same_conv ctx (Prod n a b) (Prod m c d) same =
      let parts = both (same_tree a c) (same_tree b d) same in
      InProduct n m (same_conv ctx a c parts.0) (same_conv (plain_hyp n a ∷ ctx) b d parts.1)
  same_conv ctx (Lam n a b) (Lam m c d) same =
      let parts = both (same_tree a c) (same_tree b d) same in
      InLambda n m (same_conv ctx a c parts.0) (same_conv (plain_hyp n a ∷ ctx) b d parts.1)
  same_conv ctx (LetIn n a t b) (LetIn m c u d) same =
      let parts = both (same_tree a c && same_tree t u) (same_tree b d) same in
      let first = both (same_tree a c) (same_tree t u) parts.0 in
      InLet n m (same_conv ctx a c first.0) (same_conv ctx t u first.1) (same_conv (defined_hyp n a t ∷ ctx) b d parts.1)
  same_conv ctx (App f a) (App g b) same =
      let parts = both (same_tree f g) (same_tree a b) same in
      InApply (same_conv ctx f g parts.0) (same_conv ctx a b parts.1)
  same_conv ctx _ _ same = cc

  pub same_args : (ctx : List Hyp) (ts : List Tree) → AreConv env ctx ts ts
  same_args ctx [] = End
  same_args ctx (t ∷ ts) = Next (Refl ctx t) (same_args ctx ts)

  pub conv_apply_all : (ctx : List Hyp) (f g : Tree) (ts us : List Tree) → Conv env ctx f g → AreConv env ctx ts us → Conv env ctx (apply_all f ts) (apply_all g us)
  conv_apply_all ctx f g ts us h End = h
  conv_apply_all ctx f g ts us h (Next {t = t} {u = u} {ts = xs} {us = ys} one rest) = conv_apply_all ctx (App f t) (App g u) xs ys (InApply h one) rest

  -- arguments of which one is replaced by what it is convertible to
  pub replace_conv : (ctx : List Hyp) (args : List Tree) (at : ℕ) (v w : Tree) → slice_get args at ≡ Some v → Conv env ctx v w →
      AreConv env ctx args (replace_major args at w)
  replace_conv ctx [] at v w e h = End
  replace_conv ctx (a ∷ more) zero v w e h = let same : v ≡ a = cc in Next (subst (λ x. Conv env ctx x w) same h) (same_args ctx more)
  replace_conv ctx (a ∷ more) (suc at) v w e h = Next (Refl ctx a) (replace_conv ctx more at v w e h)
