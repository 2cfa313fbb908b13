-- A derivation over more names.
use Rattle.std.specs.Prelude.{ℕ, List}
use Rattle.core_term.specs.Tree.{Tree}
use Rattle.cic_rules.specs.declared.context.Hyp.{Hyp}
use Rattle.cic_rules.specs.declared.env.Slot.{Slot}
use Rattle.cic_rules.specs.Derive.{WfContext, Empty, Assumes, Defines, HasType, OfSort, OfVariable, OfGlobal, OfProduct, OfLambda, OfApply, OfLet, Converts, Alpha}
use Rattle.cic_rules.specs.Laws.{HasAll, NamesMayGrow}

module _ {env : List Slot} {used all : List ℕ} (more : HasAll used all) where
  mutual
    formed_more : {ctx : List Hyp} → WfContext env used ctx → WfContext env all ctx
    formed_more Empty = Empty
    formed_more (Assumes n s f a) = Assumes n s (formed_more f) (derives_more a)
    formed_more (Defines n s f a t) = Defines n s (formed_more f) (derives_more a) (derives_more t)

    derives_more : {ctx : List Hyp} {t a : Tree} → HasType env used ctx t a → HasType env all ctx t a
    derives_more (OfSort s r f e) = OfSort s r (formed_more f) e
    derives_more (OfVariable i a f e) = OfVariable i a (formed_more f) e
    derives_more (OfGlobal c a f u e) = OfGlobal c a (formed_more f) (more c u) e
    derives_more (OfProduct n s r a b) = OfProduct n s r (derives_more a) (derives_more b)
    derives_more (OfLambda n s p t) = OfLambda n s (derives_more p) (derives_more t)
    derives_more (OfApply n f v) = OfApply n (derives_more f) (derives_more v)
    derives_more (OfLet n s a t b) = OfLet n s (derives_more a) (derives_more t) (derives_more b)
    derives_more (Converts s t e a) = Converts s (derives_more t) e (derives_more a)
    derives_more (Alpha t e) = Alpha (derives_more t) e

pub names_may_grow : NamesMayGrow
names_may_grow = record {
  formed = λ (env : List Slot) (used all : List ℕ) (ctx : List Hyp) (more : HasAll used all) (f : WfContext env used ctx). formed_more more f;
  derives = λ (env : List Slot) (used all : List ℕ) (ctx : List Hyp) (t a : Tree) (more : HasAll used all) (d : HasType env used ctx t a). derives_more more d;
}
