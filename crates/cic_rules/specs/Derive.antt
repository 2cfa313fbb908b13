-- Typing as a relation, with no order of work and no fuel.
use Rattle.std.specs.Prelude.{◌≡◌, ℕ, List, [], ◌∷◌, Some, IsTrue}
use Rattle.core_term.specs.declared.sorts.Sort.{Sort}
use Rattle.core_term.specs.Sorts.{sort_below, sort_of_product}
use Rattle.core_term.specs.Tree.{Tree, Var, Sorted, Constant, Prod, Lam, LetIn, App, same_tree}
use Rattle.core_term.specs.Places.{subst_of}
use Rattle.term_spine.specs.Globals.{has}
use Rattle.term_spine.specs.Spine.{apply_all, eta_body}
use Rattle.cic_rules.specs.declared.context.Hyp.{Hyp}
use Rattle.cic_rules.specs.declared.env.Slot.{Slot}
use Rattle.cic_rules.specs.Contexts.{plain_hyp, defined_hyp, type_of_variable, value_of_variable}
use Rattle.cic_rules.specs.Environments.{type_of_global, body_of_global}
use Rattle.cic_rules.specs.Families.{major_premise, iota}
use Rattle.cic_rules.specs.Infer.{type_of_sort}

-- the least equivalence that goes through every node, whatever its names, and holds each contraction and eta
pub data Conv (env : List Slot) : List Hyp → Tree → Tree → Type 0 where
  Refl : (ctx : List Hyp) (t : Tree) → Conv env ctx t t
  Sym : {ctx : List Hyp} {t u : Tree} → Conv env ctx t u → Conv env ctx u t
  Trans : {ctx : List Hyp} {t u v : Tree} → Conv env ctx t u → Conv env ctx u v → Conv env ctx t v
  InProduct : {ctx : List Hyp} {a b c d : Tree} (n m : List ℕ) → Conv env ctx a c → Conv env (plain_hyp n a ∷ ctx) b d →
      Conv env ctx (Prod n a b) (Prod m c d)
  InLambda : {ctx : List Hyp} {a b c d : Tree} (n m : List ℕ) → Conv env ctx a c → Conv env (plain_hyp n a ∷ ctx) b d →
      Conv env ctx (Lam n a b) (Lam m c d)
  InLet : {ctx : List Hyp} {a t b c u d : Tree} (n m : List ℕ) → Conv env ctx a c → Conv env ctx t u →
      Conv env (defined_hyp n a t ∷ ctx) b d → Conv env ctx (LetIn n a t b) (LetIn m c u d)
  InApply : {ctx : List Hyp} {f a g b : Tree} → Conv env ctx f g → Conv env ctx a b → Conv env ctx (App f a) (App g b)
  -- beta and zeta
  Beta : (ctx : List Hyp) (n : List ℕ) (a b v : Tree) → Conv env ctx (App (Lam n a b) v) (subst_of b v 0)
  Zeta : (ctx : List Hyp) (n : List ℕ) (a t b : Tree) → Conv env ctx (LetIn n a t b) (subst_of b t 0)
  -- a definition of the context, and a transparent one of the environment
  OfContext : (ctx : List Hyp) (i : ℕ) (t : Tree) → value_of_variable ctx i ≡ Some t → Conv env ctx (Var i) t
  Delta : (ctx : List Hyp) (c : ℕ) (t : Tree) → body_of_global env c ≡ Some t → Conv env ctx (Constant c) t
  -- an eliminator whose value is a constructor
  Iota : (ctx : List Hyp) (c : ℕ) (args : List Tree) (value t : Tree) → major_premise env (Constant c) args ≡ Some value →
      iota env (Constant c) args value ≡ Some t → Conv env ctx (apply_all (Constant c) args) t
  -- a function that applies another to its variable
  Eta : (ctx : List Hyp) (n : List ℕ) (a f : Tree) → Conv env ctx (Lam n a (eta_body f)) f

-- the least transitive relation that holds equality, the order of sorts, and for products equal domains with codomains in it
pub data Cumul (env : List Slot) : List Hyp → Tree → Tree → Type 0 where
  Equal : {ctx : List Hyp} {t u : Tree} → Conv env ctx t u → Cumul env ctx t u
  Sorts : (ctx : List Hyp) (s r : Sort) → IsTrue (sort_below s r) → Cumul env ctx (Sorted s) (Sorted r)
  Codomains : {ctx : List Hyp} {a b c d : Tree} (n m : List ℕ) → Conv env ctx a c → Cumul env (plain_hyp n a ∷ ctx) b d →
      Cumul env ctx (Prod n a b) (Prod m c d)
  CumulTrans : {ctx : List Hyp} {t u v : Tree} → Cumul env ctx t u → Cumul env ctx u v → Cumul env ctx t v

mutual
  -- a context is well formed over some names: each type has a sort in the context before it, and each definition its type
  pub data WfContext (env : List Slot) (used : List ℕ) : List Hyp → Type 0 where
    Empty : WfContext env used []
    Assumes : {ctx : List Hyp} {a : Tree} (n : List ℕ) (s : Sort) → WfContext env used ctx → HasType env used ctx a (Sorted s) →
        WfContext env used (plain_hyp n a ∷ ctx)
    Defines : {ctx : List Hyp} {a t : Tree} (n : List ℕ) (s : Sort) → WfContext env used ctx → HasType env used ctx a (Sorted s) →
        HasType env used ctx t a → WfContext env used (defined_hyp n a t ∷ ctx)

  -- a term has a type over some names in a context
  pub data HasType (env : List Slot) (used : List ℕ) : List Hyp → Tree → Tree → Type 0 where
    OfSort : {ctx : List Hyp} (s r : Sort) → WfContext env used ctx → type_of_sort s ≡ Some r →
        HasType env used ctx (Sorted s) (Sorted r)
    OfVariable : {ctx : List Hyp} (i : ℕ) (a : Tree) → WfContext env used ctx → type_of_variable ctx i ≡ Some a →
        HasType env used ctx (Var i) a
    OfGlobal : {ctx : List Hyp} (c : ℕ) (a : Tree) → WfContext env used ctx → IsTrue (has used c) → type_of_global env c ≡ Some a →
        HasType env used ctx (Constant c) a
    OfProduct : {ctx : List Hyp} {a b : Tree} (n : List ℕ) (s r : Sort) → HasType env used ctx a (Sorted s) →
        HasType env used (plain_hyp n a ∷ ctx) b (Sorted r) → HasType env used ctx (Prod n a b) (Sorted (sort_of_product s r))
    OfLambda : {ctx : List Hyp} {a b t : Tree} (n : List ℕ) (s : Sort) → HasType env used ctx (Prod n a b) (Sorted s) →
        HasType env used (plain_hyp n a ∷ ctx) t b → HasType env used ctx (Lam n a t) (Prod n a b)
    OfApply : {ctx : List Hyp} {f v a b : Tree} (n : List ℕ) → HasType env used ctx f (Prod n a b) → HasType env used ctx v a →
        HasType env used ctx (App f v) (subst_of b v 0)
    OfLet : {ctx : List Hyp} {a t b c : Tree} (n : List ℕ) (s : Sort) → HasType env used ctx a (Sorted s) → HasType env used ctx t a →
        HasType env used (defined_hyp n a t ∷ ctx) b c → HasType env used ctx (LetIn n a t b) (subst_of c t 0)
    -- a type that is below another that has a sort
    Converts : {ctx : List Hyp} {t a b : Tree} (s : Sort) → HasType env used ctx t a → Cumul env ctx a b →
        HasType env used ctx b (Sorted s) → HasType env used ctx t b
    -- names of binders don't count
    Alpha : {ctx : List Hyp} {t a b : Tree} → HasType env used ctx t a → IsTrue (same_tree a b) → HasType env used ctx t b
