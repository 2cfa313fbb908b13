-- The parameters below binders, and the form of a constructor's type there.
use Rattle.std.specs.Prelude.{◌≡◌, ℕ, zero, suc, ◌+◌, ◌-◌, ◌<◌, ◌==◌, nat_le, ◌++◌, List, [], ◌∷◌, length, take, drop, true, false, ◌&&◌, if◌then◌else◌, refl}
use Rattle.std.proofs.Common.{arith, ap, sym, ◌∙◌}
use Rattle.std.proofs.lemmas.Bool.Decides.{nat_tests}
use Rattle.core_term.specs.Tree.{Tree, Var, Prod, same_tree}
use Rattle.core_term.specs.declared.terms.Node.{Node}
use Rattle.core_term.specs.declared.terms.Node.TheVariants as node
use Rattle.core_term.specs.Nodes.{tree_of}
use Rattle.term_spine.specs.Globals.{mentions}
use Rattle.term_spine.specs.declared.spines.Spine.{Spine}
use Rattle.term_spine.specs.Spines.{IsSpineOf}
use Rattle.term_spine.specs.Spine.{head_of, arguments_of, same_trees, shift, shift_all, variables_of}
use Rattle.term_spine.proofs.SpineFacts.{head_applied, head_is, arguments_applied, no_arguments}
use Rattle.cic_rules.specs.declared.decls.Ctor.{Ctor}
use Rattle.cic_rules.specs.declared.decls.InductiveDecl.{InductiveDecl}
use Rattle.cic_rules.specs.Families.{count_params, count_indices}
use Rattle.cic_rules.specs.Inductive.{is_family, is_absent, is_applied, is_constructors, is_recursive, is_positive, are_positive, params_of}
use Rattle.inductive_check.specs.declared.forms.Form.{Form}
use Rattle.inductive_check.specs.Forms.{params_under, applied_spine, family_spine, is_constructor_at, is_recursive_at, is_positive_argument, is_positive_at, are_positive_at}
use Rattle.inductive_check.specs.Steps.{form_of}

-- one binder deeper
pub shift_var : (i : ℕ) → shift (Var i) ≡ Var (i + 1)
shift_var i = let all : nat_le 0 i ≡ true = grind (arith, nat_tests) in ap (λ b. Var (if b then i + 1 else i)) all

pub params_shift : (binders n : ℕ) → shift_all (params_under binders n) ≡ params_under (binders + 1) n
params_shift binders zero = refl
params_shift binders (suc n) =
    let at : n + binders + 1 ≡ n + (binders + 1) = omega arith in
    ap (λ t. t ∷ shift_all (params_under binders n)) (shift_var (n + binders))
    ∙ ap (λ more. Var (n + binders + 1) ∷ more) (params_shift binders n) ∙ ap (λ i. Var i ∷ params_under (binders + 1) n) at

pub params_length : (binders n : ℕ) → length (params_under binders n) ≡ n
params_length binders zero = refl
params_length binders (suc n) = ap suc (params_length binders n)

-- at the top they are the variables of the context
pub params_top : (n : ℕ) → variables_of n ≡ params_under 0 n
params_top zero = refl
params_top (suc n) = let at : n ≡ n + 0 = omega arith in ap (λ more. Var n ∷ more) (params_top n) ∙ ap (λ i. Var i ∷ params_under 0 n) at

applied_is : (f : Form) (binders : ℕ) (t : Tree) →
    is_applied f.place (params_under binders f.params) t ≡ applied_spine f binders (head_of t) (arguments_of t)
applied_is f binders t =
    ap (λ n. is_family f.place (head_of t) && same_trees (take n (arguments_of t)) (params_under binders f.params) && is_absent f.place (drop n (arguments_of t)))
    (params_length binders f.params)

family_is : (f : Form) (binders : ℕ) (t : Tree) →
    (is_applied f.place (params_under binders f.params) t && (length (arguments_of t) == length (params_under binders f.params) + f.indices))
    ≡ family_spine f binders (head_of t) (arguments_of t)
family_is f binders t =
    ap (λ b. b && (length (arguments_of t) == length (params_under binders f.params) + f.indices)) (applied_is f binders t)
    ∙ ap (λ n. applied_spine f binders (head_of t) (arguments_of t) && (length (arguments_of t) == n + f.indices)) (params_length binders f.params)

-- products
pub constructor_under : (f : Form) (binders : ℕ) (n : List ℕ) (a b : Tree) →
    is_constructor_at f binders (Prod n a b) ≡ is_constructor_at f (binders + 1) b
constructor_under f binders n a b = ap (λ ps. is_constructors f.place ps f.indices b) (params_shift binders f.params)

pub recursive_under : (f : Form) (binders : ℕ) (n : List ℕ) (a b : Tree) →
    is_recursive_at f binders (Prod n a b) ≡ (is_absent f.place (a ∷ []) && is_recursive_at f (binders + 1) b)
recursive_under f binders n a b = ap (λ ps. is_absent f.place (a ∷ []) && is_recursive f.place ps b) (params_shift binders f.params)

pub positive_under : (f : Form) (binders : ℕ) (n : List ℕ) (a b : Tree) →
    is_positive_at f binders (Prod n a b)
    ≡ (is_positive_argument f binders a && is_positive_at f (binders + 1) b)
positive_under f binders n a b =
    ap (λ ps. is_positive_argument f binders a && is_positive f.place ps b) (params_shift binders f.params)

-- ends
pub constructor_end : (f : Form) (binders : ℕ) (top : Node) → ((n : List ℕ) (a b : Tree) → top ≡ node.Prod n a b → ⊥) →
    is_constructor_at f binders (tree_of top) ≡ family_spine f binders (head_of (tree_of top)) (arguments_of (tree_of top))
constructor_end f binders (node.Prod n a b) apart = absurd (apart n a b refl)
constructor_end f binders (node.Var i) apart = family_is f binders (tree_of (node.Var i))
constructor_end f binders (node.Sorted s) apart = family_is f binders (tree_of (node.Sorted s))
constructor_end f binders (node.Constant c) apart = family_is f binders (tree_of (node.Constant c))
constructor_end f binders (node.Lam n a b) apart = family_is f binders (tree_of (node.Lam n a b))
constructor_end f binders (node.LetIn n a t b) apart = family_is f binders (tree_of (node.LetIn n a t b))
constructor_end f binders (node.App g a) apart = family_is f binders (tree_of (node.App g a))

pub recursive_end : (f : Form) (binders : ℕ) (top : Node) → ((n : List ℕ) (a b : Tree) → top ≡ node.Prod n a b → ⊥) →
    is_recursive_at f binders (tree_of top) ≡ applied_spine f binders (head_of (tree_of top)) (arguments_of (tree_of top))
recursive_end f binders (node.Prod n a b) apart = absurd (apart n a b refl)
recursive_end f binders (node.Var i) apart = applied_is f binders (tree_of (node.Var i))
recursive_end f binders (node.Sorted s) apart = applied_is f binders (tree_of (node.Sorted s))
recursive_end f binders (node.Constant c) apart = applied_is f binders (tree_of (node.Constant c))
recursive_end f binders (node.Lam n a b) apart = applied_is f binders (tree_of (node.Lam n a b))
recursive_end f binders (node.LetIn n a t b) apart = applied_is f binders (tree_of (node.LetIn n a t b))
recursive_end f binders (node.App g a) apart = applied_is f binders (tree_of (node.App g a))

pub positive_end : (f : Form) (binders : ℕ) (top : Node) → ((n : List ℕ) (a b : Tree) → top ≡ node.Prod n a b → ⊥) →
    is_positive_at f binders (tree_of top) ≡ true
positive_end f binders (node.Prod n a b) apart = absurd (apart n a b refl)
positive_end f binders (node.Var i) apart = refl
positive_end f binders (node.Sorted s) apart = refl
positive_end f binders (node.Constant c) apart = refl
positive_end f binders (node.Lam n a b) apart = refl
positive_end f binders (node.LetIn n a t b) apart = refl
positive_end f binders (node.App g a) apart = refl

-- of a declaration
pub constructor_top : (place : ℕ) (d : InductiveDecl) (t : Tree) →
    is_constructor_at (form_of place d) 0 t ≡ is_constructors place (params_of d) (count_indices d) t
constructor_top place d t = ap (λ ps. is_constructors place ps (count_indices d) t) (sym (params_top (count_params d)))

pub positive_all : (place : ℕ) (d : InductiveDecl) (cs : List Ctor) → are_positive_at (form_of place d) cs ≡ are_positive place (params_of d) cs
positive_all place d cs = ap (λ ps. are_positive place ps cs) (sym (params_top (count_params d)))

-- the head and the arguments of a spine
pub spine_head : (s : Spine) (u t : Tree) → IsSpineOf s u → u ≡ t → s.head ≡ head_of t
spine_head s u t of same = sym (ap head_of (sym (of.whole ∙ same)) ∙ head_applied s.head s.args ∙ head_is s.head of.head)

pub spine_args : (s : Spine) (u t : Tree) → IsSpineOf s u → u ≡ t → s.args ≡ arguments_of t
spine_args s u t of same =
    sym (ap arguments_of (sym (of.whole ∙ same)) ∙ arguments_applied s.head s.args ∙ ap (λ first. first ++ s.args) (no_arguments s.head of.head))

-- a first argument that is a parameter
pub params_next : (count binders : ℕ) (args rest : List Tree) (first : Tree) → 0 < count → args ≡ first ∷ rest →
    same_tree first (Var (count - 1 + binders)) ≡ true →
    same_trees (take count args) (params_under binders count) ≡ same_trees (take (count - 1) rest) (params_under binders (count - 1))
params_next zero binders args rest first some split same = absurd (omega (arith, some))
params_next (suc count) binders args rest first some split same =
    let one : suc count - 1 ≡ count = omega arith in
    let here : same_tree first (Var (count + binders)) ≡ true = ap (λ n. same_tree first (Var (n + binders))) (sym one) ∙ same in
    ap (λ xs. same_trees (take (suc count) xs) (params_under binders (suc count))) split
    ∙ ap (λ b. b && same_trees (take count rest) (params_under binders count)) here
    ∙ ap (λ n. same_trees (take n rest) (params_under binders n)) (sym one)

-- arguments' own products
pub recursive_step : (f : Form) (binders : ℕ) (n : List ℕ) (a b : Tree) → mentions f.place a ≡ false →
    is_recursive_at f binders (Prod n a b) ≡ is_recursive_at f (binders + 1) b
recursive_step f binders n a b absent =
    recursive_under f binders n a b
    ∙ ap (λ m. (if (if m then true else false) then false else true) && is_recursive_at f (binders + 1) b) absent

pub positive_step : (f : Form) (binders : ℕ) (n : List ℕ) (a b : Tree) → is_positive_argument f binders a ≡ true →
    is_positive_at f binders (Prod n a b) ≡ is_positive_at f (binders + 1) b
positive_step f binders n a b good = positive_under f binders n a b ∙ ap (λ m. m && is_positive_at f (binders + 1) b) good

pub positive_stop : (f : Form) (binders : ℕ) (n : List ℕ) (a b : Tree) → is_positive_argument f binders a ≡ false →
    is_positive_at f binders (Prod n a b) ≡ false
positive_stop f binders n a b bad = positive_under f binders n a b ∙ ap (λ m. m && is_positive_at f (binders + 1) b) bad
