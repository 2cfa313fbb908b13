-- How a definition goes on, by its body's head and arguments and by what was told of the eliminator's type once.
use Rattle.std.specs.Prelude.{◌≡◌, ℕ, List, [], ◌++◌, Option, Some, None, refl}
use Rattle.std.proofs.Common.{ap, sym, ◌∙◌}
use Rattle.core_term.specs.Tree.{Tree, Constant}
use Rattle.term_spine.specs.Spine.{head_of, arguments_of}
use Rattle.term_spine.specs.Spines.{IsSpineOf}
use Rattle.term_spine.specs.declared.spines.Spine.{Spine}
use Rattle.term_spine.proofs.SpineFacts.{head_applied, head_is, arguments_applied, no_arguments}
use Rattle.cic_rules.specs.declared.decls.InductiveDecl.{InductiveDecl}
use Rattle.cic_rules.specs.declared.env.Slot.{Slot}
use Rattle.cic_rules.specs.declared.shapes.FamilyShape.{FamilyShape}
use Rattle.cic_rules.specs.Environments.{body_of_global, decl_at}
use Rattle.cic_rules.specs.Families.{eliminator_of, family_at}
use Rattle.cic_rules.specs.Shapes.{shape_of, shape_if_any, shape_at}
use Rattle.conversion.specs.Lookups.{family_if_any}
use Rattle.move_compute.specs.Refold.{stripped, refold_in, refold_shaped, refold_of}
use Rattle.move_compute.specs.declared.refolds.Stripped.{Stripped}

pub head_made : (s : Spine) (t : Tree) → IsSpineOf s t → head_of t ≡ s.head
head_made s t of = ap head_of (sym of.whole) ∙ head_applied s.head s.args ∙ head_is s.head of.head

pub args_made : (s : Spine) (t : Tree) → IsSpineOf s t → arguments_of t ≡ s.args
args_made s t of = ap arguments_of (sym of.whole) ∙ arguments_applied s.head s.args ∙ ap (λ first. first ++ s.args) (no_arguments s.head of.head)

pub spine_refold : (env : List Slot) (place : ℕ) (body : Tree) (p : Stripped) (s : Spine) → Some body ≡ body_of_global env place → p ≡ stripped [] body →
    IsSpineOf s p.body → refold_in p.under (eliminator_of env s.head) s.head s.args ≡ refold_of env (Constant place)
spine_refold env place body p s is parts of =
    let one = head_made s p.body of in
    let two = args_made s p.body of in
    rw (sym is, sym parts, one, two) refl

pub no_family : (env : List Slot) (under : List Tree) (head : Tree) (args : List Tree) → eliminator_of env head ≡ None →
    None ≡ refold_in under (eliminator_of env head) head args
no_family env under head args e = rw e refl

no_shape_by : (found : Option InductiveDecl) (under : List Tree) (family : ℕ) (head : Tree) (args : List Tree) → shape_if_any family found ≡ None →
    None ≡ refold_in under (family_at family found) head args
no_shape_by None under family head args e = refl
no_shape_by (Some d) under family head args e = cc

pub no_shape : (env : List Slot) (under : List Tree) (family : ℕ) (head : Tree) (args : List Tree) → eliminator_of env head ≡ family_if_any env (Some family) →
    shape_at env family ≡ None → None ≡ refold_in under (eliminator_of env head) head args
no_shape env under family head args is none = rw is (no_shape_by (decl_at env family) under family head args none)

shaped_by : (found : Option InductiveDecl) (under : List Tree) (family : ℕ) (shape : FamilyShape) (head : Tree) (args : List Tree) →
    shape_if_any family found ≡ Some shape → refold_shaped under family shape head args ≡ refold_in under (family_at family found) head args
shaped_by None under family shape head args e = cc
shaped_by (Some d) under family shape head args e =
    let is : shape_of family d ≡ shape = cc in
    ap (λ s. refold_shaped under family s head args) (sym is)

pub shaped : (env : List Slot) (under : List Tree) (family : ℕ) (shape : FamilyShape) (head : Tree) (args : List Tree) →
    eliminator_of env head ≡ family_if_any env (Some family) → shape_at env family ≡ Some shape →
    refold_shaped under family shape head args ≡ refold_in under (eliminator_of env head) head args
shaped env under family shape head args is told = rw is (shaped_by (decl_at env family) under family shape head args told)
