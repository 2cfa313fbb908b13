-- Arguments one by one.
use Rattle.std.specs.Prelude.{◌≡◌, ℕ, zero, suc, ◌-◌, ◌<◌, List, ◌∷◌, ◌++◌, take, drop}
use Rattle.std.proofs.Common.{arith, ap, sym, ◌∙◌}
use Rattle.core_term.specs.Tree.{Tree}
use Rattle.term_spine.specs.declared.spines.Spine.{Spine}
use Rattle.term_spine.specs.Spine.{arguments_of, head_of}
use Rattle.term_spine.specs.Spines.{IsSpineOf}
use Rattle.term_spine.proofs.SpineFacts.{head_applied, head_is, arguments_applied, no_arguments}

pub drop_next : (count : ℕ) (args : List Tree) (first : Tree) (rest : List Tree) → args ≡ first ∷ rest → 0 < count → drop count args ≡ drop (count - 1) rest
drop_next zero args first rest e more = absurd (omega (arith, more))
drop_next (suc count) args first rest e more = let one : suc count - 1 ≡ count = omega arith in rw one (ap (drop (suc count)) e)

pub take_next : (count : ℕ) (args : List Tree) (first : Tree) (rest : List Tree) → args ≡ first ∷ rest → 0 < count →
    take count args ≡ first ∷ take (count - 1) rest
take_next zero args first rest e more = absurd (omega (arith, more))
take_next (suc count) args first rest e more = let one : suc count - 1 ≡ count = omega arith in rw one (ap (take (suc count)) e)

pub spine_head : (s : Spine) (u t : Tree) → IsSpineOf s u → u ≡ t → s.head ≡ head_of t
spine_head s u t of same = sym (ap head_of (sym (of.whole ∙ same)) ∙ head_applied s.head s.args ∙ head_is s.head of.head)

pub spine_args : (s : Spine) (u t : Tree) → IsSpineOf s u → u ≡ t → s.args ≡ arguments_of t
spine_args s u t of same =
    sym (ap arguments_of (sym (of.whole ∙ same)) ∙ arguments_applied s.head s.args ∙ ap (λ first. first ++ s.args) (no_arguments s.head of.head))
