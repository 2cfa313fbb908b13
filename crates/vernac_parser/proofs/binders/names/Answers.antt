use Rattle.std.proofs.Common.{◌≡◌, [], refl, ap, sym, ◌∙◌, List, ◌∷◌}
use Rattle.std.proofs.lemmas.Result.{err_from_is_err_and}
use Rattle.coq_syntax.specs.declared.words.BoundName.{BoundName}
use Rattle.vernac_parser.specs.Reads.{counted}
use Rattle.vernac_parser.specs.Parse.{binder_name, is_name, with_name}
use Rattle.vernac_parser.proofs.LocalRules.{takes_name}
use Rattle.vernac_parser.proofs.Turns.{onto, more, done, failed, smaller}
use Rattle.vernac_parser.proofs.binders.names.Goals as goal

all_names : (ns : List BoundName) → onto (λ n. with_name n) ns [] ≡ ns
all_names [] = refl
all_names (n ∷ ns) = ap (λ ms. n ∷ ms) (all_names ns)

pub returns-in_err-binder_name-2 : goal.returns-in_err-binder_name-2
returns-in_err-binder_name-2 c =
    let p = err_from_is_err_and c.from_residual-in_err-binder_name-2.result c.from_residual-in_err-binder_name-2.ensures.1 in
    rw (p.1, p.2) (λ apart.
    ap counted (sym c.loop-alloc.invariant)
    ∙ failed (λ n. n) is_name binder_name with_name [] c.loop-alloc.names.items c.loop-alloc.tokens _ (ap is_name (sym c.sign.ensures) ∙ sym c.loop-alloc-test.ensures) (c.in_err-binder_name-2.ensures apart))

pub loop-alloc-smaller : goal.loop-alloc-smaller
loop-alloc-smaller c = smaller (λ n. n) is_name binder_name with_name [] takes_name _ c.loop-alloc.tokens _ (ap is_name (sym c.sign.ensures) ∙ sym c.loop-alloc-test.ensures) c.in_ok-binder_name-2.ensures

pub loop-alloc-preserved : goal.loop-alloc-preserved
loop-alloc-preserved c =
    rw c.in_ok-push-2.ensures.items (more (λ n. n) is_name binder_name with_name [] takes_name c.loop-alloc.names.items _ _ _ (ap is_name (sym c.sign.ensures) ∙ sym c.loop-alloc-test.ensures) c.in_ok-binder_name-2.ensures ∙ c.loop-alloc.invariant)

pub returns : goal.returns
returns c =
    sym c.loop-alloc.invariant
    ∙ done (λ n. n) is_name binder_name with_name [] c.loop-alloc.names.items c.loop-alloc.tokens (ap is_name (sym c.sign.ensures) ∙ sym c.loop-alloc-test.ensures)
    ∙ rw (all_names c.loop-alloc.names.items)
