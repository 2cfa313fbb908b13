use Rattle.std.proofs.Common.{◌≡◌, List, Option, sym, subst, IfOk}
use Rattle.core_term.specs.Tree.{Tree}
use Rattle.proof_state.proofs.Closes.{part_solved, next_within, next_term}
use Rattle.proof_state.proofs.closing.with_part.Goals as goal

pub sketch-requires : goal.sketch-requires
sketch-requires c = part_solved c.args.parts.now c.args.number c.in-Some.part.now c.requires.solved (sym c.in-Some.ensures)

pub plugged-requires : goal.plugged-requires
plugged-requires c =
    next_within c.args.parts.now c.args.number c.in-Some.part.now c.sketch.result.now c.args.terms.now c.requires.table
    (sym c.in-Some.ensures) c.sketch.ensures c.requires.place c.requires.terms

pub returns : goal.returns
returns c =
    let next =
    next_term c.args.parts.now c.args.number c.in-Some.part.now c.sketch.result.now c.args.terms.now c.in_ok-term.term
    (sym c.in-Some.ensures) c.sketch.ensures c.requires.terms c.in_ok-term.ensures in
    subst (λ (all : List (Option Tree)). IfOk c.with_first.result (λ terms. terms ≡ all)) next c.with_first.ensures
