use Rattle.std.proofs.Common.{◌∙◌, ap}
use Rattle.proof_state.specs.Numbering.{numbering}
use Rattle.proof_state.proofs.States.{fill_kept, fill_gives}
use Rattle.proof_state.proofs.state.Table.fill.Goals as goal

pub with-requires : goal.with-requires
with-requires c =
    fill_kept c.args.self.now c.args.n c.args.sketch c.in_ok-numbered.numbered c.in_ok-parts.parts c.in_ok-given_up.given_up
    c.requires.kept c.requires.may (c.in_ok-numbered.ensures ∙ ap (numbering c.args.sketch) c.in_ok-before.ensures)
    c.in_ok-parts.ensures c.in_ok-given_up.ensures

pub returns : goal.returns
returns c =
    fill_gives c.args.self.now c.args.n c.args.sketch c.in_ok-numbered.numbered c.in_ok-parts.parts c.in_ok-given_up.given_up c.in_ok-goals.goals
    c.in_ok-proof.proof c.len-first.result c.len.result c.requires.kept c.requires.may
    (c.in_ok-numbered.ensures ∙ ap (numbering c.args.sketch) c.in_ok-before.ensures) c.in_ok-parts.ensures c.in_ok-given_up.ensures
    c.len-first.ensures.count c.len.ensures.count c.in_ok-goals.ensures c.in_ok-proof.ensures
