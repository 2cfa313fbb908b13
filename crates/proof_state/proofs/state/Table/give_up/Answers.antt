use Rattle.std.proofs.Common.{sym}
use Rattle.proof_state.proofs.States.{give_up_kept, give_up_gives}
use Rattle.proof_state.proofs.state.Table.give_up.Goals as goal

pub with-requires : goal.with-requires
with-requires c =
    give_up_kept c.args.self.now c.args.n c.in-Some-Open.goal c.in_ok-goal.goal c.in_ok-parts.parts c.in_ok-given_up.given_up c.requires.kept
    (sym (rw c.in-Some-Open.field-0-is at c.in-Some-Open.ensures)) c.in_ok-goal.ensures c.in_ok-parts.ensures c.in_ok-given_up.ensures

pub returns : goal.returns
returns c =
    give_up_gives c.args.self.now c.args.n c.in-Some-Open.goal c.in_ok-goal.goal c.in_ok-parts.parts c.in_ok-given_up.given_up
    c.in_ok-proof.proof c.new.result (sym (rw c.in-Some-Open.field-0-is at c.in-Some-Open.ensures)) c.in_ok-goal.ensures c.in_ok-parts.ensures c.in_ok-given_up.ensures
    c.in_ok-proof.ensures c.new.ensures
