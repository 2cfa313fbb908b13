use Rattle.std.proofs.Common.{◌∙◌}
use Rattle.doc_check.proofs.Taking.{under_start, under_stands, on_stands, on_rows, under_on, under_ends, smaller}
use Rattle.doc_check.proofs.document.DocCheck.take_kept.Goals as goal

pub loop-init : goal.loop-init
loop-init g c = under_start g.P.Prover.meaning g.P.Prover.means c.args.table.now c.args.self.now

pub take_one-requires : goal.take_one-requires
take_one-requires g c =
    record {
      stands = under_stands g.P.Prover.meaning g.P.Prover.means c.args.table.now c.loop.table c.args.self.now c.loop.self c.loop.invariant c.requires.stands;
    }

pub returns-in_err-take_one-clause-text : goal.returns-in_err-take_one-clause-text
returns-in_err-take_one-clause-text g c = c.in_err-take_one.ensures.text ∙ c.loop.invariant.text

pub returns-in_err-take_one-clause-rows : goal.returns-in_err-take_one-clause-rows
returns-in_err-take_one-clause-rows g c =
    on_rows g.P.Prover.meaning g.P.Prover.means c.args.table.now c.loop.table c.take_one.new.table c.args.self.now c.loop.self c.loop.invariant
    c.in_err-take_one.ensures.rows

pub returns-in_err-take_one-clause-stands : goal.returns-in_err-take_one-clause-stands
returns-in_err-take_one-clause-stands g c =
    on_stands g.P.Prover.meaning g.P.Prover.means c.args.table.now c.loop.table c.take_one.new.table c.args.self.now c.loop.self c.take_one.new.self c.loop.invariant
    c.in_err-take_one.ensures.stands

pub returns-then-not-branch-clause-taken : goal.returns-then-not-branch-clause-taken
returns-then-not-branch-clause-taken g c =
    under_ends g.P.Prover.meaning g.P.Prover.means c.args.table.now c.loop.table c.take_one.new.table c.args.self.now c.loop.self c.take_one.new.self c.loop.invariant
    c.in_ok-take_one.ensures.same (c.in_ok-take_one.ensures.none c.if-not-branch.true)

pub returns-then-not-branch-clause-text : goal.returns-then-not-branch-clause-text
returns-then-not-branch-clause-text g c = c.in_ok-take_one.ensures.text ∙ c.loop.invariant.text

pub returns-then-not-branch-clause-rows : goal.returns-then-not-branch-clause-rows
returns-then-not-branch-clause-rows g c =
    on_rows g.P.Prover.meaning g.P.Prover.means c.args.table.now c.loop.table c.take_one.new.table c.args.self.now c.loop.self c.loop.invariant
    c.in_ok-take_one.ensures.rows

pub returns-then-not-branch-clause-stands : goal.returns-then-not-branch-clause-stands
returns-then-not-branch-clause-stands g c =
    on_stands g.P.Prover.meaning g.P.Prover.means c.args.table.now c.loop.table c.take_one.new.table c.args.self.now c.loop.self c.take_one.new.self c.loop.invariant
    c.in_ok-take_one.ensures.stands

pub loop-smaller : goal.loop-smaller
loop-smaller g c = smaller c.loop.self c.take_one.new.self c.in_ok-take_one.field-0 c.if-not-branch.false c.in_ok-take_one.ensures.one c.in_ok-take_one.ensures.text

pub loop-preserved : goal.loop-preserved
loop-preserved g c =
    under_on g.P.Prover.meaning g.P.Prover.means c.args.table.now c.loop.table c.take_one.new.table c.args.self.now c.loop.self c.take_one.new.self c.loop.invariant
    c.in_ok-take_one.ensures.same c.in_ok-take_one.ensures.text c.in_ok-take_one.ensures.rows c.in_ok-take_one.ensures.stands
