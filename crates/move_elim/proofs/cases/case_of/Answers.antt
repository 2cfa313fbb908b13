use Rattle.std.proofs.Common.{◌+◌}
use Rattle.move_elim.proofs.CaseLaws.{is_first_walk}
use Rattle.move_elim.proofs.cases.case_of.Goals as goal

pub case_from-requires-clause-walk : goal.case_from-requires-clause-walk
case_from-requires-clause-walk c =
    is_first_walk c.args.env.now c.args.hidden.now c.args.c.now c.args.x.now c.args.ctor.now.ty c.in_ok-ty.ty c.in_ok-built.built
    (c.args.x.now.place + 1 + c.args.index) c.in_ok-site.site c.in_ok-ctx.ctx c.in_ok-names.names c.requires.cases c.requires.ctor c.requires.place
    c.in_ok-ty.ensures c.in_ok-built.ensures c.in_ok-site.ensures c.in_ok-ctx.ensures
