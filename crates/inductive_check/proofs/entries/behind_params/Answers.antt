use Rattle.std.proofs.Common.{sym, subst, arith}
use Rattle.inductive_check.specs.Levels.{MayPlace, AreCtorsPlaced}
use Rattle.inductive_check.specs.Entries.{AreCtorsFree}
use Rattle.inductive_check.proofs.TopLaws.{top_arity, top_ctors}
use Rattle.inductive_check.proofs.entries.behind_params.Goals as goal

pub cases-requires-clause-arity : goal.cases-requires-clause-arity
cases-requires-clause-arity c =
    let level = c.requires.motive.level in
    let few = c.requires.few.params in
    let free = c.requires.ready.arity in
    subst (λ s. MayPlace s c.args.i.now.decl.arity) (sym c.in_ok-site.ensures)
    (top_arity c.args.i.now.decl.arity c.args.m.level (omega (arith, level, few)) (omega (arith, level, free)))

pub cases-requires-clause-ctors : goal.cases-requires-clause-ctors
cases-requires-clause-ctors c =
    subst (AreCtorsPlaced c.in_ok-site.site) (sym c.as_slice-in-Ok.ensures)
    (subst (λ s. AreCtorsPlaced s c.args.i.now.decl.ctors) (sym c.in_ok-site.ensures)
    (top_ctors c.args.i.now.decl.ctors c.args.m.level
    (subst (λ n. AreCtorsFree n c.args.i.now.decl.ctors) (sym c.requires.motive.level) c.requires.ready.ctors)))
