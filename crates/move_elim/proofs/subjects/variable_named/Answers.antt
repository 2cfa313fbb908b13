use Rattle.std.proofs.Common.{rules, ◌∙◌, sym, ap}
use Rattle.move_elim.specs.Subjects.{if_plain}
use Rattle.move_elim.proofs.ContextLoops.{named_here, named_on}
use Rattle.move_elim.proofs.subjects.variable_named.Goals as goal

pub returns-in-None : goal.returns-in-None
returns-in-None c =
    ap (if_plain c.loop-i.i) (sym c.in-None.is)
    ∙ named_here _ c.loop-i.i c.in-Some.hyp.now c.args.name.now _ c.in-Some.ensures.hyp (search rules) c.loop-i.invariant

pub returns-in-Some-value : goal.returns-in-Some-value
returns-in-Some-value c =
    ap (if_plain c.loop-i.i) (sym c.in-Some-value.is)
    ∙ named_here _ c.loop-i.i c.in-Some.hyp.now c.args.name.now _ c.in-Some.ensures.hyp (search rules) c.loop-i.invariant

pub loop-i-preserved : goal.loop-i-preserved
loop-i-preserved c = named_on _ c.loop-i.i c.in-Some.hyp.now c.args.name.now _ c.in-Some.ensures.hyp (search rules) c.loop-i.invariant
