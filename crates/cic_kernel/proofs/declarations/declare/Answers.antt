use Rattle.cic_kernel.proofs.DeclareCalls.{assumption_meets, admission_meets, definition_meets, family_meets}
use Rattle.cic_kernel.proofs.declarations.declare.Goals as goal

pub returns-in-Assume-clause-answer : goal.returns-in-Assume-clause-answer
returns-in-Assume-clause-answer c =
    assumption_meets c.args.env.now c.args.decl.now c.args.fuel.now _ _ c.in-Assume.name c.in-Assume.ty c.in-Assume.is c.assume.ensures.answer

pub returns-in-Admit-clause-answer : goal.returns-in-Admit-clause-answer
returns-in-Admit-clause-answer c =
    admission_meets c.args.env.now c.args.decl.now c.args.fuel.now _ _ c.in-Admit.name c.in-Admit.ty c.in-Admit.is c.assume-in-Admit.ensures.answer

pub returns-in-Define-clause-answer : goal.returns-in-Define-clause-answer
returns-in-Define-clause-answer c =
    definition_meets c.args.env.now c.args.decl.now c.args.fuel.now _ _ c.in-Define.name c.in-Define.ty c.in-Define.body c.in-Define.opaque c.in-Define.is
    c.define.ensures.answer

pub returns-in-Induct-clause-answer : goal.returns-in-Induct-clause-answer
returns-in-Induct-clause-answer c =
    family_meets c.args.env.now c.args.decl.now c.args.fuel.now _ _ c.in-Induct.family c.in-Induct.is c.induct.ensures.answer
