use Rattle.std.proofs.Common.{◌-◌, Some, ap, ◌∙◌, arith}
use Rattle.elaborator.specs.Names.{index_of}
use Rattle.elaborator.proofs.IndexLaws.{found, not_found}
use Rattle.elaborator.proofs.scope.Scope.find.Goals as goal

pub overflow_sub-result : goal.overflow_sub-result
overflow_sub-result c =
    let both = found c.self.inside.places c.self.inside.ctx c.args.name.now c.in-Some.before.now c.self.invariant c.in-Some.ensures in
    omega (arith, both.0, c.len.ensures.count)

pub overflow_sub-result-in-Some : goal.overflow_sub-result-in-Some
overflow_sub-result-in-Some c =
    let both = found c.self.inside.places c.self.inside.ctx c.args.name.now c.in-Some.before.now c.self.invariant c.in-Some.ensures in
    omega (arith, both.0, c.len.ensures.count)

pub returns-in-Some : goal.returns-in-Some
returns-in-Some c =
    let both = found c.self.inside.places c.self.inside.ctx c.args.name.now c.in-Some.before.now c.self.invariant c.in-Some.ensures in
    ap (λ n. Some (n - 1 - c.in-Some.before.now)) c.len.ensures.count ∙ both.1 ∙ ap (λ s. index_of s c.args.name.now) c.self.view_is

pub returns-in-None : goal.returns-in-None
returns-in-None c =
    not_found c.self.inside.places c.self.inside.ctx c.args.name.now c.self.invariant c.in-None.ensures
    ∙ ap (λ s. index_of s c.args.name.now) c.self.view_is
