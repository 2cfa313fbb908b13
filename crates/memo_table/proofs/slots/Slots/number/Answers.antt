use Rattle.std.proofs.Common.{rules, ap, ◌∙◌}
use Rattle.memo_table.specs.Entries.{number_of}
use Rattle.memo_table.proofs.Indexing.{number_unknown, number_gone, number_held, number_other}
use Rattle.memo_table.proofs.slots.Slots.number.Goals as goal

pub returns-in_err-number : goal.returns-in_err-number
returns-in_err-number g c = c.from_residual.ensures ∙ number_unknown c.self.inside.numbers _ c.self.invariant.listed c.args.key.now (search rules) ∙ ap (number_of c.args.key.now) c.self.view_is

pub returns-in_err-entry : goal.returns-in_err-entry
returns-in_err-entry g c = c.from_residual-in_err-entry.ensures ∙ number_gone c.self.inside.numbers _ c.self.invariant.listed c.args.key.now c.in_ok-number.field-0.now (search rules) (search rules)
    ∙ ap (number_of c.args.key.now) c.self.view_is

pub returns-then-eq : goal.returns-then-eq
returns-then-eq g c = number_held c.self.inside.numbers _ c.self.invariant.listed c.args.key.now c.in_ok-number.field-0.now c.in_ok-entry.entry.now (search rules) (search rules) (search rules)
    ∙ ap (number_of c.args.key.now) c.self.view_is

pub returns-else-eq : goal.returns-else-eq
returns-else-eq g c = number_other c.self.inside.numbers _ c.self.invariant.listed c.args.key.now (search rules) c.in_ok-number.field-0.now c.in_ok-entry.entry.now (search rules) (search rules) (search rules)
    ∙ ap (number_of c.args.key.now) c.self.view_is
