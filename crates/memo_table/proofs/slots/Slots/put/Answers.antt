use Rattle.std.proofs.Common.{rules, ap, ◌∙◌}
use Rattle.base_core.specs.declared.limits.TheConstants.{TABLE_LIMIT}
use Rattle.memo_table.specs.Entries.{entry_of, entered}
use Rattle.memo_table.proofs.Changing.{put_entered, put_indexed, pushed_indexed, refused_indexed}
use Rattle.memo_table.proofs.slots.Slots.put.Goals as goal

pub invariant_of-self-in-Ok-None : goal.invariant_of-self-in-Ok-None
invariant_of-self-in-Ok-None g c = put_indexed c.self.inside.cache c.push.new.self c.self.inside.numbers c.self.invariant c.args.number c.args.key c.args.made
    (search rules) (search rules) c.insert.new.self (search rules) (search rules)

pub invariant_of-self-in-Ok-Some : goal.invariant_of-self-in-Ok-Some
invariant_of-self-in-Ok-Some g c = pushed_indexed c.self.inside.cache c.push.new.self c.self.inside.numbers c.self.invariant c.args.number c.args.key c.args.made
    (search rules) (search rules) c.insert.new.self (search rules) (search rules)
    c.numbers_are_apart.ensures (c.in-Ok-Some.field-0-0-0, c.in-Ok-Some.oldest) (search rules) c.remove.new.self (search rules)

pub invariant_of-self-in-Err : goal.invariant_of-self-in-Err
invariant_of-self-in-Err g c = refused_indexed c.self.inside.cache c.push.new.self c.self.inside.numbers c.self.invariant c.args.number c.args.key c.args.made
    (search rules) (search rules) c.insert.new.self (search rules) (search rules) c.remove-in-Err.new.self c.in-Err.failed.value.1.key (search rules) (search rules)

pub returns-in-Ok-None-clause-entered : goal.returns-in-Ok-None-clause-entered
returns-in-Ok-None-clause-entered g c = put_entered c.self.inside.cache c.push.new.self c.self.inside.numbers c.self.invariant c.args.number c.args.key c.args.made
    (search rules) (search rules) c.insert.new.self (search rules) (search rules) ∙ ap (entered TABLE_LIMIT (c.args.number, entry_of c.args.key c.args.made)) c.self.view_is

pub returns-in-Ok-Some-clause-entered : goal.returns-in-Ok-Some-clause-entered
returns-in-Ok-Some-clause-entered g c = put_entered c.self.inside.cache c.push.new.self c.self.inside.numbers c.self.invariant c.args.number c.args.key c.args.made
    (search rules) (search rules) c.insert.new.self (search rules) (search rules) ∙ ap (entered TABLE_LIMIT (c.args.number, entry_of c.args.key c.args.made)) c.self.view_is
