use Rattle.std.proofs.Common.{Ok, Err, ◌∙◌}
use Rattle.vernac_parser.proofs.Places.{command_read, command_refused}
use Rattle.vernac_parser.proofs.Told.{command_given}
use Rattle.vernac_parser.proofs.parsing.parse_command.Goals as goal

pub stop_of-requires : goal.stop_of-requires
stop_of-requires c = (command_refused c.args.tokens.now _ c.in-Err.halt (c.new-rest.ensures ∙ c.as_slice.ensures) c.in-Err.ensures).0

pub returns-in-Ok-clause-parsed : goal.returns-in-Ok-clause-parsed
returns-in-Ok-clause-parsed c = command_read c.args.tokens.now.items _ _ _ (c.new-rest.ensures ∙ c.as_slice.ensures) c.in-Ok.ensures

pub returns-in-Ok-clause-value : goal.returns-in-Ok-clause-value
returns-in-Ok-clause-value c = command_given c.args.tokens.now (Ok c.in-Ok.command) (returns-in-Ok-clause-parsed c)

pub returns-in-Err-clause-parsed : goal.returns-in-Err-clause-parsed
returns-in-Err-clause-parsed c = rw c.stop_of.ensures (command_refused c.args.tokens.now _ c.in-Err.halt (c.new-rest.ensures ∙ c.as_slice.ensures) c.in-Err.ensures).1

pub returns-in-Err-clause-value : goal.returns-in-Err-clause-value
returns-in-Err-clause-value c = command_given c.args.tokens.now (Err c.stop_of.result) (returns-in-Err-clause-parsed c)
