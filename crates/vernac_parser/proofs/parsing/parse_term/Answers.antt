use Rattle.std.proofs.Common.{Ok, Err, ◌-◌, length, drop, take, ap, ◌∙◌, arith}
use Rattle.vernac_parser.proofs.Places.{term_read, term_refused}
use Rattle.vernac_parser.proofs.Told.{term_given}
use Rattle.vernac_parser.proofs.parsing.parse_term.Goals as goal

pub overflow_sub-result : goal.overflow_sub-result
overflow_sub-result c =
    let from = c.new-rest.ensures ∙ ap (λ l. take (length l - c.args.at) (drop c.args.at l)) c.as_slice-items.ensures in
    let size = (term_read c.args.tokens.now c.args.at _ _ _ from c.in-Ok.ensures).0 in
    omega (arith, size, c.left.ensures, ap length c.as_slice-items.ensures)

pub stop_of-requires : goal.stop_of-requires
stop_of-requires c =
    (term_refused c.args.tokens.now c.args.at _ c.in-Err.halt (c.new-rest.ensures ∙ ap (λ l. take (length l - c.args.at) (drop c.args.at l)) c.as_slice-items.ensures) c.in-Err.ensures).0

pub returns-in-Ok-clause-parsed : goal.returns-in-Ok-clause-parsed
returns-in-Ok-clause-parsed c =
    let from = c.new-rest.ensures ∙ ap (λ l. take (length l - c.args.at) (drop c.args.at l)) c.as_slice-items.ensures in
    let read = term_read c.args.tokens.now c.args.at _ _ _ from c.in-Ok.ensures in
    rw (c.left.ensures, c.as_slice-items.ensures) (omega arith, read.1)

pub returns-in-Ok-clause-value : goal.returns-in-Ok-clause-value
returns-in-Ok-clause-value c = term_given c.args.tokens.now c.args.at (Ok (record { tree = c.in-Ok.tree; next = length c.as_slice-items.result.now - c.left.result })) (returns-in-Ok-clause-parsed c)

pub returns-in-Err-clause-parsed : goal.returns-in-Err-clause-parsed
returns-in-Err-clause-parsed c =
    rw c.stop_of.ensures (term_refused c.args.tokens.now c.args.at _ c.in-Err.halt (c.new-rest.ensures ∙ ap (λ l. take (length l - c.args.at) (drop c.args.at l)) c.as_slice-items.ensures) c.in-Err.ensures).1

pub returns-in-Err-clause-value : goal.returns-in-Err-clause-value
returns-in-Err-clause-value c = term_given c.args.tokens.now c.args.at (Err c.stop_of.result) (returns-in-Err-clause-parsed c)
