use Rattle.std.proofs.Common.{◌≡◌, ◌-◌, length, take, drop, ap, ◌∙◌, List, arith}
use Rattle.coq_syntax.specs.declared.token.Token.{Token}
use Rattle.coq_syntax.specs.Trees.{Term}
use Rattle.move_parser.proofs.Terms.{from_place, term_stopped_behind}
use Rattle.move_parser.proofs.parsing.last_term.Goals as goal

pub returns-in_default : goal.returns-in_default
returns-in_default c =
    let next = c.in_ok-parsed.parsed.next in
    let left : List Token = take (length c.as_slice.result.now - next) (drop next c.as_slice.result.now) in
    let same : left ≡ drop next c.args.tokens.now.items = ap (λ l. take (length l - next) (drop next l)) c.as_slice.ensures ∙ from_place next c.args.tokens.now.items in
    term_stopped_behind (λ (t : Term). t) c.args.tokens.now c.args.at (drop next c.args.tokens.now.items) left c.in_ok-parsed.parsed.tree c.stop_of.result c.in_ok-parsed.ensures.parsed.1 same
    (λ none. let size : length left ≡ 0 = ap length (same ∙ none) in omega (arith, c.in_default.len_at_least, size)) c.stop_of.ensures
