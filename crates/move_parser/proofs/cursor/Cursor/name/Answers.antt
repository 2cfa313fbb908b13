use Rattle.std.proofs.Common.{◌≡◌, ◌-◌, ap, sym, ◌∙◌, ◌∷◌, length, take, drop, codes}
use Rattle.coq_syntax.specs.declared.token.TokenKind.TheVariants.{Wildcard}
use Rattle.coq_syntax.specs.Spelled.{token}
use Rattle.move_parser.proofs.Marking.{wildcard_is, by_first}
use Rattle.move_parser.proofs.cursor.Cursor.name.Goals as goal

pub returns-in-len1-up : goal.returns-in-len1-up
returns-in-len1-up c =
    let t : c.first-item.result ≡ token Wildcard (codes "_") c.place_of.result = wildcard_is c.first-item.result (sym c.is_wildcard.ensures ∙ c.if-is_wildcard.true) ∙ ap (token Wildcard (codes "_")) (sym c.place_of.ensures) in
    sym c.self.view_is ∙ by_first c.self.inside.rest.now c.first-item.result c.in-len1-up.len_at_least c.first-item.is ∙ ap (λ x. x ∷ take (length c.self.inside.rest.now - 1) (drop 1 c.self.inside.rest.now)) t
