use Rattle.std.proofs.Common.{◌≡◌, ◌-◌, ap, sym, ◌∙◌, ◌∷◌, length, take, drop}
use Rattle.move_parser.specs.Marks.{written}
use Rattle.move_parser.proofs.Marking.{mark_is, by_first}
use Rattle.move_parser.proofs.cursor.Cursor.mark.Goals as goal

pub returns-in-len1-up : goal.returns-in-len1-up
returns-in-len1-up c =
    let t : c.first-item.result ≡ written c.args.mark c.place_of.result = mark_is c.args.mark c.first-item.result (sym c.is.ensures ∙ c.if-is.true) ∙ ap (written c.args.mark) (sym c.place_of.ensures) in
    sym c.self.view_is ∙ by_first c.self.inside.rest.now c.first-item.result c.in-len1-up.len_at_least c.first-item.is ∙ ap (λ x. x ∷ take (length c.self.inside.rest.now - 1) (drop 1 c.self.inside.rest.now)) t
