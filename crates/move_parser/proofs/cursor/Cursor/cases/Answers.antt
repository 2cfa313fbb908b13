use Rattle.std.proofs.Common.{◌≡◌, ◌∷◌, length, sym, ◌∙◌, ap, arith}
use Rattle.coq_syntax.specs.Spelled.{names}
use Rattle.coq_syntax.specs.Moves.{cases}
use Rattle.coq_syntax.specs.Forms.{cases_of}
use Rattle.move_parser.specs.declared.mark.Mark.TheVariants.{Bar}
use Rattle.move_parser.specs.Marks.{written}
use Rattle.move_parser.proofs.Turns.{cases-append, names_longer}
use Rattle.move_parser.proofs.cursor.Cursor.cases.Goals as goal

pub loop-bar-smaller : goal.loop-bar-smaller
loop-bar-smaller c =
    let read : c.loop-bar.self ≡ written Bar c.in-Some.bar ∷ names c.in_ok-names.names.items c.names.new.self = c.in-Some.ensures ∙ ap (λ i. written Bar c.in-Some.bar ∷ i) c.in_ok-names.ensures.0 in
    omega (arith, ap length read, names_longer c.in_ok-names.names.items c.names.new.self)

pub loop-bar-preserved : goal.loop-bar-preserved
loop-bar-preserved c = record {
  read = rw c.in_ok-push.ensures.items (c.loop-bar.invariant.read ∙ ap (cases (cases_of c.loop-bar.cases.items)) (c.in-Some.ensures ∙ ap (λ i. written Bar c.in-Some.bar ∷ i) c.in_ok-names.ensures.0) ∙ sym (cases-append c.loop-bar.cases.items _ c.names.new.self));
  nameless = λ _. c.in_ok-names.ensures.1;
}
