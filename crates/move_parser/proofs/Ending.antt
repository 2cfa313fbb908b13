-- Where a token stands behind the end of a move.
use Rattle.std.proofs.Common.{◌≡◌, Err, List, [], ◌∷◌, take, refl, sym, ◌∙◌, ap, subst}
use Rattle.coq_syntax.specs.declared.token.Token.{Token}
use Rattle.coq_syntax.specs.Refusals.{IsUnexpected}
use Rattle.move_parser.specs.declared.cursor.Halt.{Halt}
use Rattle.move_parser.specs.declared.cursor.Halt.TheVariants.{Unexpected, NoMem}
use Rattle.move_parser.specs.Reading.{IsHere}
use Rattle.move_parser.specs.Parts.{IsPart, IsEndOf, no_fault}
use Rattle.move_parser.proofs.Behind.{unexpected_here}

no_end : (l i : List Token) → (l ≡ [] → ⊥) → take 1 i ≡ take 1 l → [] ≡ i → ⊥
no_end [] i some a e = some refl
no_end (t ∷ l) i some a e = absurd (let bad : [] ≡ t ∷ [] = ap (take 1) e ∙ a in cc)

pub end_refused : (l : List Token) (e : Halt) → IsHere l e → (l ≡ [] → ⊥) → IsPart IsEndOf no_fault (λ (_ : Unit {0}). tt) l (Err e)
end_refused l (Unexpected left) here some = subst (λ i. IsUnexpected IsEndOf no_fault l i) (sym here) (unexpected_here IsEndOf no_fault l [] tt refl (λ i y is. tt) (λ i y a is. no_end l i some a is))
end_refused l NoMem here some = absurd here
