-- Lists that are read an item at a time.
use Rattle.std.proofs.Common.{◌≡◌, ◌≤◌, List, [], ◌∷◌, ◌++◌, length, refl, ap, arith}
use Rattle.coq_syntax.specs.declared.token.Token.{Token}
use Rattle.coq_syntax.specs.declared.words.Word.{Word}
use Rattle.coq_syntax.specs.declared.words.BoundName.{BoundName}
use Rattle.coq_syntax.specs.declared.moves.PatternCase.{PatternCase}
use Rattle.coq_syntax.specs.Spelled.{identifier, name, names}
use Rattle.coq_syntax.specs.Moves.{identifiers, cases}
use Rattle.coq_syntax.specs.Forms.{cases_of}
use Rattle.move_parser.specs.declared.mark.Mark.TheVariants.{Bar}
use Rattle.move_parser.specs.Marks.{written}

pub identifiers-append : (ws : List Word) (w : Word) (rest : List Token) → identifiers (ws ++ w ∷ []) ++ rest ≡ identifiers ws ++ (identifier w ∷ rest)
identifiers-append [] w rest = refl
identifiers-append (x ∷ ws) w rest = ap (λ i. identifier x ∷ i) (identifiers-append ws w rest)

pub names-append : (ns : List BoundName) (n : BoundName) (rest : List Token) → names (ns ++ n ∷ []) rest ≡ names ns (name n ∷ rest)
names-append [] n rest = refl
names-append (x ∷ ns) n rest = ap (λ i. name x ∷ i) (names-append ns n rest)

pub cases-append : (cs : List PatternCase) (c : PatternCase) (rest : List Token) → cases (cases_of (cs ++ c ∷ [])) rest ≡ cases (cases_of cs) (written Bar c.bar ∷ names c.names.items rest)
cases-append [] c rest = refl
cases-append (x ∷ cs) c rest = ap (λ i. written Bar x.bar ∷ names x.names.items i) (cases-append cs c rest)

pub names_longer : (ns : List BoundName) (rest : List Token) → length rest ≤ length (names ns rest)
names_longer [] rest = omega arith
names_longer (n ∷ ns) rest = let more : length rest ≤ length (names ns rest) = names_longer ns rest in omega arith
