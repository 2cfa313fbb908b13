-- Tokens that are made alike are made of the same, and which tokens differ.
use Rattle.std.proofs.Common.{◌≡◌, true, false, List, [], ◌∷◌, take, refl, sym, ◌∙◌, ap}
use Rattle.coq_syntax.specs.declared.token.Token.{Token}
use Rattle.coq_syntax.specs.declared.token.TokenKind.TheVariants.{Identifier, Wildcard, Symbol}
use Rattle.coq_syntax.specs.declared.words.TokenPlace.{TokenPlace}
use Rattle.coq_syntax.specs.declared.words.Word.{Word}
use Rattle.coq_syntax.specs.declared.words.BoundName.{BoundName}
use Rattle.coq_syntax.specs.declared.words.BoundName.TheVariants.{Named, Unnamed}
use Rattle.coq_syntax.specs.Spelled.{identifier, name}
use Rattle.move_parser.specs.declared.mark.Mark.{Mark}
use Rattle.move_parser.specs.declared.mark.Mark.TheVariants.{Bar, CloseBracket}
use Rattle.move_parser.specs.Marks.{written, is_mark}
use Rattle.move_parser.specs.Reading.{NoneNext}

pub identifier_same : (w v : Word) → identifier w ≡ identifier v → w ≡ v
identifier_same w v e = λ i. record { text = (e i).text; place = record { from = (e i).from; to = (e i).to } }

pub written_same : (m : Mark) (p q : TokenPlace) → written m p ≡ written m q → p ≡ q
written_same m p q e = λ i. record { from = (e i).from; to = (e i).to }

pub name_same : (n m : BoundName) → name n ≡ name m → n ≡ m
name_same (Named w) (Named v) e = ap (λ x. Named x) (identifier_same w v e)
name_same (Unnamed p) (Unnamed q) e = λ i. Unnamed (record { from = (e i).from; to = (e i).to })
name_same (Named w) (Unnamed q) e = absurd (let k : Identifier ≡ Wildcard = ap (λ t. t.kind) e in cc)
name_same (Unnamed p) (Named v) e = absurd (let k : Wildcard ≡ Identifier = ap (λ t. t.kind) e in cc)

pub heads : (t u : Token) (l r : List Token) → t ∷ l ≡ u ∷ r → t ≡ u
heads t u l r e = cc

pub tails : (t u : Token) (l r : List Token) → t ∷ l ≡ u ∷ r → l ≡ r
tails t u l r e = cc

pub none_at_end : {X : Type 0} (make : X → Token) → NoneNext make []
none_at_end make x rest e = absurd (cc)

no_symbol : (n : BoundName) (t : Token) → t.kind ≡ Symbol → t ≡ name n → ⊥
no_symbol (Named w) t k e = let bad : Symbol ≡ Identifier = sym k ∙ ap (λ u. u.kind) e in absurd (cc)
no_symbol (Unnamed p) t k e = let bad : Symbol ≡ Wildcard = sym k ∙ ap (λ u. u.kind) e in absurd (cc)

-- neither a bar nor a closing bracket is a name, and a closing bracket is no bar
pub bar_no_name : (p : TokenPlace) (rest : List Token) → NoneNext name (written Bar p ∷ rest)
bar_no_name p rest n r e = no_symbol n (written Bar p) refl (heads _ _ _ _ e)

pub close_no_name : (p : TokenPlace) (rest : List Token) → NoneNext name (written CloseBracket p ∷ rest)
close_no_name p rest n r e = no_symbol n (written CloseBracket p) refl (heads _ _ _ _ e)

pub close_no_bar : (p : TokenPlace) (rest : List Token) → NoneNext (written Bar) (written CloseBracket p ∷ rest)
close_no_bar p rest q r e = absurd (let bad : false ≡ true = ap (is_mark Bar) (heads (written CloseBracket p) (written Bar q) rest r e) in cc)

-- what begins alike has the same next token
pub next_of : {X : Type 0} (make : X → Token) (x : X) (i l w : List Token) → take 1 i ≡ take 1 l → i ≡ make x ∷ w → NoneNext make l → ⊥
next_of make x i [] w a e none = absurd (let bad : make x ∷ [] ≡ [] = sym (ap (take 1) e) ∙ a in cc)
next_of make x i (t ∷ l) w a e none = none x l (let same : make x ∷ [] ≡ t ∷ [] = sym (ap (take 1) e) ∙ a in ap (λ u. u ∷ l) (sym (heads _ _ _ _ same)))
