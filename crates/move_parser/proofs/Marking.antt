-- What a token is that passes the test of a mark, or of `_`.
use Rattle.std.proofs.Common.{ℕ, suc, ◌≡◌, ◌-◌, ◌≤◌, Bool, true, false, cond, bytes_eq, codes, List, [], ◌∷◌, length, take, drop, slice_index_or, refl, sym, arith}
use Rattle.std.proofs.lemmas.Slice.Eq.{bytes_eq-Decides}
use Rattle.std.proofs.lemmas.List.{take_all}
use denote.Enum.Bare.{sameb, same_true}
use Rattle.coq_syntax.specs.declared.token.Token.{Token}
use Rattle.coq_syntax.specs.declared.token.TokenKind.{TokenKind}
use Rattle.coq_syntax.specs.declared.token.TokenKind.TheVariants.{Wildcard}
use Rattle.coq_syntax.specs.contracts.token.TokenKind.{the_type}
use Rattle.coq_syntax.specs.Spelled.{token}
use Rattle.vernac_parser.specs.Parser.{place_of}
use Rattle.vernac_parser.proofs.SignLaws.{is_token}
use Rattle.move_parser.specs.declared.mark.Mark.{Mark}
use Rattle.move_parser.specs.Marks.{kind_of, text_of, written, is_mark}
use Rattle.move_parser.specs.Reading.{is_wildcard}

both : (a b : Bool) → cond a b false ≡ true → (a ≡ true) × (b ≡ true)
both true b e = (refl, e)
both false b e = absurd (let bad : false ≡ true = e in cc)

tested : (t : Token) (kind : TokenKind) (text : List ℕ) → cond (sameb the_type t.kind kind) (bytes_eq t.text text) false ≡ true → t ≡ token kind text (place_of t)
tested t kind text e =
    let h = both (sameb the_type t.kind kind) (bytes_eq t.text text) e in
    is_token t kind text (same_true the_type tt t.kind kind h.0) ((bytes_eq-Decides t.text text).0 h.1)

pub mark_is : (m : Mark) (t : Token) → is_mark m t ≡ true → t ≡ written m (place_of t)
mark_is m t e = tested t (kind_of m) (text_of m) e

pub wildcard_is : (t : Token) → is_wildcard t ≡ true → t ≡ token Wildcard (codes "_") (place_of t)
wildcard_is t e = tested t Wildcard (codes "_") e

-- a list by its first token
pub by_first : (l : List Token) (t : Token) → 1 ≤ length l → t ≡ slice_index_or l 0 t → l ≡ t ∷ take (length l - 1) (drop 1 l)
by_first [] t h e = absurd (omega arith)
by_first (x ∷ l) t h e =
    let same : t ≡ x = e in
    let whole : take (suc (length l) - 1) l ≡ l = take_all (suc (length l) - 1) l (omega arith) in
    λ i. sym same i ∷ sym whole i
