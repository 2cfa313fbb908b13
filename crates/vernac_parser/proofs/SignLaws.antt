-- What a token with a sign is, and which signs may follow a term.
use Rattle.std.proofs.Common.{[], ◌∷◌, ◌≡◌, ℕ, ◌<◌, Bool, true, false, cond, List, codes, bytes_eq, refl, sym, ◌∙◌, ap, subst, arith}
use Rattle.std.proofs.lemmas.Slice.Eq.{bytes_eq-Decides}
use denote.Enum.Bare.{sameb, same_true, true_same, false_same}
use Rattle.coq_syntax.specs.declared.token.Token.{Token}
use Rattle.coq_syntax.specs.declared.token.TokenKind.{TokenKind}
use Rattle.coq_syntax.specs.declared.token.TokenKind.TheVariants as kind
use Rattle.coq_syntax.specs.contracts.token.TokenKind.{the_type as kinds}
use Rattle.coq_syntax.specs.Refusals.{IsAssigned}
use Rattle.coq_syntax.specs.Spelled.{token, reserved, symbol, identifier, number}
use Rattle.coq_syntax.specs.declared.words.TokenPlace.{TokenPlace}
use Rattle.vernac_parser.specs.contracts.sign.Sign.{the_type}
use Rattle.vernac_parser.specs.declared.sign.Sign.{Sign}
use Rattle.vernac_parser.specs.declared.sign.Sign.TheVariants as sign
use Rattle.vernac_parser.specs.Signs.{is_sign, sign_of, sign_at, sign_by, reserved_sign, symbol_sign, begins_atom}
use Rattle.vernac_parser.specs.Parser.{place_of, word_of}

-- the kind and the text of a token with this sign
abbrev pub Written : Sign → TokenKind → List ℕ → Type 0
Written sign.Identifier k text = k ≡ kind.Identifier
Written sign.Wildcard k text = (k ≡ kind.Wildcard) × (text ≡ codes "_")
Written sign.Number k text = k ≡ kind.Number
Written sign.Forall k text = (k ≡ kind.Reserved) × (text ≡ codes "forall")
Written sign.Fun k text = (k ≡ kind.Reserved) × (text ≡ codes "fun")
Written sign.Let k text = (k ≡ kind.Reserved) × (text ≡ codes "let")
Written sign.In k text = (k ≡ kind.Reserved) × (text ≡ codes "in")
Written sign.PropSort k text = (k ≡ kind.Reserved) × (text ≡ codes "Prop")
Written sign.SetSort k text = (k ≡ kind.Reserved) × (text ≡ codes "Set")
Written sign.TypeSort k text = (k ≡ kind.Reserved) × (text ≡ codes "Type")
Written sign.Assign k text = (k ≡ kind.Symbol) × (text ≡ codes ":=")
Written sign.Yields k text = (k ≡ kind.Symbol) × (text ≡ codes "=>")
Written sign.Arrow k text = (k ≡ kind.Symbol) × (text ≡ codes "->")
Written sign.And k text = (k ≡ kind.Symbol) × (text ≡ codes "/\\")
Written sign.Or k text = (k ≡ kind.Symbol) × (text ≡ codes "\\/")
Written sign.Open k text = (k ≡ kind.Symbol) × (text ≡ codes "(")
Written sign.Close k text = (k ≡ kind.Symbol) × (text ≡ codes ")")
Written sign.OpenBrace k text = (k ≡ kind.Symbol) × (text ≡ codes "{")
Written sign.CloseBrace k text = (k ≡ kind.Symbol) × (text ≡ codes "}")
Written sign.Comma k text = (k ≡ kind.Symbol) × (text ≡ codes ",")
Written sign.Colon k text = (k ≡ kind.Symbol) × (text ≡ codes ":")
Written sign.Equal k text = (k ≡ kind.Symbol) × (text ≡ codes "=")
Written sign.Not k text = (k ≡ kind.Symbol) × (text ≡ codes "~")
Written sign.Bar k text = (k ≡ kind.Symbol) × (text ≡ codes "|")
Written sign.At k text = (k ≡ kind.Symbol) × (text ≡ codes "@")
Written sign.Other k text = Unit {0}

pick : (P : Sign → Type 0) (b : Bool) (x y : Sign) → (b ≡ true → P x) → P y → P (cond b x y)
pick P true x y f g = f refl
pick P false x y f g = g

same_text : (a b : List ℕ) → bytes_eq a b ≡ true → a ≡ b
same_text a b e = (bytes_eq-Decides a b).0 e

reserved_written : (text : List ℕ) → Written (reserved_sign text) kind.Reserved text
unfolding reserved_sign
reserved_written text =
    let P : Sign → Type 0 = λ s. Written s kind.Reserved text in
    pick P (bytes_eq text (codes "forall")) _ _ (λ e. (refl, same_text text _ e)) (
    pick P (bytes_eq text (codes "fun")) _ _ (λ e. (refl, same_text text _ e)) (
    pick P (bytes_eq text (codes "let")) _ _ (λ e. (refl, same_text text _ e)) (
    pick P (bytes_eq text (codes "in")) _ _ (λ e. (refl, same_text text _ e)) (
    pick P (bytes_eq text (codes "Prop")) _ _ (λ e. (refl, same_text text _ e)) (
    pick P (bytes_eq text (codes "Set")) _ _ (λ e. (refl, same_text text _ e)) (
    pick P (bytes_eq text (codes "Type")) _ _ (λ e. (refl, same_text text _ e)) tt))))))

symbol_written : (text : List ℕ) → Written (symbol_sign text) kind.Symbol text
unfolding symbol_sign
symbol_written text =
    let P : Sign → Type 0 = λ s. Written s kind.Symbol text in
    pick P (bytes_eq text (codes "(")) _ _ (λ e. (refl, same_text text _ e)) (
    pick P (bytes_eq text (codes ")")) _ _ (λ e. (refl, same_text text _ e)) (
    pick P (bytes_eq text (codes "->")) _ _ (λ e. (refl, same_text text _ e)) (
    pick P (bytes_eq text (codes ":")) _ _ (λ e. (refl, same_text text _ e)) (
    pick P (bytes_eq text (codes ",")) _ _ (λ e. (refl, same_text text _ e)) (
    pick P (bytes_eq text (codes ":=")) _ _ (λ e. (refl, same_text text _ e)) (
    pick P (bytes_eq text (codes "=>")) _ _ (λ e. (refl, same_text text _ e)) (
    pick P (bytes_eq text (codes "=")) _ _ (λ e. (refl, same_text text _ e)) (
    pick P (bytes_eq text (codes "/\\")) _ _ (λ e. (refl, same_text text _ e)) (
    pick P (bytes_eq text (codes "\\/")) _ _ (λ e. (refl, same_text text _ e)) (
    pick P (bytes_eq text (codes "~")) _ _ (λ e. (refl, same_text text _ e)) (
    pick P (bytes_eq text (codes "|")) _ _ (λ e. (refl, same_text text _ e)) (
    pick P (bytes_eq text (codes "@")) _ _ (λ e. (refl, same_text text _ e)) (
    pick P (bytes_eq text (codes "{")) _ _ (λ e. (refl, same_text text _ e)) (
    pick P (bytes_eq text (codes "}")) _ _ (λ e. (refl, same_text text _ e)) tt))))))))))))))

by_written : (k : TokenKind) (text : List ℕ) → Written (sign_by k text) k text
by_written kind.Identifier text = refl
by_written kind.Wildcard text = pick (λ s. Written s kind.Wildcard text) (bytes_eq text (codes "_")) _ _ (λ e. (refl, same_text text _ e)) tt
by_written kind.Reserved text = reserved_written text
by_written kind.Number text = refl
by_written kind.Symbol text = symbol_written text
by_written kind.Quoted text = tt
by_written kind.Other text = tt

pub same_sign : (a b : Sign) → is_sign a b ≡ true → a ≡ b
same_sign a b e = same_true the_type tt a b e

pub is_same : (a b : Sign) → a ≡ b → is_sign a b ≡ true
is_same a b e = true_same the_type a b e

pub is_other : (a b : Sign) → (a ≡ b → ⊥) → is_sign a b ≡ false
is_other a b f = false_same the_type tt a b f

pub written_as : (t : Token) (s : Sign) → is_sign (sign_of t) s ≡ true → Written s t.kind t.text
written_as t s e = subst (λ x. Written x t.kind t.text) (same_sign (sign_of t) s e) (by_written t.kind t.text)

-- a token of this kind and text
pub is_token : (t : Token) (k : TokenKind) (text : List ℕ) → t.kind ≡ k → t.text ≡ text → t ≡ token k text (place_of t)
is_token t k text e f = λ i. token (e i) (f i) (place_of t)

-- the least level of a rule that goes on with a token: 0 for the level of `Type`, and 200 where none does
abbrev pub reach : Sign → ℕ
reach sign.At = 0
reach sign.Identifier = 10
reach sign.Number = 10
reach sign.PropSort = 10
reach sign.SetSort = 10
reach sign.TypeSort = 10
reach sign.Open = 10
reach sign.Equal = 70
reach sign.And = 80
reach sign.Or = 85
reach sign.Arrow = 99
reach _ = 200

-- a sign out of reach
pub beyond : (s c : Sign) → reach c < reach s → is_sign s c ≡ false
beyond s c h = is_other s c (λ e. let same : reach s ≡ reach c = ap reach e in omega arith)

pub no_atom : (s : Sign) → 10 < reach s → begins_atom s ≡ false
no_atom sign.Identifier h = absurd (omega arith)
no_atom sign.Number h = absurd (omega arith)
no_atom sign.PropSort h = absurd (omega arith)
no_atom sign.SetSort h = absurd (omega arith)
no_atom sign.TypeSort h = absurd (omega arith)
no_atom sign.Open h = absurd (omega arith)
no_atom _ h = refl

-- the symbols and reserved words
abbrev pub is_mark : Sign → Bool
is_mark sign.Identifier = false
is_mark sign.Wildcard = false
is_mark sign.Number = false
is_mark sign.Other = false
is_mark _ = true

-- such a token at a place; of the other signs none
abbrev pub mark : Sign → TokenPlace → Token
mark sign.Forall p = reserved (codes "forall") p
mark sign.Fun p = reserved (codes "fun") p
mark sign.Let p = reserved (codes "let") p
mark sign.In p = reserved (codes "in") p
mark sign.PropSort p = reserved (codes "Prop") p
mark sign.SetSort p = reserved (codes "Set") p
mark sign.TypeSort p = reserved (codes "Type") p
mark sign.Assign p = symbol (codes ":=") p
mark sign.Yields p = symbol (codes "=>") p
mark sign.Arrow p = symbol (codes "->") p
mark sign.And p = symbol (codes "/\\") p
mark sign.Or p = symbol (codes "\\/") p
mark sign.Open p = symbol (codes "(") p
mark sign.Close p = symbol (codes ")") p
mark sign.OpenBrace p = symbol (codes "{") p
mark sign.CloseBrace p = symbol (codes "}") p
mark sign.Comma p = symbol (codes ",") p
mark sign.Colon p = symbol (codes ":") p
mark sign.Equal p = symbol (codes "=") p
mark sign.Not p = symbol (codes "~") p
mark sign.Bar p = symbol (codes "|") p
mark sign.At p = symbol (codes "@") p
mark _ p = symbol [] p

pub mark_is : (s : Sign) (t : Token) → is_mark s ≡ true → is_sign (sign_of t) s ≡ true → t ≡ mark s (place_of t)
mark_is sign.Forall t m e = let w : Written sign.Forall t.kind t.text = written_as t sign.Forall e in is_token t _ _ w.0 w.1
mark_is sign.Fun t m e = let w : Written sign.Fun t.kind t.text = written_as t sign.Fun e in is_token t _ _ w.0 w.1
mark_is sign.Let t m e = let w : Written sign.Let t.kind t.text = written_as t sign.Let e in is_token t _ _ w.0 w.1
mark_is sign.In t m e = let w : Written sign.In t.kind t.text = written_as t sign.In e in is_token t _ _ w.0 w.1
mark_is sign.PropSort t m e = let w : Written sign.PropSort t.kind t.text = written_as t sign.PropSort e in is_token t _ _ w.0 w.1
mark_is sign.SetSort t m e = let w : Written sign.SetSort t.kind t.text = written_as t sign.SetSort e in is_token t _ _ w.0 w.1
mark_is sign.TypeSort t m e = let w : Written sign.TypeSort t.kind t.text = written_as t sign.TypeSort e in is_token t _ _ w.0 w.1
mark_is sign.Assign t m e = let w : Written sign.Assign t.kind t.text = written_as t sign.Assign e in is_token t _ _ w.0 w.1
mark_is sign.Yields t m e = let w : Written sign.Yields t.kind t.text = written_as t sign.Yields e in is_token t _ _ w.0 w.1
mark_is sign.Arrow t m e = let w : Written sign.Arrow t.kind t.text = written_as t sign.Arrow e in is_token t _ _ w.0 w.1
mark_is sign.And t m e = let w : Written sign.And t.kind t.text = written_as t sign.And e in is_token t _ _ w.0 w.1
mark_is sign.Or t m e = let w : Written sign.Or t.kind t.text = written_as t sign.Or e in is_token t _ _ w.0 w.1
mark_is sign.Open t m e = let w : Written sign.Open t.kind t.text = written_as t sign.Open e in is_token t _ _ w.0 w.1
mark_is sign.Close t m e = let w : Written sign.Close t.kind t.text = written_as t sign.Close e in is_token t _ _ w.0 w.1
mark_is sign.OpenBrace t m e = let w : Written sign.OpenBrace t.kind t.text = written_as t sign.OpenBrace e in is_token t _ _ w.0 w.1
mark_is sign.CloseBrace t m e = let w : Written sign.CloseBrace t.kind t.text = written_as t sign.CloseBrace e in is_token t _ _ w.0 w.1
mark_is sign.Comma t m e = let w : Written sign.Comma t.kind t.text = written_as t sign.Comma e in is_token t _ _ w.0 w.1
mark_is sign.Colon t m e = let w : Written sign.Colon t.kind t.text = written_as t sign.Colon e in is_token t _ _ w.0 w.1
mark_is sign.Equal t m e = let w : Written sign.Equal t.kind t.text = written_as t sign.Equal e in is_token t _ _ w.0 w.1
mark_is sign.Not t m e = let w : Written sign.Not t.kind t.text = written_as t sign.Not e in is_token t _ _ w.0 w.1
mark_is sign.Bar t m e = let w : Written sign.Bar t.kind t.text = written_as t sign.Bar e in is_token t _ _ w.0 w.1
mark_is sign.At t m e = let w : Written sign.At t.kind t.text = written_as t sign.At e in is_token t _ _ w.0 w.1
mark_is _ t m e = absurd (let bad : false ≡ true = m in cc)

pub word_is : (t : Token) → is_sign (sign_of t) sign.Identifier ≡ true → t ≡ identifier (word_of t)
word_is t e = is_token t kind.Identifier t.text (written_as t sign.Identifier e) refl

pub number_is : (t : Token) → is_sign (sign_of t) sign.Number ≡ true → t ≡ number (word_of t)
number_is t e = is_token t kind.Number t.text (written_as t sign.Number e) refl

pub wildcard_is : (t : Token) → is_sign (sign_of t) sign.Wildcard ≡ true → t ≡ token kind.Wildcard (codes "_") (place_of t)
wildcard_is t e = let w : Written sign.Wildcard t.kind t.text = written_as t sign.Wildcard e in is_token t _ _ w.0 w.1

-- the kind of a token tells whether it is an identifier
pub identifier_by_kind : (t : Token) → sameb kinds t.kind kind.Identifier ≡ is_sign (sign_of t) sign.Identifier
identifier_by_kind t = by (is_sign (sign_of t) sign.Identifier) (sameb kinds t.kind kind.Identifier) refl refl
  where
    by : (b c : Bool) → is_sign (sign_of t) sign.Identifier ≡ b → sameb kinds t.kind kind.Identifier ≡ c → c ≡ b
    by true true e f = refl
    by false false e f = refl
    by true false e f = absurd (let bad : false ≡ true = sym f ∙ ap (λ k. sameb kinds k kind.Identifier) (written_as t sign.Identifier e) in cc)
    by false true e f = absurd (let bad : false ≡ true = sym e ∙ ap (λ k. is_sign (sign_by k t.text) sign.Identifier) (same_true kinds tt t.kind kind.Identifier f) in cc)

-- `:=` stands next, by its sign
pub assigned_sign : (w : List Token) → IsAssigned w → is_sign (sign_at w) sign.Assign ≡ true
unfolding symbol_sign
assigned_sign [] k = absurd k
assigned_sign (t ∷ rest) k = ap (λ x. is_sign (sign_of x) sign.Assign) k.1

pub sign_assigned : (w : List Token) → is_sign (sign_at w) sign.Assign ≡ true → IsAssigned w
sign_assigned [] e = absurd (let bad : false ≡ true = e in cc)
sign_assigned (t ∷ rest) e = (place_of t, mark_is sign.Assign t refl e)
