-- What a token is to the grammar.
use Rattle.std.specs.Prelude.{ℕ, Bool, true, false, bytes_eq, codes, if◌then◌else◌, List, [], ◌∷◌}
use denote.Enum.Bare.{sameb}
use Rattle.coq_syntax.specs.declared.token.Token.{Token}
use Rattle.coq_syntax.specs.declared.token.TokenKind.{TokenKind}
use Rattle.coq_syntax.specs.declared.token.TokenKind.TheVariants as kind
use Rattle.vernac_parser.specs.contracts.sign.Sign.{the_type}
use Rattle.vernac_parser.specs.declared.sign.Sign.{Sign}
use Rattle.vernac_parser.specs.declared.sign.Sign.TheVariants.{Identifier, Wildcard, Number, Forall, Fun, Let, In, PropSort, SetSort, TypeSort, Assign, Yields, Arrow, And, Or, Open, Close, OpenBrace, CloseBrace, Comma, Colon, Equal, Not, Bar, At, Other}

abbrev pub is_sign : Sign → Sign → Bool
is_sign = sameb the_type

-- of a reserved word
unfoldable pub reserved_sign : List ℕ → Sign
reserved_sign text =
    if bytes_eq text (codes "forall") then Forall
    else (if bytes_eq text (codes "fun") then Fun
    else (if bytes_eq text (codes "let") then Let
    else (if bytes_eq text (codes "in") then In
    else (if bytes_eq text (codes "Prop") then PropSort
    else (if bytes_eq text (codes "Set") then SetSort
    else (if bytes_eq text (codes "Type") then TypeSort
    else Other))))))

-- of a symbol
unfoldable pub symbol_sign : List ℕ → Sign
symbol_sign text =
    if bytes_eq text (codes "(") then Open
    else (if bytes_eq text (codes ")") then Close
    else (if bytes_eq text (codes "->") then Arrow
    else (if bytes_eq text (codes ":") then Colon
    else (if bytes_eq text (codes ",") then Comma
    else (if bytes_eq text (codes ":=") then Assign
    else (if bytes_eq text (codes "=>") then Yields
    else (if bytes_eq text (codes "=") then Equal
    else (if bytes_eq text (codes "/\\") then And
    else (if bytes_eq text (codes "\\/") then Or
    else (if bytes_eq text (codes "~") then Not
    else (if bytes_eq text (codes "|") then Bar
    else (if bytes_eq text (codes "@") then At
    else (if bytes_eq text (codes "{") then OpenBrace
    else (if bytes_eq text (codes "}") then CloseBrace
    else Other))))))))))))))

-- of a token of this kind and text
abbrev pub sign_by : TokenKind → List ℕ → Sign
sign_by kind.Identifier text = Identifier
sign_by kind.Wildcard text = if bytes_eq text (codes "_") then Wildcard else Other
sign_by kind.Reserved text = reserved_sign text
sign_by kind.Number text = Number
sign_by kind.Symbol text = symbol_sign text
sign_by kind.Quoted text = Other
sign_by kind.Other text = Other

abbrev pub sign_of : Token → Sign
sign_of t = sign_by t.kind t.text

-- of the next token, or of the end
abbrev pub sign_at : List Token → Sign
sign_at [] = Other
sign_at (t ∷ rest) = sign_of t

-- an atom begins with it
abbrev pub begins_atom : Sign → Bool
begins_atom Identifier = true
begins_atom Number = true
begins_atom PropSort = true
begins_atom SetSort = true
begins_atom TypeSort = true
begins_atom Open = true
begins_atom _ = false

-- an open form begins with it
abbrev pub begins_open : Sign → Bool
begins_open Forall = true
begins_open Fun = true
begins_open Let = true
begins_open _ = false

-- a term begins with it
abbrev pub begins_term : Sign → Bool
begins_term Not = true
begins_term s = if begins_open s then true else begins_atom s
