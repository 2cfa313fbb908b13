-- Which characters are a token of each kind, by what follows it.
use Rattle.std.specs.Prelude.{◌≡◌, ◌==◌, ℕ, Bool, true, false, List, [], ◌∷◌, ◌++◌, encode_utf8_all}
use Rattle.std.specs.List.{AllPass}
use Rattle.sentence_split.specs.Items.{Items, spells, AreItems, HasNoQuote, is_blank}
use Rattle.coq_syntax.specs.declared.token.TokenKind.{TokenKind}
use Rattle.coq_syntax.specs.declared.token.TokenKind.TheVariants.{Identifier, Wildcard, Reserved, Number, Symbol, Quoted, Other}
use Rattle.coq_syntax.specs.Characters.{starts_word, continues_word, is_digit, is_mark, is_pair, begins_pair, is_wildcard, is_reserved}

-- the first of these characters is none of the class
abbrev pub Stops : (ℕ → Bool) → List ℕ → Type 0
Stops class [] = Unit {0}
Stops class (c ∷ rest) = class c ≡ false

-- a character of the first class, then characters of the second
abbrev pub IsRun : (ℕ → Bool) → (ℕ → Bool) → List ℕ → Type 0
IsRun first others [] = ⊥
IsRun first others (c ∷ more) = (first c ≡ true) × AllPass others more

-- a longest word
abbrev pub IsWord : List ℕ → List ℕ → Type 0
IsWord word rest = IsRun starts_word continues_word word × Stops continues_word rest

-- no comment that is closed begins here
abbrev pub BeginsNoComment : List ℕ → Type 0
BeginsNoComment text = (inside : Items) (after : List ℕ) → AreItems inside (42 ∷ 41 ∷ after) → text ≡ 40 ∷ 42 ∷ spells inside (42 ∷ 41 ∷ after) → ⊥

-- a longest symbol
abbrev pub IsSymbol : List ℕ → List ℕ → Type 0
IsSymbol [] rest = ⊥
IsSymbol (c ∷ []) rest = (is_mark c ≡ true) × (begins_pair c rest ≡ false) × BeginsNoComment (c ∷ rest)
IsSymbol (c ∷ d ∷ []) rest = is_pair c d ≡ true
IsSymbol (c ∷ d ∷ e ∷ more) rest = ⊥

-- a `"`, characters other than `"`, and a `"`
pub record IsQuoted (characters : List ℕ) : Type 0 where
  pub inside : List ℕ
  pub unquoted : HasNoQuote inside
  pub spelled : characters ≡ 34 ∷ (inside ++ 34 ∷ [])

-- one character that begins nothing else; a `"` where no other follows
abbrev pub IsOther : List ℕ → List ℕ → Type 0
IsOther [] rest = ⊥
IsOther (c ∷ []) rest =
    (is_blank c ≡ false) × (starts_word c ≡ false) × (is_digit c ≡ false) × (is_mark c ≡ false) × (begins_pair c rest ≡ false) × ((c == 34) ≡ true → HasNoQuote rest)
IsOther (c ∷ d ∷ more) rest = ⊥

-- these characters are a token of this kind, where the others follow
abbrev pub IsLexeme : TokenKind → List ℕ → List ℕ → Type 0
IsLexeme Identifier cs rest = IsWord cs rest × (is_wildcard (encode_utf8_all cs) ≡ false) × (is_reserved (encode_utf8_all cs) ≡ false)
IsLexeme Wildcard cs rest = IsWord cs rest × (is_wildcard (encode_utf8_all cs) ≡ true)
IsLexeme Reserved cs rest = IsWord cs rest × (is_reserved (encode_utf8_all cs) ≡ true)
IsLexeme Number cs rest = IsRun is_digit is_digit cs × Stops is_digit rest
IsLexeme Symbol cs rest = IsSymbol cs rest
IsLexeme Quoted cs rest = IsQuoted cs
IsLexeme Other cs rest = IsOther cs rest
