-- Where the tokens of a sentence stand.
use Rattle.std.specs.Prelude.{◌≡◌, ℕ, ◌<◌, ◌≤◌, List, [], ◌∷◌, length, slice_range}
use Rattle.std.specs.Str.{IsCharBoundary}
use Rattle.coq_syntax.specs.declared.token.Token.{Token}
use Rattle.coq_syntax.specs.Tokens.{Tokens}

-- the token is the bytes from one place between characters up to another
pub record IsTokenAt (sentence : List ℕ) (t : Token) : Type 0 where
  pub some : t.from < t.to
  pub starts : IsCharBoundary sentence t.from
  pub ends : IsCharBoundary sentence t.to
  pub text : slice_range sentence t.from t.to ≡ t.text

-- tokens one behind another from a byte on, all before the last byte of the sentence
abbrev pub AreTokensBehind : List ℕ → ℕ → List Token → Type 0
AreTokensBehind sentence at [] = at < length sentence
AreTokensBehind sentence at (t ∷ ts) = (at ≤ t.from) × IsTokenAt sentence t × AreTokensBehind sentence t.to ts

-- the tokens of a sentence stand so, and the last byte is its period
abbrev pub ArePlaced : List ℕ → Tokens → Type 0
ArePlaced sentence tokens = AreTokensBehind sentence 0 tokens.items
