-- Which texts a sentence of each kind has.
use Rattle.std.specs.Prelude.{◌≡◌, ℕ, ◌<◌, ◌⊎◌, List, [], ◌∷◌, ◌++◌, replicate}
use Rattle.base_core.specs.declared.kind.Kind.{Kind}
use Rattle.base_core.specs.declared.kind.Kind.TheVariants.{Plain, Bullet, BraceOpen, BraceClose, Unfinished}

-- one or more times the same byte, which is `-`, `+` or `*`
pub record IsBulletText (text : List ℕ) : Type 0 where
  pub mark : ℕ
  pub count : ℕ
  pub is_mark : (mark ≡ 45) ⊎ (mark ≡ 43) ⊎ (mark ≡ 42)
  pub some : 0 < count
  pub run : text ≡ replicate count mark

-- the last byte is a period
pub record EndsInPeriod (text : List ℕ) : Type 0 where
  pub front : List ℕ
  pub parts : text ≡ front ++ 46 ∷ []

-- this text fits a sentence of this kind
abbrev pub IsFit : Kind → List ℕ → Type 0
IsFit Plain text = EndsInPeriod text
IsFit Bullet text = IsBulletText text
IsFit BraceOpen text = text ≡ 123 ∷ []
IsFit BraceClose text = text ≡ 125 ∷ []
IsFit Unfinished text = Unit {0}
