-- The sentences of a text.
use Rattle.std.specs.Prelude.{◌≡◌, ◌==◌, ℕ, ◌+◌, ◌<◌, ◌≤◌, ◌||◌, Bool, true, false, List, [], ◌∷◌, ◌++◌, length, replicate}
use Rattle.base_core.specs.declared.kind.Kind.{Kind}
use Rattle.base_core.specs.declared.kind.Kind.TheVariants.{Plain, Bullet, BraceOpen, BraceClose, Unfinished}
use Rattle.sentence_split.specs.declared.spans.Span.{Span}
use Rattle.sentence_split.specs.Items.{Items, spells, AreItems, IsStretch, IsGap, is_blank, begins}

-- after a period: a blank, or the text's end
abbrev pub is_ended : List ℕ → Bool
is_ended [] = true
is_ended (b ∷ rest) = is_blank b

-- a stretch of the text and a period that ends it, with what then follows
pub record Ends (text rest : List ℕ) : Type 0 where
  pub stretch : Items
  pub fits : IsStretch stretch (46 ∷ rest)
  pub spelled : text ≡ spells stretch (46 ∷ rest)
  pub ended : is_ended rest ≡ true

-- the shortest such stretch
pub record EndsFirst (text rest : List ℕ) : Type 0 where
  pub ends : Ends text rest
  pub shortest : (other : List ℕ) → Ends text other → length other ≤ length rest

-- one of `-`, `+` and `*`
abbrev pub is_bullet : ℕ → Bool
is_bullet b = b == 45 || b == 43 || b == 42

-- a bullet or a brace
abbrev pub is_sign : ℕ → Bool
is_sign b = is_bullet b || b == 123 || b == 125

-- the longest run of one bullet
pub record IsRun (sentence rest : List ℕ) : Type 0 where
  pub mark : ℕ
  pub count : ℕ
  pub bullet : is_bullet mark ≡ true
  pub some : 0 < count
  pub run : sentence ≡ replicate count mark
  pub longest : begins mark rest ≡ false

-- no sign begins here
abbrev pub BeginsNoSign : List ℕ → Type 0
BeginsNoSign [] = ⊥
BeginsNoSign (b ∷ rest) = is_sign b ≡ false

-- a sentence of each kind, by what follows it
abbrev pub IsSentence : Kind → List ℕ → List ℕ → Type 0
IsSentence Bullet sentence rest = IsRun sentence rest
IsSentence BraceOpen sentence rest = sentence ≡ 123 ∷ []
IsSentence BraceClose sentence rest = sentence ≡ 125 ∷ []
IsSentence Plain sentence rest = BeginsNoSign sentence × EndsFirst (sentence ++ rest) rest
IsSentence Unfinished sentence rest = BeginsNoSign sentence × (rest ≡ []) × ((other : List ℕ) → Ends sentence other → ⊥)

-- neither a blank nor a closed comment begins here, and something does
pub record BeginsSentence (text : List ℕ) : Type 0 where
  pub first : ℕ
  pub others : List ℕ
  pub begun : text ≡ first ∷ others
  pub unblank : is_blank first ≡ false
  pub uncommented : (inside : Items) (after : List ℕ) → AreItems inside (42 ∷ 41 ∷ after) → text ≡ 40 ∷ 42 ∷ spells inside (42 ∷ 41 ∷ after) → ⊥

-- the next sentence: after blanks and comments, with its places in a text of so many bytes
pub record IsNext (total : ℕ) (text : List ℕ) (span : Span) (rest : List ℕ) : Type 0 where
  pub gap : Items
  pub sentence : List ℕ
  pub is_gap : IsGap gap (sentence ++ rest)
  pub spelled : text ≡ spells gap (sentence ++ rest)
  pub begins_one : BeginsSentence (sentence ++ rest)
  pub is_one : IsSentence span.kind sentence rest
  pub from_is : span.from + length (sentence ++ rest) ≡ total
  pub to_is : span.to + length rest ≡ total

-- only blanks and comments are left
pub record IsAllGap (text : List ℕ) : Type 0 where
  pub gap : Items
  pub is_gap : IsGap gap []
  pub spelled : text ≡ spells gap []

-- these are the sentences of the last bytes of a text of so many
abbrev pub IsSplit : ℕ → List ℕ → List Span → Type 0
IsSplit total text [] = IsAllGap text
IsSplit total text (span ∷ spans) = (rest : List ℕ) × IsNext total text span rest × IsSplit total rest spans
