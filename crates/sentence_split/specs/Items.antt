-- Comments, strings and single bytes (Rocq manual, "Lexical conventions"; that a string ends at the
-- next `"` is our own rule).
use Rattle.std.specs.Prelude.{◌≡◌, ◌==◌, ℕ, ◌&&◌, ◌||◌, Bool, true, false, List, [], ◌∷◌, ◌++◌}

-- items, one after another; a comment has items inside
pub data Items : Type 0 where
  End : Items
  Comment : (inside after : Items) → Items
  Quotation : (bytes : List ℕ) (after : Items) → Items
  Byte : (byte : ℕ) (after : Items) → Items

-- the bytes of the items, and then these
abbrev pub spells : Items → List ℕ → List ℕ
spells End rest = rest
spells (Comment inside after) rest = 40 ∷ 42 ∷ spells inside (42 ∷ 41 ∷ spells after rest)
spells (Quotation bytes after) rest = 34 ∷ (bytes ++ 34 ∷ spells after rest)
spells (Byte byte after) rest = byte ∷ spells after rest

-- the bytes begin with this one
abbrev pub begins : ℕ → List ℕ → Bool
begins c [] = false
begins c (b ∷ rest) = b == c

-- a comment mark `(*` begins here
abbrev pub opens : ℕ → List ℕ → Bool
opens b rest = b == 40 && begins 42 rest

-- a comment mark `*)` begins here
abbrev pub closes : ℕ → List ℕ → Bool
closes b rest = b == 42 && begins 41 rest

-- none of the bytes is `"`
abbrev pub HasNoQuote : List ℕ → Type 0
HasNoQuote [] = Unit {0}
HasNoQuote (b ∷ rest) = ((b == 34) ≡ false) × HasNoQuote rest

-- these are items inside a comment, where the given bytes follow: a single byte begins neither a
-- comment mark nor a string
abbrev pub AreItems : Items → List ℕ → Type 0
AreItems End rest = Unit {0}
AreItems (Comment inside after) rest = AreItems inside (42 ∷ 41 ∷ spells after rest) × AreItems after rest
AreItems (Quotation bytes after) rest = HasNoQuote bytes × AreItems after rest
AreItems (Byte b after) rest = (opens b (spells after rest) ≡ false) × (closes b (spells after rest) ≡ false) × ((b == 34) ≡ false) × AreItems after rest

-- these stand outside comments, where the given bytes follow: a single byte begins neither a comment
-- nor a string
abbrev pub IsStretch : Items → List ℕ → Type 0
IsStretch End rest = Unit {0}
IsStretch (Comment inside after) rest = AreItems inside (42 ∷ 41 ∷ spells after rest) × IsStretch after rest
IsStretch (Quotation bytes after) rest = HasNoQuote bytes × IsStretch after rest
IsStretch (Byte b after) rest = (opens b (spells after rest) ≡ false) × ((b == 34) ≡ false) × IsStretch after rest

-- a space, tab, carriage return or line feed
abbrev pub is_blank : ℕ → Bool
is_blank b = b == 32 || b == 9 || b == 13 || b == 10

-- these are blanks and comments, where the given bytes follow
abbrev pub IsGap : Items → List ℕ → Type 0
IsGap End rest = Unit {0}
IsGap (Comment inside after) rest = AreItems inside (42 ∷ 41 ∷ spells after rest) × IsGap after rest
IsGap (Quotation bytes after) rest = ⊥
IsGap (Byte b after) rest = (is_blank b ≡ true) × IsGap after rest
