-- The classes of characters.
use Rattle.std.specs.Prelude.{◌==◌, ℕ, ◌&&◌, ◌||◌, nat_le, bytes_eq, codes, Bool, false, List, [], ◌∷◌}
use Rattle.unicode_ident.specs.Ident.{is_xid_start, is_xid_continue}

-- a character of XID start, or `_`
abbrev pub starts_word : ℕ → Bool
starts_word c = is_xid_start c || c == 95

-- a character of XID continue, or `'`
abbrev pub continues_word : ℕ → Bool
continues_word c = is_xid_continue c || c == 39

-- an ASCII digit
abbrev pub is_digit : ℕ → Bool
is_digit c = nat_le 48 c && nat_le c 57

-- one of `()[]{},:=~|@.`
abbrev pub is_mark : ℕ → Bool
is_mark c = c == 40 || c == 41 || c == 91 || c == 93 || c == 123 || c == 125 || c == 44 || c == 58 || c == 61 || c == 126 || c == 124 || c == 64 || c == 46

-- one of `:=`, `=>`, `->`, `<-`, `/\` and `\/`
abbrev pub is_pair : ℕ → ℕ → Bool
is_pair c d = (c == 58 && d == 61) || (c == 61 && d == 62) || (c == 45 && d == 62) || (c == 60 && d == 45) || (c == 47 && d == 92) || (c == 92 && d == 47)

-- a symbol of two characters begins here
abbrev pub begins_pair : ℕ → List ℕ → Bool
begins_pair c [] = false
begins_pair c (d ∷ rest) = is_pair c d

-- the wildcard
abbrev pub is_wildcard : List ℕ → Bool
is_wildcard text = bytes_eq text (codes "_")

-- one of the words that are no identifiers
abbrev pub is_reserved : List ℕ → Bool
is_reserved text =
    bytes_eq text (codes "forall") || bytes_eq text (codes "fun") || bytes_eq text (codes "let") || bytes_eq text (codes "in") || bytes_eq text (codes "as")
    || bytes_eq text (codes "Prop") || bytes_eq text (codes "Set") || bytes_eq text (codes "Type")
    || bytes_eq text (codes "match") || bytes_eq text (codes "with") || bytes_eq text (codes "end") || bytes_eq text (codes "return") || bytes_eq text (codes "fix")
