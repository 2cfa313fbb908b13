-- The forms of a command line.
use Rattle.std.specs.Prelude.{◌==◌, ℕ, ◌+◌, ◌-◌, ◌*◌, nat_le, nat_lt, ◌&&◌, Bool, true, false, not, Option, None, Some, List, [], ◌∷◌, length, codes, if◌then◌else◌}
use Rattle.std.specs.List.{list_any}
use Rattle.std.specs.Str.{bytes_eq}
use Rattle.doc_gen.specs.declared.generating.TheConstants.{GENERATED_LIMIT}
use Rattle.fleche_main.specs.declared.words.TheConstants.{FILE_LIMIT}

-- a word that names a file is not empty and doesn't begin with `-`
abbrev pub is_file : List ℕ → Bool
is_file [] = false
is_file (b ∷ rest) = not (b == 45)

abbrev pub are_all_files : List (List ℕ) → Bool
are_all_files [] = true
are_all_files (word ∷ words) = is_file word && are_all_files words

-- words that name files: at least one, and at most `FILE_LIMIT`
abbrev pub are_files : List (List ℕ) → Bool
are_files words = nat_lt 0 (length words) && (nat_le (length words) FILE_LIMIT && are_all_files words)

abbrev pub is_flag : List ℕ → Bool
is_flag word = bytes_eq word (codes "--observe")

-- the names of the pairs `--observe NAME` at the front
abbrev pub names_of : List (List ℕ) → List (List ℕ)
names_of (flag ∷ name ∷ rest) = if is_flag flag then name ∷ names_of rest else []
names_of (flag ∷ []) = []
names_of [] = []

-- what stands behind these pairs
abbrev pub behind_pairs : List (List ℕ) → List (List ℕ)
behind_pairs (flag ∷ name ∷ rest) = if is_flag flag then behind_pairs rest else flag ∷ name ∷ rest
behind_pairs (flag ∷ []) = flag ∷ []
behind_pairs [] = []

-- whether a name is listed
abbrev pub is_listed : List (List ℕ) → List ℕ → Bool
is_listed titles name = list_any (λ title. bytes_eq title name) titles

-- whether each of these names is
abbrev pub are_listed : List (List ℕ) → List (List ℕ) → Bool
are_listed titles [] = true
are_listed titles (name ∷ names) = is_listed titles name && are_listed titles names

-- what the words ask to check, and whose summaries they want
pub record Asked : Type 0 where
  pub names : List (List ℕ)
  pub files : List (List ℕ)

abbrev pub asked : List (List ℕ) → Asked
asked words = record { names = names_of words; files = behind_pairs words }

-- `check`, then pairs `--observe NAME`, then files, where observers have these titles
abbrev pub documents_named : List (List ℕ) → List (List ℕ) → Option Asked
documents_named titles (command ∷ words) =
    if bytes_eq command (codes "check") && (are_files (behind_pairs words) && are_listed titles (names_of words)) then Some (asked words) else None
documents_named titles [] = None

-- whether the words ask for a session, and for a paced one: `serve`, `serve --paced`
abbrev pub session_named : List (List ℕ) → Option Bool
session_named (command ∷ []) = if bytes_eq command (codes "serve") then Some false else None
session_named (command ∷ flag ∷ []) = if bytes_eq command (codes "serve") && bytes_eq flag (codes "--paced") then Some true else None
session_named words = None

abbrev pub is_digit : ℕ → Bool
is_digit sign = nat_le 48 sign && nat_le sign 57

abbrev pub digit_value : ℕ → ℕ
digit_value sign = sign - 48

-- the number of four digits
abbrev pub digits_value : ℕ → ℕ → ℕ → ℕ → ℕ
digits_value a b c d = 1000 * digit_value a + 100 * digit_value b + 10 * digit_value c + digit_value d

-- the same where all four are digits
abbrev pub number_of_digits : ℕ → ℕ → ℕ → ℕ → Option ℕ
number_of_digits a b c d = if is_digit a && (is_digit b && (is_digit c && is_digit d)) then Some (digits_value a b c d) else None

-- the number of a word of one to four digits
abbrev pub number_of : List ℕ → Option ℕ
number_of (d ∷ []) = number_of_digits 48 48 48 d
number_of (c ∷ d ∷ []) = number_of_digits 48 48 c d
number_of (b ∷ c ∷ d ∷ []) = number_of_digits 48 b c d
number_of (a ∷ b ∷ c ∷ d ∷ []) = number_of_digits a b c d
number_of word = None

-- a number from 1 to a limit
abbrev pub within : ℕ → Option ℕ → Option ℕ
within limit (Some n) = if nat_lt 0 n && nat_le n limit then Some n else None
within limit None = None

-- how large a document the words ask to make: `gen N`
abbrev pub number_named : ℕ → List (List ℕ) → Option ℕ
number_named limit (command ∷ word ∷ []) = if bytes_eq command (codes "gen") then within limit (number_of word) else None
number_named limit words = None

-- what a command line asks for
pub data Form : Type 0 where
  NoForm : Form
  Documents : Asked → Form
  Generated : ℕ → Form
  Session : Bool → Form

-- by what is named; no words name two of them
abbrev pub form_by : Option Bool → Option ℕ → Option Asked → Form
form_by (Some paced) count documents = Session paced
form_by None (Some count) documents = Generated count
form_by None None (Some documents) = Documents documents
form_by None None None = NoForm

-- what the words ask for, where observers have these titles
abbrev pub form_of : List (List ℕ) → List (List ℕ) → Form
form_of titles words = form_by (session_named words) (number_named GENERATED_LIMIT words) (documents_named titles words)
