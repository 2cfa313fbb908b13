-- Names for binders that are free.
use Rattle.std.specs.Prelude.{bytes_eq, ℕ, zero, suc, List, [], ◌∷◌, ◌++◌, length, codes, decimal, Bool, true, false, if◌then◌else◌}

-- the name is among these
abbrev pub has_name : List (List ℕ) → List ℕ → Bool
has_name [] name = false
has_name (n ∷ ns) name = if bytes_eq name n then true else has_name ns name

-- what the names of a binder begin with: its own name, or `x` where it has none
abbrev pub stem_of : List ℕ → List ℕ
stem_of name = if bytes_eq name (codes "_") then codes "x" else name

-- h, h0, h1 and so on
abbrev pub candidate : List ℕ → ℕ → List ℕ
candidate stem zero = stem
candidate stem (suc k) = stem ++ decimal k

-- the first that is free, from one of them on, of so many and one more
abbrev pub first_free : List (List ℕ) → List ℕ → ℕ → ℕ → List ℕ
first_free taken stem k zero = candidate stem k
first_free taken stem k (suc more) = if has_name taken (candidate stem k) then first_free taken stem (suc k) more else candidate stem k

-- the first that is free; so many names can't take one candidate more
abbrev pub fresh : List (List ℕ) → List ℕ → List ℕ
fresh taken name = first_free taken (stem_of name) 0 (length taken)
