use Rattle.std.specs.Prelude.{◌≡◌, ℕ, ◌+◌, ◌≤◌, nat_le, if◌then◌else◌, refl}
use Rattle.std.proofs.Common.{arith, ap}
use Rattle.std.proofs.lemmas.Bool.Decides.{nat_tests}
use Rattle.core_term.specs.Tree.{Tree, Var, Sorted, Constant, Prod, Lam, LetIn, App, free_bound}
use Rattle.core_term.specs.Places.{lift_of}

index-zero : (i from : ℕ) → (if nat_le from i then i + 0 else i) ≡ i
index-zero i from = grind (arith, nat_tests)

-- room for no variable changes nothing
pub lifted-zero : (t : Tree) (from : ℕ) → lift_of t 0 from ≡ t
lifted-zero (Var i) from = ap Var (index-zero i from)
lifted-zero (Sorted s) from = refl
lifted-zero (Constant c) from = refl
lifted-zero (Prod n a b) from = cc (lifted-zero a from, lifted-zero b (from + 1))
lifted-zero (Lam n a b) from = cc (lifted-zero a from, lifted-zero b (from + 1))
lifted-zero (LetIn n a t b) from = cc (lifted-zero a from, lifted-zero t from, lifted-zero b (from + 1))
lifted-zero (App f a) from = cc (lifted-zero f from, lifted-zero a from)

index-above : (i by from : ℕ) → i + 1 ≤ from → (if nat_le from i then i + by else i) ≡ i
index-above i by from above = grind (arith, nat_tests)

-- a term whose free variables all stand below the place is left alone
pub lifted-above : (t : Tree) (by from : ℕ) → free_bound t ≤ from → lift_of t by from ≡ t
lifted-above (Var i) by from above = ap Var (index-above i by from above)
lifted-above (Sorted s) by from above = refl
lifted-above (Constant c) by from above = refl
lifted-above (Prod n a b) by from above =
    cc (lifted-above a by from (omega arith), lifted-above b by (from + 1) (omega arith))
lifted-above (Lam n a b) by from above =
    cc (lifted-above a by from (omega arith), lifted-above b by (from + 1) (omega arith))
lifted-above (LetIn n a t b) by from above =
    cc (lifted-above a by from (omega arith), lifted-above t by from (omega arith), lifted-above b by (from + 1) (omega arith))
lifted-above (App f a) by from above =
    cc (lifted-above f by from (omega arith), lifted-above a by from (omega arith))

index-more : (i m n f g : ℕ) → f ≤ g → g ≤ f + m →
    (if nat_le g (if nat_le f i then i + m else i) then (if nat_le f i then i + m else i) + n else (if nat_le f i then i + m else i)) ≡ (if nat_le f i then i + (m + n) else i)
index-more i m n f g from_below within = grind (arith, nat_tests)

-- room made within room that was made before is more room
pub lifted-more : (t : Tree) (m n f g : ℕ) → f ≤ g → g ≤ f + m → lift_of (lift_of t m f) n g ≡ lift_of t (m + n) f
lifted-more (Var i) m n f g le within = ap Var (index-more i m n f g le within)
lifted-more (Sorted s) m n f g le within = refl
lifted-more (Constant c) m n f g le within = refl
lifted-more (Prod k a b) m n f g le within =
    cc (lifted-more a m n f g le within, lifted-more b m n (f + 1) (g + 1) (omega arith) (omega arith))
lifted-more (Lam k a b) m n f g le within =
    cc (lifted-more a m n f g le within, lifted-more b m n (f + 1) (g + 1) (omega arith) (omega arith))
lifted-more (LetIn k a t b) m n f g le within =
    cc (lifted-more a m n f g le within, lifted-more t m n f g le within, lifted-more b m n (f + 1) (g + 1) (omega arith) (omega arith))
lifted-more (App h a) m n f g le within = cc (lifted-more h m n f g le within, lifted-more a m n f g le within)

index-past : (i m n f g h : ℕ) → f ≤ g → h ≡ g + m →
    (if nat_le f (if nat_le g i then i + n else i) then (if nat_le g i then i + n else i) + m else (if nat_le g i then i + n else i)) ≡ (if nat_le h (if nat_le f i then i + m else i) then (if nat_le f i then i + m else i) + n else (if nat_le f i then i + m else i))
index-past i m n f g h le is = grind (arith, nat_tests)

-- room at one place and room at a lower one can be made in either order
pub lifted-past : (t : Tree) (m n f g h : ℕ) → f ≤ g → h ≡ g + m → lift_of (lift_of t n g) m f ≡ lift_of (lift_of t m f) n h
lifted-past (Var i) m n f g h le is = ap Var (index-past i m n f g h le is)
lifted-past (Sorted s) m n f g h le is = refl
lifted-past (Constant c) m n f g h le is = refl
lifted-past (Prod k a b) m n f g h le is =
    cc (lifted-past a m n f g h le is, lifted-past b m n (f + 1) (g + 1) (h + 1) (omega arith) (omega arith))
lifted-past (Lam k a b) m n f g h le is =
    cc (lifted-past a m n f g h le is, lifted-past b m n (f + 1) (g + 1) (h + 1) (omega arith) (omega arith))
lifted-past (LetIn k a t b) m n f g h le is =
    cc (lifted-past a m n f g h le is, lifted-past t m n f g h le is, lifted-past b m n (f + 1) (g + 1) (h + 1) (omega arith) (omega arith))
lifted-past (App e a) m n f g h le is = cc (lifted-past e m n f g h le is, lifted-past a m n f g h le is)
