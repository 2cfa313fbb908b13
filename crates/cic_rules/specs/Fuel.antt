-- The units of a sentence, and how deep its judgements stand in one another.
use Rattle.std.specs.Prelude.{◌≡◌, ℕ, ◌+◌, ◌-◌, ◌≤◌, Bool, true, false, refl}
use Rattle.std.specs.Coded.{Coded, code_by, coded×, coded_ℕ}

-- how many units there were at first, how many are spent, and how many judgements stand in one another
pub record FuelState : Type 0 where
  pub limit : ℕ
  pub spent : ℕ
  pub nesting : ℕ

-- it is stored as its three numbers
abbrev pub fuel_code : Coded FuelState
fuel_code =
    code_by (ℕ × (ℕ × ℕ)) (coded× coded_ℕ (coded× coded_ℕ coded_ℕ)) (λ f. (f.limit, (f.spent, f.nesting)))
    (λ p. record { limit = p.0; spent = p.1.0; nesting = p.1.1 }) (λ f. refl)

-- how many judgements may stand in one another
abbrev pub NESTING_LIMIT : ℕ
NESTING_LIMIT = 2000

-- no more is spent than there was, and judgements stand no deeper than they may
pub record IsFuel (f : FuelState) : Type 0 where
  pub spent_is : f.spent ≤ f.limit
  pub nesting_is : f.nesting ≤ NESTING_LIMIT

-- fuel of which nothing is spent
abbrev pub full : ℕ → FuelState
full limit = record { limit = limit; spent = 0; nesting = 0 }

-- how many units are left
abbrev pub left : FuelState → ℕ
left f = f.limit - f.spent

-- how many more judgements may be begun inside those under way
abbrev pub calls_left : FuelState → ℕ
calls_left f = NESTING_LIMIT - f.nesting

-- one judgement deeper, where it was begun
abbrev pub nested : Bool → FuelState → FuelState
nested true f = record f { nesting = f.nesting + 1 }
nested false f = f

-- what a call does to fuel: it may spend, and leaves the rest as it was
pub record IsSpentOf (old new : FuelState) : Type 0 where
  pub limit : new.limit ≡ old.limit
  pub nesting : new.nesting ≡ old.nesting
  pub spent : old.spent ≤ new.spent
