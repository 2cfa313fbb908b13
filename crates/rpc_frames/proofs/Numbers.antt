-- Numbers that stop at a cap.
use Rattle.std.proofs.Common.{◌≡◌, ℕ, ◌+◌, ◌*◌, ◌-◌, ◌<◌, min, List, [], ◌∷◌, length, get_or, drop, arith}
use Rattle.std.proofs.lemmas.List.{drop_more}
use Rattle.rpc_frames.specs.Fields.{number_after}

step_capped : (a b d : ℕ) → min a 4194305 ≡ min b 4194305 → min (10 * a + d) 4194305 ≡ min (10 * b + d) 4194305
step_capped a b d e = omega arith

-- what numbers spell up to the cap depends on the number before up to the cap
pub number_after_capped : (a b : ℕ) (digits : List ℕ) → min a 4194305 ≡ min b 4194305 → min (number_after a digits) 4194305 ≡ min (number_after b digits) 4194305
number_after_capped a b [] e = e
number_after_capped a b (d ∷ digits) e = number_after_capped (10 * a + (d - 48)) (10 * b + (d - 48)) digits (step_capped a b (d - 48) e)

-- one digit more
pub capped_more : (n m : ℕ) (digits : List ℕ) (i : ℕ) → i < length digits → m ≡ min (10 * n + (get_or digits i 0 - 48)) 4194305 → min (number_after m (drop (i + 1) digits)) 4194305 ≡ min (number_after n (drop i digits)) 4194305
capped_more n m digits i h e =
    rw (drop_more digits i 0 h)
    (number_after_capped m (10 * n + (get_or digits i 0 - 48)) (drop (i + 1) digits) (omega arith))
