-- Pieces of a list of bytes, as they are taken one after another.
use Rattle.std.proofs.Common.{◌≡◌, ℕ, ◌+◌, ◌-◌, ◌≤◌, Option, List, length, take, drop, sym, arith}
use Rattle.std.proofs.lemmas.Grind.{common_steps}
use Rattle.std.proofs.lemmas.List.{take-append-drop}
use Rattle.std.proofs.Math.Seq.{take-add}
use Rattle.base_core.specs.Faults.{Rose}
use Rattle.base_core.specs.Sink.{appended, Begins}
use Rattle.base_core.proofs.Begun.{appended-appended, appended-nil}

-- some of the first bytes were written
pub begins_take : (old new : Option (List ℕ)) (bytes : List ℕ) (n : ℕ) → new ≡ appended old (take n bytes) → Begins old new bytes
begins_take old new bytes n e = record { begun = take n bytes; left = drop n bytes; parts = sym (take-append-drop n bytes); grown = e }

pub ruleset pieces = (begins_take, appended-appended, appended-nil)

-- the next n bytes were taken
pub took_more : (old now new : Option (List ℕ)) (bytes : List ℕ) (at n : ℕ) → now ≡ appended old (take at bytes) → new ≡ appended now (take n (drop at bytes)) → new ≡ appended old (take (at + n) bytes)
took_more old now new bytes at n before after =
    rw (after, before, take-add at n bytes) (appended-appended old (take at bytes) (take n (drop at bytes)))

-- the rest of the bytes, as the code slices it
pub shown_rest : (bytes : List ℕ) (at : ℕ) → take (length bytes - at) (drop at bytes) ≡ drop at bytes
shown_rest bytes at = grind (arith, common_steps)

-- the count rose after it stood
pub rose_later : (a b c : ℕ) → b ≡ a → Rose b c → Rose a c
rose_later a b c h r = omega arith
