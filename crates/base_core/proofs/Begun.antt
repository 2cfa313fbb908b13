-- Pieces that are written one after another.
use Rattle.std.proofs.Common.{◌≡◌, ℕ, Option, None, Some, List, [], ◌++◌, refl, sym, ap, append_assoc, append-nil, arith}
use Rattle.base_core.specs.Sink.{appended, Begins}

pub appended-appended : {A : Type 0} (told : Option (List A)) (a b : List A) → appended (appended told a) b ≡ appended told (a ++ b)
appended-appended None a b = refl
appended-appended (Some told) a b = ap Some (append_assoc told a b)

pub appended-nil : {A : Type 0} (told : Option (List A)) → appended told [] ≡ told
appended-nil None = refl
appended-nil (Some told) = ap Some (append-nil told)

-- nothing was written
pub begins_none : (told : Option (List ℕ)) (bytes : List ℕ) → Begins told told bytes
begins_none told bytes = record { begun = []; left = bytes; parts = refl; grown = sym (appended-nil told) }

-- the whole was written
pub begins_whole : (old new : Option (List ℕ)) (bytes : List ℕ) → new ≡ appended old bytes → Begins old new bytes
begins_whole old new bytes e = record { begun = bytes; left = []; parts = sym (append-nil bytes); grown = e }

-- a first piece was written, and the second begun
pub begins_second : (old mid new : Option (List ℕ)) (a b : List ℕ) → mid ≡ appended old a → Begins mid new b → Begins old new (a ++ b)
begins_second old mid new a b e h = record { begun = a ++ h.begun; left = h.left; parts = grind (arith, append_assoc, h.parts); grown = grind (arith, appended-appended, h.grown) }

-- what was begun is the front of more
pub begins_front : (old new : Option (List ℕ)) (a b : List ℕ) → Begins old new a → Begins old new (a ++ b)
begins_front old new a b h = record { begun = h.begun; left = h.left ++ b; parts = grind (arith, append_assoc, h.parts); grown = h.grown }
