-- Calls that write, one after another.
use Rattle.std.proofs.Common.{◌≡◌, ℕ, ◌+◌, Option, Result, Ok, Err, List, [], ◌∷◌, ◌++◌, length, get_or, take, drop, ◌<◌, append-nil, refl, sym, ◌∙◌, ap, arith}
use Rattle.std.specs.Result.{IsErrOf, IsErrAnd}
use Rattle.std.specs.List.{flat_map}
use Rattle.std.proofs.lemmas.List.{take_more, take-append-drop}
use Rattle.std.proofs.lemmas.List.Concat.{flat_map-append}
use Rattle.base_core.specs.Sink.{appended}
use Rattle.base_core.proofs.Begun.{appended-appended, begins_second, begins_front}
use Rattle.base_core.specs.declared.writing.Halt.{Halt}
use Rattle.base_core.specs.declared.writing.Halt.TheVariants.{NoMem, SinkFailed}
use Rattle.base_core.specs.Writes.{Writes, IsCalmWrite}
use Rattle.base_core.proofs.Pieces.{rose_later}

-- a call that wrote these, and then one that wrote those
pub writes_then : {D T U : Type 0} (written : D → Option (List ℕ)) (faults : D → ℕ) (old mid new : D) (x : T) (r : Result U Halt) (a b : List ℕ) → Writes {T = T} written faults old mid (Ok x) a → Writes written faults mid new r b → Writes written faults old new r (a ++ b)
writes_then {U = U} written faults old mid new x (Ok y) a b first second = record {
  told = second.told ∙ ap (λ w. appended w b) first.told ∙ appended-appended (written old) a b;
  later = omega (arith, first.later, second.later);
  failed = λ e. rose_later (faults old) (faults mid) (faults new) first.calm (second.failed e);
  calm = second.calm ∙ first.calm;
}
writes_then {U = U} written faults old mid new x (Err y) a b first second = record {
  told = begins_second (written old) (written mid) (written new) a b first.told second.told;
  later = omega (arith, first.later, second.later);
  failed = λ e. rose_later (faults old) (faults mid) (faults new) first.calm (second.failed e);
  calm = still y second.calm;
} where
  still : (h : Halt) → IsCalmWrite {T = U} (Err h) (faults mid) (faults new) → IsCalmWrite {T = U} (Err h) (faults old) (faults new)
  still NoMem k = k ∙ first.calm
  still SinkFailed k = tt

same_error : {U : Type 0} (z : Halt) → IsErrOf {T = U} (Err z) SinkFailed → z ≡ SinkFailed
same_error z e = cc

-- the exit of a `?`, where more was to be written
pub writes_cut : {D T U : Type 0} (written : D → Option (List ℕ)) (faults : D → ℕ) (old new : D) (y : Halt) (r : Result U Halt) (a b : List ℕ) → IsErrAnd r (λ z. z ≡ y) → Writes {T = T} written faults old new (Err y) a → Writes written faults old new r (a ++ b)
writes_cut {T = T} {U = U} written faults old new y (Ok z) a b h first = absurd h
writes_cut {T = T} {U = U} written faults old new y (Err z) a b h first = record {
  told = begins_front (written old) (written new) a b first.told;
  later = first.later;
  failed = λ e. first.failed (ap (λ k. Err k) (sym h ∙ same_error z e));
  calm = still z y h first.calm;
} where
  still : (k l : Halt) → k ≡ l → IsCalmWrite {T = T} (Err l) (faults old) (faults new) → IsCalmWrite {T = U} (Err k) (faults old) (faults new)
  still NoMem l e c = as_memory l (sym e) c where
    as_memory : (l : Halt) → l ≡ NoMem → IsCalmWrite {T = T} (Err l) (faults old) (faults new) → faults new ≡ faults old
    as_memory NoMem e c = c
    as_memory SinkFailed e c = absurd (never e) where
      never : SinkFailed ≡ NoMem → ⊥
      never n = cc
  still SinkFailed l e c = tt

-- the parts of a list of pieces, at one of them
pub flat_map_at : {X : Type 0} (f : X → List ℕ) (xs : List X) (i : ℕ) (x : X) → i < length xs → x ≡ get_or xs i x → flat_map f xs ≡ (flat_map f (take i xs) ++ f x) ++ flat_map f (drop (i + 1) xs)
flat_map_at f xs i x h is =
    let parts : take (i + 1) xs ≡ take i xs ++ x ∷ [] = rw (take_more xs i x h, ← is) refl in
    let whole : flat_map f (take (i + 1) xs ++ drop (i + 1) xs) ≡ flat_map f xs = ap (flat_map f) (take-append-drop (i + 1) xs) in
    sym whole ∙ flat_map-append f (take (i + 1) xs) (drop (i + 1) xs) ∙ ap (λ l. l ++ flat_map f (drop (i + 1) xs)) (ap (flat_map f) parts ∙ flat_map-append f (take i xs) (x ∷ []) ∙ ap (λ l. flat_map f (take i xs) ++ l) (append-nil (f x)))

-- the pieces before the next one, and it
pub flat_map_next : {X : Type 0} (f : X → List ℕ) (xs : List X) (i : ℕ) (x : X) → i < length xs → x ≡ get_or xs i x → flat_map f (take (i + 1) xs) ≡ flat_map f (take i xs) ++ f x
flat_map_next f xs i x h is =
    let parts : take (i + 1) xs ≡ take i xs ++ x ∷ [] = rw (take_more xs i x h, ← is) refl in
    ap (flat_map f) parts ∙ flat_map-append f (take i xs) (x ∷ []) ∙ ap (λ l. flat_map f (take i xs) ++ l) (append-nil (f x))
