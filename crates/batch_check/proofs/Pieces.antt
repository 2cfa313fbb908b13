-- Observers that are shown a file in turn, and pieces that are written one after another.
use Rattle.std.proofs.Common.{◌≡◌, ℕ, ◌+◌, ◌<◌, ◌≤◌, Bool, true, false, ◌||◌, Option, Result, Ok, Err, List, [], ◌∷◌, ◌++◌, OnErr, length, map, set, take, drop, get_or, append_assoc, append-nil, suc, refl, sym, ◌∙◌, ap, subst, arith, add-one, length-drop}
use Rattle.std.specs.List.{list_any}
use Rattle.std.proofs.Math.Seq.{drop-cons, map-set_same}
use Rattle.std.proofs.lemmas.List.{take-append-drop, take_more, length-map, map-append, map-set, get_or-map}
use Rattle.std.proofs.lemmas.List.Edits.{map_over_more}
use Rattle.base_core.specs.Faults.{Rose}
use Rattle.base_core.specs.Sink.{appended, Begins}
use Rattle.base_core.specs.Writes.{Writes, IsCalmWrite}
use Rattle.base_core.specs.declared.writing.Halt.{Halt}
use Rattle.base_core.specs.declared.writing.Halt.TheVariants.{NoMem, SinkFailed}
use Rattle.base_core.proofs.Begun.{appended-appended, begins_second, begins_front}
use Rattle.batch_check.specs.declared.digests.FileDigest.{FileDigest}
use Rattle.batch_check.specs.Reports.{joined}
use Rattle.batch_check.specs.Observers.{shown_more, first_shown}
use Rattle.batch_check.specs.Batch.{IsShort}

-- a count that had only risen then rose
pub rose_since : (a b c : ℕ) → a ≤ b → Rose b c → Rose a c
rose_since a b c h r = omega arith

head_of : (xs : List ℕ) → 0 < length xs → (byte : ℕ) × (left : List ℕ) × (xs ≡ byte ∷ left)
head_of [] h = absurd (omega arith)
head_of (byte ∷ left) h = (byte, left, refl)

-- a put failed before all was written
pub short_at : (old now : Option (List ℕ)) (bytes : List ℕ) (at : ℕ) → at < length bytes → now ≡ appended old (take at bytes) → IsShort old now bytes
short_at old now bytes at h e =
    let rest = head_of (drop at bytes) (omega (arith, length-drop at bytes)) in
    record { part = take at bytes; byte = rest.0; left = rest.1; lines = sym (take-append-drop at bytes) ∙ ap (λ l. take at bytes ++ l) rest.2; wrote = e }

pub on_err : {A E X : Type 0} (result : Result A E) → X → OnErr result X
on_err (Ok a) x = tt
on_err (Err e) x = x

-- one of a list is replaced by one that f can't tell from it
pub kept_by : {X B : Type 0} (f : X → B) (xs : List X) (whole : List B) (i : ℕ) (d new : X) → f new ≡ f d → d ≡ get_or xs i d → map f xs ≡ whole → map f (set xs i new) ≡ whole
kept_by f xs whole i d new e is was = map-set_same f xs i new d (e ∙ ap f is) ∙ was

-- the next observer was shown these digests
pub show_more : {X : Type 0} (f : X → List FileDigest) (digests : List FileDigest) (xs old : List X) (i : ℕ) (d new : X) → i < length xs → length xs ≡ length old → d ≡ get_or xs i d → f new ≡ f d ++ digests → map f xs ≡ first_shown i digests (map f old) → map f (set xs i new) ≡ first_shown (i + 1) digests (map f old)
show_more f digests xs old i d new lt same is grown was =
    map-set f xs i new
    ∙ ap (set (map f xs) i) grown
    ∙ map_over_more (shown_more digests) (map f old) (map f xs) i (f d) (omega (arith, length-map old f)) was (ap f is ∙ sym (get_or-map f xs i d (f d) lt))

-- an element that passes the test was found
pub any_found : {X : Type 0} (p : X → Bool) (xs : List X) (i : ℕ) (d : X) (whole : Bool) → i < length xs → d ≡ get_or xs i d → p d ≡ true → list_any p (drop i xs) ≡ whole → true ≡ whole
any_found p xs i d whole lt is passes was =
    sym (ap (list_any p) (drop-cons xs i d lt) ∙ ap (λ b. b || list_any p (drop (suc i) xs)) (sym (ap p is) ∙ passes)) ∙ was

-- one that doesn't is passed over
pub any_more : {X : Type 0} (p : X → Bool) (xs : List X) (i : ℕ) (d : X) (whole : Bool) → i < length xs → d ≡ get_or xs i d → p d ≡ false → list_any p (drop i xs) ≡ whole → list_any p (drop (i + 1) xs) ≡ whole
any_more p xs i d whole lt is fails was =
    ap (λ n. list_any p (drop n xs)) (add-one i)
    ∙ sym (ap (list_any p) (drop-cons xs i d lt) ∙ ap (λ b. b || list_any p (drop (suc i) xs)) (sym (ap p is) ∙ fails)) ∙ was

pub joined-append : (a b : List (List ℕ)) → joined (a ++ b) ≡ joined a ++ joined b
joined-append [] b = refl
joined-append (piece ∷ pieces) b = ap (λ l. piece ++ l) (joined-append pieces b) ∙ sym (append_assoc piece (joined pieces) (joined b))

-- pieces before a place, the one there, and those behind it
joined_at : {X : Type 0} (f : X → List ℕ) (xs : List X) (i : ℕ) (d : X) → i < length xs → joined (map f xs) ≡ joined (map f (take i xs)) ++ (f (get_or xs i d) ++ joined (map f (drop (suc i) xs)))
joined_at f xs i d lt =
    ap (λ l. joined (map f l)) (sym (take-append-drop i xs))
    ∙ ap joined (map-append f (take i xs) (drop i xs))
    ∙ joined-append (map f (take i xs)) (map f (drop i xs))
    ∙ ap (λ l. joined (map f (take i xs)) ++ joined (map f l)) (drop-cons xs i d lt)

-- the writing of the piece at a place was broken off
pub writes_cut : {D T X : Type 0} (written : D → Option (List ℕ)) (faults : D → ℕ) (old mid new : D) (f : X → List ℕ) (xs : List X) (i : ℕ) (d : X) (r : Result T Halt) (halt : Halt) → i < length xs → d ≡ get_or xs i d → written mid ≡ appended (written old) (joined (map f (take i xs))) → faults mid ≡ faults old → r ≡ Err halt → Writes written faults mid new r (f d) → Writes {D = D} {T = T} written faults old new (Err halt) (joined (map f xs))
writes_cut {D} {T} written faults old mid new f xs i d r halt lt is told calm e h =
    let w : Writes {D = D} {T = T} written faults mid new (Err halt) (f d) = subst (λ r. Writes {D = D} {T = T} written faults mid new r (f d)) e h in
    let done = joined (map f (take i xs)) in
    let rest = joined (map f (drop (suc i) xs)) in
    let parts : joined (map f xs) ≡ (done ++ f d) ++ rest = joined_at f xs i d lt ∙ ap (λ x. done ++ (f x ++ rest)) (sym is) ∙ sym (append_assoc done (f d) rest) in
    record {
      told = subst (Begins (written old) (written new)) (sym parts) (begins_front (written old) (written new) (done ++ f d) rest (begins_second (written old) (written mid) (written new) done (f d) told w.told));
      later = omega (arith, calm, w.later);
      failed = λ fails. rose_since (faults old) (faults mid) (faults new) (omega (arith, calm)) (w.failed fails);
      calm = calmed halt w.calm;
    }
  where
    calmed : (h : Halt) → IsCalmWrite {T = T} (Err h) (faults mid) (faults new) → IsCalmWrite {T = T} (Err h) (faults old) (faults new)
    calmed NoMem c = c ∙ calm
    calmed SinkFailed c = tt

-- the piece at a place was written
pub wrote_more : {X : Type 0} (old now new : Option (List ℕ)) (f : X → List ℕ) (xs : List X) (i : ℕ) (d : X) → i < length xs → d ≡ get_or xs i d → now ≡ appended old (joined (map f (take i xs))) → new ≡ appended now (f d) → new ≡ appended old (joined (map f (take (i + 1) xs)))
wrote_more old now new f xs i d lt is was grown =
    grown ∙ ap (λ told. appended told (f d)) was ∙ appended-appended old (joined (map f (take i xs))) (f d)
    ∙ ap (appended old) (sym (ap (λ l. joined (map f l)) (take_more xs i d lt) ∙ ap joined (map-append f (take i xs) (get_or xs i d ∷ []))
    ∙ joined-append (map f (take i xs)) (f (get_or xs i d) ∷ []) ∙ ap (λ l. joined (map f (take i xs)) ++ l) (append-nil (f (get_or xs i d)) ∙ ap f (sym is))))
