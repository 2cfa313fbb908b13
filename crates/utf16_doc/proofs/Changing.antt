-- One change of a list, and then the others.
use Rattle.std.proofs.Common.{◌≡◌, ℕ, ◌+◌, ◌<◌, ◌≤◌, suc, add-one, min, Result, Ok, Err, List, [], ◌∷◌, length, get_or, drop, refl, sym, ◌∙◌, ap, subst, arith}
use Rattle.std.proofs.Math.Seq.{drop-cons}
use Rattle.std.proofs.lemmas.List.{drop_all}
use Rattle.base_core.specs.declared.places.Change.{Change}
use Rattle.utf16_doc.specs.declared.encoding.Encoding.{Encoding}
use Rattle.utf16_doc.specs.declared.stops.DocStop.{DocStop}
use Rattle.utf16_doc.specs.declared.stops.DocStop.TheVariants.{RangeReversed, TooLong, NoMem}
use Rattle.utf16_doc.specs.Edits.{Edited, change_in, ◌>>=◌, changes_from, changes_in, GivesEdit}

module _ (encoding : Encoding) (done : Edited) where
  first_made : (change : Change) (others : List Change) (one : Edited) → change_in encoding done.text change ≡ Ok one
      → changes_from encoding done (change ∷ others) ≡ changes_from encoding (record { text = one.text; first = min done.first one.first }) others
  unfolding changes_from
  first_made change others one e = ap (λ outcome. outcome >>= (λ x. changes_from encoding (record { text = x.text; first = min done.first x.first }) others)) e

  first_refused : (change : Change) (others : List Change) (stop : DocStop) → change_in encoding done.text change ≡ Err stop → changes_from encoding done (change ∷ others) ≡ Err stop
  unfolding changes_from
  first_refused change others stop e = ap (λ outcome. outcome >>= (λ x. changes_from encoding (record { text = x.text; first = min done.first x.first }) others)) e

  at_index : (changes : List Change) (i : ℕ) (change : Change) → i < length changes → change ≡ get_or changes i change → drop i changes ≡ change ∷ drop (i + 1) changes
  at_index changes i change lt is = drop-cons changes i change lt ∙ ap (λ x. x ∷ drop (suc i) changes) (sym is) ∙ ap (λ n. change ∷ drop n changes) (sym (add-one i))

  pub next_made : (changes : List Change) (i : ℕ) (change : Change) (one : Edited) → i < length changes → change ≡ get_or changes i change → change_in encoding done.text change ≡ Ok one
      → changes_from encoding done (drop i changes) ≡ changes_from encoding (record { text = one.text; first = min done.first one.first }) (drop (i + 1) changes)
  next_made changes i change one lt is e = ap (changes_from encoding done) (at_index changes i change lt is) ∙ first_made change (drop (i + 1) changes) one e

  -- a refusal of the first is that of all
  pub first_stops : (change : Change) (others : List Change) (stop : DocStop) → GivesEdit (change_in encoding done.text change) (Err stop) → GivesEdit (changes_from encoding done (change ∷ others)) (Err stop)
  first_stops change others RangeReversed g = first_refused change others RangeReversed g
  first_stops change others TooLong g = first_refused change others TooLong g
  first_stops change others NoMem g = tt

  pub next_stops : (changes : List Change) (i : ℕ) (change : Change) (stop : DocStop) → i < length changes → change ≡ get_or changes i change → GivesEdit (change_in encoding done.text change) (Err stop)
      → GivesEdit (changes_from encoding done (drop i changes)) (Err stop)
  next_stops changes i change stop lt is g =
      subst (λ cs. GivesEdit (changes_from encoding done cs) (Err stop)) (sym (at_index changes i change lt is)) (first_stops change (drop (i + 1) changes) stop g)

  -- the same where `?` passes a refusal on
  pub first_halts : (change : Change) (others : List Change) (y stop : DocStop) (r : Result (List ℕ × ℕ) DocStop) → r ≡ Err y → y ≡ stop → GivesEdit (change_in encoding done.text change) (Err stop)
      → GivesEdit (changes_from encoding done (change ∷ others)) r
  first_halts change others y stop r is same g = rw (is, same) (first_stops change others stop g)

  pub next_halts : (changes : List Change) (i : ℕ) (change : Change) (y stop : DocStop) (r : Result (List ℕ × ℕ) DocStop) → r ≡ Err y → y ≡ stop → i < length changes → change ≡ get_or changes i change
      → GivesEdit (change_in encoding done.text change) (Err stop) → GivesEdit (changes_from encoding done (drop i changes)) r
  next_halts changes i change y stop r is same lt item g = rw (is, same) (next_stops changes i change stop lt item g)

  pub first_taken : (change : Change) (others : List Change) (one : Edited) (least : ℕ) (r : Result (List ℕ × ℕ) DocStop) → change_in encoding done.text change ≡ Ok one → least ≡ min done.first one.first
      → GivesEdit (changes_from encoding (record { text = one.text; first = least }) others) r → GivesEdit (changes_from encoding done (change ∷ others)) r
  first_taken change others one least r made is g =
      subst (λ o. GivesEdit o r) (ap (λ n. changes_from encoding (record { text = one.text; first = n }) others) is ∙ sym (first_made change others one made)) g

  pub none_left : (changes : List Change) (i : ℕ) → length changes ≤ i → changes_from encoding done (drop i changes) ≡ Ok done
  unfolding changes_from
  none_left changes i h = ap (changes_from encoding done) (drop_all i changes h)

nothing : (changes : List Change) → length changes < 1 → [] ≡ changes
nothing [] h = refl
nothing (change ∷ others) h = absurd (omega arith)

pub unchanged : (encoding : Encoding) (text : List ℕ) (changes shown : List Change) (n : ℕ) → shown ≡ changes → length shown < 1 → n ≡ length text → changes_in encoding text changes ≡ Ok (record { text = text; first = n })
unfolding changes_from
unchanged encoding text changes shown n is none size = ap (changes_in encoding text) (sym (nothing shown none ∙ is)) ∙ ap (λ k. Ok (record { text = text; first = k })) (sym size)
