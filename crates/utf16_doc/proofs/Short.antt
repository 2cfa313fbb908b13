-- Edits lead to texts within the limit.
use Rattle.std.proofs.Common.{◌≡◌, ℕ, ◌≤◌, min, Bool, cond, true, false, ltb, leb, leb-true, Option, None, Some, Result, Ok, Err, List, [], ◌∷◌, length, refl, subst}
use Rattle.base_core.specs.declared.limits.TheConstants.{TEXT_LIMIT}
use Rattle.base_core.specs.declared.places.Range.{Range}
use Rattle.base_core.specs.declared.places.Change.{Change}
use Rattle.utf16_doc.specs.declared.encoding.Encoding.{Encoding}
use Rattle.utf16_doc.specs.declared.stops.DocStop.{DocStop}
use Rattle.utf16_doc.specs.declared.stops.DocStop.TheVariants.{RangeReversed, TooLong}
use Rattle.utf16_doc.specs.Positions.{offset_at}
use Rattle.utf16_doc.specs.Edits.{Edited, replaced, limited, edit, edit_range, change_in, ◌>>=◌, changes_from, changes_in}

short_same : (a b : Edited) → ◌≡◌ {A = Result Edited DocStop} (Ok a) (Ok b) → length a.text ≤ TEXT_LIMIT → length b.text ≤ TEXT_LIMIT
short_same a b e h = let same : a ≡ b = cc in subst (λ x. length x.text ≤ TEXT_LIMIT) same h

limited_short : (t : Bool) (text : List ℕ) (from : ℕ) (one : Edited) → leb (length text) TEXT_LIMIT ≡ t → ◌≡◌ {A = Result Edited DocStop} (cond t (Ok (record { text = text; first = from })) (Err TooLong)) (Ok one) → length one.text ≤ TEXT_LIMIT
limited_short true text from one test e = short_same _ one e (leb-true (length text) TEXT_LIMIT test)
limited_short false text from one test e = absurd cc

edit_short : (t : Bool) (text new : List ℕ) (from to : ℕ) (one : Edited) → ◌≡◌ {A = Result Edited DocStop} (cond t (Err RangeReversed) (limited (replaced text from to new) from)) (Ok one) → length one.text ≤ TEXT_LIMIT
edit_short true text new from to one e = absurd cc
edit_short false text new from to one e = limited_short (leb (length (replaced text from to new)) TEXT_LIMIT) (replaced text from to new) from one refl e

change_short : (encoding : Encoding) (text : List ℕ) (range : Option Range) (new : List ℕ) (one : Edited) → edit_range encoding text range new ≡ Ok one → length one.text ≤ TEXT_LIMIT
change_short encoding text None new one e = edit_short (ltb (length text) 0) text new 0 (length text) one e
change_short encoding text (Some range) new one e =
    let from = offset_at encoding text range.from_pos in
    let to = offset_at encoding text range.to_pos in
    edit_short (ltb to from) text new from to one e

module _ (encoding : Encoding) (r : Edited) where
  behind : (done : Edited) (others : List Change) (outcome : Result Edited DocStop)
      → ((one : Edited) → outcome ≡ Ok one → length one.text ≤ TEXT_LIMIT)
      → ((d : Edited) → length d.text ≤ TEXT_LIMIT → changes_from encoding d others ≡ Ok r → length r.text ≤ TEXT_LIMIT)
      → outcome >>= (λ one. changes_from encoding (record { text = one.text; first = min done.first one.first }) others) ≡ Ok r → length r.text ≤ TEXT_LIMIT
  behind done others (Ok one) here ih e = ih _ (here one refl) e
  behind done others (Err stop) here ih e = absurd cc

  short_from : (done : Edited) (changes : List Change) → length done.text ≤ TEXT_LIMIT → changes_from encoding done changes ≡ Ok r → length r.text ≤ TEXT_LIMIT
  unfolding changes_from
  short_from done [] before e = short_same done r e before
  short_from done (change ∷ others) before e =
      behind done others (change_in encoding done.text change) (λ one is. change_short encoding done.text change.range change.text one is) (λ d h is. short_from d others h is) e

-- the text of changes is within the limit where the old one is
pub changes_short : (encoding : Encoding) (text : List ℕ) (changes : List Change) (r : Edited) → length text ≤ TEXT_LIMIT → changes_in encoding text changes ≡ Ok r → length r.text ≤ TEXT_LIMIT
changes_short encoding text changes r short e = short_from encoding r (record { text = text; first = length text }) changes short e
