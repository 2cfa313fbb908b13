-- Before the first edit old and new text are the same.
use Rattle.std.proofs.Common.{◌≡◌, ℕ, ◌≤◌, min, Bool, cond, true, false, ltb, leb, Option, None, Some, Result, Ok, Err, List, [], ◌∷◌, ◌++◌, length, take, drop, length-take, refl, sym, ◌∙◌, ap, subst, arith}
use Rattle.std.specs.Result.{IfOk}
use Rattle.std.proofs.lemmas.List.{take-append-le, take-take, length-take-le, length-append}
use Rattle.base_core.specs.declared.limits.TheConstants.{TEXT_LIMIT}
use Rattle.base_core.specs.declared.places.Range.{Range}
use Rattle.base_core.specs.declared.places.Change.{Change}
use Rattle.utf16_doc.specs.declared.encoding.Encoding.{Encoding}
use Rattle.utf16_doc.specs.declared.stops.DocStop.{DocStop}
use Rattle.utf16_doc.specs.declared.stops.DocStop.TheVariants.{RangeReversed, TooLong}
use Rattle.utf16_doc.specs.Positions.{offset_at}
use Rattle.utf16_doc.specs.Edits.{Edited, replaced, limited, edit, edit_range, change_in, ◌>>=◌, changes_from, changes_in, GivesEdit}
use Rattle.utf16_doc.proofs.Offsets.{offset_within}

-- an edit of a text starts within it, and leaves what stands before
pub record Leads (text : List ℕ) (one : Edited) : Type 0 where
  pub starts : one.first ≤ length text
  pub alike : take one.first one.text ≡ take one.first text

leads_same : (text : List ℕ) (a b : Edited) → ◌≡◌ {A = Result Edited DocStop} (Ok a) (Ok b) → Leads text a → Leads text b
leads_same text a b e h = let same : a ≡ b = cc in subst (Leads text) same h

limited_leads : (t : Bool) (text new : List ℕ) (from : ℕ) (one : Edited) → from ≤ length text → take from new ≡ take from text → ◌≡◌ {A = Result Edited DocStop} (cond t (Ok (record { text = new; first = from })) (Err TooLong)) (Ok one) → Leads text one
limited_leads true text new from one h alike e = leads_same text _ one e (record { starts = h; alike = alike })
limited_leads false text new from one h alike e = absurd cc

replaced_alike : (text new : List ℕ) (from to : ℕ) → from ≤ length text → take from (replaced text from to new) ≡ take from text
replaced_alike text new from to h =
    let few : length (take from text) ≡ from = length-take-le from text h in
    take-append-le from (take from text ++ new) (drop to text) (omega (arith, few, length_front (take from text) new))
    ∙ take-append-le from (take from text) new (omega (arith, few))
    ∙ take-take from from text (omega arith) where
      length_front : (xs ys : List ℕ) → length xs ≤ length (xs ++ ys)
      length_front xs ys = omega (arith, length-append xs ys)

edit_leads : (t : Bool) (text new : List ℕ) (from to : ℕ) (one : Edited) → from ≤ length text → ◌≡◌ {A = Result Edited DocStop} (cond t (Err RangeReversed) (limited (replaced text from to new) from)) (Ok one) → Leads text one
edit_leads true text new from to one h e = absurd cc
edit_leads false text new from to one h e = limited_leads (leb (length (replaced text from to new)) TEXT_LIMIT) text (replaced text from to new) from one h (replaced_alike text new from to h) e

change_leads : (encoding : Encoding) (text : List ℕ) (range : Option Range) (new : List ℕ) (one : Edited) → edit_range encoding text range new ≡ Ok one → Leads text one
change_leads encoding text None new one e = edit_leads (ltb (length text) 0) text new 0 (length text) one (omega arith) e
change_leads encoding text (Some range) new one e =
    let from = offset_at encoding text range.from_pos in
    let to = offset_at encoding text range.to_pos in
    edit_leads (ltb to from) text new from to one (offset_within encoding text range.from_pos) e

-- an edit of what an edit led to
then_leads : (old : List ℕ) (done one : Edited) → Leads old done → Leads done.text one → Leads old (record { text = one.text; first = min done.first one.first })
then_leads old done one before here =
    let m : ℕ = min done.first one.first in
    record {
      starts = omega (arith, before.starts);
      alike =
          sym (take-take m one.first one.text (omega arith)) ∙ ap (take m) here.alike ∙ take-take m one.first done.text (omega arith)
          ∙ sym (take-take m done.first done.text (omega arith)) ∙ ap (take m) before.alike ∙ take-take m done.first old (omega arith);
    }

module _ (encoding : Encoding) (old : List ℕ) (r : Edited) where
  behind : (done : Edited) (others : List Change) (outcome : Result Edited DocStop)
      → ((one : Edited) → outcome ≡ Ok one → Leads done.text one) → Leads old done
      → ((d : Edited) → Leads old d → changes_from encoding d others ≡ Ok r → Leads old r)
      → outcome >>= (λ one. changes_from encoding (record { text = one.text; first = min done.first one.first }) others) ≡ Ok r → Leads old r
  behind done others (Ok one) here before ih e = ih _ (then_leads old done one before (here one refl)) e
  behind done others (Err stop) here before ih e = absurd cc

  changes_lead : (done : Edited) (changes : List Change) → Leads old done → changes_from encoding done changes ≡ Ok r → Leads old r
  unfolding changes_from
  changes_lead done [] before e = leads_same old done r e before
  changes_lead done (change ∷ others) before e =
      behind done others (change_in encoding done.text change) (λ one is. change_leads encoding done.text change.range change.text one is) before (λ d h is. changes_lead d others h is) e

pub changes_alike : (encoding : Encoding) (text : List ℕ) (changes : List Change) (r : Edited) → changes_in encoding text changes ≡ Ok r → Leads text r
changes_alike encoding text changes r e = changes_lead encoding text r (record { text = text; first = length text }) changes (record { starts = omega arith; alike = refl }) e

-- what is given for changes
pub given_alike : (encoding : Encoding) (text : List ℕ) (changes : List Change) (r : Result (List ℕ × ℕ) DocStop) → GivesEdit (changes_in encoding text changes) r → IfOk r (λ p. take p.1 p.0 ≡ take p.1 text)
given_alike encoding text changes (Ok p) g = (changes_alike encoding text changes (record { text = p.0; first = p.1 }) g).alike
given_alike encoding text changes (Err stop) g = tt

pub given_within : (encoding : Encoding) (text : List ℕ) (changes : List Change) (r : Result (List ℕ × ℕ) DocStop) → GivesEdit (changes_in encoding text changes) r → IfOk r (λ p. p.1 ≤ length text)
given_within encoding text changes (Ok p) g = (changes_alike encoding text changes (record { text = p.0; first = p.1 }) g).starts
given_within encoding text changes (Err stop) g = tt
