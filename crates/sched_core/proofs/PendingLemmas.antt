-- The requests that wait, where documents are opened, come further, change and are closed.
use Rattle.std.proofs.Common.{◌≡◌, ℕ, ◌<◌, ◌&&◌, ⊎_elim, Bool, true, false, not, List, [], ◌∷◌, ◌++◌, filter, length, take, drop, suc, get_or-set_same, arith, refl, sym, ap, subst, ◌∙◌}
use Rattle.std.specs.Prelude.{All, Contains}
use Rattle.std.specs.List.{remove, slice_set}
use Rattle.std.proofs.lemmas.List.Elements.{All-filter, filter_passes, All-append, All-take, All-drop, Contains-append_left}
use Rattle.doc_check.specs.Check.{count}
use Rattle.sched_core.specs.declared.waiting.Question.{Question}
use Rattle.sched_core.specs.declared.waiting.Question.TheVariants.{Outline, Goals}
use Rattle.sched_core.specs.declared.waiting.Waiting.{Waiting}
use Rattle.sched_core.specs.Session.{Document, document_in}
use Rattle.sched_core.specs.Waiting.{is_about, is_ready, is_ready_for}
use Rattle.sched_core.specs.Pending.{HasEnough, WaitsFor}
use Rattle.sched_core.proofs.Places.{here_or_beside, contains_set, set_last}

abbrev pub AllWait : List Document → List Waiting → Type 0
AllWait documents waiting = All (WaitsFor documents) waiting

-- two facts of each item
pub each_of_both : {X : Type 0} {P Q R : X → Type 0} (xs : List X) → ((x : X) → P x → Q x → R x) → All P xs → All Q xs → All R xs
each_of_both xs f h k i d within = f _ (h i d within) (k i d within)

pub each_of : {X : Type 0} {P R : X → Type 0} (xs : List X) → ((x : X) → P x → R x) → All P xs → All R xs
each_of xs f h i d within = f _ (h i d within)

not_true : (b : Bool) → not b ≡ true → b ≡ false
not_true true e = sym e
not_true false e = refl

true_is_false : {P : Type 0} (b : Bool) → b ≡ true → b ≡ false → P
true_is_false b yes_it no_it = let clash : true ≡ false = sym yes_it ∙ no_it in cc

second_fails : (a b : Bool) → (a && b) ≡ false → a ≡ true → b ≡ false
second_fails true b e h = e
second_fails false b e h = true_is_false false h refl

-- one of them waits where the list is another
in_list : (old new : List Document) (w : Waiting) (h : WaitsFor old w) → Contains new h.document → WaitsFor new w
in_list old new w h there = record { document = h.document; listed = there; about = h.about; unready = h.unready; enough = h.enough }

-- a document more
pub wait_beside_new : (documents : List Document) (first second : Document) (waiting : List Waiting) → AllWait documents waiting → AllWait (slice_set (documents ++ first ∷ []) (length documents) second) waiting
wait_beside_new documents first second waiting h =
    each_of waiting (λ w p. in_list documents (slice_set (documents ++ first ∷ []) (length documents) second) w p
    (subst (λ ds. Contains ds p.document) (sym (set_last documents first second)) (Contains-append_left documents (second ∷ []) p.document p.listed))) h

-- the document at a place came so far that this one isn't ready
enough_of : (old new : Document) (q : Question) → new.check.text ≡ old.check.text → HasEnough old q → HasEnough new q
enough_of old new Outline same h = h
enough_of old new (Goals at number) same h = omega (arith, h, ap count same)

waits_further : (documents : List Document) (place : ℕ) (new : Document) (w : Waiting) → place < length documents → new.uri ≡ (document_in documents place).uri → new.check.text ≡ (document_in documents place).check.text → WaitsFor documents w → is_ready_for new w ≡ false → WaitsFor (slice_set documents place new) w
waits_further documents place new w within name text h unready =
    ⊎_elim here (λ beside. in_list documents (slice_set documents place new) w h (beside.1 new)) (here_or_beside documents place (document_in [] 0) h.document h.listed) where
      here : h.document ≡ document_in documents place → WaitsFor (slice_set documents place new) w
      here e =
          let about : is_about new.uri w ≡ true = ap (λ uri. is_about uri w) (name ∙ ap (λ (d : Document). d.uri) (sym e)) ∙ h.about in
          record {
            document = new;
            listed = contains_set documents place new within;
            about = about;
            unready = second_fails (is_about new.uri w) (is_ready new w) unready about;
            enough = enough_of h.document new w.question (text ∙ ap (λ (d : Document). d.check.text) (sym e)) h.enough;
          }

-- those that are ready are answered
pub wait_further : (documents : List Document) (place : ℕ) (new : Document) (waiting : List Waiting) → place < length documents → new.uri ≡ (document_in documents place).uri → new.check.text ≡ (document_in documents place).check.text → AllWait documents waiting → AllWait (slice_set documents place new) (filter (λ w. not (is_ready_for new w)) waiting)
wait_further documents place new waiting within name text h =
    each_of_both (filter (λ w. not (is_ready_for new w)) waiting) (λ w p q. waits_further documents place new w within name text p (not_true (is_ready_for new w) q))
    (All-filter (λ w. not (is_ready_for new w)) (WaitsFor documents) waiting h) (filter_passes (λ w. not (is_ready_for new w)) waiting)

-- those about the document at a place are refused
pub record WaitElsewhere (uri : List ℕ) (documents : List Document) (w : Waiting) : Type 0 where
  pub for : WaitsFor documents w
  pub other : is_about uri w ≡ false

pub elsewhere : (uri : List ℕ) (documents : List Document) (waiting : List Waiting) → AllWait documents waiting → All (WaitElsewhere uri documents) (filter (λ w. not (is_about uri w)) waiting)
elsewhere uri documents waiting h =
    each_of_both {R = WaitElsewhere uri documents} (filter (λ w. not (is_about uri w)) waiting) (λ w p q. record { for = p; other = not_true (is_about uri w) q })
    (All-filter (λ w. not (is_about uri w)) (WaitsFor documents) waiting h) (filter_passes (λ w. not (is_about uri w)) waiting)

not_here : (documents : List Document) (place : ℕ) (uri : List ℕ) (w : Waiting) (h : WaitElsewhere uri documents w) → uri ≡ (document_in documents place).uri → h.for.document ≡ document_in documents place → ⊥
not_here documents place uri w h is e =
    true_is_false (is_about uri w) (ap (λ u. is_about u w) (is ∙ ap (λ (d : Document). d.uri) (sym e)) ∙ h.for.about) h.other

-- .. and it is another document then
other_elsewhere : (documents : List Document) (place : ℕ) (new : Document) (uri : List ℕ) (w : Waiting) → uri ≡ (document_in documents place).uri → WaitElsewhere uri documents w → WaitElsewhere uri (slice_set documents place new) w
other_elsewhere documents place new uri w is h =
    ⊎_elim (λ e. absurd (not_here documents place uri w h is e))
    (λ beside. record { for = in_list documents (slice_set documents place new) w h.for (beside.1 new); other = h.other })
    (here_or_beside documents place (document_in [] 0) h.for.document h.for.listed)

pub wait_beside_other : (documents : List Document) (place : ℕ) (first second : Document) (waiting : List Waiting) → place < length documents → first.uri ≡ (document_in documents place).uri → AllWait documents waiting → AllWait (slice_set (slice_set documents place first) place second) (filter (λ w. not (is_about (document_in documents place).uri w)) waiting)
wait_beside_other documents place first second waiting within name h =
    let uri : List ℕ = (document_in documents place).uri in
    let there : document_in (slice_set documents place first) place ≡ first = get_or-set_same documents place first (document_in [] 0) within in
    each_of (filter (λ w. not (is_about uri w)) waiting)
    (λ w p. (other_elsewhere (slice_set documents place first) place second uri w (sym (ap (λ (d : Document). d.uri) there ∙ name)) (other_elsewhere documents place first uri w refl p)).for)
    (elsewhere uri documents waiting h)

-- .. or it is closed
pub wait_beside_closed : (documents : List Document) (place : ℕ) (waiting : List Waiting) → AllWait documents waiting → AllWait (remove documents place) (filter (λ w. not (is_about (document_in documents place).uri w)) waiting)
wait_beside_closed documents place waiting h =
    let uri : List ℕ = (document_in documents place).uri in
    each_of (filter (λ w. not (is_about uri w)) waiting)
    (λ w p. ⊎_elim (λ e. absurd (not_here documents place uri w p refl e)) (λ beside. in_list documents (remove documents place) w p.for beside.0) (here_or_beside documents place (document_in [] 0) p.for.document p.for.listed))
    (elsewhere uri documents waiting h)

-- one of them is taken away
pub wait_without : (documents : List Document) (waiting : List Waiting) (place : ℕ) → AllWait documents waiting → AllWait documents (remove waiting place)
wait_without documents waiting place h =
    All-append (WaitsFor documents) (take place waiting) (drop (suc place) waiting) (All-take (WaitsFor documents) place waiting h) (All-drop (WaitsFor documents) (suc place) waiting h)
