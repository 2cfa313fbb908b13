-- Loops against the definitions of what they build, an item at a time.
use Rattle.std.proofs.Common.{◌≡◌, ℕ, zero, suc, ◌+◌, ◌-◌, ◌<◌, ◌≤◌, List, [], ◌∷◌, ◌++◌, length, take, drop, slice_get, get_or, Option, Some, None, Ok, Err, refl, sym, ◌∙◌, ap, subst, append_assoc, add-one, drop-cons, arith}
use Rattle.std.specs.Ordering.{nat_cmp}
use Rattle.std.specs.Cmp.Lexicographic.{slice_cmp}
use Rattle.std.proofs.lemmas.Option.{slice_get_within, get_or_from_slice_get}
use Rattle.std.proofs.lemmas.List.{length-drop}
use Rattle.base_core.specs.declared.refusals.Stop.{Stop}
use Rattle.base_core.specs.declared.refusals.Stop.TheVariants.{Refused, Out, NoMem}
use Rattle.base_core.specs.Answers.{Gives}
use Rattle.shared_map.specs.Entries.{PutsOnly}
use Rattle.core_term.specs.Tree.{Tree, App}
use Rattle.cic_rules.specs.declared.context.Hyp.{Hyp}
use Rattle.cic_rules.specs.Steps.{Step, Refuses, TooLarge, step_then, answer_of}
use Rattle.elaborator.specs.declared.binders.Binding.{Binding}
use Rattle.elaborator.specs.Parts.{sized, times, bind, closed}
use Rattle.elaborator.specs.Arrangement.{with_picked, picked}
use Rattle.elaborator.specs.Index.{IsIndex}
use Rattle.elaborator.proofs.IndexLaws.{index_more}

-- the items from one of them on
pub front : {A : Type 0} (xs : List A) (i : ℕ) (x : A) → slice_get xs i ≡ Some x → drop i xs ≡ x ∷ drop (i + 1) xs
front xs i x h =
    drop-cons xs i x (slice_get_within xs i x h) ∙ ap (λ y. y ∷ drop (suc i) xs) (get_or_from_slice_get xs i x x h)
    ∙ ap (λ k. x ∷ drop k xs) (sym (add-one i))

pub at_index : {A : Type 0} (xs : List A) (i : ℕ) (x : A) → i < length xs → x ≡ get_or xs i x → drop i xs ≡ x ∷ drop (i + 1) xs
at_index xs i x lt is = drop-cons xs i x lt ∙ ap (λ y. y ∷ drop (suc i) xs) (sym is) ∙ ap (λ n. x ∷ drop n xs) (sym (add-one i))

none_left : {A : Type 0} (xs : List A) (i : ℕ) → slice_get xs i ≡ None → drop i xs ≡ []
none_left [] zero e = refl
none_left [] (suc i) e = refl
none_left (x ∷ xs) zero e = absurd (cc)
none_left (x ∷ xs) (suc i) e = none_left xs i e

take_none : {A : Type 0} (k : ℕ) (xs : List A) → xs ≡ [] → take k xs ≡ []
take_none zero [] e = refl
take_none (suc k) [] e = refl
take_none k (x ∷ xs) e = absurd (cc)

pub step_is : {A : Type 0} (step : Step A) (x : A) → Ok x ≡ answer_of step → step ≡ Ok x
step_is (Ok y) x e = sym (cc)
step_is (Err halt) x e = absurd (cc)

-- a step that stops, and what would follow
pub stops_then : {A B : Type 0} (step : Step A) (g : A → Step B) (stop : Stop) → Gives (Err stop) (answer_of step) → Gives (Err stop) (answer_of (step_then step g))
stops_then (Ok x) g (Refused r) e = absurd (cc)
stops_then (Ok x) g (Out l) e = absurd (cc)
stops_then (Ok x) g NoMem e = tt
stops_then (Err (Refuses code place)) g (Refused r) e = cc
stops_then (Err TooLarge) g (Refused r) e = absurd (cc)
stops_then (Err (Refuses code place)) g (Out l) e = absurd (cc)
stops_then (Err TooLarge) g (Out l) e = cc
stops_then (Err halt) g NoMem e = tt

-- a term closed over one hypothesis more
close_front : (kind : Binding) (count i : ℕ) (inner : List Hyp) (h : Hyp) (body : Tree) → Some h ≡ slice_get inner i → i < count →
    closed kind (take (count - i) (drop i inner)) body ≡ step_then (sized (bind kind h body)) (λ u. closed kind (take (count - (i + 1)) (drop (i + 1) inner)) u)
close_front kind count i inner h body found lt =
    let more : count - i ≡ suc (count - (i + 1)) = omega (arith, lt) in
    ap (λ hs. closed kind (take (count - i) hs) body) (front inner i h (sym found))
    ∙ ap (λ n. closed kind (take n (h ∷ drop (i + 1) inner)) body) more

pub close_next : (kind : Binding) (count i : ℕ) (inner : List Hyp) (h : Hyp) (body next : Tree) (whole : Step Tree) → Some h ≡ slice_get inner i → i < count →
    closed kind (take (count - i) (drop i inner)) body ≡ whole → Ok next ≡ answer_of (sized (bind kind h body)) →
    closed kind (take (count - (i + 1)) (drop (i + 1) inner)) next ≡ whole
close_next kind count i inner h body next whole found lt before e =
    sym (ap (λ s. step_then s (λ u. closed kind (take (count - (i + 1)) (drop (i + 1) inner)) u)) (step_is (sized (bind kind h body)) next e))
    ∙ sym (close_front kind count i inner h body found lt) ∙ before

pub close_stop : (kind : Binding) (count i : ℕ) (inner : List Hyp) (h : Hyp) (body : Tree) (stop : Stop) (whole : Step Tree) → Some h ≡ slice_get inner i → i < count →
    closed kind (take (count - i) (drop i inner)) body ≡ whole → Gives (Err stop) (answer_of (sized (bind kind h body))) → Gives {A = Tree} (Err stop) (answer_of whole)
close_stop kind count i inner h body stop whole found lt before e =
    subst (λ s. Gives {A = Tree} (Err stop) (answer_of s)) (sym (close_front kind count i inner h body found lt) ∙ before)
    (stops_then (sized (bind kind h body)) (λ u. closed kind (take (count - (i + 1)) (drop (i + 1) inner)) u) stop e)

pub close_none : (kind : Binding) (k i : ℕ) (inner : List Hyp) (body : Tree) (whole : Step Tree) → None ≡ slice_get inner i →
    closed kind (take k (drop i inner)) body ≡ whole → Ok body ≡ answer_of whole
close_none kind k i inner body whole none before =
    ap answer_of (sym (ap (λ hs. closed kind hs body) (take_none k (drop i inner) (none_left inner i (sym none)))) ∙ before)

-- a function once more on a term
pub times_more : (n : ℕ) (f t : Tree) → 1 ≤ n → times n f t ≡ step_then (sized (App f t)) (λ u. times (n - 1) f u)
times_more n f t some =
    let more : n ≡ suc (n - 1) = omega (arith, some) in
    ap (λ m. times m f t) more

nothing_behind : (xs : List Tree) → xs ++ [] ≡ xs
nothing_behind [] = refl
nothing_behind (x ∷ xs) = ap (λ ys. x ∷ ys) (nothing_behind xs)

-- the terms of one number more
with_append : (found : Option Tree) (ts us : List Tree) → (ts ++ with_picked found []) ++ us ≡ ts ++ with_picked found us
with_append None ts us = ap (λ all. all ++ us) (nothing_behind ts)
with_append (Some t) ts us = append_assoc ts (t ∷ []) us

pub picked_next : (values : List Tree) (order : List ℕ) (i : ℕ) (terms next all : List Tree) → i < length order →
    terms ++ picked values (drop i order) ≡ all → next ≡ terms ++ picked values (get_or order i 0 ∷ []) → next ++ picked values (drop (i + 1) order) ≡ all
picked_next values order i terms next all lt before e =
    let here : drop i order ≡ get_or order i 0 ∷ drop (i + 1) order =
    drop-cons order i 0 lt ∙ ap (λ n. get_or order i 0 ∷ drop n order) (sym (add-one i)) in
    ap (λ ts. ts ++ picked values (drop (i + 1) order)) e ∙ with_append (slice_get values (get_or order i 0)) terms (picked values (drop (i + 1) order))
    ∙ sym (ap (λ ks. terms ++ picked values ks) here) ∙ before

pub picked_none : (values terms : List Tree) (k : ℕ) → None ≡ slice_get values k → terms ≡ terms ++ picked values (k ∷ [])
picked_none values terms k e = sym (ap (λ found. terms ++ with_picked found []) (sym e) ∙ nothing_behind terms)

-- an index of one hypothesis more, from the oldest on
pub index_next : (old new : List (List ℕ × ℕ)) (ctx : List Hyp) (count before : ℕ) (h : Hyp) (key : List ℕ) → count ≡ length ctx → before < count →
    IsIndex old (drop (count - before) ctx) → Some h ≡ slice_get ctx (count - 1 - before) → key ≡ h.name → PutsOnly (slice_cmp nat_cmp) old new key before →
    IsIndex new (drop (count - (before + 1)) ctx)
index_next old new ctx count before h key counted lt is found same only =
    let here : count - (before + 1) ≡ count - 1 - before = omega (arith, lt) in
    let rest : count - 1 - before + 1 ≡ count - before = omega (arith, lt) in
    let long : before ≡ length (drop (count - before) ctx) = omega (arith, counted, lt, length-drop (count - before) ctx) in
    index_more old new (drop (count - before) ctx) (drop (count - (before + 1)) ctx) h key before is only same long
    (ap (λ n. drop n ctx) here ∙ front ctx (count - 1 - before) h (sym found) ∙ ap (λ n. h ∷ drop n ctx) rest)
