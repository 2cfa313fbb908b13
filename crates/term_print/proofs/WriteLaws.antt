-- Where a term stands in parentheses, told by its head and its arguments.
use Rattle.std.proofs.Common.{◌≡◌, ◌≤◌, ◌<◌, ℕ, nat_lt, List, [], ◌++◌, codes, Bool, true, false, Option, Result, Ok, Err, OnOk, if◌then◌else◌, sym, ◌∙◌, ap}
use Rattle.std.proofs.lemmas.Bool.{lt-ltb, le-ltb}
use Rattle.core_term.specs.Tree.{Tree}
use Rattle.cic_rules.specs.declared.env.Slot.{Slot}
use Rattle.term_spine.specs.declared.spines.Spine.{Spine}
use Rattle.term_spine.specs.Spines.{IsSpineOf}
use Rattle.term_print.specs.Named.{show, show_all}
use Rattle.term_print.specs.Pieces.{at_most}
use Rattle.term_print.specs.Operations.{spine_level}
use Rattle.term_print.specs.Pages.{added}
use Rattle.term_print.proofs.PageLaws.{added_append}
use Rattle.term_print.proofs.SpineLaws.{shown_spine}
use Rattle.term_print.proofs.OperationLaws.{level_shown}

at_spine : (env : List Slot) (s : Spine) (t : Tree) (most : ℕ) (names : List (List ℕ)) → IsSpineOf s t → (b : Bool) → nat_lt most (spine_level env s.head s.args) ≡ b →
    at_most most (show env t [] names)
    ≡ (if b then codes "(" ++ ((show env s.head (show_all env s.args names) names).text ++ codes ")") else (show env s.head (show_all env s.args names) names).text)
at_spine env s t most names is b h =
    ap (at_most most) (shown_spine env t s.head s.args names is.whole)
    ∙ ap (λ c. if c then codes "(" ++ ((show env s.head (show_all env s.args names) names).text ++ codes ")") else (show env s.head (show_all env s.args names) names).text)
    (ap (nat_lt most) (level_shown env s.head s.args names is.head) ∙ h)

pub in_parentheses : (env : List Slot) (s : Spine) (t : Tree) (most level : ℕ) (names : List (List ℕ)) → IsSpineOf s t → level ≡ spine_level env s.head s.args → most < level →
    at_most most (show env t [] names) ≡ codes "(" ++ ((show env s.head (show_all env s.args names) names).text ++ codes ")")
in_parentheses env s t most level names is e h =
    at_spine env s t most names is true (ap (nat_lt most) (sym e) ∙ lt-ltb most level h)

pub without_parentheses : (env : List Slot) (s : Spine) (t : Tree) (most level : ℕ) (names : List (List ℕ)) → IsSpineOf s t → level ≡ spine_level env s.head s.args → level ≤ most →
    at_most most (show env t [] names) ≡ (show env s.head (show_all env s.args names) names).text
without_parentheses env s t most level names is e h =
    at_spine env s t most names is false (ap (nat_lt most) (sym e) ∙ le-ltb most level h)

-- the page after a term that stands in parentheses
pub written_in_parentheses : (env : List Slot) (s : Spine) (t : Tree) (most level : ℕ) (names : List (List ℕ)) (old p1 p2 p3 : Option (List ℕ)) →
    IsSpineOf s t → level ≡ spine_level env s.head s.args → most < level →
    p1 ≡ added old (codes "(") → p2 ≡ added p1 (show env s.head (show_all env s.args names) names).text → p3 ≡ added p2 (codes ")") →
    p3 ≡ added old (at_most most (show env t [] names))
written_in_parentheses env s t most level names old p1 p2 p3 is e h a b c =
    let text : List ℕ = (show env s.head (show_all env s.args names) names).text in
    c ∙ ap (λ p. added p (codes ")")) b ∙ added_append p1 text (codes ")") ∙ ap (λ p. added p (text ++ codes ")")) a
    ∙ added_append old (codes "(") (text ++ codes ")") ∙ ap (added old) (sym (in_parentheses env s t most level names is e h))

-- the page after one that stands in none
pub written_without : (env : List Slot) (s : Spine) (t : Tree) (most level : ℕ) (names : List (List ℕ)) (old p1 : Option (List ℕ)) →
    IsSpineOf s t → level ≡ spine_level env s.head s.args → level ≤ most →
    p1 ≡ added old (show env s.head (show_all env s.args names) names).text →
    p1 ≡ added old (at_most most (show env t [] names))
written_without env s t most level names old p1 is e h a = a ∙ ap (added old) (sym (without_parentheses env s t most level names is e h))

-- what follows from a fact that holds where a call succeeds
pub on_ok : {A E P Q : Type 0} (r : Result A E) → (P → Q) → OnOk r P → OnOk r Q
on_ok (Ok x) f p = f p
on_ok (Err e) f p = tt
