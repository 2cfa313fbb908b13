-- A term that was read to its end has no fault in what was read in any longer term either.
use Rattle.std.proofs.Common.{◌≡◌, ◌<◌, ◌≤◌, inl, inr, Option, None, Some, Ok, Err, List, ◌∷◌, ◌++◌, [], length, refl, sym, ◌∙◌, ap, subst, arith, append_assoc}
use Rattle.coq_syntax.specs.declared.token.Token.{Token}
use Rattle.coq_syntax.specs.Trees.{Term}
use Rattle.coq_syntax.specs.Grammar.{IsTermOf}
use Rattle.coq_syntax.specs.Limits.{most_nested}
use Rattle.coq_syntax.specs.Faults.{Fault, term_fault}
use Rattle.vernac_parser.specs.Parse.{standard, whole_term}
use Rattle.vernac_parser.specs.declared.rule.Rule.TheVariants.{Whole}
use Rattle.coq_syntax.specs.Refusals.{IsBehind, IsAssigned}
use Rattle.vernac_parser.proofs.Answered.{answered}
use Rattle.vernac_parser.proofs.Unique.{complete_term}
use Rattle.vernac_parser.proofs.Local.{stop, moved, Same, Allowed, Longer, longer, assigned_behind, either}
use Rattle.vernac_parser.proofs.LocalRules.{local_nested}

pub faults_farther : (i used rest : List Token) (x : Term) → i ≡ used ++ rest → whole_term i ≡ Ok (x, rest) → (others : List Token) (t : Term) → IsTermOf (used ++ others) t → (IsAssigned rest → IsAssigned others) → IsBehind (length others) (term_fault t [])
faults_farther i used rest x split answer others t tree assigned = by (term_fault t []) refl
  where
    there : whole_term (used ++ others) ≡ answered (term_fault t []) t []
    there = ap whole_term (sym tree.1) ∙ complete_term t [] tree.0 (omega arith)

    inside : (g : Fault) → whole_term (used ++ others) ≡ Err g → length others < length g.rest → ⊥
    inside g e l =
        let cut : (v : List Token) × (used ++ others ≡ v ++ stop (whole_term (used ++ others))) = (local_nested standard most_nested Whole).cut (used ++ others) in
        let parts : Longer used others cut.0 g.rest = longer used others cut.0 g.rest (cut.1 ∙ ap (λ o. cut.0 ++ stop o) e) l in
        let moved_there : whole_term i ≡ moved (parts.first ∷ (parts.back ++ rest)) (whole_term (used ++ others)) =
        (local_nested standard most_nested Whole).same Same (used ++ others) i cut.0 (parts.first ∷ (parts.back ++ others)) (parts.first ∷ (parts.back ++ rest)) (cut.1 ∙ ap (λ o. cut.0 ++ stop o) e ∙ ap (λ w. cut.0 ++ w) parts.last)
        (split ∙ ap (λ w. w ++ rest) parts.whole ∙ append_assoc cut.0 (parts.first ∷ parts.back) rest) (ap stop e ∙ parts.last) (subst (Allowed Same) (sym e) tt) (refl, assigned_behind parts.back rest others assigned) in
        let bad : Ok (x, rest) ≡ moved (parts.first ∷ (parts.back ++ rest)) (Err g) = sym answer ∙ moved_there ∙ ap (moved (parts.first ∷ (parts.back ++ rest))) e in
        absurd (cc)

    by : (k : Option Fault) → term_fault t [] ≡ k → IsBehind (length others) k
    by None e = tt
    by (Some g) e = elim (either (length g.rest) (length others)) as (λ _. length g.rest ≤ length others) [ inl l ↦ l | inr l ↦ absurd (inside g (there ∙ ap (λ k. answered k t []) e) l) ]
