-- A term that one level of the rules reads is read by the levels above it.
use Rattle.std.proofs.Common.{◌≡◌, ℕ, zero, suc, ◌==◌, ◌<◌, ◌≤◌, ◌⊎◌, inl, inr, false, cond, Option, List, length, sym, ◌∙◌, ap, arith}
use Rattle.coq_syntax.specs.declared.token.Token.{Token}
use Rattle.coq_syntax.specs.Trees.{Term, NoArgument}
use Rattle.coq_syntax.specs.Spelled.{spells}
use Rattle.coq_syntax.specs.Limits.{open_level}
use Rattle.coq_syntax.specs.Grammar.{level, IsTerm, IsClosed}
use Rattle.coq_syntax.specs.Faults.{Fault}
use Rattle.coq_syntax.specs.Faults as faults
use Rattle.vernac_parser.specs.declared.sign.Sign.TheVariants as sign
use Rattle.vernac_parser.specs.Signs.{is_sign, sign_at, begins_atom, begins_open, begins_term}
use Rattle.vernac_parser.specs.Parser.{Parser, and_then, pure}
use Rattle.vernac_parser.specs.Parse.{Rule, Whole, Right85, Right80, Right75, Checks, with_argument, applied, atom, argument, arguments, application, equal_behind, t70, operand, t75, and_behind, t80, or_behind, t85, arrow_behind, t99, open_form, term, by_rule, nested}
use Rattle.vernac_parser.proofs.SignLaws.{reach, beyond, no_atom}
use Rattle.vernac_parser.proofs.Checked.{fault_by}
use Rattle.vernac_parser.proofs.Heads.{head_of, term_begins, no_not, no_open, opens, levels}
use Rattle.vernac_parser.proofs.Answered.{answered, step_sure, took, passed, many_done}

-- what may follow a term at a level: nothing that the rules of that level go on with, and behind an open form nothing that a term goes on with
abbrev pub Follows : ℕ → Term → List Token → Type 0
Follows n t rest = (99 < reach (sign_at rest)) ⊎ (IsClosed t × (n < reach (sign_at rest)))

lower : (m n : ℕ) (t : Term) (rest : List Token) → m ≤ n → Follows n t rest → Follows m t rest
lower m n t rest l (inl h) = inl h
lower m n t rest l (inr h) = inr (h.0, omega (arith, h.1))

bare : (n : ℕ) (t : Term) (rest : List Token) → n ≤ 99 → Follows n t rest → n < reach (sign_at rest)
bare n t rest l (inl h) = omega arith
bare n t rest l (inr h) = h.1

module _ (c : Checks) (n : ℕ) (t : Term) (rest : List Token) where
  abbrev pub Reads : ((Rule → Parser Term) → Parser Term) → Type 0
  Reads p = p (nested c n) (spells t rest) ≡ answered (fault_by c t n rest) t rest

  -- how each level of the rules reads the term
  pub record Tower : Type 0 where
    pub at_atom : level t ≤ 0 → 0 < reach (sign_at rest) → Reads (atom c)
    pub at_application : level t ≤ 10 → 10 < reach (sign_at rest) → Reads (application c)
    pub at70 : level t ≤ 70 → 70 < reach (sign_at rest) → Reads (t70 c)
    pub at75 : level t ≤ 75 → Follows 75 t rest → Reads (t75 c)
    pub at80 : level t ≤ 80 → Follows 80 t rest → Reads (t80 c)
    pub at85 : level t ≤ 85 → Follows 85 t rest → Reads (t85 c)
    pub at99 : level t ≤ 99 → 99 < reach (sign_at rest) → Reads (t99 c)
    pub at_open : level t ≡ 200 → 99 < reach (sign_at rest) → Reads (open_form c)

  up_application : Reads (atom c) → 10 < reach (sign_at rest) → Reads (application c)
  unfolding application arguments
  up_application p r = step_sure (atom c (nested c n) (spells t rest)) _ (fault_by c t n rest) t t rest rest p (ap (λ u. and_then u (λ args. pure (applied t args))) (many_done begins_atom (argument c (nested c n)) with_argument NoArgument (length rest) rest (no_atom (sign_at rest) r)))

  up70 : Reads (application c) → 70 < reach (sign_at rest) → Reads (t70 c)
  unfolding t70 equal_behind
  up70 p r = step_sure (application c (nested c n) (spells t rest)) (equal_behind c (nested c n)) (fault_by c t n rest) t t rest rest p (passed _ _ (beyond (sign_at rest) sign.Equal r))

  up75 : IsTerm t → level t ≤ 70 → Reads (t70 c) → Reads (t75 c)
  unfolding t75
  up75 h l p = passed _ _ (ap (λ s. is_sign s sign.Not) (head_of t rest) ∙ no_not t h l) ∙ p

  up80 : Reads (t75 c) → 80 < reach (sign_at rest) → Reads (t80 c)
  unfolding t80 and_behind
  up80 p r = step_sure (t75 c (nested c n) (spells t rest)) (and_behind c (nested c n)) (fault_by c t n rest) t t rest rest p (passed _ _ (beyond (sign_at rest) sign.And r))

  up85 : Reads (t80 c) → 85 < reach (sign_at rest) → Reads (t85 c)
  unfolding t85 or_behind
  up85 p r = step_sure (t80 c (nested c n) (spells t rest)) (or_behind c (nested c n)) (fault_by c t n rest) t t rest rest p (passed _ _ (beyond (sign_at rest) sign.Or r))

  up99 : Reads (t85 c) → 99 < reach (sign_at rest) → Reads (t99 c)
  unfolding t99 arrow_behind
  up99 p r = step_sure (t85 c (nested c n) (spells t rest)) (arrow_behind c (nested c n)) (fault_by c t n rest) t t rest rest p (passed _ _ (beyond (sign_at rest) sign.Arrow r))

  up_whole : IsTerm t → level t ≤ 99 → Reads (t99 c) → Reads (term c)
  unfolding term
  up_whole h l p = passed _ _ (ap begins_open (head_of t rest) ∙ no_open t h l) ∙ p

  -- a whole term
  pub whole_read : IsTerm t → Tower → 99 < reach (sign_at rest) → Reads (term c)
  unfolding term
  whole_read h tower r = elim (levels t) as (λ _. Reads (term c)) [
    | inl l ↦ up_whole h l (tower.at99 l r)
    | inr e ↦ took _ _ (ap begins_open (head_of t rest) ∙ opens t e) ∙ tower.at_open e r
  ]

  -- the levels above the one that reads the term
  abbrev After75 : Type 0
  After75 = (Follows 80 t rest → Reads (t80 c)) × (Follows 85 t rest → Reads (t85 c)) × (99 < reach (sign_at rest) → Reads (t99 c))

  above85 : (Follows 85 t rest → Reads (t85 c)) → 99 < reach (sign_at rest) → Reads (t99 c)
  above85 own r = up99 (own (inl r)) r

  above80 : (Follows 80 t rest → Reads (t80 c)) → Follows 85 t rest → Reads (t85 c)
  above80 own r = up85 (own (lower 80 85 t rest (omega arith) r)) (bare 85 t rest (omega arith) r)

  above75 : (Follows 75 t rest → Reads (t75 c)) → Follows 80 t rest → Reads (t80 c)
  above75 own r = up80 (own (lower 75 80 t rest (omega arith) r)) (bare 80 t rest (omega arith) r)

  above70 : IsTerm t → level t ≤ 70 → (70 < reach (sign_at rest) → Reads (t70 c)) → Follows 75 t rest → Reads (t75 c)
  above70 h l own r = up75 h l (own (bare 70 t rest (omega arith) (lower 70 75 t rest (omega arith) r)))

  above10 : (10 < reach (sign_at rest) → Reads (application c)) → 70 < reach (sign_at rest) → Reads (t70 c)
  above10 own r = up70 (own (omega arith)) r

  above0 : (0 < reach (sign_at rest) → Reads (atom c)) → 10 < reach (sign_at rest) → Reads (application c)
  above0 own r = up_application (own (omega arith)) r

  pub tower0 : IsTerm t → level t ≡ 0 → (0 < reach (sign_at rest) → Reads (atom c)) → Tower
  tower0 h e own =
      let l : level t ≤ 70 = omega arith in
      let own10 : 10 < reach (sign_at rest) → Reads (application c) = above0 own in
      let own70 : 70 < reach (sign_at rest) → Reads (t70 c) = above10 own10 in
      let own75 : Follows 75 t rest → Reads (t75 c) = above70 h l own70 in
      let own80 : Follows 80 t rest → Reads (t80 c) = above75 own75 in
      let own85 : Follows 85 t rest → Reads (t85 c) = above80 own80 in
      record { at_atom = λ _. own; at_application = λ _. own10; at70 = λ _. own70; at75 = λ _. own75; at80 = λ _. own80; at85 = λ _. own85; at99 = λ _. above85 own85; at_open = λ l _. absurd (omega arith) }

  pub tower10 : IsTerm t → level t ≡ 10 → (10 < reach (sign_at rest) → Reads (application c)) → Tower
  tower10 h e own =
      let l : level t ≤ 70 = omega arith in
      let own70 : 70 < reach (sign_at rest) → Reads (t70 c) = above10 own in
      let own75 : Follows 75 t rest → Reads (t75 c) = above70 h l own70 in
      let own80 : Follows 80 t rest → Reads (t80 c) = above75 own75 in
      let own85 : Follows 85 t rest → Reads (t85 c) = above80 own80 in
      record { at_atom = λ l _. absurd (omega arith); at_application = λ _. own; at70 = λ _. own70; at75 = λ _. own75; at80 = λ _. own80; at85 = λ _. own85; at99 = λ _. above85 own85; at_open = λ l _. absurd (omega arith) }

  pub tower70 : IsTerm t → level t ≡ 70 → (70 < reach (sign_at rest) → Reads (t70 c)) → Tower
  tower70 h e own =
      let l : level t ≤ 70 = omega arith in
      let own75 : Follows 75 t rest → Reads (t75 c) = above70 h l own in
      let own80 : Follows 80 t rest → Reads (t80 c) = above75 own75 in
      let own85 : Follows 85 t rest → Reads (t85 c) = above80 own80 in
      record { at_atom = λ l _. absurd (omega arith); at_application = λ l _. absurd (omega arith); at70 = λ _. own; at75 = λ _. own75; at80 = λ _. own80; at85 = λ _. own85; at99 = λ _. above85 own85; at_open = λ l _. absurd (omega arith) }

  pub tower75 : level t ≡ 75 → (Follows 75 t rest → Reads (t75 c)) → Tower
  tower75 e own =
      let own80 : Follows 80 t rest → Reads (t80 c) = above75 own in
      let own85 : Follows 85 t rest → Reads (t85 c) = above80 own80 in
      record { at_atom = λ l _. absurd (omega arith); at_application = λ l _. absurd (omega arith); at70 = λ l _. absurd (omega arith); at75 = λ _. own; at80 = λ _. own80; at85 = λ _. own85; at99 = λ _. above85 own85; at_open = λ l _. absurd (omega arith) }

  pub tower80 : level t ≡ 80 → (Follows 80 t rest → Reads (t80 c)) → Tower
  tower80 e own =
      let own85 : Follows 85 t rest → Reads (t85 c) = above80 own in
      record { at_atom = λ l _. absurd (omega arith); at_application = λ l _. absurd (omega arith); at70 = λ l _. absurd (omega arith); at75 = λ l _. absurd (omega arith); at80 = λ _. own; at85 = λ _. own85; at99 = λ _. above85 own85; at_open = λ l _. absurd (omega arith) }

  pub tower85 : level t ≡ 85 → (Follows 85 t rest → Reads (t85 c)) → Tower
  tower85 e own =
      record { at_atom = λ l _. absurd (omega arith); at_application = λ l _. absurd (omega arith); at70 = λ l _. absurd (omega arith); at75 = λ l _. absurd (omega arith); at80 = λ l _. absurd (omega arith); at85 = λ _. own; at99 = λ _. above85 own; at_open = λ l _. absurd (omega arith) }

  pub tower99 : level t ≡ 99 → (99 < reach (sign_at rest) → Reads (t99 c)) → Tower
  tower99 e own =
      record { at_atom = λ l _. absurd (omega arith); at_application = λ l _. absurd (omega arith); at70 = λ l _. absurd (omega arith); at75 = λ l _. absurd (omega arith); at80 = λ l _. absurd (omega arith); at85 = λ l _. absurd (omega arith); at99 = λ _. own; at_open = λ l _. absurd (omega arith) }

  pub tower_open : level t ≡ 200 → (99 < reach (sign_at rest) → Reads (open_form c)) → Tower
  tower_open e own =
      record { at_atom = λ l _. absurd (omega arith); at_application = λ l _. absurd (omega arith); at70 = λ l _. absurd (omega arith); at75 = λ l _. absurd (omega arith); at80 = λ l _. absurd (omega arith); at85 = λ l _. absurd (omega arith); at99 = λ l _. absurd (omega arith); at_open = λ _. own }

-- the fault of a term one level down, and of a right operand
abbrev pub inside : Checks → ℕ → Term → List Token → Option Fault
inside c n t rest = faults.nested n (λ m. fault_by c t m rest) (spells t rest)

abbrev pub operand_fault : Checks → ℕ → Term → List Token → Option Fault
operand_fault c n t rest = cond (level t == open_level) (fault_by c t n rest) (inside c n t rest)

-- a rule that goes one level down
pub whole_inside : (c : Checks) (n : ℕ) (t : Term) (rest : List Token) → ((m : ℕ) → Reads c m t rest (term c)) → nested c n Whole (spells t rest) ≡ answered (inside c n t rest) t rest
unfolding nested by_rule
whole_inside c zero t rest ih = took _ _ (ap begins_term (head_of t rest) ∙ term_begins t)
whole_inside c (suc n) t rest ih = ih n

abbrev most : Rule → ℕ
most Whole = 99
most Right85 = 85
most Right80 = 80
most Right75 = 75

rule_inside : (c : Checks) (n : ℕ) (rule : Rule) (t : Term) (rest : List Token) → ((m : ℕ) → Reads c m t rest (λ inner. by_rule c inner rule)) → nested c n rule (spells t rest) ≡ answered (inside c n t rest) t rest
unfolding nested
rule_inside c zero rule t rest ih = took _ _ (ap begins_term (head_of t rest) ∙ term_begins t)
rule_inside c (suc n) rule t rest ih = ih n

pub not_the_open_level : (k : ℕ) → k ≤ 99 → (k == open_level) ≡ false
not_the_open_level k l = grind arith

-- a right operand: an open form counts nothing
pub operand_inside : (c : Checks) (n : ℕ) (rule : Rule) (t : Term) (rest : List Token) → IsTerm t → (level t ≤ 99) ⊎ (level t ≡ open_level) → (level t ≡ open_level → Reads c n t rest (open_form c)) → (level t ≤ 99 → (m : ℕ) → Reads c m t rest (λ inner. by_rule c inner rule)) → operand c (nested c n) rule (spells t rest) ≡ answered (operand_fault c n t rest) t rest
unfolding operand
operand_inside c n rule t rest h (inl l) own ih = passed _ _ (ap begins_open (head_of t rest) ∙ no_open t h l) ∙ rule_inside c n rule t rest (ih l) ∙ ap (λ b. answered (cond b (fault_by c t n rest) (faults.nested n (λ m. fault_by c t m rest) (spells t rest))) t rest) (sym (not_the_open_level (level t) l))
operand_inside c n rule t rest h (inr e) own ih = took _ _ (ap begins_open (head_of t rest) ∙ opens t e) ∙ own e ∙ ap (λ k. answered (cond (k == open_level) (fault_by c t n rest) (faults.nested n (λ m. fault_by c t m rest) (spells t rest))) t rest) (sym e)
