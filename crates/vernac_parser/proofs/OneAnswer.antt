-- A token list has at most one answer: the clauses on it leave nothing open.
use Rattle.std.proofs.Common.{◌≡◌, inl, inr, Option, None, Some, Ok, Err, List, [], ◌∷◌, ◌++◌, sym, ◌∙◌, ap, subst, append-nil}
use Rattle.coq_syntax.specs.declared.token.Token.{Token}
use Rattle.coq_syntax.specs.Trees.{Term}
use Rattle.coq_syntax.specs.Grammar.{IsTermOf}
use Rattle.coq_syntax.specs.Faults.{Fault}
use Rattle.coq_syntax.specs.Commands.{IsCommandOf, command_fault}
use Rattle.coq_syntax.specs.Refusals.{Outcome, IsLongest, IsAssigned}
use Rattle.coq_syntax.specs.Meets.{fault_of_term, IsRead, IsRefused, OneAnswer}
use Rattle.coq_syntax.specs.MeetsWhole.{OneCommandAnswer}
use Rattle.coq_syntax.proofs.Splits.{Order, Before, Behind, Here, order}
use Rattle.coq_syntax.proofs.OneRefusal.{assigned_decides, not_longest, begins_next, two_unexpected, unexpected_limit, two_limits, alike_more, one_whole_answer}
use Rattle.vernac_parser.proofs.Unique.{one_tree}
use Rattle.vernac_parser.proofs.CommandComplete.{one_command}

-- ---- terms

read_refused : (i : List Token) (t : Term) (rest : List Token) (g : Fault) → IsRead i t rest → IsRefused i g → ⊥
read_refused i t rest g r (inl h) = by (order i r.used rest h.1.used g.rest r.parts h.1.parts)
  where
    by : Order r.used rest h.1.used g.rest → ⊥
    by (Before l) = not_longest assigned_decides IsTermOf fault_of_term r.used rest h.1.used g.rest [] t l h.1.longest (subst (λ x. IsTermOf x t) (sym (append-nil r.used)) r.tree)
    by (Behind l) = not_longest assigned_decides IsTermOf fault_of_term h.1.used g.rest r.used rest h.1.more h.1.tree l r.longest h.1.begun
    by (Here e _) = h.2 t (subst (λ x. IsTermOf x t) e r.tree)
read_refused i t rest g r (inr b) = by (order i r.used rest b.used (b.next ∷ b.after) r.parts b.parts)
  where
    by : Order r.used rest b.used (b.next ∷ b.after) → ⊥
    by (Before l) =
        let last : b.next ∷ b.after ≡ l.first ∷ (l.back ++ rest) = l.last in
        let head : l.first ≡ b.next = cc in
        let tail : b.after ≡ l.back ++ rest = cc in
        let tree : IsTermOf (b.used ++ b.next ∷ l.back) t = subst (λ x. IsTermOf x t) (l.whole ∙ ap (λ x. b.used ++ x ∷ l.back) head) r.tree in
        let there : fault_of_term t ≡ Some (record { code = g.code; rest = b.next ∷ l.back }) = b.each l.back t tree (λ _ k. subst IsAssigned (sym tail) (alike_more assigned_decides IsTermOf fault_of_term l.back rest k)) in
        clash (fault_of_term t) _ r.sound there
      where
        clash : (k : Option Fault) (f : Fault) → k ≡ None → k ≡ Some f → ⊥
        clash k f p q = let bad : None ≡ Some f = sym p ∙ q in cc
    by (Behind l) = not_longest assigned_decides IsTermOf fault_of_term b.used (b.next ∷ b.after) r.used rest (b.next ∷ b.more) b.tree l r.longest b.begun
    by (Here e k) =
        let long : IsLongest IsTermOf r.used (b.next ∷ b.after) = subst (IsLongest IsTermOf r.used) k r.longest in
        long (begins_next assigned_decides IsTermOf fault_of_term r.used b.more b.next b.tree (subst (λ x. IsTermOf (x ++ b.next ∷ b.more) b.tree) (sym e) b.begun))

two_refused : (i : List Token) (f g : Fault) → IsRefused i f → IsRefused i g → f ≡ g
two_refused i f g (inl a) (inl b) = two_unexpected assigned_decides IsTermOf fault_of_term i f g a.0 b.0 a.1 b.1
two_refused i f g (inl a) (inr b) = absurd (unexpected_limit assigned_decides IsTermOf fault_of_term i f g a.1 b)
two_refused i f g (inr a) (inl b) = absurd (unexpected_limit assigned_decides IsTermOf fault_of_term i g f b.1 a)
two_refused i f g (inr a) (inr b) = two_limits assigned_decides IsTermOf fault_of_term i f g a b

abbrev ok : {A : Type 0} → A → List Token → Outcome A
ok x rest = Ok (x, rest)

abbrev err : (A : Type 0) → Fault → Outcome A
err A f = Err f

two_read : (i : List Token) (s t : Term) (rest rest' : List Token) → IsRead i s rest → IsRead i t rest' → ok s rest ≡ ok t rest'
two_read i s t rest rest' a b = by (order i a.used rest b.used rest' a.parts b.parts)
  where
    by : Order a.used rest b.used rest' → ok s rest ≡ ok t rest'
    by (Before l) = absurd (not_longest assigned_decides IsTermOf fault_of_term a.used rest b.used rest' [] s l b.longest (subst (λ x. IsTermOf x s) (sym (append-nil a.used)) a.tree))
    by (Behind l) = absurd (not_longest assigned_decides IsTermOf fault_of_term b.used rest' a.used rest [] t l a.longest (subst (λ x. IsTermOf x t) (sym (append-nil b.used)) b.tree))
    by (Here e r) =
        let same : s ≡ t = one_tree b.used s t (subst (λ x. IsTermOf x s) e a.tree) b.tree in
        ap (λ x. ok x rest) same ∙ ap (ok t) r

pub one_answer : OneAnswer
one_answer i (Ok p) (Ok q) a b = two_read i p.0 q.0 p.1 q.1 a b
one_answer i (Ok p) (Err g) a b = absurd (read_refused i p.0 p.1 g a b)
one_answer i (Err f) (Ok q) a b = absurd (read_refused i q.0 q.1 f b a)
one_answer i (Err f) (Err g) a b = ap (err Term) (two_refused i f g a b)

-- ---- commands

pub one_command_answer : OneCommandAnswer
one_command_answer = one_whole_answer IsCommandOf command_fault one_command
