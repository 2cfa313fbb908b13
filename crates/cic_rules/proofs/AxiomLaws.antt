-- The axioms of an entry ascend.
use Rattle.std.proofs.Common.{ℕ, zero, suc, ◌<◌, List, [], ◌∷◌, ◌++◌, Bool, true, false, cond, arith}
use Rattle.term_spine.specs.Globals.{has, AreBehind, IsAscending}
use Rattle.cic_rules.specs.declared.env.Slot.{Slot}
use Rattle.cic_rules.specs.Scopes.{AreBefore}
use Rattle.cic_rules.specs.Infer.{union}
use Rattle.cic_rules.specs.Grounded.{used_at, reached, assumptions, is_assumption}
use Rattle.cic_rules.specs.Laws.{AxiomsAscend}

behind-last : (q p : ℕ) (ps : List ℕ) → AreBehind q ps → q < p → AreBehind q (ps ++ (p ∷ []))
behind-last q p [] h lt = (lt, tt)
behind-last q p (x ∷ ps) h lt = (h.0, behind-last q p ps h.1 lt)

ascending-last : (p : ℕ) (ps : List ℕ) → IsAscending ps → AreBefore p ps → IsAscending (ps ++ (p ∷ []))
ascending-last p [] h before = (tt, tt)
ascending-last p (x ∷ ps) h before = (behind-last x p ps h.0 before.0, ascending-last p ps h.1 before.1)

before-suc : (p : ℕ) (ps : List ℕ) → AreBefore p ps → AreBefore (suc p) ps
before-suc p [] h = tt
before-suc p (x ∷ ps) h = (omega (arith, h.0), before-suc p ps h.1)

before-last : (p : ℕ) (ps : List ℕ) → AreBefore p ps → AreBefore (suc p) (ps ++ (p ∷ []))
before-last p [] h = (omega arith, tt)
before-last p (x ∷ ps) h = (omega (arith, h.0), before-last p ps h.1)

abbrev IsReached : ℕ → List ℕ → Type 0
IsReached p ps = AreBefore p ps × IsAscending ps

reached_by : (b : Bool) (p : ℕ) (with out : List ℕ) → IsReached p with → IsReached p out → IsReached (suc p) (cond b (with ++ (p ∷ [])) out)
reached_by true p with out h g = (before-last p with h.0, ascending-last p with h.1 h.0)
reached_by false p with out h g = (before-suc p out g.0, g.1)

module _ (env : List Slot) where
  reached_is : (p : ℕ) (names : List ℕ) → IsReached p (reached env p names)
  reached_is zero names = (tt, tt)
  reached_is (suc p) names =
      reached_by (has names p) p (reached env p (union names (used_at env p))) (reached env p names) (reached_is p (union names (used_at env p))) (reached_is p names)

  behind_by : (b : Bool) (q p : ℕ) (ps : List ℕ) → q < p → AreBehind q ps → AreBehind q (cond b (p ∷ ps) ps)
  behind_by true q p ps lt h = (lt, h)
  behind_by false q p ps lt h = h

  behind-assumptions : (q : ℕ) (ps : List ℕ) → AreBehind q ps → AreBehind q (assumptions env ps)
  behind-assumptions q [] h = tt
  behind-assumptions q (p ∷ ps) h = behind_by (is_assumption env p) q p (assumptions env ps) h.0 (behind-assumptions q ps h.1)

  ascending_by : (b : Bool) (p : ℕ) (ps : List ℕ) → AreBehind p ps → IsAscending ps → IsAscending (cond b (p ∷ ps) ps)
  ascending_by true p ps h g = (h, g)
  ascending_by false p ps h g = g

  ascending-assumptions : (ps : List ℕ) → IsAscending ps → IsAscending (assumptions env ps)
  ascending-assumptions [] h = tt
  ascending-assumptions (p ∷ ps) h =
      ascending_by (is_assumption env p) p (assumptions env ps) (behind-assumptions p ps h.0) (ascending-assumptions ps h.1)

pub axioms_ascend : AxiomsAscend
axioms_ascend env place =
    let at = reached_is env place (used_at env place) in
    ascending-assumptions env (reached env place (used_at env place)) at.1
