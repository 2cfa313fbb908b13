-- The law of fuel for matches.
use Rattle.std.proofs.Common.{ℕ, zero, suc, List, Option, Some, None}
use Rattle.core_term.specs.Tree.{Tree, Var, Prod, Lam, LetIn, App}
use Rattle.cic_rules.specs.declared.context.Hyp.{Hyp}
use Rattle.cic_rules.specs.declared.env.Slot.{Slot}
use Rattle.cic_rules.specs.Runs.{Run}
use Rattle.cic_rules.specs.Laws.{KeepsLawOfFuel}
use Rattle.cic_rules.proofs.FuelLaws.{law_step, law_spend, law_if, fuel_laws}
use Rattle.cic_rules.proofs.JudgeFuelLaws.{fuel_of_conversion}
use Rattle.matching.specs.Patterns.{Values, has_unset, fill}
use Rattle.matching.specs.Match.{if_matched, match_under, match_binder, match_nodes, match_filled, match_at}
use Rattle.matching.specs.Laws.{FuelOfMatch}

module _ (inner : List Hyp → ℕ → Tree → Tree → Values → Run (Option Values))
    (inners : (ctx : List Hyp) (binders : ℕ) (p t : Tree) (values : Values) → KeepsLawOfFuel (inner ctx binders p t values)) where
  law_if_matched : (found : Option Values) (rest : Values → Run (Option Values)) → ((values : Values) → KeepsLawOfFuel (rest values)) →
      KeepsLawOfFuel (if_matched found rest)
  law_if_matched None rest rests = search (fuel_laws)
  law_if_matched (Some values) rest rests = rests values

  law_under : (ctx : List Hyp) (h : Hyp) (binders : ℕ) (p t : Tree) (values : Values) → KeepsLawOfFuel (match_under inner ctx h binders p t values)
  law_under ctx h binders p t values = search (fuel_laws, inners)

  law_binder : (ctx : List Hyp) (h : Hyp) (binders : ℕ) (p t q u : Tree) (values : Values) →
      KeepsLawOfFuel (match_binder inner ctx h binders p t q u values)
  law_binder ctx h binders p t q u values = search (fuel_laws, inners, law_if_matched, law_under)

  law_nodes : (ctx : List Hyp) (binders : ℕ) (p t : Tree) (values : Values) → KeepsLawOfFuel (match_nodes inner ctx binders p t values)
  law_nodes ctx binders (Var i) t values = search (fuel_laws)
  law_nodes ctx binders (Prod n p q) (Prod m t u) values = search (fuel_laws, law_binder)
  law_nodes ctx binders (Lam n p q) (Lam m t u) values = search (fuel_laws, law_binder)
  law_nodes ctx binders (LetIn n p v q) (LetIn m t w u) values = search (fuel_laws, inners, law_if_matched, law_binder)
  law_nodes ctx binders (App p q) (App t u) values = search (fuel_laws, inners, law_if_matched)
  law_nodes ctx binders _ _ values = search (fuel_laws)

law_filled : (env : List Slot) (calls : ℕ) (ctx : List Hyp) (p t : Tree) (values : Values) → KeepsLawOfFuel (match_filled env calls ctx p t values)
law_filled env calls ctx p t values = search (fuel_laws, fuel_of_conversion) depth 12

pub fuel_of_match : FuelOfMatch
unfolding match_at
fuel_of_match env zero ctx binders p t values = search (fuel_laws)
fuel_of_match env (suc calls) ctx binders p t values =
    law_step (law_spend 1)
    (law_if (has_unset values p binders)
    (law_nodes (match_at env calls) (fuel_of_match env calls) ctx binders p t values)
    (law_filled env calls ctx (fill values p binders) t values))
