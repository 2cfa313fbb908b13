-- A declaration stands where its sentences do.
use Rattle.std.proofs.Common.{◌≡◌, ℕ, Result, IfOk, List, ap, subst, ◌∙◌}
use Rattle.serde_json.specs.Data.{Data}
use Rattle.serde_json.specs.View.{view}
use Rattle.serde_json.specs.declared.value.Value.{Value}
use Rattle.base_core.specs.declared.places.Position.{Position}
use Rattle.sentence_split.specs.declared.spans.Span.{Span}
use Rattle.prover_iface.specs.declared.outline.OutlineItem.{OutlineItem}
use Rattle.doc_check.specs.Check.{span_of}
use Rattle.goals_query.specs.Places.{range_data}
use Rattle.goals_query.specs.Symbols.{symbol_at, symbol_data}

pub symbol_is : {E : Type 0} (at : ℕ → Position) (spans : List Span) (item : OutlineItem) (range : Data) (from to : ℕ) (r : Result Value E) → range ≡ range_data at from to → from ≡ (span_of spans item.first).from → to ≡ (span_of spans item.last).to → IfOk r (λ v. view v ≡ symbol_at range item) → IfOk r (λ v. view v ≡ symbol_data at spans item)
symbol_is at spans item range from to r is begins ends made =
    subst (λ d. IfOk r (λ v. view v ≡ symbol_at d item))
    (is ∙ ap (λ f. range_data at f to) begins ∙ ap (λ t. range_data at (span_of spans item.first).from t) ends) made
