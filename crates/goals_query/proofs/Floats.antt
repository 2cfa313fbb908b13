-- No answer has a number with a point, so that all of its bytes are told.
use Rattle.std.proofs.Common.{◌≡◌, ℕ, ℤ, pos, negsuc, false, Option, None, Some, List, [], ◌∷◌, map, refl}
use Rattle.serde_json.specs.Data.{Data}
use Rattle.serde_json.specs.Find.{is_float, of_integer}
use Rattle.serde_json.specs.View.{items_of}
use Rattle.serde_json.specs.Written.{has_float, items_have_float}
use Rattle.base_core.specs.declared.places.Position.{Position}
use Rattle.sentence_split.specs.declared.spans.Span.{Span}
use Rattle.prover_iface.specs.declared.goals.GoalView.{GoalView}
use Rattle.prover_iface.specs.declared.goals.GoalsView.{GoalsView}
use Rattle.prover_iface.specs.declared.outline.OutlineItem.{OutlineItem}
use Rattle.goals_query.specs.Goals.{hyp_from, hyp_data, goal_data, goal_list, level_data, view_data, goals_data, answer_data}
use Rattle.goals_query.specs.Symbols.{symbol_data, symbols_data}

whole : (z : ℤ) → is_float (of_integer z) ≡ false
whole (pos n) = refl
whole (negsuc n) = refl

-- a list of values of which none has one
items_whole : {A : Type 0} (line : A → Data) → ((a : A) → has_float (line a) ≡ false) → (items : List A) → items_have_float (items_of (map line items)) ≡ false
items_whole line each [] = refl
items_whole line each (a ∷ items) = rw (each a, items_whole line each items) refl

hyp_whole : (value : Option (List ℕ)) (name ty : List ℕ) → has_float (hyp_from value name ty) ≡ false
hyp_whole None name ty = refl
hyp_whole (Some value) name ty = refl

goal_whole : (goal : GoalView) → has_float (goal_data goal) ≡ false
goal_whole goal = rw (items_whole hyp_data (λ h. hyp_whole h.value h.name h.ty) goal.hyps) refl

list_whole : (goals : List GoalView) → has_float (goal_list goals) ≡ false
list_whole goals = items_whole goal_data goal_whole goals

level_whole : (goals : List GoalView) → has_float (level_data goals) ≡ false
level_whole goals = rw (items_whole goal_data goal_whole goals) refl

view_whole : (view : GoalsView) → has_float (view_data view) ≡ false
view_whole view =
    rw (items_whole goal_data goal_whole view.given_up, items_whole goal_data goal_whole view.goals, items_whole level_data level_whole view.stack) refl

goals_whole : (goals : Option GoalsView) → has_float (goals_data goals) ≡ false
goals_whole None = refl
goals_whole (Some view) = view_whole view

pub answer_whole : (goals : Option GoalsView) (at : Position) (uri : List ℕ) (version : ℤ) → has_float (answer_data goals at uri version) ≡ false
answer_whole goals at uri version = rw (goals_whole goals, whole version) refl

symbol_whole : (at : ℕ → Position) (spans : List Span) (item : OutlineItem) → has_float (symbol_data at spans item) ≡ false
symbol_whole at spans item = refl

pub symbols_whole : (at : ℕ → Position) (spans : List Span) (items : List OutlineItem) → has_float (symbols_data at spans items) ≡ false
symbols_whole at spans items = items_whole (symbol_data at spans) (symbol_whole at spans) items
