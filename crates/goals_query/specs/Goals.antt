-- Goals, as they stand in the answer to `proof/goals` (after coq-lsp).
use Rattle.std.specs.Prelude.{ℕ, ℤ, List, [], ◌∷◌, Option, None, Some, codes, map}
use Rattle.serde_json.specs.Data.{Data, null, string, array, object, member, no_members}
use Rattle.serde_json.specs.View.{items_of}
use Rattle.base_core.specs.declared.places.Position.{Position}
use Rattle.prover_iface.specs.declared.goals.HypView.{HypView}
use Rattle.prover_iface.specs.declared.goals.GoalView.{GoalView}
use Rattle.prover_iface.specs.declared.goals.GoalsView.{GoalsView}
use Rattle.goals_query.specs.Places.{position_data, document_data}

-- nothing in a list
abbrev pub empty_array : Data
empty_array = array (items_of [])

-- a hypothesis of one name; one that has a definition tells it
abbrev pub hyp_from : Option (List ℕ) → List ℕ → List ℕ → Data
hyp_from None name ty = object (member (codes "names") (array (items_of (string name ∷ []))) (member (codes "ty") (string ty) no_members))
hyp_from (Some value) name ty =
    object (member (codes "def") (string value) (member (codes "names") (array (items_of (string name ∷ []))) (member (codes "ty") (string ty) no_members)))

abbrev pub hyp_data : HypView → Data
hyp_data hyp = hyp_from hyp.value hyp.name hyp.ty

-- a goal: its hypotheses, the oldest first, and its type
abbrev pub goal_data : GoalView → Data
goal_data goal = object (member (codes "hyps") (array (items_of (map hyp_data goal.hyps))) (member (codes "ty") (string goal.ty) no_members))

abbrev pub goal_list : List GoalView → Data
goal_list goals = array (items_of (map goal_data goals))

-- a level of focus: nothing stands in front of its goals, and these wait
abbrev pub level_data : List GoalView → Data
level_data goals = array (items_of (empty_array ∷ goal_list goals ∷ []))

-- the goals of a proof under way
abbrev pub view_data : GoalsView → Data
view_data view =
    object (member (codes "given_up") (goal_list view.given_up)
    (member (codes "goals") (goal_list view.goals)
    (member (codes "shelf") empty_array
    (member (codes "stack") (array (items_of (map level_data view.stack))) no_members))))

-- null where no proof is under way
abbrev pub goals_data : Option GoalsView → Data
goals_data None = null
goals_data (Some view) = view_data view

-- the answer: the goals, the position as it was sent, and the document
abbrev pub answer_data : Option GoalsView → Position → List ℕ → ℤ → Data
answer_data goals at uri version =
    object (member (codes "goals") (goals_data goals)
    (member (codes "position") (position_data at)
    (member (codes "textDocument") (document_data uri version) no_members)))
