-- The edits of a change.
use Rattle.std.specs.Prelude.{ℕ, List, [], ◌∷◌, codes, Option, None, Some, option_and_then, option_map}
use Rattle.serde_json.specs.Data.{Data, Items, no_items, item}
use Rattle.serde_json.specs.Find.{get, as_array}
use Rattle.base_core.specs.declared.places.Range.{Range}
use Rattle.base_core.specs.declared.places.Change.{Change}
use Rattle.lsp_types.specs.Members.{text_at, range_of, param}

-- the range of an edit: none where it isn't stated, and no answer where it is ill typed
abbrev pub stated_range : Option Data → Option (Option Range)
stated_range None = Some None
stated_range (Some d) = option_map (λ range. Some range) (range_of d)

-- an edit of this range and text
abbrev pub change_from : Option (Option Range) → Option (List ℕ) → Option Change
change_from (Some range) (Some text) = Some (record { range = range; text = text })
change_from _ _ = None

-- an edit is an object with a text, and a range where it isn't of the whole
abbrev pub change_of : Data → Option Change
change_of d = change_from (stated_range (get (codes "range") d)) (text_at (codes "text") d)

-- an edit before others
abbrev pub with_change : Option Change → Option (List Change) → Option (List Change)
with_change (Some change) (Some changes) = Some (change ∷ changes)
with_change _ _ = None

-- all edits, in order, where each is one
abbrev pub changes_of : Items → Option (List Change)
changes_of no_items = Some []
changes_of (item d ds) = with_change (change_of d) (changes_of ds)

-- the edits that a message states
abbrev pub stated_changes : Data → Option (List Change)
stated_changes message = option_and_then changes_of (option_and_then as_array (param (codes "contentChanges") message))
