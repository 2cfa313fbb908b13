-- Positions, ranges and documents, as they stand in messages (LSP 3.17, "Position", "Range"). A range takes the positions of a
-- text's offsets.
use Rattle.std.specs.Prelude.{ℕ, ℤ, List, codes}
use Rattle.serde_json.specs.Data.{Data, number, string, object, unsigned, member, no_members}
use Rattle.serde_json.specs.Find.{of_integer}
use Rattle.base_core.specs.declared.places.Position.{Position}

-- a position
abbrev pub position_data : Position → Data
position_data at = object (member (codes "character") (number (unsigned at.character)) (member (codes "line") (number (unsigned at.line)) no_members))

-- the range between two offsets
abbrev pub range_data : (ℕ → Position) → ℕ → ℕ → Data
range_data at from to = object (member (codes "end") (position_data (at to)) (member (codes "start") (position_data (at from)) no_members))

-- a document's name and version
abbrev pub document_data : List ℕ → ℤ → Data
document_data uri version = object (member (codes "uri") (string uri) (member (codes "version") (number (of_integer version)) no_members))
