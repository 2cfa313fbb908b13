-- What a document keeps beside its text.
use Rattle.std.specs.Prelude.{◌≡◌, ℕ, ◌≤◌, List, length}
use Rattle.base_core.specs.declared.limits.TheConstants.{TEXT_LIMIT}
use Rattle.utf16_doc.specs.declared.encoding.Encoding.{Encoding}
use Rattle.base_core.specs.declared.places.Position.{Position}
use Rattle.utf16_doc.specs.Lines.{line_ends}
use Rattle.utf16_doc.specs.Positions.{position_at}

-- a text, and what its characters are counted in
pub record Document : Type 0 where
  pub encoding : Encoding
  pub text : List ℕ

-- the position of an offset in it
abbrev pub position_in : Document → ℕ → Position
position_in document offset = position_at document.encoding document.text offset

-- the text is within the limit, and these are the ends of its lines
pub record IsLined (text ends : List ℕ) : Type 0 where
  pub short : length text ≤ TEXT_LIMIT
  pub lines : ends ≡ line_ends 0 text
