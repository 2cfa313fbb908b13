-- The first name that is known.
use Rattle.std.proofs.Common.{◌≡◌, Bool, true, false, Option, None, Some, List, ℕ, refl}
use Rattle.std.specs.Option.{option_map, unwrap_or}
use Rattle.lsp_types.specs.Encodings.{is_utf8_named, or_named, is_utf8_before}

-- what was found, or what comes later
abbrev pub or_later : Option Bool → Option Bool → Option Bool
or_later found later = option_map (λ others. unwrap_or found others) later

-- one name more
pub one_more : (found : Option Bool) (name : List ℕ) (later : Option Bool) → or_later (or_named found name) later ≡ or_later found (is_utf8_before (Some name) later)
one_more None name None = refl
one_more None name (Some others) = refl
one_more (Some utf8) name None = refl
one_more (Some utf8) name (Some others) = refl
