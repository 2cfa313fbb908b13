-- Levels of bullets and braces, the innermost first.
use Rattle.std.specs.Prelude.{ℕ, ◌==◌, ◌&&◌, Bool, true, false, List, [], ◌∷◌, Option, Some, None, if◌then◌else◌, slice_get}
use Rattle.std.specs.List.{position_from, flat_map}
use Rattle.bullet_focus.specs.declared.levels.Level.{Level}
use Rattle.bullet_focus.specs.declared.levels.Opener.{Opener}
use Rattle.bullet_focus.specs.declared.levels.Opener.TheVariants.{Bullet, Brace}

-- whether a level is begun by a brace
abbrev pub is_brace : Opener → Bool
is_brace Brace = true
is_brace (Bullet mark count) = false

-- whether two levels are begun alike: by braces, or by bullets of one character and one count
abbrev pub same_opener : Opener → Opener → Bool
same_opener Brace second = is_brace second
same_opener (Bullet mark count) Brace = false
same_opener (Bullet mark count) (Bullet other_mark other_count) = (mark == other_mark) && (count == other_count)

-- the levels above the last brace, and that brace itself
abbrev pub within_brace : List Level → List Level
within_brace [] = []
within_brace (level ∷ levels) = level ∷ (if is_brace level.opener then [] else within_brace levels)

-- whether a level is begun so
abbrev pub has_opener : Opener → Level → Bool
has_opener opener level = same_opener opener level.opener

-- where the level that is begun so stands among them, counted from the innermost
abbrev pub place_of : Opener → List Level → Option ℕ
place_of opener levels = position_from (has_opener opener) 0 (within_brace levels)

-- the goals that wait in levels, the innermost level first
abbrev pub waiting_in : List Level → List ℕ
waiting_in levels = flat_map (λ level. level.waiting) levels

abbrev waiting_of : Option Level → List ℕ
waiting_of None = []
waiting_of (Some level) = level.waiting

-- the goals that wait in the level at a place
abbrev pub waiting_at : List Level → ℕ → List ℕ
waiting_at levels place = waiting_of (slice_get levels place)
