-- Walks along levels.
use Rattle.std.proofs.Common.{◌≡◌, ℕ, ◌+◌, ◌<◌, List, [], ◌∷◌, ◌++◌, drop, take, Option, Some, None, true, false, refl, sym, ◌∙◌, ap, append_assoc}
use Rattle.std.specs.List.{slice_get, position_from}
use Rattle.bullet_focus.specs.declared.levels.Level.{Level}
use Rattle.bullet_focus.specs.declared.levels.Opener.{Opener}
use Rattle.bullet_focus.specs.Levels.{has_opener, within_brace, is_brace, same_opener, waiting_in}
use Rattle.bullet_focus.proofs.Fronts.{drop_at, get_among, drop_taken}

-- the place of the level that is begun so, where the levels begin at a place
abbrev pub place_from : Opener → ℕ → List Level → Option ℕ
place_from opener i levels = position_from (has_opener opener) i (within_brace levels)

-- a walk ends at the level that is looked for
pub place_here : (o : Opener) (levels : List Level) (i : ℕ) (level : Level) (whole : Option ℕ) → slice_get levels i ≡ Some level → same_opener o level.opener ≡ true → place_from o i (drop i levels) ≡ whole → Some i ≡ whole
place_here o levels i level whole there same before =
    let found : place_from o i (drop i levels) ≡ Some i = rw (drop_at levels i level there, same) refl in
    sym found ∙ before

-- it ends without one at a brace
pub place_none : (o : Opener) (levels : List Level) (i : ℕ) (level : Level) (whole : Option ℕ) → slice_get levels i ≡ Some level → same_opener o level.opener ≡ false → is_brace level.opener ≡ true → place_from o i (drop i levels) ≡ whole → None ≡ whole
place_none o levels i level whole there other brace before =
    let missed : place_from o i (drop i levels) ≡ None = rw (drop_at levels i level there, other, brace) refl in
    sym missed ∙ before

-- it goes on behind any other level
pub place_next : (o : Opener) (levels : List Level) (i : ℕ) (level : Level) (whole : Option ℕ) → slice_get levels i ≡ Some level → same_opener o level.opener ≡ false → is_brace level.opener ≡ false → place_from o i (drop i levels) ≡ whole → place_from o (i + 1) (drop (i + 1) levels) ≡ whole
place_next o levels i level whole there other bullet before =
    let gone : place_from o i (drop i levels) ≡ place_from o (i + 1) (drop (i + 1) levels) = rw (drop_at levels i level there, other, bullet) refl in
    sym gone ∙ before

-- the goals of one level more stand behind the others
pub given_up_next : (all after whole : List ℕ) (levels : List Level) (n i : ℕ) (level : Level) → slice_get levels i ≡ Some level → i < n → after ≡ all ++ level.waiting → all ++ waiting_in (drop i (take n levels)) ≡ whole → after ++ waiting_in (drop (i + 1) (take n levels)) ≡ whole
given_up_next all after whole levels n i level there below more before =
    let front : drop i (take n levels) ≡ level ∷ drop (i + 1) (take n levels) = drop_at (take n levels) i level (get_among levels n i level there below) in
    ap (λ (l : List ℕ). l ++ waiting_in (drop (i + 1) (take n levels))) more ∙ append_assoc all level.waiting (waiting_in (drop (i + 1) (take n levels))) ∙ ap (λ (l : List Level). all ++ waiting_in l) (sym front) ∙ before

-- behind the last of them nothing is left
pub given_up_all : (levels : List Level) (n : ℕ) → waiting_in (drop n (take n levels)) ≡ []
given_up_all levels n = ap (λ (l : List Level). waiting_in l) (drop_taken levels n)
