-- The names of hypotheses.
use Rattle.std.specs.Prelude.{ℕ, List, [], ◌∷◌, if◌then◌else◌}
use Rattle.cic_rules.specs.declared.context.Hyp.{Hyp}
use Rattle.cic_rules.specs.Eliminators.{same_name, WILDCARD}

-- names with that of one more hypothesis, where it is shown
abbrev pub with_shown : List ℕ → List (List ℕ) → List (List ℕ)
with_shown n names = if same_name n WILDCARD then names else n ∷ names

-- the names of hypotheses, the newest first; one that was taken away has none
abbrev pub shown_names : List Hyp → List (List ℕ)
shown_names [] = []
shown_names (h ∷ hs) = with_shown h.name (shown_names hs)
