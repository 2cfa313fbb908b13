-- Terms put under more binders. Each variable of a term means one of the binders above, which is kept by its level: how many binders
-- stand above it.
use Rattle.std.specs.Prelude.{ℕ, zero, suc, ◌+◌, ◌-◌, List, [], ◌∷◌, slice_set}
use Rattle.core_term.specs.Tree.{Tree, Var}
use Rattle.term_spine.specs.Instantiate.{instantiate, instantiate_all}
use Rattle.move_elim.specs.declared.sites.Site.{Site}

-- the variable of the binder at a level, below so many binders
abbrev pub variable_at : ℕ → ℕ → Tree
variable_at depth level = Var (depth - 1 - level)

-- the variables of binders at these levels
abbrev pub values_at : ℕ → List ℕ → List Tree
values_at depth [] = []
values_at depth (l ∷ ls) = variable_at depth l ∷ values_at depth ls

abbrev pub site_values : Site → List Tree
site_values s = values_at s.depth s.levels

-- a term, and terms, at a site
abbrev pub placed : Site → Tree → Tree
placed s t = instantiate (site_values s) t

abbrev pub placed_all : Site → List Tree → List Tree
placed_all s ts = instantiate_all (site_values s) ts

-- the levels of a context's own hypotheses, the newest first
abbrev pub levels_of : ℕ → List ℕ
levels_of zero = []
levels_of (suc n) = n ∷ levels_of n

-- where the context itself stands
abbrev pub own_site : ℕ → Site
own_site n = record { levels = levels_of n; depth = n }

-- below a further binder, which a new variable means
abbrev pub with_variable : Site → Site
with_variable s = record { levels = s.depth ∷ s.levels; depth = s.depth + 1 }

-- .. which no variable means
abbrev pub with_binder : Site → Site
with_binder s = record { levels = s.levels; depth = s.depth + 1 }

-- .. which a variable of the term means from here on
abbrev pub stand_for : ℕ → Site → Site
stand_for i s = record { levels = slice_set s.levels i s.depth; depth = s.depth + 1 }

-- below a binder for each of these variables
abbrev pub stand_for_all : List ℕ → Site → Site
stand_for_all [] s = s
stand_for_all (i ∷ is) s = stand_for_all is (stand_for i s)
