-- The first subterm of a goal, in preorder, that a pattern matches.
use Rattle.std.specs.Prelude.{ℕ, ◌+◌, ◌==◌, List, Bool, true, false, Option, Some, None, if◌then◌else◌}
use Rattle.core_term.specs.Tree.{Tree, Var, Sorted, Constant, Prod, Lam, LetIn, App, same_tree}
use Rattle.cic_rules.specs.declared.context.Hyp.{Hyp}
use Rattle.cic_rules.specs.declared.env.Slot.{Slot}
use Rattle.cic_rules.specs.Runs.{Run, ◌>>=◌, pure}
use Rattle.matching.specs.Lowering.{without_binders}
use Rattle.matching.specs.Match.{match_at}
use Rattle.matching.specs.Patterns.{Values, unset_values}
use Rattle.move_rewrite.specs.declared.searching.Found.{Found}

-- a pattern with so many variables, and a term under so many binders: one head, applied to as many arguments. The pattern's own head is
-- none of its variables
abbrev pub same_head : ℕ → ℕ → Tree → Tree → Bool
same_head count binders (App f a) (App g b) = same_head count binders f g
same_head count binders (Var i) (Var j) = i + binders == j + count
same_head count binders (Sorted s) t = same_tree (Sorted s) t
same_head count binders (Constant c) t = same_tree (Constant c) t
same_head count binders (Prod n a b) (Prod m c d) = true
same_head count binders (Lam n a b) (Lam m c d) = true
same_head count binders (LetIn n a t b) (LetIn m c u d) = true
same_head count binders _ _ = false

-- a subterm with the values by which the pattern is it
abbrev pub found_with : Tree → Option Values → Option Found
found_with t None = None
found_with t (Some values) = Some (record { subterm = t; values = values })

-- what was found, or what is found later
abbrev pub or_later : Run (Option Found) → Option Found → Run (Option Found)
or_later later None = later
or_later later (Some x) = pure (Some x)

abbrev pub first_in : Run (Option Found) → Run (Option Found) → Run (Option Found)
first_in run later = do
  found ← run
  or_later later found

module _ (env : List Slot) (calls : ℕ) (ctx : List Hyp) (count : ℕ) (pattern : Tree) where
  -- a subterm that stands outside of all binders
  abbrev pub matched : Option Tree → Run (Option Found)
  matched None = pure None
  matched (Some t) = do
    values ← match_at env calls ctx 0 pattern t (unset_values count)
    pure (found_with t values)

  -- a subterm under so many binders: it must have the pattern's head, and none of the variables that they bind
  abbrev pub tried : ℕ → Tree → Run (Option Found)
  tried binders t = if same_head count binders pattern t then matched (without_binders t binders) else pure None

  -- a term under so many binders, and then its parts from the left
  abbrev pub first_found : ℕ → Tree → Run (Option Found)
  first_found binders (Var i) = first_in (tried binders (Var i)) (pure None)
  first_found binders (Sorted s) = first_in (tried binders (Sorted s)) (pure None)
  first_found binders (Constant c) = first_in (tried binders (Constant c)) (pure None)
  first_found binders (Prod n a b) = first_in (tried binders (Prod n a b)) (first_in (first_found binders a) (first_found (binders + 1) b))
  first_found binders (Lam n a b) = first_in (tried binders (Lam n a b)) (first_in (first_found binders a) (first_found (binders + 1) b))
  first_found binders (LetIn n a t b) =
      first_in (tried binders (LetIn n a t b)) (first_in (first_found binders a) (first_in (first_found binders t) (first_found (binders + 1) b)))
  first_found binders (App f a) = first_in (tried binders (App f a)) (first_in (first_found binders f) (first_found binders a))
