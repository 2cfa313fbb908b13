-- Laws of spines, instantiation and globals, for the proofs above.
use Rattle.std.specs.Prelude.{◌≡◌, ℕ, ◌+◌, ◌^◌, ◌≤◌, max, List, [], ◌∷◌, length}
use Rattle.core_term.specs.Tree.{Tree, size_of, depth_of, free_bound, IsNumbered}
use Rattle.term_spine.specs.Spine.{head_of, arguments_of, apply_all, IsHead, arguments_size, arguments_depth}
use Rattle.term_spine.specs.Instantiate.{instantiate_under}
use Rattle.term_spine.specs.Globals.{has, IsAscending, places_in}

-- a term is its head applied to its arguments, and nothing else is
pub record SpinesAreTerms : Type 0 where
  pub whole : (t : Tree) → apply_all (head_of t) (arguments_of t) ≡ t
  pub is_head : (t : Tree) → IsHead (head_of t)
  pub head : (h : Tree) (args : List Tree) → IsHead h → head_of (apply_all h args) ≡ h
  pub arguments : (h : Tree) (args : List Tree) → IsHead h → arguments_of (apply_all h args) ≡ args
  pub size : (h : Tree) (args : List Tree) → size_of (apply_all h args) ≡ size_of h + arguments_size args
  pub depth : (h : Tree) (args : List Tree) → depth_of (apply_all h args) ≡ max (depth_of h + length args) (arguments_depth args)

-- each of the terms has at most n variables
abbrev pub AreOver : ℕ → List Tree → Type 0
AreOver n [] = Unit {0}
AreOver n (t ∷ ts) = (free_bound t ≤ n) × AreOver n ts

-- none of the terms is deeper
abbrev pub AreShallow : ℕ → List Tree → Type 0
AreShallow d [] = Unit {0}
AreShallow d (t ∷ ts) = (depth_of t ≤ d) × AreShallow d ts

-- what values for all variables do to a term that stands under some more binders
pub record InstantiationKeeps : Type 0 where
  -- a term without variables of the context is left alone
  pub closed : (values : List Tree) (t : Tree) (binders : ℕ) → free_bound t ≤ binders → instantiate_under values t binders ≡ t
  -- the answer's variables are those of the values
  pub free : (values : List Tree) (t : Tree) (binders n : ℕ) → AreOver n values → free_bound t ≤ length values + binders →
      free_bound (instantiate_under values t binders) ≤ n + binders
  pub depth : (values : List Tree) (t : Tree) (binders d : ℕ) → AreShallow d values → depth_of (instantiate_under values t binders) ≤ depth_of t + d
  -- so `instantiate` may be called where there are few variables
  pub numbered : (values : List Tree) (t : Tree) (binders n d : ℕ) → AreOver n values → AreShallow d values → free_bound t ≤ length values + binders →
      n + binders + depth_of t + d ≤ 2 ^ 32 → IsNumbered (instantiate_under values t binders)

-- the places of a list ascend, and are the places of the list
pub record PlacesAreListed : Type 0 where
  pub ascend : (ps : List ℕ) → IsAscending (places_in ps)
  pub has : (ps : List ℕ) (place : ℕ) → has (places_in ps) place ≡ has ps place
