-- A definition's body in its place in each part of a term, with a beta step for each argument that the definition has.
use Rattle.std.specs.Prelude.{ℕ, ◌==◌, Bool, true, false, Result, Ok, Err, if◌then◌else◌}
use Rattle.core_term.specs.Answers.{within_limits}
use Rattle.core_term.specs.Places.{subst_of}
use Rattle.core_term.specs.Tree.{Tree, Var, Sorted, Constant, Prod, Lam, LetIn, App}
use Rattle.core_term.specs.declared.stops.TermStop.{TermStop}
use Rattle.move_compute.specs.declared.unfolding.Unfolded.{Unfolded}

-- a step that gives a value, or would make a term that is too large
abbrev pub Making : Type 0 → Type 0
Making A = Result A TermStop

infixl 10 ◌>>=◌
abbrev pub ◌>>=◌ : {A B : Type 0} → Making A → (A → Making B) → Making B
Ok x >>= rest = rest x
Err stop >>= rest = Err stop

-- a term, and whether it stands for the definition with all arguments so far
abbrev pub marked : Bool → Tree → Unfolded
marked stands t = record { term = t; stands = stands }

-- a term that was built, which is measured
abbrev pub built : Bool → Tree → Making Unfolded
built stands t = do
  u ← within_limits t
  Ok (marked stands u)

-- what stands for the definition, where the function does, takes an argument by beta as long as it is an abstraction
abbrev pub applied : Bool → Tree → Tree → Making Unfolded
applied true (Lam n a b) x = built true (subst_of b x 0)
applied stands f x = built false (App f x)

module _ (place : ℕ) (body : Tree) where
  abbrev pub unfolded : Tree → Making Unfolded
  unfolded (Var i) = Ok (marked false (Var i))
  unfolded (Sorted s) = Ok (marked false (Sorted s))
  unfolded (Constant c) = Ok (if c == place then marked true body else marked false (Constant c))
  unfolded (Prod n a b) = do
    x ← unfolded a
    y ← unfolded b
    built false (Prod n x.term y.term)
  unfolded (Lam n a b) = do
    x ← unfolded a
    y ← unfolded b
    built false (Lam n x.term y.term)
  unfolded (LetIn n a t b) = do
    x ← unfolded a
    y ← unfolded t
    z ← unfolded b
    built false (LetIn n x.term y.term z.term)
  unfolded (App f a) = do
    g ← unfolded f
    x ← unfolded a
    applied g.stands g.term x.term
