-- What a global with arguments is written as, before its parts are.
use Rattle.std.specs.Prelude.{bytes_eq, ℕ, ◌+◌, List, [], ◌∷◌, codes, if◌then◌else◌}
use Rattle.core_term.specs.Tree.{Tree, Var, Sorted, Constant, Prod, Lam, LetIn, App, size_of}
use Rattle.cic_rules.specs.declared.env.Slot.{Slot}
use Rattle.term_print.specs.declared.operations.Operation.{Operation}
use Rattle.term_print.specs.declared.operations.Operation.TheVariants.{Plain, Negation, Conjunction, Disjunction, Equation}
use Rattle.term_print.specs.Show.{global_name}
use Rattle.term_print.specs.Named.{show, show_all, is_named}
use Rattle.term_print.specs.Pieces.{Piece, piece, applied, negation, conjunction, disjunction, equation}

-- the operation that a global of this name makes of its arguments
abbrev pub operation_of : List ℕ → List Tree → Operation
operation_of name (a ∷ []) = if bytes_eq name (codes "not") then Negation a else Plain
operation_of name (a ∷ b ∷ []) = if bytes_eq name (codes "and") then Conjunction a b else (if bytes_eq name (codes "or") then Disjunction a b else Plain)
operation_of name (ty ∷ a ∷ b ∷ []) = if bytes_eq name (codes "eq") then Equation a b else Plain
operation_of name args = Plain

-- a global with its arguments, where they make no operation
abbrev pub plain : List Slot → List ℕ → List Tree → List (List ℕ) → Piece
plain env name args names = applied (piece 0 name) (show_all env args names)

-- an operation, written
abbrev pub written : List Slot → List ℕ → List Tree → List (List ℕ) → Operation → Piece
written env name args names Plain = plain env name args names
written env name args names (Negation a) = negation (show env a [] names)
written env name args names (Conjunction a b) = conjunction (show env a [] names) (show env b [] names)
written env name args names (Disjunction a b) = disjunction (show env a [] names) (show env b [] names)
written env name args names (Equation a b) = equation (show env a [] names) (show env b [] names)

-- how many nodes its operands have
abbrev pub operands_size : Operation → ℕ
operands_size Plain = 0
operands_size (Negation a) = size_of a
operands_size (Conjunction a b) = size_of a + size_of b
operands_size (Disjunction a b) = size_of a + size_of b
operands_size (Equation a b) = size_of a + size_of b

-- the level of what is applied to arguments, or of itself where there are none
abbrev pub applied_level : ℕ → List Tree → ℕ
applied_level level [] = level
applied_level level (a ∷ more) = 10

abbrev pub operation_level : List Tree → Operation → ℕ
operation_level args Plain = applied_level 0 args
operation_level args (Negation a) = 75
operation_level args (Conjunction a b) = 80
operation_level args (Disjunction a b) = 85
operation_level args (Equation a b) = 70

abbrev pub constant_level : List Slot → ℕ → List Tree → ℕ
constant_level env place args = operation_level args (operation_of (global_name env place) args)

-- the level of a head with arguments
abbrev pub spine_level : List Slot → Tree → List Tree → ℕ
spine_level env (Var i) args = applied_level 0 args
spine_level env (Sorted s) args = applied_level 0 args
spine_level env (Constant c) args = constant_level env c args
spine_level env (Prod n a b) args = applied_level (if is_named n then 200 else 99) args
spine_level env (Lam n a b) args = applied_level 200 args
spine_level env (LetIn n a t b) args = applied_level 200 args
spine_level env (App f a) args = 10
