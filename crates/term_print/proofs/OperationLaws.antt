-- Operations, their levels and their operands.
use Rattle.std.proofs.Common.{◌≡◌, ◌≤◌, bytes_eq, ℕ, ◌+◌, List, [], ◌∷◌, codes, Bool, true, false, if◌then◌else◌, refl, ◌∙◌, ap, arith}
use Rattle.core_term.specs.Tree.{Tree, Var, Sorted, Constant, Prod, Lam, LetIn, App, size_of}
use Rattle.cic_rules.specs.declared.env.Slot.{Slot}
use Rattle.term_spine.specs.Spine.{IsHead, arguments_size}
use Rattle.term_print.specs.declared.operations.Operation.{Operation}
use Rattle.term_print.specs.declared.operations.Operation.TheVariants.{Plain, Negation, Conjunction, Disjunction, Equation}
use Rattle.term_print.specs.Show.{global_name}
use Rattle.term_print.specs.Named.{show, show_all, is_named}
use Rattle.term_print.specs.Pieces.{Piece, piece, applied, operation}
use Rattle.term_print.specs.Operations.{operation_of, written, operands_size, applied_level, operation_level, spine_level}

written_if : (b : Bool) (env : List Slot) (name : List ℕ) (args : List Tree) (names : List (List ℕ)) (o p : Operation) →
    (if b then written env name args names o else written env name args names p) ≡ written env name args names (if b then o else p)
written_if true env name args names o p = refl
written_if false env name args names o p = refl

pub operation_written : (env : List Slot) (name : List ℕ) (args : List Tree) (names : List (List ℕ)) →
    operation name (show_all env args names) ≡ written env name args names (operation_of name args)
operation_written env name [] names = refl
operation_written env name (a ∷ []) names = written_if (bytes_eq name (codes "not")) env name (a ∷ []) names (Negation a) Plain
operation_written env name (a ∷ b ∷ []) names =
    ap (λ p. if bytes_eq name (codes "and") then written env name (a ∷ b ∷ []) names (Conjunction a b) else p)
    (written_if (bytes_eq name (codes "or")) env name (a ∷ b ∷ []) names (Disjunction a b) Plain)
    ∙ written_if (bytes_eq name (codes "and")) env name (a ∷ b ∷ []) names (Conjunction a b) (if bytes_eq name (codes "or") then Disjunction a b else Plain)
operation_written env name (ty ∷ a ∷ b ∷ []) names = written_if (bytes_eq name (codes "eq")) env name (ty ∷ a ∷ b ∷ []) names (Equation a b) Plain
operation_written env name (a ∷ b ∷ c ∷ d ∷ more) names = refl

level_applied : (p : Piece) (env : List Slot) (args : List Tree) (names : List (List ℕ)) →
    (applied p (show_all env args names)).level ≡ applied_level p.level args
level_applied p env [] names = refl
level_applied p env (a ∷ more) names = refl

level_written : (env : List Slot) (name : List ℕ) (args : List Tree) (names : List (List ℕ)) (o : Operation) →
    (written env name args names o).level ≡ operation_level args o
level_written env name args names Plain = level_applied (piece 0 name) env args names
level_written env name args names (Negation a) = refl
level_written env name args names (Conjunction a b) = refl
level_written env name args names (Disjunction a b) = refl
level_written env name args names (Equation a b) = refl

level_if : (b : Bool) (p q : Piece) → (if b then p else q).level ≡ (if b then p.level else q.level)
level_if true p q = refl
level_if false p q = refl

pub level_shown : (env : List Slot) (h : Tree) (args : List Tree) (names : List (List ℕ)) → IsHead h →
    (show env h (show_all env args names) names).level ≡ spine_level env h args
unfolding show
level_shown env (Var i) args names head = level_applied _ env args names
level_shown env (Sorted s) args names head = level_applied _ env args names
level_shown env (Constant c) args names head =
    ap (λ p. p.level) (operation_written env (global_name env c) args names) ∙ level_written env (global_name env c) args names (operation_of (global_name env c) args)
level_shown env (Prod n a b) args names head =
    level_applied _ env args names ∙ ap (λ l. applied_level l args) (level_if (is_named n) _ _)
level_shown env (Lam n a b) args names head = level_applied _ env args names
level_shown env (LetIn n a t b) args names head = level_applied _ env args names
level_shown env (App f a) args names head = absurd head

operands_if : (b : Bool) (o p : Operation) (n : ℕ) → operands_size o ≤ n → operands_size p ≤ n → operands_size (if b then o else p) ≤ n
operands_if true o p n h k = h
operands_if false o p n h k = k

pub operands_small : (name : List ℕ) (args : List Tree) → operands_size (operation_of name args) ≤ arguments_size args
operands_small name [] = omega arith
operands_small name (a ∷ []) = operands_if (bytes_eq name (codes "not")) (Negation a) Plain (1 + size_of a + 0) (omega arith) (omega arith)
operands_small name (a ∷ b ∷ []) =
    operands_if (bytes_eq name (codes "and")) (Conjunction a b) (if bytes_eq name (codes "or") then Disjunction a b else Plain) (1 + size_of a + (1 + size_of b + 0)) (omega arith)
    (operands_if (bytes_eq name (codes "or")) (Disjunction a b) Plain (1 + size_of a + (1 + size_of b + 0)) (omega arith) (omega arith))
operands_small name (ty ∷ a ∷ b ∷ []) =
    operands_if (bytes_eq name (codes "eq")) (Equation a b) Plain (1 + size_of ty + (1 + size_of a + (1 + size_of b + 0))) (omega arith) (omega arith)
operands_small name (a ∷ b ∷ c ∷ d ∷ more) = omega arith
