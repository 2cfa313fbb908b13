-- Equations in scope.
use Rattle.std.specs.Prelude.{◌≡◌, ◌==◌, ◌<◌, ℕ, List, length, Bool, true, false, Option, Some, None, refl, if◌then◌else◌, codes}
use Rattle.std.proofs.Common.{subst}
use Rattle.core_term.specs.Tree.{Tree, Constant, App}
use Rattle.cic_rules.specs.declared.context.Hyp.{Hyp}
use Rattle.cic_rules.specs.declared.env.Slot.{Slot}
use Rattle.cic_rules.specs.Environments.{place_in}
use Rattle.cic_rules.specs.Judges.{IsTermIn}
use Rattle.cic_rules.proofs.PlaceLaws.{place_below}
use Rattle.move_basic.specs.declared.equality.Equation.{Equation}
use Rattle.move_basic.specs.Equality.{sides_of, equation_by, equation_of, reflexive}
use Rattle.move_basic.specs.Scopes.{IsEquationIn}

made_by : (env : List Slot) (ctx : List Hyp) (b : Bool) (same : ℕ) (a l r : Tree) (e : Equation) →
    (if b then Some (record { same = same; ty = a; left = l; right = r }) else None) ≡ Some e → same < length env →
    IsTermIn env ctx a → IsTermIn env ctx l → IsTermIn env ctx r → IsEquationIn env ctx e
made_by env ctx true same a l r e is place ty left right =
    let one : record { same = same; ty = a; left = l; right = r } ≡ e = cc in
    subst (IsEquationIn env ctx) one (record { same = place; ty = ty; left = left; right = right })
made_by env ctx false same a l r e is place ty left right = cc

sides_scoped : (env : List Slot) (ctx : List Hyp) (eq same : ℕ) (t : Tree) (e : Equation) → sides_of eq same t ≡ Some e → same < length env →
    IsTermIn env ctx t → IsEquationIn env ctx e
sides_scoped env ctx eq same (App (App (App (Constant c) a) l) r) e is place scoped =
    made_by env ctx (c == eq) same a l r e is place scoped.0.0.1 scoped.0.1 scoped.1
sides_scoped env ctx eq same _ e is place scoped = absurd (cc)

by_places : (env : List Slot) (ctx : List Hyp) (one two three : Option ℕ) (t : Tree) (e : Equation) → equation_by one two three t ≡ Some e →
    ((same : ℕ) → two ≡ Some same → same < length env) → IsTermIn env ctx t → IsEquationIn env ctx e
by_places env ctx (Some eq) (Some same) (Some by) t e is below scoped = sides_scoped env ctx eq same t e is (below same refl) scoped
by_places env ctx None two three t e is below scoped = cc
by_places env ctx (Some eq) None three t e is below scoped = cc
by_places env ctx (Some eq) (Some same) None t e is below scoped = cc

pub equation_scoped : (env : List Slot) (ctx : List Hyp) (t : Tree) (e : Equation) → equation_of env t ≡ Some e → IsTermIn env ctx t → IsEquationIn env ctx e
equation_scoped env ctx t e is scoped =
    by_places env ctx (place_in env (codes "eq")) (place_in env (codes "eq_refl")) (place_in env (codes "eq_ind")) t e is
    (λ same found. place_below env (codes "eq_refl") same found) scoped

pub reflexive_scoped : (env : List Slot) (ctx : List Hyp) (e : Equation) → IsEquationIn env ctx e → IsTermIn env ctx (reflexive e)
reflexive_scoped env ctx e scoped = ((scoped.same, scoped.ty), scoped.left)
