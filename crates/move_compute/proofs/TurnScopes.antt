-- When a contraction of a spine in scope may be built.
use Rattle.std.specs.Prelude.{◌≡◌, ℕ, ◌≤◌, List, [], ◌∷◌, length, Some}
use Rattle.std.proofs.Common.{ap, sym, ◌∙◌, subst}
use Rattle.core_term.specs.Tree.{Tree}
use Rattle.term_spine.specs.Spine.{arguments_of}
use Rattle.term_spine.specs.SpineLaws.{AreOver}
use Rattle.term_spine.specs.Spines.{IsSpineOf}
use Rattle.term_spine.specs.declared.spines.Spine.{Spine}
use Rattle.cic_rules.specs.declared.env.Slot.{Slot}
use Rattle.cic_rules.specs.Environments.{IsEnvironment}
use Rattle.cic_rules.specs.Scopes.{IsScoped, AreScoped}
use Rattle.cic_rules.proofs.ScopeLaws.{scoped_free, scoped_arguments}
use Rattle.conversion.proofs.ReduceLaws.{scoped_apart}
use Rattle.move_compute.specs.Firing.{chosen_by}
use Rattle.move_compute.specs.Refold.{refold_of}
use Rattle.move_compute.specs.Scopes.{IsChosenOver, MayContract, MayRefold, IsSpineOver, IsTermOver}
use Rattle.move_compute.specs.declared.firing.Chosen.{Chosen}
use Rattle.move_compute.specs.declared.refolds.Refold.{Refold}
use Rattle.move_compute.proofs.RefoldLaws.{args_made}
use Rattle.move_compute.proofs.SimplScopes.{IsChosenIn, chosen_in_scope, refold_scoped}

all_over : (n m : ℕ) (ts : List Tree) → AreScoped n m ts → AreOver n ts
all_over n m [] h = tt
all_over n m (t ∷ ts) h = (scoped_free n m t h.0, all_over n m ts h.1)

chosen_over : (n m : ℕ) (args : List Tree) (c : Chosen) → IsChosenIn n m args c → IsChosenOver n args c
chosen_over n m args c is = record { count = is.count; few = scoped_free c.params m c.ty is.ty; given = all_over n m c.given is.given }

-- the arguments of a value in scope are in scope
value_scoped : (n m : ℕ) (made : Spine) (w : Tree) → IsSpineOf made w → IsScoped n m w → AreScoped n m made.args
value_scoped n m made w of is = subst (AreScoped n m) (args_made made w of) (scoped_arguments n m w is)

pub may_contract : (env : List Slot) → IsEnvironment env → (vars family : ℕ) (s made : Spine) (w : Tree) (c : Chosen) → IsSpineOver env vars s →
    IsTermOver env vars w → IsSpineOf made w → Some c ≡ chosen_by env family s.args made.head made.args → MayContract vars s.head s.args c
may_contract env is vars family s made w c over value of told =
    let apart = scoped_apart vars (length env) s.head s.args over.term in
    let given = value_scoped vars (length env) made w of value.term in
    record {
      room = over.room;
      head_over = scoped_free vars (length env) s.head apart.0;
      args_over = all_over vars (length env) s.args apart.1;
      chosen = chosen_over vars (length env) s.args c (chosen_in_scope env is vars family s.args made.head made.args c given (sym told));
    }

pub may_refold : (env : List Slot) → IsEnvironment env → (vars : ℕ) (r : Refold) (s inner made : Spine) (w : Tree) (c : Chosen) → IsSpineOver env vars s →
    IsTermOver env vars w → refold_of env s.head ≡ Some r → r.count ≤ length s.args → IsSpineOf inner r.eliminator → IsSpineOf made w →
    Some c ≡ chosen_by env r.family inner.args made.head made.args → MayRefold vars r s.head s.args c
may_refold env is vars r s inner made w c over value refold enough in_eliminator of told =
    let apart = scoped_apart vars (length env) s.head s.args over.term in
    let given = value_scoped vars (length env) made w of value.term in
    let scoped = refold_scoped env is s.head r refold in
    let args : arguments_of r.eliminator ≡ inner.args = args_made inner r.eliminator in_eliminator in
    let found : chosen_by env r.family (arguments_of r.eliminator) made.head made.args ≡ Some c =
    ap (λ ts. chosen_by env r.family ts made.head made.args) args ∙ sym told in
    let chosen = chosen_in_scope env is vars r.family (arguments_of r.eliminator) made.head made.args c given found in
    record {
      room = over.room;
      head_over = scoped_free vars (length env) s.head apart.0;
      args_over = all_over vars (length env) s.args apart.1;
      enough = enough;
      eliminator = scoped_free r.count (length env) r.eliminator scoped.eliminator;
      case = scoped_free r.count (length env) c.case (chosen.case r.count (scoped_arguments r.count (length env) r.eliminator scoped.eliminator));
      chosen = chosen_over vars (length env) (arguments_of r.eliminator) c chosen;
    }
