-- Names in the types of eliminators.
use Rattle.std.specs.Prelude.{◌≡◌, ℕ, zero, suc, List, [], ◌∷◌, ◌++◌, length, Some, None, slice_get, refl}
use Rattle.std.proofs.Common.{ap, ◌∙◌}
use Rattle.core_term.specs.Tree.{Tree, Var, Sorted, Constant, Prod, Lam, LetIn, App}
use Rattle.term_spine.specs.Spine.{head_of}
use Rattle.cic_rules.specs.declared.env.Slot.{Slot}
use Rattle.cic_rules.specs.declared.families.CheckedInductive.{CheckedInductive}
use Rattle.cic_rules.specs.Environments.{slot_decl, decl_at}
use Rattle.cic_rules.specs.Eliminators.{type_slot, initial_of_type}
use Rattle.fresh_names.specs.Letters.{constant_of, name_of_decl}
use Rattle.inductive_check.specs.Labels.{with_type}

-- declarations
own_at : (env : List Slot) (s : Slot) → slice_get (env ++ (s ∷ [])) (length env) ≡ Some s
own_at [] s = refl
own_at (e ∷ es) s = own_at es s

other_at : (env : List Slot) (s : Slot) (p : ℕ) → (p ≡ length env → ⊥) → slice_get (env ++ (s ∷ [])) p ≡ slice_get env p
other_at [] s zero apart = absurd (apart refl)
other_at [] s (suc p) apart = refl
other_at (e ∷ es) s zero apart = refl
other_at (e ∷ es) s (suc p) apart = other_at es s p (λ q. apart (ap suc q))

pub own_decl : (env : List Slot) (i : CheckedInductive) (p : ℕ) → p ≡ length env → decl_at (with_type env i) p ≡ Some i.decl
own_decl env i p e = ap (λ q. decl_at (with_type env i) q) e ∙ ap slot_decl (own_at env (type_slot i.decl i.used))

pub other_decl : (env : List Slot) (i : CheckedInductive) (p : ℕ) → (p ≡ length env → ⊥) → decl_at (with_type env i) p ≡ decl_at env p
other_decl env i p apart = ap slot_decl (other_at env (type_slot i.decl i.used) p apart)

-- the letter by the head
pub initial_some : (env : List Slot) (a : Tree) (c : ℕ) → constant_of (head_of a) ≡ Some c → initial_of_type env a ≡ name_of_decl (decl_at env c)
initial_some env (App f x) c e = initial_some env f c e
initial_some env (Constant k) c e = let same : k ≡ c = cc in ap (λ p. name_of_decl (decl_at env p)) same
initial_some env (Var _) c e = cc
initial_some env (Sorted _) c e = cc
initial_some env (Prod _ _ _) c e = cc
initial_some env (Lam _ _ _) c e = cc
initial_some env (LetIn _ _ _ _) c e = cc

pub initial_none : (env : List Slot) (a : Tree) → constant_of (head_of a) ≡ None → initial_of_type env a ≡ 72 ∷ []
initial_none env (App f x) e = initial_none env f e
initial_none env (Constant k) e = cc
initial_none env (Var _) e = refl
initial_none env (Sorted _) e = refl
initial_none env (Prod _ _ _) e = refl
initial_none env (Lam _ _ _) e = refl
initial_none env (LetIn _ _ _ _) e = refl
