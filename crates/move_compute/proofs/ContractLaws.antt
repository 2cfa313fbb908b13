-- A turn by what was chosen: iota, or a definition that goes on.
use Rattle.std.specs.Prelude.{◌≡◌, ℕ, List, Option, Some, None, Ok, Err, refl}
use Rattle.std.proofs.Common.{ap, sym, ◌∙◌}
use Rattle.base_core.specs.declared.refusals.Stop.{Stop}
use Rattle.base_core.specs.declared.refusals.Stop.TheVariants.{Refused, Out, NoMem}
use Rattle.core_term.specs.Tree.{Tree}
use Rattle.term_spine.specs.Spine.{arguments_of}
use Rattle.term_spine.specs.Spines.{tree_of_spine, IsSpineOf}
use Rattle.term_spine.specs.declared.spines.Spine.{Spine}
use Rattle.cic_rules.specs.declared.env.Slot.{Slot}
use Rattle.cic_rules.specs.declared.shapes.FamilyShape.{FamilyShape}
use Rattle.cic_rules.specs.Families.{eliminator_of, iota}
use Rattle.cic_rules.specs.Reduce.{contract}
use Rattle.cic_rules.specs.Shapes.{shape_at}
use Rattle.conversion.specs.Lookups.{family_if_any}
use Rattle.conversion.specs.Turns.{GoesOn, Turns, iota_turn}
use Rattle.conversion.proofs.FireLaws.{turn_none, turn_some, turn_stop}
use Rattle.move_compute.specs.Firing.{chosen_by, chosen}
use Rattle.move_compute.specs.Refold.{own_eliminator, refolded}
use Rattle.move_compute.specs.Simpl.{paid_refold, contract_refold}
use Rattle.move_compute.specs.Turns.{iota_fired, refold_turn}
use Rattle.move_compute.specs.declared.firing.Chosen.{Chosen}
use Rattle.move_compute.specs.declared.refolds.Refold.{Refold}
use Rattle.move_compute.proofs.IotaLaws.{iota_if_any, iota_chosen}
use Rattle.move_compute.proofs.RefoldLaws.{head_made, args_made}

module _ (env : List Slot) (s : Spine) (w : Tree) (of : ℕ) (family : eliminator_of env s.head ≡ family_if_any env (Some of)) (shape : FamilyShape)
    (told : shape_at env of ≡ Some shape) (m : Spine) (made : IsSpineOf m w) where
  iota_is : (found : Option Chosen) → found ≡ chosen_by env of s.args m.head m.args → iota env s.head s.args w ≡ iota_if_any shape s.head s.args found
  iota_is found e = iota_chosen env s.head s.args w of family shape told m made ∙ ap (iota_if_any shape s.head s.args) (sym e)

  pub iota_none : None ≡ chosen_by env of s.args m.head m.args → (k : ℕ) → Turns (Ok None) k (tree_of_spine s) (iota_turn env w s k)
  iota_none e k = turn_none (tree_of_spine s) (iota env s.head s.args w) k k (iota_is None e) refl

  module _ (c : Chosen) (found : Some c ≡ chosen_by env of s.args m.head m.args) (k l : ℕ) where
    pub iota_some : (next : Spine) → GoesOn (Ok next) k (contract 1 (iota_fired shape s.head s.args c) l) →
        Turns (Ok (Some next)) k (tree_of_spine s) (iota_turn env w s l)
    iota_some next goes =
        turn_some (tree_of_spine s) (iota env s.head s.args w) (iota_fired shape s.head s.args c) next k l (iota_is (Some c) found) goes

    pub iota_stop : (stop : Stop) → GoesOn (Err stop) k (contract 1 (iota_fired shape s.head s.args c) l) → Turns (Err stop) k (tree_of_spine s) (iota_turn env w s l)
    iota_stop stop goes =
        turn_stop (tree_of_spine s) (iota env s.head s.args w) (iota_fired shape s.head s.args c) stop k l (iota_is (Some c) found) goes

-- a turn of a definition that goes on
going : (t head : Tree) (args : List Tree) (r : Refold) (found : Option Chosen) (c : Chosen) (next : Spine) (k l : ℕ) → found ≡ Some c →
    GoesOn (Ok next) k (paid_refold (own_eliminator r head args) (refolded r head args c) l) → Turns (Ok (Some next)) k t (contract_refold t head args r found l)
going t head args r found c next k l some goes = rw some goes

stopping : (t head : Tree) (args : List Tree) (r : Refold) (found : Option Chosen) (c : Chosen) (stop : Stop) (k l : ℕ) → found ≡ Some c →
    GoesOn (Err stop) k (paid_refold (own_eliminator r head args) (refolded r head args c) l) → Turns (Err stop) k t (contract_refold t head args r found l)
stopping t head args r found c (Refused _) k l some goes = absurd goes
stopping t head args r found c NoMem k l some goes = tt
stopping t head args r found c (Out limit) k l some goes = rw some goes

module _ (env : List Slot) (r : Refold) (s : Spine) (w : Tree) (inner made : Spine) (in_eliminator : IsSpineOf inner r.eliminator) (of : IsSpineOf made w) where
  chosen_is : chosen env r.family (arguments_of r.eliminator) w ≡ chosen_by env r.family inner.args made.head made.args
  chosen_is = let one = args_made inner r.eliminator in_eliminator in let two = args_made made w of in let three = head_made made w of in rw (one, two, three) refl

  pub refold_none : None ≡ chosen_by env r.family inner.args made.head made.args → (k : ℕ) → Turns (Ok None) k (tree_of_spine s) (refold_turn env r w s k)
  refold_none e k = let none : chosen env r.family (arguments_of r.eliminator) w ≡ None = chosen_is ∙ sym e in rw none (refl, refl)

  module _ (c : Chosen) (found : Some c ≡ chosen_by env r.family inner.args made.head made.args) (k l : ℕ) where
    pub refold_some : (next : Spine) → GoesOn (Ok next) k (paid_refold (own_eliminator r s.head s.args) (refolded r s.head s.args c) l) →
        Turns (Ok (Some next)) k (tree_of_spine s) (refold_turn env r w s l)
    refold_some next goes = going (tree_of_spine s) s.head s.args r (chosen env r.family (arguments_of r.eliminator) w) c next k l (chosen_is ∙ sym found) goes

    pub refold_stop : (stop : Stop) → GoesOn (Err stop) k (paid_refold (own_eliminator r s.head s.args) (refolded r s.head s.args c) l) →
        Turns (Err stop) k (tree_of_spine s) (refold_turn env r w s l)
    refold_stop stop goes = stopping (tree_of_spine s) s.head s.args r (chosen env r.family (arguments_of r.eliminator) w) c stop k l (chosen_is ∙ sym found) goes
