use Rattle.std.proofs.Common.{◌≡◌, ◌^◌, ◌<◌, [], ◌∷◌, ◌++◌, length, arith, rules}
use Rattle.std.specs.Prelude.{insert}
use Rattle.std.specs.Cmp.Lexicographic.{slice_cmp}
use Rattle.std.specs.Ordering.{nat_cmp}
use Rattle.cic_rules.specs.Names.{rank_of}
use Rattle.cic_rules.specs.Shapes.{shape_if_any}
use Rattle.cic_rules.specs.Environments.{IsNew, IsSlotAt}
use Rattle.cic_rules.proofs.PlaceLaws.{kept_more}
use Rattle.cic_rules.proofs.env.GlobalEnv.with_slot.Goals as goal

pub invariant_of-result : goal.invariant_of-result
invariant_of-result c =
    let env = c.self.inside.slots in
    let name = c.args.slot.entry.name in
    let slots : c.in_ok-slots.slots ≡ env ++ (c.args.slot ∷ []) = search rules in
    let index : c.in_ok-index.index ≡ insert c.self.inside.index (rank_of (slice_cmp nat_cmp) c.self.inside.index name) (name, length env) = grind arith in
    let room : length env < 2 ^ 31 = search rules in
    let new : IsNew env name = search rules in
    let slot : IsSlotAt (length env) c.args.slot = search rules in
    let shapes : c.in_ok-shapes.shapes ≡ c.self.inside.shapes ++ (shape_if_any (length env) c.args.slot.decl ∷ []) = grind arith in
    rw (slots, index, shapes) (kept_more env c.self.inside.index c.self.inside.shapes c.args.slot c.self.invariant room new slot)
