use Rattle.std.proofs.Common.{◌<◌, length, slice_set, refl, subst, sym}
use Rattle.sched_core.proofs.Kept.{holds_renewed}
use Rattle.sched_core.proofs.Made.{seen_at}
use Rattle.sched_core.proofs.sched.Sched.restart.Goals as goal

pub invariant_of-self : goal.invariant_of-self
invariant_of-self g c =
    let items = c.self.inside.documents.items in
    let within = subst (λ s. c.args.place < length s.documents) (sym c.self.view_is) c.requires.within in
    holds_renewed g.P.Prover.meaning g.P.Prover.means c.self.inside.table items (slice_set items c.args.place c.replace.new.self) c.args.place _ c.args.new.doc.encoding c.args.new.doc.text
    c.index_mut.result.now c.replace.new.self c.replace.result c.self.invariant within (seen_at items items c.args.place c.index_mut.result.now refl within c.index_mut.ensures.value)
    c.replace.ensures.new c.replace.ensures.unchanged c.text-text.ensures.short refl
