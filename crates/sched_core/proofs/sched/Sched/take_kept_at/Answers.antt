use Rattle.std.proofs.Common.{◌≡◌, ◌<◌, length, slice_set, refl, subst, sym}
use Rattle.sched_core.specs.Session.{document_in}
use Rattle.sched_core.specs.Coming.{Carries}
use Rattle.sched_core.specs.Done.{take_kept}
use Rattle.sched_core.proofs.Kept.{holds_moved, stands_at}
use Rattle.sched_core.proofs.Made.{seen_at, at_made}
use Rattle.sched_core.proofs.sched.Sched.take_kept_at.Goals as goal

pub take_kept-requires : goal.take_kept-requires
take_kept-requires g c =
    let p = g.P.Prover in
    let items = c.self.inside.documents.items in
    let within = subst (λ s. c.args.place < length s.documents) (sym c.self.view_is) c.requires in
    let seen = seen_at items items c.args.place c.index_mut.result.now refl within c.index_mut.ensures.value in
    record { stands = stands_at p.meaning p.means c.self.inside.table items c.args.place c.index_mut.result.now c.self.invariant within seen }

pub invariant_of-self : goal.invariant_of-self
invariant_of-self g c =
    let p = g.P.Prover in
    let items = c.self.inside.documents.items in
    let within = subst (λ s. c.args.place < length s.documents) (sym c.self.view_is) c.requires in
    let seen : c.index_mut.result.now ≡ document_in items c.args.place = seen_at items items c.args.place c.index_mut.result.now refl within c.index_mut.ensures.value in
    holds_moved p.meaning p.means c.self.inside.table c.take_kept.new.table items (slice_set items c.args.place c.take_kept.new.self) c.args.place c.take_kept.new.self c.self.invariant within
    (subst (λ d. Carries p.meaning p.means c.self.inside.table c.take_kept.new.table d.check c.take_kept.new.self.check) seen c.take_kept.ensures.carries) refl

pub returns : goal.returns
returns g c =
    let items = c.self.inside.documents.items in
    let within = subst (λ s. c.args.place < length s.documents) (sym c.self.view_is) c.requires in
    let seen = seen_at items items c.args.place c.index_mut.result.now refl within c.index_mut.ensures.value in
    at_made c.take_kept.result (λ d held. take_kept d.check held) _ c.args.self.now c.args.place c.index_mut.result.now c.take_kept.new.self _ c.self.view_is seen c.take_kept.ensures.comes
