use Rattle.std.proofs.Common.{◌≡◌, ◌<◌, length, slice_set, refl, subst, sym}
use Rattle.doc_check.specs.Check.{views}
use Rattle.sched_core.specs.Session.{document_in}
use Rattle.sched_core.specs.Coming.{Carries}
use Rattle.sched_core.specs.Work.{spent_on}
use Rattle.sched_core.proofs.Kept.{holds_moved, stands_at}
use Rattle.sched_core.proofs.Made.{seen_at, at_made, at_work}
use Rattle.sched_core.proofs.sched.Sched.spend_at.Goals as goal

pub spend-requires : goal.spend-requires
spend-requires g c =
    let p = g.P.Prover in
    let items = c.self.inside.documents.items in
    let within = subst (λ s. c.args.place < length s.documents) (sym c.self.view_is) c.requires in
    let seen = seen_at items items c.args.place c.index_mut.result.now refl within c.index_mut.ensures.value in
    record { stands = stands_at p.meaning p.means c.self.inside.table items c.args.place c.index_mut.result.now c.self.invariant within seen }

pub invariant_of-self : goal.invariant_of-self
invariant_of-self g c =
    let p = g.P.Prover in
    let items = c.self.inside.documents.items in
    let within = subst (λ s. c.args.place < length s.documents) (sym c.self.view_is) c.requires in
    let seen : c.index_mut.result.now ≡ document_in items c.args.place = seen_at items items c.args.place c.index_mut.result.now refl within c.index_mut.ensures.value in
    holds_moved p.meaning p.means c.self.inside.table c.spend.new.table items (slice_set items c.args.place c.spend.new.self) c.args.place c.spend.new.self c.self.invariant within
    (subst (λ d. Carries p.meaning p.means c.self.inside.table c.spend.new.table d.check c.spend.new.self.check) seen c.spend.ensures.carries) refl

pub returns-clause-spent : goal.returns-clause-spent
returns-clause-spent g c =
    let items = c.self.inside.documents.items in
    let within = subst (λ s. c.args.place < length s.documents) (sym c.self.view_is) c.requires in
    let seen = seen_at items items c.args.place c.index_mut.result.now refl within c.index_mut.ensures.value in
    at_made c.spend.result (λ d held. spent_on (views g.P.Prover.means) c.args.units d held) _ c.args.self.now c.args.place c.index_mut.result.now c.spend.new.self _ c.self.view_is seen c.spend.ensures.comes

pub returns-clause-work : goal.returns-clause-work
returns-clause-work g c =
    let items = c.self.inside.documents.items in
    let within = subst (λ s. c.args.place < length s.documents) (sym c.self.view_is) c.requires in
    let seen = seen_at items items c.args.place c.index_mut.result.now refl within c.index_mut.ensures.value in
    at_work c.spend.result (λ d held. spent_on (views g.P.Prover.means) c.args.units d held) _ c.args.self.now c.args.place c.index_mut.result.now c.args.steps.now c.spend.new.steps c.self.view_is seen c.spend.ensures.work
