use Rattle.std.proofs.Common.{◌≡◌, ◌<◌, length, slice_set, refl, subst, sym}
use Rattle.doc_check.specs.Check.{views}
use Rattle.sched_core.specs.Session.{document_in}
use Rattle.sched_core.specs.Coming.{Carries}
use Rattle.sched_core.specs.Work.{ran_on}
use Rattle.sched_core.proofs.Kept.{holds_moved, stands_at}
use Rattle.sched_core.proofs.Made.{seen_at, at_made, at_work}
use Rattle.sched_core.proofs.sched.Sched.run_next_at.Goals as goal

pub run_next-requires : goal.run_next-requires
run_next-requires g c =
    let p = g.P.Prover in
    let items = c.self.inside.documents.items in
    let within = subst (λ s. c.args.place < length s.documents) (sym c.self.view_is) c.requires in
    let seen = seen_at items items c.args.place c.index_mut.result.now refl within c.index_mut.ensures.value in
    record { stands = stands_at p.meaning p.means c.self.inside.table items c.args.place c.index_mut.result.now c.self.invariant within seen }

pub invariant_of-self : goal.invariant_of-self
invariant_of-self g c =
    let p = g.P.Prover in
    let items = c.self.inside.documents.items in
    let within = subst (λ s. c.args.place < length s.documents) (sym c.self.view_is) c.requires in
    let seen : c.index_mut.result.now ≡ document_in items c.args.place = seen_at items items c.args.place c.index_mut.result.now refl within c.index_mut.ensures.value in
    holds_moved p.meaning p.means c.self.inside.table c.run_next.new.table items (slice_set items c.args.place c.run_next.new.self) c.args.place c.run_next.new.self c.self.invariant within
    (subst (λ d. Carries p.meaning p.means c.self.inside.table c.run_next.new.table d.check c.run_next.new.self.check) seen c.run_next.ensures.carries) refl

pub returns-clause-ran : goal.returns-clause-ran
returns-clause-ran g c =
    let items = c.self.inside.documents.items in
    let within = subst (λ s. c.args.place < length s.documents) (sym c.self.view_is) c.requires in
    let seen = seen_at items items c.args.place c.index_mut.result.now refl within c.index_mut.ensures.value in
    at_made c.run_next.result (λ d held. ran_on (views g.P.Prover.means) d held) _ c.args.self.now c.args.place c.index_mut.result.now c.run_next.new.self _ c.self.view_is seen c.run_next.ensures.comes

pub returns-clause-work : goal.returns-clause-work
returns-clause-work g c =
    let items = c.self.inside.documents.items in
    let within = subst (λ s. c.args.place < length s.documents) (sym c.self.view_is) c.requires in
    let seen = seen_at items items c.args.place c.index_mut.result.now refl within c.index_mut.ensures.value in
    at_work c.run_next.result (λ d held. ran_on (views g.P.Prover.means) d held) _ c.args.self.now c.args.place c.index_mut.result.now c.args.steps.now c.run_next.new.steps c.self.view_is seen c.run_next.ensures.work
