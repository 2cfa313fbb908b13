-- Sessions by their status, and one that could not begin.
use Rattle.std.proofs.Common.{◌≡◌, ◌≢◌, ◌⊎◌, ℕ, ◌+◌, ◌≤◌, inl, inr, Bool, Option, Some, Result, Ok, Err, List, [], refl, ap, sym, subst, ◌∙◌, arith}
use Rattle.base_core.specs.declared.writing.Halt.{Halt}
use Rattle.base_core.specs.declared.writing.Halt.TheVariants.{NoMem, SinkFailed}
use Rattle.base_core.specs.Writes.{IsCalmWrite}
use Rattle.base_core.specs.Link.{Poll}
use Rattle.base_core.proofs.Begun.{appended-nil}
use Rattle.prover_iface.specs.Meanings.{Meanings}
use Rattle.doc_check.specs.Check.{views}
use Rattle.sched_core.specs.Session.{Session, fresh}
use Rattle.sched_core.specs.declared.events.Exit.TheVariants.{Clean, Early}
use Rattle.lsp_session.specs.declared.endings.Ending.{Ending}
use Rattle.lsp_session.specs.declared.endings.Ending.TheVariants.{Exit, LinkFailed, LinkEnded, FrameFault, TakenLimit}
use Rattle.lsp_session.specs.Rules.{Rules, Counted, counted, counting}
use Rattle.lsp_session.specs.Calls.{IsCalmEnd}
use Rattle.lsp_session.specs.Serves.{ServesFrom, ServesWhole, IsFront}
use Rattle.lsp_session.specs.Status.{status_of, result_status}
use Rattle.lsp_session.specs.Served.{rules, begun, SessionServes}
use Rattle.lsp_session.proofs.Told.{serves_told, whole_told}

not_memory : {n : ℕ} {P : Type 0} → n ≡ 4 → n ≢ 4 → P
not_memory e h = absurd (h e)

-- a session that ends, by its status
pub ends_by_status : {S : Type 0} (r : Rules (Counted S)) (limit : ℕ) (start : Counted S) (result : Result Ending Halt) (status : ℕ) (state : Counted S) (told now : Option (List ℕ)) (old new : Option (List Poll)) → status ≡ result_status result → ServesFrom r limit start result state told now old new → status ≢ 4 → status ≢ 5 → ServesWhole r limit start status state told now old new
ends_by_status r limit start (Ok end) status state told now old new e h a b = record { end = end; is = e; whole = whole_told r limit start end state told now old new h }
ends_by_status r limit start (Err NoMem) status state told now old new e h a b = absurd (a e)
ends_by_status r limit start (Err SinkFailed) status state told now old new e h a b = absurd (b e)

never_broken : {P : Type 0} (end : Ending) → (status_of end ≡ 4) ⊎ (status_of end ≡ 5) → P
never_broken (Exit Clean) (inl e) = absurd (omega (arith, e))
never_broken (Exit Clean) (inr e) = absurd (omega (arith, e))
never_broken (Exit Early) (inl e) = absurd (omega (arith, e))
never_broken (Exit Early) (inr e) = absurd (omega (arith, e))
never_broken LinkFailed (inl e) = absurd (omega (arith, e))
never_broken LinkFailed (inr e) = absurd (omega (arith, e))
never_broken LinkEnded (inl e) = absurd (omega (arith, e))
never_broken LinkEnded (inr e) = absurd (omega (arith, e))
never_broken FrameFault (inl e) = absurd (omega (arith, e))
never_broken FrameFault (inr e) = absurd (omega (arith, e))
never_broken TakenLimit (inl e) = absurd (omega (arith, e))
never_broken TakenLimit (inr e) = absurd (omega (arith, e))

-- and one that is broken off
pub breaks_by_status : {S : Type 0} (r : Rules (Counted S)) (limit : ℕ) (start : Counted S) (result : Result Ending Halt) (status : ℕ) (state : Counted S) (told now : Option (List ℕ)) (old new : Option (List Poll)) → status ≡ result_status result → ServesFrom r limit start result state told now old new → (status ≡ 4) ⊎ (status ≡ 5) → (bytes : List ℕ) → told ≡ Some bytes → IsFront r limit start state.work told now old new
breaks_by_status r limit start (Ok end) status state told now old new e h b = never_broken end (subst (λ n. (n ≡ 4) ⊎ (n ≡ 5)) e b)
breaks_by_status r limit start (Err halt) status state told now old new e h b = serves_told r limit start (Err halt) state told now old new h

-- no poll failed, or no put
pub calm_end : (result : Result Ending Halt) (status old new : ℕ) → status ≡ result_status result → IsCalmEnd result old new → status ≢ 3 → new ≡ old
calm_end (Ok (Exit exit)) status old new e h a = h
calm_end (Ok LinkFailed) status old new e h a = absurd (a e)
calm_end (Ok LinkEnded) status old new e h a = h
calm_end (Ok FrameFault) status old new e h a = h
calm_end (Ok TakenLimit) status old new e h a = h
calm_end (Err halt) status old new e h a = h

pub calm_put : (result : Result Ending Halt) (status old new : ℕ) → status ≡ result_status result → IsCalmWrite result old new → status ≢ 5 → new ≡ old
calm_put (Ok end) status old new e h a = h
calm_put (Err NoMem) status old new e h a = h
calm_put (Err SinkFailed) status old new e h a = absurd (a e)

-- a session of documents, by that of its machine
pub session_serves : {M : Type 0} (means : Meanings M) (paced : Bool) (limit status before mid after : ℕ) (first last : Session) (told now : Option (List ℕ)) (old new : Option (List Poll)) → first ≡ fresh paced → mid ≡ before + means.first_cost → (status ≢ 4 → status ≢ 5 → ServesWhole (counting (rules (views means))) limit (counted first mid) status (counted last after) told now old new) → ((status ≡ 4) ⊎ (status ≡ 5) → (bytes : List ℕ) → told ≡ Some bytes → IsFront (counting (rules (views means))) limit (counted first mid) after told now old new) → SessionServes means paced limit status before after told now old new
session_serves means paced limit status before mid after first last told now old new begins worked whole cut =
    let start : counted first mid ≡ begun paced (before + means.first_cost) = ap (λ s. counted s mid) begins ∙ ap (counted (fresh paced)) worked in
    record {
      whole = λ a b. record { state = last; whole = subst (λ s. ServesWhole (counting (rules (views means))) limit s status (counted last after) told now old new) start (whole a b) };
      cut = λ b bytes e. subst (λ s. IsFront (counting (rules (views means))) limit s after told now old new) start (cut b bytes e);
    }

-- nothing was polled, and nothing written
pub unbegun : {M : Type 0} (means : Meanings M) (paced : Bool) (limit before after : ℕ) (told : Option (List ℕ)) (old : Option (List Poll)) → after ≤ before + means.first_cost → SessionServes means paced limit 4 before after told told old old
unbegun means paced limit before after told old few = record {
  whole = λ a b. absurd (a refl);
  cut = λ b bytes e. record {
    earlier = [];
    last = [];
    few = omega arith;
    grown = sym (appended-nil old);
    held = [];
    more = [];
    rest = [];
    wrote = sym (appended-nil told);
    before = refl;
    ran = (refl, few);
  };
}
