-- What the words ask for is what is done.
use Rattle.std.proofs.Common.{◌≡◌, ℕ, inl, inr, Bool, Option, None, Some, Result, Ok, Err, List, [], append-nil, refl, sym, ap, subst, ◌∙◌}
use Rattle.base_core.specs.declared.writing.Halt.{Halt}
use Rattle.base_core.specs.declared.writing.Halt.TheVariants.{NoMem, SinkFailed}
use Rattle.prover_iface.specs.Meanings.{Meanings}
use Rattle.doc_check.specs.Check.{whole_cost}
use Rattle.doc_gen.specs.Generated.{generated}
use Rattle.fleche_main.specs.Words.{Asked, asked, Form, NoForm, Documents, Generated, Session, form_by}
use Rattle.fleche_main.specs.Generated.{generated_lines, Tells, WorksWithin, IsGenerated, end_status}

abbrev asked_count : Form → ℕ
asked_count NoForm = 0
asked_count (Documents a) = 0
asked_count (Generated count) = count
asked_count (Session paced) = 0

-- the number that is made is the one that is asked for
pub same_count : (session : Option Bool) (number : Option ℕ) (documents : Option Asked) (count wanted : ℕ) → session ≡ None → number ≡ Some count → form_by session number documents ≡ Generated wanted → count ≡ wanted
same_count session number documents count wanted e f asks =
    sym (ap asked_count (ap (λ s. form_by s number documents) e ∙ ap (λ n. form_by None n documents) f)) ∙ ap asked_count asks

abbrev asked_files : Form → Asked
asked_files NoForm = asked []
asked_files (Documents a) = a
asked_files (Generated count) = asked []
asked_files (Session paced) = asked []

-- and so are the files that are checked
pub same_files : (session : Option Bool) (number : Option ℕ) (documents : Option Asked) (a wanted : Asked) → session ≡ None → number ≡ None → documents ≡ Some a → form_by session number documents ≡ Documents wanted → a ≡ wanted
same_files session number documents a wanted e f d asks =
    sym (ap asked_files (ap (λ s. form_by s number documents) e ∙ ap (λ n. form_by None n documents) f ∙ ap (form_by None None) d)) ∙ ap asked_files asks

by_end : {M T : Type 0} (means : Meanings M) (number before after : ℕ) (end : Result T Halt) (old new : Option (List ℕ)) → Tells (generated_lines means number) end old new → WorksWithin (whole_cost means (generated number)) before after → IsGenerated means number (end_status end) before after old new
by_end means number before after (Ok t) old new told works = record {
  status_is = inr (inr refl);
  whole = λ _ _. told;
  begun = record { begun = generated_lines means number; left = []; parts = sym (append-nil (generated_lines means number)); grown = told };
  work = works;
}
by_end means number before after (Err NoMem) old new told works = record { status_is = inl refl; whole = λ memory _. absurd (memory refl); begun = told; work = works }
by_end means number before after (Err SinkFailed) old new told works = record { status_is = inr (inl refl); whole = λ _ sink. absurd (sink refl); begun = told; work = works }

-- what is told of the document that was made is told of the one that was asked for
pub generated_told : {M T : Type 0} (means : Meanings M) (number wanted before after status : ℕ) (end : Result T Halt) (old new : Option (List ℕ)) → number ≡ wanted → status ≡ end_status end → Tells (generated_lines means number) end old new → WorksWithin (whole_cost means (generated number)) before after → IsGenerated means wanted status before after old new
generated_told means number wanted before after status end old new e f told works =
    subst (λ n. IsGenerated means n status before after old new) e (subst (λ s. IsGenerated means number s before after old new) (sym f) (by_end means number before after end old new told works))
