-- The answer to a token list is the one command, or the leftmost refusal.
use Rattle.std.proofs.Common.{◌≡◌, inl, inr, None, Some, Ok, Err, List, [], ◌∷◌, ◌++◌, length, refl, sym, ◌∙◌, ap, subst, append-nil}
use Rattle.coq_syntax.specs.declared.token.Token.{Token}
use Rattle.coq_syntax.specs.CommandTrees.{Command}
use Rattle.coq_syntax.specs.Faults.{Fault}
use Rattle.coq_syntax.specs.Commands.{IsCommandOf, command_fault}
use Rattle.coq_syntax.specs.Refusals.{Outcome, unexpected}
use Rattle.vernac_parser.specs.ParseCommand.{whole_command}
use Rattle.coq_syntax.specs.Refusals.{IsBehind, IsUnexpected, IsLimit, NoTree, AtEnd}
use Rattle.coq_syntax.specs.MeetsWhole.{IsRefusedWhole, IsWholeAnswer}
use Rattle.vernac_parser.specs.Lawful.{CommandAnswersMeet}
use Rattle.vernac_parser.proofs.Viable.{Read, Partial, Passed, Why, Answers}
use Rattle.vernac_parser.proofs.CommandFaults.{spelled_alone, command_faults, plain, fault_alone}
use Rattle.vernac_parser.proofs.CommandRefused.{is_longest, no_command_at_end, each_limit, faults_behind}
use Rattle.vernac_parser.proofs.ViableCommands.{WholeCommand, viable_command}

at_end : (rest : List Token) (P : Type 0) → (rest ≡ [] → P) → AtEnd rest P
at_end [] P h = h refl
at_end (t ∷ w) P h = tt

met_read : (i : List Token) (c : Command) (rest : List Token) → Read WholeCommand i c rest → (rest ≡ []) × IsCommandOf i c × (command_fault c ≡ None)
met_read i c rest r = (
  r.end,
  (r.fits, sym (spelled_alone c) ∙ r.spelled [] ∙ ap (λ w. r.word ++ w) (sym r.end) ∙ sym r.parts),
  sym (fault_alone c) ∙ r.sound [],
)

met_unexpected : (i : List Token) (f : Fault) → whole_command i ≡ Err f → (r : Partial WholeCommand i f) → f.code ≡ unexpected → ((tail : List Token) → IsBehind (length (r.more ++ tail)) (command_faults plain r.value tail)) → IsUnexpected IsCommandOf command_fault i f.rest
met_unexpected i f o r c h = record {
  used = r.used;
  parts = r.parts;
  more = r.more;
  tree = r.value;
  begun = (r.fits, sym (spelled_alone r.value) ∙ r.spelled [] ∙ ap (λ w. r.used ++ w) (append-nil r.more));
  sound = subst (λ w. IsBehind (length w) (command_fault r.value)) (append-nil r.more) (subst (IsBehind (length (r.more ++ []))) (fault_alone r.value) (h []));
  each = faults_behind i r.used f.rest f r.parts o c;
  longest = is_longest i r.used f.rest f r.parts o refl c;
  early = at_end f.rest (NoTree IsCommandOf r.used) (λ e. no_command_at_end i r.used f (r.parts ∙ ap (λ w. r.used ++ w) e) o c);
}

met_limit : (i : List Token) (f : Fault) → whole_command i ≡ Err f → (r : Partial WholeCommand i f) → Passed WholeCommand r.value r.more f → IsLimit IsCommandOf command_fault i f
met_limit i f o r h =
    let parts : i ≡ r.used ++ h.next ∷ h.after = r.parts ∙ ap (λ w. r.used ++ w) h.place in
    let more : r.more ++ [] ≡ h.next ∷ h.others = append-nil r.more ∙ h.here in
    record {
      used = r.used;
      next = h.next;
      after = h.after;
      parts = parts;
      place = h.place;
      more = h.others;
      tree = r.value;
      begun = (r.fits, sym (spelled_alone r.value) ∙ r.spelled [] ∙ ap (λ w. r.used ++ w) more);
      first = sym (fault_alone r.value) ∙ h.is [] ∙ ap (λ w. Some (record { code = f.code; rest = w })) more;
      each = each_limit i r.used h.after h.next f parts o h.place;
    }

met_refused : (i : List Token) (f : Fault) → whole_command i ≡ Err f → (r : Partial WholeCommand i f) → Why WholeCommand r.value r.more f → IsRefusedWhole IsCommandOf command_fault i f
met_refused i f o r (inl h) = inl (h.0, met_unexpected i f o r h.0 h.1)
met_refused i f o r (inr h) = inr (met_limit i f o r h)

met : (i : List Token) (o : Outcome Command) → whole_command i ≡ o → Answers WholeCommand i o → IsWholeAnswer IsCommandOf command_fault i o
unfolding Answers
met i (Ok p) e r = met_read i p.0 p.1 r
met i (Err f) e r = met_refused i f e r r.why

pub answers_meet : CommandAnswersMeet
answers_meet i = met i (whole_command i) refl (viable_command i)
