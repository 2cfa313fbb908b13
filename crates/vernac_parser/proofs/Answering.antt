-- The answer to a token list is the one tree, or the leftmost refusal.
use Rattle.std.proofs.Common.{◌≡◌, inl, inr, Some, Ok, Err, List, [], ◌∷◌, ◌++◌, length, refl, sym, ◌∙◌, ap, subst, append-nil}
use Rattle.coq_syntax.specs.declared.token.Token.{Token}
use Rattle.coq_syntax.specs.Trees.{Term}
use Rattle.coq_syntax.specs.Grammar.{IsTermOf}
use Rattle.coq_syntax.specs.Limits.{most_nested}
use Rattle.coq_syntax.specs.Faults.{Fault, term_fault}
use Rattle.coq_syntax.specs.Refusals.{Outcome, unexpected}
use Rattle.vernac_parser.specs.Parse.{Whole, whole_term}
use Rattle.coq_syntax.specs.Refusals.{IsBehind, IsUnexpected, IsLimit, NoTree, AtEnd}
use Rattle.coq_syntax.specs.Meets.{fault_of_term, IsRead, IsRefused, IsAnswer}
use Rattle.vernac_parser.specs.Lawful.{AnswersMeet}
use Rattle.vernac_parser.proofs.Local
use Rattle.vernac_parser.proofs.Farther.{faults_farther}
use Rattle.vernac_parser.proofs.Refused.{is_longest, no_tree, each_limit, faults_behind, Plain}
use Rattle.vernac_parser.proofs.Viable.{Read, Partial, Passed, Why, Answers}
use Rattle.vernac_parser.proofs.Shapes.{Down}
use Rattle.vernac_parser.proofs.ViableNested.{viable_down}

at_end : (rest : List Token) (P : Type 0) → P → AtEnd rest P
at_end [] P h = h
at_end (t ∷ w) P h = tt

met_read : (i : List Token) (t : Term) (rest : List Token) → whole_term i ≡ Ok (t, rest) → Read (Down Whole most_nested) i t rest → IsRead i t rest
met_read i t rest o r = record {
  used = r.word;
  parts = r.parts;
  tree = (r.fits.0, r.spelled [] ∙ append-nil r.word);
  sound = r.sound [];
  each = λ others longer fits assigned. faults_farther i r.word rest t r.parts o others longer fits assigned;
  longest = is_longest i r.word rest r.parts (ap Local.stop o) (subst Plain (sym o) tt);
}

met_unexpected : (i : List Token) (f : Fault) → whole_term i ≡ Err f → (r : Partial (Down Whole most_nested) i f) → f.code ≡ unexpected → ((tail : List Token) → IsBehind (length (r.more ++ tail)) (term_fault r.value tail)) → IsUnexpected IsTermOf fault_of_term i f.rest
met_unexpected i f o r c h = record {
  used = r.used;
  parts = r.parts;
  more = r.more;
  tree = r.value;
  begun = (r.fits.0, r.spelled [] ∙ ap (λ w. r.used ++ w) (append-nil r.more));
  sound = subst (λ w. IsBehind (length w) (term_fault r.value [])) (append-nil r.more) (h []);
  each = faults_behind i r.used f.rest f r.parts o c;
  early = at_end f.rest (NoTree IsTermOf r.used) (no_tree i r.used f.rest f r.parts o refl c);
  longest = is_longest i r.used f.rest r.parts (ap Local.stop o) (subst Plain (sym o) c);
}

met_limit : (i : List Token) (f : Fault) → whole_term i ≡ Err f → (r : Partial (Down Whole most_nested) i f) → Passed (Down Whole most_nested) r.value r.more f → IsLimit IsTermOf fault_of_term i f
met_limit i f o r h =
    let parts : i ≡ r.used ++ h.next ∷ h.after = r.parts ∙ ap (λ w. r.used ++ w) h.place in
    let more : r.more ++ [] ≡ h.next ∷ h.others = append-nil r.more ∙ h.here in
    record {
      used = r.used;
      next = h.next;
      after = h.after;
      parts = parts;
      place = h.place;
      more = h.others;
      tree = r.value;
      begun = (r.fits.0, r.spelled [] ∙ ap (λ w. r.used ++ w) more);
      first = h.is [] ∙ ap (λ w. Some (record { code = f.code; rest = w })) more;
      each = each_limit i r.used h.after h.next f parts o h.place;
    }

met_refused : (i : List Token) (f : Fault) → whole_term i ≡ Err f → (r : Partial (Down Whole most_nested) i f) → Why (Down Whole most_nested) r.value r.more f → IsRefused i f
unfolding met_unexpected
met_refused i f o r (inl h) = inl (h.0, met_unexpected i f o r h.0 h.1, no_tree i r.used f.rest f r.parts o refl h.0)
met_refused i f o r (inr h) = inr (met_limit i f o r h)

met : (i : List Token) (o : Outcome Term) → whole_term i ≡ o → Answers (Down Whole most_nested) i o → IsAnswer i o
unfolding Answers
met i (Ok p) e r = met_read i p.0 p.1 e r
met i (Err f) e r = met_refused i f e r r.why

pub answers_meet : AnswersMeet
answers_meet i = met i (whole_term i) refl (viable_down most_nested Whole i tt)
