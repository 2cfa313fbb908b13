-- What is said of the answer to a token list is one value.
use Rattle.std.proofs.Common.{◌≡◌, ℕ, ◌-◌, ◌≤◌, inl, inr, Result, Ok, Err, List, ◌++◌, length, take, drop, length-drop, append_assoc, sym, ◌∙◌, ap, arith}
use Rattle.std.proofs.lemmas.List.{take-append-drop}
use Rattle.base_core.specs.declared.refusals.Refusal.{Refusal}
use Rattle.base_core.specs.declared.refusals.Stop.{Stop}
use Rattle.base_core.specs.declared.refusals.Stop.TheVariants.{Refused, Out, NoMem}
use Rattle.base_core.specs.Answers.{Gives}
use Rattle.coq_syntax.specs.declared.token.Token.{Token}
use Rattle.coq_syntax.specs.Tokens.{Tokens}
use Rattle.coq_syntax.specs.Trees.{Term}
use Rattle.coq_syntax.specs.CommandTrees.{Command}
use Rattle.coq_syntax.specs.Faults.{Fault}
use Rattle.coq_syntax.specs.Commands.{IsCommandOf, command_fault}
use Rattle.coq_syntax.specs.Refusals.{Outcome}
use Rattle.coq_syntax.specs.Meets.{IsRefused, IsAnswer}
use Rattle.coq_syntax.specs.Answers.{IsCommandParsed, IsPlaceIn, next_place}
use Rattle.coq_syntax.proofs.Told.{gives_told, refusal_is}
use Rattle.vernac_parser.specs.declared.parsing.Parsed.{Parsed}
use Rattle.vernac_parser.specs.Parse.{whole_term}
use Rattle.vernac_parser.specs.ParseCommand.{whole_command, read_command}
use Rattle.vernac_parser.specs.Answers.{IsParsed, term_told, read_term}
use Rattle.vernac_parser.proofs.Answering.{answers_meet}
use Rattle.vernac_parser.proofs.CommandAnswering.{answers_meet as commands_meet}
use Rattle.vernac_parser.proofs.CommandComplete.{one_command}
use Rattle.vernac_parser.proofs.OneAnswer.{one_answer}

pub command_given : (tokens : Tokens) (r : Result Command Stop) → IsCommandParsed tokens r → Gives r (read_command tokens)
command_given tokens r h = gives_told IsCommandOf command_fault one_command tokens (whole_command tokens.items) (commands_meet tokens.items) r h

module _ (tokens : Tokens) (at : ℕ) where
  ok : Term → List Token → Outcome Term
  ok t rest = Ok (t, rest)

  err : Fault → Outcome Term
  err f = Err f

  same : (o : Outcome Term) → IsAnswer (drop at tokens.items) o → o ≡ whole_term (drop at tokens.items)
  same o h = one_answer (drop at tokens.items) o (whole_term (drop at tokens.items)) h (answers_meet (drop at tokens.items))

  parsed : Term → ℕ → Result Parsed Stop
  parsed t next = Ok (record { tree = t; next = next })

  pub term_given : (r : Result Parsed Stop) → IsParsed tokens at r → Gives r (read_term tokens at)
  unfolding ok err parsed
  term_given (Ok p) h =
      let size : p.next ≡ length tokens.items - length (drop p.next tokens.items) = omega (arith, h.0, length-drop p.next tokens.items) in
      ap (parsed p.tree) size ∙ ap (term_told tokens) (same (ok p.tree (drop p.next tokens.items)) h.1)
  term_given (Err (Refused r)) h = ap (λ k. Err (Refused k)) (refusal_is tokens r h.0 h.2) ∙ ap (term_told tokens) (same (err h.0) h.1)
  term_given (Err (Out limit)) h = absurd h
  term_given (Err NoMem) h = tt

-- a refusal of a term stands at a token of the list, or at the period
pub term_place : (tokens : Tokens) (at : ℕ) (r : Refusal) → IsParsed tokens at (Err (Refused r)) → IsPlaceIn tokens r.place
term_place tokens at r h = by h.1
  where
    all : tokens.items ≡ take at tokens.items ++ drop at tokens.items
    all = sym (take-append-drop at tokens.items)

    placed : (used rest : List Token) → drop at tokens.items ≡ used ++ rest → r.place ≡ next_place tokens.period rest → IsPlaceIn tokens r.place
    placed used rest parts is = record {
      used = take at tokens.items ++ used;
      rest = rest;
      parts = all ∙ ap (λ l. take at tokens.items ++ l) parts ∙ sym (append_assoc (take at tokens.items) used rest);
      is = is;
    }

    by : IsRefused (drop at tokens.items) h.0 → IsPlaceIn tokens r.place
    by (inl k) = placed k.1.used h.0.rest k.1.parts h.2.1
    by (inr k) = placed k.used h.0.rest (k.parts ∙ ap (λ l. k.used ++ l) (sym k.place)) h.2.1
