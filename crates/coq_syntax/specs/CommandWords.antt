-- The words that commands begin with. A sentence whose first token is one of them is a command, and any other a proof move.
use Rattle.std.specs.Prelude.{ℕ, Bool, bytes_eq, codes, if◌then◌else◌, is_some, Option, None, Some, List, [], ◌∷◌}
use denote.Enum.Bare.{sameb}
use Rattle.coq_syntax.specs.declared.token.Token.{Token}
use Rattle.coq_syntax.specs.declared.token.TokenKind.TheVariants.{Identifier}
use Rattle.coq_syntax.specs.contracts.token.TokenKind.{the_type}
use Rattle.coq_syntax.specs.declared.command_words.CommandWord.{CommandWord}
use Rattle.coq_syntax.specs.declared.command_words.CommandWord.TheVariants.{Axiom, Parameter, Definition, Theorem, Lemma, Inductive, Check, Proof, Qed, Defined, Admitted, Abort}

-- how a word is written
abbrev pub word_text : CommandWord → List ℕ
word_text Axiom = codes "Axiom"
word_text Parameter = codes "Parameter"
word_text Definition = codes "Definition"
word_text Theorem = codes "Theorem"
word_text Lemma = codes "Lemma"
word_text Inductive = codes "Inductive"
word_text Check = codes "Check"
word_text Proof = codes "Proof"
word_text Qed = codes "Qed"
word_text Defined = codes "Defined"
word_text Admitted = codes "Admitted"
word_text Abort = codes "Abort"

-- the word that is written so
unfoldable pub word_of_text : List ℕ → Option CommandWord
word_of_text text =
    if bytes_eq text (word_text Axiom) then Some Axiom
    else (if bytes_eq text (word_text Parameter) then Some Parameter
    else (if bytes_eq text (word_text Definition) then Some Definition
    else (if bytes_eq text (word_text Theorem) then Some Theorem
    else (if bytes_eq text (word_text Lemma) then Some Lemma
    else (if bytes_eq text (word_text Inductive) then Some Inductive
    else (if bytes_eq text (word_text Check) then Some Check
    else (if bytes_eq text (word_text Proof) then Some Proof
    else (if bytes_eq text (word_text Qed) then Some Qed
    else (if bytes_eq text (word_text Defined) then Some Defined
    else (if bytes_eq text (word_text Admitted) then Some Admitted
    else (if bytes_eq text (word_text Abort) then Some Abort
    else None)))))))))))

-- the command's word with which the tokens begin
abbrev pub word_at : List Token → Option CommandWord
word_at [] = None
word_at (t ∷ rest) = if sameb the_type t.kind Identifier then word_of_text t.text else None

-- the tokens are a command, if anything
abbrev pub is_command : List Token → Bool
is_command tokens = is_some (word_at tokens)
