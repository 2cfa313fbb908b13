-- With which words commands and proof moves begin.
use Rattle.std.proofs.Common.{◌≡◌, true, false, refl}
use Rattle.coq_syntax.specs.declared.command.AssumptionWord.TheVariants.{Axiom, Parameter}
use Rattle.coq_syntax.specs.declared.command.StatementWord.TheVariants.{Theorem, Lemma}
use Rattle.coq_syntax.specs.CommandTrees.{Command, Assume, Define, State, Inductive, Check, Proof, Qed, Defined, Admitted, Aborted}
use Rattle.coq_syntax.specs.MoveTrees.{Move, Intro, Intros, Exact, Apply, Assumption, Split, Left, Right, Reflexivity, Admit, Simpl, Unfold, Destruct, Induction, Rewrite}
use Rattle.coq_syntax.specs.Commands.{command_tokens}
use Rattle.coq_syntax.specs.Moves.{move_tokens}
use Rattle.coq_syntax.specs.CommandWords.{word_of_text, is_command}

pub commands_begin : (c : Command) → is_command (command_tokens c) ≡ true
unfolding word_of_text
commands_begin (Assume Axiom p x q t) = refl
commands_begin (Assume Parameter p x q t) = refl
commands_begin (Define p x gs a q t) = refl
commands_begin (State Theorem p x gs q t) = refl
commands_begin (State Lemma p x gs q t) = refl
commands_begin (Inductive p x gs q t r cs) = refl
commands_begin (Check p t) = refl
commands_begin (Proof p) = refl
commands_begin (Qed p) = refl
commands_begin (Defined p) = refl
commands_begin (Admitted p) = refl
commands_begin (Aborted p) = refl

pub moves_begin : (m : Move) → is_command (move_tokens m) ≡ false
unfolding word_of_text
moves_begin (Intro p x) = refl
moves_begin (Intros p xs) = refl
moves_begin (Exact p t) = refl
moves_begin (Apply p t) = refl
moves_begin (Assumption p) = refl
moves_begin (Split p) = refl
moves_begin (Left p) = refl
moves_begin (Right p) = refl
moves_begin (Reflexivity p) = refl
moves_begin (Admit p) = refl
moves_begin (Simpl p) = refl
moves_begin (Unfold p x) = refl
moves_begin (Destruct p x q) = refl
moves_begin (Induction p x q) = refl
moves_begin (Rewrite p d t) = refl
