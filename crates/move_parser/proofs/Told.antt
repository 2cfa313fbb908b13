-- What is said of the answer to a move's tokens is one value.
use Rattle.std.proofs.Common.{◌≡◌, Result, Ok, Err}
use Rattle.base_core.specs.declared.refusals.Stop.{Stop}
use Rattle.base_core.specs.declared.refusals.Stop.TheVariants as stop
use Rattle.base_core.specs.Answers.{Gives}
use Rattle.coq_syntax.specs.Tokens.{Tokens}
use Rattle.coq_syntax.specs.MoveTrees.{Move}
use Rattle.coq_syntax.specs.Moves.{IsMoveOf, move_fault}
use Rattle.coq_syntax.specs.MeetsWhole.{OneMoveAnswer}
use Rattle.coq_syntax.specs.Answers.{IsMoveParsed}
use Rattle.coq_syntax.proofs.OneRefusal.{one_whole_answer}
use Rattle.coq_syntax.proofs.Told.{gives_told}
use Rattle.move_parser.specs.Parts.{IsTail}
use Rattle.move_parser.specs.WholeMove.{whole_move}
use Rattle.move_parser.specs.Sentences.{read_move}
use Rattle.move_parser.proofs.OneMove.{one_move}
use Rattle.move_parser.proofs.MoveLaw.{moves_meet}

pub one_move_answer : OneMoveAnswer
one_move_answer = one_whole_answer IsMoveOf move_fault one_move

pub move_given : (tokens : Tokens) (r : Result Move Stop) → IsMoveParsed tokens r → Gives r (read_move tokens)
move_given tokens r h = gives_told IsMoveOf move_fault one_move tokens (whole_move tokens.items) (moves_meet tokens.items) r h

module _ {C : Type 0} (view : C → Move) (tokens : Tokens) where
  refused_parsed : (e : Stop) → IsTail IsMoveOf move_fault view tokens 0 (Err e) → IsMoveParsed tokens (Err e)
  refused_parsed (stop.Refused r) h = h
  refused_parsed (stop.Out limit) h = h
  refused_parsed stop.NoMem h = h

  pub move_refused : (y e : Stop) (r : Result Move Stop) → r ≡ Err y → y ≡ e → IsTail IsMoveOf move_fault view tokens 0 (Err e) → Gives r (read_move tokens)
  move_refused y e r is same h = rw (is, same) (move_given tokens (Err e) (refused_parsed e h))

  pub move_made : (c : C) (m : Move) → m ≡ view c → IsTail IsMoveOf move_fault view tokens 0 (Ok c) → Gives (Ok m) (read_move tokens)
  move_made c m is h = rw is (move_given tokens (Ok (view c)) h)
