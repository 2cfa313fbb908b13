-- What stands behind the word of a proof move, and the move that both make.
use Rattle.std.specs.Prelude.{Option, List}
use Rattle.coq_syntax.specs.declared.words.TokenPlace.{TokenPlace}
use Rattle.coq_syntax.specs.declared.words.Word.{Word}
use Rattle.coq_syntax.specs.declared.moves.Direction.{Direction}
use Rattle.coq_syntax.specs.Trees.{Term}
use Rattle.coq_syntax.specs.MoveTrees.{Pattern, Move}
use Rattle.coq_syntax.specs.MoveTrees as move
use Rattle.move_parser.specs.declared.move_word.MoveWord.{MoveWord}
use Rattle.move_parser.specs.declared.move_word.MoveWord.TheVariants.{Exact, Apply, Rewrite, Plain}
use Rattle.move_parser.specs.declared.move_word.PlainWord.{PlainWord}
use Rattle.move_parser.specs.declared.move_word.PlainWord.TheVariants.{Intro, Intros, Assumption, Split, Left, Right, Reflexivity, Admit, Simpl, Unfold, Destruct, Induction}

-- what stands behind a word
abbrev pub PlainRest : PlainWord → Type 0
PlainRest Intro = Option Word
PlainRest Intros = List Word
PlainRest Assumption = Unit {0}
PlainRest Split = Unit {0}
PlainRest Left = Unit {0}
PlainRest Right = Unit {0}
PlainRest Reflexivity = Unit {0}
PlainRest Admit = Unit {0}
PlainRest Simpl = Unit {0}
PlainRest Unfold = Word
PlainRest Destruct = Word × Option Pattern
PlainRest Induction = Word × Option Pattern

abbrev pub Rest : MoveWord → Type 0
Rest Exact = Term
Rest Apply = Term
Rest Rewrite = Direction × Term
Rest (Plain w) = PlainRest w

abbrev pub build_plain : (w : PlainWord) → TokenPlace → PlainRest w → Move
build_plain Intro p x = move.Intro p x
build_plain Intros p xs = move.Intros p xs
build_plain Assumption p u = move.Assumption p
build_plain Split p u = move.Split p
build_plain Left p u = move.Left p
build_plain Right p u = move.Right p
build_plain Reflexivity p u = move.Reflexivity p
build_plain Admit p u = move.Admit p
build_plain Simpl p u = move.Simpl p
build_plain Unfold p x = move.Unfold p x
build_plain Destruct p s = move.Destruct p s.0 s.1
build_plain Induction p s = move.Induction p s.0 s.1

-- the move of a word at a place, and what stands behind it
abbrev pub build : (w : MoveWord) → TokenPlace → Rest w → Move
build Exact p t = move.Exact p t
build Apply p t = move.Apply p t
build Rewrite p r = move.Rewrite p r.0 r.1
build (Plain w) p r = build_plain w p r
