-- The command of a form, and the move of one.
use Rattle.std.specs.Prelude.{Option, None, Some, List, [], ◌∷◌}
use Rattle.coq_syntax.specs.declared.command.Constructor.{Constructor}
use Rattle.coq_syntax.specs.declared.command.CommandForm.{CommandForm}
use Rattle.coq_syntax.specs.declared.command.CommandForm.TheVariants.{Assume, Define, State, Inductive, Check, Proof, Qed, Defined, Admitted, Aborted}
use Rattle.coq_syntax.specs.declared.moves.PatternCase.{PatternCase}
use Rattle.coq_syntax.specs.declared.moves.Pattern.{Pattern}
use Rattle.coq_syntax.specs.declared.moves.MoveForm.{MoveForm}
use Rattle.coq_syntax.specs.declared.moves.MoveForm.TheVariants.{Intro, Intros, Exact, Apply, Assumption, Split, Left, Right, Reflexivity, Admit, Simpl, Unfold, Destruct, Induction, Rewrite}
use Rattle.coq_syntax.specs.Nodes.{groups_of, annotation_of}
use Rattle.coq_syntax.specs.CommandTrees.{Command}
use Rattle.coq_syntax.specs.CommandTrees as command
use Rattle.coq_syntax.specs.MoveTrees.{Move}
use Rattle.coq_syntax.specs.MoveTrees as move

abbrev pub constructor_of : Constructor → command.Constructor
constructor_of c = record { bar = c.bar; name = c.name; groups = groups_of c.groups.items; annotation = annotation_of c.annotation }

abbrev pub constructors_of : List Constructor → List command.Constructor
constructors_of [] = []
constructors_of (c ∷ cs) = constructor_of c ∷ constructors_of cs

abbrev pub command_of : CommandForm → Command
command_of (Assume word keyword name colon ty) = command.Assume word keyword name colon ty
command_of (Define keyword name groups annotation assign body) = command.Define keyword name (groups_of groups.items) (annotation_of annotation) assign body
command_of (State word keyword name groups colon ty) = command.State word keyword name (groups_of groups.items) colon ty
command_of (Inductive keyword name groups colon arity assign constructors) = command.Inductive keyword name (groups_of groups.items) colon arity assign (constructors_of constructors.items)
command_of (Check keyword term) = command.Check keyword term
command_of (Proof place) = command.Proof place
command_of (Qed place) = command.Qed place
command_of (Defined place) = command.Defined place
command_of (Admitted place) = command.Admitted place
command_of (Aborted place) = command.Aborted place

abbrev pub cases_of : List PatternCase → List move.PatternCase
cases_of [] = []
cases_of (c ∷ cs) = record { bar = c.bar; names = c.names.items } ∷ cases_of cs

abbrev pub pattern_of : Option Pattern → Option move.Pattern
pattern_of None = None
pattern_of (Some p) = Some (record { keyword = p.keyword; opening = p.opening; first = p.first.items; others = cases_of p.others.items; closing = p.closing })

abbrev pub move_of : MoveForm → Move
move_of (Intro keyword name) = move.Intro keyword name
move_of (Intros keyword names) = move.Intros keyword names.items
move_of (Exact keyword term) = move.Exact keyword term
move_of (Apply keyword term) = move.Apply keyword term
move_of (Assumption place) = move.Assumption place
move_of (Split place) = move.Split place
move_of (Left place) = move.Left place
move_of (Right place) = move.Right place
move_of (Reflexivity place) = move.Reflexivity place
move_of (Admit place) = move.Admit place
move_of (Simpl place) = move.Simpl place
move_of (Unfold keyword name) = move.Unfold keyword name
move_of (Destruct keyword name pattern) = move.Destruct keyword name (pattern_of pattern)
move_of (Induction keyword name pattern) = move.Induction keyword name (pattern_of pattern)
move_of (Rewrite keyword direction term) = move.Rewrite keyword direction term
