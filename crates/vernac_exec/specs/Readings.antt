-- What a sentence is read as: by its kind, and where that is plain by its tokens. It takes no units.
use Rattle.std.specs.Prelude.{ℕ, List, length, get_or, Bool, true, false, Result, Ok, Err}
use Rattle.base_core.specs.declared.kind.Kind.{Kind}
use Rattle.base_core.specs.declared.kind.Kind.TheVariants.{Plain, Bullet, BraceOpen, BraceClose, Unfinished}
use Rattle.base_core.specs.declared.refusal_codes.TheConstants as code
use Rattle.base_core.specs.declared.refusals.Place.TheVariants.{Whole}
use Rattle.base_core.specs.declared.refusals.Stop.{Stop}
use Rattle.base_core.specs.declared.refusals.Stop.TheVariants.{Refused}
use Rattle.coq_syntax.specs.CommandTrees as command
use Rattle.coq_syntax.specs.CommandTrees.{Command}
use Rattle.coq_syntax.specs.SentenceTokens.{sentence_tokens}
use Rattle.coq_syntax.specs.Tokens.{Tokens}
use Rattle.move_parser.specs.Sentences.{Sentence, CommandSentence, MoveSentence, read_sentence}
use Rattle.vernac_exec.specs.declared.reading.Reading.{Reading}
use Rattle.vernac_exec.specs.declared.reading.Reading.TheVariants as read

-- a command or a proof move
abbrev pub read_plain : Result Sentence Stop → Result Reading Stop
read_plain (Ok (CommandSentence c)) = Ok (read.Command c)
read_plain (Ok (MoveSentence m)) = Ok (read.Move m)
read_plain (Err stop) = Err stop

abbrev pub read_tokens : Tokens → Result Reading Stop
read_tokens tokens = read_plain (read_sentence tokens)

-- a bullet is its character, and how many of it there are
abbrev pub bullet : List ℕ → Reading
bullet text = read.Bullet (get_or text 0 0) (length text)

unfoldable pub reading : Kind → List ℕ → Result Reading Stop
reading Unfinished text = Err (Refused (record { code = code.UNFINISHED; place = Whole }))
reading Bullet text = Ok (bullet text)
reading BraceOpen text = Ok read.OpenBrace
reading BraceClose text = Ok read.CloseBrace
reading Plain text = read_tokens (sentence_tokens text)

abbrev pub ends_proof : Command → Bool
ends_proof (command.Qed place) = true
ends_proof (command.Defined place) = true
ends_proof _ = false

-- `Qed` or `Defined`
abbrev pub is_end : Reading → Bool
is_end (read.Command c) = ends_proof c
is_end _ = false

abbrev pub is_end_of : Result Reading Stop → Bool
is_end_of (Ok r) = is_end r
is_end_of (Err stop) = false
