-- What is asked of a prover: what is told of a sentence stands in it, and what a state declares is by sentences before.
use Rattle.std.specs.Prelude.{List, All, ◌<◌, fold, length, IfSome}
use Rattle.prover_iface.specs.Sentences.{Sentence}
use Rattle.prover_iface.specs.Laws.{TellsWithin, IsPast}
use Rattle.cic_rules.specs.declared.env.Slot.{Slot}
use Rattle.vernac_exec.specs.Exec.{after, diagnosed}
use Rattle.vernac_exec.specs.Outline.{outline_of}
use Rattle.vernac_exec.specs.States.{over, opened_by}

-- what is told of a sentence stands at whole characters of it
abbrev pub DiagsArePlaced : Type 0
DiagsArePlaced = TellsWithin diagnosed

-- behind so many sentences, from a state before any, each declaration is by one of them
abbrev pub RowsArePast : Type 0
RowsArePast = (env : List Slot) (sentences : List Sentence) → All (IsPast (length sentences)) (outline_of (fold after (over env) sentences))

-- a proof that is under way behind so many sentences was begun by one of them
abbrev pub ProofsArePast : Type 0
ProofsArePast = (env : List Slot) (sentences : List Sentence) → IfSome (opened_by (fold after (over env) sentences).opened) (λ n. n < length sentences)
