-- Finished sentences that no open document uses are forgotten.
use Rattle.std.specs.Prelude.{ℕ, List}
use Rattle.std.specs.List.{flat_map}
use Rattle.memo_table.specs.Entries.{trimmed}
use Rattle.sched_core.specs.Session.{Document, Session, set_held, held_rows}

-- the numbers of the finished sentences of all documents
abbrev pub numbers_in_use : List Document → List ℕ
numbers_in_use documents = flat_map (λ document. document.check.numbers) documents

-- the entries of these numbers stay, in their order
abbrev pub trim : Session → Session
trim session =
    set_held session.documents (held_rows session.held.given (trimmed (numbers_in_use session.documents) session.held.rows)) session
