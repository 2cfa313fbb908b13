-- What the call on a term answers, with the places of refusals.
use Rattle.std.specs.Prelude.{◌≡◌, ℕ, ◌-◌, ◌≤◌, drop, length, Result, Ok, Err, List}
use Rattle.base_core.specs.declared.refusals.Stop.{Stop}
use Rattle.base_core.specs.declared.refusals.Stop.TheVariants.{Refused, Out, NoMem}
use Rattle.coq_syntax.specs.Tokens.{Tokens}
use Rattle.coq_syntax.specs.Faults.{Fault}
use Rattle.coq_syntax.specs.Trees.{Term}
use Rattle.coq_syntax.specs.Refusals.{Outcome}
use Rattle.coq_syntax.specs.Meets.{IsRead, IsRefused}
use Rattle.coq_syntax.specs.Answers.{IsRefusal, refusal}
use Rattle.vernac_parser.specs.Parse.{whole_term}
use Rattle.vernac_parser.specs.declared.parsing.Parsed.{Parsed}

-- a term was read from a place of the list, up to another; or no term stands there
abbrev pub IsParsed : Tokens → ℕ → Result Parsed Stop → Type 0
IsParsed tokens at (Ok parsed) = (parsed.next ≤ length tokens.items) × IsRead (drop at tokens.items) parsed.tree (drop parsed.next tokens.items)
IsParsed tokens at (Err (Refused r)) = (f : Fault) × IsRefused (drop at tokens.items) f × IsRefusal tokens r f
IsParsed tokens at (Err (Out limit)) = ⊥
IsParsed tokens at (Err NoMem) = Unit {0}

-- the outcome of a term, as it is told to callers
abbrev pub term_told : Tokens → Outcome Term → Result Parsed Stop
term_told tokens (Ok p) = Ok (record { tree = p.0; next = length tokens.items - length p.1 })
term_told tokens (Err f) = Err (Refused (refusal tokens f))

-- the term from a place of the list on and the place behind it, or the leftmost refusal with its place
abbrev pub read_term : Tokens → ℕ → Result Parsed Stop
read_term tokens at = term_told tokens (whole_term (drop at tokens.items))
