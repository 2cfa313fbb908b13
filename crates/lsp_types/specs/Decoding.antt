-- Which message the bytes of a body are.
use Rattle.std.specs.Prelude.{◌≡◌, ℕ, if◌then◌else◌, List, Option, None, Some, unwrap_or, Result, Ok, Err}
use Rattle.std.specs.Str.{is_utf8}
use Rattle.serde_json.specs.Data.{Data}
use Rattle.serde_json.specs.Read.{read}
use Rattle.lsp_types.specs.declared.messages.Id.{Id}
use Rattle.lsp_types.specs.declared.messages.Id.TheVariants.{Null}
use Rattle.lsp_types.specs.declared.messages.Incoming.{Incoming}
use Rattle.lsp_types.specs.declared.messages.Incoming.TheVariants as incoming
use Rattle.lsp_types.specs.declared.messages.DecodeFault.{DecodeFault}
use Rattle.lsp_types.specs.declared.messages.DecodeFault.TheVariants.{NotJson, NotRequest, NoMem}
use Rattle.lsp_types.specs.Envelope.{is_message, message_id, method_of}
use Rattle.lsp_types.specs.Requests.{request}
use Rattle.lsp_types.specs.Notifications.{note}

-- a message without a method is a response; one with a method is a request where it has an id
abbrev pub classified : Option (List ℕ) → Option Id → Data → Result Incoming DecodeFault
classified None id message = Ok incoming.Reply
classified (Some name) (Some id) message = request name id message
classified (Some name) None message = Ok (incoming.Note (note name message))

-- the message that a value is
abbrev pub message_of : Data → Result Incoming DecodeFault
message_of d = if is_message d then classified (method_of d) (message_id d) d else Err (NotRequest (unwrap_or (message_id d) Null))

-- the value that a body is: a text in UTF-8, of JSON that nests at most 127 deep
abbrev pub value_of : List ℕ → Option Data
value_of body = if is_utf8 body then read body else None

-- the message of a body that has this value, if any
abbrev pub found_message : Option Data → Result Incoming DecodeFault
found_message None = Err NotJson
found_message (Some d) = message_of d

-- the message that a body is
abbrev pub decoded : List ℕ → Result Incoming DecodeFault
decoded body = found_message (value_of body)

-- an answer is the one that is due, unless memory ran out
abbrev pub Answers : Result Incoming DecodeFault → Result Incoming DecodeFault → Type 0
Answers due (Err NoMem) = Unit {0}
Answers due given = given ≡ due
