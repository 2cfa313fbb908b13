-- The bytes of outgoing messages: JSON with no blank, members in ascending order of their names.
use Rattle.std.specs.Prelude.{ℕ, ℤ, negsuc, List, ◌++◌, codes}
use Rattle.std.specs.Fmt.{signed_decimal}
use Rattle.serde_json.specs.Data.{Data, null, number, string, object, member, no_members}
use Rattle.serde_json.specs.Find.{of_integer}
use Rattle.serde_json.specs.Written.{compact_text}
use Rattle.lsp_types.specs.declared.messages.Id.{Id}
use Rattle.lsp_types.specs.declared.messages.Id.TheVariants.{Number, Word, Null}
use Rattle.lsp_types.specs.declared.error_codes.ErrorCode.{ErrorCode}
use Rattle.lsp_types.specs.declared.error_codes.ErrorCode.TheVariants.{ParseError, InvalidRequest, MethodNotFound, InvalidParams, ServerNotInitialized, RequestCancelled, ContentModified, TooManyWaiting}

-- an id as it is written
abbrev pub id_text : Id → List ℕ
id_text (Number n) = signed_decimal n
id_text (Word word) = compact_text (string word)
id_text Null = codes "null"

-- the answer to a request
abbrev pub result_body : Id → Data → List ℕ
result_body id x = codes "{\"id\":" ++ (id_text id ++ (codes ",\"jsonrpc\":\"2.0\",\"result\":" ++ (compact_text x ++ codes "}")))

-- the number of each error (JSON-RPC 2.0, "Error object"; LSP 3.17, "ErrorCodes")
abbrev pub error_number : ErrorCode → ℤ
error_number ParseError = negsuc 32699
error_number InvalidRequest = negsuc 32599
error_number MethodNotFound = negsuc 32600
error_number InvalidParams = negsuc 32601
error_number ServerNotInitialized = negsuc 32001
error_number RequestCancelled = negsuc 32799
error_number ContentModified = negsuc 32800
error_number TooManyWaiting = negsuc 32802

-- the text of each error
abbrev pub error_message : ErrorCode → List ℕ
error_message ParseError = codes "parse error"
error_message InvalidRequest = codes "invalid request"
error_message MethodNotFound = codes "method not found"
error_message InvalidParams = codes "invalid params"
error_message ServerNotInitialized = codes "server not initialized"
error_message RequestCancelled = codes "request cancelled"
error_message ContentModified = codes "content modified"
error_message TooManyWaiting = codes "too many waiting requests"

-- the refusal of a request
abbrev pub error_body : Id → ErrorCode → List ℕ
error_body id error = codes "{\"error\":{\"code\":" ++ (signed_decimal (error_number error) ++ (codes ",\"message\":" ++ (compact_text (string (error_message error)) ++ (codes "},\"id\":" ++ (id_text id ++ codes ",\"jsonrpc\":\"2.0\"}")))))

-- a notification
abbrev pub note_body : List ℕ → Data → List ℕ
note_body method params = codes "{\"jsonrpc\":\"2.0\",\"method\":" ++ (compact_text (string method) ++ (codes ",\"params\":" ++ (compact_text params ++ codes "}")))

-- an id as a JSON value
abbrev pub id_data : Id → Data
id_data (Number n) = number (of_integer n)
id_data (Word word) = string word
id_data Null = null

-- the answer to a request, as a JSON value
abbrev pub result_data : Id → Data → Data
result_data id x = object (member (codes "id") (id_data id) (member (codes "jsonrpc") (string (codes "2.0")) (member (codes "result") x no_members)))

-- an error as a JSON value
abbrev pub error_object : ErrorCode → Data
error_object error = object (member (codes "code") (number (of_integer (error_number error))) (member (codes "message") (string (error_message error)) no_members))

-- the refusal of a request, as a JSON value
abbrev pub error_data : Id → ErrorCode → Data
error_data id error = object (member (codes "error") (error_object error) (member (codes "id") (id_data id) (member (codes "jsonrpc") (string (codes "2.0")) no_members)))

-- a notification, as a JSON value
abbrev pub note_data : List ℕ → Data → Data
note_data method params = object (member (codes "jsonrpc") (string (codes "2.0")) (member (codes "method") (string method) (member (codes "params") params no_members)))
