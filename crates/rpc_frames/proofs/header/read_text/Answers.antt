use Rattle.std.proofs.Common.{arith, length, length-drop, ◌∙◌, ap}
use Rattle.std.specs.List.{prefix_len}
use Rattle.std.proofs.lemmas.List.{take_rest}
use Rattle.rpc_frames.specs.Lines.{is_text}
use Rattle.rpc_frames.proofs.ScanLemmas.{scan_text, text_stops}
use Rattle.rpc_frames.proofs.header.read_text.Goals as goal

pub overflow_add-seen : goal.overflow_add-seen
overflow_add-seen c = omega (arith, length-drop c.args.scan.seen c.args.bytes.now, ap length (take_rest c.args.bytes.now c.args.scan.seen))

pub returns-clause-scan : goal.returns-clause-scan
returns-clause-scan c = scan_text c.args.scan c.args.bytes.now c.text_len.result c.requires (c.text_len.ensures.count ∙ ap (prefix_len is_text) (take_rest c.args.bytes.now c.args.scan.seen))

pub returns-clause-stops : goal.returns-clause-stops
returns-clause-stops c = text_stops c.args.bytes.now c.args.scan.seen c.text_len.result (c.text_len.ensures.count ∙ ap (prefix_len is_text) (take_rest c.args.bytes.now c.args.scan.seen))
