use Rattle.std.proofs.Common.{◌≡◌, ℕ, ◌-◌, List, arith, sym, ◌∙◌, ap, take, drop, length}
use Rattle.std.proofs.lemmas.List.{take_rest}
use Rattle.rpc_frames.specs.Stages.{ending_of, ReadsLine}
use Rattle.rpc_frames.specs.declared.header.Ending.{Ending}
use Rattle.rpc_frames.specs.declared.header.Step.{Step}
use Rattle.rpc_frames.specs.declared.header.Step.TheVariants.{Next, Stay}
use Rattle.rpc_frames.specs.declared.header.Scan.{Scan}
use Rattle.rpc_frames.proofs.ScanLemmas.{scan_short, scan_long, scan_stray, scan_line}
use Rattle.rpc_frames.proofs.header.read_line.Goals as goal

ending : (bytes : List ℕ) (at : ℕ) (e f : Ending) → e ≡ ending_of (take (length bytes - at) (drop at bytes)) → e ≡ f → ending_of (drop at bytes) ≡ f
ending bytes at e f a b = ap ending_of (sym (take_rest bytes at)) ∙ sym a ∙ b

same_line : (step : Step) (a b : Scan) (bytes : List ℕ) → b.line ≡ a.line → ReadsLine step b bytes → ReadsLine step a bytes
same_line (Next next) a b bytes e h = (h.0, omega (arith, e, h.1))
same_line (Stay stage) a b bytes e h = h

pub returns-in-Missing : goal.returns-in-Missing
returns-in-Missing c =
    let scan = c.read_text-scan.result in
    (c.read_text-scan.ensures.scan, scan_short scan c.args.bytes.now c.read_text-scan.ensures.scan (ending c.args.bytes.now scan.seen _ _ c.line_end.ensures c.in-Missing.is) c.if-bytes-lt-HEADER_LIMIT.true)

pub returns-in-Missing-2 : goal.returns-in-Missing-2
returns-in-Missing-2 c =
    let scan = c.read_text-scan.result in
    scan_long scan c.args.bytes.now c.read_text-scan.ensures.scan (ending c.args.bytes.now scan.seen _ _ c.line_end.ensures c.in-Missing.is) c.if-bytes-lt-HEADER_LIMIT.false

pub returns-in-Stray : goal.returns-in-Stray
returns-in-Stray c =
    let scan = c.read_text-scan.result in
    scan_stray scan c.args.bytes.now c.read_text-scan.ensures.scan c.read_text-scan.ensures.stops (ending c.args.bytes.now scan.seen _ _ c.line_end.ensures c.in-Stray.is)

pub returns-in-End : goal.returns-in-End
returns-in-End c =
    let scan = c.read_text-scan.result in
    same_line c.end_line.result c.args.scan scan c.args.bytes.now c.read_text-scan.ensures.line
    (scan_line scan c.args.bytes.now c.end_line.result c.read_text-scan.ensures.scan (ending c.args.bytes.now scan.seen _ _ c.line_end.ensures c.in-End.is) c.end_line.ensures)
