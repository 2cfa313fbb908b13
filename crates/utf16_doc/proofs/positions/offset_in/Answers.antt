use Rattle.std.proofs.Common.{rules, subst, sym, ◌∙◌, ap, arith}
use Rattle.std.specs.Str.{IsCharBoundary}
use Rattle.utf16_doc.specs.Lines.{content}
use Rattle.utf16_doc.specs.Positions.{run_length}
use Rattle.utf16_doc.proofs.Offsets.{line_start-within, offset_is, offset-boundary, shown_rest}
use Rattle.utf16_doc.proofs.positions.offset_in.Goals as goal

pub slice_bounds-run_length-count : goal.slice_bounds-run_length-count
slice_bounds-run_length-count c = line_start-within c.args.text.now c.args.ends.now _ _ c.requires.lines (omega arith) c.start_of-start.ensures

pub slice_bounds-run_length-start : goal.slice_bounds-run_length-start
slice_bounds-run_length-start c =
    let within = line_start-within c.args.text.now c.args.ends.now _ _ c.requires.lines (omega arith) c.start_of-start.ensures in
    search (rules, within)

pub returns-clause-boundary : goal.returns-clause-boundary
returns-clause-boundary c =
    let within = line_start-within c.args.text.now c.args.ends.now _ _ c.requires.lines (omega arith) c.start_of-start.ensures in
    let is = offset_is c.args.encoding c.args.text.now c.args.ends.now c.args.position c.start_of-start.result c.run_length.result c.requires.lines (omega arith) c.start_of-start.ensures
    (c.run_length.ensures.value ∙ ap (λ t. run_length c.args.encoding c.args.position.character (content t)) (shown_rest c.args.text.now c.start_of-start.result)) in
    subst (IsCharBoundary c.args.text.now) (sym is) (offset-boundary c.args.encoding c.args.text.now c.args.position)
