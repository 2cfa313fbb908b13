use Rattle.cic_kernel.proofs.DeclareCalls.{checked_enters}
use Rattle.cic_kernel.proofs.declarations.define_checked.Goals as goal

pub enter-requires : goal.enter-requires
enter-requires c =
    let sorted = rw c.empty-ctx.ensures at c.in_ok-sort.ensures.judged in
    let fits = rw c.empty-ctx.ensures at c.in_ok-checked.ensures.judged in
    checked_enters c.args.env.now c.args.name.now c.args.ty.now c.args.body.now c.args.opaque c.in_ok-kind.kind c.in_ok-sort.sort.used c.in_ok-checked.checked
    c.in_ok-used.used c.requires.new c.in_ok-kind.ensures c.in_ok-used.ensures.all sorted fits
