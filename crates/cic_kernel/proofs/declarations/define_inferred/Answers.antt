use Rattle.cic_kernel.proofs.DeclareCalls.{inferred_enters}
use Rattle.cic_kernel.proofs.declarations.define_inferred.Goals as goal

pub enter-requires : goal.enter-requires
enter-requires c =
    let found = rw c.empty-ctx.ensures at c.in_ok-found.ensures.judged in
    let sorted = rw c.empty-ctx.ensures at c.in_ok-sort.ensures.judged in
    inferred_enters c.args.env.now c.args.name.now c.in_ok-found.found.ty c.args.body.now c.args.opaque c.in_ok-kind.kind c.in_ok-found.found.used
    c.in_ok-sort.sort.used c.in_ok-used.used c.requires.new c.in_ok-kind.ensures c.in_ok-used.ensures.all found.judged sorted
