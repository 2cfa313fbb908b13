use Rattle.std.proofs.Common.{rules}
use Rattle.move_elim.proofs.InstanceLaws.{under_product}
use Rattle.move_elim.proofs.instances.+products.Goals as goal

pub over_product-hypothesis-requires : goal.over_product-hypothesis-requires
over_product-hypothesis-requires t c = (
  search rules,
  under_product c.args.globals c.args.c.now c.args.site.now c.in_ok-inner.inner c.args.x c.in_ok-deeper.deeper c.args.name.now c.args.domain.now
      c.args.codomain.now c.in_ok-inner.ensures c.requires.site c.requires.claim c.in_ok-deeper.ensures c.requires.few c.requires.room,
)
