use Rattle.std.proofs.Common.{refl, rules}
use Rattle.core_term.specs.declared.sorts.Sort.TheVariants.{PropSort}
use Rattle.cic_rules.proofs.PlaceLaws.{may_assume}
use Rattle.kernel_tests.proofs.rules.assume.Goals as goal

pub with_entry-requires : goal.with_entry-requires
with_entry-requires c = may_assume _ _ PropSort (search rules) (search rules) refl (search rules)
