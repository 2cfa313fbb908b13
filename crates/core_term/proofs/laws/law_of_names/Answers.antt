use Rattle.core_term.proofs.Unnamed.{same_tree-unnamed, unnamed-same_tree, unnamed-lifted, unnamed-substituted, unnamed-size, unnamed-depth, unnamed-bound}
use Rattle.core_term.proofs.laws.law_of_names.Goals as goal

pub returns : goal.returns
returns c = record {
  equal = same_tree-unnamed;
  same = unnamed-same_tree;
  lift = unnamed-lifted;
  subst = unnamed-substituted;
  size = unnamed-size;
  depth = unnamed-depth;
  bound = unnamed-bound;
}
