use Rattle.std.proofs.Common.{◌∙◌, ap, ◌++◌}
use Rattle.term_spine.proofs.SpineFacts.{whole_applied, is_head, head_applied, head_is, arguments_applied, no_arguments, size_applied, depth_applied}
use Rattle.term_spine.proofs.laws.law_of_spines.Goals as goal

pub returns : goal.returns
returns c = record {
  whole = whole_applied;
  is_head = is_head;
  head = λ h args is. head_applied h args ∙ head_is h is;
  arguments = λ h args is. arguments_applied h args ∙ ap (λ first. first ++ args) (no_arguments h is);
  size = size_applied;
  depth = depth_applied;
}
