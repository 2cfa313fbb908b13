use Rattle.std.specs.Prelude.{◌+◌, ◌*◌}
use Rattle.cic_rules.specs.Fuel.{calls_left}
use Rattle.matching.proofs.matches.+matching.Given as goal

abbrev pub decreases-matches : goal.decreases-matches
decreases-matches g l = calls_left l.fuel.now * 10

abbrev pub decreases-match_begun : goal.decreases-match_begun
decreases-match_begun g l = calls_left l.fuel.now * 10 + 9

abbrev pub decreases-match_inside : goal.decreases-match_inside
decreases-match_inside g l = calls_left l.fuel.now * 10 + 8

abbrev pub decreases-match_nodes : goal.decreases-match_nodes
decreases-match_nodes g l = calls_left l.fuel.now * 10 + 7

abbrev pub decreases-match_let : goal.decreases-match_let
decreases-match_let g l = calls_left l.fuel.now * 10 + 6

abbrev pub decreases-match_binder : goal.decreases-match_binder
decreases-match_binder g l = calls_left l.fuel.now * 10 + 5

abbrev pub decreases-match_under : goal.decreases-match_under
decreases-match_under g l = calls_left l.fuel.now * 10 + 4

abbrev pub decreases-match_pair : goal.decreases-match_pair
decreases-match_pair g l = calls_left l.fuel.now * 10 + 4
