-- The outline of a state, as it is shown.
use Rattle.std.specs.Prelude.{ℕ, List, [], map, Option, Some, None}
use Rattle.prover_iface.specs.declared.outline.OutlineItem.{OutlineItem}
use Rattle.core_term.specs.Tree.{Tree}
use Rattle.cic_rules.specs.declared.env.Slot.{Slot}
use Rattle.cic_rules.specs.Environments.{type_of_global}
use Rattle.cic_rules.specs.Grounded.{axioms}
use Rattle.term_print.specs.Show.{printed, global_name, global_names}
use Rattle.vernac_exec.specs.declared.state.Row.{Row}
use Rattle.vernac_exec.specs.declared.state.State.{State}

-- a type without hypotheses, as it is printed; a place without a global has none
abbrev pub statement_text : List Slot → Option Tree → List ℕ
statement_text env None = []
statement_text env (Some ty) = printed env [] ty

-- a row with its name, its type, and the names of the axioms that it rests on
abbrev pub item : List Slot → Row → OutlineItem
item env row = record {
  kind = row.kind;
  name = global_name env row.place;
  statement = statement_text env (type_of_global env row.place);
  axioms = global_names env (axioms env row.place);
  first = row.first;
  last = row.last;
}

abbrev pub outline_of : State → List OutlineItem
outline_of m = map (item m.env) m.outline
