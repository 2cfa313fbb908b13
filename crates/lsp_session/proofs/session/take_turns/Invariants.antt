use Rattle.std.proofs.Common.{◌≡◌, ◌≤◌, length, []}
use Rattle.lsp_session.specs.Rules.{counted, counting}
use Rattle.lsp_session.specs.Run.{Going}
use Rattle.lsp_session.specs.Calls.{weight}
use Rattle.lsp_session.specs.Serves.{Plays}
use Rattle.lsp_session.proofs.session.take_turns.Given as goal

abbrev pub invariant-loop-taken : goal.invariant-loop-taken
invariant-loop-taken g l = let m = g.M.Machine in let s = g.S.Sink in let k = g.L.Link in record {
  plays : Plays (counting m.rules) l.limit (Going (counted (m.plain l.fn.machine) l.fn.steps) [] 0 (s.written l.fn.out)) (Going (counted (m.plain l.machine) l.steps) l.reader.bytes l.taken (s.written l.out)) (k.polls l.fn.link) (k.polls l.link);
  within : l.taken ≤ l.limit;
  calm : s.faults l.out ≡ s.faults l.fn.out;
  polled : k.faults l.link ≡ k.faults l.fn.link;
}

abbrev pub decreases-loop-taken : goal.decreases-loop-taken
decreases-loop-taken g l = weight l.limit l.taken (length l.reader.bytes) (g.M.Machine.left l.machine)
