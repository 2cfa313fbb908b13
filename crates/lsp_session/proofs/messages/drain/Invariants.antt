use Rattle.std.proofs.Common.{◌≡◌, ◌≤◌, ℕ, length}
use Rattle.lsp_session.specs.Rules.{counted, counting}
use Rattle.lsp_session.specs.Calls.{Extends, heard_of, weight_held}
use Rattle.lsp_session.proofs.messages.drain.Given as goal

abbrev pub invariant-loop-last : goal.invariant-loop-last
invariant-loop-last g l = let m = g.M.Machine in let s = g.S.Sink in record {
  goes : (taken : ℕ) → heard_of (counting m.rules) taken (counted (m.plain l.machine) l.steps) l.reader.bytes (s.written l.out) ≡ heard_of (counting m.rules) taken (counted (m.plain l.initial.machine) l.initial.steps) l.initial.reader.bytes (s.written l.initial.out);
  holds : Extends (s.written l.initial.out) (s.written l.out);
  few : weight_held (length l.reader.bytes) (m.left l.machine) ≤ weight_held (length l.initial.reader.bytes) (m.left l.initial.machine);
  calm : s.faults l.out ≡ s.faults l.initial.out;
}

abbrev pub decreases-loop-last : goal.decreases-loop-last
decreases-loop-last g l = length l.reader.bytes
