use Rattle.std.proofs.Common.{◌≡◌, true, false, sym}
use Rattle.lsp_types.proofs.Parsed.{value_told, value_none}
use Rattle.lsp_types.proofs.decoding.value_of.Goals as goal

pub returns-in-Ok : goal.returns-in-Ok
returns-in-Ok c = sym (value_told _ _ c.in-Ok.ensures.ok.0 c.in-Ok.ensures.ok.1)

pub returns-else-is_memory : goal.returns-else-is_memory
returns-else-is_memory c = sym (value_none _ (c.in-Err.ensures.err (λ m. let no : false ≡ true = c.if-is_memory.ensures.1 m in cc)))
