use Rattle.std.proofs.Common.{rules, string_bytes}
use Rattle.doc_gen.proofs.Lengths.{made_short}
use Rattle.doc_gen.proofs.generating.generate.Goals as goal

pub returns-clause-short : goal.returns-clause-short
returns-clause-short c = made_short c.from_string.result (string_bytes c.loop-number.text) c.args.count (search rules) (search rules) c.requires
