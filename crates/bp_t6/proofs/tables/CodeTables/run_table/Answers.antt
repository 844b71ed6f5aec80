use Rattle.std.proofs.Common.{true, false, ap, ◌∙◌}
use Rattle.bp_t6.specs.Gathered.{AreShort}
use Rattle.bp_t6.proofs.CodeLemmas.{run_codes_short}
use Rattle.bp_t6.proofs.tables.CodeTables.run_table.Goals as goal

pub returns-then-is_black-clause-short : goal.returns-then-is_black-clause-short
returns-then-is_black-clause-short c = ap AreShort c.args.self.now.black_is ∙ run_codes_short true

pub returns-else-is_black-clause-short : goal.returns-else-is_black-clause-short
returns-else-is_black-clause-short c = ap AreShort c.args.self.now.white_is ∙ run_codes_short false
