use Rattle.std.proofs.Common.{ap, ◌∙◌}
use Rattle.bp_t6.specs.Gathered.{AreShort}
use Rattle.bp_t6.proofs.CodeLemmas.{mode_codes_short}
use Rattle.bp_t6.proofs.tables.CodeTables.mode_table.Goals as goal

pub returns-clause-short : goal.returns-clause-short
returns-clause-short c = ap AreShort c.args.self.now.modes_is ∙ mode_codes_short
