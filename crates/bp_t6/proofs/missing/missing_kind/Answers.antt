use Rattle.std.proofs.Common.{sym, ap, ◌∙◌, Some, drop}
use Rattle.bp_codes.specs.Span.{span_bits}
use Rattle.bp_t6.specs.Faults.{missing_code}
use Rattle.bp_t6.proofs.MissingLemmas.{extension_stands, extension_ends, block_stands, block_ends, neither_stands}
use Rattle.bp_t6.proofs.missing.missing_kind.Goals as goal

pub returns-in-Begins : goal.returns-in-Begins
returns-in-Begins c = extension_stands (drop c.args.at (span_bits c.args.span.now)) c.args.why c.requires.none (sym c.in-Begins.ensures)

pub returns-in-Ends : goal.returns-in-Ends
returns-in-Ends c = extension_ends (drop c.args.at (span_bits c.args.span.now)) c.args.why c.requires.none (sym c.in-Ends.ensures)

pub returns-in-Begins-front_at : goal.returns-in-Begins-front_at
returns-in-Begins-front_at c = block_stands (drop c.args.at (span_bits c.args.span.now)) c.args.why c.requires.none (sym c.in-Differs.ensures) (sym c.in-Begins-front_at.ensures)

pub returns-in-Ends-front_at : goal.returns-in-Ends-front_at
returns-in-Ends-front_at c = block_ends (drop c.args.at (span_bits c.args.span.now)) c.args.why c.requires.none (sym c.in-Differs.ensures) (sym c.in-Ends-front_at.ensures)

pub returns-in-Ends-why : goal.returns-in-Ends-why
returns-in-Ends-why c = neither_stands (drop c.args.at (span_bits c.args.span.now)) c.args.why c.requires.none (sym c.in-Differs.ensures) (sym c.in-Differs-front_at.ensures) ∙ ap (λ w. Some (missing_code w)) c.in-Ends-why.is

pub returns-in-Strange : goal.returns-in-Strange
returns-in-Strange c = neither_stands (drop c.args.at (span_bits c.args.span.now)) c.args.why c.requires.none (sym c.in-Differs.ensures) (sym c.in-Differs-front_at.ensures) ∙ ap (λ w. Some (missing_code w)) c.in-Strange.is
