use Rattle.std.proofs.Common.{List, Bool, Ok, sym, ap, subst, inr, ◌∙◌}
use Rattle.bp_codes.specs.Bits.{bits_of}
use Rattle.bp_t6.specs.Read.{StripReads}
use Rattle.bp_t6.specs.Strips.{page_of_lines}
use Rattle.bp_t6.proofs.StripLemmas.{strip_long, strip_rows}
use Rattle.bp_t6.proofs.strip_reader.read_strip.Goals as goal

pub of_packed-requires-clause-long : goal.of_packed-requires-clause-long
of_packed-requires-clause-long c = strip_long _ c.args.width c.args.rows _ _ c.new-strip.ensures.items c.in_ok-read_rows.ensures.read

pub returns-clause-read : goal.returns-clause-read
returns-clause-read c =
    let read = c.in_ok-read_rows.ensures.read in
    subst (λ (rows : List (List Bool)). StripReads (bits_of c.args.fill c.args.bytes.now) c.args.width c.args.rows rows)
    (sym (ap (λ p. p.rows) c.of_packed.ensures.value ∙ strip_rows _ c.args.width c.args.rows _ _ c.new-strip.ensures.items read)) read.reads

pub returns-clause-lines : goal.returns-clause-lines
returns-clause-lines c lines allowed reads =
    let read = c.in_ok-read_rows.ensures.read in
    inr (ap Ok (c.of_packed.ensures.value
    ∙ ap (page_of_lines c.args.width c.args.rows)
    (strip_rows _ c.args.width c.args.rows _ _ c.new-strip.ensures.items read ∙ c.reading_law.ensures.read _ c.args.width c.args.rows read.lines lines read.reads reads)))
