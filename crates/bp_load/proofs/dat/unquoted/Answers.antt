use Rattle.bp_load.proofs.DatLemmas.{no_front, unquoted_facts, after_quote}
use Rattle.bp_load.proofs.dat.unquoted.Goals as goal

pub returns-in_err-strip_prefix : goal.returns-in_err-strip_prefix
returns-in_err-strip_prefix c =
    let other = rw c.in_err-strip_prefix.was at c.strip_prefix.ensures.cases in
    rw c.from_residual.ensures (no_front c.args.piece.now c.utf8.piece other)

pub returns : goal.returns
returns c =
    let found = c.in_ok-strip_prefix.ensures.cases in
    let inner = c.in_ok-strip_prefix.field-0.now in
    let k = after_quote c.args.piece.now inner found.0 c.utf8.piece found.1 found.2 in
    unquoted_facts c.args.piece.now inner c.strip_suffix.result k.0 k.1 c.strip_suffix.ensures.cases
