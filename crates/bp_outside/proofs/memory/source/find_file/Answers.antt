use Rattle.std.proofs.Common.{sym, ◌∙◌}
use Rattle.bp_outside.proofs.FileMapLemmas.{get-first_with, found_at, not_found_at, not_found, same_path, other_path}
use Rattle.bp_outside.proofs.memory.source.find_file.Goals as goal

pub loop-file-init : goal.loop-file-init
loop-file-init c = get-first_with _ _

pub returns-then-eq : goal.returns-then-eq
returns-then-eq c =
    found_at _ _ _ _ c.loop-file-test.true c.file-item.is c.loop-file.invariant
    (same_path _ _ _ c.as_str.ensures.characters (sym c.eq.ensures ∙ c.if-eq.true))

pub loop-file-preserved : goal.loop-file-preserved
loop-file-preserved c =
    not_found_at _ _ _ _ c.loop-file-test.true c.file-item.is c.loop-file.invariant
    (other_path _ _ _ c.utf8.path c.as_str.ensures.bytes (sym c.eq.ensures ∙ c.if-eq.false))

pub returns : goal.returns
returns c = not_found _ _ _ c.loop-file-test.false c.loop-file.invariant
