use Rattle.bp_import.proofs.LawLemmas.{OneTiff, same_batch, some_batch}
use Rattle.bp_import.proofs.laws.one_batch.Goals as goal

pub returns-clause-some : goal.returns-clause-some
returns-clause-some c =
    let tiff : OneTiff = record { some = c.one_answer.ensures.some; only = c.one_answer.ensures.only } in
    some_batch tiff

pub returns-clause-only : goal.returns-clause-only
returns-clause-only c =
    let tiff : OneTiff = record { some = c.one_answer.ensures.some; only = c.one_answer.ensures.only } in
    same_batch tiff
