use Rattle.bp_tiff.proofs.OneAnswerLemmas.{OneReading, same_answer}
use Rattle.bp_tiff.proofs.SomeAnswerLemmas.{some_answer}
use Rattle.bp_tiff.proofs.laws.one_answer.Goals as goal

pub returns-clause-some : goal.returns-clause-some
returns-clause-some c = some_answer c.some_answer.ensures

pub returns-clause-only : goal.returns-clause-only
returns-clause-only c =
    let strips : OneReading = record {
      one = c.reading_law.ensures.read;
      apart = c.reading_law.ensures.none;
      single = c.reading_law.ensures.one;
    } in same_answer strips
