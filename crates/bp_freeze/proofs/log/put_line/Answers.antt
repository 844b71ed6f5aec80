use Rattle.bp_freeze.proofs.CsvLemmas.{adds-line, not-by-number}
use Rattle.bp_freeze.proofs.log.put_line.Goals as goal
use Rattle.bp_freeze.proofs.log.put_line.Goals.{in-Ok, in-Err}

pub returns : goal.returns
returns c =
    elim c.match-write_byte_record.branch [
      | in-Ok w ↦ (let done = w.in-Ok.ensures in
          rw w.result-is
          (adds-line _ _ _ c.requires.between c.requires.many c.requires.lines done.setup done.ended done.clean
          (done.bytes c.requires.between.fields c.requires.between.wrote (not-by-number _ c.requires.between))))
      | in-Err w ↦ rw w.result-is tt
    ]
