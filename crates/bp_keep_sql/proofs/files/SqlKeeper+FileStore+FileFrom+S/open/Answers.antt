use Rattle.sqlite_wal.specs.Files.{image_at}
use Rattle.sqlite.specs.Files.{file_state}
use Rattle.bp_keep_sql.proofs.FileLemmas.{tells_of}
use Rattle.bp_keep_sql.proofs.files.SqlKeeper+FileStore+FileFrom+S.open.Goals as goal

pub returns-in-Ok-clause-told : goal.returns-in-Ok-clause-told
returns-in-Ok-clause-told g c = rw c.over.ensures λ clean.
    let opened = c.in-Ok.ensures.opened clean in
    tells_of (image_at g.S.Start) (file_state c.in-Ok.conn) clean opened.0 opened.1
    (c.in-Ok.ensures.found clean)

pub returns-in-Ok-clause-sums : goal.returns-in-Ok-clause-sums
returns-in-Ok-clause-sums g c = rw c.over.ensures c.in-Ok.ensures.sums
