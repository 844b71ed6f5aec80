-- The batch that drawn documents come in.
use Rattle.std.specs.Prelude.{List, [], codes}
use Rattle.sha2.specs.Sha256.{sha256}
use Rattle.bp_matter.specs.Batches.{BatchShown}
use Rattle.bp_matter.specs.declared.batches.BatchDoc.{BatchDoc}

-- it is named `demo`, its digest is that of the empty text, and it has no fields
abbrev pub batch_of : List BatchDoc → BatchShown
batch_of docs =
    record { name = codes "demo"; digest = sha256 []; fields = []; docs = docs }
