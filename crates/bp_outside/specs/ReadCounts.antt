-- Counts of what a source couldn't read.
use Rattle.bp_outside.specs.Counts.{risen}
use Rattle.bp_outside.specs.declared.counts.ReadCounts.{ReadCounts}
use Rattle.bp_outside.specs.declared.refusals.ReadRefusal.{ReadRefusal}
use Rattle.bp_outside.specs.declared.refusals.ReadRefusal.TheVariants.{Absent, TooLong, Failed, OutOfMemory}

-- the counts after a refusal
abbrev pub counts_raised : ReadCounts → ReadRefusal → ReadCounts
counts_raised counts Absent = record counts { absences = risen counts.absences }
counts_raised counts TooLong = record counts { overlong = risen counts.overlong }
counts_raised counts Failed = record counts { faults = risen counts.faults }
counts_raised counts OutOfMemory = counts
