-- What is known of the outside of the process: whether a file is under way, and the counts.
use Rattle.std.specs.Prelude.{ℕ, Bool, false, None}
use Rattle.bp_outside.specs.Source.{SourceView}
use Rattle.bp_outside.specs.Folder.{FolderView}
use Rattle.bp_outside.specs.Out.{OutView}
use Rattle.bp_outside.specs.Door.{DoorView}
use Rattle.bp_outside.specs.declared.counts.ReadCounts.{ReadCounts}

-- the view of a source that tells its counts alone
abbrev pub untold_source : ReadCounts → SourceView
untold_source counts =
    record {
      files = None;
      faults = counts.faults;
      absences = counts.absences;
      overlong = counts.overlong;
      sure = false;
    }

-- the view of a folder that tells its count, and whether a file is under way
abbrev pub untold_folder : Bool → ℕ → FolderView
untold_folder under_way faults =
    record { files = None; under_way = under_way; faults = faults; sure = false }

-- the view of an out that tells its count alone
abbrev pub untold_out : ℕ → OutView
untold_out faults = record { written = None; faults = faults; sure = false }

-- the view of a door that tells its counts, whether an exchange is under way and whether it was left
abbrev pub untold_door : Bool → Bool → ℕ → ℕ → DoorView
untold_door under_way left faults accepts =
    record {
      exchanges = None;
      under_way = under_way;
      closed = false;
      left = left;
      faults = faults;
      accepts = accepts;
      sure = false;
    }
