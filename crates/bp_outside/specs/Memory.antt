-- The objects in memory. Each is told, and fails at the calls whose numbers it was given.
use Rattle.std.specs.Prelude.{ℕ, Bool, true, not, ◌&&◌, List, [], ◌∷◌, map, Some}
use Rattle.std.specs.List.{list_any}
use Rattle.std.specs.Str.{bytes_eq}
use Rattle.std.specs.FinMap as maps
use Rattle.bp_core.specs.Calls.{is_sure}
use Rattle.bp_outside.specs.Source.{FileMap, SourceView}
use Rattle.bp_outside.specs.Folder.{FolderView}
use Rattle.bp_outside.specs.Out.{OutView}
use Rattle.bp_outside.specs.declared.files.FileRow.{FileRow}
use Rattle.bp_core.specs.declared.calls.Calls.{Calls}
use Rattle.bp_outside.specs.declared.memory.source.MemSource.{MemSource}
use Rattle.bp_outside.specs.declared.memory.folder.MemFolder.{MemFolder}
use Rattle.bp_outside.specs.declared.memory.output.MemOut.{MemOut}

-- no path stands twice
abbrev pub paths_differ : List FileRow → Bool
paths_differ [] = true
paths_differ (row ∷ rows) =
    not (list_any (λ other. bytes_eq other.path row.path) rows) && paths_differ rows

-- files as pairs of path and bytes
abbrev pub path_pairs : List FileRow → List (List ℕ × List ℕ)
path_pairs rows = map (λ row. (row.path, row.bytes)) rows

-- the files as a map from path to bytes
abbrev pub file_map : List FileRow → FileMap
file_map rows = maps.from_entries (path_pairs rows)

-- what is known of a source in memory, its calls, and its files in their order
abbrev pub source_shown : MemSource → SourceView
source_shown source =
    record {
      files = Some (file_map source.files);
      faults = source.counts.faults;
      absences = source.counts.absences;
      overlong = source.counts.overlong;
      sure = is_sure source.calls source.counts.faults;
    }

-- the calls of a source so far
abbrev pub source_calls : MemSource → Calls
source_calls source = source.calls

-- how often it was asked to read
abbrev pub source_reads : MemSource → ℕ
source_reads source = source.calls.made

-- the files of a source in their order
abbrev pub source_files : MemSource → List FileRow
source_files source = source.files

-- what is known of a folder in memory, and its calls
abbrev pub folder_shown : MemFolder → FolderView
folder_shown folder =
    record {
      files = Some folder.files.items;
      under_way = folder.under_way;
      faults = folder.faults;
      sure = is_sure folder.calls folder.faults;
    }

-- the calls of a folder so far
abbrev pub folder_calls : MemFolder → Calls
folder_calls folder = folder.calls

-- what is known of an out in memory, and its calls
abbrev pub out_shown : MemOut → OutView
out_shown out =
    record {
      written = Some out.written;
      faults = out.faults;
      sure = is_sure out.calls out.faults;
    }

-- the calls of an out so far
abbrev pub out_calls : MemOut → Calls
out_calls out = out.calls
