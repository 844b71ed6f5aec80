-- The check of a volume that was pressed: what names its load files and its manifest, and what the
-- check comes to.
use Rattle.std.specs.Prelude.{◌≤◌, All, List, length, codes, Some}
use Rattle.bp_check.specs.Check.{Operands}
use Rattle.bp_check.specs.declared.checked.Checked.{Checked}
use Rattle.bp_check.specs.declared.files.TheConstants.{FILE_LIMIT}
use Rattle.bp_matter.specs.Matter.{Matter}
use Rattle.bp_matter.specs.declared.rows.Production.{Production}
use Rattle.bp_matter.specs.declared.rows.Request.{Request}
use Rattle.bp_outside.specs.declared.files.FileRow.{FileRow}
use Rattle.bp_press.specs.Paths.{data_path, manifest_path}
use Rattle.bp_press.specs.Pressing.{image_total}
use Rattle.bp_press.specs.Volume.{files_before, placed_items}

-- no file is longer than a check reads
abbrev pub AreShortFiles : List FileRow → Type 0
AreShortFiles files = All (λ row. length row.bytes ≤ FILE_LIMIT) files

-- the DAT, the OPT and the manifest of the volume of a request, by their paths
abbrev pub own_operands : Request → Operands
own_operands q = record {
  dat = data_path q (codes ".DAT");
  opt = data_path q (codes ".OPT");
  manifest = Some (manifest_path q);
}

-- as many documents as items, the images of all items, and as many files as the manifest has lines
abbrev pub own_counts : Production → Matter → Checked
own_counts f m = record {
  documents = length f.items;
  images = image_total f m f.items;
  files = length (files_before f (placed_items f m));
}
