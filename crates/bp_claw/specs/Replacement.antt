-- The replacement of a production after a notice (FRCP 26(b)(5)(B)): the volume, under another name, of
-- the same items under the same labels, in which the documents that the notice names are withheld.
use Rattle.std.specs.Prelude.{ℕ, List, [], map, Option, Some, None}
use Rattle.bp_core.specs.declared.review.Treatment.TheVariants.{Withhold}
use Rattle.bp_outside.specs.declared.files.FileRow.{FileRow}
use Rattle.bp_matter.specs.Matter.{Matter}
use Rattle.bp_matter.specs.declared.rows.Item.{Item}
use Rattle.bp_matter.specs.declared.rows.Production.{Production}
use Rattle.bp_press.specs.Volume.{volume_of}
use Rattle.bp_claw.specs.Claims.{claim_for}
use Rattle.bp_claw.specs.declared.notices.Claim.{Claim}

-- an item that a claim names: it is withheld on the ground that is claimed, with the claim's entry and
-- nothing of it shown; its labels, its family and its designation stay
-- by FRCP 26(b)(5)(B)
abbrev pub claimed : Claim → Item → Item
claimed claim i =
    record i {
      treatment = Withhold claim.basis;
      boxes = [];
      held = [];
      entry = Some claim.entry;
    }

-- an item that no claim names stays
-- by FRCP 26(b)(5)(B)
abbrev pub replaced_by : Option Claim → Item → Item
replaced_by None i = i
replaced_by (Some claim) i = claimed claim i

-- an item after a notice
-- by FRCP 26(b)(5)(B)
abbrev pub replaced_item : List Claim → Item → Item
replaced_item notice i = replaced_by (claim_for notice i.doc.0) i

-- the production with another name of its volume
-- by FRCP 26(b)(5)(B)
abbrev pub renamed : Production → List ℕ → Production
renamed f volume = record f { request = record f.request { volume = volume } }

-- the production after a notice
-- by FRCP 26(b)(5)(B)
abbrev pub replaced : Production → List Claim → List ℕ → Production
replaced f notice volume =
    record (renamed f volume) { items = map (replaced_item notice) f.items }

-- ReplacementOf: the files of the replacement
-- by FRCP 26(b)(5)(B)
unfoldable pub replacement_of : Production → List Claim → List ℕ → Matter → List FileRow
replacement_of f notice volume m = volume_of (replaced f notice volume) m
