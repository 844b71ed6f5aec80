-- The manifest of a volume lists each of its files with its digest, and all of them are there.
use Rattle.std.proofs.Common.{◌≡◌, true, Some, Ok, List, [], ◌∷◌, ◌++◌, map, flat_map, append_assoc, encode_utf8_all, refl, sym, ap, ◌∙◌, subst}
use Rattle.std.specs.List.{AllByRecursion, list_all}
use Rattle.std.specs.Str.{all_scalars}
use Rattle.bp_core.specs.Characters.{newline, solidus, space}
use Rattle.bp_core.specs.Paths.{path_in}
use Rattle.bp_outside.specs.Memory.{file_map}
use Rattle.bp_outside.specs.declared.files.FileRow.{FileRow}
use Rattle.bp_matter.specs.declared.rows.Request.{Request}
use Rattle.bp_press.specs.Manifest.{manifest_line}
use Rattle.bp_press.specs.Manifest as pressed
use Rattle.bp_check.specs.Listing.{digest_text}
use Rattle.bp_check.specs.Manifest.{listed_files}
use Rattle.bp_own_volumes.proofs.DigestLemmas.{digest_hex, digest_long}
use Rattle.bp_own_volumes.proofs.HeldLemmas.{IsVolume, stands_read}
use Rattle.bp_own_volumes.proofs.ManifestBackLemmas.{CanBeListed, listed_line, manifest_back, stays_on_line}
use Rattle.bp_own_volumes.proofs.NameLemmas.{steps_named, steps_one_line, steps_scalars}
use Rattle.bp_own_volumes.proofs.ThereLemmas.{CanBeRead, Stands, listed_of}
use Rattle.bp_own_volumes.proofs.VolumePathLemmas.{HasParts}

-- ---- the manifest is read back

line_same : (row : FileRow) → manifest_line row ≡ listed_line (listed_of row)
unfolding manifest_line
line_same row = sym (append_assoc (digest_text row.bytes) (space ∷ space ∷ encode_utf8_all row.path) (newline ∷ []))

lines_same : (rows : List FileRow) → pressed.manifest_of rows ≡ flat_map listed_line (map listed_of rows)
lines_same [] = refl
lines_same (row ∷ rows) =
    ap (λ line. line ++ pressed.manifest_of rows) (line_same row) ∙ ap (λ rest. listed_line (listed_of row) ++ rest) (lines_same rows)

can_be_listed : (row : FileRow) → HasParts row → CanBeListed (listed_of row)
can_be_listed row has =
    let parts = has.0 in
    let is = has.1 in
    let back = sym is.path_is in
    record {
      long = digest_long row.bytes;
      hex = digest_hex row.bytes;
      scalars = subst (λ path. all_scalars path ≡ true) back (steps_scalars solidus parts refl is.steps);
      named = subst (λ path. path_in path ≡ Some path) back (steps_named solidus parts refl is.some is.steps);
      one_line = subst (λ path. list_all stays_on_line (encode_utf8_all path) ≡ true) back (steps_one_line solidus parts refl is.steps);
    }

all_listed : (rows : List FileRow)
    → AllByRecursion HasParts rows
    → AllByRecursion CanBeListed (map listed_of rows)
all_listed [] has = tt
all_listed (row ∷ rows) has = (can_be_listed row has.0, all_listed rows has.1)

pub listing_back : (rows : List FileRow)
    → AllByRecursion HasParts rows
    → listed_files (pressed.manifest_of rows) ≡ Ok (map listed_of rows)
listing_back rows has = ap listed_files (lines_same rows) ∙ manifest_back (map listed_of rows) (all_listed rows has)

-- ---- each file is there

each_stands : (front rows back : List FileRow)
    → AllByRecursion (λ (row : FileRow). Stands (front ++ (rows ++ back)) row.path row.bytes) rows
each_stands front [] back = tt
each_stands front (row ∷ rows) back = (
  record { before = front; after = rows ++ back; there = refl },
  subst (λ all. AllByRecursion (λ (other : FileRow). Stands all other.path other.bytes) rows)
      (append_assoc front (row ∷ []) (rows ++ back)) (each_stands (front ++ row ∷ []) rows back),
)

each_read : (q : Request) (rows before some : List FileRow)
    → IsVolume q rows before
    → AllByRecursion (λ (row : FileRow). Stands rows row.path row.bytes) some
    → AllByRecursion (λ (row : FileRow). CanBeRead (file_map rows) row.path row.bytes) some
each_read q rows before [] is stand = tt
each_read q rows before (row ∷ some) is stand =
    (stands_read q rows before row.path row.bytes is stand.0, each_read q rows before some is stand.1)

pub before_read : (q : Request) (rows before : List FileRow)
    → IsVolume q rows before
    → AllByRecursion (λ (row : FileRow). CanBeRead (file_map rows) row.path row.bytes) before
before_read q rows before is =
    each_read q rows before before is
    (subst (λ all. AllByRecursion (λ (row : FileRow). Stands all row.path row.bytes) before) (sym is.rows_are) (each_stands [] before _))
