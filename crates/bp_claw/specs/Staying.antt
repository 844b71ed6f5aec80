-- What a replacement leaves as it was: labels, paths, counts, and what it shows of the documents that
-- the notice doesn't name, with their files.
use Rattle.std.specs.Prelude.{◌≡◌, ℕ, false, List, All, length, map, not}
use Rattle.std.specs.List.{filter, flat_map}
use Rattle.bp_bates.specs.declared.spans.Span.{Span}
use Rattle.bp_matter.specs.Matter.{Matter}
use Rattle.bp_matter.specs.declared.rows.Production.{Production}
use Rattle.bp_press.specs.Contents.{part_of}
use Rattle.bp_press.specs.Files.{Placed, item_files}
use Rattle.bp_press.specs.LoadFiles.{opt_bytes}
use Rattle.bp_press.specs.Volume.{placed_items, volume_of}
use Rattle.bp_claw.specs.Claims.{is_named}
use Rattle.bp_claw.specs.Replacement.{renamed, replaced, replaced_item, replacement_of}
use Rattle.bp_claw.specs.declared.notices.Claim.{Claim}

-- where an item stands in a volume: its labels, and the place and the number of its images
pub record Standing : Type 0 where
  pub span : Span
  pub place : ℕ
  pub images : ℕ

-- where it stands
abbrev pub standing_of : Placed → Standing
standing_of p =
    record { span = p.item.span; place = p.place; images = length p.content.images }

-- the items that the notice doesn't name, each where it stands with all that it shows
abbrev pub others_in : List Claim → List Placed → List Placed
others_in notice ps = filter (λ p. not (is_named notice p.item.doc.0)) ps

-- the bytes of their images and texts in a volume, file by file
abbrev pub bytes_of_others : List Claim → Production → Matter → List (List ℕ)
bytes_of_others notice f m =
    map (λ row. row.bytes) (flat_map (item_files f.request) (others_in notice (placed_items f m)))

-- each item stands where it stood, each path is that of the volume but for the volume's name, the
-- OPT is that of the volume under that name, an item that isn't named shows what it showed, and each
-- of its files has the bytes that it had
pub record StaysInPlace (f : Production) (notice : List Claim) (volume : List ℕ) (m : Matter)
    : Type 0 where
  pub items : map standing_of (placed_items (replaced f notice volume) m)
      ≡ map standing_of (placed_items f m)
  pub paths : map (λ row. row.path) (replacement_of f notice volume m)
      ≡ map (λ row. row.path) (volume_of (renamed f volume) m)
  pub opt : opt_bytes (renamed f volume).request (placed_items (replaced f notice volume) m)
      ≡ opt_bytes (renamed f volume).request (placed_items (renamed f volume) m)
  pub others : All (λ i. is_named notice i.doc.0 ≡ false
      → (part_of (replaced f notice volume) m (replaced_item notice i)).content
      ≡ (part_of f m i).content) f.items
  pub taken : bytes_of_others notice (replaced f notice volume) m ≡ bytes_of_others notice f m
