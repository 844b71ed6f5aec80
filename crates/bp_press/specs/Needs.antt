-- What pressing a volume needs of the production and the matter.
use Rattle.std.specs.Prelude.{◌≡◌, ℕ, ◌+◌, ◌≤◌, ◌<◌, ◌^◌, ◌==◌, IsTrue, List, length, slice_index, All}
use Rattle.std.specs.List.{filter, flat_map}
use Rattle.bp_bates.specs.Spans.{largest_of}
use Rattle.bp_load.specs.Dat.{is_writable}
use Rattle.bp_load.specs.Opt.{are_opt_lines}
use Rattle.bp_load.specs.Table.{is_even}
use Rattle.bp_matter.specs.Matter.{Matter}
use Rattle.bp_matter.specs.declared.rows.Item.{Item}
use Rattle.bp_matter.specs.declared.rows.Production.{Production}
use Rattle.bp_freeze.specs.Log.{CanBeLogged}
use Rattle.bp_freeze.specs.Selecting.{first_of_items, last_of_items}
use Rattle.bp_press.specs.LoadFiles.{dat_table, family_of, opt_lines}
use Rattle.bp_press.specs.Pressing.{CanAllBePlaced, image_total}
use Rattle.bp_press.specs.Volume.{placed_items}

-- a number that has a label of the width
pub record IsLabelled (width number : ℕ) : Type 0 where
  pub from : 1 ≤ number
  pub to : number ≤ largest_of width

-- what the DAT's row of an item needs
pub record CanBeListed (f : Production) (i : Item) : Type 0 where
  pub first : IsLabelled f.request.prefix.width i.span.first
  pub last : IsLabelled f.request.prefix.width i.span.last
  pub family_first : IsLabelled f.request.prefix.width (first_of_items (family_of f i))
  pub family_last : IsLabelled f.request.prefix.width (last_of_items (family_of f i))

-- the number of the first document of its family is one of so many
abbrev pub IsInFamily : ℕ → Item → Type 0
IsInFamily documents i = i.parent.0 ≤ documents

-- lists that have the first and the last number of each family at the number of its first document
pub record AreFamilyNumbers (f : Production) (documents : ℕ) (firsts lasts : List ℕ) : Type 0 where
  pub many_firsts : length firsts ≡ documents + 1
  pub many_lasts : length lasts ≡ documents + 1
  pub first : (p : ℕ) → p ≤ documents
      → slice_index firsts p ≡ first_of_items (filter (λ other. other.parent.0 == p) f.items)
  pub last : (p : ℕ) → p ≤ documents
      → slice_index lasts p ≡ last_of_items (filter (λ other. other.parent.0 == p) f.items)

-- what the files of a volume need
pub record CanBePressed (f : Production) (m : Matter) : Type 0 where
  pub placed : CanAllBePlaced f m 0 f.items
  pub listed : All (CanBeListed f) f.items
  pub families : All (IsInFamily (length m.docs)) f.items
  pub even : IsTrue (is_even (dat_table f (placed_items f m)))
  pub writable : IsTrue (is_writable (dat_table f (placed_items f m)))
  pub lines : IsTrue (are_opt_lines (flat_map (opt_lines f.request) (placed_items f m)))
  pub logged : CanBeLogged f
  pub documents : length m.docs < 2 ^ 32
  pub files : image_total f m f.items + length f.items + 4 < 2 ^ 32
