-- The load files of a volume: the DAT with a line an item, and the OPT with a line an image.
use Rattle.std.specs.Prelude.{ℕ, ◌+◌, ◌==◌, false, List, [], ◌∷◌, ◌++◌, length, map, filter, Option, Some, None, if◌then◌else◌}
use Rattle.std.specs.Fmt.{decimal}
use Rattle.std.specs.List.{flat_map, range_with_len}
use Rattle.bp_core.specs.Characters.{reverse_solidus}
use Rattle.bp_core.specs.Review.{basis_code}
use Rattle.bp_core.specs.declared.review.Basis.{Basis}
use Rattle.bp_load.specs.Dat.{dat_text}
use Rattle.bp_load.specs.Opt.{opt_text}
use Rattle.bp_load.specs.Table.{Table}
use Rattle.bp_load.specs.declared.opt.OptLine.{OptLine}
use Rattle.bp_matter.specs.Texts.{columns}
use Rattle.bp_matter.specs.declared.rows.Item.{Item}
use Rattle.bp_matter.specs.declared.rows.Production.{Production}
use Rattle.bp_matter.specs.declared.rows.Request.{Request}
use Rattle.bp_freeze.specs.Log.{label_in}
use Rattle.bp_freeze.specs.Selecting.{first_of_items, last_of_items}
use Rattle.bp_press.specs.Contents.{ground_of, label_count}
use Rattle.bp_press.specs.Files.{Placed}
use Rattle.bp_press.specs.Paths.{image_path, text_path}

-- the items of a family
-- by Concordance DAT, Opticon OPT
abbrev pub family_of : Production → Item → List Item
family_of f i = filter (λ other. other.parent.0 == i.parent.0) f.items

-- the code of a ground, if there is one
-- by Concordance DAT, Opticon OPT
abbrev pub optional_code : Option Basis → List ℕ
optional_code None = []
optional_code (Some basis) = basis_code basis

-- the values of an item in the columns that each DAT has: its first and its last label, those of
-- its family, how many labels it has, what is stamped on it, why it is withheld, and its text
-- by Concordance DAT, Opticon OPT
abbrev pub own_values : Production → Placed → List (List ℕ)
own_values f p =
    let prefix = f.request.prefix in let i = p.item in let family = family_of f i in
    label_in prefix i.span.first ∷ label_in prefix i.span.last
    ∷ label_in prefix (first_of_items family) ∷ label_in prefix (last_of_items family)
    ∷ decimal (label_count i) ∷ i.designation ∷ optional_code (ground_of i.treatment)
    ∷ text_path reverse_solidus f.request p.place i.span.first ∷ []

-- and in the chosen fields
-- by Concordance DAT, Opticon OPT
abbrev pub dat_row : Production → Placed → List (List ℕ)
dat_row f p = own_values f p ++ p.content.values

-- the DAT, as a table and written
-- by Concordance DAT, Opticon OPT
abbrev pub dat_table : Production → List Placed → Table
dat_table f items =
    record { columns = columns ++ f.request.fields; rows = map (dat_row f) items }

-- the bytes of the DAT file
-- by Concordance DAT, Opticon OPT
abbrev pub dat_bytes : Production → List Placed → List ℕ
dat_bytes f items = dat_text (dat_table f items)

-- the line of an image of an item, counted from 0; the first says how many there are
-- by Concordance DAT, Opticon OPT
abbrev pub opt_line : Request → Placed → ℕ → OptLine
opt_line q p k = record {
  image = label_in q.prefix (p.item.span.first + k);
  volume = q.volume;
  path = image_path reverse_solidus q (p.place + k) (p.item.span.first + k);
  doc_break = k == 0;
  folder_break = false;
  box_break = false;
  pages = if k == 0 then decimal (length p.content.images) else [];
}

-- the lines of an item in the OPT file
-- by Concordance DAT, Opticon OPT
abbrev pub opt_lines : Request → Placed → List OptLine
opt_lines q p = map (opt_line q p) (range_with_len 0 (length p.content.images))

-- the OPT
-- by Concordance DAT, Opticon OPT
abbrev pub opt_bytes : Request → List Placed → List ℕ
opt_bytes q items = opt_text (flat_map (opt_lines q) items)
