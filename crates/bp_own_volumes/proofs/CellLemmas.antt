-- What a row of a volume's DAT says under the columns that a check uses.
use Rattle.std.proofs.Common.{◌≡◌, ℕ, true, List, ◌++◌, refl}
use Rattle.std.proofs.Math.Utf8.{encode}
use Rattle.std.specs.Fmt.{decimal}
use Rattle.std.specs.List.{list_any}
use Rattle.bp_core.specs.Characters.{reverse_solidus}
use Rattle.bp_matter.specs.Texts.{columns}
use Rattle.bp_matter.specs.declared.rows.Production.{Production}
use Rattle.bp_freeze.specs.Log.{label_in}
use Rattle.bp_press.specs.Files.{Placed}
use Rattle.bp_press.specs.Contents.{label_count}
use Rattle.bp_press.specs.LoadFiles.{dat_row}
use Rattle.bp_press.specs.Paths.{text_path}
use Rattle.bp_check.specs.Columns.{is_enddoc, is_pagecount, is_textpath}
use Rattle.bp_load.specs.Documents.{cell_under, is_begdoc}

pub begdoc_cell : (f : Production) (p : Placed)
    → cell_under is_begdoc (columns ++ f.request.fields) (dat_row f p) ≡ label_in f.request.prefix p.item.span.first
unfolding encode
begdoc_cell f p = refl

pub enddoc_cell : (f : Production) (p : Placed)
    → cell_under is_enddoc (columns ++ f.request.fields) (dat_row f p) ≡ label_in f.request.prefix p.item.span.last
unfolding encode
enddoc_cell f p = refl

pub pagecount_cell : (f : Production) (p : Placed)
    → cell_under is_pagecount (columns ++ f.request.fields) (dat_row f p) ≡ decimal (label_count p.item)
unfolding encode
pagecount_cell f p = refl

pub textpath_cell : (f : Production) (p : Placed)
    → cell_under is_textpath (columns ++ f.request.fields) (dat_row f p) ≡ text_path reverse_solidus f.request p.place p.item.span.first
unfolding encode
textpath_cell f p = refl

-- BEGDOC and ENDDOC are among the columns
pub has_begdoc : (fields : List (List ℕ)) → list_any is_begdoc (columns ++ fields) ≡ true
unfolding encode
has_begdoc fields = refl

pub has_enddoc : (fields : List (List ℕ)) → list_any is_enddoc (columns ++ fields) ≡ true
unfolding encode
has_enddoc fields = refl
