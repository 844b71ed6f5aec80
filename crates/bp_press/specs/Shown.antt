-- What a volume shows of a matter for one production, as it is lent call by call.
use Rattle.std.specs.Prelude.{◌≡◌, ℕ, ◌==◌, ◌&&◌, Bool, IsTrue, List, [], ◌∷◌, Option, Some, None, if◌then◌else◌, unwrap_or}
use Rattle.std.specs.List.{Contains}
use Rattle.bp_core.specs.Characters.{line_end, space}
use Rattle.bp_core.specs.Rectangle.{touches}
use Rattle.bp_core.specs.declared.rectangle.Rect.{Rect}
use Rattle.bp_core.specs.declared.stamps.Stamp.{Stamp}
use Rattle.bp_codes.specs.Bits.{bits_of}
use Rattle.bp_codes.specs.declared.span.Fill.TheVariants.{High}
use Rattle.bp_rows.specs.Image.{Image}
use Rattle.bp_rows.specs.Limits.{sides_are_imported}
use Rattle.bp_t6.specs.Written.{bits_strip}
use Rattle.bp_text.specs.Kept.{kept_of}
use Rattle.bp_text.specs.declared.words.Word.{Word}
use Rattle.bp_burn.specs.Band.{produced_of, slip_of}
use Rattle.bp_burn.specs.RowsOut.{RowsOut}
use Rattle.bp_matter.specs.Matter.{Matter}
use Rattle.bp_matter.specs.declared.rows.BoxRow.{BoxRow}
use Rattle.bp_matter.specs.declared.rows.Item.{Item}
use Rattle.bp_matter.specs.declared.rows.Production.{Production}
use Rattle.bp_freeze.specs.Agree.{kept_words, rects_on}
use Rattle.bp_press.specs.Contents.{ground_of, held_text, stamps_on}
use Rattle.bp_press.specs.Jobs.{HasBand}
use Rattle.bp_press.specs.declared.covered.Covered.{Covered}
use Rattle.bp_press.specs.declared.lent.CoveredImage.{CoveredImage}
use Rattle.bp_press.specs.declared.lent.CoveredImage.TheVariants as images
use Rattle.bp_press.specs.declared.lent.CoveredPage.{CoveredPage}
use Rattle.bp_press.specs.declared.lent.KeptWords.{KeptWords}
use Rattle.bp_press.specs.declared.lent.ShownValue.{ShownValue}
use Rattle.bp_press.specs.declared.lent.ShownValue.TheVariants.{Held, Nothing, Value}
use Rattle.bp_press.specs.declared.jobs.Job.{Job}
use Rattle.bp_press.specs.declared.jobs.Job.TheVariants as jobs

-- ---- the wall

-- the matter behind it, of which no more is lent than a volume shows
abbrev pub matter_behind : Covered → Matter
matter_behind shown = shown.tables.now.matter

-- the production whose volume that is
abbrev pub production_shown : Covered → Production
production_shown shown = shown.production.now

-- ---- words

-- the words of a page of an item which no box touches
abbrev pub shown_words : Matter → Item → ℕ → List Word
shown_words m i page = unwrap_or (kept_words m i.doc.0 page (rects_on i.boxes page)) []

-- those that are still to be lent
abbrev pub words_left : KeptWords → List Word
words_left k = kept_of k.words.now (rects_on k.boxes.now k.page.0)

-- a box is one of the page, and touches the rectangle
abbrev pub covers : BoxRow → ℕ → Rect → Bool
covers box page rect = (box.page.0 == page) && touches rect box.rect

-- the next word was lent, and the others are left; or there was none
abbrev pub Lends : List Word → Option Word → List Word → Type 0
Lends old None new = (old ≡ []) × (new ≡ [])
Lends old (Some word) new = old ≡ word ∷ new

-- a word in hand, and those after it
abbrev pub in_hand : Option Word → List Word → List Word
in_hand None words = words
in_hand (Some word) words = word ∷ words

-- what stands between a word and the next, if there is one
abbrev pub end_before : Word → Option Word → List ℕ
end_before word None = line_end
end_before word (Some next) = if word.line == next.line then space ∷ [] else line_end

-- ---- values

-- the text of a value that is lent
-- by FRCP 26(b)(5)(A)
abbrev pub value_lent : ShownValue → List ℕ
value_lent Nothing = []
value_lent (Held row) = held_text row.now
value_lent (Value text) = text.now

-- ---- images

-- the page that a page which is lent covered becomes, with its band
abbrev pub page_lent : CoveredPage → Image
page_lent p = produced_of p.ink p.page.now p.stamps.now p.label.now p.designation.now

-- the image that is lent
abbrev pub image_lent : CoveredImage → Image
image_lent (images.Page page) = page_lent page
image_lent (images.Sheet basis label designation) = slip_of basis label.now designation.now

-- what coding a page that is lent needs
pub record CanBeCovered (p : CoveredPage) : Type 0 where
  pub sides : IsTrue (sides_are_imported p.page.now.width p.page.now.height)
  pub band : HasBand p.label.now p.designation.now

-- what coding an image that is lent needs
abbrev pub CanBeCoded : CoveredImage → Type 0
CanBeCoded (images.Page page) = CanBeCovered page
CanBeCoded (images.Sheet basis label designation) = HasBand label.now designation.now

-- its rows, of which none was read
abbrev pub rows_lent : CoveredPage → RowsOut
rows_lent p = record {
  bits = bits_of High (bits_strip p.page.now);
  width = p.page.now.width;
  height = p.page.now.height;
  ink = p.ink;
  stamps = p.stamps.now;
  row = 0;
}

-- ---- what may be asked for

-- a page of an item of the production that isn't withheld, under all of the item's boxes on it
pub record IsOwnPage (f : Production) (doc page : ℕ) (stamps : List Stamp) : Type 0 where
  pub item : Item
  pub there : Contains f.items item
  pub shown : ground_of item.treatment ≡ None
  pub of : item.doc.0 ≡ doc
  pub boxed : stamps ≡ stamps_on item.boxes page

-- the job of such a page, or of a sheet, which shows nothing of the matter
abbrev pub IsOwnJob : Production → Job → Type 0
IsOwnJob f (jobs.Image ink doc page stamps label designation) = IsOwnPage f doc.0 page.0 stamps
IsOwnJob f (jobs.Slip basis label designation) = Unit {0}
