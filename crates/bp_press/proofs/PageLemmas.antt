-- The images of items, from what they are made of.
use Rattle.std.proofs.Common.{◌≡◌, ℕ, ◌+◌, ◌-◌, List, Option, Some, Result, sym, ap, subst, ◌∙◌}
use Rattle.std.specs.Prelude.{IfOk, unwrap_or}
use Rattle.bp_core.specs.declared.stamps.Stamp.{Stamp}
use Rattle.bp_core.specs.declared.review.Basis.{Basis}
use Rattle.bp_rows.specs.Image.{Image, white_image}
use Rattle.bp_rows.specs.declared.resolution.Unit.TheVariants.{Inch}
use Rattle.bp_burn.specs.Band.{produced_of, slip_of, slip_resolution}
use Rattle.bp_tiff.specs.Tiff.{tiff_of}
use Rattle.bp_tiff.specs.declared.form.Form.TheVariants.{G4}
use Rattle.bp_freeze.specs.Log.{label_in}
use Rattle.bp_matter.specs.LookUps.{of_row, page_with}
use Rattle.bp_matter.specs.Matter.{Matter}
use Rattle.bp_matter.specs.declared.rows.Item.{Item}
use Rattle.bp_matter.specs.declared.rows.PageRow.{PageRow}
use Rattle.bp_matter.specs.declared.rows.Production.{Production}
use Rattle.bp_matter.specs.declared.rows.Request.{Request}
use Rattle.bp_press.specs.Contents.{produced_page, slip_sheet, stamps_on}

-- the file of one page is that of the other where they are the same
pub tiff_made : {E : Type 0} (r : Result (List ℕ) E) (p q : Image) → p ≡ q → IfOk r (λ bytes. bytes ≡ tiff_of G4 p) → IfOk r (λ bytes. bytes ≡ tiff_of G4 q)
tiff_made r p q is h = subst (λ (page : Image). IfOk r (λ bytes. bytes ≡ tiff_of G4 page)) is h

pub sheet_made : (q : Request) (i : Item) (basis : Basis) (k : ℕ) (label : List ℕ) (sheet : Image) → label ≡ label_in q.prefix (i.span.first + k) → sheet ≡ slip_of basis label i.designation → sheet ≡ slip_sheet q i basis k
unfolding slip_sheet
sheet_made q i basis k label sheet named made = made ∙ ap (λ l. slip_of basis l i.designation) named

pub page_made : (f : Production) (m : Matter) (i : Item) (page : ℕ) (row : PageRow) (stamps : List Stamp) (label : List ℕ) (out : Image)
    → page_with i.doc.0 page m ≡ Some row → stamps ≡ stamps_on i.boxes page → label ≡ label_in f.request.prefix (i.span.first + page - 1)
    → out ≡ produced_of f.ink row.image stamps label i.designation → out ≡ produced_page f m i page
unfolding produced_page
page_made f m i page row stamps label out found boxed named made =
    made ∙ ap (λ ss. produced_of f.ink row.image ss label i.designation) boxed
    ∙ ap (λ l. produced_of f.ink row.image (stamps_on i.boxes page) l i.designation) named
    ∙ ap (λ (o : Option PageRow). produced_of f.ink (unwrap_or (of_row (λ row. row.image) o) (white_image 0 0 slip_resolution slip_resolution Inch)) (stamps_on i.boxes page) (label_in f.request.prefix (i.span.first + page - 1)) i.designation) (sym found)
