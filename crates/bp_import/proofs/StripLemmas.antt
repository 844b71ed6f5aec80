-- The page that is read from the only strip of a file is the page of the file.
use Rattle.std.proofs.Common.{◌≡◌, ℕ, Bool, true, false, List, [], Option, Some, None, Ok, append-nil, refl, sym, ap, subst, ◌∙◌, arith}
use Rattle.std.specs.Prelude.{IfSome, IsTrue}
use Rattle.bp_codes.specs.declared.span.Fill.{Fill}
use Rattle.bp_codes.specs.declared.span.Fill.TheVariants.{High}
use Rattle.bp_codes.specs.Bits.{bits_of}
use Rattle.bp_matter.specs.declared.kept_page.Frame.{Frame}
use Rattle.bp_matter.specs.Images.{GivesRead, IsReadFrom}
use Rattle.bp_rows.specs.Image.{Image}
use Rattle.bp_rows.specs.Limits.{sides_are_imported}
use Rattle.bp_t6.specs.Read.{StripReads}
use Rattle.bp_tiff.specs.Layout.{layout_of}
use Rattle.bp_tiff.specs.Pixels.{CodedHolds, PackedHolds, value_inked}
use Rattle.bp_tiff.specs.Read.{StripHoldsRows, StripsHold, TiffReads, strip_bytes, strip_rows}
use Rattle.bp_tiff.specs.declared.layout.Layout.{Layout}
use Rattle.bp_import.specs.Scans.{comes_in}
use Rattle.bp_import.specs.Strips.{IsOneStrip, frame_of}
use Rattle.bp_import.proofs.PageFactLemmas.{page_comes}

-- the first strip has all rows
all_rows : (l : Layout) → IsOneStrip l → strip_rows l 0 ≡ l.sides.height
all_rows l one = omega (arith, one.rows)

-- the lines that are read from the bytes of the strip are held by it
first_holds : (bytes : List ℕ) (l : Layout) (strip : List ℕ) (lines : List (List Bool)) → IsOneStrip l → strip ≡ strip_bytes bytes l 0
    → StripReads (bits_of High strip) l.sides.width l.sides.height lines
    → StripHoldsRows bytes l 0 lines
first_holds bytes l strip lines one same reads =
    let w = l.sides.width in let n = strip_rows l 0 in let own = strip_bytes bytes l 0 in
    let here : StripReads (bits_of l.coding.fill own) w n lines =
    subst (λ (f : Fill). StripReads (bits_of f own) w n lines) (sym one.order)
    (subst (λ (h : ℕ). StripReads (bits_of High own) w h lines) (sym (all_rows l one))
    (subst (λ (s : List ℕ). StripReads (bits_of High s) w l.sides.height lines) same reads)) in
    let P : Bool → Type 0 = λ b. elim b [ true ↦ CodedHolds l.coding w n own lines | false ↦ PackedHolds l.coding w n own lines ] in
    subst P (sym one.coded) (record { values = lines; reads = here; means = sym (ap (λ b. value_inked b lines) one.white) })

-- and by all strips
strips_hold : (bytes : List ℕ) (l : Layout) (lines : List (List Bool)) → IsOneStrip l → StripHoldsRows bytes l 0 lines → StripsHold bytes l l.strips.count 0 lines
strips_hold bytes l lines one holds =
    subst (λ (n : ℕ). StripsHold bytes l n 0 lines) (sym one.one)
    (record { these = lines; rest = []; one = holds; others = refl; joined = sym (append-nil lines) })

-- the page that is read is that of the file
pub file_reads : (bytes : List ℕ) (l : Layout) (strip : List ℕ) (frame : Frame) (p : Image) → layout_of bytes ≡ Ok l → IsOneStrip l → strip ≡ strip_bytes bytes l 0 → frame ≡ frame_of l → IsReadFrom frame strip p
    → TiffReads bytes p
file_reads bytes l strip frame p laid one same framed read =
    let own : IsReadFrom (frame_of l) strip p = subst (λ (f : Frame). IsReadFrom f strip p) framed read in
    record {
      layout = l;
      laid = laid;
      held = strips_hold bytes l p.rows one (first_holds bytes l strip p.rows one same own.reads);
      page = own.framed;
    }

-- and may come in
pub read_comes : (l : Layout) (strip : List ℕ) (frame : Frame) (p : Image) → IsOneStrip l → frame ≡ frame_of l → IsReadFrom frame strip p → comes_in p ≡ true
read_comes l strip frame p one framed read =
    let own : IsReadFrom (frame_of l) strip p = subst (λ (f : Frame). IsReadFrom f strip p) framed read in
    let sides : sides_are_imported p.width p.height ≡ true = ap (λ (q : Image). sides_are_imported q.width q.height) own.framed ∙ one.sides in
    page_comes p own.page sides

-- the same of what was read, if anything was
pub if_read : (bytes : List ℕ) (l : Layout) (strip : List ℕ) (frame : Frame) (page : Option Image) → layout_of bytes ≡ Ok l → IsOneStrip l → strip ≡ strip_bytes bytes l 0 → frame ≡ frame_of l → GivesRead frame strip page
    → IfSome page (TiffReads bytes)
if_read bytes l strip frame None laid one same framed read = tt
if_read bytes l strip frame (Some p) laid one same framed read = file_reads bytes l strip frame p laid one same framed read

pub if_comes : (l : Layout) (strip : List ℕ) (frame : Frame) (page : Option Image) → IsOneStrip l → frame ≡ frame_of l → GivesRead frame strip page
    → IfSome page (λ p. IsTrue (comes_in p))
if_comes l strip frame None one framed read = tt
if_comes l strip frame (Some p) one framed read = read_comes l strip frame p one framed read
