-- What is read from the strip of a drawn page is that page.
use Rattle.std.proofs.Common.{◌≡◌, Bool, List, Some, None, refl, ap, ◌∙◌}
use Rattle.bp_codes.specs.declared.span.Fill.TheVariants.{High}
use Rattle.bp_codes.specs.Bits.{bits_of}
use Rattle.bp_rows.specs.Image.{Image}
use Rattle.bp_rows.specs.declared.resolution.Unit.TheVariants.{Inch}
use Rattle.bp_t6.specs.Read.{StripReads}
use Rattle.bp_t6.specs.Written.{bits_strip}
use Rattle.bp_text.specs.declared.words.Word.{Word}
use Rattle.bp_matter.specs.Images.{GivesRead, in_frame}
use Rattle.bp_matter.proofs.ImageLemmas.{StripLaw}
use Rattle.bp_matter.specs.declared.kept_page.Frame.{Frame}
use Rattle.bp_demo.specs.Pages.{demo_dots, page_image}
use Rattle.bp_demo.proofs.PageLemmas.{image_is_page}

abbrev pub drawn_frame : Frame
drawn_frame = record { width = 850; height = 1100; xres = demo_dots; yres = demo_dots; unit = Inch }

its_frame : (words : List Word) → in_frame drawn_frame (page_image words).rows ≡ page_image words
unfolding page_image
its_frame words = refl

-- what is read in the frame of a drawn page is read in the page's own
own_reading : (words : List Word) (lines : List (List Bool)) → StripReads (bits_of High (bits_strip (page_image words))) 850 1100 lines
    → StripReads (bits_of High (bits_strip (page_image words))) (page_image words).width (page_image words).height lines
unfolding page_image
own_reading words lines reads = reads

frame_reading : (words : List Word) (lines : List (List Bool)) → StripReads (bits_of High (bits_strip (page_image words))) (page_image words).width (page_image words).height lines
    → StripReads (bits_of High (bits_strip (page_image words))) 850 1100 lines
unfolding page_image
frame_reading words lines reads = reads

pub one_is_read : StripLaw → (words : List Word) → GivesRead drawn_frame (bits_strip (page_image words)) None → ⊥
one_is_read law words none =
    none (page_image words).rows (frame_reading words (page_image words).rows ((law (page_image words) (page_image words).rows (image_is_page words)).1 refl))

pub its_own_is_read : StripLaw → (words : List Word) (p : Image) → GivesRead drawn_frame (bits_strip (page_image words)) (Some p) → p ≡ page_image words
its_own_is_read law words p read =
    let rows : p.rows ≡ (page_image words).rows = (law (page_image words) p.rows (image_is_page words)).0 (own_reading words p.rows read.reads) in
    read.framed ∙ ap (in_frame drawn_frame) rows ∙ its_frame words
