use Rattle.std.proofs.Common.{◌≡◌, ◌<◌, ℕ, List, length, subst, sym, ◌∙◌, ◌^◌}
use Rattle.bp_matter.specs.Images.{GivesRead}
use Rattle.bp_matter.specs.declared.kept_page.Frame.{Frame}
use Rattle.bp_t6.specs.Written.{bits_strip}
use Rattle.bp_demo.specs.Pages.{page_image}
use Rattle.bp_demo.proofs.KeptLemmas.{drawn_frame, its_own_is_read, one_is_read}
use Rattle.bp_demo.proofs.PageLemmas.{image_is_page}
use Rattle.bp_demo.proofs.inked.inked_page.Goals as goal

pub of_strip-requires-clause-short : goal.of_strip-requires-clause-short
of_strip-requires-clause-short c =
    let words = c.args.words.now in
    subst (λ (bytes : List ℕ). length bytes < 2 ^ 32) (sym (c.as_slice.ensures ∙ c.in_ok-strip.ensures)) (c.strip_size.ensures.fits (page_image words) (image_is_page words))

pub unreachable-requires : goal.unreachable-requires
unreachable-requires c =
    let words = c.args.words.now in
    let strip : c.as_slice.result.now ≡ bits_strip (page_image words) = c.as_slice.ensures ∙ c.in_ok-strip.ensures in
    let read : GivesRead drawn_frame c.as_slice.result.now c.in_ok-kept.field-0 =
    subst (λ (f : Frame). GivesRead f c.as_slice.result.now c.in_ok-kept.field-0) c.page_frame.ensures c.in_ok-kept.ensures in
    let own : GivesRead drawn_frame (bits_strip (page_image words)) c.in_ok-kept.field-0 =
    subst (λ (bytes : List ℕ). GivesRead drawn_frame bytes c.in_ok-kept.field-0) strip read in
    one_is_read c.strip_law.ensures words (subst (GivesRead drawn_frame (bits_strip (page_image words))) c.in-None.is own)

pub returns : goal.returns
returns c =
    let words = c.args.words.now in
    let strip : c.as_slice.result.now ≡ bits_strip (page_image words) = c.as_slice.ensures ∙ c.in_ok-strip.ensures in
    let read : GivesRead drawn_frame c.as_slice.result.now c.in_ok-kept.field-0 =
    subst (λ (f : Frame). GivesRead f c.as_slice.result.now c.in_ok-kept.field-0) c.page_frame.ensures c.in_ok-kept.ensures in
    let own : GivesRead drawn_frame (bits_strip (page_image words)) c.in_ok-kept.field-0 =
    subst (λ (bytes : List ℕ). GivesRead drawn_frame bytes c.in_ok-kept.field-0) strip read in
    its_own_is_read c.strip_law.ensures words c.in-Some.kept (subst (GivesRead drawn_frame (bits_strip (page_image words))) c.in-Some.is own)
