use Rattle.std.proofs.Common.{◌≡◌, ◌+◌, ◌*◌, ◌++◌, Ok, replicate, ap, sym, ◌∙◌, subst, refl, rules, Result}
use Rattle.std.specs.Result.{IsOk}
use Rattle.bp_rows.specs.Bits.{row_bytes}
use Rattle.bp_rows.specs.Image.{Image}
use Rattle.bp_rows.specs.declared.page.StripFault.{StripFault}
use Rattle.bp_burn.specs.Ink.{with_white_rows}
use Rattle.bp_burn.proofs.CopyLemmas.{filled, made_copy}
use Rattle.bp_burn.proofs.burning.copy_with_rows.Goals as goal
use Rattle.bp_burn.proofs.burning.copy_with_rows.Goals.{After-from_strip-out}

made : (c : After-from_strip-out) → c.from_strip-out.result ≡ Ok (with_white_rows c.args.page.now c.args.more)
made c =
    let p = c.args.page.now in
    let strip = c.strip-strip.ensures in
    let lent = c.in_ok-extend_from_slice.ensures.items ∙ ap (λ front. front ++ c.strip-strip.result.now) c.in_ok-rows.ensures.items in
    let size = c.bytes_of_strip-size.ensures ∙ ap (λ h. (h + c.args.more) * row_bytes c.width.result) c.height.ensures.value ∙ ap (λ w. (p.height + c.args.more) * row_bytes w) c.width.ensures.value in
    let bytes = filled c.strip-strip.result.now c.extend_from_slice.new.self.items c.resize.new.self.items c.bytes_of_strip-size.result _ p.height c.args.more (row_bytes p.width)
    lent (search rules) strip.long size c.in_ok-resize.ensures.items in
    made_copy p c.args.more c.width-2.result (c.height.result + c.args.more) c.xres.result c.yres.result c.unit.result c.resize.new.self.items c.from_strip-out.result
    strip.page c.requires c.width-2.ensures.value (ap (λ h. h + c.args.more) c.height.ensures.value) c.xres.ensures c.yres.ensures c.unit.ensures
    (bytes ∙ ap (λ front. front ++ replicate (c.args.more * row_bytes p.width) 0) strip.packed) c.from_strip-out.ensures.only

pub unwrap-requires : goal.unwrap-requires
unwrap-requires c = let P : Result Image StripFault → Type 0 = λ r. IsOk r in subst P (sym (made (goal.at.unwrap-requires c).After-from_strip-out)) refl

pub returns : goal.returns
returns c = let both : Ok c.unwrap.result ≡ Ok (with_white_rows c.args.page.now c.args.more) = sym c.unwrap.ensures ∙ made (goal.at.returns c).After-from_strip-out in cc
