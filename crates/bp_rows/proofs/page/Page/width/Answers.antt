use Rattle.std.proofs.Common.{subst}
use Rattle.bp_rows.specs.Image.{Image, IsPage}
use Rattle.bp_rows.proofs.PageLemmas.{is_page}
use Rattle.bp_rows.proofs.page.Page.width.Goals as goal

pub returns-clause-page : goal.returns-clause-page
returns-clause-page c =
    let p = c.self.inside in
    subst (λ (i : Image). IsPage i) c.self.view_is (is_page p.width p.height p.xres p.yres p.unit p.strip.items c.self.invariant)
