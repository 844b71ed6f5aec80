use Rattle.std.proofs.Common.{Option, subst}
use Rattle.std.specs.Prelude.{IfSome, IsTrue}
use Rattle.bp_rows.specs.Image.{Image}
use Rattle.bp_tiff.specs.Read.{TiffReads}
use Rattle.bp_import.specs.Scans.{comes_in}
use Rattle.bp_import.proofs.ScanLemmas.{page_came}
use Rattle.bp_import.proofs.scans.keep_page.Goals as goal

pub returns-in-Some-clause-answer : goal.returns-in-Some-clause-answer
returns-in-Some-clause-answer c =
    page_came c.args.number c.args.bytes.now c.in-Some.page
    (subst (λ (o : Option Image). IfSome o (TiffReads c.args.bytes.now)) c.in-Some.is c.in_ok-page.ensures.found)
    (subst (λ (o : Option Image). IfSome o (λ p. IsTrue (comes_in p))) c.in-Some.is c.in_ok-page.ensures.fits)
