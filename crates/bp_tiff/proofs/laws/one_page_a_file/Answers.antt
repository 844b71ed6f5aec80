use Rattle.bp_tiff.proofs.FileLemmas.{same_form}
use Rattle.bp_tiff.proofs.ReadBackLemmas.{one_page}
use Rattle.bp_tiff.proofs.laws.one_page_a_file.Goals as goal

pub returns-clause-page : goal.returns-clause-page
returns-clause-page c = one_page c.strip_law.ensures c.strip_size.ensures.fits

pub returns-clause-form : goal.returns-clause-form
returns-clause-form c = same_form
