use Rattle.bp_tiff.proofs.ReadBackLemmas.{read_back}
use Rattle.bp_tiff.proofs.laws.written_is_read.Goals as goal

pub returns : goal.returns
returns c = read_back c.strip_law.ensures c.strip_size.ensures.fits
