use Rattle.std.proofs.Common.{◌^◌}
use Rattle.std.proofs.lemmas.Bool.{lt-ltb}
use Rattle.bp_matter.proofs.FormLemmas.{forms_of}
use Rattle.bp_matter.proofs.laws.form_law.Goals as goal

pub returns : goal.returns
returns c = λ row h k1 k2. forms_of c.strip_law.ensures row h (lt-ltb row.k1 (2 ^ 32) k1) (lt-ltb row.k2 (2 ^ 32) k2)
