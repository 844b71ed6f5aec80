use Rattle.std.proofs.Common.{refl, arith}
use Rattle.bp_codes.specs.CodeLists.{black_codes}
use Rattle.bp_codes.specs.declared.black_index.TheConstants.{BLACK_INDEX}
use Rattle.bp_codes.proofs.KeptLemmas.{black_kept}
use Rattle.bp_codes.proofs.ReadingLemmas.{finds_ahead}
use Rattle.bp_codes.proofs.ahead.black_ahead.Goals as goal

pub returns : goal.returns
unfolding black_codes
returns c = λ bits a.
    finds_ahead black_codes 13 BLACK_INDEX bits c.args.word c.args.skipped _ c.found.result black_kept refl refl (omega arith) (omega arith) (omega arith) a refl c.found.ensures
