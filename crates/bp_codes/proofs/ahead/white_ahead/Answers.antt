use Rattle.std.proofs.Common.{refl, arith}
use Rattle.bp_codes.specs.CodeLists.{white_codes}
use Rattle.bp_codes.specs.declared.white_index.TheConstants.{WHITE_INDEX}
use Rattle.bp_codes.proofs.KeptLemmas.{white_kept}
use Rattle.bp_codes.proofs.ReadingLemmas.{finds_ahead}
use Rattle.bp_codes.proofs.ahead.white_ahead.Goals as goal

pub returns : goal.returns
unfolding white_codes
returns c = λ bits a.
    finds_ahead white_codes 12 WHITE_INDEX bits c.args.word c.args.skipped _ c.found.result white_kept refl refl (omega arith) (omega arith) (omega arith) a refl c.found.ensures
