use Rattle.std.proofs.Common.{◌+◌, ◌*◌, ◌/◌, ◌%◌, ◌≡◌, get_or, ap, refl, arith}
use Rattle.bp_codes.specs.CodeLists.{mode_codes}
use Rattle.bp_codes.specs.declared.mode_index.TheConstants.{MODE_INDEX}
use Rattle.bp_codes.proofs.KeptLemmas.{modes_kept}
use Rattle.bp_codes.proofs.ReadingLemmas.{finds_ahead}
use Rattle.bp_codes.proofs.ahead.mode_ahead.Goals as goal

pub returns : goal.returns
unfolding mode_codes
returns c = λ bits a.
    let same : c.args.word ≡ c.args.word * 1 % 18446744073709551616 = omega arith in
    let place = ap (λ v. get_or MODE_INDEX (128 + v / 144115188075855872) 0) same in
    finds_ahead mode_codes 7 MODE_INDEX bits c.args.word 0 _ c.found.result modes_kept refl refl (omega arith) (omega arith) (omega arith) a place c.found.ensures
