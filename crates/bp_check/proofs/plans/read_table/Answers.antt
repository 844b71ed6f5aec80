use Rattle.std.proofs.Common.{◌∙◌, ℕ, List, Ok, ap, sym, length, arith}
use Rattle.bp_load.specs.Dat.{dat_of}
use Rattle.bp_load.specs.Table.{Table}
use Rattle.bp_check.specs.Files.{file_there}
use Rattle.bp_check.specs.declared.files.TheConstants.{DAT}
use Rattle.bp_check.proofs.CalmLemmas.{bad_after, dat_calm}
use Rattle.bp_load.proofs.CountLemmas.{dat_few}
use Rattle.bp_check.proofs.ToldLemmas.{gives_last, gives_next, told_then}
use Rattle.bp_check.proofs.plans.read_table.Goals as goal

pub returns-in_err-read_dat-clause-told : goal.returns-in_err-read_dat-clause-told
returns-in_err-read_dat-clause-told g c =
    let bytes = c.deref.result.now in
    told_then _ _ _ c.in_ok-bytes.ensures.told (λ files is.
    gives_next {X = List ℕ} {Y = Table} {A = List ℕ} {B = Table} (λ b. b) (λ table. table) (file_there files DAT 0 c.args.path.now) dat_of bytes c.from_residual-in_err-read_dat.result
    (is ∙ ap Ok (sym c.deref.ensures.value))
    (gives_last {X = Table} (λ table. table) (λ table. table) (dat_of bytes) c.in_err-read_dat.field-0.0 c.from_residual-in_err-read_dat.result c.from_residual-in_err-read_dat.ensures.1 c.in_err-read_dat.ensures))

pub returns-in_err-read_dat-clause-after : goal.returns-in_err-read_dat-clause-after
returns-in_err-read_dat-clause-after g c =
    c.in_ok-bytes.ensures.after
    ∙ bad_after {Y = Table} {V = Table} (λ table. table) c.from_residual-in_err-read_dat.result c.in_err-read_dat.field-0.0 (dat_of c.deref.result.now) _
    (dat_calm c.deref.result.now) c.from_residual-in_err-read_dat.ensures.1 c.in_err-read_dat.ensures

pub returns-clause-few : goal.returns-clause-few
returns-clause-few g c =
    omega (arith, dat_few c.deref.result.now c.in_ok-read_dat.field-0 c.in_ok-read_dat.ensures, c.in_ok-bytes.ensures.limit, ap length c.deref.ensures.value)
