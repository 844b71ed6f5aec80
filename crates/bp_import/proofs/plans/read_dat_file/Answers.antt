use Rattle.std.proofs.Common.{◌≡◌, ◌∙◌, Ok, ap, refl, sym, subst}
use Rattle.std.specs.Prelude.{codes}
use Rattle.std.specs.Str.{chars}
use Rattle.std.proofs.lemmas.Result.{err_from_is_err_and}
use Rattle.bp_load.specs.Table.{Table}
use Rattle.bp_import.specs.Columns.{tested_table}
use Rattle.bp_import.specs.Files.{below, dat_path, batch_file_at}
use Rattle.bp_import.specs.Planned.{PlanRefuses, TakesFile, file_said_at}
use Rattle.bp_import.specs.declared.files.TheConstants.{DAT}
use Rattle.bp_import.proofs.StepLemmas.{bad_after, bad_said, refuses_after, refuses_first, table_calm, told_then}
use Rattle.bp_import.proofs.plans.read_dat_file.Goals as goal

named : chars (codes "load.dat") ≡ codes "load.dat"
unfolding chars
named = refl

pub returns-in_err-bytes-clause-refused : goal.returns-in_err-bytes-clause-refused
returns-in_err-bytes-clause-refused g c =
    let p = err_from_is_err_and c.from_residual.result c.from_residual.ensures.1 in
    let given = c.in_err-bytes.field-0.0 in
    let name = c.args.name.now in
    rw (p.1, p.2)
    (told_then _ _ (λ files. PlanRefuses given (file_said_at tested_table files (dat_path name) DAT)) c.in_err-bytes.ensures.refused
    (λ files bad. refuses_first given (batch_file_at files (dat_path name) DAT 0) tested_table (subst (λ f. PlanRefuses given (batch_file_at files (below name f) DAT 0)) named bad)))

pub returns-in_err-read_table-clause-refused : goal.returns-in_err-read_table-clause-refused
returns-in_err-read_table-clause-refused g c =
    let name = c.args.name.now in
    bad_said {Y = Table} {V = Table} (λ table. table) c.from_residual-in_err-read_table.result c.in_err-read_table.field-0.0 (tested_table c.deref.result.now) _ (λ files. file_said_at tested_table files (dat_path name) DAT)
    c.from_residual-in_err-read_table.ensures.1 c.in_err-read_table.ensures
    (λ given bad. told_then _ _ (λ files. PlanRefuses given (file_said_at tested_table files (dat_path name) DAT)) c.in_ok-bytes.ensures.taken.told
    (λ files is. refuses_after given (batch_file_at files (dat_path name) DAT 0) c.deref.result.now tested_table
    (subst (λ f. batch_file_at files (below name f) DAT 0 ≡ Ok c.deref.result.now) named (is ∙ ap Ok (sym c.deref.ensures.value))) bad))

pub returns-in_err-read_table-clause-after : goal.returns-in_err-read_table-clause-after
returns-in_err-read_table-clause-after g c =
    c.in_ok-bytes.ensures.after
    ∙ bad_after {Y = Table} {V = Table} (λ table. table) c.from_residual-in_err-read_table.result c.in_err-read_table.field-0.0 (tested_table c.deref.result.now) _
    (table_calm c.deref.result.now) c.from_residual-in_err-read_table.ensures.1 c.in_err-read_table.ensures

pub returns-clause-read : goal.returns-clause-read
returns-clause-read g c =
    let name = c.args.name.now in
    let bytes = c.in_ok-bytes.bytes.items in
    record {
      bytes = bytes;
      file = subst (λ f. TakesFile (g.S.Source.shows c.args.source.now).files (below name f) DAT c.args.digest.now c.take_file.new.digest bytes) named c.in_ok-bytes.ensures.taken;
      says = ap tested_table (sym c.deref.ensures.value) ∙ c.in_ok-read_table.ensures;
    }
