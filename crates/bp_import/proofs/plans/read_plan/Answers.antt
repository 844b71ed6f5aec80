use Rattle.std.proofs.Common.{◌≡◌, ◌∙◌, ◌+◌, ◌≤◌, ◌<◌, [], ◌∷◌, Ok, List, true, length, map, ap, sym, arith, rules, subst}
use Rattle.std.specs.Prelude.{IfSome}
use Rattle.std.proofs.lemmas.List.{length-map}
use Rattle.std.proofs.lemmas.Result.{err_from_is_err_and}
use Rattle.bp_load.specs.Opt.{opt_of}
use Rattle.bp_matter.specs.Texts.{is_batch_name}
use Rattle.bp_import.specs.Breaks.{breaks_of}
use Rattle.bp_import.specs.Families.{parents_of}
use Rattle.bp_import.specs.Files.{batch_file_at, opt_path, words_path}
use Rattle.bp_import.specs.Planned.{PlanRefuses, placing_of, file_said_at}
use Rattle.bp_import.specs.Records.{fields_of, record_of, records_of}
use Rattle.bp_import.specs.WordPages.{places_of}
use Rattle.bp_import.specs.declared.files.TheConstants.{OPT, WORDS}
use Rattle.bp_load.proofs.CountLemmas.{opt_few}
use Rattle.bp_import.proofs.DatFactLemmas.{table_few}
use Rattle.bp_import.proofs.PlanLemmas.{files_told, opt_refused_told, placing_refused_told}
use Rattle.bp_import.proofs.plans.read_plan.Goals as goal

pub returns-in_err-lines-clause-refused : goal.returns-in_err-lines-clause-refused
returns-in_err-lines-clause-refused g c =
    let p = err_from_is_err_and c.from_residual-in_err-lines.result c.from_residual-in_err-lines.ensures.1 in
    let named : is_batch_name c.args.name.now ≡ true = search rules in
    let dat = c.in_ok-dat.ensures.read in
    let given = c.in_err-lines.field-0.0 in
    let name = c.args.name.now in
    let bad = subst (λ v. IfSome v.files (λ files. PlanRefuses given (file_said_at opt_of files (opt_path name) OPT))) c.in_ok-dat.ensures.after c.in_err-lines.ensures.refused in
    rw (p.1, p.2) (opt_refused_told _ name dat.bytes c.in_ok-dat.dat given named dat.file.told dat.says bad)

pub read_placed-requires-clause-lines : goal.read_placed-requires-clause-lines
read_placed-requires-clause-lines g c =
    let opt = c.in_ok-lines.ensures.read in
    omega (arith, opt_few opt.bytes c.in_ok-lines.lines opt.says, opt.file.short, ap length c.as_slice-2.ensures)

pub read_placed-requires-clause-docs : goal.read_placed-requires-clause-docs
read_placed-requires-clause-docs g c =
    let dat = c.in_ok-dat.ensures.read in
    let rows = c.into_parts-columns.result.1 in
    let size : length c.deref.result.now ≡ length rows =
    ap length c.deref.ensures.value ∙ ap length c.in_ok-docs.ensures ∙ length-map rows (record_of c.as_slice.result.now) in
    omega (arith, size, ap length c.into_parts-columns.ensures.rows, table_few dat.bytes c.in_ok-dat.dat dat.says, dat.file.short)

pub returns-in_err-placed-clause-refused : goal.returns-in_err-placed-clause-refused
returns-in_err-placed-clause-refused g c =
    let p = err_from_is_err_and c.from_residual-in_err-placed.result c.from_residual-in_err-placed.ensures.1 in
    let named : is_batch_name c.args.name.now ≡ true = search rules in
    let name = c.args.name.now in
    let given = c.in_err-placed.field-0.0 in
    let dat = c.in_ok-dat.ensures.read in
    let opt = c.in_ok-lines.ensures.read in
    let table = c.in_ok-dat.dat in
    let docs : c.deref.result.now ≡ records_of table =
    c.deref.ensures.value ∙ c.in_ok-docs.ensures
    ∙ ap (λ cs. records_of (record { columns = cs; rows = c.into_parts-columns.result.1 })) (c.as_slice.ensures ∙ c.into_parts-columns.ensures.columns)
    ∙ ap (λ rs. records_of (record { columns = table.columns; rows = rs })) c.into_parts-columns.ensures.rows in
    let at = subst (λ v. IfSome v.files (λ files. batch_file_at files (opt_path name) OPT 0 ≡ Ok opt.bytes)) c.in_ok-dat.ensures.after opt.file.told in
    let bad = subst (λ v. IfSome v.files (λ files. PlanRefuses given (placing_of files name c.deref.result.now c.as_slice-2.result.now))) (c.in_ok-lines.ensures.after ∙ c.in_ok-dat.ensures.after) c.in_err-placed.ensures.refused in
    rw (p.1, p.2) (placing_refused_told _ name dat.bytes opt.bytes table c.as_slice-2.result.now c.deref.result.now given named dat.file.told dat.says at (opt.says ∙ ap Ok (sym c.as_slice-2.ensures)) docs bad)

pub returns-clause-planned : goal.returns-clause-planned
returns-clause-planned g c =
    let named : is_batch_name c.args.name.now ≡ true = search rules in
    let name = c.args.name.now in
    let dat = c.in_ok-dat.ensures.read in
    let opt = c.in_ok-lines.ensures.read in
    let placed = c.in_ok-placed.ensures.placed in
    let words = placed.words in
    let table = c.in_ok-dat.dat in
    let docs : c.in_ok-docs.docs.items ≡ records_of table =
    c.in_ok-docs.ensures
    ∙ ap (λ cs. records_of (record { columns = cs; rows = c.into_parts-columns.result.1 })) (c.as_slice.ensures ∙ c.into_parts-columns.ensures.columns)
    ∙ ap (λ rs. records_of (record { columns = table.columns; rows = rs })) c.into_parts-columns.ensures.rows in
    let at = subst (λ v. IfSome v.files (λ files. batch_file_at files (opt_path name) OPT 0 ≡ Ok opt.bytes)) c.in_ok-dat.ensures.after opt.file.told in
    let at' = subst (λ v. IfSome v.files (λ files. batch_file_at files (words_path name) WORDS 0 ≡ Ok words.bytes)) (c.in_ok-lines.ensures.after ∙ c.in_ok-dat.ensures.after) words.file.told in
    record {
      dat = dat.bytes;
      opt = opt.bytes;
      csv = words.bytes;
      table = table;
      told = files_told _ name dat.bytes opt.bytes words.bytes dat.file.told at at';
      digest = words.file.taken (dat.bytes ∷ opt.bytes ∷ []) (opt.file.taken (dat.bytes ∷ []) (dat.file.taken [] c.new-digest.ensures));
      short_dat = dat.file.short;
      short_opt = opt.file.short;
      short_csv = words.file.short;
      named = named;
      tabled = dat.says;
      fields = c.fields_of.ensures ∙ ap fields_of c.into_parts-columns.ensures.columns;
      docs = docs;
      lines = opt.says;
      breaks = ap (λ ds. breaks_of ds c.in_ok-lines.lines) (sym c.deref.ensures.value) ∙ ap (breaks_of c.deref.result.now) (sym c.as_slice-2.ensures) ∙ placed.breaks;
      parents = ap parents_of (sym c.deref.ensures.value) ∙ placed.parents;
      words = words.says;
      places = ap (λ ls. places_of ls c.in_ok-placed.placed.words) (sym c.as_slice-2.ensures) ∙ placed.places;
    }
