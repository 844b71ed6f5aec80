use Rattle.std.proofs.Common.{◌++◌, ap, sym, ◌∙◌, arith}
use Rattle.std.specs.List.{list_all, flat_map}
use Rattle.std.specs.Str.{all_scalars}
use Rattle.std.proofs.lemmas.List.{take_all}
use Rattle.bp_load.specs.Dat.{dat_of, dat_line_text}
use Rattle.bp_load.proofs.DatWrittenLemmas.{reads_back}
use Rattle.bp_load.proofs.dat.write_dat.Goals as goal

pub returns-clause-read_back : goal.returns-clause-read_back
returns-clause-read_back c =
    let dat = c.args.dat.now in
    let whole = take_all c.loop-row.row-index c.as_slice-row-items.result.now (omega arith) ∙ c.as_slice-row-items.ensures ∙ c.rows.ensures.rows in
    let names = c.as_slice.ensures ∙ c.columns.ensures in
    ap dat_of (c.from_vec.ensures ∙ ap (λ v. v.items) c.into_bytes.ensures.value ∙ c.loop-row.invariant.written ∙ ap (λ rows. dat_line_text dat.columns ++ flat_map dat_line_text rows) whole)
    ∙ reads_back dat c.requires c.rows.ensures.even (ap (list_all all_scalars) (sym names) ∙ c.in_ok-write_line.ensures.scalars) (ap (list_all (list_all all_scalars)) (sym whole) ∙ c.loop-row.invariant.scalars)
