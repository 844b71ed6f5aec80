use Rattle.std.proofs.Common.{sym, ap, ◌∙◌}
use Rattle.bp_press.specs.Paths.{data_path}
use Rattle.bp_press.specs.VolumeFiles.{entry_path}
use Rattle.bp_press.proofs.FindLemmas.{found_same}
use Rattle.bp_press.proofs.NameLemmas.{chars_dat, chars_log, chars_opt}
use Rattle.bp_press.proofs.file_rows.file_path.Goals as goal

pub returns-in-Dat : goal.returns-in-Dat
returns-in-Dat c =
    found_same c.data_path.result _ _ (ap (data_path c.args.production.now.request) chars_dat ∙ sym (ap (entry_path c.args.production.now) c.in-Dat.is)) c.data_path.ensures

pub returns-in-Opt : goal.returns-in-Opt
returns-in-Opt c =
    found_same c.data_path-in-Opt.result _ _ (ap (data_path c.args.production.now.request) chars_opt ∙ sym (ap (entry_path c.args.production.now) c.in-Opt.is)) c.data_path-in-Opt.ensures

pub returns-in-Log : goal.returns-in-Log
returns-in-Log c =
    found_same c.data_path-in-Log.result _ _ (ap (data_path c.args.production.now.request) chars_log ∙ sym (ap (entry_path c.args.production.now) c.in-Log.is)) c.data_path-in-Log.ensures
