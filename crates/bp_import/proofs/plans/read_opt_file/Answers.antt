use Rattle.std.proofs.Common.{◌≡◌, ◌∙◌, Ok, List, ap, refl, sym, subst}
use Rattle.std.specs.Prelude.{codes}
use Rattle.std.specs.Str.{chars}
use Rattle.std.proofs.lemmas.Result.{err_from_is_err_and}
use Rattle.bp_load.specs.Opt.{opt_of}
use Rattle.bp_load.specs.declared.opt.OptLine.{OptLine}
use Rattle.bp_import.specs.Files.{below, opt_path, batch_file_at}
use Rattle.bp_import.specs.Planned.{PlanRefuses, TakesFile, file_said_at}
use Rattle.bp_import.specs.declared.files.TheConstants.{OPT}
use Rattle.bp_import.proofs.StepLemmas.{bad_after, bad_said, refuses_after, refuses_first, opt_calm, told_then}
use Rattle.bp_import.proofs.plans.read_opt_file.Goals as goal

named : chars (codes "load.opt") ≡ codes "load.opt"
unfolding chars
named = refl

pub returns-in_err-bytes-clause-refused : goal.returns-in_err-bytes-clause-refused
returns-in_err-bytes-clause-refused g c =
    let p = err_from_is_err_and c.from_residual.result c.from_residual.ensures.1 in
    let given = c.in_err-bytes.field-0.0 in
    let name = c.args.name.now in
    rw (p.1, p.2)
    (told_then _ _ (λ files. PlanRefuses given (file_said_at opt_of files (opt_path name) OPT)) c.in_err-bytes.ensures.refused
    (λ files bad. refuses_first given (batch_file_at files (opt_path name) OPT 0) opt_of (subst (λ f. PlanRefuses given (batch_file_at files (below name f) OPT 0)) named bad)))

pub returns-in_err-read_opt-clause-refused : goal.returns-in_err-read_opt-clause-refused
returns-in_err-read_opt-clause-refused g c =
    let name = c.args.name.now in
    bad_said {Y = List OptLine} {V = List OptLine} (λ lines. lines) c.from_residual-in_err-read_opt.result c.in_err-read_opt.field-0.0 (opt_of c.deref.result.now) _ (λ files. file_said_at opt_of files (opt_path name) OPT)
    c.from_residual-in_err-read_opt.ensures.1 c.in_err-read_opt.ensures
    (λ given bad. told_then _ _ (λ files. PlanRefuses given (file_said_at opt_of files (opt_path name) OPT)) c.in_ok-bytes.ensures.taken.told
    (λ files is. refuses_after given (batch_file_at files (opt_path name) OPT 0) c.deref.result.now opt_of
    (subst (λ f. batch_file_at files (below name f) OPT 0 ≡ Ok c.deref.result.now) named (is ∙ ap Ok (sym c.deref.ensures.value))) bad))

pub returns-in_err-read_opt-clause-after : goal.returns-in_err-read_opt-clause-after
returns-in_err-read_opt-clause-after g c =
    c.in_ok-bytes.ensures.after
    ∙ bad_after {Y = List OptLine} {V = List OptLine} (λ lines. lines) c.from_residual-in_err-read_opt.result c.in_err-read_opt.field-0.0 (opt_of c.deref.result.now) _
    (opt_calm c.deref.result.now) c.from_residual-in_err-read_opt.ensures.1 c.in_err-read_opt.ensures

pub returns-clause-read : goal.returns-clause-read
returns-clause-read g c =
    let name = c.args.name.now in
    let bytes = c.in_ok-bytes.bytes.items in
    record {
      bytes = bytes;
      file = subst (λ f. TakesFile (g.S.Source.shows c.args.source.now).files (below name f) OPT c.args.digest.now c.take_file.new.digest bytes) named c.in_ok-bytes.ensures.taken;
      says = ap opt_of (sym c.deref.ensures.value) ∙ c.in_ok-read_opt.ensures;
    }
