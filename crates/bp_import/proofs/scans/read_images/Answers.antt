use Rattle.std.proofs.Common.{◌+◌, ◌∙◌, Ok, Err, ap, length, subst, rules}
use Rattle.std.proofs.lemmas.List.{length_push}
use Rattle.std.specs.Prelude.{IfSome}
use Rattle.bp_import.specs.Importing.{Comes}
use Rattle.bp_import.specs.Scans.{LineAnswers, Scan, scan_seen}
use Rattle.bp_import.specs.declared.scans.ScanFile.{ScanFile}
use Rattle.bp_import.proofs.PageFactLemmas.{one_comes}
use Rattle.bp_import.proofs.ScanTurns.{if_next, if_refused, if_whole}
use Rattle.bp_import.proofs.scans.read_images.Goals as goal

pub returns-in-Err-clause-told : goal.returns-in-Err-clause-told
returns-in-Err-clause-told g c =
    let l = c.loop-line in
    let one = subst (λ v. IfSome v.files (λ files. Comes {X = ScanFile} {V = Scan} scan_seen (LineAnswers files c.args.name.now (l.number + 1) c.in-Some.line.now) (Err c.in-Err.refusal))) l.invariant.same c.in-Err.ensures.told in
    if_refused _ c.args.name.now c.args.lines.now (l.number + 1) c.in-Some.line.now l.rest.now c.in-Some.others.now c.args.digest l.digest l.pages.items c.in-Err.refusal l.invariant.told (search rules) one

pub loop-line-preserved : goal.loop-line-preserved
loop-line-preserved g c =
    let l = c.loop-line in
    let scan = scan_seen c.in-Ok.scan in
    let one = subst (λ v. IfSome v.files (λ files. LineAnswers files c.args.name.now (l.number + 1) c.in-Some.line.now (Ok scan))) l.invariant.same c.in-Ok.ensures.told in
    record {
      same = c.in-Ok.ensures.after ∙ l.invariant.same;
      pages = ap length c.in_ok-push.ensures.items ∙ length_push l.pages.items scan.page ∙ ap (λ n. n + 1) l.invariant.pages;
      fits = one_comes l.pages.items c.push.new.self.items scan.page l.invariant.fits c.in-Ok.ensures.fits c.in_ok-push.ensures.items;
      counted = search rules;
      told = if_next _ c.args.name.now c.args.lines.now (l.number + 1) c.in-Some.line.now l.rest.now c.in-Some.others.now c.args.digest l.digest c.take.new.self l.pages.items c.push.new.self.items scan c.deref.result.now l.invariant.told (search rules) one c.take.ensures c.deref.ensures.value c.in_ok-push.ensures.items;
    }

pub returns-clause-told : goal.returns-clause-told
returns-clause-told g c =
    let l = c.loop-line in
    if_whole _ c.args.name.now c.args.lines.now (l.number + 1) l.rest.now c.args.digest l.digest l.pages.items _ l.invariant.told c.in_default.ensures.cases c.from_vec.ensures c.finish.ensures
