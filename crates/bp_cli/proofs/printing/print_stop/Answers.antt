use Rattle.std.proofs.Common.{Err, ap, sym, subst, inr}
use Rattle.bp_cli.specs.declared.stops.Stop.{Stop}
use Rattle.bp_cli.specs.Endings.{ending_text, status_of}
use Rattle.bp_cli.specs.Printing.{Prints}
use Rattle.bp_cli.proofs.printing.print_stop.Goals as goal

pub returns-in-WordsRefused : goal.returns-in-WordsRefused
returns-in-WordsRefused g c =
    subst (λ (s : Stop). Prints (ending_text (Err s)) (status_of (Err s)) (g.O.Out.shows c.args.out.now) (g.O.Out.shows c.print.new.out) c.print.result)
    (sym c.in-WordsRefused.is) c.print.ensures

pub returns-in-SourceFault : goal.returns-in-SourceFault
returns-in-SourceFault g c =
    subst (λ (s : Stop). Prints (ending_text (Err s)) (status_of (Err s)) (g.O.Out.shows c.args.out.now) (g.O.Out.shows c.print-in-SourceFault.new.out) c.print-in-SourceFault.result)
    (sym c.in-SourceFault.is) c.print-in-SourceFault.ensures

pub returns-in-FolderFault : goal.returns-in-FolderFault
returns-in-FolderFault g c =
    subst (λ (s : Stop). Prints (ending_text (Err s)) (status_of (Err s)) (g.O.Out.shows c.args.out.now) (g.O.Out.shows c.print-in-FolderFault.new.out) c.print-in-FolderFault.result)
    (sym c.in-FolderFault.is) c.print-in-FolderFault.ensures

pub returns-in-KeeperFault : goal.returns-in-KeeperFault
returns-in-KeeperFault g c =
    subst (λ (s : Stop). Prints (ending_text (Err s)) (status_of (Err s)) (g.O.Out.shows c.args.out.now) (g.O.Out.shows c.print-in-KeeperFault.new.out) c.print-in-KeeperFault.result)
    (sym c.in-KeeperFault.is) c.print-in-KeeperFault.ensures

pub returns-in-OutOfMemory : goal.returns-in-OutOfMemory
returns-in-OutOfMemory g c = c.print_lack.ensures.lacks _ _ (inr (ap (λ (s : Stop). status_of (Err s)) c.in-OutOfMemory.is))
