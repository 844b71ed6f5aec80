-- Lemmas of the work of a run that ends before a command begins: nothing was read or asked.
use Rattle.std.proofs.Common.{ℕ, ◌≡◌, Bool, true, false, Option, Some, None, Err, refl, sym, subst, inl, inr}
use Rattle.std.specs.Result.{IsErr, IsErrAnd}
use Rattle.bp_outside.specs.Source.{SourceView}
use Rattle.bp_outside.specs.Folder.{FolderView}
use Rattle.bp_keep.specs.Keeper.{KeeperView}
use Rattle.bp_cli.specs.declared.stops.Stop.{Stop}
use Rattle.bp_cli.specs.declared.stops.Stop.TheVariants as stops
use Rattle.bp_rules.specs.Steps.{never}
use Rattle.bp_cli.specs.Commands.{CommandLine, burn, init, import, produce, press, log, check, claw, demo, ReadsAndWorks, ReadsAsOften, Works, uses_by, uses_of}
use Rattle.bp_cli.specs.Endings.{CallsKeeper, Ending, Uses, untouched, world}
use Rattle.bp_cli.proofs.BurnLemmas.{unused}
use Rattle.bp_cli.proofs.KeptLemmas.{by_stop, never_rose, rows_itself, told_itself}

uncalled : (uses : Uses) (k : KeeperView) → CallsKeeper uses k k
uncalled uses k = record { loads = never_rose uses.rows k.loads k.loads refl; commits = never_rose uses.commits k.commits k.commits refl }

-- nothing was read
nothing_read : (command : Option CommandLine) (s : SourceView) (k : KeeperView) (f : FolderView) (e : Ending) → Works command (world s k f) e (world s k f) → ReadsAndWorks command (world s k f) e (world s k f)
nothing_read command s k f e works = record {
  read = k.rows;
  rows = record { same = rows_itself k.rows; told = told_itself k.rows };
  left = works;
  calls = uncalled (uses_by command) k;
}

lacked_works : (command : Option CommandLine) (s : SourceView) (k : KeeperView) (f : FolderView) → Works command (world s k f) (Err stops.OutOfMemory) (world s k f)
lacked_works None s k f = record { stop = inr refl; same = refl }
lacked_works (Some c) s k f = untouched refl (unused k) refl

-- memory to read the words lacked
pub words_lacked : (command : Option CommandLine) (s : SourceView) (k : KeeperView) (f : FolderView) (e : Ending) → IsErr e → IsErrAnd e (λ x. x ≡ stops.OutOfMemory) → ReadsAndWorks command (world s k f) e (world s k f)
words_lacked command s k f e is stop =
    by_stop (λ r. ReadsAndWorks command (world s k f) r (world s k f)) (λ x. x ≡ stops.OutOfMemory) e is stop
    (λ x same. subst (λ (y : Stop). ReadsAndWorks command (world s k f) (Err y) (world s k f)) (sym same)
    (nothing_read command s k f (Err stops.OutOfMemory) (lacked_works command s k f)))

refused_works : (s : SourceView) (k : KeeperView) (f : FolderView) → Works None (world s k f) (Err stops.WordsRefused) (world s k f)
refused_works s k f = record { stop = inl refl; same = refl }

-- the words are no command
pub words_refused : (command : Option CommandLine) (s : SourceView) (k : KeeperView) (f : FolderView) → None ≡ command → ReadsAndWorks command (world s k f) (Err stops.WordsRefused) (world s k f)
words_refused command s k f is =
    subst (λ (o : Option CommandLine). ReadsAndWorks o (world s k f) (Err stops.WordsRefused) (world s k f)) is
    (nothing_read None s k f (Err stops.WordsRefused) (refused_works s k f))

-- nothing was read from the source
pub never_read : (command : Option CommandLine) (n : ℕ) → ReadsAsOften command n n
never_read None n = refl
never_read (Some (burn b)) n = never refl
never_read (Some (init digest)) n = refl
never_read (Some (import name)) n = tt
never_read (Some (produce q)) n = refl
never_read (Some (press id)) n = refl
never_read (Some (log id)) n = refl
never_read (Some (check asked)) n = tt
never_read (Some (claw asked)) n = never refl
never_read (Some (demo asked)) n = refl
