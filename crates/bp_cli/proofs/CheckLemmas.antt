-- Lemmas of check: from what the check of the volume answered to the outcome of the command, of
-- which there is one.
use Rattle.std.proofs.Common.{ℕ, ◌≡◌, true, List, [], ◌++◌, append_assoc, Option, Some, None, Result, Ok, Err, refl, sym, ap, subst, ◌∙◌}
use Rattle.std.proofs.Math.Path.{fun_ext}
use Rattle.std.specs.Prelude.{IfSome}
use Rattle.std.specs.Result.{IsErr, IsErrAnd}
use Rattle.bp_core.specs.declared.rules.Rule.{Rule}
use Rattle.bp_core.specs.declared.rules.RuleKind.{RuleKind}
use Rattle.bp_core.specs.declared.rules.RuleKind.TheVariants as kinds
use Rattle.bp_outside.specs.Source.{FileMap, SourceView}
use Rattle.bp_outside.specs.Folder.{FolderView}
use Rattle.bp_rows.specs.Image.{Image}
use Rattle.bp_tiff.specs.Read.{TiffAnswers}
use Rattle.bp_tiff.proofs.OneAnswerLemmas.{OneAnswer}
use Rattle.bp_check.specs.Check.{Operands, check_of}
use Rattle.bp_check.specs.Checking.{ChecksAs, after_check_step}
use Rattle.bp_check.specs.Checking as checking
use Rattle.bp_check.specs.Images.{IsTiff, Judging}
use Rattle.bp_check.specs.declared.checked.Checked.{Checked}
use Rattle.bp_check.specs.declared.refusals.ImportRefusal.{ImportRefusal}
use Rattle.bp_check.specs.declared.refusals.ImportRefusal.TheVariants as refusals
use Rattle.bp_import.specs.Importing.{after_kind}
use Rattle.bp_keep.specs.Keeper.{KeeperView}
use Rattle.bp_cli.specs.declared.stops.Stop.{Stop}
use Rattle.bp_cli.specs.declared.stops.Stop.TheVariants as stops
use Rattle.bp_cli.specs.Check.{CheckOutcome, StopsForCheck, check_gives, checked_line}
use Rattle.bp_cli.specs.Commands.{check, uses_of, IsOutcome, ReadsAndWorks}
use Rattle.bp_cli.specs.Endings.{Outcome, Ending, Ends, done, untouched, world}
use Rattle.bp_cli.proofs.BurnLemmas.{unused}
use Rattle.bp_cli.proofs.KeptLemmas.{by_stop, rows_itself, told_itself}

-- each file is read as a page, or breaks a rule
abbrev pub SomeAnswer : Type 0
SomeAnswer = (bytes : List ℕ) → (answer : Result Image Rule) × TiffAnswers bytes answer

-- ---- one outcome

-- one reading of TIFF files
judging : SomeAnswer → Judging
judging some bytes = (some bytes).0

judging_is : (some : SomeAnswer) → IsTiff (judging some)
unfolding judging
judging_is some bytes = (some bytes).1

-- and there is no other
one_judging : OneAnswer → (tiff tiff' : Judging) → IsTiff tiff → IsTiff tiff' → tiff ≡ tiff'
one_judging one tiff tiff' is is' = fun_ext (λ bytes. one bytes (tiff bytes) (tiff' bytes) (is bytes) (is' bytes))

pub check_one : OneAnswer → (asked : Operands) (files : FileMap) (o o' : Outcome) → CheckOutcome asked (Some files) o → CheckOutcome asked (Some files) o' → o ≡ o'
check_one one asked files o o' x y =
    let same : x.answer ≡ y.answer = sym x.found ∙ ap (λ (tiff : Judging). check_of files tiff asked) (one_judging one x.tiff y.tiff x.reads y.reads) ∙ y.found in
    sym x.gives ∙ ap check_gives same ∙ y.gives

pub some_check : SomeAnswer → (asked : Operands) (files : FileMap) → (o : Outcome) × CheckOutcome asked (Some files) o
some_check some asked files =
    let answer = check_of files (judging some) asked in
    (check_gives answer, record { tiff = judging some; reads = judging_is some; answer = answer; found = refl; gives = refl })

-- ---- its line

-- six pieces of a text, however they are put together
pub pieces : (a b c d e f : List ℕ) → a ++ (b ++ (c ++ (d ++ (e ++ f)))) ≡ ((((a ++ b) ++ c) ++ d) ++ e) ++ f
pieces a b c d e f =
    sym (append_assoc (((a ++ b) ++ c) ++ d) e f ∙ append_assoc ((a ++ b) ++ c) d (e ++ f) ∙ append_assoc (a ++ b) c (d ++ (e ++ f)) ∙ append_assoc a b (c ++ (d ++ (e ++ f))))

-- ---- the source that a check leaves

-- the two crates that read from a source say alike what a rule leaves of it
same_kind : (source : SourceView) (kind : RuleKind) → checking.after_rule source kind ≡ after_kind source kind
same_kind source kinds.FileAbsent = refl
same_kind source kinds.FileTooLong = refl
same_kind source _ = refl

-- ---- what the check of the volume answered

-- what the work of check leaves, with the keeper and the folder that it doesn't use
abbrev pub CheckEnds : Operands → SourceView → Ending → SourceView → Type 0
CheckEnds asked s r s' = (keeper : KeeperView) (folder : FolderView)
    → Ends (uses_of (check asked)) (IsOutcome (check asked) (world s keeper folder)) (world s keeper folder) r (world s' keeper folder)

told_numbers : (told : Option FileMap) (asked : Operands) (tiff : Judging) (checked : Checked) → IsTiff tiff → IfSome told (λ files. ChecksAs files asked (Ok checked)) → IfSome told (λ files. check_of files tiff asked ≡ Ok checked)
told_numbers None asked tiff checked is answered = tt
told_numbers (Some files) asked tiff checked is answered = answered tiff is

told_rule : (told : Option FileMap) (asked : Operands) (tiff : Judging) (rule : Rule) → IsTiff tiff → IfSome told (λ files. ChecksAs files asked (Err (refusals.Rule rule))) → IfSome told (λ files. check_of files tiff asked ≡ Err rule)
told_rule None asked tiff rule is answered = tt
told_rule (Some files) asked tiff rule is answered = answered tiff is

-- its numbers were told; the operands are those that were asked
pub checked_ends : SomeAnswer → (asked named : Operands) (s s' : SourceView) (checked : Checked) (line : List ℕ) → named ≡ asked → IfSome s.files (λ files. ChecksAs files named (Ok checked)) → s' ≡ s → line ≡ checked_line checked → CheckEnds asked s (Ok line) s'
checked_ends some asked named s s' checked line same answered stays is = λ keeper folder. record {
  files = [];
  rows = None;
  outcome = subst (λ (l : List ℕ). CheckOutcome asked s.files (done l [] None)) (sym is)
      (record {
        tiff = judging some;
        reads = judging_is some;
        answer = Ok checked;
        found = told_numbers s.files asked (judging some) checked (judging_is some)
            (subst (λ (o : Operands). IfSome s.files (λ files. ChecksAs files o (Ok checked))) same answered);
        gives = refl;
      });
  source = stays;
  keeper = unused keeper;
  folder = refl;
}

-- or it stopped
stop_ends : SomeAnswer → (asked : Operands) (s s' : SourceView) (refusal : ImportRefusal) → IfSome s.files (λ files. ChecksAs files asked (Err refusal)) → s' ≡ after_check_step {X = Checked} s (Err refusal) → (stop : Stop) → StopsForCheck refusal stop → CheckEnds asked s (Err stop) s'
stop_ends some asked s s' (refusals.Rule rule) answered left stop is =
    subst (λ (x : Stop). CheckEnds asked s (Err x) s') (sym is)
    (λ keeper folder. record {
      outcome = record {
        tiff = judging some;
        reads = judging_is some;
        answer = Err rule;
        found = told_rule s.files asked (judging some) rule (judging_is some) answered;
        gives = refl;
      };
      source = left ∙ same_kind s rule.kind;
      keeper = unused keeper;
      quiet = refl;
      folder = refl;
    })
stop_ends some asked s s' refusals.SourceFault answered left stop is =
    subst (λ (x : Stop). CheckEnds asked s (Err x) s') (sym is)
    (λ keeper folder. record { used = refl; source = left; keeper = unused keeper; folder = refl })
stop_ends some asked s s' refusals.OutOfMemory answered left stop is =
    subst (λ (x : Stop). CheckEnds asked s (Err x) s') (sym is)
    (λ keeper folder. untouched left (unused keeper) refl)

-- by the result that a `?` hands on
pub refused_ends : SomeAnswer → (asked named : Operands) (s s' : SourceView) (refusal : ImportRefusal) (r : Ending) → IsErr r → IsErrAnd r (StopsForCheck refusal) → named ≡ asked
    → IfSome s.files (λ files. ChecksAs files named (Err refusal)) → s' ≡ after_check_step {X = Checked} s (Err refusal) → CheckEnds asked s r s'
refused_ends some asked named s s' refusal r is stop same answered left =
    by_stop (λ e. CheckEnds asked s e s') (StopsForCheck refusal) r is stop
    (stop_ends some asked s s' refusal (subst (λ (o : Operands). IfSome s.files (λ files. ChecksAs files o (Err refusal))) same answered) left)

-- memory for a text or for the line lacked
pub lacking_ends : (asked : Operands) (s s' : SourceView) (r : Ending) → IsErr r → IsErrAnd r (λ x. x ≡ stops.OutOfMemory) → s' ≡ s → CheckEnds asked s r s'
lacking_ends asked s s' r is stop stays =
    by_stop (λ e. CheckEnds asked s e s') (λ x. x ≡ stops.OutOfMemory) r is stop
    (λ x same. subst (λ (y : Stop). CheckEnds asked s (Err y) s') (sym same)
    (λ keeper folder. untouched stays (unused keeper) refl))

-- ---- the keeper that check leaves

pub check_reads : (asked : Operands) (s s' : SourceView) (k : KeeperView) (f : FolderView) (r : Ending) → CheckEnds asked s r s' → ReadsAndWorks (Some (check asked)) (world s k f) r (world s' k f)
check_reads asked s s' k f r ends = record {
  read = k.rows;
  rows = record { same = rows_itself k.rows; told = told_itself k.rows };
  left = ends k f;
  calls = record { loads = refl; commits = refl };
}
