-- What a folder comes to: something, and only one thing.
use Rattle.std.proofs.Common.{◌≡◌, ℕ, ◌+◌, Result, Ok, Err, List, [], ◌∷◌, refl, sym, ap, ◌∙◌}
use Rattle.bp_core.specs.InTurn.{onto}
use Rattle.bp_core.specs.declared.rules.Rule.{Rule}
use Rattle.bp_load.specs.declared.opt.OptLine.{OptLine}
use Rattle.bp_matter.specs.Batches.{BatchShown}
use Rattle.bp_outside.specs.Source.{FileMap}
use Rattle.bp_rows.specs.Image.{Image}
use Rattle.bp_tiff.specs.Read.{TiffAnswers}
use Rattle.bp_import.specs.Batch.{BatchAnswers, Plan, PlanAnswers, batch_by, plan_of}
use Rattle.bp_import.specs.Scans.{FileAnswers, LineAnswers, LinesAnswer, Scan, scanned_image_at, refused, scan_read, scanned}
use Rattle.bp_core.specs.RuleSteps.{◌>>=◌}

-- each image file has an answer, and only one
pub record OneTiff : Type 0 where
  pub some : (bytes : List ℕ) → (answer : Result Image Rule) × TiffAnswers bytes answer
  pub only : (bytes : List ℕ) (first second : Result Image Rule)
      → TiffAnswers bytes first → TiffAnswers bytes second → first ≡ second

-- ---- something

some_file : OneTiff → (n : ℕ) (file : Result (List ℕ) Rule) → (answer : Result Scan Rule) × FileAnswers n file answer
some_file tiff n (Err rule) = (Err rule, refl)
some_file tiff n (Ok bytes) =
    let read = tiff.some bytes in
    (scan_read n bytes read.0, record { read = read.0; reads = read.1; gives = refl })

some_turn : OneTiff → (files : FileMap) (name : List ℕ) (n : ℕ) (line : OptLine) (lines : List OptLine) (first : Result Scan Rule)
    → LineAnswers files name n line first
    → (others : Result (List Scan) Rule) → LinesAnswer files name (n + 1) lines others
    → (answer : Result (List Scan) Rule) × LinesAnswer files name n (line ∷ lines) answer
some_turn tiff files name n line lines (Err rule) one others rest = (Err rule, refused rule one refl)
some_turn tiff files name n line lines (Ok scan) one others rest = (onto scan others, scanned scan others one rest refl)

some_lines : OneTiff → (files : FileMap) (name : List ℕ) (n : ℕ) (lines : List OptLine)
    → (answer : Result (List Scan) Rule) × LinesAnswer files name n lines answer
some_lines tiff files name n [] = (Ok [], refl)
some_lines tiff files name n (line ∷ lines) =
    let one = some_file tiff n (scanned_image_at files name n line) in
    let rest = some_lines tiff files name (n + 1) lines in
    some_turn tiff files name n line lines one.0 one.1 rest.0 rest.1

some_plan : OneTiff → (files : FileMap) (plan : Result Plan Rule) → (answer : Result BatchShown Rule) × PlanAnswers files plan answer
some_plan tiff files (Err rule) = (Err rule, refl)
some_plan tiff files (Ok plan) =
    let scans = some_lines tiff files plan.name 1 plan.lines in
    (scans.0 >>= batch_by plan, record { scans = scans.0; read = scans.1; gives = refl })

pub some_batch : OneTiff → (files : FileMap) (name : List ℕ) → (answer : Result BatchShown Rule) × BatchAnswers files name answer
some_batch tiff files name = some_plan tiff files (plan_of files name)

-- ---- only one thing

same_file : OneTiff → (n : ℕ) (file : Result (List ℕ) Rule) (first second : Result Scan Rule)
    → FileAnswers n file first → FileAnswers n file second → first ≡ second
same_file tiff n (Err rule) first second one two = one ∙ sym two
same_file tiff n (Ok bytes) first second one two =
    one.gives ∙ ap (scan_read n bytes) (tiff.only bytes one.read two.read one.reads two.reads) ∙ sym two.gives

same_lines : OneTiff → (files : FileMap) (name : List ℕ) (n : ℕ) (lines : List OptLine) (first second : Result (List Scan) Rule)
    → LinesAnswer files name n lines first → LinesAnswer files name n lines second → first ≡ second
same_lines tiff files name n [] first second one two = one ∙ sym two
same_lines tiff files name n (line ∷ lines) first second (refused rule one is) (refused other two too) =
    let e = same_file tiff n (scanned_image_at files name n line) (Err rule) (Err other) one two in cc
same_lines tiff files name n (line ∷ lines) first second (refused rule one is) (scanned scan others two rest too) =
    let e = same_file tiff n (scanned_image_at files name n line) (Err rule) (Ok scan) one two in cc
same_lines tiff files name n (line ∷ lines) first second (scanned scan others one rest is) (refused rule two too) =
    let e = same_file tiff n (scanned_image_at files name n line) (Ok scan) (Err rule) one two in cc
same_lines tiff files name n (line ∷ lines) first second (scanned scan others one rest is) (scanned scan' others' two rest' too) =
    let e = same_file tiff n (scanned_image_at files name n line) (Ok scan) (Ok scan') one two in
    let same : scan ≡ scan' = cc in
    let tail : others ≡ others' = same_lines tiff files name (n + 1) lines others others' rest rest' in
    is ∙ ap (λ s. onto s others) same ∙ ap (onto scan') tail ∙ sym too

same_plan : OneTiff → (files : FileMap) (plan : Result Plan Rule) (first second : Result BatchShown Rule)
    → PlanAnswers files plan first → PlanAnswers files plan second → first ≡ second
same_plan tiff files (Err rule) first second one two = one ∙ sym two
same_plan tiff files (Ok plan) first second one two =
    one.gives
    ∙ ap (λ scans. scans >>= batch_by plan) (same_lines tiff files plan.name 1 plan.lines one.scans two.scans one.read two.read)
    ∙ sym two.gives

pub same_batch : OneTiff → (files : FileMap) (name : List ℕ) (first second : Result BatchShown Rule)
    → BatchAnswers files name first → BatchAnswers files name second → first ≡ second
same_batch tiff files name first second one two = same_plan tiff files (plan_of files name) first second one two
