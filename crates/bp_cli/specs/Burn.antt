-- The command `burn`: its line, what it comes to, and what it withholds.
use Rattle.std.specs.Prelude.{ℕ, ◌≡◌, ◌≤◌, ◌==◌, ◌||◌, Bool, true, false, not}
use Rattle.std.specs.Prelude.{nat_lt, Option, Some, None, Result, Ok, Err, List, [], ◌∷◌}
use Rattle.std.specs.Prelude.{◌++◌, length, codes, IfSome, if◌then◌else◌}
use Rattle.std.specs.Fmt.{decimal}
use Rattle.std.specs.FinMap as map
use Rattle.std.specs.Str.{bytes_eq, chars}
use Rattle.bp_core.specs.declared.rectangle.Rect.{Rect}
use Rattle.bp_core.specs.declared.rules.Rule.{Rule}
use Rattle.bp_core.specs.declared.rules.RuleKind.TheVariants as kinds
use Rattle.bp_core.specs.Paths.{path_in}
use Rattle.bp_core.specs.Rectangle.{lies_inside}
use Rattle.bp_core.specs.Rules.{bare_rule, page_limit_rule}
use Rattle.bp_outside.specs.Source.{FileMap}
use Rattle.bp_outside.specs.Folder.{file}
use Rattle.bp_rows.specs.Image.{Image}
use Rattle.bp_rows.specs.Burned.{burned, AgreeOutside}
use Rattle.bp_rows.specs.Limits.{sides_are_imported}
use Rattle.bp_tiff.specs.declared.form.Form.{Form}
use Rattle.bp_tiff.specs.declared.form.Form.TheVariants.{Plain, G4}
use Rattle.bp_tiff.specs.Tiff.{tiff_of}
use Rattle.bp_tiff.specs.Read.{TiffReads, TiffAnswers}
use Rattle.bp_cli.specs.declared.burn.Burn.{Burn}
use Rattle.bp_cli.specs.declared.burn.TheConstants.{FILE_LIMIT}
use Rattle.bp_cli.specs.Words.{operand_number, word_of, ◌>>=◌}
use Rattle.bp_cli.specs.Endings.{Outcome, done, refused, line_of}

-- ---- its line

-- burn IN L T W H OUT FORM: the paths as characters, and the box
pub record BurnLine : Type 0 where
  pub from : List ℕ
  pub area : Rect
  pub to : List ℕ
  pub form : Form

-- the words of burn as contracts see them
abbrev pub burn_seen : Burn → BurnLine
burn_seen b = record { from = chars b.from.now; area = b.area; to = chars b.to.now; form = b.form }

-- the form that a word names
abbrev pub form_of : List ℕ → Option Form
form_of word =
    if bytes_eq word (codes "plain")
    then Some Plain
    else (if bytes_eq word (codes "g4") then Some G4 else None)

-- the box of four words
abbrev pub box_of_words : List ℕ → List ℕ → List ℕ → List ℕ → Option Rect
box_of_words left top width height = do
  l ← operand_number left
  t ← operand_number top
  w ← operand_number width
  h ← operand_number height
  Some (record { left = l; top = t; width = w; height = h })

-- the command line of its operands, box and form
abbrev pub line_with : List (List ℕ) → Rect → Form → BurnLine
line_with operands area form =
    let from = chars (word_of operands 0) in
    let to = chars (word_of operands 5) in
    record { from = from; area = area; to = to; form = form }

-- the seven operands
abbrev pub burn_of : List (List ℕ) → Option BurnLine
burn_of operands =
    if length operands == 7
    then (do
      area ← box_of_words (word_of operands 1) (word_of operands 2) (word_of operands 3)
          (word_of operands 4)
      form ← form_of (word_of operands 6)
      Some (line_with operands area form))
    else None

-- ---- its paths

-- where the page stands, and where the file is put
pub record BurnPaths : Type 0 where
  pub from : List ℕ
  pub to : List ℕ

-- the paths that IN and OUT name, if both name one
abbrev pub burn_paths : BurnLine → Option BurnPaths
burn_paths b = do
  from ← path_in b.from
  to ← path_in b.to
  Some (record { from = from; to = to })

-- a path that is refused
abbrev pub path_refused : Rule
path_refused = bare_rule kinds.PathRefused

-- ---- what it comes to

-- a side is 0
abbrev pub lacks_a_side : Rect → Bool
lacks_a_side area = area.width == 0 || area.height == 0

-- the page with the box burned, or the first rule: its sides are within the limits of an import,
-- and the box has sides and lies inside
abbrev pub burn_page : Rect → Image → Result Image Rule
burn_page area p =
    if not (sides_are_imported p.width p.height) then Err (page_limit_rule p.width p.height)
    else (if lacks_a_side area then Err (bare_rule kinds.BoxShape)
    else (if lies_inside area p.width p.height then Ok (burned p (area ∷ []))
    else Err (bare_rule kinds.BoxOutside)))

-- the page that was read, burned, or the rule of reading
abbrev pub burn_read : Rect → Result Image Rule → Result Image Rule
burn_read area (Ok p) = burn_page area p
burn_read area (Err rule) = Err rule

-- the page that a file holds, or the first rule that is broken before there is one
abbrev pub PageFileAnswers : List ℕ → Result Image Rule → Type 0
PageFileAnswers bytes answer = elim (nat_lt FILE_LIMIT (length bytes)) [
  | true ↦ answer ≡ Err (bare_rule kinds.FileTooLong)
  | false ↦ TiffAnswers bytes answer
]

-- the same of what stands at a path
abbrev pub PathAnswers : Option (List ℕ) → Result Image Rule → Type 0
PathAnswers None answer = answer ≡ Err (bare_rule kinds.FileAbsent)
PathAnswers (Some bytes) answer = PageFileAnswers bytes answer

-- `burned N`, N the bytes of the file
abbrev pub counted_line : ℕ → List ℕ
counted_line count = line_of (codes "burned " ++ decimal count)

-- what burn leaves: one file, and its line
abbrev pub burn_done : List ℕ → List ℕ → Outcome
burn_done to bytes = done (counted_line (length bytes)) (file to bytes ∷ []) None

-- the file of the burned page is put, or the rule is met
abbrev pub burn_gives : Form → List ℕ → Result Image Rule → Outcome
burn_gives form to (Ok p) = burn_done to (tiff_of form p)
burn_gives form to (Err rule) = refused rule

-- over the files of a source, with these paths
pub record BurnsAt (b : BurnLine) (paths : BurnPaths) (files : FileMap) (outcome : Outcome)
    : Type 0 where
  pub answer : Result Image Rule
  pub found : PathAnswers (map.get files paths.from) answer
  pub gives : burn_gives b.form paths.to (burn_read b.area answer) ≡ outcome

-- what the command comes to: first IN and OUT are to name paths
abbrev pub BurnComes : BurnLine → FileMap → Outcome → Type 0
BurnComes b files outcome = elim (burn_paths b) [
  | None ↦ outcome ≡ refused path_refused
  | Some paths ↦ BurnsAt b paths files outcome
]

-- the outcome over the files that a source tells, or over some where it tells none
pub record BurnOutcome (b : BurnLine) (told : Option FileMap) (outcome : Outcome) : Type 0 where
  pub files : FileMap
  pub same : IfSome told (λ there. there ≡ files)
  pub comes : BurnComes b files outcome

-- ---- what it withholds: what the box covers

-- a file that can be read stands at the path that a text names, and holds this page
pub record HoldsPageAt (files : FileMap) (text : List ℕ) (page : Image) : Type 0 where
  pub path : List ℕ
  pub named : path_in text ≡ Some path
  pub bytes : List ℕ
  pub there : map.get files path ≡ Some bytes
  pub short : length bytes ≤ FILE_LIMIT
  pub reads : TiffReads bytes page

-- both have at IN a file, and the pages of these two agree outside the box; the files may be of any
-- form
pub record BurnAlike (b : BurnLine) (files files' : FileMap) : Type 0 where
  pub page : Image
  pub page' : Image
  pub has : HoldsPageAt files b.from page
  pub has' : HoldsPageAt files' b.from page'
  pub agree : AgreeOutside (b.area ∷ []) page page'
