-- Files that are there, listed and of a length that is read: the steps of a check that read them pass.
use Rattle.std.proofs.Common.{◌≡◌, ℕ, ◌+◌, ◌≤◌, true, cond, Some, Result, Ok, Err, List, [], ◌∷◌, ◌++◌, length, map, refl, ap, ◌∙◌, arith}
use Rattle.std.specs.FinMap.{get}
use Rattle.std.specs.List.{AllByRecursion}
use Rattle.std.specs.Option.{ok_or}
use Rattle.std.specs.Str.{bytes_eq}
use Rattle.std.proofs.lemmas.Bool.{le-ltb, ne_eqb, or_left, or_right}
use Rattle.std.proofs.lemmas.Slice.Eq.{bytes_eq-Decides}
use Rattle.bp_core.specs.Paths.{path_in}
use Rattle.bp_core.specs.RuleSteps.{◌>>=◌}
use Rattle.bp_core.specs.Rules.{not_listed_rule, rule_at_line}
use Rattle.bp_core.specs.declared.rules.Rule.{Rule}
use Rattle.bp_core.specs.declared.rules.RuleKind.TheVariants.{DigestDiffers, FileTooLong, PathRefused}
use Rattle.bp_load.specs.declared.opt.OptLine.{OptLine}
use Rattle.bp_rows.specs.Image.{Image}
use Rattle.bp_outside.specs.Folder.{file}
use Rattle.bp_outside.specs.Source.{FileMap}
use Rattle.bp_outside.specs.declared.files.FileRow.{FileRow}
use Rattle.bp_check.specs.Columns.{is_textpath}
use Rattle.bp_check.specs.Files.{file_there, checked_file, file_rule}
use Rattle.bp_check.specs.Images.{Judging, ok_at_line, judged_image, images_of, path_at, text_there, texts_from, texts_there}
use Rattle.bp_check.specs.Listing.{digest_text, digests_by, listed_all, lists}
use Rattle.bp_check.specs.Manifest.{Listed}
use Rattle.bp_check.specs.Records.{record_of}
use Rattle.bp_check.specs.Steps.{must_pass, each, in_turn}
use Rattle.bp_check.specs.declared.files.TheConstants.{FILE_LIMIT, IMAGE, LISTED, TEXT}
use Rattle.bp_load.specs.Documents.{cell_under}

-- ---- a file

-- the file of this path is there, and isn't longer than is read
pub record CanBeRead (files : FileMap) (path bytes : List ℕ) : Type 0 where
  pub there : get files path ≡ Some bytes
  pub short : length bytes ≤ FILE_LIMIT

pub file_is_read : (files : FileMap) (which line : ℕ) (path bytes : List ℕ)
    → CanBeRead files path bytes
    → file_there files which line path ≡ Ok bytes
file_is_read files which line path bytes can =
    ap (checked_file which line) can.there
    ∙ ap (λ b. cond b (Err (file_rule FileTooLong which line)) (Ok bytes)) (le-ltb FILE_LIMIT (length bytes) can.short)

-- a text that names it, in a volume that lists it
pub record Names (files : FileMap) (listed : List Listed) (text path bytes : List ℕ) : Type 0 where
  pub named : path_in text ≡ Some path
  pub reads : CanBeRead files path bytes
  pub is_listed : lists listed path ≡ true

path_is : {files : FileMap} {listed : List Listed} {text path bytes : List ℕ} (n : ℕ)
    → Names files listed text path bytes
    → path_at n text ≡ Ok path
path_is n names = ap (λ o. ok_or o (rule_at_line PathRefused n)) names.named

-- ---- images

-- the image of a line is a page
pub record HasPage (files : FileMap) (listed : List Listed) (tiff : Judging) (line : OptLine) : Type 0 where
  pub path : List ℕ
  pub bytes : List ℕ
  pub page : Image
  pub names : Names files listed line.path path bytes
  pub is_page : tiff bytes ≡ Ok page

-- each path of these is listed
abbrev pub AreListed : List Listed → List (List ℕ) → Type 0
AreListed listed paths = AllByRecursion (λ path. lists listed path ≡ true) paths

image_passes : (files : FileMap) (listed : List Listed) (tiff : Judging) (n : ℕ) (line : OptLine)
    (has : HasPage files listed tiff line)
    → judged_image (file_there files) tiff n line ≡ Ok has.path
image_passes files listed tiff n line has =
    ap (λ r. r >>= (λ path. file_there files IMAGE n path >>= (λ bytes. ok_at_line n (tiff bytes) >>= (λ _. Ok path)))) (path_is n has.names)
    ∙ ap (λ r. r >>= (λ bytes. ok_at_line n (tiff bytes) >>= (λ _. Ok has.path)))
    (file_is_read files IMAGE n has.path has.bytes has.names.reads)
    ∙ ap (λ r. ok_at_line n r >>= (λ _. Ok has.path)) has.is_page

-- the paths that a step gives, each of them listed
pub record GivesListed (listed : List Listed) (given : Result (List (List ℕ)) Rule) : Type 0 where
  pub paths : List (List ℕ)
  pub gives : given ≡ Ok paths
  pub are_listed : AreListed listed paths

all_images : (files : FileMap) (listed : List Listed) (tiff : Judging) (n : ℕ) (lines : List OptLine)
    → AllByRecursion (HasPage files listed tiff) lines
    → GivesListed listed (each (judged_image (file_there files) tiff) n lines)
all_images files listed tiff n [] has = record { paths = []; gives = refl; are_listed = tt }
all_images files listed tiff n (line ∷ lines) has =
    let rest = all_images files listed tiff (n + 1) lines has.1 in
    let first = has.0 in
    record {
      paths = first.path ∷ rest.paths;
      gives = ap (λ r. in_turn r (each (judged_image (file_there files) tiff) (n + 1) lines)) (image_passes files listed tiff n line first) ∙ ap (in_turn (Ok first.path)) rest.gives;
      are_listed = (first.names.is_listed, rest.are_listed);
    }

pub images_pass : (files : FileMap) (listed : List Listed) (tiff : Judging) (lines : List OptLine)
    → AllByRecursion (HasPage files listed tiff) lines
    → GivesListed listed (images_of (file_there files) tiff lines)
images_pass files listed tiff lines has = all_images files listed tiff 1 lines has

-- ---- texts

-- a row names a text
pub record HasText (files : FileMap) (listed : List Listed) (columns row : List (List ℕ)) : Type 0 where
  pub path : List ℕ
  pub bytes : List ℕ
  pub some : 1 ≤ length (cell_under is_textpath columns row)
  pub names : Names files listed (cell_under is_textpath columns row) path bytes

text_passes : (files : FileMap) (listed : List Listed) (columns : List (List ℕ)) (n : ℕ) (row : List (List ℕ))
    (has : HasText files listed columns row)
    → text_there (file_there files) n (cell_under is_textpath columns row) ≡ Ok has.path
text_passes files listed columns n row has =
    ap (λ r. r >>= (λ path. file_there files TEXT n path >>= (λ _. Ok path))) (path_is n has.names)
    ∙ ap (λ r. r >>= (λ _. Ok has.path)) (file_is_read files TEXT n has.path has.bytes has.names.reads)

all_texts : (files : FileMap) (listed : List Listed) (columns : List (List ℕ)) (n : ℕ)
    (rows : List (List (List ℕ)))
    → AllByRecursion (HasText files listed columns) rows
    → GivesListed listed (texts_from (file_there files) n (map (record_of columns) rows))
all_texts files listed columns n [] has = record { paths = []; gives = refl; are_listed = tt }
all_texts files listed columns n (row ∷ rows) has =
    let first = has.0 in
    let text = cell_under is_textpath columns row in
    let others = texts_from (file_there files) (n + 1) (map (record_of columns) rows) in
    let rest = all_texts files listed columns (n + 1) rows has.1 in
    record {
      paths = first.path ∷ rest.paths;
      gives = ap (λ b. cond b others (in_turn (text_there (file_there files) n text) others)) (ne_eqb (length text) 0 (λ none. omega (arith, first.some)))
          ∙ ap (λ r. in_turn r others) (text_passes files listed columns n row first)
          ∙ ap (in_turn (Ok first.path)) rest.gives;
      are_listed = (first.names.is_listed, rest.are_listed);
    }

pub texts_pass : (files : FileMap) (listed : List Listed) (columns : List (List ℕ))
    (rows : List (List (List ℕ)))
    → AllByRecursion (HasText files listed columns) rows
    → GivesListed listed (texts_there (file_there files) (map (record_of columns) rows))
texts_pass files listed columns rows has = all_texts files listed columns 1 rows has

-- ---- the listing

pub listed_both : (listed : List Listed) (xs ys : List (List ℕ))
    → AreListed listed xs
    → AreListed listed ys
    → AreListed listed (xs ++ ys)
listed_both listed [] ys one two = two
listed_both listed (path ∷ xs) ys one two = (one.0, listed_both listed xs ys one.1 two)

pub listing_passes : (listed : List Listed) (place : ℕ) (paths : List (List ℕ))
    → AreListed listed paths
    → listed_all listed place paths ≡ Ok tt
listing_passes listed place [] are = refl
listing_passes listed place (path ∷ paths) are =
    ap (λ b. cond b (listed_all listed (place + 1) paths) (Err (not_listed_rule place))) are.0
    ∙ listing_passes listed (place + 1) paths are.1

-- a file, as a manifest lists it
abbrev pub listed_of : FileRow → Listed
listed_of row = record { digest = digest_text row.bytes; path = row.path }

pub digests_pass : (files : FileMap) (n : ℕ) (rows : List FileRow)
    → AllByRecursion (λ (row : FileRow). CanBeRead files row.path row.bytes) rows
    → digests_by digest_text (file_there files) n (map listed_of rows) ≡ Ok tt
digests_pass files n [] can = refl
digests_pass files n (row ∷ rows) can =
    let digest = digest_text row.bytes in
    let rest = digests_by digest_text (file_there files) (n + 1) (map listed_of rows) in
    ap (λ r. (r >>= (λ bytes. must_pass (bytes_eq digest (digest_text bytes)) (rule_at_line DigestDiffers n))) >>= (λ _. rest))
    (file_is_read files LISTED n row.path row.bytes can.0)
    ∙ ap (λ b. must_pass b (rule_at_line DigestDiffers n) >>= (λ _. rest)) ((bytes_eq-Decides digest digest).1 refl)
    ∙ digests_pass files (n + 1) rows can.1

-- ---- files among files

-- among the files is this one
pub record Stands (rows : List FileRow) (path bytes : List ℕ) : Type 0 where
  pub before : List FileRow
  pub after : List FileRow
  pub there : rows ≡ before ++ file path bytes ∷ after

listed_at : (path bytes : List ℕ) (before after : List FileRow)
    → lists (map listed_of (before ++ file path bytes ∷ after)) path ≡ true
listed_at path bytes [] after = or_left (bytes_eq path path) _ ((bytes_eq-Decides path path).1 refl)
listed_at path bytes (row ∷ before) after = or_right (bytes_eq row.path path) _ (listed_at path bytes before after)

-- it is listed
pub stands_listed : (rows : List FileRow) (path bytes : List ℕ)
    → Stands rows path bytes
    → lists (map listed_of rows) path ≡ true
stands_listed rows path bytes stands =
    ap (λ rs. lists (map listed_of rs) path) stands.there ∙ listed_at path bytes stands.before stands.after
