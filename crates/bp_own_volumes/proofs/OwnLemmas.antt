-- The check of a volume of a production that is kept passes.
use Rattle.std.proofs.Common.{◌≡◌, ℕ, suc, ◌+◌, ◌^◌, ◌≤◌, true, Some, Result, Ok, List, [], ◌∷◌, ◌++◌, length, map, flat_map, All, codes, refl, sym, ap, ◌∙◌, subst, arith}
use Rattle.std.specs.List.{AllByRecursion}
use Rattle.std.specs.Option.{ok_or}
use Rattle.std.proofs.lemmas.List.{length-map}
use Rattle.std.proofs.lemmas.List.Elements.{All-from_recursion, recursion_from_All}
use Rattle.bp_core.specs.Characters.{solidus}
use Rattle.bp_core.specs.Paths.{path_in}
use Rattle.bp_core.specs.RuleSteps.{◌>>=◌}
use Rattle.bp_core.specs.Rules.{bare_rule}
use Rattle.bp_core.specs.declared.rules.Rule.{Rule}
use Rattle.bp_core.specs.declared.rules.RuleKind.TheVariants.{PathRefused}
use Rattle.bp_load.specs.Dat.{dat_of}
use Rattle.bp_load.specs.Opt.{opt_of}
use Rattle.bp_outside.specs.Memory.{file_map, paths_differ}
use Rattle.bp_outside.specs.Source.{FileMap}
use Rattle.bp_outside.specs.declared.files.FileRow.{FileRow}
use Rattle.bp_rows.specs.Image.{Image}
use Rattle.bp_tiff.specs.Read.{TiffAnswers}
use Rattle.bp_matter.specs.Matter.{Matter}
use Rattle.bp_matter.specs.Texts.{columns}
use Rattle.bp_matter.specs.Valid.{IsValid}
use Rattle.bp_matter.specs.declared.rows.Production.{Production}
use Rattle.bp_matter.specs.declared.rows.Request.{Request}
use Rattle.bp_freeze.specs.Keeping.{KeepsProduction}
use Rattle.bp_press.specs.Contents.{ItemShown, part_of}
use Rattle.bp_press.specs.Files.{Placed, item_files, placed}
use Rattle.bp_press.specs.LoadFiles.{dat_bytes, dat_row, dat_table, opt_bytes, opt_lines}
use Rattle.bp_press.specs.Manifest as pressed
use Rattle.bp_press.specs.Paths.{data_path, manifest_path}
use Rattle.bp_press.specs.Pressing.{image_total}
use Rattle.bp_press.specs.ReadBack.{HoldsItem, IsReadBack}
use Rattle.bp_press.specs.Volume.{data_files, dat_file, file_at as bytes_at, files_before, files_of, log_file, opt_file, placed_items, volume_of, with_manifest}
use Rattle.bp_check.specs.Check.{agrees, check_of, operand, optional_operand, paths_of}
use Rattle.bp_check.specs.Checking.{ChecksAs, StepGives}
use Rattle.bp_check.specs.Files.{file_there}
use Rattle.bp_check.specs.Images.{IsTiff, Judging}
use Rattle.bp_check.specs.Listing.{digest_text}
use Rattle.bp_check.specs.Manifest.{listed_files}
use Rattle.bp_check.specs.Records.{record_of, records_of}
use Rattle.bp_check.specs.declared.checked.Checked.{Checked}
use Rattle.bp_check.specs.declared.files.TheConstants.{DAT, FILE_LIMIT, MANIFEST, OPT}
use Rattle.bp_check.specs.declared.refusals.ImportRefusal.{ImportRefusal}
use Rattle.bp_own_volumes.specs.OwnVolumes.{AreShortFiles, own_counts, own_operands}
use Rattle.bp_own_volumes.proofs.ApartLemmas.{IsNamed, IsPathOf}
use Rattle.bp_own_volumes.proofs.ColumnLemmas.{columns_fit, kept_fields, kept_named}
use Rattle.bp_own_volumes.proofs.DocumentLemmas.{documents_agree}
use Rattle.bp_own_volumes.proofs.FoundLemmas.{each_found}
use Rattle.bp_own_volumes.proofs.HeldLemmas.{IsVolume, OneAnswer, images_there, stands_left, stands_read, stands_right, texts_there}
use Rattle.bp_own_volumes.proofs.ListingBackLemmas.{before_read, listing_back}
use Rattle.bp_own_volumes.proofs.LoadBackLemmas.{dat_back, opt_back}
use Rattle.bp_own_volumes.proofs.NameLemmas.{steps_named}
use Rattle.bp_own_volumes.proofs.PassLemmas.{Passes, passes}
use Rattle.bp_own_volumes.proofs.PlacedDocumentLemmas.{are_documents}
use Rattle.bp_own_volumes.proofs.ThereLemmas.{CanBeRead, Stands, digests_pass, file_is_read, images_pass, listed_both, listed_of, listing_passes, stands_listed, texts_pass}
use Rattle.bp_own_volumes.proofs.TurnLemmas.{AreInTurn, items_in_turn, kept_counts, kept_starts, lines_counted, total_is, total_of}
use Rattle.bp_own_volumes.proofs.VolumePathLemmas.{before_has, data_parts, dat_steps, manifest_parts, manifest_steps, opt_steps, volume_differ}

-- ---- what is known of the volume

-- the items of the production in their places
pub record KnowsTurn (f : Production) (m : Matter) : Type 0 where
  pub number : ℕ
  pub turn : AreInTurn 0 number (placed_items f m)
  pub most : number + total_of (placed_items f m) ≤ 10 ^ f.request.prefix.width

knows_turn : (f : Production) (m : Matter) → IsValid m → KeepsProduction m f → KnowsTurn f m
knows_turn f m valid keeps =
    let start = kept_starts m valid f keeps in
    let items = items_in_turn f m 0 start.number start.next f.items (kept_counts m valid f keeps) start.is in
    let many : total_of (placed_items f m) ≡ image_total f m f.items = total_is f m 0 f.items in
    record { number = start.number; turn = items.turn; most = omega (arith, many, items.reach, start.most) }

volume_files : (f : Production) (m : Matter)
    → volume_of f m ≡ with_manifest f.request (files_before f (placed_items f m))
unfolding volume_of files_of
volume_files f m = refl

knows_volume : (f : Production) (m : Matter)
    → IsNamed f.request
    → KnowsTurn f m
    → AreShortFiles (volume_of f m)
    → IsVolume f.request (volume_of f m) (files_before f (placed_items f m))
knows_volume f m named knows short = record {
  rows_are = volume_files f m;
  differ = ap paths_differ (volume_files f m) ∙ volume_differ f 0 knows.number (placed_items f m) named knows.turn knows.most;
  short = recursion_from_All (λ (row : FileRow). length row.bytes ≤ FILE_LIMIT) (volume_of f m) short;
}

-- ---- no path stands twice

pub volume_apart : (f : Production) (m : Matter) → IsValid m → KeepsProduction m f → paths_differ (volume_of f m) ≡ true
volume_apart f m valid keeps =
    let knows = knows_turn f m valid keeps in
    ap paths_differ (volume_files f m) ∙ volume_differ f 0 knows.number (placed_items f m) (kept_named m valid f keeps) knows.turn knows.most

pub volume_found : (f : Production) (m : Matter) → IsValid m → KeepsProduction m f → All (λ row. bytes_at row.path (volume_of f m) ≡ Some row.bytes) (volume_of f m)
volume_found f m valid keeps =
    All-from_recursion (λ (row : FileRow). bytes_at row.path (volume_of f m) ≡ Some row.bytes) (volume_of f m)
    (each_found [] (volume_of f m) (volume_apart f m valid keeps))

-- ---- its load files and its manifest

dat_stands : (f : Production) (ps : List Placed)
    → Stands (files_before f ps) (data_path f.request (codes ".DAT")) (dat_bytes f ps)
dat_stands f ps =
    stands_right (flat_map (item_files f.request) ps) (data_files f ps) (data_path f.request (codes ".DAT")) (dat_bytes f ps)
    (record { before = []; after = opt_file f ps ∷ log_file f ∷ []; there = refl })

opt_stands : (f : Production) (ps : List Placed)
    → Stands (files_before f ps) (data_path f.request (codes ".OPT")) (opt_bytes f.request ps)
opt_stands f ps =
    stands_right (flat_map (item_files f.request) ps) (data_files f ps) (data_path f.request (codes ".OPT")) (opt_bytes f.request ps)
    (record { before = dat_file f ps ∷ []; after = log_file f ∷ []; there = refl })

manifest_stands : (q : Request) (before : List FileRow)
    → Stands (with_manifest q before) (manifest_path q) (pressed.manifest_of before)
manifest_stands q before = record { before = before; after = []; there = refl }

-- a file that lies before the manifest, and the manifest, can be read
before_reads : (q : Request) (rows before : List FileRow) (path bytes : List ℕ)
    → IsVolume q rows before
    → Stands before path bytes
    → CanBeRead (file_map rows) path bytes
before_reads q rows before path bytes is stands =
    stands_read q rows before path bytes is (subst (λ rs. Stands rs path bytes) (sym is.rows_are) (stands_left before _ path bytes stands))

manifest_reads : (q : Request) (rows before : List FileRow)
    → IsVolume q rows before
    → CanBeRead (file_map rows) (manifest_path q) (pressed.manifest_of before)
manifest_reads q rows before is =
    stands_read q rows before (manifest_path q) (pressed.manifest_of before) is
    (subst (λ rs. Stands rs (manifest_path q) (pressed.manifest_of before)) (sym is.rows_are) (manifest_stands q before))

read_then : {V : Type 0} (files : FileMap) (which : ℕ) (path bytes : List ℕ) (means : List ℕ → Result V Rule)
    (value : V)
    → CanBeRead files path bytes
    → means bytes ≡ Ok value
    → (file_there files which 0 path >>= means) ≡ Ok value
read_then files which path bytes means value can is = ap (λ r. r >>= means) (file_is_read files which 0 path bytes can) ∙ is

-- ---- the operands

operand_is : (path : List ℕ) (parts : List (List ℕ)) → IsPathOf path parts → operand path ≡ Ok path
operand_is path parts is =
    let named : path_in path ≡ Some path =
    subst (λ p. path_in p ≡ Some p) (sym is.path_is) (steps_named solidus parts refl is.some is.steps) in
    ap (λ o. ok_or o (bare_rule PathRefused)) named

operands_are : (q : Request)
    → IsNamed q
    → paths_of (own_operands q) ≡ Ok (record { dat = data_path q (codes ".DAT"); opt = data_path q (codes ".OPT"); manifest = Some (manifest_path q) })
operands_are q named =
    let dat = data_path q (codes ".DAT") in
    let opt = data_path q (codes ".OPT") in
    let manifest = manifest_path q in
    ap
    (λ r. r >>= (λ d. operand opt >>= (λ o. optional_operand (Some manifest) >>= (λ l. Ok (record { dat = d; opt = o; manifest = l })))))
    (operand_is dat (data_parts q (codes ".DAT")) (dat_steps q named))
    ∙ ap (λ r. r >>= (λ o. optional_operand (Some manifest) >>= (λ l. Ok (record { dat = dat; opt = o; manifest = l }))))
    (operand_is opt (data_parts q (codes ".OPT")) (opt_steps q named))
    ∙ ap (λ r. (r >>= (λ path. Ok (Some path))) >>= (λ l. Ok (record { dat = dat; opt = opt; manifest = l })))
    (operand_is manifest (manifest_parts q) (manifest_steps q named))

-- ---- all steps

agree : (f : Production) (m : Matter)
    → IsNamed f.request
    → KnowsTurn f m
    → agrees (records_of (dat_table f (placed_items f m))) (flat_map (opt_lines f.request) (placed_items f m)) ≡ Ok tt
agree f m named knows =
    let q = f.request in
    let ps = placed_items f m in
    documents_agree (columns ++ q.fields) (opt_lines q) (dat_row f) q.prefix.text q.prefix.width knows.number ps named.prefix
    (omega (arith, knows.most, lines_counted q ps)) (are_documents f 0 knows.number ps knows.turn)

all_steps : (f : Production) (m : Matter) (tiff : Judging)
    → OneAnswer
    → IsReadBack f m
    → IsValid m
    → KeepsProduction m f
    → AreShortFiles (volume_of f m)
    → IsTiff tiff
    → Passes digest_text (file_there (file_map (volume_of f m))) tiff (own_operands f.request) (data_path f.request (codes ".DAT")) (data_path f.request (codes ".OPT")) (manifest_path f.request)
    (dat_table f (placed_items f m)) (flat_map (opt_lines f.request) (placed_items f m)) (map listed_of (files_before f (placed_items f m)))
all_steps f m tiff only back valid keeps short is_tiff =
    let q = f.request in
    let ps = placed_items f m in
    let rows = volume_of f m in
    let before = files_before f ps in
    let files = file_map rows in
    let listed = map listed_of before in
    let lines = flat_map (opt_lines q) ps in
    let dat = data_path q (codes ".DAT") in
    let opt = data_path q (codes ".OPT") in
    let named = kept_named m valid f keeps in
    let knows = knows_turn f m valid keeps in
    let is = knows_volume f m named knows short in
    let holds : AllByRecursion (HoldsItem rows f m) ps = recursion_from_All (HoldsItem rows f m) ps back in
    let images = images_pass files listed tiff lines (images_there rows before tiff f m f.items only is_tiff named is holds) in
    let texts = texts_pass files listed (columns ++ q.fields) (map (dat_row f) ps) (texts_there f rows ps named is) in
    record {
      images = images.paths;
      texts = texts.paths;
      paths = operands_are q named;
      table_is = read_then files DAT dat (dat_bytes f ps) dat_of (dat_table f ps) (before_reads q rows before dat (dat_bytes f ps) is (dat_stands f ps)) (dat_back m valid f keeps named);
      lines_are = read_then files OPT opt (opt_bytes q ps) opt_of lines (before_reads q rows before opt (opt_bytes q ps) is (opt_stands f ps)) (opt_back m valid f keeps named);
      listed_are = read_then files MANIFEST (manifest_path q) (pressed.manifest_of before) listed_files listed (manifest_reads q rows before is) (listing_back before (before_has f 0 knows.number ps named knows.turn));
      columns = columns_fit q (kept_fields m valid f keeps);
      agree = agree f m named knows;
      images_are = images.gives;
      texts_are = texts.gives;
      all_listed = listing_passes listed 0 ((dat ∷ opt ∷ []) ++ images.paths ++ texts.paths)
          (stands_listed before dat (dat_bytes f ps) (dat_stands f ps), (stands_listed before opt (opt_bytes q ps) (opt_stands f ps), listed_both listed images.paths texts.paths images.are_listed texts.are_listed));
      digests = digests_pass files 1 before (before_read q rows before is);
    }

-- ---- the three numbers

placed_counted : (place : ℕ) (parts : List ItemShown) → length (placed place parts) ≡ length parts
placed_counted place [] = refl
placed_counted place (part ∷ parts) = ap (λ n. suc n) (placed_counted (place + length part.content.images) parts)

documents_counted : (f : Production) (m : Matter)
    → length (records_of (dat_table f (placed_items f m))) ≡ length f.items
documents_counted f m =
    let ps = placed_items f m in
    length-map (map (dat_row f) ps) (record_of (columns ++ f.request.fields)) ∙ length-map ps (dat_row f)
    ∙ placed_counted 0 (map (part_of f m) f.items) ∙ length-map f.items (part_of f m)

images_counted : (f : Production) (m : Matter)
    → length (flat_map (opt_lines f.request) (placed_items f m)) ≡ image_total f m f.items
images_counted f m = lines_counted f.request (placed_items f m) ∙ total_is f m 0 f.items

-- ---- the laws

-- each image of a volume is read back, as bp_press says
abbrev pub AreReadBack : Type 0
AreReadBack = (f : Production) (m : Matter) → IsValid m → KeepsProduction m f → IsReadBack f m

pub own_passes : OneAnswer
    → AreReadBack
    → (f : Production) (m : Matter) (tiff : Judging)
    → IsValid m
    → KeepsProduction m f
    → AreShortFiles (volume_of f m)
    → IsTiff tiff
    → check_of (file_map (volume_of f m)) tiff (own_operands f.request) ≡ Ok (own_counts f m)
own_passes only reads f m tiff valid keeps short is_tiff =
    let q = f.request in
    let ps = placed_items f m in
    let lines = flat_map (opt_lines q) ps in
    let before = files_before f ps in
    let listed = map listed_of before in
    passes digest_text (file_there (file_map (volume_of f m))) tiff (own_operands q) (data_path q (codes ".DAT"))
    (data_path q (codes ".OPT")) (manifest_path q) (dat_table f ps) lines listed
    (all_steps f m tiff only (reads f m valid keeps) valid keeps short is_tiff)
    ∙ ap (λ n. Ok (record { documents = n; images = length lines; files = length listed })) (documents_counted f m)
    ∙ ap (λ n. Ok (record { documents = length f.items; images = n; files = length listed })) (images_counted f m)
    ∙ ap (λ n. Ok (record { documents = length f.items; images = image_total f m f.items; files = n })) (length-map before listed_of)

-- a file has some answer, as bp_tiff says
abbrev pub SomeAnswer : Type 0
SomeAnswer = (bytes : List ℕ) → (answer : Result Image Rule) × TiffAnswers bytes answer

pub own_answered : OneAnswer
    → SomeAnswer
    → AreReadBack
    → (f : Production) (m : Matter) (result : Result Checked ImportRefusal)
    → IsValid m
    → KeepsProduction m f
    → AreShortFiles (volume_of f m)
    → ChecksAs (file_map (volume_of f m)) (own_operands f.request) result
    → StepGives (λ checked. checked) result (Ok (own_counts f m))
own_answered only answers reads f m result valid keeps short checks =
    let tiff : Judging = λ bytes. (answers bytes).0 in
    let is_tiff : IsTiff tiff = λ bytes. (answers bytes).1 in
    subst (StepGives (λ checked. checked) result) (own_passes only reads f m tiff valid keeps short is_tiff) (checks tiff is_tiff)
