-- Among files whose paths differ each is found under its path.
use Rattle.std.proofs.Common.{◌≡◌, ◌≢◌, ℕ, Bool, true, false, cond, not, Some, List, [], ◌∷◌, ◌++◌, append_assoc, refl, sym, subst, ap, ◌∙◌}
use Rattle.std.specs.FinMap.{get}
use Rattle.std.specs.List.{AllByRecursion, list_any}
use Rattle.std.specs.Cmp.Lexicographic.{texts_ties}
use Rattle.std.specs.Str.{bytes_eq}
use Rattle.std.proofs.lemmas.Bool.{and_from, and_parts, false_from_ne_true, false≢true, not-true, not_from_false, or_from, or_parts}
use Rattle.std.proofs.lemmas.List.Folds.{list_any-append}
use Rattle.std.proofs.lemmas.Slice.Eq.{bytes_eq-Decides}
use Rattle.bp_outside.specs.Folder.{file}
use Rattle.bp_outside.specs.Memory.{file_map, paths_differ}
use Rattle.bp_outside.specs.declared.files.FileRow.{FileRow}
use Rattle.bp_press.specs.Volume.{file_at}
use Rattle.bp_outside.proofs.FileMapLemmas.{first_with, get-first_with}

apart : (path other : List ℕ) → other ≢ path → bytes_eq other path ≡ false
apart path other differ = false_from_ne_true (bytes_eq other path) (λ same. differ ((bytes_eq-Decides other path).0 same))

-- ---- the first of a path

at_head : (path bytes : List ℕ) (rows : List FileRow) → first_with path (file path bytes ∷ rows) ≡ Some bytes
at_head path bytes rows =
    ap (λ b. cond b (Some bytes) (first_with path rows)) (sym (texts_ties path path) ∙ (bytes_eq-Decides path path).1 refl)

past_head : (path : List ℕ) (row : FileRow) (rows : List FileRow)
    → path ≢ row.path
    → first_with path (row ∷ rows) ≡ first_with path rows
past_head path row rows other =
    ap (λ b. cond b (Some row.bytes) (first_with path rows)) (sym (texts_ties path row.path) ∙ apart row.path path other)

-- a file that others follow is one of them
met : (test : FileRow → Bool) (before after : List FileRow) (row : FileRow)
    → list_any test (before ++ row ∷ after) ≡ false
    → test row ≡ false
met test before after row none =
    (or_parts (test row) (list_any test after) (or_parts (list_any test before) _ (sym (list_any-append test before (row ∷ after)) ∙ none)).1).0

first_found : (path bytes : List ℕ) (before after : List FileRow)
    → paths_differ (before ++ file path bytes ∷ after) ≡ true
    → first_with path (before ++ file path bytes ∷ after) ≡ Some bytes
first_found path bytes [] after differ = at_head path bytes after
first_found path bytes (row ∷ before) after differ =
    let both =
    and_parts (not (list_any (λ other. bytes_eq other.path row.path) (before ++ file path bytes ∷ after)))
    (paths_differ (before ++ file path bytes ∷ after)) differ in
    let other : bytes_eq path row.path ≡ false =
    met (λ other. bytes_eq other.path row.path) before after (file path bytes) (not-true _ both.0) in
    past_head path row (before ++ file path bytes ∷ after)
    (λ same. absurd (false≢true (sym other ∙ (bytes_eq-Decides path row.path).1 same)))
    ∙ first_found path bytes before after both.1

-- a file among files whose paths differ is what stands under its path
pub found_under : (rows before after : List FileRow) (path bytes : List ℕ)
    → paths_differ rows ≡ true
    → rows ≡ before ++ file path bytes ∷ after
    → get (file_map rows) path ≡ Some bytes
found_under rows before after path bytes differ are =
    get-first_with path rows ∙ ap (first_with path) are
    ∙ first_found path bytes before after (sym (ap paths_differ are) ∙ differ)

-- ---- the bytes of a path

file_there : (path bytes : List ℕ) (before after : List FileRow)
    → paths_differ (before ++ file path bytes ∷ after) ≡ true
    → file_at path (before ++ file path bytes ∷ after) ≡ Some bytes
file_there path bytes [] after differ = rw ((bytes_eq-Decides path path).1 refl) refl
file_there path bytes (row ∷ before) after differ =
    let both =
    and_parts (not (list_any (λ other. bytes_eq other.path row.path) (before ++ file path bytes ∷ after)))
    (paths_differ (before ++ file path bytes ∷ after)) differ in
    let other : bytes_eq path row.path ≡ false =
    met (λ other. bytes_eq other.path row.path) before after (file path bytes) (not-true _ both.0) in
    let none : bytes_eq row.path path ≡ false =
    apart path row.path (λ same. absurd (false≢true (sym other ∙ (bytes_eq-Decides path row.path).1 (sym same)))) in
    rw none (file_there path bytes before after both.1)

-- each of some files, behind others, is found under its path
pub each_found : (before rows : List FileRow)
    → paths_differ (before ++ rows) ≡ true
    → AllByRecursion (λ (row : FileRow). file_at row.path (before ++ rows) ≡ Some row.bytes) rows
each_found before [] differ = tt
each_found before (row ∷ rows) differ =
    let joined : (before ++ row ∷ []) ++ rows ≡ before ++ row ∷ rows = append_assoc before (row ∷ []) rows in (
      file_there row.path row.bytes before rows differ,
      subst (λ (all : List FileRow). AllByRecursion (λ (r : FileRow). file_at r.path all ≡ Some r.bytes) rows) joined
          (each_found (before ++ row ∷ []) rows (ap paths_differ joined ∙ differ)),
    )

-- ---- files whose paths differ

-- no file of these has the path
abbrev pub HasNone : List ℕ → List FileRow → Type 0
HasNone path rows = AllByRecursion (λ (row : FileRow). row.path ≢ path) rows

none_like : (path : List ℕ) (rows : List FileRow)
    → HasNone path rows
    → list_any (λ other. bytes_eq other.path path) rows ≡ false
none_like path [] none = refl
none_like path (row ∷ rows) none = or_from _ _ (apart path row.path none.0) (none_like path rows none.1)

-- a file before others of other paths
pub differ_more : (row : FileRow) (rows : List FileRow)
    → HasNone row.path rows
    → paths_differ rows ≡ true
    → paths_differ (row ∷ rows) ≡ true
differ_more row rows none differ = and_from _ _ (not_from_false _ (none_like row.path rows none)) differ

-- files before others, where none has a path of theirs
pub differ_both : (xs ys : List FileRow)
    → paths_differ xs ≡ true
    → paths_differ ys ≡ true
    → AllByRecursion (λ (row : FileRow). HasNone row.path ys) xs
    → paths_differ (xs ++ ys) ≡ true
differ_both [] ys one two apart = two
differ_both (row ∷ xs) ys one two apart =
    let both = and_parts (not (list_any (λ other. bytes_eq other.path row.path) xs)) (paths_differ xs) one in
    let none : list_any (λ other. bytes_eq other.path row.path) (xs ++ ys) ≡ false =
    list_any-append (λ other. bytes_eq other.path row.path) xs ys ∙ or_from _ _ (not-true _ both.0) (none_like row.path ys apart.0) in
    and_from _ _ (not_from_false _ none) (differ_both xs ys both.1 two apart.1)
