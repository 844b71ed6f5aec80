-- Carry a search over files in their order to a look-up in the map of the files.
use Rattle.std.proofs.Common.{◌≡◌, ◌≢◌, ℕ, ◌+◌, ◌<◌, ◌≤◌, Bool, true, false, List, ◌∷◌, length, drop, get_or, refl, sym, ap, ◌∙◌, encode_utf8_all}
use Rattle.std.specs.Prelude.{Option, Some, None, cond}
use Rattle.std.specs.Str.{chars, bytes_eq, IsUtf8}
use Rattle.std.specs.Ordering.{nat_cmp, eq_by_cmp}
use Rattle.std.specs.Cmp.Lexicographic.{slice_cmp, texts_ties, nat_list_cmp_total}
use Rattle.std.specs.FinMap.{find, get, get-from_entries}
use Rattle.std.proofs.lemmas.Bool.{false≢true}
use Rattle.std.proofs.lemmas.List.{drop_more, drop_all}
use Rattle.std.proofs.lemmas.Slice.Eq.{bytes_eq-Decides}
use Rattle.std.proofs.lemmas.Str.{encodes-chars}
use Rattle.bp_outside.specs.declared.files.FileRow.{FileRow}
use Rattle.bp_outside.specs.Memory.{file_map, path_pairs}

-- the bytes of the first file with that path, in files as they stand
abbrev pub first_with : List ℕ → List FileRow → Option (List ℕ)
first_with path rows = find (slice_cmp nat_cmp) path (path_pairs rows)

-- the map has what the first file with that path has
pub get-first_with : (path : List ℕ) (rows : List FileRow)
    → get (file_map rows) path ≡ first_with path rows
get-first_with path rows = get-from_entries nat_list_cmp_total (path_pairs rows) path

test_of : (path : List ℕ) (row : FileRow) (answer : Bool)
    → bytes_eq path row.path ≡ answer
    → eq_by_cmp (slice_cmp nat_cmp) path row.path ≡ answer
test_of path row answer is = sym (texts_ties path row.path) ∙ is

at_head : (path : List ℕ) (row : FileRow) (rows : List FileRow)
    → row.path ≡ path
    → first_with path (row ∷ rows) ≡ Some row.bytes
at_head path row rows same =
    let is_there = (bytes_eq-Decides path row.path).1 (sym same) in
    ap (λ b. cond b (Some row.bytes) (first_with path rows)) (test_of path row true is_there)

differ : (b : Bool) (P : Type 0) → (b ≡ true → P) → (P → ⊥) → b ≡ false
differ true P holds fails = absurd (fails (holds refl))
differ false P holds fails = refl

past_head : (path : List ℕ) (row : FileRow) (rows : List FileRow)
    → row.path ≢ path
    → first_with path (row ∷ rows) ≡ first_with path rows
past_head path row rows other =
    let not_there = differ (bytes_eq path row.path) (path ≡ row.path)
    (bytes_eq-Decides path row.path).0 (λ same. other (sym same)) in
    ap (λ b. cond b (Some row.bytes) (first_with path rows)) (test_of path row false not_there)

from_there : (path : List ℕ) (rows : List FileRow) (i : ℕ) (row : FileRow)
    → i < length rows
    → row ≡ get_or rows i row
    → first_with path (drop i rows) ≡ first_with path (row ∷ drop (i + 1) rows)
from_there path rows i row within is =
    ap (first_with path) (drop_more rows i row within ∙ ap (λ r. r ∷ drop (i + 1) rows) (sym is))

-- the search has come to a file with that path
pub found_at : (path : List ℕ) (rows : List FileRow) (i : ℕ) (row : FileRow)
    → i < length rows
    → row ≡ get_or rows i row
    → get (file_map rows) path ≡ first_with path (drop i rows)
    → row.path ≡ path
    → Some row.bytes ≡ get (file_map rows) path
found_at path rows i row within is so_far same =
    sym (so_far ∙ from_there path rows i row within is ∙ at_head path row (drop (i + 1) rows) same)

-- the search goes past a file with another path
pub not_found_at : (path : List ℕ) (rows : List FileRow) (i : ℕ) (row : FileRow)
    → i < length rows
    → row ≡ get_or rows i row
    → get (file_map rows) path ≡ first_with path (drop i rows)
    → row.path ≢ path
    → get (file_map rows) path ≡ first_with path (drop (i + 1) rows)
not_found_at path rows i row within is so_far other =
    so_far ∙ from_there path rows i row within is ∙ past_head path row (drop (i + 1) rows) other

-- the search has come to the end
pub not_found : (path : List ℕ) (rows : List FileRow) (i : ℕ)
    → length rows ≤ i
    → get (file_map rows) path ≡ first_with path (drop i rows)
    → None ≡ get (file_map rows) path
not_found path rows i past so_far = sym (so_far ∙ ap (first_with path) (drop_all i rows past))

-- a text has these bytes exactly where it has their characters
pub same_path : (text bytes path : List ℕ)
    → chars text ≡ path
    → bytes_eq text bytes ≡ true
    → path ≡ chars bytes
same_path text bytes path shown same = sym shown ∙ ap chars ((bytes_eq-Decides text bytes).0 same)

pub other_path : (text bytes path : List ℕ)
    → IsUtf8 bytes
    → text ≡ encode_utf8_all path
    → bytes_eq text bytes ≡ false
    → path ≢ chars bytes
other_path text bytes path utf8 shown apart same =
    let equal : text ≡ bytes = shown ∙ ap encode_utf8_all same ∙ encodes-chars bytes utf8 in
    false≢true (sym apart ∙ (bytes_eq-Decides text bytes).1 equal)
