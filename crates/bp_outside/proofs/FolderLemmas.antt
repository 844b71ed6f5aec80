-- Carry what one append leaves of a folder to pieces one after another, and to a whole file.
use Rattle.std.proofs.Common.{◌≡◌, ℕ, ◌+◌, ◌-◌, ◌≤◌, ◌<◌, true, false, Result, Ok, Err, List, [], ◌∷◌, ◌++◌, length, take, drop, refl, sym, ap, subst, ◌∙◌, append_assoc, arith, length-drop, min, ⊎_elim}
use Rattle.std.specs.Prelude.{Option, Some, None}
use Rattle.std.specs.Option.{option_map}
use Rattle.std.proofs.lemmas.Bool.{cases_lt}
use Rattle.std.proofs.lemmas.List.{append-nil, take_rest, take_all, take-append-le, length-take}
use Rattle.std.proofs.Math.Seq.{take-add, take-append-add}
use Rattle.bp_outside.specs.declared.files.FileRow.{FileRow}
use Rattle.bp_outside.specs.declared.refusals.FolderRefusal.{FolderRefusal}
use Rattle.bp_outside.specs.declared.refusals.FolderRefusal.TheVariants.{Failed, OutOfMemory}
use Rattle.bp_outside.specs.Folder.PutsPart.{prefix}
use Rattle.bp_outside.specs.Folder.{FolderView, AddsFirst, AddsPrefix, PutsPart, PutsFile, after_finish, file, add_to_last, with_bytes, with_file, after_refusal}

-- no bytes for the last file
pub last_nothing : (rows : List FileRow) → add_to_last [] rows ≡ rows
last_nothing [] = refl
last_nothing (row ∷ []) = ap (λ bytes. record row { bytes = bytes } ∷ []) (append-nil row.bytes)
last_nothing (row ∷ next ∷ rows) = ap (λ rest. row ∷ rest) (last_nothing (next ∷ rows))

step_past : (bytes : List ℕ) (row : FileRow) (rows : List FileRow) (next : FileRow)
    (rest : List FileRow)
    → rows ≡ next ∷ rest
    → add_to_last bytes (row ∷ rows) ≡ row ∷ add_to_last bytes rows
step_past bytes row rows next rest e = rw e refl

last_twice : (xs ys : List ℕ) (rows : List FileRow)
    → add_to_last ys (add_to_last xs rows) ≡ add_to_last (xs ++ ys) rows
last_twice xs ys [] = refl
last_twice xs ys (row ∷ []) =
    ap (λ bytes. record row { bytes = bytes } ∷ []) (append_assoc row.bytes xs ys)
last_twice xs ys (row ∷ next ∷ []) = ap (λ rest. row ∷ rest) (last_twice xs ys (next ∷ []))
last_twice xs ys (row ∷ next ∷ third ∷ rows) =
    ap (λ rest. row ∷ rest) (last_twice xs ys (next ∷ third ∷ rows))

-- the last of some files and one more is that one
pub last_of : (bytes : List ℕ) (rows : List FileRow) (row : FileRow)
    → add_to_last bytes (rows ++ row ∷ []) ≡ rows ++ record row { bytes = row.bytes ++ bytes } ∷ []
last_of bytes [] row = refl
last_of bytes (first ∷ []) row = refl
last_of bytes (first ∷ next ∷ rows) row =
    ap (λ rest. first ∷ rest) (last_of bytes (next ∷ rows) row)

told_nothing : (told : Option (List FileRow)) → option_map (add_to_last []) told ≡ told
told_nothing None = refl
told_nothing (Some rows) = ap Some (last_nothing rows)

told_twice : (told : Option (List FileRow)) (xs ys : List ℕ)
    → option_map (add_to_last ys) (option_map (add_to_last xs) told)
    ≡ option_map (add_to_last (xs ++ ys)) told
told_twice None xs ys = refl
told_twice (Some rows) xs ys = ap Some (last_twice xs ys rows)

told_in_file : (told : Option (List FileRow)) (path xs ys : List ℕ)
    → option_map (add_to_last ys) (option_map (λ rows. rows ++ file path xs ∷ []) told)
    ≡ option_map (λ rows. rows ++ file path (xs ++ ys) ∷ []) told
told_in_file None path xs ys = refl
told_in_file (Some rows) path xs ys = ap Some (last_of ys rows (file path xs))

-- no bytes
pub with_bytes-nothing : (folder : FolderView) → with_bytes folder [] ≡ folder
with_bytes-nothing folder = ap (λ told. record folder { files = told }) (told_nothing folder.files)

-- bytes that are added to a file under way
pub with_bytes-with_file : (folder : FolderView) (path xs ys : List ℕ)
    → with_bytes (with_file folder path xs true) ys ≡ with_file folder path (xs ++ ys) true
with_bytes-with_file folder path xs ys =
    ap (λ told. record folder { files = told; under_way = true })
    (told_in_file folder.files path xs ys)

-- some bytes, and then others
pub with_bytes-twice : (folder : FolderView) (xs ys : List ℕ)
    → with_bytes (with_bytes folder xs) ys ≡ with_bytes folder (xs ++ ys)
with_bytes-twice folder xs ys =
    ap (λ told. record folder { files = told }) (told_twice folder.files xs ys)

-- the first so many bytes of a piece, and then the first so many of the rest
pub with_bytes-more : (folder : FolderView) (piece : List ℕ) (at more : ℕ)
    → with_bytes (with_bytes folder (take at piece)) (take more (drop at piece))
    ≡ with_bytes folder (take (at + more) piece)
with_bytes-more folder piece at more =
    with_bytes-twice folder (take at piece) (take more (drop at piece))
    ∙ ap (with_bytes folder) (sym (take-add at more piece))

after_refusal-with_bytes : (refusal : FolderRefusal) (folder : FolderView) (bytes : List ℕ)
    → after_refusal (with_bytes folder bytes) refusal
    ≡ with_bytes (after_refusal folder refusal) bytes
after_refusal-with_bytes Failed folder bytes = refl
after_refusal-with_bytes OutOfMemory folder bytes = refl

-- one more append, after the first so many bytes of a piece
pub append_more : (folder now after : FolderView) (piece : List ℕ) (at more : ℕ)
    → (at ≤ length piece) × (now ≡ with_bytes folder (take at piece))
    → AddsFirst now (take (length piece - at) (drop at piece)) more after
    → (at + more ≤ length piece) × (after ≡ with_bytes folder (take (at + more) piece))
append_more folder now after piece at more so_far step =
    let rest = take_rest piece at in
    let within : more ≤ length (drop at piece) = subst (λ r. more ≤ length r) rest step.within in (
      omega (arith, within, so_far.0, length-drop at piece),
      step.added ∙ ap (λ r. with_bytes now (take more r)) rest
          ∙ ap (λ o. with_bytes o (take more (drop at piece))) so_far.1
          ∙ with_bytes-more folder piece at more,
    )

-- a refusal, after the first so many bytes of a piece
pub refused_after : (refusal : FolderRefusal) (folder now after : FolderView) (piece : List ℕ)
    (at : ℕ)
    → now ≡ with_bytes folder (take at piece)
    → AddsPrefix (after_refusal now refusal) (take (length piece - at) (drop at piece)) after
    → AddsPrefix (after_refusal folder refusal) piece after
refused_after refusal folder now after piece at so_far end =
    record {
      count = at + end.count;
      added = end.added
          ∙ ap (λ r. with_bytes (after_refusal now refusal) (take end.count r)) (take_rest piece at)
          ∙ ap (λ o. with_bytes (after_refusal o refusal) (take end.count (drop at piece))) so_far
          ∙ ap (λ o. with_bytes o (take end.count (drop at piece)))
          (after_refusal-with_bytes refusal folder (take at piece))
          ∙ with_bytes-more (after_refusal folder refusal) piece at end.count;
    }

after_refusal-with_file : (refusal : FolderRefusal) (folder : FolderView) (path bytes : List ℕ)
    → after_refusal (with_file folder path bytes true) refusal
    ≡ with_file (after_refusal folder refusal) path bytes true
after_refusal-with_file Failed folder path bytes = refl
after_refusal-with_file OutOfMemory folder path bytes = refl

-- a file was begun, and its bytes were refused
pub put_in_part : (refusal : FolderRefusal) (folder begun after : FolderView) (path bytes : List ℕ)
    → begun ≡ with_file folder path [] true
    → AddsPrefix (after_refusal begun refusal) bytes after
    → PutsPart (after_refusal folder refusal) path bytes after
put_in_part refusal folder begun after path bytes created end =
    prefix end.count
    (end.added ∙ ap (λ f. with_bytes (after_refusal f refusal) (take end.count bytes)) created
    ∙ ap (λ f. with_bytes f (take end.count bytes)) (after_refusal-with_file refusal folder path [])
    ∙ with_bytes-with_file (after_refusal folder refusal) path [] (take end.count bytes))

abbrev ended : FolderView → FolderView
ended folder = record folder { under_way = false }

put_at_end : (result : Result (Unit {0}) FolderRefusal) (folder full after : FolderView)
    (path bytes : List ℕ)
    → full ≡ with_file folder path bytes true
    → after ≡ after_finish full result
    → PutsFile folder path bytes result after
put_at_end (Ok _) folder full after path bytes put end = end ∙ ap ended put
put_at_end (Err refusal) folder full after path bytes put end =
    prefix (length bytes)
    (end ∙ ap (λ f. after_refusal f refusal) put ∙ after_refusal-with_file refusal folder path bytes
    ∙ ap (λ bs. with_file (after_refusal folder refusal) path bs true)
    (sym (take_all (length bytes) bytes (omega arith))))

-- a file was begun, all its bytes were added, and it was to end
pub put_whole : (result : Result (Unit {0}) FolderRefusal) (folder begun full after : FolderView)
    (path bytes : List ℕ)
    → begun ≡ with_file folder path [] true
    → full ≡ with_bytes begun bytes
    → after ≡ after_finish full result
    → PutsFile folder path bytes result after
put_whole result folder begun full after path bytes created added end =
    put_at_end result folder full after path bytes
    (added ∙ ap (λ f. with_bytes f bytes) created ∙ with_bytes-with_file folder path [] bytes) end

-- ---- a file in two parts

take_least : (count : ℕ) (bytes : List ℕ) → take (min count (length bytes)) bytes ≡ take count bytes
take_least count bytes = ⊎_elim
    (λ (short : count < length bytes). let least : min count (length bytes) ≡ count = omega arith in ap (λ n. take n bytes) least)
    (λ long. let least : min count (length bytes) ≡ length bytes = omega arith in
    ap (λ n. take n bytes) least ∙ take_all (length bytes) bytes (omega arith) ∙ sym (take_all count bytes (omega arith)))
    (cases_lt count (length bytes))

first_of_both : (count : ℕ) (first rest : List ℕ)
    → take count first ≡ take (length (take count first)) (first ++ rest)
first_of_both count first rest =
    let short : length (take count first) ≤ length first = omega (arith, length-take count first) in
    sym (take-append-le (length (take count first)) first rest short
    ∙ ap (λ n. take n first) (length-take count first) ∙ take_least count first)

-- the first part was refused
pub first_in_part : (folder after : FolderView) (first rest : List ℕ)
    → AddsPrefix folder first after
    → AddsPrefix folder (first ++ rest) after
first_in_part folder after first rest part = record {
  count = length (take part.count first);
  added = part.added ∙ ap (with_bytes folder) (first_of_both part.count first rest);
}

-- the rest was refused, behind the first part
pub rest_in_part : (refusal : FolderRefusal) (folder now after : FolderView) (first rest : List ℕ)
    → now ≡ with_bytes folder first
    → AddsPrefix (after_refusal now refusal) rest after
    → AddsPrefix (after_refusal folder refusal) (first ++ rest) after
rest_in_part refusal folder now after first rest so_far part = record {
  count = length first + part.count;
  added = part.added
      ∙ ap (λ o. with_bytes (after_refusal o refusal) (take part.count rest)) so_far
      ∙ ap (λ o. with_bytes o (take part.count rest)) (after_refusal-with_bytes refusal folder first)
      ∙ with_bytes-twice (after_refusal folder refusal) first (take part.count rest)
      ∙ ap (with_bytes (after_refusal folder refusal)) (sym (take-append-add first rest part.count));
}

-- both were added
pub both_added : (folder now after : FolderView) (first rest : List ℕ)
    → now ≡ with_bytes folder first
    → after ≡ with_bytes now rest
    → after ≡ with_bytes folder (first ++ rest)
both_added folder now after first rest so_far added =
    added ∙ ap (λ o. with_bytes o rest) so_far ∙ with_bytes-twice folder first rest
