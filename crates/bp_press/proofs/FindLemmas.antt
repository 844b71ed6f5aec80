-- The file of a path among the files of a volume.
use Rattle.std.proofs.Common.{◌≡◌, ℕ, suc, ◌+◌, ◌-◌, ◌<◌, ◌≤◌, All, arith, eqb, take, Bool, true, false, cond, encode_utf8_all, List, [], ◌∷◌, ◌++◌, append-nil, append_assoc, drop, get_or, length, map, Option, Some, None, Result, refl, sym, ap, ◌∙◌, subst, inl, inr}
use Rattle.std.specs.List.{find, join_with_byte}
use Rattle.std.specs.Prelude.{IfOk, codes}
use Rattle.std.specs.Str.{bytes_eq}
use Rattle.std.proofs.lemmas.Bool.{cases_Bool, true≢false}
use Rattle.std.proofs.lemmas.Bool.Decides.{Decides-eqb}
use Rattle.std.proofs.lemmas.List.{append_cancel_right, at_drop_all, at_drop_more}
use Rattle.std.proofs.lemmas.Slice.Eq.{bytes_eq-Decides, strip_suffix_is}
use Rattle.std.specs.Borrow.{Bor}
use Rattle.std.specs.Option.{MatchOption}
use Rattle.std.specs.Cmp.Lexicographic.{pointwise}
use Rattle.std.proofs.lemmas.Str.{encodes-append}
use Rattle.bp_bates.specs.Labels.{bates_label}
use Rattle.bp_bates.specs.Prefixes.{is_good_prefix}
use Rattle.bp_bates.proofs.PrefixLemmas.{allowed_itself}
use Rattle.bp_outside.specs.Folder.{file}
use Rattle.bp_outside.specs.declared.files.FileRow.{FileRow}
use Rattle.bp_matter.specs.LookUps.{of_row}
use Rattle.bp_matter.specs.Matter.{Matter}
use Rattle.bp_matter.specs.declared.rows.Production.{Production}
use Rattle.bp_matter.specs.declared.rows.Request.{Request}
use Rattle.bp_core.specs.Characters.{solidus}
use Rattle.bp_freeze.specs.Log.{label_in}
use Rattle.bp_press.specs.Manifest.{manifest_line, manifest_of}
use Rattle.bp_press.specs.Paths.{folder_of, image_path, manifest_path, text_path}
use Rattle.bp_press.specs.Volume.{file_at, files_before, files_of, placed_items, volume_of}
use Rattle.bp_press.specs.Sought.{IsSought}
use Rattle.bp_press.specs.VolumeFiles.{bytes_of_entry, entry_at, entry_path, file_of_entry}
use Rattle.bp_press.specs.declared.volume_files.VolumeFile.{VolumeFile}
use Rattle.bp_press.proofs.CharacterLemmas.{label_allowed}
use Rattle.bp_press.proofs.GatherLemmas.{onto}

-- ---- among two lists

pub earlier : (path : List ℕ) (xs ys : List FileRow) (bytes : List ℕ) → Some bytes ≡ file_at path xs → Some bytes ≡ file_at path (xs ++ ys)
earlier path [] ys bytes found = absurd cc
earlier path (x ∷ xs) ys bytes found =
    elim (cases_Bool (bytes_eq x.path path)) [
      | inl here ↦ (
          let first : Some bytes ≡ Some x.bytes = found ∙ ap (λ (b : Bool). of_row (λ (row : FileRow). row.bytes) (cond b (Some x) (find (λ row. bytes_eq row.path path) xs))) here in
          first ∙ sym (ap (λ (b : Bool). of_row (λ (row : FileRow). row.bytes) (cond b (Some x) (find (λ row. bytes_eq row.path path) (xs ++ ys)))) here))
      | inr other ↦ (
          let rest : Some bytes ≡ file_at path xs = found ∙ ap (λ (b : Bool). of_row (λ (row : FileRow). row.bytes) (cond b (Some x) (find (λ row. bytes_eq row.path path) xs))) other in
          earlier path xs ys bytes rest ∙ sym (ap (λ (b : Bool). of_row (λ (row : FileRow). row.bytes) (cond b (Some x) (find (λ row. bytes_eq row.path path) (xs ++ ys)))) other))
    ]

pub later : (path : List ℕ) (xs ys : List FileRow) → None ≡ file_at path xs → file_at path ys ≡ file_at path (xs ++ ys)
later path [] ys none = refl
later path (x ∷ xs) ys none =
    elim (cases_Bool (bytes_eq x.path path)) [
      | inl here ↦ absurd (
          let first : None ≡ Some x.bytes = none ∙ ap (λ (b : Bool). of_row (λ (row : FileRow). row.bytes) (cond b (Some x) (find (λ row. bytes_eq row.path path) xs))) here in
          cc)
      | inr other ↦ (
          let rest : None ≡ file_at path xs = none ∙ ap (λ (b : Bool). of_row (λ (row : FileRow). row.bytes) (cond b (Some x) (find (λ row. bytes_eq row.path path) xs))) other in
          later path xs ys rest ∙ sym (ap (λ (b : Bool). of_row (λ (row : FileRow). row.bytes) (cond b (Some x) (find (λ row. bytes_eq row.path path) (xs ++ ys)))) other))
    ]

-- what is found is what is found in the other list
pub found_same : {X E : Type 0} (r : Result X E) (a b : X) → a ≡ b → IfOk r (λ x. x ≡ a) → IfOk r (λ x. x ≡ b)
found_same {X = X} r a b is h = subst (λ (y : X). IfOk r (λ x. x ≡ y)) is h

-- ---- one file

pub missed : (path own : List ℕ) (row : FileRow) → own ≡ row.path → bytes_eq own path ≡ false → None ≡ file_at path (row ∷ [])
missed path own row is other = sym (ap (λ (b : Bool). of_row (λ (row : FileRow). row.bytes) (cond b (Some row) None)) (sym (ap (λ p. bytes_eq p path) is) ∙ other))

pub hit : (path own bytes : List ℕ) (row : FileRow) → own ≡ row.path → bytes_eq own path ≡ true → bytes ≡ row.bytes → Some bytes ≡ file_at path (row ∷ [])
hit path own bytes row is here made =
    ap Some made ∙ sym (ap (λ (b : Bool). of_row (λ (row : FileRow). row.bytes) (cond b (Some row) None)) (sym (ap (λ p. bytes_eq p path) is) ∙ here))

-- ---- a path by the label that it ends with

-- four steps, of which the last one is an end
pub four_end : (v k f l : List ℕ) (s : ℕ) → join_with_byte s (v ∷ k ∷ f ∷ l ∷ []) ≡ (v ++ s ∷ (k ++ s ∷ (f ++ s ∷ []))) ++ l
four_end v k f l s =
    sym
    (append_assoc v (s ∷ (k ++ s ∷ (f ++ s ∷ []))) l
    ∙ ap (λ x. v ++ s ∷ x) (append_assoc k (s ∷ (f ++ s ∷ [])) l ∙ ap (λ x. k ++ s ∷ x) (append_assoc f (s ∷ []) l)))

-- a path that doesn't end so is another
pub other_path : (own front tail path : List ℕ) (r : Bool) → own ≡ front ++ tail → ((before : List ℕ) → path ≡ before ++ tail → r ≡ true) → r ≡ false → bytes_eq own path ≡ false
other_path own front tail path r is ends none =
    elim (cases_Bool (bytes_eq own path)) [
      | inl same ↦ absurd (true≢false (sym (ends front (sym ((bytes_eq-Decides own path).0 same) ∙ is)) ∙ none))
      | inr other ↦ other
    ]

-- the bytes of a path that ends with a label and what stands behind it
pub path_bytes : (front text end : List ℕ) (width number : ℕ) → is_good_prefix text width ≡ true → encode_utf8_all end ≡ end
    → encode_utf8_all (front ++ (bates_label text width number ++ end)) ≡ (encode_utf8_all front ++ bates_label text width number) ++ end
path_bytes front text end width number good ascii =
    let label = bates_label text width number in
    encodes-append front (label ++ end)
    ∙ ap (λ x. encode_utf8_all front ++ x)
    (encodes-append label end ∙ ap (λ x. x ++ encode_utf8_all end) (allowed_itself label (label_allowed text width number good)) ∙ ap (λ x. label ++ x) ascii)
    ∙ sym (append_assoc (encode_utf8_all front) label end)

-- what a text ends with, and what it doesn't
Strips : (s end : List ℕ) → Option (Bor (List ℕ)) → Type 0
Strips s end r = MatchOption r ((before : List ℕ) → s ≡ before ++ end → ⊥) (λ (x : Bor (List ℕ)). s ≡ x.now ++ end)

strips_by : (s end : List ℕ) (r : Option (Bor (List ℕ))) → MatchOption r (pointwise eqb (drop (length s - length end) s) end ≡ false) (λ (x : Bor (List ℕ)). (pointwise eqb (drop (length s - length end) s) end ≡ true) × (x.now ≡ take (length s - length end) s) × (length x.now + length end ≡ length s)) → Strips s end r
unfolding Strips
strips_by s end r cases = strip_suffix_is Decides-eqb s end r cases

pub stripped_whole : (s end : List ℕ) (r : Option (Bor (List ℕ))) (x : Bor (List ℕ)) → r ≡ Some x
    → MatchOption r (pointwise eqb (drop (length s - length end) s) end ≡ false) (λ (x : Bor (List ℕ)). (pointwise eqb (drop (length s - length end) s) end ≡ true) × (x.now ≡ take (length s - length end) s) × (length x.now + length end ≡ length s))
    → s ≡ x.now ++ end
unfolding Strips
stripped_whole s end r x is cases = subst (Strips s end) is (strips_by s end r cases)

pub stripped_some : (s end front : List ℕ) (r : Option (Bor (List ℕ))) (x : Bor (List ℕ)) → r ≡ Some x → s ≡ front ++ end
    → MatchOption r (pointwise eqb (drop (length s - length end) s) end ≡ false) (λ (x : Bor (List ℕ)). (pointwise eqb (drop (length s - length end) s) end ≡ true) × (x.now ≡ take (length s - length end) s) × (length x.now + length end ≡ length s))
    → x.now ≡ front
unfolding Strips
stripped_some s end front r x is ends cases =
    append_cancel_right x.now front end (sym (stripped_whole s end r x is cases) ∙ ends)

pub stripped_none : (s end front : List ℕ) (r : Option (Bor (List ℕ))) → r ≡ None → s ≡ front ++ end
    → MatchOption r (pointwise eqb (drop (length s - length end) s) end ≡ false) (λ (x : Bor (List ℕ)). (pointwise eqb (drop (length s - length end) s) end ≡ true) × (x.now ≡ take (length s - length end) s) × (length x.now + length end ≡ length s))
    → ⊥
unfolding Strips
stripped_none s end front r is ends cases =
    let other : Strips s end None = subst (Strips s end) is (strips_by s end r cases) in
    other front ends

-- where a path doesn't end with an image's label it isn't that image's
pub image_missed : (q : Request) (place number : ℕ) (path : List ℕ) (r : Bool) → ((before : List ℕ) → path ≡ before ++ (label_in q.prefix number ++ codes ".TIF") → r ≡ true) → r ≡ false
    → bytes_eq (image_path solidus q place number) path ≡ false
image_missed q place number path r ends none =
    other_path (image_path solidus q place number) _ (label_in q.prefix number ++ codes ".TIF") path r
    (four_end q.volume (codes "IMAGES") (folder_of place) (label_in q.prefix number ++ codes ".TIF") solidus) ends none

-- and the same of a text
pub text_missed : (q : Request) (place number : ℕ) (path : List ℕ) (r : Bool) → ((before : List ℕ) → path ≡ before ++ (label_in q.prefix number ++ codes ".TXT") → r ≡ true) → r ≡ false
    → bytes_eq (text_path solidus q place number) path ≡ false
text_missed q place number path r ends none =
    other_path (text_path solidus q place number) _ (label_in q.prefix number ++ codes ".TXT") path r
    (four_end q.volume (codes "TEXT") (folder_of place) (label_in q.prefix number ++ codes ".TXT") solidus) ends none

-- ---- the entry of a path

-- an element that is found is one of the list
pub found_has : {T : Type 0} (P : T → Type 0) (p : T → Bool) (xs : List T) (x : T) → find p xs ≡ Some x → All P xs → P x
found_has P p [] x found all = absurd cc
found_has P p (y ∷ ys) x found all =
    elim (cases_Bool (p y)) [
      | inl here ↦ (
          let first : Some y ≡ Some x = sym (ap (λ (b : Bool). cond b (Some y) (find p ys)) here) ∙ found in
          let is : y ≡ x = cc in
          subst P is (all 0 y (omega arith)))
      | inr other ↦ found_has P p ys x (sym (ap (λ (b : Bool). cond b (Some y) (find p ys)) other) ∙ found) (λ k d l. all (suc k) d (omega arith))
    ]

-- the bytes at a path are those of the first entry there
pub entry_bytes : (f : Production) (m : Matter) (path : List ℕ) (list : List VolumeFile) → file_at path (map (file_of_entry f m) list) ≡ of_row (bytes_of_entry f m) (entry_at f path list)
entry_bytes f m path [] = refl
entry_bytes f m path (x ∷ list) =
    let rows = find (λ (row : FileRow). bytes_eq row.path path) (map (file_of_entry f m) list) in
    elim (cases_Bool (bytes_eq (entry_path f x) path)) [
      | inl here ↦
          ap (λ (b : Bool). of_row (λ (row : FileRow). row.bytes) (cond b (Some (file_of_entry f m x)) rows)) here
          ∙ sym (ap (λ (b : Bool). of_row (bytes_of_entry f m) (cond b (Some x) (entry_at f path list))) here)
      | inr other ↦
          ap (λ (b : Bool). of_row (λ (row : FileRow). row.bytes) (cond b (Some (file_of_entry f m x)) rows)) other
          ∙ entry_bytes f m path list
          ∙ sym (ap (λ (b : Bool). of_row (bytes_of_entry f m) (cond b (Some x) (entry_at f path list))) other)
    ]

-- what is found from one of them on is what is found among all
pub record AreSought {T : Type 0} (p : T → Bool) (all : List T) (k : ℕ) : Type 0 where
  pub so_far : find p (drop k all) ≡ find p all

pub sought_begin : {T : Type 0} (p : T → Bool) (all : List T) → AreSought p all 0
sought_begin p all = record { so_far = refl }

pub sought_next : {T : Type 0} (p : T → Bool) (all : List T) (k : ℕ) (d : T) → k < length all → p (get_or all k d) ≡ false → AreSought p all k → AreSought p all (k + 1)
sought_next p all k d less other h = record {
  so_far = sym (ap (λ (b : Bool). cond b (Some (get_or all k d)) (find p (drop (k + 1) all))) other) ∙ sym (at_drop_more (find p) all k d less) ∙ h.so_far;
}

pub sought_here : {T : Type 0} (p : T → Bool) (all : List T) (k : ℕ) (d : T) → k < length all → p (get_or all k d) ≡ true → AreSought p all k → Some (get_or all k d) ≡ find p all
sought_here p all k d less here h =
    sym (ap (λ (b : Bool). cond b (Some (get_or all k d)) (find p (drop (k + 1) all))) here) ∙ sym (at_drop_more (find p) all k d less) ∙ h.so_far

pub sought_end : {T : Type 0} (p : T → Bool) (all : List T) (k : ℕ) → length all ≤ k → AreSought p all k → None ≡ find p all
sought_end p all k past h = sym (at_drop_all (find p) all k past) ∙ h.so_far

-- ---- the lines of the manifest

-- the lines so far, with those of the files that are left, are all
pub record AreLinesFrom {T : Type 0} (row : T → FileRow) (all : List T) (k : ℕ) (lines : List ℕ) : Type 0 where
  pub so_far : lines ++ manifest_of (map row (drop k all)) ≡ manifest_of (map row all)

pub lines_begin : {T : Type 0} (row : T → FileRow) (all : List T) (lines : List ℕ) → lines ≡ [] → AreLinesFrom row all 0 lines
lines_begin row all lines none = record { so_far = ap (λ l. l ++ manifest_of (map row all)) none }

pub lines_turn : {T : Type 0} (row : T → FileRow) (all : List T) (k : ℕ) (d : T) (lines more : List ℕ) → k < length all
    → AreLinesFrom row all k lines → more ≡ lines ++ manifest_line (row (get_or all k d)) → AreLinesFrom row all (k + 1) more
lines_turn row all k d lines more less h grown = record {
  so_far =
      onto lines more (manifest_line (row (get_or all k d))) (manifest_of (map row (drop (k + 1) all))) (manifest_of (map row all)) grown
      (sym (ap (λ (rest : List FileRow). lines ++ manifest_of rest) (at_drop_more (map row) all k d less)) ∙ h.so_far);
}

pub lines_end : {T : Type 0} (row : T → FileRow) (all : List T) (k : ℕ) (lines : List ℕ) → length all ≤ k → AreLinesFrom row all k lines → lines ≡ manifest_of (map row all)
lines_end row all k lines past h =
    sym (append-nil lines) ∙ sym (ap (λ (rest : List FileRow). lines ++ manifest_of rest) (at_drop_all (map row) all k past)) ∙ h.so_far

-- ---- the whole volume

whole : (f : Production) (m : Matter) → files_before f (placed_items f m) ++ file (manifest_path f.request) (manifest_of (files_before f (placed_items f m))) ∷ [] ≡ volume_of f m
unfolding volume_of files_of
whole f m = refl

pub found_here : (path : List ℕ) (f : Production) (m : Matter) (list lent : List VolumeFile) (bytes : List ℕ)
    → lent ≡ list
    → IsSought f m path list (files_before f (placed_items f m))
    → Some bytes ≡ file_at path (map (file_of_entry f m) lent)
    → Some bytes ≡ file_at path (volume_of f m)
found_here path f m list lent bytes same h found =
    let rows = files_before f (placed_items f m) in
    earlier path rows (file (manifest_path f.request) (manifest_of rows) ∷ []) bytes
    (found ∙ ap (λ (l : List VolumeFile). file_at path (map (file_of_entry f m) l)) same ∙ h.found)
    ∙ ap (file_at path) (whole f m)

pub found_later : (path : List ℕ) (f : Production) (m : Matter) (list lent : List VolumeFile)
    → lent ≡ list
    → IsSought f m path list (files_before f (placed_items f m))
    → None ≡ file_at path (map (file_of_entry f m) lent)
    → file_at path (file (manifest_path f.request) (manifest_of (files_before f (placed_items f m))) ∷ []) ≡ file_at path (volume_of f m)
found_later path f m list lent same h none =
    let rows = files_before f (placed_items f m) in
    later path rows (file (manifest_path f.request) (manifest_of rows) ∷ [])
    (none ∙ ap (λ (l : List VolumeFile). file_at path (map (file_of_entry f m) l)) same ∙ h.found)
    ∙ ap (file_at path) (whole f m)
