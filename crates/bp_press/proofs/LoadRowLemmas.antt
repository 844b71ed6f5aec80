-- The rows of the DAT and the lines of the OPT of a production that a valid matter keeps can be written.
use Rattle.std.proofs.Common.{◌≡◌, ℕ, zero, suc, ◌+◌, ◌^◌, ◌≤◌, ◌<◌, ◌==◌, not, Bool, true, List, [], ◌∷◌, ◌++◌, length, map, flat_map, get_or, All, Option, Some, None, nat_le, cond, refl, ap, sym, ◌∙◌, arith, length-append, inl, inr, eqb}
use Rattle.std.specs.Char.{is_ascii_digit}
use Rattle.std.specs.Fmt.{decimal}
use Rattle.std.specs.List.{list_all, range_with_len}
use Rattle.std.proofs.lemmas.Bool.{and_from, cases_Bool, eq-eqb}
use Rattle.std.proofs.lemmas.Bool.Decides.{nat_tests}
use Rattle.std.proofs.lemmas.Fmt.{length-decimal-le}
use Rattle.bp_core.specs.Characters.{reverse_solidus}
use Rattle.bp_core.specs.declared.review.Basis.{Basis}
use Rattle.bp_bates.specs.Prefixes.{is_digit}
use Rattle.bp_load.specs.Dat.{is_cell, is_name, is_writable}
use Rattle.bp_load.specs.Opt.{are_opt_lines, is_field, is_opt_line, is_page_count}
use Rattle.bp_load.specs.Table.{is_even}
use Rattle.bp_matter.specs.Matter.{Matter}
use Rattle.bp_matter.specs.Texts.{columns}
use Rattle.bp_matter.specs.Valid.{IsValid}
use Rattle.bp_matter.specs.declared.rows.Item.{Item}
use Rattle.bp_matter.specs.declared.rows.Production.{Production}
use Rattle.bp_matter.specs.declared.rows.Request.{Request}
use Rattle.bp_freeze.specs.Keeping.{KeepsProduction}
use Rattle.bp_freeze.specs.Log.{label_in}
use Rattle.bp_press.specs.Contents.{content_by, ground_of, label_count, part_of, value_shown}
use Rattle.bp_press.specs.Files.{Placed, placed}
use Rattle.bp_press.specs.LoadFiles.{dat_row, dat_table, opt_line, opt_lines, own_values}
use Rattle.bp_press.specs.Paths.{image_path}
use Rattle.bp_press.specs.Pressing.{placed_at}
use Rattle.bp_press.specs.Volume.{placed_items}
use Rattle.bp_press.proofs.CharacterLemmas.{all-append, all-wider, clean-digit, decimal_digits, field_clean, is_clean, label_clean, label_some}
use Rattle.bp_press.proofs.KeptItemLemmas.{ItemStands, KeptNumbers}
use Rattle.bp_press.proofs.LoadLemmas.{RequestWrites, content_cells, image_path_clean, kept-request, own_cells}
use Rattle.bp_press.proofs.PlacedLemmas.{CountFits, Presses, count_fits, image_count-part, kept-presses}

-- ---- the DAT

few_labels : (m : Matter) (i : Item) → CountFits m i → label_count i < 2 ^ 64
few_labels m i fits = omega (arith, fits.span, fits.few)

row_cells : (f : Production) → KeptNumbers f → RequestWrites f.request → (m : Matter) (i : Item) (place : ℕ) → ItemStands m i → CountFits m i → list_all is_cell (dat_row f (placed_at f m i place)) ≡ true
row_cells f numbers writes m i place stands fits =
    all-append is_cell (own_values f (placed_at f m i place)) (part_of f m i).content.values
    (own_cells f numbers writes m (placed_at f m i place) stands (few_labels m i fits)) (content_cells f m i stands (ground_of i.treatment))

rows_cells : (f : Production) → KeptNumbers f → RequestWrites f.request → (m : Matter) (place : ℕ) (items : List Item) → All (ItemStands m) items → All (CountFits m) items
    → list_all (list_all is_cell) (map (dat_row f) (placed place (map (part_of f m) items))) ≡ true
rows_cells f numbers writes m place [] stand fit = refl
rows_cells f numbers writes m place (i ∷ items) stand fit =
    and_from _ _ (row_cells f numbers writes m i place (stand 0 i (omega arith)) (fit 0 i (omega arith)))
    (rows_cells f numbers writes m (place + length (part_of f m i).content.images) items (λ k d l. stand (suc k) d (omega arith)) (λ k d l. fit (suc k) d (omega arith)))

counted_map : (f : List ℕ → List ℕ) (xs : List (List ℕ)) → length (map f xs) ≡ length xs
counted_map f [] = refl
counted_map f (x ∷ xs) = ap suc (counted_map f xs)

-- as many values as chosen fields
values_counted : (f : Production) (m : Matter) (i : Item) (ground : Option Basis) → length (content_by f m i ground).values ≡ length f.request.fields
values_counted f m i None = counted_map (value_shown m i) f.request.fields
values_counted f m i (Some basis) = counted_map (λ name. []) f.request.fields

row_even : (f : Production) (m : Matter) (i : Item) (place : ℕ) → eqb (length (dat_row f (placed_at f m i place))) (length (columns ++ f.request.fields)) ≡ true
row_even f m i place =
    eq-eqb (length (dat_row f (placed_at f m i place))) (length (columns ++ f.request.fields))
    (length-append (own_values f (placed_at f m i place)) (part_of f m i).content.values ∙ ap (λ n. 8 + n) (values_counted f m i (ground_of i.treatment)) ∙ sym (length-append columns f.request.fields))

rows_even : (f : Production) (m : Matter) (place : ℕ) (items : List Item) → list_all (λ row. eqb (length row) (length (columns ++ f.request.fields))) (map (dat_row f) (placed place (map (part_of f m) items))) ≡ true
rows_even f m place [] = refl
rows_even f m place (i ∷ items) = and_from _ _ (row_even f m i place) (rows_even f m (place + length (part_of f m i).content.images) items)

pub dat-even : (f : Production) (m : Matter) → is_even (dat_table f (placed_items f m)) ≡ true
dat-even f m = rows_even f m 0 f.items

some_columns : (fields : List (List ℕ)) → not (length (columns ++ fields) == 0) ≡ true
some_columns fields = grind (arith, nat_tests)

pub dat-writable-by : (m : Matter) → IsValid m → (f : Production) → Presses m f → RequestWrites f.request → is_writable (dat_table f (placed_items f m)) ≡ true
dat-writable-by m valid f presses writes =
    and_from _ _ (and_from _ _ (some_columns f.request.fields) (all-append is_name columns f.request.fields refl writes.fields))
    (rows_cells f presses.numbers writes m 0 f.items presses.stand (λ k d l. count_fits m valid (get_or f.items k d) (presses.stand k d l)))

pub dat-writable : (m : Matter) → IsValid m → (f : Production) → KeepsProduction m f → is_writable (dat_table f (placed_items f m)) ≡ true
dat-writable m valid f kept = dat-writable-by m valid f (kept-presses m valid f kept) (kept-request m valid f kept)

-- ---- the OPT

digit_same : (c : ℕ) → is_digit c ≡ true → is_ascii_digit c ≡ true
digit_same c h = grind (arith, nat_tests)

count_written : (count : ℕ) → count ≤ 20000 → is_page_count (decimal count) ≡ true
count_written count few =
    and_from (nat_le (length (decimal count)) 9) (list_all is_ascii_digit (decimal count)) (short (length (decimal count)) (length-decimal-le 9 count (omega arith) (omega arith) (omega arith)))
    (all-wider is_digit is_ascii_digit (decimal count) digit_same (decimal_digits count (omega arith)))
  where
    short : (n : ℕ) → n ≤ 9 → nat_le n 9 ≡ true
    short n l = grind (arith, nat_tests)

count_field : (count : ℕ) → count ≤ 20000 → is_field (decimal count) ≡ true
count_field count few = field_clean (decimal count) (all-wider is_digit is_clean (decimal count) clean-digit (decimal_digits count (omega arith)))

-- what the OPT says of the number of images
abbrev said : ℕ → ℕ → List ℕ
said count k = cond (eqb k 0) (decimal count) []

said_field : (count k : ℕ) → count ≤ 20000 → is_field (said count k) ≡ true
said_field count k few =
    elim (cases_Bool (eqb k 0)) [
      | inl first ↦ ap (λ (b : Bool). is_field (cond b (decimal count) [])) first ∙ count_field count few
      | inr later ↦ ap (λ (b : Bool). is_field (cond b (decimal count) [])) later
    ]

said_count : (count k : ℕ) → count ≤ 20000 → is_page_count (said count k) ≡ true
said_count count k few =
    elim (cases_Bool (eqb k 0)) [
      | inl first ↦ ap (λ (b : Bool). is_page_count (cond b (decimal count) [])) first ∙ count_written count few
      | inr later ↦ ap (λ (b : Bool). is_page_count (cond b (decimal count) [])) later
    ]

not_empty : (text : List ℕ) → 0 < length text → not (length text == 0) ≡ true
not_empty [] l = absurd (omega arith)
not_empty (c ∷ text) l = grind (arith, nat_tests)

line_written : (f : Production) → KeptNumbers f → RequestWrites f.request → (p : Placed) → length p.content.images ≤ 20000 → (k : ℕ) → is_opt_line (opt_line f.request p k) ≡ true
line_written f numbers writes p few k =
    let q : Request = f.request in
    let label : List ℕ = label_in q.prefix (p.item.span.first + k) in
    let path : List ℕ = image_path reverse_solidus q (p.place + k) (p.item.span.first + k) in
    let image_ok : is_field label ≡ true = field_clean label (label_clean q.prefix.text q.prefix.width (p.item.span.first + k) numbers.good) in
    let volume_ok : is_field q.volume ≡ true = field_clean q.volume writes.volume in
    let path_ok : is_field path ≡ true = field_clean path (image_path_clean f numbers writes (p.place + k) (p.item.span.first + k)) in
    let some : not (length label == 0) ≡ true = not_empty label (label_some q.prefix.text q.prefix.width (p.item.span.first + k) numbers.good) in
    let long : not (length path == 0) ≡ true = not_empty path (path_long q.volume _) in
    and_from _ _ (and_from _ _ (and_from _ _ (and_from _ _ (and_from _ _ (and_from _ _ image_ok volume_ok) path_ok) (said_field (length p.content.images) k few)) some) long) (said_count (length p.content.images) k few)
  where
    path_long : (v rest : List ℕ) → 0 < length (v ++ 92 ∷ rest)
    path_long v rest = omega (arith, length-append v (92 ∷ rest))

lines_written : (f : Production) → KeptNumbers f → RequestWrites f.request → (p : Placed) → length p.content.images ≤ 20000 → (from n : ℕ) → are_opt_lines (map (opt_line f.request p) (range_with_len from n)) ≡ true
lines_written f numbers writes p few from zero = refl
lines_written f numbers writes p few from (suc n) = and_from _ _ (line_written f numbers writes p few from) (lines_written f numbers writes p few (from + 1) n)

all_written : (f : Production) → KeptNumbers f → RequestWrites f.request → (m : Matter) (place : ℕ) (items : List Item) → All (CountFits m) items
    → are_opt_lines (flat_map (opt_lines f.request) (placed place (map (part_of f m) items))) ≡ true
all_written f numbers writes m place [] fit = refl
all_written f numbers writes m place (i ∷ items) fit =
    let p : Placed = placed_at f m i place in
    let one = fit 0 i (omega arith) in
    all-append is_opt_line (opt_lines f.request p) _
    (lines_written f numbers writes p (omega (arith, one.few, image_count-part f m i)) 0 (length p.content.images))
    (all_written f numbers writes m (place + length p.content.images) items (λ k d l. fit (suc k) d (omega arith)))

pub opt-writable-by : (m : Matter) → IsValid m → (f : Production) → Presses m f → RequestWrites f.request → are_opt_lines (flat_map (opt_lines f.request) (placed_items f m)) ≡ true
opt-writable-by m valid f presses writes =
    all_written f presses.numbers writes m 0 f.items (λ k d l. count_fits m valid (get_or f.items k d) (presses.stand k d l))

pub opt-writable : (m : Matter) → IsValid m → (f : Production) → KeepsProduction m f → are_opt_lines (flat_map (opt_lines f.request) (placed_items f m)) ≡ true
opt-writable m valid f kept = opt-writable-by m valid f (kept-presses m valid f kept) (kept-request m valid f kept)
