-- The load files of a production that a valid matter keeps can be written.
use Rattle.std.proofs.Common.{◌≡◌, ℕ, zero, suc, ◌+◌, ◌-◌, ◌/◌, ◌^◌, ◌<◌, Bool, true, List, [], ◌∷◌, ◌++◌, length, map, get_or, Option, Some, None, refl, ap, sym, ◌∙◌}
use Rattle.std.specs.Prelude.{codes, slice_index_or, unwrap_or}
use Rattle.std.specs.Fmt.{decimal}
use Rattle.std.specs.List.{list_all}
use Rattle.std.specs.Str.{bytes_eq}
use Rattle.std.proofs.lemmas.Bool.{and_from, and_parts}
use Rattle.std.proofs.lemmas.List.Sums.{list_all-from_AllPass}
use Rattle.std.proofs.lemmas.Slice.Eq.{bytes_eq-Decides}
use Rattle.bp_core.specs.Characters.{reverse_solidus}
use Rattle.bp_core.specs.Review.{basis_code}
use Rattle.bp_core.specs.declared.review.Basis.{Basis}
use Rattle.bp_core.specs.declared.review.Basis.TheVariants.{Ac, Wp, Pi, Ts}
use Rattle.bp_bates.specs.Prefixes.{is_digit}
use Rattle.bp_load.specs.Dat.{is_cell, is_name}
use Rattle.bp_matter.specs.LookUps.{of_row}
use Rattle.bp_matter.specs.Matter.{Matter}
use Rattle.bp_matter.specs.Texts.{is_designation_character, is_value, is_volume, is_volume_character}
use Rattle.bp_matter.specs.Valid.{IsValid}
use Rattle.bp_matter.specs.ValidFields.{field_fits, has_field}
use Rattle.bp_matter.specs.ValidProductions.{production_fits, request_fits}
use Rattle.bp_matter.specs.declared.rows.DocRow.{DocRow}
use Rattle.bp_matter.specs.declared.rows.FieldRow.{FieldRow}
use Rattle.bp_matter.specs.declared.rows.HeldRow.{HeldRow}
use Rattle.bp_matter.specs.declared.rows.Item.{Item}
use Rattle.bp_matter.specs.declared.rows.Production.{Production}
use Rattle.bp_matter.specs.declared.rows.Request.{Request}
use Rattle.bp_freeze.specs.Agree.{field_number, held_of_number, value_of_field}
use Rattle.bp_freeze.specs.Keeping.{KeepsProduction}
use Rattle.bp_freeze.specs.Log.{label_in}
use Rattle.bp_freeze.specs.Selecting.{first_of_items, last_of_items}
use Rattle.bp_press.specs.Contents.{content_by, ground_of, held_text, label_count, value_by, value_shown, value_unless}
use Rattle.bp_press.specs.Files.{Placed}
use Rattle.bp_press.specs.LoadFiles.{family_of, optional_code, own_values}
use Rattle.bp_press.specs.Paths.{folder_of, image_path, text_path}
use Rattle.bp_press.proofs.CharacterLemmas.{all-append, all-wider, cell_clean, clean-designation, clean-digit, clean-volume, decimal_digits, four_clean, is_clean, label_clean, name_field, padded_digits}
use Rattle.bp_press.proofs.KeptItemLemmas.{ItemStands, KeptNumbers, found_passes, is_row_of, kept-row}
use Rattle.bp_press.proofs.KeptPageLemmas.{finds, kept-fields, passes}

-- ---- the request

-- the name of the volume can stand in a path, and each chosen field is a column
pub record RequestWrites (q : Request) : Type 0 where
  pub volume : list_all is_clean q.volume ≡ true
  pub fields : list_all is_name q.fields ≡ true

pub volume_clean : (volume : List ℕ) → is_volume volume ≡ true → list_all is_clean volume ≡ true
volume_clean volume is =
    all-wider is_volume_character is_clean volume clean-volume (and_parts _ (list_all is_volume_character volume) is).1

-- the name of a field of the matter is a column
field_named : (m : Matter) → IsValid m → (name : List ℕ) → has_field m.fields name ≡ true → is_name name ≡ true
field_named m valid name has =
    let test : FieldRow → Bool = λ row. bytes_eq row.name name in
    let row = finds test m.fields has in
    let same : row.0.name ≡ name = (bytes_eq-Decides row.0.name name).0 (found_passes test m.fields row.0 row.1) in
    ap is_name (sym same) ∙ name_field row.0.name (passes test field_fits m.fields row.0 row.1 valid.fields.fit)

pub kept-request : (m : Matter) → IsValid m → (f : Production) → KeepsProduction m f → RequestWrites f.request
kept-request m valid f keeps =
    let kept = kept-row m f keeps in
    let three = and_parts _ _ (passes (is_row_of f) (production_fits m.fields m.docs m.pages) m.productions kept.row kept.found valid.productions.fit) in
    let two = and_parts _ _ three.0 in
    let one = and_parts (request_fits m.fields (length m.docs) kept.row.production.request) _ two.0 in
    let a = and_parts _ _ one.0 in
    let b = and_parts _ _ a.0 in
    let c = and_parts _ _ b.0 in
    let d = and_parts _ _ c.0 in
    let e = and_parts _ (is_volume kept.row.production.request.volume) d.0 in
    record {
      volume = volume_clean f.request.volume (sym (ap (λ (g : Production). is_volume g.request.volume) kept.same) ∙ e.1);
      fields = list_all-from_AllPass is_name f.request.fields (λ k d l. field_named m valid (get_or f.request.fields k d) (kept-fields m valid f keeps k d l));
    }

-- ---- paths

folder_clean : (place : ℕ) → list_all is_clean (folder_of place) ≡ true
folder_clean place = all-wider is_digit is_clean (folder_of place) clean-digit (padded_digits 4 (place / 1000 + 1))

pub image_path_clean : (f : Production) → KeptNumbers f → RequestWrites f.request → (place number : ℕ) → list_all is_clean (image_path reverse_solidus f.request place number) ≡ true
image_path_clean f numbers writes place number =
    let q : Request = f.request in
    let label = label_clean q.prefix.text q.prefix.width number numbers.good in
    four_clean reverse_solidus q.volume (codes "IMAGES") (folder_of place) (label_in q.prefix number ++ codes ".TIF") refl writes.volume refl (folder_clean place)
    (all-append is_clean (label_in q.prefix number) (codes ".TIF") label refl)

pub text_path_clean : (f : Production) → KeptNumbers f → RequestWrites f.request → (place number : ℕ) → list_all is_clean (text_path reverse_solidus f.request place number) ≡ true
text_path_clean f numbers writes place number =
    let q : Request = f.request in
    let label = label_clean q.prefix.text q.prefix.width number numbers.good in
    four_clean reverse_solidus q.volume (codes "TEXT") (folder_of place) (label_in q.prefix number ++ codes ".TXT") refl writes.volume refl (folder_clean place)
    (all-append is_clean (label_in q.prefix number) (codes ".TXT") label refl)

-- ---- values

code_clean : (basis : Basis) → list_all is_clean (basis_code basis) ≡ true
code_clean Ac = refl
code_clean Wp = refl
code_clean Pi = refl
code_clean Ts = refl

optional_clean : (ground : Option Basis) → list_all is_clean (optional_code ground) ≡ true
optional_clean None = refl
optional_clean (Some basis) = code_clean basis

held_clean : (held : HeldRow) → list_all is_clean (held_text held) ≡ true
held_clean held = all-append is_clean (codes "WITHHELD - ") (basis_code held.basis) refl (code_clean held.basis)

value_cell : (values : List (List ℕ)) → list_all is_value values ≡ true → (k : ℕ) → is_cell (slice_index_or values k []) ≡ true
value_cell [] are k = refl
value_cell (value ∷ values) are zero = (and_parts (is_value value) (list_all is_value values) are).0
value_cell (value ∷ values) are (suc k) = value_cell values (and_parts (is_value value) (list_all is_value values) are).1 k

in_cell : (m : Matter) (i : Item) → ItemStands m i → (field : ℕ) → is_cell (unwrap_or (value_of_field m i.doc.0 field) []) ≡ true
in_cell m i stands field =
    ap (λ (o : Option DocRow). is_cell (unwrap_or (of_row (λ (row : DocRow). slice_index_or row.values (field - 1) []) o) [])) stands.found
    ∙ value_cell stands.row.values stands.values (field - 1)

unless_cell : (held : Option HeldRow) (value : Option (List ℕ)) → is_cell (unwrap_or value []) ≡ true → is_cell (value_unless held value) ≡ true
unless_cell (Some held) value h = cell_clean (held_text held) (held_clean held)
unless_cell None value h = h

by_cell : (m : Matter) (i : Item) → ItemStands m i → (field : Option ℕ) → is_cell (value_by m i field) ≡ true
by_cell m i stands None = refl
by_cell m i stands (Some field) = unless_cell (held_of_number i.held field) (value_of_field m i.doc.0 field) (in_cell m i stands field)

shown_cells : (m : Matter) (i : Item) → ItemStands m i → (names : List (List ℕ)) → list_all is_cell (map (value_shown m i) names) ≡ true
shown_cells m i stands [] = refl
shown_cells m i stands (name ∷ names) = and_from (is_cell (value_shown m i name)) _ (by_cell m i stands (field_number m name)) (shown_cells m i stands names)

blank_cells : (names : List (List ℕ)) → list_all is_cell (map (λ name. []) names) ≡ true
blank_cells [] = refl
blank_cells (name ∷ names) = blank_cells names

pub content_cells : (f : Production) (m : Matter) (i : Item) → ItemStands m i → (ground : Option Basis) → list_all is_cell (content_by f m i ground).values ≡ true
content_cells f m i stands None = shown_cells m i stands f.request.fields
content_cells f m i stands (Some basis) = blank_cells f.request.fields

-- ---- the DAT

pub own_cells : (f : Production) → KeptNumbers f → RequestWrites f.request → (m : Matter) (p : Placed) → ItemStands m p.item → label_count p.item < 2 ^ 64 → list_all is_cell (own_values f p) ≡ true
own_cells f numbers writes m p stands few =
    let q : Request = f.request in
    let i : Item = p.item in
    let family : List Item = family_of f i in
    let label : (n : ℕ) → is_cell (label_in q.prefix n) ≡ true = λ n. cell_clean (label_in q.prefix n) (label_clean q.prefix.text q.prefix.width n numbers.good) in
    let count : is_cell (decimal (label_count i)) ≡ true = cell_clean (decimal (label_count i)) (all-wider is_digit is_clean (decimal (label_count i)) clean-digit (decimal_digits (label_count i) few)) in
    let stamped : is_cell i.designation ≡ true = cell_clean i.designation (all-wider is_designation_character is_clean i.designation clean-designation (and_parts _ (list_all is_designation_character i.designation) stands.designation).1) in
    let why : is_cell (optional_code (ground_of i.treatment)) ≡ true = cell_clean (optional_code (ground_of i.treatment)) (optional_clean (ground_of i.treatment)) in
    let path : is_cell (text_path reverse_solidus q p.place i.span.first) ≡ true = cell_clean (text_path reverse_solidus q p.place i.span.first) (text_path_clean f numbers writes p.place i.span.first) in
    and_from _ _ (label i.span.first) (and_from _ _ (label i.span.last) (and_from _ _ (label (first_of_items family)) (and_from _ _ (label (last_of_items family))
    (and_from _ _ count (and_from _ _ stamped (and_from _ _ why (and_from _ true path refl)))))))
