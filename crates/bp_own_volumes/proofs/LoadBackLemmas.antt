-- The load files of a production that a valid matter keeps are read back as what they were written of.
use Rattle.std.proofs.Common.{◌≡◌, ℕ, zero, suc, ◌+◌, ◌-◌, ◌^◌, ◌<◌, ◌≤◌, ◌==◌, ◌&&◌, true, cond, Option, Some, None, Ok, List, [], ◌∷◌, ◌++◌, length, map, flat_map, get_or, All, unwrap_or, codes, ltb, inl, inr, refl, ap, ◌∙◌, subst, arith}
use Rattle.std.specs.Fmt.{decimal}
use Rattle.std.specs.List.{list_all, range_with_len}
use Rattle.std.specs.Prelude.{slice_index_or}
use Rattle.std.specs.Str.{all_scalars}
use Rattle.std.proofs.lemmas.Bool.{and_from, and_parts, cases_Bool}
use Rattle.std.proofs.lemmas.Bool.Decides.{nat_tests}
use Rattle.std.proofs.lemmas.List.Folds.{list_all-append}
use Rattle.bp_core.specs.Characters.{reverse_solidus}
use Rattle.bp_core.specs.Review.{basis_code}
use Rattle.bp_core.specs.declared.review.Basis.{Basis}
use Rattle.bp_core.specs.declared.review.Basis.TheVariants.{Ac, Pi, Ts, Wp}
use Rattle.bp_bates.specs.Prefixes.{is_digit}
use Rattle.bp_load.specs.Dat.{dat_of}
use Rattle.bp_load.specs.Opt.{has_texts, opt_of}
use Rattle.bp_load.proofs.DatWrittenLemmas as dat
use Rattle.bp_load.proofs.OptWrittenLemmas as opt
use Rattle.bp_load.proofs.TextLemmas.{weaker}
use Rattle.bp_matter.specs.LookUps.{of_row}
use Rattle.bp_matter.specs.Matter.{Matter}
use Rattle.bp_matter.specs.Texts.{columns}
use Rattle.bp_matter.specs.Valid.{IsValid}
use Rattle.bp_matter.specs.Written.{are_few, box_row_written, doc_written, entry_fields_written, held_row_written, if_there, is_short, is_word, item_written, production_written, request_written, span_written, treatment_written}
use Rattle.bp_matter.specs.declared.rows.DocRow.{DocRow}
use Rattle.bp_matter.specs.declared.rows.HeldRow.{HeldRow}
use Rattle.bp_matter.specs.declared.rows.Item.{Item}
use Rattle.bp_matter.specs.declared.rows.Production.{Production}
use Rattle.bp_matter.specs.declared.rows.Request.{Request}
use Rattle.bp_freeze.specs.Agree.{field_number, held_of_number, value_of_field}
use Rattle.bp_freeze.specs.Keeping.{KeepsProduction}
use Rattle.bp_freeze.specs.Log.{label_in}
use Rattle.bp_freeze.specs.Selecting.{first_of_items, last_of_items}
use Rattle.bp_press.specs.Contents.{content_by, ground_of, held_text, label_count, part_of, value_by, value_shown, value_unless}
use Rattle.bp_press.specs.Files.{Placed, placed}
use Rattle.bp_press.specs.LoadFiles.{dat_bytes, dat_row, dat_table, family_of, opt_bytes, opt_line, opt_lines, optional_code, own_values}
use Rattle.bp_press.specs.Paths.{folder_of, image_path, text_path}
use Rattle.bp_press.specs.Volume.{placed_items}
use Rattle.bp_press.proofs.CharacterLemmas.{decimal_digits}
use Rattle.bp_press.proofs.KeptItemLemmas.{ItemStands, is_row_of, items-stand, kept-row}
use Rattle.bp_press.proofs.KeptPageLemmas.{passes}
use Rattle.bp_press.proofs.LoadRowLemmas.{dat-even, dat-writable, opt-writable}
use Rattle.bp_press.proofs.PlacedLemmas.{CountFits, count_fits, image_count-part}
use Rattle.bp_own_volumes.proofs.ApartLemmas.{IsNamed, item_parts}
use Rattle.bp_own_volumes.proofs.NameLemmas.{ascii_scalars, label_plain, plain_scalars, steps_scalars, volume_plain}
use Rattle.bp_own_volumes.proofs.VolumePathLemmas.{image_steps, text_steps}

-- ---- what a valid matter says of its texts

-- the texts of a production
pub record IsWritten (f : Production) : Type 0 where
  pub request : request_written f.request ≡ true
  pub items : list_all item_written f.items ≡ true

pub kept_written : (m : Matter) → IsValid m → (f : Production) → KeepsProduction m f → IsWritten f
kept_written m valid f keeps =
    let kept = kept-row m f keeps in
    let all = passes (is_row_of f) production_written m.productions kept.row kept.found valid.productions.written in
    let one = and_parts _ _ (and_parts _ _ all).1 in
    let items = and_parts _ _ one.1 in
    subst IsWritten kept.same
    (record { request = one.0; items = (and_parts (list_all item_written kept.row.production.items) _ items.0).0 })

short_scalars : (text : List ℕ) → is_short text ≡ true → all_scalars text ≡ true
short_scalars text short = (and_parts (all_scalars text) _ short).0

fields_scalars : (q : Request) → request_written q ≡ true → list_all all_scalars q.fields ≡ true
fields_scalars q written =
    let volume = (and_parts (is_short q.id) _ written).1 in
    let prefix = (and_parts (is_short q.volume) _ volume).1 in
    let from = (and_parts (is_short q.prefix.text) _ prefix).1 in
    let to = (and_parts (is_word q.from.0) _ from).1 in
    let fields = (and_parts (is_word q.to.0) (are_few is_short q.fields) to).1 in
    weaker is_short all_scalars short_scalars q.fields (and_parts (list_all is_short q.fields) (is_word (length q.fields)) fields).0

designation_scalars : (i : Item) → item_written i ≡ true → all_scalars i.designation ≡ true
designation_scalars i written =
    let parent = (and_parts (is_word i.doc.0) _ written).1 in
    let treatment = (and_parts (is_word i.parent.0) _ parent).1 in
    let boxes = (and_parts (treatment_written i.treatment) _ treatment).1 in
    let held = (and_parts (are_few box_row_written i.boxes) _ boxes).1 in
    let entry = (and_parts (are_few held_row_written i.held) _ held).1 in
    let stamp = (and_parts (if_there entry_fields_written i.entry) (is_short i.designation && span_written i.span) entry).1 in
    short_scalars i.designation (and_parts (is_short i.designation) (span_written i.span) stamp).0

-- ---- the values of the DAT

digit_small : (c : ℕ) → is_digit c ≡ true → ltb c 128 ≡ true
digit_small c is = grind (arith, nat_tests)

decimal_scalars : (n : ℕ) → n < 2 ^ 64 → all_scalars (decimal n) ≡ true
decimal_scalars n small = ascii_scalars (decimal n) (weaker is_digit (λ c. ltb c 128) digit_small (decimal n) (decimal_digits n small))

label_scalars : (q : Request) → IsNamed q → (n : ℕ) → all_scalars (label_in q.prefix n) ≡ true
label_scalars q named n = plain_scalars (label_in q.prefix n) (label_plain q.prefix.text q.prefix.width n named.prefix)

code_scalars : (basis : Basis) → all_scalars (basis_code basis) ≡ true
code_scalars Ac = refl
code_scalars Wp = refl
code_scalars Pi = refl
code_scalars Ts = refl

optional_scalars : (ground : Option Basis) → all_scalars (optional_code ground) ≡ true
optional_scalars None = refl
optional_scalars (Some basis) = code_scalars basis

scalars_both : (xs ys : List ℕ)
    → all_scalars xs ≡ true
    → all_scalars ys ≡ true
    → all_scalars (xs ++ ys) ≡ true
scalars_both [] ys one two = two
scalars_both (x ∷ xs) ys one two = let parts = and_parts _ (all_scalars xs) one in and_from _ _ parts.0 (scalars_both xs ys parts.1 two)

held_scalars : (held : HeldRow) → all_scalars (held_text held) ≡ true
held_scalars held = scalars_both (codes "WITHHELD - ") (basis_code held.basis) refl (code_scalars held.basis)

nth_scalars : (values : List (List ℕ))
    → list_all is_short values ≡ true
    → (k : ℕ)
    → all_scalars (slice_index_or values k []) ≡ true
nth_scalars [] are k = refl
nth_scalars (value ∷ values) are zero = short_scalars value (and_parts (is_short value) (list_all is_short values) are).0
nth_scalars (value ∷ values) are (suc k) = nth_scalars values (and_parts (is_short value) (list_all is_short values) are).1 k

doc_values : (m : Matter)
    → IsValid m
    → (i : Item) (stands : ItemStands m i)
    → list_all is_short stands.row.values ≡ true
doc_values m valid i stands =
    let all = passes (λ (other : DocRow). other.doc.0 == i.doc.0) doc_written m.docs stands.row stands.found valid.docs.written in
    let row = stands.row in
    let parent = (and_parts (is_word row.doc.0) _ all).1 in
    let pages = (and_parts (is_word row.parent.0) _ parent).1 in
    let batch = (and_parts (is_word row.pages) _ pages).1 in
    let id = (and_parts (is_word row.batch) _ batch).1 in
    let values = (and_parts (is_short row.id) (are_few is_short row.values) id).1 in
    (and_parts (list_all is_short row.values) (is_word (length row.values)) values).0

value_scalars : (m : Matter)
    → IsValid m
    → (i : Item)
    → ItemStands m i
    → (field : ℕ)
    → all_scalars (unwrap_or (value_of_field m i.doc.0 field) []) ≡ true
value_scalars m valid i stands field =
    ap
    (λ (o : Option DocRow). all_scalars (unwrap_or (of_row (λ (row : DocRow). slice_index_or row.values (field - 1) []) o) []))
    stands.found
    ∙ nth_scalars stands.row.values (doc_values m valid i stands) (field - 1)

unless_scalars : (held : Option HeldRow) (value : Option (List ℕ))
    → all_scalars (unwrap_or value []) ≡ true
    → all_scalars (value_unless held value) ≡ true
unless_scalars (Some held) value is = held_scalars held
unless_scalars None value is = is

by_scalars : (m : Matter)
    → IsValid m
    → (i : Item)
    → ItemStands m i
    → (field : Option ℕ)
    → all_scalars (value_by m i field) ≡ true
by_scalars m valid i stands None = refl
by_scalars m valid i stands (Some field) =
    unless_scalars (held_of_number i.held field) (value_of_field m i.doc.0 field) (value_scalars m valid i stands field)

shown_scalars : (m : Matter)
    → IsValid m
    → (i : Item)
    → ItemStands m i
    → (names : List (List ℕ))
    → list_all all_scalars (map (value_shown m i) names) ≡ true
shown_scalars m valid i stands [] = refl
shown_scalars m valid i stands (name ∷ names) =
    and_from (all_scalars (value_shown m i name)) _ (by_scalars m valid i stands (field_number m name))
    (shown_scalars m valid i stands names)

blank_scalars : (names : List (List ℕ)) → list_all all_scalars (map (λ name. []) names) ≡ true
blank_scalars [] = refl
blank_scalars (name ∷ names) = blank_scalars names

content_scalars : (f : Production) (m : Matter)
    → IsValid m
    → (i : Item)
    → ItemStands m i
    → (ground : Option Basis)
    → list_all all_scalars (content_by f m i ground).values ≡ true
content_scalars f m valid i stands None = shown_scalars m valid i stands f.request.fields
content_scalars f m valid i stands (Some basis) = blank_scalars f.request.fields

own_scalars : (f : Production)
    → IsNamed f.request
    → (p : Placed)
    → item_written p.item ≡ true
    → label_count p.item < 2 ^ 64
    → list_all all_scalars (own_values f p) ≡ true
own_scalars f named p written few =
    let q : Request = f.request in
    let i : Item = p.item in
    let family : List Item = family_of f i in
    let path : all_scalars (text_path reverse_solidus q p.place i.span.first) ≡ true =
    steps_scalars reverse_solidus (item_parts q (codes "TEXT") (folder_of p.place) (codes ".TXT") i.span.first) refl
    (text_steps q named p.place i.span.first).steps in
    and_from _ _ (label_scalars q named i.span.first) (and_from _ _ (label_scalars q named i.span.last)
    (and_from _ _ (label_scalars q named (first_of_items family)) (and_from _ _ (label_scalars q named (last_of_items family))
    (and_from _ _ (decimal_scalars (label_count i) few) (and_from _ _ (designation_scalars i written)
    (and_from _ _ (optional_scalars (ground_of i.treatment)) (and_from _ true path refl)))))))

rows_scalars : (f : Production)
    → IsNamed f.request
    → (m : Matter)
    → IsValid m
    → (place : ℕ) (items : List Item)
    → list_all item_written items ≡ true
    → All (ItemStands m) items
    → All (CountFits m) items
    → list_all (list_all all_scalars) (map (dat_row f) (placed place (map (part_of f m) items))) ≡ true
rows_scalars f named m valid place [] written stand fit = refl
rows_scalars f named m valid place (i ∷ items) written stand fit =
    let both = and_parts (item_written i) (list_all item_written items) written in
    let fits = fit 0 i (omega arith) in
    let p : Placed = record { place = place; item = i; content = (part_of f m i).content } in
    let one : list_all all_scalars (dat_row f p) ≡ true =
    list_all-append all_scalars (own_values f p) (part_of f m i).content.values
    ∙ and_from _ _ (own_scalars f named p both.0 (omega (arith, fits.span, fits.few)))
    (content_scalars f m valid i (stand 0 i (omega arith)) (ground_of i.treatment)) in
    and_from _ _ one
    (rows_scalars f named m valid (place + length (part_of f m i).content.images) items both.1 (λ k d l. stand (suc k) d (omega arith)) (λ k d l. fit (suc k) d (omega arith)))

-- the DAT is read as the table that it was written of
pub dat_back : (m : Matter)
    → IsValid m
    → (f : Production)
    → KeepsProduction m f
    → IsNamed f.request
    → dat_of (dat_bytes f (placed_items f m)) ≡ Ok (dat_table f (placed_items f m))
dat_back m valid f keeps named =
    let written = kept_written m valid f keeps in
    let stand = items-stand m valid f keeps in
    dat.reads_back (dat_table f (placed_items f m)) (dat-writable m valid f keeps) (dat-even f m)
    (list_all-append all_scalars columns f.request.fields ∙ and_from _ _ refl (fields_scalars f.request written.request))
    (rows_scalars f named m valid 0 f.items written.items stand (λ k d l. count_fits m valid (get_or f.items k d) (stand k d l)))

-- ---- the lines of the OPT

said_scalars : (count k : ℕ) → count ≤ 20000 → all_scalars (cond (k == 0) (decimal count) []) ≡ true
said_scalars count k few =
    elim (cases_Bool (k == 0)) [
      | inl first ↦ ap (λ b. all_scalars (cond b (decimal count) [])) first ∙ decimal_scalars count (omega arith)
      | inr later ↦ ap (λ b. all_scalars (cond b (decimal count) [])) later
    ]

line_texts : (q : Request)
    → IsNamed q
    → (p : Placed)
    → length p.content.images ≤ 20000
    → (k : ℕ)
    → has_texts (opt_line q p k) ≡ true
line_texts q named p few k =
    let number = p.item.span.first + k in
    let path : all_scalars (image_path reverse_solidus q (p.place + k) number) ≡ true =
    steps_scalars reverse_solidus (item_parts q (codes "IMAGES") (folder_of (p.place + k)) (codes ".TIF") number) refl
    (image_steps q named (p.place + k) number).steps in
    and_from _ _
    (and_from _ _ (and_from _ _ (label_scalars q named number) (plain_scalars q.volume (volume_plain q.volume named.volume))) path)
    (said_scalars (length p.content.images) k few)

lines_texts : (q : Request)
    → IsNamed q
    → (p : Placed)
    → length p.content.images ≤ 20000
    → (from n : ℕ)
    → list_all has_texts (map (opt_line q p) (range_with_len from n)) ≡ true
lines_texts q named p few from zero = refl
lines_texts q named p few from (suc n) = and_from _ _ (line_texts q named p few from) (lines_texts q named p few (from + 1) n)

all_texts : (f : Production)
    → IsNamed f.request
    → (m : Matter) (place : ℕ) (items : List Item)
    → All (CountFits m) items
    → list_all has_texts (flat_map (opt_lines f.request) (placed place (map (part_of f m) items))) ≡ true
all_texts f named m place [] fit = refl
all_texts f named m place (i ∷ items) fit =
    let p : Placed = record { place = place; item = i; content = (part_of f m i).content } in
    let one = fit 0 i (omega arith) in
    list_all-append has_texts (opt_lines f.request p) _
    ∙ and_from _ _ (lines_texts f.request named p (omega (arith, one.few, image_count-part f m i)) 0 (length p.content.images))
    (all_texts f named m (place + length p.content.images) items (λ k d l. fit (suc k) d (omega arith)))

-- the OPT is read as the lines that it was written of
pub opt_back : (m : Matter)
    → IsValid m
    → (f : Production)
    → KeepsProduction m f
    → IsNamed f.request
    → opt_of (opt_bytes f.request (placed_items f m)) ≡ Ok (flat_map (opt_lines f.request) (placed_items f m))
opt_back m valid f keeps named =
    let stand = items-stand m valid f keeps in
    opt.reads_back (flat_map (opt_lines f.request) (placed_items f m)) (opt-writable m valid f keeps)
    (all_texts f named m 0 f.items (λ k d l. count_fits m valid (get_or f.items k d) (stand k d l)))
