-- The images of an item, one after another.
use Rattle.std.proofs.Common.{◌≡◌, ℕ, suc, ◌+◌, ◌-◌, ◌<◌, ◌≤◌, List, [], ◌∷◌, map, Result, Err, sym, ap, subst, ◌∙◌, arith}
use Rattle.std.specs.List.{range_with_len}
use Rattle.std.specs.Result.{IfErr}
use Rattle.bp_rows.specs.Image.{Image}
use Rattle.bp_matter.specs.Matter.{Matter}
use Rattle.bp_matter.specs.declared.rows.Item.{Item}
use Rattle.bp_matter.specs.declared.rows.Production.{Production}
use Rattle.bp_matter.specs.declared.rows.Request.{Request}
use Rattle.bp_freeze.specs.Seeing.{page_count}
use Rattle.bp_press.specs.Contents.{label_count, pages_of, produced_page, slip_sheet, slip_sheets}
use Rattle.bp_core.specs.declared.review.Basis.{Basis}
use Rattle.bp_press.specs.Files.{image_files}
use Rattle.bp_press.specs.Pressing.{image_at, images_after, sheet_at, sheets_after}

abbrev images_of : Production → Matter → Item → List Image
images_of f m item = map (produced_page f m item) (pages_of m item.doc.0)

pub images_first : (f : Production) (m : Matter) (item : Item) (place : ℕ) → image_files f.request place item.span.first (images_of f m item) ≡ images_after f m item place 0
images_first f m item place =
    let k : place ≡ place + 0 = omega arith in
    let n : item.span.first ≡ item.span.first + 0 = omega arith in
    let all : page_count m item.doc.0 ≡ page_count m item.doc.0 - 0 = omega arith in
    ap (λ i. image_files f.request i item.span.first (images_of f m item)) k ∙ ap (λ i. image_files f.request (place + 0) i (images_of f m item)) n
    ∙ ap (λ n. image_files f.request (place + 0) (item.span.first + 0) (map (produced_page f m item) (range_with_len 1 n))) all

pub images_more : (f : Production) (m : Matter) (item : Item) (place p : ℕ) → p < page_count m item.doc.0 → images_after f m item place p ≡ image_at f m item place p ∷ images_after f m item place (p + 1)
images_more f m item place p l =
    let long : page_count m item.doc.0 - p ≡ suc (page_count m item.doc.0 - (p + 1)) = omega arith in
    let k : place + p + 1 ≡ place + (p + 1) = omega arith in
    let n : item.span.first + p + 1 ≡ item.span.first + (p + 1) = omega arith in
    let others : List Image = map (produced_page f m item) (range_with_len (p + 1 + 1) (page_count m item.doc.0 - (p + 1))) in
    ap (λ n. image_files f.request (place + p) (item.span.first + p) (map (produced_page f m item) (range_with_len (p + 1) n))) long
    ∙ ap (λ i. image_at f m item place p ∷ image_files f.request i (item.span.first + p + 1) others) k
    ∙ ap (λ i. image_at f m item place p ∷ image_files f.request (place + (p + 1)) i others) n

pub images_none : (f : Production) (m : Matter) (item : Item) (place p : ℕ) → page_count m item.doc.0 ≤ p → images_after f m item place p ≡ []
images_none f m item place p l =
    let none : page_count m item.doc.0 - p ≡ 0 = omega arith in
    ap (λ n. image_files f.request (place + p) (item.span.first + p) (map (produced_page f m item) (range_with_len (p + 1) n))) none

pub on_err : {X E : Type 0} (result : Result X E) (e : E) (P : E → Type 0) → P e → result ≡ Err e → IfErr result P
on_err {X = X} {E = E} result e P h is = subst (λ (r : Result X E). IfErr r P) (sym is) h

-- ---- the sheets of an item that is withheld, one after another

pub sheets_first : (q : Request) (item : Item) (basis : Basis) (place : ℕ) → image_files q place item.span.first (slip_sheets q item basis) ≡ sheets_after q item basis place 0
sheets_first q item basis place =
    let k : place ≡ place + 0 = omega arith in
    let n : item.span.first ≡ item.span.first + 0 = omega arith in
    let all : label_count item ≡ label_count item - 0 = omega arith in
    ap (λ i. image_files q i item.span.first (slip_sheets q item basis)) k ∙ ap (λ i. image_files q (place + 0) i (slip_sheets q item basis)) n
    ∙ ap (λ n. image_files q (place + 0) (item.span.first + 0) (map (slip_sheet q item basis) (range_with_len 0 n))) all

pub sheets_more : (q : Request) (item : Item) (basis : Basis) (place p : ℕ) → p < label_count item → sheets_after q item basis place p ≡ sheet_at q item basis place p ∷ sheets_after q item basis place (p + 1)
sheets_more q item basis place p l =
    let long : label_count item - p ≡ suc (label_count item - (p + 1)) = omega arith in
    let k : place + p + 1 ≡ place + (p + 1) = omega arith in
    let n : item.span.first + p + 1 ≡ item.span.first + (p + 1) = omega arith in
    let others : List Image = map (slip_sheet q item basis) (range_with_len (p + 1) (label_count item - (p + 1))) in
    ap (λ n. image_files q (place + p) (item.span.first + p) (map (slip_sheet q item basis) (range_with_len p n))) long
    ∙ ap (λ i. sheet_at q item basis place p ∷ image_files q i (item.span.first + p + 1) others) k
    ∙ ap (λ i. sheet_at q item basis place p ∷ image_files q (place + (p + 1)) i others) n

pub sheets_none : (q : Request) (item : Item) (basis : Basis) (place p : ℕ) → label_count item ≤ p → sheets_after q item basis place p ≡ []
sheets_none q item basis place p l =
    let none : label_count item - p ≡ 0 = omega arith in
    ap (λ n. image_files q (place + p) (item.span.first + p) (map (slip_sheet q item basis) (range_with_len p n))) none
