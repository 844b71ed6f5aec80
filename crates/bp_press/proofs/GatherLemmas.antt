-- Rows and lines as they are gathered item by item: those so far, with those to come, are all.
use Rattle.std.proofs.Common.{◌≡◌, ℕ, suc, ◌+◌, ◌-◌, ◌^◌, ◌<◌, List, [], ◌∷◌, ◌++◌, length, map, flat_map, All, Option, Some, None, refl, sym, ap, ◌∙◌, subst, arith, append-nil, append_assoc}
use Rattle.std.specs.List.{Contains, range_with_len}
use Rattle.std.proofs.lemmas.List.Elements.{All-contains_itself}
use Rattle.bp_load.specs.declared.opt.OptLine.{OptLine}
use Rattle.bp_matter.specs.Matter.{Matter}
use Rattle.bp_matter.specs.declared.rows.Item.{Item}
use Rattle.bp_matter.specs.declared.rows.Production.{Production}
use Rattle.bp_core.specs.declared.review.Basis.{Basis}
use Rattle.bp_press.specs.Contents.{content_by, ground_of, part_of, value_in_column}
use Rattle.bp_press.specs.Files.{placed}
use Rattle.bp_press.specs.LoadFiles.{dat_row, opt_lines}
use Rattle.bp_press.specs.Needs.{AreFamilyNumbers, CanBeListed, IsInFamily}
use Rattle.bp_press.specs.Pressing.{AreLabels, CanAllBePlaced, CanBePlaced, placed_at}
use Rattle.bp_press.proofs.FamilyLemmas.{all-others}
use Rattle.bp_press.proofs.PlacedLemmas.{image_count-part}

-- what is there, with some more
pub onto : {T : Type 0} (xs ys zs rest all : List T) → ys ≡ xs ++ zs → xs ++ (zs ++ rest) ≡ all → ys ++ rest ≡ all
onto xs ys zs rest all e h = ap (λ x. x ++ rest) e ∙ append_assoc xs zs rest ∙ h

-- one line more
pub line_step : (line : ℕ → OptLine) (page count : ℕ) (before after all : List OptLine) (x : OptLine) → page < count → x ≡ line page → after ≡ before ++ x ∷ []
    → before ++ map line (range_with_len page (count - page)) ≡ all → after ++ map line (range_with_len (page + 1) (count - (page + 1))) ≡ all
line_step line page count before after all x l is grown so_far =
    let many : count - page ≡ suc (count - (page + 1)) = omega arith in
    onto before after (x ∷ []) (map line (range_with_len (page + 1) (count - (page + 1)))) all grown
    (ap (λ y. before ++ y ∷ map line (range_with_len (page + 1) (count - (page + 1)))) is ∙ sym (ap (λ n. before ++ map line (range_with_len page n)) many) ∙ so_far)

-- the first of items that can be placed, and its place
pub first_placed : (f : Production) (m : Matter) (place : ℕ) (rest others : List Item) (i : Item) → rest ≡ i ∷ others → CanAllBePlaced f m place rest
    → CanBePlaced f.request m i × (place + 2 ^ 32 < 2 ^ 64)
first_placed f m place rest others i is fit =
    let here = subst (λ (items : List Item). CanAllBePlaced f m place items) is fit in
    (here.0, here.1.0)

-- an item has as many labels as images
pub labels_counted : (f : Production) (m : Matter) (i : Item) (count : ℕ) → CanBePlaced f.request m i → count ≡ length (part_of f m i).content.images → AreLabels f.request i.span.first count
labels_counted f m i count fit is = subst (AreLabels f.request i.span.first) (sym (is ∙ image_count-part f m i)) fit.labels

-- ---- the lines of the OPT

-- the lines of items from a place on
abbrev pub lines_from : Production → Matter → ℕ → List Item → List OptLine
lines_from f m place items = flat_map (opt_lines f.request) (placed place (map (part_of f m) items))

-- what holds where the items of rest are still to come
pub record AreLinesAfter (f : Production) (m : Matter) (all : List Item) (place : ℕ) (rest : List Item) (lines : List OptLine) : Type 0 where
  pub so_far : lines ++ lines_from f m place rest ≡ lines_from f m 0 all
  pub fit : CanAllBePlaced f m place rest
  pub own : All (Contains all) rest

pub lines_init : (f : Production) (m : Matter) (all rest : List Item) (lines : List OptLine) → rest ≡ all → lines ≡ [] → CanAllBePlaced f m 0 all → AreLinesAfter f m all 0 rest lines
lines_init f m all rest lines is none fit =
    subst (λ (r : List Item). AreLinesAfter f m all 0 r lines) (sym is)
    (record { so_far = ap (λ ls. ls ++ lines_from f m 0 all) none; fit = fit; own = All-contains_itself all })

pub lines_turn : (f : Production) (m : Matter) (all : List Item) (place next : ℕ) (rest : List Item) (item : Item) (others : List Item) (lines more : List OptLine)
    → rest ≡ item ∷ others → next ≡ place + length (part_of f m item).content.images → AreLinesAfter f m all place rest lines → more ≡ lines ++ opt_lines f.request (placed_at f m item place)
    → AreLinesAfter f m all next others more
lines_turn f m all place next rest item others lines more e n h grown =
    let here = subst (λ (r : List Item). AreLinesAfter f m all place r lines) e h in
    subst (λ k. AreLinesAfter f m all k others more) (sym n)
    (record {
      so_far = onto lines more (opt_lines f.request (placed_at f m item place)) (lines_from f m (place + length (part_of f m item).content.images) others) (lines_from f m 0 all) grown here.so_far;
      fit = here.fit.1.1;
      own = all-others (Contains all) rest others item e h.own;
    })

-- ---- the values of an item

pub values_more : (value : List ℕ → List ℕ) (before after all rest others : List (List ℕ)) (name x : List ℕ) → rest ≡ name ∷ others → x ≡ value name → after ≡ before ++ x ∷ []
    → before ++ map value rest ≡ all → after ++ map value others ≡ all
values_more value before after all rest others name x whole is grown so_far =
    onto before after (x ∷ []) (map value others) all grown
    (ap (λ y. before ++ y ∷ map value others) is ∙ sym (ap (λ names. before ++ map value names) whole) ∙ so_far)

values_by : (f : Production) (m : Matter) (i : Item) (ground : Option Basis) → map (value_in_column m i ground) f.request.fields ≡ (content_by f m i ground).values
values_by f m i None = refl
values_by f m i (Some basis) = refl

-- those in all fields
pub values_end : (f : Production) (m : Matter) (i : Item) (row before rest : List (List ℕ)) → length rest ≡ 0
    → row ++ map (value_in_column m i (ground_of i.treatment)) rest ≡ before ++ map (value_in_column m i (ground_of i.treatment)) f.request.fields
    → row ≡ before ++ (part_of f m i).content.values
values_end f m i row before [] none so_far = sym (append-nil row) ∙ so_far ∙ ap (λ values. before ++ values) (values_by f m i (ground_of i.treatment))
values_end f m i row before (name ∷ rest) none so_far = absurd (omega arith)

-- ---- the rows of the DAT

-- the numbers of families up to a parent, by how many there are
pub numbers_by : (f : Production) (documents : ℕ) (firsts lasts : List ℕ) → AreFamilyNumbers f documents firsts lasts → AreFamilyNumbers f (length firsts - 1) firsts lasts
numbers_by f documents firsts lasts are =
    let same : length firsts - 1 ≡ documents = omega (arith, are.many_firsts) in
    subst (λ (n : ℕ). AreFamilyNumbers f n firsts lasts) (sym same) are

pub families_by : (items : List Item) (documents : ℕ) (firsts : List ℕ) → length firsts ≡ documents + 1 → All (IsInFamily documents) items → All (IsInFamily (length firsts - 1)) items
families_by items documents firsts many are =
    let same : length firsts - 1 ≡ documents = omega (arith, many) in
    subst (λ (n : ℕ). All (IsInFamily n) items) (sym same) are

abbrev pub rows_from : Production → Matter → ℕ → List Item → List (List (List ℕ))
rows_from f m place items = map (dat_row f) (placed place (map (part_of f m) items))

pub record AreRowsAfter (f : Production) (m : Matter) (documents place : ℕ) (rest : List Item) (rows : List (List (List ℕ))) : Type 0 where
  pub so_far : rows ++ rows_from f m place rest ≡ rows_from f m 0 f.items
  pub fit : CanAllBePlaced f m place rest
  pub listed : All (CanBeListed f) rest
  pub families : All (IsInFamily documents) rest
  pub own : All (Contains f.items) rest

-- one row more
pub row_added : (rows more : List (List (List ℕ))) (x row : List (List ℕ)) → x ≡ row → more ≡ rows ++ x ∷ [] → more ≡ rows ++ row ∷ []
row_added rows more x row is grown = grown ∙ ap (λ y. rows ++ y ∷ []) is

pub rows_init : (f : Production) (m : Matter) (documents : ℕ) (rest : List Item) (rows : List (List (List ℕ))) → rest ≡ f.items → rows ≡ [] → CanAllBePlaced f m 0 f.items → All (CanBeListed f) f.items
    → All (IsInFamily documents) f.items → AreRowsAfter f m documents 0 rest rows
rows_init f m documents rest rows is none fit listed families =
    subst (λ (r : List Item). AreRowsAfter f m documents 0 r rows) (sym is)
    (record { so_far = ap (λ rs. rs ++ rows_from f m 0 f.items) none; fit = fit; listed = listed; families = families; own = All-contains_itself f.items })

pub rows_turn : (f : Production) (m : Matter) (documents place next : ℕ) (rest : List Item) (item : Item) (others : List Item) (rows more : List (List (List ℕ)))
    → rest ≡ item ∷ others → next ≡ place + length (part_of f m item).content.images → AreRowsAfter f m documents place rest rows → more ≡ rows ++ dat_row f (placed_at f m item place) ∷ []
    → AreRowsAfter f m documents next others more
rows_turn f m documents place next rest item others rows more e n h grown =
    let here = subst (λ (r : List Item). AreRowsAfter f m documents place r rows) e h in
    subst (λ k. AreRowsAfter f m documents k others more) (sym n)
    (record {
      so_far = onto rows more (dat_row f (placed_at f m item place) ∷ []) (rows_from f m (place + length (part_of f m item).content.images) others) (rows_from f m 0 f.items) grown here.so_far;
      fit = here.fit.1.1;
      listed = all-others (CanBeListed f) rest others item e h.listed;
      families = all-others (IsInFamily documents) rest others item e h.families;
      own = all-others (Contains f.items) rest others item e h.own;
    })
