-- Puts of new rows: the rows of a matter, with those of a change put among them, are the rows of the matter after it.
use Rattle.std.proofs.Common.{◌≡◌, ℕ, ◌+◌, ◌≤◌, true, leb, List, [], ◌∷◌, ◌++◌, map, refl, sym, ap, ◌∙◌, arith, subst, append_assoc}
use Rattle.std.proofs.lemmas.Bool.{and_parts, and_from, leb-true, lt-ltb, le-ltb, ne_eqb}
use Rattle.std.proofs.lemmas.List.{append-nil, map-append}
use Rattle.bp_core.specs.Sorted.{ascends, put, row_key}
use Rattle.bp_core.proofs.SortedLemmas.{ascends-lower}
use Rattle.bp_core.specs.declared.kept.Row.{Row}
use Rattle.bp_keep.specs.Puts.{put_all}
use Rattle.bp_matter.specs.KeptRows.{batch_kept, box_kept, call_kept, doc_kept, entry_kept, field_kept, held_kept, page_kept, prefix_kept, production_kept, rows_of, staff_kept, words_kept}
use Rattle.bp_matter.specs.Matter.{Matter}
use Rattle.bp_rules.specs.Changes.{put_of, rows_kept, with_rows}
use Rattle.bp_rules.specs.declared.changes.ImportRows.{ImportRows}

-- a row that is there, or one that is put
pub data Strand : Type 0 where
  old : Row → Strand
  new : Row → Strand

abbrev row_in : Strand → Row
row_in (old row) = row
row_in (new row) = row

-- those that are there, those that are put, and all
abbrev olds : List Strand → List Row
olds [] = []
olds (old row ∷ w) = row ∷ olds w
olds (new row ∷ w) = olds w

abbrev news : List Strand → List Row
news [] = []
news (old row ∷ w) = news w
news (new row ∷ w) = row ∷ news w

-- rows above all others are put before them
pub put-first : (x : Row) (rows : List Row) → ascends row_key (row_key x + 1) rows ≡ true → put row_key x rows ≡ x ∷ rows
put-first x [] up = refl
put-first x (y ∷ rows) up =
    let above : row_key x + 1 ≤ row_key y = leb-true (row_key x + 1) (row_key y) (and_parts (leb (row_key x + 1) (row_key y)) (ascends row_key (row_key y + 1) rows) up).0 in
    rw (lt-ltb (row_key x) (row_key y) (omega arith)) refl

pub put-later : (x y : Row) (rows : List Row) → row_key x + 1 ≤ row_key y → put row_key y (x ∷ rows) ≡ x ∷ put row_key y rows
put-later x y rows lt = rw (le-ltb (row_key y) (row_key x) (omega arith), ne_eqb (row_key y) (row_key x) (λ e. omega arith)) refl

-- a part of a list in order is in order
olds-ascend : (low : ℕ) (w : List Strand) → ascends row_key low (map row_in w) ≡ true → ascends row_key low (olds w) ≡ true
olds-ascend low [] up = refl
olds-ascend low (old x ∷ w) up =
    let parts = and_parts (leb low (row_key x)) (ascends row_key (row_key x + 1) (map row_in w)) up in
    and_from (leb low (row_key x)) (ascends row_key (row_key x + 1) (olds w)) parts.0 (olds-ascend (row_key x + 1) w parts.1)
olds-ascend low (new x ∷ w) up =
    let parts = and_parts (leb low (row_key x)) (ascends row_key (row_key x + 1) (map row_in w)) up in
    ascends-lower row_key (row_key x + 1) low (olds w) (omega (arith, leb-true low (row_key x) parts.0)) (olds-ascend (row_key x + 1) w parts.1)

news-ascend : (low : ℕ) (w : List Strand) → ascends row_key low (map row_in w) ≡ true → ascends row_key low (news w) ≡ true
news-ascend low [] up = refl
news-ascend low (new x ∷ w) up =
    let parts = and_parts (leb low (row_key x)) (ascends row_key (row_key x + 1) (map row_in w)) up in
    and_from (leb low (row_key x)) (ascends row_key (row_key x + 1) (news w)) parts.0 (news-ascend (row_key x + 1) w parts.1)
news-ascend low (old x ∷ w) up =
    let parts = and_parts (leb low (row_key x)) (ascends row_key (row_key x + 1) (map row_in w)) up in
    ascends-lower row_key (row_key x + 1) low (news w) (omega (arith, leb-true low (row_key x) parts.0)) (news-ascend (row_key x + 1) w parts.1)

-- puts of higher keys leave the first row
puts-later : (x : Row) (ys rows : List Row) → ascends row_key (row_key x + 1) ys ≡ true → put_all (map put_of ys) (x ∷ rows) ≡ x ∷ put_all (map put_of ys) rows
puts-later x [] rows up = refl
puts-later x (y ∷ ys) rows up =
    let parts = and_parts (leb (row_key x + 1) (row_key y)) (ascends row_key (row_key y + 1) ys) up in
    let above : row_key x + 1 ≤ row_key y = leb-true (row_key x + 1) (row_key y) parts.0 in
    ap (put_all (map put_of ys)) (put-later x y rows above)
    ∙ puts-later x ys (put row_key y rows) (ascends-lower row_key (row_key y + 1) (row_key x + 1) ys (omega arith) parts.1)

-- what is put among what is there
strands-put : (low : ℕ) (w : List Strand) → ascends row_key low (map row_in w) ≡ true → put_all (map put_of (news w)) (olds w) ≡ map row_in w
strands-put low [] up = refl
strands-put low (old x ∷ w) up =
    let rest = (and_parts (leb low (row_key x)) (ascends row_key (row_key x + 1) (map row_in w)) up).1 in
    puts-later x (news w) (olds w) (news-ascend (row_key x + 1) w rest) ∙ ap (λ (l : List Row). x ∷ l) (strands-put (row_key x + 1) w rest)
strands-put low (new x ∷ w) up =
    let rest = (and_parts (leb low (row_key x)) (ascends row_key (row_key x + 1) (map row_in w)) up).1 in
    ap (put_all (map put_of (news w))) (put-first x (olds w) (olds-ascend (row_key x + 1) w rest))
    ∙ puts-later x (news w) (olds w) (news-ascend (row_key x + 1) w rest) ∙ ap (λ (l : List Row). x ∷ l) (strands-put (row_key x + 1) w rest)

-- what runs of strands are made of
pub record Weaves (before puts after : List Row) : Type 0 where
  pub strands : List Strand
  pub is_old : olds strands ≡ before
  pub is_new : news strands ≡ puts
  pub is_all : map row_in strands ≡ after

pub keep : {before puts after : List Row} (rows : List Row) → Weaves before puts after → Weaves (rows ++ before) puts (rows ++ after)
keep [] w = w
keep (row ∷ rows) w =
    let rest = keep rows w in
    record {
      strands = old row ∷ rest.strands;
      is_old = ap (λ (l : List Row). row ∷ l) rest.is_old;
      is_new = rest.is_new;
      is_all = ap (λ (l : List Row). row ∷ l) rest.is_all;
    }

-- rows that stay
pub still : (rows : List Row) → Weaves rows [] rows
still [] = record { strands = []; is_old = refl; is_new = refl; is_all = refl }
still (row ∷ rows) =
    let rest = still rows in
    record {
      strands = old row ∷ rest.strands;
      is_old = ap (λ (l : List Row). row ∷ l) rest.is_old;
      is_new = rest.is_new;
      is_all = ap (λ (l : List Row). row ∷ l) rest.is_all;
    }

add : {before puts after : List Row} (rows : List Row) → Weaves before puts after → Weaves before (rows ++ puts) (rows ++ after)
add [] w = w
add (row ∷ rows) w =
    let rest = add rows w in
    record {
      strands = new row ∷ rest.strands;
      is_old = rest.is_old;
      is_new = ap (λ (l : List Row). row ∷ l) rest.is_new;
      is_all = ap (λ (l : List Row). row ∷ l) rest.is_all;
    }

-- the rows of a list, and those that are added behind
pub grow : {T : Type 0} (kept : T → Row) {before puts after : List Row} (xs ys : List T) → Weaves before puts after → Weaves (map kept xs ++ before) (map kept ys ++ puts) (map kept (xs ++ ys) ++ after)
grow kept {before} {puts} {after} xs ys w =
    let parts : map kept xs ++ (map kept ys ++ after) ≡ map kept (xs ++ ys) ++ after =
    sym (append_assoc (map kept xs) (map kept ys) after) ∙ ap (λ (l : List Row). l ++ after) (sym (map-append kept xs ys)) in
    subst (λ (l : List Row). Weaves (map kept xs ++ before) (map kept ys ++ puts) l) parts (keep (map kept xs) (add (map kept ys) w))

pub nothing : Weaves [] [] []
nothing = record { strands = []; is_old = refl; is_new = refl; is_all = refl }

-- the same of the last list
last : {T : Type 0} (kept : T → Row) (xs ys : List T) → Weaves (map kept xs) (map kept ys) (map kept (xs ++ ys))
last kept xs ys =
    let w = grow kept xs ys nothing in
    subst (λ (l : List Row). Weaves (map kept xs) (map kept ys) l) (append-nil (map kept (xs ++ ys)))
    (subst (λ (l : List Row). Weaves (map kept xs) l (map kept (xs ++ ys) ++ [])) (append-nil (map kept ys))
    (subst (λ (l : List Row). Weaves l (map kept ys ++ []) (map kept (xs ++ ys) ++ [])) (append-nil (map kept xs)) w))

pub weaves-put : (before puts after : List Row) → Weaves before puts after → ascends row_key 0 after ≡ true → put_all (map put_of puts) before ≡ after
weaves-put before puts after w up =
    let strands_up : ascends row_key 0 (map row_in w.strands) ≡ true = ap (ascends row_key 0) w.is_all ∙ up in
    ap (λ (l : List Row). put_all (map put_of l) before) (sym w.is_new)
    ∙ ap (put_all (map put_of (news w.strands))) (sym w.is_old) ∙ strands-put 0 w.strands strands_up ∙ w.is_all

-- and what was there is in order
pub weaves-old : (before puts after : List Row) → Weaves before puts after → ascends row_key 0 after ≡ true → ascends row_key 0 before ≡ true
weaves-old before puts after w up = ap (ascends row_key 0) (sym w.is_old) ∙ olds-ascend 0 w.strands (ap (ascends row_key 0) w.is_all ∙ up)

-- the puts of an import make the rows of the matter those of the matter after it
pub import-puts : (m : Matter) (rows : ImportRows) → ascends row_key 0 (rows_of (with_rows m rows)) ≡ true → put_all (map put_of (rows_kept rows)) (rows_of m) ≡ rows_of (with_rows m rows)
import-puts m rows up =
    let words = last words_kept m.words rows.words in
    let batches = grow batch_kept m.batches (rows.batch ∷ []) words in
    let calls = keep (map call_kept m.calls) (keep (map box_kept m.boxes) (keep (map held_kept m.held) (keep (map entry_kept m.entries) (keep (map prefix_kept m.prefixes) (keep (map production_kept m.productions) batches))))) in
    let fields = grow field_kept m.fields rows.fields (grow doc_kept m.docs rows.docs (grow page_kept m.pages rows.pages calls)) in
    weaves-put (rows_of m) (rows_kept rows) (rows_of (with_rows m rows)) (keep (map staff_kept m.staff) fields) up
