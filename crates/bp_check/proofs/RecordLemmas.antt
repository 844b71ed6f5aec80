-- Columns and cells, taken from the last on.
use Rattle.std.proofs.Common.{◌≡◌, ℕ, Bool, true, false, cond, List, [], ◌∷◌, ◌++◌, length, drop, refl, sym, ap, ◌∙◌, append_assoc, arith}
use Rattle.std.proofs.lemmas.List.{drop_at, length-append}
use Rattle.bp_load.specs.Documents.{cell_under}

-- what stands from the last member of the front on
pub behind_one : (all before : List (List ℕ)) (text : List ℕ) (rest : List (List ℕ))
    → rest ≡ before ++ text ∷ []
    → rest ++ drop (length rest) all ≡ all
    → drop (length before) all ≡ text ∷ drop (length rest) all
behind_one all before text rest is whole =
    let long : all ≡ before ++ (text ∷ drop (length rest) all) = sym whole ∙ ap (λ r. r ++ drop (length rest) all) is ∙ append_assoc before (text ∷ []) (drop (length rest) all) in
    ap (drop (length before)) long ∙ drop_at before (text ∷ drop (length rest) all) (length before) refl

-- and all members are still there
pub behind_whole : (all before : List (List ℕ)) (text : List ℕ) (rest : List (List ℕ))
    → rest ≡ before ++ text ∷ []
    → rest ++ drop (length rest) all ≡ all
    → before ++ drop (length before) all ≡ all
behind_whole all before text rest is whole =
    ap (λ r. before ++ r) (behind_one all before text rest is whole)
    ∙ sym (append_assoc before (text ∷ []) (drop (length rest) all))
    ∙ ap (λ r. r ++ drop (length rest) all) (sym is)
    ∙ whole

-- what is known after one more
pub record OneMore (all row left before cells more : List (List ℕ)) (column cell : List ℕ) : Type 0 where
  pub even : length more ≡ length before
  pub columns : before ++ drop (length before) all ≡ all
  pub cells_stand : more ++ drop (length before) row ≡ row
  pub under : (is_it : List ℕ → Bool) → cell_under is_it (drop (length before) all) (drop (length before) row)
      ≡ cond (is_it column) cell (cell_under is_it (drop (length left) all) (drop (length left) row))

pub one_more : (all row left before cells more : List (List ℕ)) (column cell : List ℕ)
    → left ≡ before ++ column ∷ []
    → cells ≡ more ++ cell ∷ []
    → length cells ≡ length left
    → left ++ drop (length left) all ≡ all
    → cells ++ drop (length left) row ≡ row
    → OneMore all row left before cells more column cell
one_more all row left before cells more column cell lefts taken even columns whole =
    let short : length more ≡ length before = omega (arith, ap length lefts, ap length taken, length-append before (column ∷ []), length-append more (cell ∷ []), even) in
    let whole' : cells ++ drop (length cells) row ≡ row = ap (λ n. cells ++ drop n row) even ∙ whole in
    let one : drop (length before) all ≡ column ∷ drop (length left) all = behind_one all before column left lefts columns in
    let two : drop (length before) row ≡ cell ∷ drop (length left) row =
    ap (λ n. drop n row) (sym short) ∙ behind_one row more cell cells taken whole' ∙ ap (λ n. cell ∷ drop n row) even in
    record {
      even = short;
      columns = behind_whole all before column left lefts columns;
      cells_stand = ap (λ n. more ++ drop n row) (sym short) ∙ behind_whole row more cell cells taken whole';
      under = λ is_it. ap (λ cs. cell_under is_it cs (drop (length before) row)) one ∙ ap (cell_under is_it (column ∷ drop (length left) all)) two;
    }

-- the cell under a column of the kind, or of another
pub taken : (b : Bool) (cell rest found : List ℕ) → found ≡ cond b cell rest → b ≡ true → cell ≡ found
taken b cell rest found is so = sym (is ∙ ap (λ t. cond t cell rest) so)

pub passed : (b : Bool) (cell rest was found : List ℕ) → found ≡ cond b cell rest → was ≡ rest → b ≡ false → was ≡ found
passed b cell rest was found is same other = same ∙ sym (is ∙ ap (λ t. cond t cell rest) other)
