-- Stamps laid on one after another, against what they make together.
use Rattle.std.proofs.Common.{ℕ, ◌≡◌, ◌+◌, ◌<◌, ◌&&◌, ◌||◌, Bool, true, false, nat_lt, Option, Some, None, List, [], ◌∷◌, ◌++◌, length, take, get_or, refl, sym, ap, ◌∙◌, if◌then◌else◌}
use Rattle.std.specs.Prelude.{not}
use Rattle.std.proofs.lemmas.List.{map-append, take_more}
use Rattle.std.proofs.lemmas.List.Folds.{list_any-append}
use Rattle.bp_core.specs.Rectangle.{has_pixel}
use Rattle.bp_core.specs.declared.rectangle.Rect.{Rect}
use Rattle.bp_core.specs.declared.stamps.Ink.{Ink}
use Rattle.bp_core.specs.declared.stamps.Ink.TheVariants.{Black, Lettered}
use Rattle.bp_core.specs.declared.stamps.Stamp.{Stamp}
use Rattle.bp_rows.specs.Burned.{burned, covers_pixel}
use Rattle.bp_rows.specs.Image.{Image, IsGrid}
use Rattle.bp_burn.specs.Covered.{covered_pixel, covered_rows, has_letter, is_lettered, last_with, letters_in, rects_of, shows_letters}
use Rattle.bp_burn.specs.Ink.{page_changed, erased}
use Rattle.bp_burn.proofs.ChangeLemmas.{Change, changed-changed, changed-nothing}
use Rattle.bp_burn.proofs.LetterLemmas.{letters_inside}

-- ---- one stamp more

abbrev or_later : Option Stamp → Option Stamp → Option Stamp
or_later first later = elim later [ None ↦ first | Some s ↦ Some s ]

choice_later : (h : Bool) (s : Stamp) (first later : Option Stamp)
    → or_later first (if h then Some s else later) ≡ (if h then Some s else or_later first later)
choice_later true s first later = refl
choice_later false s first later = refl

last_more : (stamps : List Stamp) (s : Stamp) (r c : ℕ)
    → last_with (stamps ++ s ∷ []) r c ≡ (if has_pixel s.rect r c then Some s else last_with stamps r c)
last_more [] s r c = refl
last_more (x ∷ stamps) s r c =
    ap (or_later (if has_pixel x.rect r c then Some x else None)) (last_more stamps s r c)
    ∙ choice_later (has_pixel s.rect r c) s (if has_pixel x.rect r c then Some x else None) (last_with stamps r c)

abbrev pub decided : ℕ → ℕ → Bool → Option Stamp → Bool
decided r c was found = elim found [ None ↦ was | Some s ↦ not (is_lettered s && has_letter s r c) ]

decided_by : (h : Bool) (s : Stamp) (r c : ℕ) (was : Bool) (found : Option Stamp)
    → decided r c was (if h then Some s else found) ≡ (if h then not (is_lettered s && has_letter s r c) else decided r c was found)
decided_by true s r c was found = refl
decided_by false s r c was found = refl

black_more : (a h was : Bool) → ((a || (h || false)) || was) ≡ (if h then true else (a || was))
black_more true true was = refl
black_more true false was = refl
black_more false true was = refl
black_more false false was = refl

-- the last stamp decides where its rectangle has the pixel
covered_more : (ink : Ink) (stamps : List Stamp) (s : Stamp) (r c : ℕ) (was : Bool)
    → covered_pixel ink (stamps ++ s ∷ []) r c was
    ≡ (if has_pixel s.rect r c then not (shows_letters ink s && has_letter s r c) else covered_pixel ink stamps r c was)
covered_more Black stamps s r c was =
    ap (λ boxes. covers_pixel boxes r c || was) (map-append (λ (t : Stamp). t.rect) stamps (s ∷ []))
    ∙ ap (λ b. b || was) (list_any-append (λ (b : Rect). has_pixel b r c) (rects_of stamps) (s.rect ∷ []))
    ∙ black_more (covers_pixel (rects_of stamps) r c) (has_pixel s.rect r c) was
covered_more Lettered stamps s r c was =
    ap (decided r c was) (last_more stamps s r c) ∙ decided_by (has_pixel s.rect r c) s r c was (last_with stamps r c)

-- ---- the steps of a loop over stamps

one_more : (stamps : List Stamp) (i : ℕ) (s d : Stamp) → i < length stamps → s ≡ get_or stamps i d → take (i + 1) stamps ≡ take i stamps ++ s ∷ []
one_more stamps i s d within is = take_more stamps i d within ∙ ap (λ t. take i stamps ++ t ∷ []) (sym is)

abbrev choice : Bool → Bool → Bool → Bool → Bool → Bool → Bool
choice n h shows l x was = if n then (if h then not (shows && l) else x) else was

step_is : (ink : Ink) (stamps : List Stamp) (i rows first r c : ℕ) (s d : Stamp) (was : Bool) → i < length stamps → s ≡ get_or stamps i d
    → covered_rows rows first ink (take (i + 1) stamps) r c was
    ≡ choice (nat_lt r rows) (has_pixel s.rect (first + r) c) (shows_letters ink s) (has_letter s (first + r) c) (covered_pixel ink (take i stamps) (first + r) c was) was
step_is ink stamps i rows first r c s d was within is =
    ap (λ some. if nat_lt r rows then covered_pixel ink some (first + r) c was else was) (one_more stamps i s d within is)
    ∙ ap (λ b. if nat_lt r rows then b else was) (covered_more ink (take i stamps) s (first + r) c was)

plain_choice : (n h l x was : Bool) → (((n && h) || false) || (if n then x else was)) ≡ choice n h false l x was
plain_choice true true l x was = refl
plain_choice true false l x was = refl
plain_choice false h l x was = refl

lettered_choice : (n h l x was : Bool) → (l ≡ true → h ≡ true)
    → (not (n && l) && (((n && h) || false) || (if n then x else was))) ≡ choice n h true l x was
lettered_choice true true true x was inside = refl
lettered_choice true true false x was inside = refl
lettered_choice true false true x was inside = let both : false ≡ true = inside refl in cc
lettered_choice true false false x was inside = refl
lettered_choice false h l x was inside = refl

abbrev pub boxing : List Rect → Change
boxing boxes r c was = covers_pixel boxes r c || was

abbrev CutTo : ℕ → ℕ → ℕ → Rect → Rect → Type 0
CutTo width rows first box cut = (r c : ℕ) → c < width → has_pixel cut r c ≡ (nat_lt r rows && has_pixel box (first + r) c)

-- a stamp more, all black
pub stamp_laid : (p : Image) (ink : Ink) (stamps : List Stamp) (i rows first : ℕ) (s d : Stamp) (cut : Rect) → i < length stamps → s ≡ get_or stamps i d
    → CutTo p.width rows first s.rect cut → shows_letters ink s ≡ false
    → burned (page_changed p (covered_rows rows first ink (take i stamps))) (cut ∷ []) ≡ page_changed p (covered_rows rows first ink (take (i + 1) stamps))
stamp_laid p ink stamps i rows first s d cut within is pixels black =
    let before = covered_rows rows first ink (take i stamps) in
    let after = covered_rows rows first ink (take (i + 1) stamps) in
    changed-changed p before (boxing (cut ∷ [])) after
    (λ r c was down across.
    let n = nat_lt r rows in
    let h = has_pixel s.rect (first + r) c in
    let l = has_letter s (first + r) c in
    let x = covered_pixel ink (take i stamps) (first + r) c was in
    ap (λ b. (b || false) || (if n then x else was)) (pixels r c across)
    ∙ plain_choice n h l x was
    ∙ ap (λ b. choice n h b l x was) (sym black)
    ∙ sym (step_is ink stamps i rows first r c s d was within is))

shown : (ink : Ink) (s : Stamp) → shows_letters ink s ≡ true → is_lettered s ≡ true
shown Black s shows = cc
shown Lettered s shows = shows

-- a stamp more, with its letters
pub stamp_lettered : (p : Image) (ink : Ink) (stamps : List Stamp) (i rows first : ℕ) (s d : Stamp) (cut : Rect) → i < length stamps → s ≡ get_or stamps i d
    → CutTo p.width rows first s.rect cut → shows_letters ink s ≡ true
    → (laid new : Image) → laid ≡ burned (page_changed p (covered_rows rows first ink (take i stamps))) (cut ∷ []) → new ≡ erased laid (letters_in rows first s)
    → new ≡ page_changed p (covered_rows rows first ink (take (i + 1) stamps))
stamp_lettered p ink stamps i rows first s d cut within is pixels shows laid new made lettered =
    let before = covered_rows rows first ink (take i stamps) in
    let after = covered_rows rows first ink (take (i + 1) stamps) in
    let boxed : Change = λ r c was. boxing (cut ∷ []) r c (before r c was) in
    let letters = letters_in rows first s in
    lettered ∙ ap (λ page. erased page letters) made ∙ ap (λ page. erased page letters) (changed-changed p before (boxing (cut ∷ [])) boxed (λ r c was down across. refl))
    ∙ changed-changed p boxed (λ r c was. not (letters r c) && was) after
    (λ r c was down across.
    let n = nat_lt r rows in
    let h = has_pixel s.rect (first + r) c in
    let l = has_letter s (first + r) c in
    let x = covered_pixel ink (take i stamps) (first + r) c was in
    ap (λ b. not (n && l) && ((b || false) || (if n then x else was))) (pixels r c across)
    ∙ lettered_choice n h l x was (letters_inside s (first + r) c (shown ink s shows))
    ∙ ap (λ b. choice n h b l x was) (sym shows)
    ∙ sym (step_is ink stamps i rows first r c s d was within is))

unchanged : (n : Bool) (was : Bool) → (if n then was else was) ≡ was
unchanged true was = refl
unchanged false was = refl

no_stamp_pixel : (ink : Ink) (r c : ℕ) (was : Bool) → covered_pixel ink [] r c was ≡ was
no_stamp_pixel Black r c was = refl
no_stamp_pixel Lettered r c was = refl

-- no stamp
pub no_stamp : (p : Image) (ink : Ink) (rows first : ℕ) → IsGrid p.width p.height p.rows → p ≡ page_changed p (covered_rows rows first ink [])
no_stamp p ink rows first grid =
    changed-nothing p (covered_rows rows first ink []) grid
    (λ r c was down across. ap (λ b. if nat_lt r rows then b else was) (no_stamp_pixel ink (first + r) c was) ∙ unchanged (nat_lt r rows) was)
