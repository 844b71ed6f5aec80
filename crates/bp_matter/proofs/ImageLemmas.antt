-- Lemmas of kept images: the lines that are found for a strip have it, and the lines of an image are found for its strip.
use Rattle.std.proofs.Common.{◌≡◌, ◌⊎◌, ℕ, zero, suc, ◌^◌, ◌<◌, ◌≤◌, Bool, true, false, cond, eqb, List, [], ◌∷◌, ◌++◌, length, get_or, map, Option, Some, None, refl, sym, ap, subst, ◌∙◌, inl, inr, arith}
use Rattle.std.specs.Prelude.{IsTrue, ◌↔◌}
use Rattle.std.specs.List.{find, list_all}
use Rattle.std.specs.Str.{bytes_eq}
use Rattle.std.proofs.lemmas.Bool.{and_parts, and_from, eqb-true, eq-eqb, cases_Bool, false≢true}
use Rattle.std.proofs.lemmas.Slice.Eq.{bytes_eq-Decides}
use Rattle.bp_codes.specs.declared.span.Fill.TheVariants.{High}
use Rattle.bp_codes.specs.Bits.{bits_of}
use Rattle.bp_rows.specs.Image.{Image, IsPage}
use Rattle.bp_rows.specs.Limits.{sides_are_allowed}
use Rattle.bp_t6.specs.Read.{StripReads}
use Rattle.bp_t6.specs.Strips.{page_of_lines}
use Rattle.bp_t6.specs.Written.{bits_strip}
use Rattle.bp_matter.specs.Images.{strip, is_grid, has_lines, each_before, all_lists, all_lines, is_strip, lines_of}

-- the strip of a page is read as the page's rows, and as no others
abbrev pub StripLaw : Type 0
StripLaw = (p : Image) (lines : List (List Bool)) → IsPage p → StripReads (bits_of High (bits_strip p)) p.width p.height lines ↔ (lines ≡ p.rows)

-- ---- lists of values

abbrev In : {A : Type 0} → A → List A → Type 0
In x [] = ⊥
In x (y ∷ ys) = (y ≡ x) ⊎ In x ys

abbrev AllIn : {A : Type 0} → List A → List A → Type 0
AllIn [] values = Unit {0}
AllIn (x ∷ xs) values = In x values × AllIn xs values

in_left : {A : Type 0} (x : A) (xs ys : List A) → In x xs → In x (xs ++ ys)
in_left x [] ys h = absurd h
in_left x (y ∷ xs) ys (inl e) = inl e
in_left x (y ∷ xs) ys (inr h) = inr (in_left x xs ys h)

in_right : {A : Type 0} (x : A) (xs ys : List A) → In x ys → In x (xs ++ ys)
in_right x [] ys h = h
in_right x (y ∷ xs) ys h = inr (in_right x xs ys h)

in_map : {A : Type 0} (v : A) (l : List A) (lists : List (List A)) → In l lists → In (v ∷ l) (map (λ l. v ∷ l) lists)
in_map v l [] h = absurd h
in_map {A} v l (m ∷ lists) (inl e) = inl (ap (λ (x : List A). v ∷ x) e)
in_map v l (m ∷ lists) (inr h) = inr (in_map v l lists h)

in_each : {A : Type 0} (v : A) (l : List A) (values : List A) (lists : List (List A)) → In v values → In l lists → In (v ∷ l) (each_before values lists)
in_each v l [] lists h k = absurd h
in_each {A} v l (w ∷ values) lists (inl e) k = in_left (v ∷ l) (map (λ l. w ∷ l) lists) (each_before values lists) (subst (λ (x : A). In (x ∷ l) (map (λ l. w ∷ l) lists)) e (in_map w l lists k))
in_each v l (w ∷ values) lists (inr h) k = in_right (v ∷ l) (map (λ l. w ∷ l) lists) (each_before values lists) (in_each v l values lists h k)

in_lists : {A : Type 0} (values l : List A) → AllIn l values → In l (all_lists values (length l))
in_lists values [] h = inl refl
in_lists values (x ∷ l) h = in_each x l values (all_lists values (length l)) h.0 (in_lists values l h.1)

-- ---- all lines

abbrev pixels : List Bool
pixels = false ∷ true ∷ []

a_pixel : (b : Bool) → In b pixels
a_pixel false = inl refl
a_pixel true = inr (inl refl)

all_pixels : (line : List Bool) → AllIn line pixels
all_pixels [] = tt
all_pixels (b ∷ line) = (a_pixel b, all_pixels line)

wide_lines : (width : ℕ) (lines : List (List Bool)) → list_all (λ line. eqb (length line) width) lines ≡ true → AllIn lines (all_lists pixels width)
wide_lines width [] h = tt
wide_lines width (line ∷ lines) h =
    let parts = and_parts (eqb (length line) width) (list_all (λ line. eqb (length line) width) lines) h in
    (subst (λ (n : ℕ). In line (all_lists pixels n)) (eqb-true (length line) width parts.0) (in_lists pixels line (all_pixels line)), wide_lines width lines parts.1)

in_all : (width height : ℕ) (lines : List (List Bool)) → is_grid width height lines ≡ true → In lines (all_lines width height)
unfolding all_lines
in_all width height lines h =
    let parts = and_parts (eqb (length lines) height) (list_all (λ line. eqb (length line) width) lines) h in
    subst (λ (n : ℕ). In lines (all_lists (all_lists pixels width) n)) (eqb-true (length lines) height parts.0) (in_lists (all_lists pixels width) lines (wide_lines width lines parts.1))

-- ---- what is found

found_passes : {A : Type 0} (p : A → Bool) (xs : List A) (x : A) → find p xs ≡ Some x → p x ≡ true
found_passes p [] x e = absurd cc
found_passes {A} p (y ∷ ys) x e =
    elim (cases_Bool (p y)) [
      | inl here ↦ (let f = rw here at e in let is : y ≡ x = cc in subst (λ (z : A). p z ≡ true) is here)
      | inr there ↦ found_passes p ys x (let f = rw there at e in f)
    ]

in_found : {A : Type 0} (p : A → Bool) (xs : List A) (x : A) → In x xs → p x ≡ true → (y : A) × (find p xs ≡ Some y)
in_found p [] x h t = absurd h
in_found {A} p (y ∷ ys) x h t =
    elim (cases_Bool (p y)) [
      | inl here ↦ (y, rw here refl)
      | inr there ↦
          elim h [
            | inl e ↦ absurd (let yes = subst (λ (z : A). p z ≡ true) (sym e) t in let both = sym there ∙ yes in cc)
            | inr k ↦ let rest = in_found p ys x k t in (rest.0, rw there rest.1)
          ]
    ]

-- ---- lines for a strip

pub strip_same : (p : Image) → strip p ≡ strip (page_of_lines p.width p.height p.rows)
unfolding strip
strip_same p = refl

abbrev at_sides : Bool → Option (List (List Bool)) → Option (List (List Bool))
at_sides allowed found = cond allowed found None

at_sides_some : (allowed : Bool) (found : Option (List (List Bool))) (lines : List (List Bool)) → at_sides allowed found ≡ Some lines → (allowed ≡ true) × (found ≡ Some lines)
at_sides_some true found lines e = (refl, e)
at_sides_some false found lines e = absurd cc

-- what is found has the sides and the strip
pub lines_taken : (width height : ℕ) (bytes : List ℕ) (lines : List (List Bool)) → lines_of width height bytes ≡ Some lines → IsTrue (has_lines width height lines) × (bytes ≡ strip (page_of_lines width height lines))
unfolding lines_of
lines_taken width height bytes lines e =
    let found = at_sides_some (sides_are_allowed width height) (find (is_strip width height bytes) (all_lines width height)) lines e in
    let passes = found_passes (is_strip width height bytes) (all_lines width height) lines found.1 in
    let parts = and_parts (is_grid width height lines) (bytes_eq (strip (page_of_lines width height lines)) bytes) passes in
    (and_from (sides_are_allowed width height) (is_grid width height lines) found.0 parts.0, sym ((bytes_eq-Decides (strip (page_of_lines width height lines)) bytes).0 parts.1))

wide_at : (width : ℕ) (lines : List (List Bool)) (r : ℕ) → list_all (λ line. eqb (length line) width) lines ≡ true → r < length lines → length (get_or lines r []) ≡ width
wide_at width [] r h lt = absurd (omega arith)
wide_at width (line ∷ lines) zero h lt = eqb-true (length line) width (and_parts (eqb (length line) width) (list_all (λ line. eqb (length line) width) lines) h).0
wide_at width (line ∷ lines) (suc r) h lt = wide_at width lines r (and_parts (eqb (length line) width) (list_all (λ line. eqb (length line) width) lines) h).1 (omega arith)

pub plain_page : (width height : ℕ) (lines : List (List Bool)) → IsTrue (has_lines width height lines) → IsPage (page_of_lines width height lines)
plain_page width height lines h =
    let parts = and_parts (sides_are_allowed width height) (is_grid width height lines) h in
    let grid = and_parts (eqb (length lines) height) (list_all (λ line. eqb (length line) width) lines) parts.1 in
    let down : length lines ≡ height = eqb-true (length lines) height grid.0 in
    record {
      sides = parts.0;
      xres = record { num = omega arith; den = omega arith };
      yres = record { num = omega arith; den = omega arith };
      grid = record { down = down; across = λ r lt. wide_at width lines r grid.1 (rw down lt) };
    }

strip_is : (p : Image) → bits_strip p ≡ strip p
unfolding strip
strip_is p = refl

long_strip : ((p : Image) → IsPage p → length (bits_strip p) < 2 ^ 32) → (width height : ℕ) (lines : List (List Bool)) (bytes : List ℕ) → IsTrue (has_lines width height lines) → bytes ≡ strip (page_of_lines width height lines) → 2 ^ 32 ≤ length bytes → ⊥
long_strip short width height lines bytes has is long =
    let below : length (strip (page_of_lines width height lines)) < 2 ^ 32 = subst (λ (b : List ℕ). length b < 2 ^ 32) (strip_is (page_of_lines width height lines)) (short (page_of_lines width height lines) (plain_page width height lines has)) in
    let same : length bytes ≡ length (strip (page_of_lines width height lines)) = ap (λ (b : List ℕ). length b) is in
    omega (arith, below, same, long)

own_reading : StripLaw → (width height : ℕ) (lines : List (List Bool)) (bytes : List ℕ) → IsTrue (has_lines width height lines) → bytes ≡ strip (page_of_lines width height lines) → StripReads (bits_of High bytes) width height lines
own_reading law width height lines bytes has is =
    let own : StripReads (bits_of High (bits_strip (page_of_lines width height lines))) width height lines = (law (page_of_lines width height lines) lines (plain_page width height lines has)).1 refl in
    subst (λ (b : List ℕ). StripReads (bits_of High b) width height lines) (strip_is (page_of_lines width height lines) ∙ sym is) own

-- lines that are read from a strip of these sides have it
same_strip : StripLaw → (width height : ℕ) (lines read : List (List Bool)) (bytes : List ℕ) → IsTrue (has_lines width height lines) → bytes ≡ strip (page_of_lines width height lines) → StripReads (bits_of High bytes) width height read → bits_strip (page_of_lines width height read) ≡ bytes
same_strip law width height lines read bytes has is reads =
    let of_it : StripReads (bits_of High (bits_strip (page_of_lines width height lines))) width height read = subst (λ (b : List ℕ). StripReads (bits_of High b) width height read) (is ∙ sym (strip_is (page_of_lines width height lines))) reads in
    let same : read ≡ lines = (law (page_of_lines width height lines) read (plain_page width height lines has)).0 of_it in
    ap (λ (l : List (List Bool)). bits_strip (page_of_lines width height l)) same ∙ strip_is (page_of_lines width height lines) ∙ sym is

-- lines of the same sides with the same strip are the same
one_strip : StripLaw → (width height : ℕ) (first second : List (List Bool)) → IsTrue (has_lines width height first) → IsTrue (has_lines width height second)
    → strip (page_of_lines width height first) ≡ strip (page_of_lines width height second) → first ≡ second
unfolding strip
one_strip law width height first second h k e =
    let own : StripReads (bits_of High (bits_strip (page_of_lines width height first))) width height first = (law (page_of_lines width height first) first (plain_page width height first h)).1 refl in
    (law (page_of_lines width height second) first (plain_page width height second k)).0 (subst (λ (bytes : List ℕ). StripReads (bits_of High bytes) width height first) e own)

-- lines of these sides are found for their strip
pub lines_found : StripLaw → (width height : ℕ) (lines : List (List Bool)) → IsTrue (has_lines width height lines) → lines_of width height (strip (page_of_lines width height lines)) ≡ Some lines
unfolding lines_of
lines_found law width height lines h =
    let bytes = strip (page_of_lines width height lines) in
    let parts = and_parts (sides_are_allowed width height) (is_grid width height lines) h in
    let same : bytes_eq bytes bytes ≡ true = (bytes_eq-Decides bytes bytes).1 refl in
    let found = in_found (is_strip width height bytes) (all_lines width height) lines (in_all width height lines parts.1) (and_from (is_grid width height lines) (bytes_eq bytes bytes) parts.1 same) in
    let passes = and_parts (is_grid width height found.0) (bytes_eq (strip (page_of_lines width height found.0)) bytes) (found_passes (is_strip width height bytes) (all_lines width height) found.0 found.1) in
    let there : IsTrue (has_lines width height found.0) = and_from (sides_are_allowed width height) (is_grid width height found.0) parts.0 passes.0 in
    let is : found.0 ≡ lines = one_strip law width height found.0 lines there h ((bytes_eq-Decides (strip (page_of_lines width height found.0)) bytes).0 passes.1) in
    rw parts.0 (found.1 ∙ ap (λ (l : List (List Bool)). Some l) is)

pub lines_again : StripLaw → (p : Image) → IsTrue (has_lines p.width p.height p.rows) → lines_of p.width p.height (strip p) ≡ Some p.rows
lines_again law p h = ap (lines_of p.width p.height) (strip_same p) ∙ lines_found law p.width p.height p.rows h

no_lines_in : (width height : ℕ) (bytes : List ℕ) (found : Option (List (List Bool))) → lines_of width height bytes ≡ found
    → ((lines : List (List Bool)) → IsTrue (has_lines width height lines) → bytes ≡ strip (page_of_lines width height lines) → ⊥) → lines_of width height bytes ≡ None
no_lines_in width height bytes None e none = e
no_lines_in width height bytes (Some lines) e none = let taken = lines_taken width height bytes lines e in absurd (none lines taken.0 taken.1)

-- where no lines have the strip, none are found
pub no_lines : (width height : ℕ) (bytes : List ℕ) → ((lines : List (List Bool)) → IsTrue (has_lines width height lines) → bytes ≡ strip (page_of_lines width height lines) → ⊥) → lines_of width height bytes ≡ None
no_lines width height bytes none = no_lines_in width height bytes (lines_of width height bytes) refl none

-- ---- the same, as a function finds it

grid_test : (width : ℕ) (lines : List (List Bool)) → ((r : ℕ) → r < length lines → length (get_or lines r []) ≡ width) → list_all (λ line. eqb (length line) width) lines ≡ true
grid_test width [] h = refl
grid_test width (line ∷ lines) h = and_from (eqb (length line) width) (list_all (λ line. eqb (length line) width) lines) (eq-eqb (length line) width (h 0 (omega arith))) (grid_test width lines (λ r lt. h (suc r) (omega arith)))

-- a page has lines of its sides
pub page_lines : (p : Image) → IsPage p → IsTrue (has_lines p.width p.height p.rows)
page_lines p page =
    and_from (sides_are_allowed p.width p.height) (is_grid p.width p.height p.rows) page.sides
    (and_from (eqb (length p.rows) p.height) (list_all (λ line. eqb (length line) p.width) p.rows) (eq-eqb (length p.rows) p.height page.grid.down)
    (grid_test p.width p.rows (λ r lt. page.grid.across r (subst (λ (n : ℕ). r < n) page.grid.down lt))))

-- too many bytes for a strip
pub too_long : ((p : Image) → IsPage p → length (bits_strip p) < 2 ^ 32) → (width height : ℕ) (bytes : List ℕ) → 2 ^ 32 ≤ length bytes → lines_of width height bytes ≡ None
too_long short width height bytes long = no_lines width height bytes (λ lines has is. long_strip short width height lines bytes has is long)

-- lines that are read from no strip
pub not_read : StripLaw → (width height : ℕ) (bytes : List ℕ) → ((lines : List (List Bool)) → IsTrue (sides_are_allowed width height) → StripReads (bits_of High bytes) width height lines → ⊥) → lines_of width height bytes ≡ None
not_read law width height bytes none =
    no_lines width height bytes (λ lines has is. none lines (and_parts (sides_are_allowed width height) (is_grid width height lines) has).0 (own_reading law width height lines bytes has is))

-- the page that is read has another strip
pub other_strip : StripLaw → (width height : ℕ) (bytes written : List ℕ) (p : Image) → p ≡ page_of_lines width height p.rows → StripReads (bits_of High bytes) width height p.rows → written ≡ bits_strip p → {seen : List ℕ} → written ≡ seen → bytes_eq seen bytes ≡ false
    → lines_of width height bytes ≡ None
other_strip law width height bytes written p plain reads is {seen} same differ =
    no_lines width height bytes (λ lines has e.
    let equal : seen ≡ bytes = sym same ∙ is ∙ ap bits_strip plain ∙ same_strip law width height lines p.rows bytes has e reads in
    false≢true (sym differ ∙ (bytes_eq-Decides seen bytes).1 equal))

-- the page that is read has this strip
pub its_strip : StripLaw → (width height : ℕ) (bytes written : List ℕ) (p : Image) → IsPage p → p ≡ page_of_lines width height p.rows → written ≡ bits_strip p → {seen : List ℕ} → written ≡ seen → bytes_eq seen bytes ≡ true
    → lines_of width height bytes ≡ Some p.rows
its_strip law width height bytes written p page plain is {seen} same equal =
    let has : IsTrue (has_lines width height p.rows) = subst (λ (q : Image). IsTrue (has_lines q.width q.height p.rows)) plain (page_lines p page) in
    let its : bytes ≡ strip (page_of_lines width height p.rows) = sym ((bytes_eq-Decides seen bytes).0 equal) ∙ sym same ∙ is ∙ ap bits_strip plain ∙ strip_is (page_of_lines width height p.rows) in
    ap (lines_of width height) its ∙ lines_found law width height p.rows has
