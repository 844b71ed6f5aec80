-- Rows on their way out: carry what is kept over from one row to the next, and to the strip that goes out.
use Rattle.std.proofs.Common.{ℕ, suc, ◌≡◌, ◌+◌, ◌-◌, ◌<◌, ◌≤◌, ◌&&◌, ◌||◌, Bool, true, false, not, nat_le, nat_lt, List, [], ◌∷◌, length, take, get_or, replicate, refl, sym, ap, subst, ◌∙◌, arith, inl, inr}
use Rattle.std.proofs.lemmas.Bool.{cases_lt, le-leb, lt-ltb}
use Rattle.std.proofs.lemmas.Bool.Decides.{nat_tests}
use Rattle.std.proofs.lemmas.List.{ext_get_or, get_or-replicate, get_or-set_same, length-take, append-nil}
use Rattle.bp_core.specs.declared.stamps.Ink.{Ink}
use Rattle.bp_core.specs.declared.stamps.Stamp.{Stamp}
use Rattle.bp_codes.specs.declared.span.Fill.TheVariants.{High}
use Rattle.bp_codes.specs.Bits.{bits_of}
use Rattle.bp_rows.specs.Burned.{burned, covers_pixel, row_part}
use Rattle.bp_rows.specs.Changes.{Shows, odd, place_at}
use Rattle.bp_rows.specs.Image.{Image, pixel, row_of, with_row}
use Rattle.bp_rows.specs.Runs.{painted_runs}
use Rattle.bp_rows.proofs.BurnedLemmas.{pixel-burned}
use Rattle.bp_rows.proofs.ShownLemmas.{odd_two, up}
use Rattle.bp_t6.specs.SoFar.{AddedSoFar, HasAdded, HasNextRow, ReadSoFar, ReadsPage, row_above, unread}
use Rattle.bp_t6.specs.Written.{bits_strip}
use Rattle.bp_burn.specs.Covered.{covered}
use Rattle.bp_burn.specs.RowsOut.{AreOf, HasBits, IsGoingOut, IsLine, IsOutRoom, RowsOut, above_out, last_out}
use Rattle.bp_burn.specs.declared.covered_rows.CoveredRow.{CoveredRow}
use Rattle.bp_burn.specs.Strips.{HasStrip}

-- ---- pages by the bits of their strip

pub bits_of_strip : (width height : ℕ) (strip : List ℕ) (p : Image) → HasStrip width height strip p → HasBits width height (bits_of High strip) p
bits_of_strip width height strip p has = record { page = has.page; wide = has.wide; high = has.high; codes = ap (bits_of High) has.codes }

pub bits_before : (old new : ReadSoFar) (height : ℕ) (p : Image) → new.bits ≡ old.bits → new.width ≡ old.width → HasBits new.width height new.bits p → HasBits old.width height old.bits p
bits_before old new height p bits width has = record { page = has.page; wide = has.wide ∙ width; high = has.high; codes = sym bits ∙ has.codes }

pub bits_after : (old new : ReadSoFar) (height : ℕ) (p : Image) → new.bits ≡ old.bits → new.width ≡ old.width → HasBits old.width height old.bits p → HasBits new.width height new.bits p
bits_after old new height p bits width has = record { page = has.page; wide = has.wide ∙ sym width; high = has.high; codes = bits ∙ has.codes }

-- before the first row
pub none_out : (reader : ReadSoFar) (bits : List Bool) (width height : ℕ) (line : Image) (white : List ℕ) (ink : Ink) (stamps : List Stamp) (q : Image)
    → ((p : Image) (r : ReadSoFar) → r ≡ unread (bits_of High (bits_strip p)) p.width → ReadsPage p 0 r)
    → reader ≡ unread bits width → HasBits width height bits q → IsOutRoom width line white
    → IsGoingOut reader 0 line white ink stamps height 0
none_out reader bits width height line white ink stamps q begins is has room =
    let bits_are : reader.bits ≡ bits = ap (λ (r : ReadSoFar). r.bits) is in
    let width_is : reader.width ≡ width = ap (λ (r : ReadSoFar). r.width) is in
    record {
      page = q;
      own = record { page = has.page; wide = has.wide ∙ sym width_is; high = has.high; codes = bits_are ∙ has.codes };
      reads = λ p these.
          begins p reader
          (is ∙ ap (λ bs. unread bs width) (sym bits_are ∙ these.codes) ∙ ap (λ w. unread (bits_of High (bits_strip p)) w) (sym width_is ∙ sym these.wide));
      down = omega arith;
      before = omega arith;
      wide = room.wide ∙ sym width_is;
      high = room.high;
      blank = room.blank ∙ ap (λ w. w ∷ []) (sym width_is);
      last = λ some p these. absurd (omega arith);
    }

-- a row is left
pub next_out : (reader : ReadSoFar) (from : ℕ) (line : Image) (white : List ℕ) (ink : Ink) (stamps : List Stamp) (height row : ℕ) → IsGoingOut reader from line white ink stamps height row → row < height → HasNextRow reader
next_out reader from line white ink stamps height row so less =
    let p = so.page in
    let reads = so.reads p so.own in
    let down = so.own.page.grid.down in
    let at : row ≡ reader.row = omega (arith, reads.read.count, length-take row p.rows, down, so.own.high) in
    record {
      page = p;
      is = so.own.page;
      left = omega (arith, so.own.high);
      reads = subst (λ (n : ℕ). ReadsPage p n reader) at reads;
    }

-- ---- a row painted from places

in_part : (a b c : ℕ) → a ≤ c → c < b → covers_pixel (row_part 0 a b ∷ []) 0 c ≡ true
in_part a b c low high =
    ap (λ x. (x && nat_lt c (a + (b - a))) || false) (le-leb a c low)
    ∙ ap (λ x. x || false) (lt-ltb c (a + (b - a)) (omega arith))

is_past : (a c : ℕ) → c < a → nat_le a c ≡ false
is_past a c less = grind (arith, nat_tests)

is_behind : (b c : ℕ) → b ≤ c → nat_lt c b ≡ false
is_behind b c more = grind (arith, nat_tests)

left_of_part : (a b c : ℕ) → c < a → covers_pixel (row_part 0 a b ∷ []) 0 c ≡ false
left_of_part a b c less = ap (λ x. (x && nat_lt c (a + (b - a))) || false) (is_past a c less)

and_false : (x : Bool) → (x && false) ≡ false
and_false true = refl
and_false false = refl

right_of_part : (a b c : ℕ) → a ≤ b → b ≤ c → covers_pixel (row_part 0 a b ∷ []) 0 c ≡ false
right_of_part a b c order more =
    ap (λ x. (nat_le a c && x) || false) (is_behind (a + (b - a)) c (omega arith))
    ∙ ap (λ x. x || false) (and_false (nat_le a c))

-- the first pixels of a row are painted, and the others are white
pub record IsFront (page : Image) (width to : ℕ) (line : List Bool) : Type 0 where
  pub before : (c : ℕ) → c < to → c < width → pixel page 0 c ≡ get_or line c false
  pub behind : (c : ℕ) → to ≤ c → c < width → pixel page 0 c ≡ false

module _ (old : Image) (places : List ℕ) (width k : ℕ) (line : List Bool) (shows : Shows places width line) (wide : old.width ≡ width) (high : 0 < old.height) (front : IsFront old width (place_at places width k) line) (even : odd k ≡ false) where
  abbrev from : ℕ
  from = place_at places width k

  abbrev to : ℕ
  to = place_at places width (k + 1)

  abbrev next : ℕ
  next = place_at places width (k + 2)

  abbrev new : Image
  new = burned old (row_part 0 from to ∷ [])

  order : from ≤ to
  order = up places width k shows.rises

  more : to ≤ next
  more =
      let two : k + 1 + 1 ≡ k + 2 = omega arith in
      subst (λ (n : ℕ). to ≤ place_at places width n) two (up places width (k + 1) shows.rises)

  cell : (c : ℕ) → c < width → pixel new 0 c ≡ (covers_pixel (row_part 0 from to ∷ []) 0 c || pixel old 0 c)
  cell c across = pixel-burned old (row_part 0 from to ∷ []) 0 c high (omega (arith, wide))

  odd_next : odd (k + 1) ≡ true
  odd_next = let e : k + 1 ≡ suc k = omega arith in ap odd e ∙ ap not even

  painted_before : (c : ℕ) → c < next → c < width → pixel new 0 c ≡ get_or line c false
  painted_before c less across = elim (cases_lt c from) [
    | inl old_part ↦ cell c across ∙ ap (λ b. b || pixel old 0 c) (left_of_part from to c old_part) ∙ front.before c old_part across
    | inr past ↦ elim (cases_lt c to) [
      | inl black ↦
          cell c across ∙ ap (λ b. b || pixel old 0 c) (in_part from to c past black)
          ∙ sym (shows.colour (k + 1) c (λ j e. (let at : j ≡ k = omega arith in subst (λ (n : ℕ). place_at places width n ≤ c) (sym at) past)) black ∙ odd_next)
      | inr white ↦
          cell c across ∙ ap (λ b. b || pixel old 0 c) (right_of_part from to c order white) ∙ front.behind c past across
          ∙ sym (shows.colour (k + 2) c (λ j e. (let at : j ≡ k + 1 = omega arith in subst (λ (n : ℕ). place_at places width n ≤ c) (sym at) white)) less ∙ odd_two k ∙ even)
    ]
  ]

  white_behind : (c : ℕ) → next ≤ c → c < width → pixel new 0 c ≡ false
  white_behind c past across =
      cell c across ∙ ap (λ b. b || pixel old 0 c) (right_of_part from to c order (omega (arith, more))) ∙ front.behind c (omega (arith, order, more)) across

  pub front_more : IsFront new width next line
  front_more = record { before = painted_before; behind = white_behind }

-- all of them are painted
pub front_all : (page : Image) (places : List ℕ) (width k : ℕ) (line : List Bool) → Shows places width line → length (row_of page 0) ≡ width → place_at places width k ≡ width → IsFront page width (place_at places width k) line → row_of page 0 ≡ line
front_all page places width k line shows long end front =
    ext_get_or false (row_of page 0) line (long ∙ sym shows.long)
    (λ c short. front.before c (omega (arith, long, end)) (omega (arith, long)))

-- a white row, of which nothing is painted yet
pub white_row : (page old : Image) (white : List ℕ) (width : ℕ) → 0 < length old.rows → page ≡ with_row old 0 (painted_runs false white) → white ≡ width ∷ [] → row_of page 0 ≡ replicate width false
white_row page old white width some is blank =
    ap (λ (i : Image). row_of i 0) is ∙ get_or-set_same old.rows 0 (painted_runs false white) [] some
    ∙ ap (λ runs. painted_runs false runs) blank ∙ append-nil (replicate width false)

pub front_none : (page : Image) (places : List ℕ) (width : ℕ) (line : List Bool) → Shows places width line → row_of page 0 ≡ replicate width false → IsFront page width (place_at places width 0) line
front_none page places width line shows row =
    let none : (c : ℕ) → c < width → pixel page 0 c ≡ false = λ c across. ap (λ l. get_or l c false) row ∙ get_or-replicate width c false false across in
    record {
      before = λ c less across. none c across ∙ sym (shows.colour 0 c (λ j e. absurd (omega arith)) less);
      behind = λ c past across. none c across;
    }

-- ---- rows added to the strip that goes out

-- so many rows were read, covered and added
pub record OutSoFar (first : RowsOut) (row : ℕ) (rows : RowsOut) (writer : AddedSoFar) : Type 0 where
  pub are : rows ≡ record first { row = row }
  pub wide : writer.width ≡ first.width
  pub added : (p : Image) → AreOf first p → HasAdded writer (take row (covered first.ink p first.stamps).rows)

-- the row that was read last, at its own number
pub line_out : (first : RowsOut) (row : ℕ) (rows : RowsOut) (lent : CoveredRow)
    → rows ≡ record first { row = row + 1 }
    → ((p : Image) → AreOf rows p → IsLine rows.width (above_out rows p) (last_out rows p) lent)
    → (p : Image) → AreOf first p → IsLine first.width (row_above (covered first.ink p first.stamps) row) (row_of (covered first.ink p first.stamps) row) lent
line_out first row rows lent are line p has =
    let out : RowsOut = record first { row = row + 1 } in
    let back : row + 1 - 1 ≡ row = omega arith in
    let these : AreOf rows p = subst (λ (o : RowsOut). AreOf o p) (sym are) has in
    let there : IsLine first.width (above_out out p) (last_out out p) lent = subst (λ (o : RowsOut). IsLine o.width (above_out o p) (last_out o p) lent) are (line p these) in
    subst (λ (n : ℕ). IsLine first.width (row_above (covered first.ink p first.stamps) n) (row_of (covered first.ink p first.stamps) n) lent) back there

-- before the first row
pub at_first : (first : RowsOut) (n : ℕ) → first.row ≡ n → first ≡ record first { row = n }
at_first first n is = ap (λ (k : ℕ). record first { row = k }) is
