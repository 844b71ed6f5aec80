-- Lemmas on lines in turn: carry a row read, or its fault, over to the strip.
use Rattle.std.proofs.Common.{ℕ, suc, ◌+◌, ◌-◌, ◌*◌, ◌<◌, ◌≤◌, ◌≡◌, Bool, true, List, [], ◌∷◌, ◌++◌, length, get_or, drop, refl, ap, sym, ◌∙◌, subst, arith, inl, inr, length-append, length-drop}
use Rattle.std.proofs.lemmas.Bool.{cases_lt}
use Rattle.std.proofs.lemmas.List.{append-nil, append_assoc, length_push, get_or_append_left, get_or_at}
use Rattle.bp_core.specs.declared.rules.RuleKind.{RuleKind}
use Rattle.bp_core.specs.declared.refusals.Refusal.{Refusal}
use Rattle.bp_core.specs.declared.refusals.Refusal.TheVariants as refusals
use Rattle.bp_rows.specs.Packed.{packed_row, packed_rows}
use Rattle.bp_rows.specs.Bits.{rows_in_bytes, row_bytes}
use Rattle.bp_rows.proofs.PackedLemmas.{rows_in-packed_rows, length-packed_rows}
use Rattle.bp_rows.specs.Limits.{sides_are_allowed}
use Rattle.bp_t6.specs.declared.reading.Stop.{Stop}
use Rattle.bp_t6.specs.declared.reading.Stop.TheVariants as answers
use Rattle.bp_t6.specs.Places.{start}
use Rattle.bp_t6.specs.Modes.{codes_of}
use Rattle.bp_t6.specs.Written.{white_line}
use Rattle.bp_t6.specs.Read.{RowReads, LinesRead}
use Rattle.bp_t6.specs.Faults.{RowFault, LinesFault, here, later, StripFault}
use Rattle.bp_rows.specs.Changes.{Shows}
use Rattle.bp_t6.specs.Reading.{IfFault, RowIsRead, RowStops}
use Rattle.bp_t6.specs.SoFar.{LinesTo, last_line}
use Rattle.bp_t6.specs.Strips.{refusal_for, AppendsLines, SaysFault, IsRefused}
use Rattle.bp_core.specs.Answers.{IfRule}
use Rattle.bp_t6.proofs.RunCodeLemmas.{flat_map-append}
use Rattle.bp_rows.proofs.ShownLemmas.{shows_white}

pub lines_to-read : (above bits : List Bool) (lines : List (List Bool)) (rest : List Bool) → LinesTo above bits lines rest → LinesRead above bits lines
lines_to-read above bits [] rest so = tt
lines_to-read above bits (line ∷ lines) rest so = (so.0, so.1, lines_to-read line so.0 lines rest so.2)

pub lines_more : (above bits : List Bool) (lines : List (List Bool)) (rest line next : List Bool) → LinesTo above bits lines rest → RowReads (last_line above lines) rest line next → LinesTo above bits (lines ++ line ∷ []) next
lines_more above bits [] rest line next so reads = (next, subst (λ (bs : List Bool). RowReads above bs line next) (sym so) reads, refl)
lines_more above bits (first ∷ lines) rest line next so reads = (so.0, so.1, lines_more first so.0 lines rest line next so.2 reads)

pub last-more : (above : List Bool) (lines : List (List Bool)) (line : List Bool) → last_line above (lines ++ line ∷ []) ≡ line
last-more above [] line = refl
last-more above (first ∷ lines) line = last-more first lines line

rest_short : (above bits line rest : List Bool) → RowReads above bits line rest → length rest ≤ length bits
rest_short above bits line rest reads = omega (arith, ap length reads.codes, length-append (codes_of above start reads.modes) rest)

to_short : (above bits : List Bool) (lines : List (List Bool)) (rest : List Bool) → LinesTo above bits lines rest → length rest ≤ length bits
to_short above bits [] rest so = omega (arith, ap length so)
to_short above bits (line ∷ lines) rest so = omega (arith, rest_short above bits line so.0 so.1, to_short line so.0 lines rest so.2)

-- the first fault stands after the lines that are read
pub lines_fault : (above bits : List Bool) (lines : List (List Bool)) (rest : List Bool) (left : ℕ) (kind : RuleKind) (at : ℕ) → LinesTo above bits lines rest → length lines < left → RowFault (last_line above lines) rest kind at → LinesFault above bits left kind (length lines) (length bits - length rest + at)
lines_fault above bits [] rest left kind at so more fault =
    let none : at ≡ length bits - length rest + at = omega (arith, ap length so) in
    subst (λ (n : ℕ). LinesFault above bits left kind 0 n) none (here above bits left kind at more (subst (λ (bs : List Bool). RowFault above bs kind at) (sym so) fault))
lines_fault above bits (line ∷ lines) rest left kind at so more fault =
    let one = lines_fault line so.0 lines rest (left - 1) kind at so.2 (omega arith) fault in
    let all = later above line bits so.0 (left - 1) kind (length lines) (length so.0 - length rest + at) so.1 one in
    let lefts : left - 1 + 1 ≡ left = omega arith in
    let rows : length lines + 1 ≡ suc (length lines) = omega arith in
    let bit : length bits - length so.0 + (length so.0 - length rest + at) ≡ length bits - length rest + at = omega (arith, rest_short above bits line so.0 so.1, to_short line so.0 lines rest so.2) in
    subst (λ (n : ℕ). LinesFault above bits left kind (suc (length lines)) n) bit
    (subst (λ (n : ℕ). LinesFault above bits left kind n (length bits - length so.0 + (length so.0 - length rest + at))) rows
    (subst (λ (n : ℕ). LinesFault above bits n kind (length lines + 1) (length bits - length so.0 + (length so.0 - length rest + at))) lefts all))

-- so many lines are read up to a bit, shown by the list, and packed behind what stood before
pub record LinesSoFar (bits : List Bool) (width count at : ℕ) (before strip above : List ℕ) : Type 0 where
  pub lines : List (List Bool)
  pub long : length lines ≡ count
  pub wide : (r : ℕ) → r < count → length (get_or lines r []) ≡ width
  pub reads : LinesTo (white_line width) bits lines (drop at bits)
  pub shows : Shows above width (last_line (white_line width) lines)
  pub packed : strip ≡ before ++ packed_rows lines

pub none_so_far : (bits : List Bool) (width : ℕ) (strip above : List ℕ) → above ≡ [] → LinesSoFar bits width 0 0 strip strip above
none_so_far bits width strip above no_above = record {
  lines = [];
  long = refl;
  wide = λ r h. absurd (omega arith);
  reads = refl;
  shows = subst (λ (ps : List ℕ). Shows ps width (white_line width)) (sym no_above) (shows_white width);
  packed = sym (append-nil strip);
}

more_packed : (before : List ℕ) (lines : List (List Bool)) (row : List Bool) → before ++ packed_rows (lines ++ row ∷ []) ≡ (before ++ packed_rows lines) ++ packed_row row
more_packed before lines row =
    ap (λ bytes. before ++ bytes) (flat_map-append packed_row lines (row ∷ []) ∙ ap (λ ys. packed_rows lines ++ ys) (append-nil (packed_row row)))
    ∙ sym (append_assoc before (packed_rows lines) (packed_row row))

pub one_more : (bits : List Bool) (width count at next : ℕ) (before strip above line new : List ℕ) → (so : LinesSoFar bits width count at before strip above) → ((over : List Bool) → Shows above width over → RowIsRead over bits at next width line)
    → ((row : List Bool) → Shows line width row → new ≡ strip ++ packed_row row) → LinesSoFar bits width (count + 1) next before new line
one_more bits width count at next before strip above line new so read put =
    let over = last_line (white_line width) so.lines in
    let one = read over so.shows in let row = one.row in
    record {
      lines = so.lines ++ row ∷ [];
      long = length_push so.lines row ∙ omega (arith, so.long);
      wide = λ r h. elim (cases_lt r count) [
        | inl less ↦ ap length (get_or_append_left so.lines (row ∷ []) [] r (omega (arith, so.long))) ∙ so.wide r less
        | inr last ↦ (let same : length so.lines ≡ r = omega (arith, so.long) in ap length (get_or_at so.lines row [] [] r same) ∙ one.shows.long)
      ];
      reads = lines_more (white_line width) bits so.lines (drop at bits) row (drop next bits) so.reads one.reads;
      shows = subst (λ (l : List Bool). Shows line width l) (sym (last-more (white_line width) so.lines row)) one.shows;
      packed = put row one.shows ∙ ap (λ xs. xs ++ packed_row row) so.packed ∙ sym (more_packed before so.lines row);
    }

pub all_read : (bits : List Bool) (width count height at : ℕ) (before strip above : List ℕ) → LinesSoFar bits width count at before strip above → count ≡ height → AppendsLines bits width height before strip
all_read bits width count height at before strip above so done = record {
  lines = so.lines;
  reads = record { count = so.long ∙ done; read = lines_to-read (white_line width) bits so.lines (drop at bits) so.reads };
  grid = record { down = so.long ∙ done; across = λ r h. so.wide r (omega arith) };
  packed = so.packed;
}

pub says_fault : (bits : List Bool) (width height first count at : ℕ) (before strip above : List ℕ) (stop : Stop) (refusal : Refusal) → (so : LinesSoFar bits width count at before strip above) → at ≤ length bits → count < height
    → ((over : List Bool) → Shows above width over → IfFault (RowStops over bits at) stop) → refusal ≡ refusal_for stop (first + count) → IfRule (SaysFault bits width height first) refusal
says_fault bits width height first count at before strip above (answers.Fault f) refusal so within more stops is =
    let over = last_line (white_line width) so.lines in
    let row = stops over so.shows in
    let fault = lines_fault (white_line width) bits so.lines (drop at bits) height f.kind (f.bit - at) so.reads (omega (arith, so.long)) row.fault in
    let bit : length bits - length (drop at bits) + (f.bit - at) ≡ f.bit = omega (arith, length-drop at bits, row.since) in
    subst (IfRule (SaysFault bits width height first)) (sym is) (record {
      kind = f.kind;
      row = count;
      at = f.bit;
      fault = subst (λ (n : ℕ). StripFault bits width height f.kind n f.bit) so.long (subst (λ (n : ℕ). StripFault bits width height f.kind (length so.lines) n) bit fault);
      says = refl;
    })
says_fault bits width height first count at before strip above answers.OutOfMemory refusal so within more stops is = subst (IfRule (SaysFault bits width height first)) (sym is) tt

-- the refusal of a strip is one of the page where its sides are allowed
pub refused_within : (bits : List Bool) (width height : ℕ) (refusal : Refusal) → sides_are_allowed width height ≡ true → IfRule (SaysFault bits width height 0) refusal → IsRefused bits width height refusal
refused_within bits width height (refusals.Rule rule) sides stops = inr (sides, stops)
refused_within bits width height refusals.OutOfMemory sides stops = sides

-- ---- a strip that was read behind nothing

pub strip_is : (bits : List Bool) (w h : ℕ) (before strip : List ℕ) → before ≡ [] → (read : AppendsLines bits w h before strip) → strip ≡ packed_rows read.lines
strip_is bits w h before strip none read = read.packed ∙ ap (λ bytes. bytes ++ packed_rows read.lines) none

pub strip_long : (bits : List Bool) (w h : ℕ) (before strip : List ℕ) → before ≡ [] → AppendsLines bits w h before strip → length strip ≡ h * row_bytes w
strip_long bits w h before strip none read = ap length (strip_is bits w h before strip none read) ∙ length-packed_rows w h read.lines read.grid

pub strip_rows : (bits : List Bool) (w h : ℕ) (before strip : List ℕ) → before ≡ [] → (read : AppendsLines bits w h before strip) → rows_in_bytes w h strip ≡ read.lines
strip_rows bits w h before strip none read = ap (rows_in_bytes w h) (strip_is bits w h before strip none read) ∙ sym (rows_in-packed_rows w h read.lines read.grid)
