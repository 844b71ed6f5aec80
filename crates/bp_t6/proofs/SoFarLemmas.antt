-- Lemmas on strips under way: carry a line that is read or added over to the lines so far.
use Rattle.std.proofs.Common.{ℕ, zero, suc, ◌+◌, ◌-◌, ◌<◌, ◌≤◌, ◌≡◌, Bool, false, not, List, [], ◌∷◌, ◌++◌, length, get_or, drop, take, sum, None, Result, Ok, Err, refl, ap, sym, ◌∙◌, subst, arith, inl, inr, append_assoc, length-append, length-drop}
use Rattle.std.specs.Result.{IfOk}
use Rattle.std.proofs.lemmas.Bool.{cases_lt}
use Rattle.std.proofs.lemmas.List.{append-nil, append_cancel_left, length_push, get_or_append_left, get_or_at, length-replicate, length-take, take_more}
use Rattle.bp_core.specs.declared.refusals.Refusal.{Refusal}
use Rattle.bp_core.specs.declared.rules.Rule.{Rule as BrokenRule}
use Rattle.bp_core.specs.declared.rules.RuleKind.{RuleKind}
use Rattle.bp_core.specs.Answers.{IfRule}
use Rattle.bp_codes.specs.declared.span.Fill.TheVariants.{High}
use Rattle.bp_codes.specs.Bits.{bits_of}
use Rattle.bp_codes.specs.CodeLists.{mode_codes, end_of_block}
use Rattle.bp_rows.specs.declared.limits.TheConstants.{MAX_WIDTH}
use Rattle.bp_rows.specs.Changes.{changes_of, Rises, Shows}
use Rattle.bp_rows.specs.Image.{Image, IsPage, row_of}
use Rattle.bp_rows.specs.Packed.{packed_row}
use Rattle.bp_rows.specs.Runs.{IsRuns, painted_runs}
use Rattle.bp_rows.proofs.RunLemmas.{length-painted}
use Rattle.bp_rows.proofs.ShownLemmas.{all_white, shows_white, shows_row}
use Rattle.bp_t6.specs.declared.reading.Stop.{Stop}
use Rattle.bp_t6.specs.declared.reading.Stop.TheVariants as answers
use Rattle.bp_t6.specs.Places.{start}
use Rattle.bp_t6.specs.Modes.{Mode, Pass, Horizontal, Vertical, IsMode, code, run_bits, mode_bits, vertical_rows, place_after, codes_of, end_of_modes, AllMove}
use Rattle.bp_t6.specs.Written.{row_code, lines_code, white_line, bits_strip}
use Rattle.bp_t6.specs.Read.{RowReads, LinesRead, StripReads}
use Rattle.bp_t6.specs.Faults.{LinesFault, here, later, StripFault}
use Rattle.bp_t6.specs.Reading.{IfFault, RowIsRead, RowStops}
use Rattle.bp_t6.specs.SoFar.{last_line, HaveWidth, codes_so_far, AddedSoFar, HasAdded, IsWriter, LinesTo, ReadSoFar, HasRead, ReadsLine, ReadsNextRow, ReadsPage, unread}
use Rattle.bp_t6.specs.Strips.{fault_rule, refusal_for, SaysFault}
use Rattle.bp_t6.proofs.StripLemmas.{lines_to-read, lines_more, last-more, lines_fault}

pub wide_more : (width : ℕ) (lines : List (List Bool)) (line : List Bool) → HaveWidth width lines → length line ≡ width → HaveWidth width (lines ++ line ∷ [])
wide_more width lines line wide long i h = elim (cases_lt i (length lines)) [
  | inl less ↦ ap length (get_or_append_left lines (line ∷ []) [] i less) ∙ wide i less
  | inr last ↦ (let same : length lines ≡ i = omega (arith, length_push lines line) in ap length (get_or_at lines line [] [] i same) ∙ long)
]

last_long : (width : ℕ) (above : List Bool) (lines : List (List Bool)) → length above ≡ width → HaveWidth width lines → length (last_line above lines) ≡ width
last_long width above [] long wide = long
last_long width above (line ∷ lines) long wide = last_long width line lines (wide 0 (omega arith)) (λ i h. wide (suc i) (omega arith))

-- ---- added

pub none_added : (writer : AddedSoFar) → writer.bits ≡ [] → writer.above ≡ [] → HasAdded writer []
none_added writer bits above = record { wide = λ i h. absurd (omega arith); coded = bits; last = above ∙ sym (all_white 0 writer.width) }

pub codes_more : (above : List Bool) (lines : List (List Bool)) (line : List Bool) → codes_so_far above (lines ++ line ∷ []) ≡ codes_so_far above lines ++ row_code (last_line above lines) line
codes_more above [] line = append-nil (row_code above line)
codes_more above (first ∷ lines) line =
    ap (λ bs. row_code above first ++ bs) (codes_more first lines line)
    ∙ sym (append_assoc (row_code above first) (codes_so_far first lines) (row_code (last_line first lines) line))

pub line_copied : (old new : AddedSoFar) (lines : List (List Bool)) (line : List Bool) → HasAdded old lines → new.width ≡ old.width → length line ≡ old.width → new.above ≡ changes_of line
    → new.bits ≡ old.bits ++ row_code (last_line (white_line old.width) lines) line → HasAdded new (lines ++ line ∷ [])
line_copied old new lines line has same long places put =
    let white = white_line old.width in
    let over = last_line white lines in
    let whites : white_line new.width ≡ white = ap white_line same in
    record {
      wide = subst (λ (w : ℕ). HaveWidth w (lines ++ line ∷ [])) (sym same) (wide_more old.width lines line has.wide long);
      coded = put ∙ ap (λ bs. bs ++ row_code over line) has.coded
          ∙ sym (codes_more white lines line) ∙ ap (λ o. codes_so_far o (lines ++ line ∷ [])) (sym whites);
      last = places ∙ ap changes_of (sym (last-more (white_line new.width) lines line));
    }

pub line_added : (old new : AddedSoFar) (lines : List (List Bool)) (line : List Bool) → HasAdded old lines → new.width ≡ old.width → length line ≡ old.width → new.above ≡ changes_of line
    → ((row over : List Bool) → Shows new.above old.width row → Shows old.above old.width over → new.bits ≡ old.bits ++ row_code over row) → HasAdded new (lines ++ line ∷ [])
line_added old new lines line has same long places put =
    let white = white_line old.width in
    let over = last_line white lines in
    let above = shows_row over old.above old.width (last_long old.width white lines (length-replicate old.width _) has.wide) has.last in
    line_copied old new lines line has same long places (put line over (shows_row line new.above old.width long places) above)

pub runs_shown : (runs places : List ℕ) (width : ℕ) → sum runs ≡ width → places ≡ changes_of (painted_runs false runs) → Shows places width (painted_runs false runs)
runs_shown runs places width total is = shows_row (painted_runs false runs) places width (length-painted false runs ∙ total) is

-- runs of a row fill its width
pub runs_total : {E : Type 0} (r : Result (List ℕ) E) (width : ℕ) (row : List Bool) → length row ≡ width → IfOk r (λ runs. IsRuns runs row) → IfOk r (λ runs. sum runs ≡ width)
runs_total (Ok runs) width row long are = sym (length-painted false runs) ∙ sym (ap length are.paints) ∙ long
runs_total (Err e) width row long are = are

pub still_writer : (width new_width : ℕ) (places above : List ℕ) (line : List Bool) → width ≤ MAX_WIDTH → new_width ≡ width → above ≡ places → Shows places width line → IsWriter new_width above
still_writer width new_width places above line wide same is shows = record {
  wide = subst (λ (w : ℕ). w ≤ MAX_WIDTH) (sym same) wide;
  rises = subst (λ (w : ℕ). Rises above w) (sym same) (subst (λ (ps : List ℕ). Rises ps width) (sym is) shows.rises);
}

pub codes_end : (above : List Bool) (lines : List (List Bool)) → codes_so_far above lines ++ end_of_block ≡ lines_code above lines
codes_end above [] = refl
codes_end above (line ∷ lines) =
    append_assoc (row_code above line) (codes_so_far line lines) end_of_block ∙ ap (λ bs. row_code above line ++ bs) (codes_end line lines)

pub strip_ended : (p : Image) (writer : AddedSoFar) (bytes : List ℕ) → p.width ≡ writer.width → HasAdded writer p.rows → bytes ≡ packed_row (writer.bits ++ end_of_block) → bytes ≡ bits_strip p
strip_ended p writer bytes same has is =
    is ∙ ap (λ bs. packed_row (bs ++ end_of_block)) (has.coded ∙ ap (λ w. codes_so_far (white_line w) p.rows) (sym same))
    ∙ ap packed_row (codes_end (white_line p.width) p.rows)

-- ---- a line takes a bit at least

pass_long : length (code mode_codes 0) ≡ 4
unfolding mode_codes
pass_long = refl

horizontal_long : length (code mode_codes 1) ≡ 3
unfolding mode_codes
horizontal_long = refl

vertical_long : (n : ℕ) → n ≤ 6 → 0 < length (code mode_codes (get_or vertical_rows n 0))
unfolding mode_codes
vertical_long zero h = omega arith
vertical_long (suc zero) h = omega arith
vertical_long (suc (suc zero)) h = omega arith
vertical_long (suc (suc (suc zero))) h = omega arith
vertical_long (suc (suc (suc (suc zero)))) h = omega arith
vertical_long (suc (suc (suc (suc (suc zero))))) h = omega arith
vertical_long (suc (suc (suc (suc (suc (suc zero)))))) h = omega arith
vertical_long (suc (suc (suc (suc (suc (suc (suc n))))))) h = absurd (omega arith)

mode_long : (black : Bool) (mode : Mode) → IsMode mode → 0 < length (mode_bits black mode)
mode_long black Pass is = omega (arith, pass_long)
mode_long black (Horizontal first second) is =
    omega (arith, horizontal_long, length-append (code mode_codes 1) (run_bits black first ++ run_bits (not black) second))
mode_long black (Vertical n) is = vertical_long n is

modes_long : (above : List Bool) (modes : List Mode) → AllMove above start modes → (end_of_modes above start modes).right ≡ length above + 1 → 0 < length (codes_of above start modes)
modes_long above [] move end = absurd (omega (arith, end))
modes_long above (mode ∷ modes) move end =
    omega (arith, mode_long start.black mode move.0.coded, length-append (mode_bits start.black mode) (codes_of above (place_after above start mode) modes))

row_takes : (above bits line rest : List Bool) → RowReads above bits line rest → length rest < length bits
row_takes above bits line rest reads =
    omega (arith, ap length reads.codes, length-append (codes_of above start reads.modes) rest, modes_long above reads.modes reads.move reads.end)

pub bit_more : (bits over line : List Bool) (places : List ℕ) (at next width : ℕ) → RowIsRead over bits at next width places → next ≤ length bits → at < next
bit_more bits over line places at next width read within =
    omega (arith, row_takes over (drop at bits) read.row (drop next bits) read.reads, length-drop at bits, length-drop next bits)

-- ---- read

pub none_read : (reader : ReadSoFar) (bits : List Bool) (width : ℕ) → reader ≡ unread bits width → HasRead reader []
none_read reader bits width is = subst (λ (r : ReadSoFar). HasRead r []) (sym is) (record {
  count = refl;
  wide = λ i h. absurd (omega arith);
  read = refl;
  last = shows_white width;
})

pub line_shown : (old new : ReadSoFar) (lines : List (List Bool)) → HasRead old lines → new.bits ≡ old.bits → new.width ≡ old.width → new.row ≡ old.row + 1
    → ((over : List Bool) → Shows old.above old.width over → RowIsRead over old.bits old.at new.at old.width new.above) → ReadsLine lines new
line_shown old new lines has same_bits same_width one_more read =
    let white = white_line old.width in
    let over = last_line white lines in
    let one = read over has.last in let line = one.row in
    let whites : white_line new.width ≡ white = ap white_line same_width in
    let more = lines_more white old.bits lines (drop old.at old.bits) line (drop new.at old.bits) has.read one.reads in
    record {
      line = line;
      shows = subst (λ (w : ℕ). Shows new.above w line) (sym same_width) one.shows;
      so = record {
        count = length_push lines line ∙ omega (arith, has.count, one_more);
        wide = subst (λ (w : ℕ). HaveWidth w (lines ++ line ∷ [])) (sym same_width) (wide_more old.width lines line has.wide one.shows.long);
        read = subst (λ (w : ℕ). LinesTo (white_line w) new.bits (lines ++ line ∷ []) (drop new.at new.bits)) (sym same_width)
            (subst (λ (bs : List Bool). LinesTo white bs (lines ++ line ∷ []) (drop new.at bs)) (sym same_bits) more);
        last = subst (λ (w : ℕ). Shows new.above w (last_line (white_line w) (lines ++ line ∷ []))) (sym same_width)
            (subst (λ (l : List Bool). Shows new.above old.width l) (sym (last-more white lines line)) one.shows);
      };
    }

pub line_read : (old new : ReadSoFar) (lines : List (List Bool)) (runs : List ℕ) → HasRead old lines → new.bits ≡ old.bits → new.width ≡ old.width → new.row ≡ old.row + 1
    → ((over : List Bool) → Shows old.above old.width over → RowIsRead over old.bits old.at new.at old.width new.above) → ((row : List Bool) → Shows new.above old.width row → IsRuns runs row) → ReadsNextRow lines new runs
line_read old new lines runs has same_bits same_width one_more read are =
    let one = line_shown old new lines has same_bits same_width one_more read in
    record { line = one.line; are = are one.line (subst (λ (w : ℕ). Shows new.above w one.line) same_width one.shows); so = one.so }

-- the rule of the next line
pub line_stops : (old : ReadSoFar) (lines : List (List Bool)) (stop : Stop) (refusal : Refusal) → HasRead old lines → old.at ≤ length old.bits
    → ((over : List Bool) → Shows old.above old.width over → IfFault (RowStops over old.bits old.at) stop) → refusal ≡ refusal_for stop old.row → IfRule (SaysFault old.bits old.width (old.row + 1) 0) refusal
line_stops old lines (answers.Fault f) refusal has within stops is =
    let bits = old.bits in let width = old.width in let at = old.at in
    let row = stops (last_line (white_line width) lines) has.last in
    let fault = lines_fault (white_line width) bits lines (drop at bits) (old.row + 1) f.kind (f.bit - at) has.read (omega (arith, has.count)) row.fault in
    let bit : length bits - length (drop at bits) + (f.bit - at) ≡ f.bit = omega (arith, length-drop at bits, row.since) in
    subst (IfRule (SaysFault bits width (old.row + 1) 0)) (sym is) (record {
      kind = f.kind;
      row = old.row;
      at = f.bit;
      fault = subst (λ (n : ℕ). StripFault bits width (old.row + 1) f.kind n f.bit) has.count (subst (λ (n : ℕ). StripFault bits width (old.row + 1) f.kind (length lines) n) bit fault);
      says = (let zero_more : old.row ≡ 0 + old.row = omega arith in ap (λ n. fault_rule f.kind n f.bit) zero_more);
    })
line_stops old lines answers.OutOfMemory refusal has within stops is = subst (IfRule (SaysFault old.bits old.width (old.row + 1) 0)) (sym is) tt

-- ---- over the strip of a page

pub front_read : (above bits : List Bool) (lines : List (List Bool)) (n : ℕ) → LinesRead above bits lines → LinesRead above bits (take n lines)
front_read above bits lines zero reads = tt
front_read above bits [] (suc n) reads = tt
front_read above bits (line ∷ lines) (suc n) reads = (reads.0, reads.1, front_read line reads.0 lines n reads.2)

-- a fault stands in more lines too
pub fault_more : {above bits : List Bool} {left : ℕ} {kind : RuleKind} {row at : ℕ} → LinesFault above bits left kind row at → (more : ℕ) → left ≤ more → LinesFault above bits more kind row at
fault_more (here above bits left kind at some fault) more h = here above bits more kind at (omega arith) fault
fault_more (later above line bits rest left kind row at reads fault) more h =
    let same : more - 1 + 1 ≡ more = omega arith in
    subst (λ (n : ℕ). LinesFault above bits n kind (row + 1) (length bits - length rest + at)) same
    (later above line bits rest (more - 1) kind row at reads (fault_more fault (more - 1) (omega arith)))

pub page_begins : (p : Image) (reader : ReadSoFar) → reader ≡ unread (bits_of High (bits_strip p)) p.width → ReadsPage p 0 reader
page_begins p reader is = record {
  bits = ap (λ (r : ReadSoFar). r.bits) is;
  width = ap (λ (r : ReadSoFar). r.width) is;
  fault = ap (λ (r : ReadSoFar). r.fault) is;
  read = none_read reader (bits_of High (bits_strip p)) p.width is;
}

-- the line that was read is the page's
same_line : (p : Image) (count : ℕ) (old new : ReadSoFar) (line : List Bool) → ((lines : List (List Bool)) → StripReads (bits_of High (bits_strip p)) p.width (count + 1) lines → lines ≡ take (count + 1) p.rows) → IsPage p → count < p.height → ReadsPage p count old
    → new.bits ≡ old.bits → new.width ≡ old.width → new.fault ≡ None → HasRead new (take count p.rows ++ line ∷ []) → (line ≡ row_of p count) × ReadsPage p (count + 1) new
same_line p count old new line only page less reads same_bits same_width none so =
    let bits = bits_of High (bits_strip p) in
    let bits_are : new.bits ≡ bits = same_bits ∙ reads.bits in
    let width_is : new.width ≡ p.width = same_width ∙ reads.width in
    let lines = take count p.rows ++ line ∷ [] in
    let within : count < length p.rows = omega (arith, page.grid.down) in
    let read = lines_to-read (white_line new.width) new.bits lines (drop new.at new.bits) so.read in
    let strip : StripReads bits p.width (count + 1) lines = record {
      count = length_push (take count p.rows) line ∙ omega (arith, length-take count p.rows);
      read = subst (λ (w : ℕ). LinesRead (white_line w) bits lines) width_is (subst (λ (bs : List Bool). LinesRead (white_line new.width) bs lines) bits_are read);
    } in
    let all : lines ≡ take (count + 1) p.rows = only lines strip in
    let same = append_cancel_left (take count p.rows) (line ∷ []) (row_of p count ∷ []) (all ∙ take_more p.rows count [] within) in (
      ap (λ ls. get_or ls 0 []) same,
      record { bits = bits_are; width = width_is; fault = none; read = subst (HasRead new) all so },
    )

pub page_line : (p : Image) (count : ℕ) (old new : ReadSoFar) → ((lines : List (List Bool)) → StripReads (bits_of High (bits_strip p)) p.width (count + 1) lines → lines ≡ take (count + 1) p.rows) → IsPage p → count < p.height → ReadsPage p count old
    → new.bits ≡ old.bits → new.width ≡ old.width → new.fault ≡ None → ReadsLine (take count p.rows) new → Shows new.above new.width (row_of p count) × ReadsPage p (count + 1) new
page_line p count old new only page less reads same_bits same_width none next =
    let both = same_line p count old new next.line only page less reads same_bits same_width none next.so in
    (subst (Shows new.above new.width) both.0 next.shows, both.1)

pub page_next : (p : Image) (count : ℕ) (old new : ReadSoFar) (runs : List ℕ) → ((lines : List (List Bool)) → StripReads (bits_of High (bits_strip p)) p.width (count + 1) lines → lines ≡ take (count + 1) p.rows) → IsPage p → count < p.height → ReadsPage p count old
    → new.bits ≡ old.bits → new.width ≡ old.width → new.fault ≡ None → ReadsNextRow (take count p.rows) new runs → IsRuns runs (row_of p count) × ReadsPage p (count + 1) new
page_next p count old new runs only page less reads same_bits same_width none next =
    let both = same_line p count old new next.line only page less reads same_bits same_width none next.so in
    (subst (IsRuns runs) both.0 next.are, both.1)

pub only_front : (p : Image) (count : ℕ) → IsPage p → count < p.height → StripReads (bits_of High (bits_strip p)) p.width p.height p.rows → StripReads (bits_of High (bits_strip p)) p.width (count + 1) (take (count + 1) p.rows)
only_front p count page less reads = record {
  count = (let down = page.grid.down in omega (arith, length-take (count + 1) p.rows));
  read = front_read (white_line p.width) (bits_of High (bits_strip p)) p.rows (count + 1) reads.read;
}

pub page_fault : (p : Image) (count : ℕ) (reader : ReadSoFar) (rule : BrokenRule) → IsPage p → count < p.height → ReadsPage p count reader → (says : SaysFault reader.bits reader.width (reader.row + 1) 0 rule) → StripFault (bits_of High (bits_strip p)) p.width p.height says.kind says.row says.at
page_fault p count reader rule page less reads says =
    let row : reader.row ≡ count = sym reads.read.count ∙ (let down = page.grid.down in omega (arith, length-take count p.rows)) in
    subst (λ (w : ℕ). StripFault (bits_of High (bits_strip p)) w p.height says.kind says.row says.at) reads.width
    (subst (λ (bs : List Bool). StripFault bs reader.width p.height says.kind says.row says.at) reads.bits
    (fault_more says.fault p.height (omega (arith, row))))
