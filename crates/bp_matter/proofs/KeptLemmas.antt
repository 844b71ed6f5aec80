-- Lemmas of kept strips: what is read and coded a row at a time is read and coded whole, and the page that is seen of a strip has it.
use Rattle.std.proofs.Common.{ℕ, ◌≡◌, ◌+◌, ◌<◌, ◌≤◌, Bool, false, true, List, [], ◌∷◌, ◌++◌, length, Option, Some, None, refl, sym, ap, subst, ◌∙◌, inl, inr, arith}
use Rattle.std.specs.Prelude.{IsTrue, is_some, unwrap_or}
use Rattle.std.specs.Str.{bytes_eq}
use Rattle.std.proofs.lemmas.Bool.{and_parts, cases_Bool, false≢true}
use Rattle.std.proofs.lemmas.List.{length_push}
use Rattle.bp_core.specs.declared.rules.Rule.{Rule as BrokenRule}
use Rattle.bp_core.specs.declared.rules.RuleKind.{RuleKind}
use Rattle.bp_codes.specs.declared.span.Fill.TheVariants.{High}
use Rattle.bp_codes.specs.Bits.{bits_of}
use Rattle.bp_rows.specs.Changes.{Shows}
use Rattle.bp_rows.specs.Image.{FitsRes, Image, IsGrid, IsPage}
use Rattle.bp_rows.specs.Limits.{sides_are_allowed}
use Rattle.bp_t6.specs.Canonical.{IsCanonicalStrip}
use Rattle.bp_t6.specs.Faults.{StripFault}
use Rattle.bp_t6.specs.Read.{StripReads, LinesRead}
use Rattle.bp_t6.specs.SoFar.{AddedSoFar, HasAdded, HasRead, ReadSoFar, ReadsLine, unread}
use Rattle.bp_t6.specs.Strips.{SaysFault, page_of_lines}
use Rattle.bp_t6.specs.Written.{bits_strip, white_line}
use Rattle.bp_t6.proofs.StripLemmas.{lines_to-read}
use Rattle.bp_matter.specs.declared.kept_page.Frame.{Frame}
use Rattle.bp_matter.specs.Images.{strip, is_grid, lines_of, in_frame, image_kept, IsKeptPage, IsReadFrom, CodesOf}
use Rattle.bp_matter.proofs.ImageLemmas.{StripLaw, its_strip, lines_again, lines_taken, no_lines, other_strip, page_lines, plain_page}

-- ---- read and coded again

-- what is known after so many rows: they were read from the bytes, and added
pub record CodingAgain (width : ℕ) (bytes : List ℕ) (row : ℕ) (reader : ReadSoFar)
    (writer : AddedSoFar) : Type 0 where
  pub lines : List (List Bool)
  pub count : length lines ≡ row
  pub bits : reader.bits ≡ bits_of High bytes
  pub wide : reader.width ≡ width
  pub fault : reader.fault ≡ None
  pub read : HasRead reader lines
  pub same : writer.width ≡ width
  pub added : HasAdded writer lines

-- no row yet
pub coding_none : (width : ℕ) (bytes : List ℕ) (reader : ReadSoFar) (writer : AddedSoFar)
    → reader ≡ unread (bits_of High bytes) width → HasRead reader [] → writer.width ≡ width → HasAdded writer []
    → CodingAgain width bytes 0 reader writer
coding_none width bytes reader writer is read wide added = record {
  lines = [];
  count = refl;
  bits = ap (λ r. r.bits) is;
  wide = ap (λ r. r.width) is;
  fault = ap (λ r. r.fault) is;
  read = read;
  same = wide;
  added = added;
}

-- a row more
pub coding_more : (width : ℕ) (bytes : List ℕ) (row : ℕ) (old new : ReadSoFar) (before after : AddedSoFar) → (so : CodingAgain width bytes row old before)
    → new.bits ≡ old.bits → new.width ≡ old.width → new.fault ≡ None → ReadsLine so.lines new → after.width ≡ before.width
    → ((lines : List (List Bool)) (line : List Bool) → HasAdded before lines → Shows new.above new.width line → HasAdded after (lines ++ line ∷ []))
    → CodingAgain width bytes (row + 1) new after
coding_more width bytes row old new before after so bits wide fault next same added = record {
  lines = so.lines ++ next.line ∷ [];
  count = length_push so.lines next.line ∙ ap (λ n. n + 1) so.count;
  bits = bits ∙ so.bits;
  wide = wide ∙ so.wide;
  fault = fault;
  read = next.so;
  same = same ∙ so.same;
  added = added so.lines next.line so.added next.shows;
}

-- lines that are read so far are lines of the strip
lines_are_read : (width height : ℕ) (bytes : List ℕ) (reader : ReadSoFar) (lines : List (List Bool)) → length lines ≡ height
    → reader.bits ≡ bits_of High bytes → reader.width ≡ width → HasRead reader lines → StripReads (bits_of High bytes) width height lines
lines_are_read width height bytes reader lines count bits wide read = record {
  count = count;
  read = subst (λ (w : ℕ). LinesRead (white_line w) (bits_of High bytes) lines) wide
      (subst (λ (bs : List Bool). LinesRead (white_line reader.width) bs lines) bits (lines_to-read (white_line reader.width) reader.bits lines _ read.read));
}

-- all rows
pub coding_all : (width height : ℕ) (bytes : List ℕ) (row : ℕ) (reader : ReadSoFar) (writer : AddedSoFar) (written : List ℕ) → CodingAgain width bytes row reader writer → row ≡ height
    → ((p : Image) → p.width ≡ writer.width → HasAdded writer p.rows → written ≡ bits_strip p)
    → CodesOf width height bytes written
coding_all width height bytes row reader writer written so all strip_is = record {
  lines = so.lines;
  grid = record { down = so.count ∙ all; across = λ r h. so.read.wide r (omega (arith, so.count, all)) ∙ so.wide };
  reads = lines_are_read width height bytes reader so.lines (so.count ∙ all) so.bits so.wide so.read;
  codes = strip_is (page_of_lines width height so.lines) (sym so.same) so.added;
}

-- where a row breaks a rule, no lines are read
pub coding_stops : (width height : ℕ) (bytes : List ℕ) (row : ℕ) (reader : ReadSoFar) (writer : AddedSoFar) (rule : BrokenRule) → (so : CodingAgain width bytes row reader writer) → row < height
    → SaysFault reader.bits reader.width (reader.row + 1) 0 rule
    → ((bits : List Bool) (width count height : ℕ) (kind : RuleKind) (row at : ℕ) → StripFault bits width count kind row at → count ≤ height → StripFault bits width height kind row at)
    → ((bits : List Bool) (width height : ℕ) (lines : List (List Bool)) (kind : RuleKind) (row at : ℕ) → StripReads bits width height lines → StripFault bits width height kind row at → ⊥)
    → (lines : List (List Bool)) → StripReads (bits_of High bytes) width height lines → ⊥
coding_stops width height bytes row reader writer rule so down says more none lines reads =
    let here : reader.row ≡ row = sym so.read.count ∙ so.count in
    let fault = more reader.bits reader.width (reader.row + 1) height says.kind says.row says.at says.fault (omega (arith, here)) in
    let moved : StripFault (bits_of High bytes) width height says.kind says.row says.at =
    subst (λ (w : ℕ). StripFault (bits_of High bytes) w height says.kind says.row says.at) so.wide
    (subst (λ (bs : List Bool). StripFault bs reader.width height says.kind says.row says.at) so.bits fault) in
    none (bits_of High bytes) width height lines says.kind says.row says.at reads moved

-- lines of a grid, at sides that a page may have, are a page
pub plain_is_page : (width height : ℕ) (lines : List (List Bool)) → IsTrue (sides_are_allowed width height) → IsGrid width height lines → IsPage (page_of_lines width height lines)
plain_is_page width height lines sides grid = record {
  sides = sides;
  xres = record { num = omega arith; den = omega arith };
  yres = record { num = omega arith; den = omega arith };
  grid = grid;
}

-- bytes are the strip of a page exactly where the lines that are read from them have it again
pub checked : StripLaw → (width height : ℕ) (bytes written seen : List ℕ) → IsTrue (sides_are_allowed width height) → CodesOf width height bytes written → written ≡ seen
    → bytes_eq seen bytes ≡ is_some (lines_of width height bytes)
checked law width height bytes written seen sides so same =
    let p = page_of_lines width height so.lines in
    elim (cases_Bool (bytes_eq seen bytes)) [
      | inl is ↦ is ∙ sym (ap is_some (its_strip law width height bytes written p (plain_is_page width height so.lines sides so.grid) refl so.codes same is))
      | inr isnt ↦ isnt ∙ sym (ap is_some (other_strip law width height bytes written p refl so.reads so.codes same isnt))
    ]

-- a strip that is told as it is read
pub canonical_found : StripLaw → (width height : ℕ) (bytes : List ℕ) → IsTrue (sides_are_allowed width height) → IsCanonicalStrip width height bytes → is_some (lines_of width height bytes) ≡ true
unfolding strip
canonical_found law width height bytes sides is =
    let p = page_of_lines width height is.lines in
    let page = plain_is_page width height is.lines sides is.grid in
    let found : lines_of width height (strip p) ≡ Some is.lines = lines_again law p (page_lines p page) in
    ap is_some (ap (lines_of width height) is.strip ∙ found)

-- sides that no page has
pub refused_sides : (width height : ℕ) (bytes : List ℕ) → sides_are_allowed width height ≡ false → lines_of width height bytes ≡ None
refused_sides width height bytes refused =
    no_lines width height bytes (λ lines has is. false≢true (sym refused ∙ (and_parts (sides_are_allowed width height) (is_grid width height lines) has).0))

-- ---- what is seen of a kept strip

-- the page whose strip was made
pub coded_is : StripLaw → (p : Image) (frame : Frame) (bytes : List ℕ) → IsPage p → in_frame frame p.rows ≡ p → bytes ≡ bits_strip p → image_kept frame bytes ≡ p
unfolding strip
coded_is law p frame bytes page framed is =
    let found : lines_of p.width p.height (strip p) ≡ Some p.rows = lines_again law p (page_lines p page) in
    let wide : frame.width ≡ p.width = ap (λ q. q.width) framed in
    let high : frame.height ≡ p.height = ap (λ q. q.height) framed in
    let own : lines_of frame.width frame.height bytes ≡ Some p.rows =
    ap (λ w. lines_of w frame.height bytes) wide ∙ ap (λ h. lines_of p.width h bytes) high ∙ ap (lines_of p.width p.height) is ∙ found in
    ap (λ o. in_frame frame (unwrap_or o [])) own ∙ framed

pub coded_is_kept : StripLaw → (p : Image) (frame : Frame) (bytes : List ℕ) → IsPage p → in_frame frame p.rows ≡ p → bytes ≡ bits_strip p → IsKeptPage (image_kept frame bytes) bytes
coded_is_kept law p frame bytes page framed is =
    let same = coded_is law p frame bytes page framed is in
    record { page = subst IsPage (sym same) page; strip = is ∙ ap bits_strip (sym same) }

-- a frame that has what a page has beside its rows
pub framed : (p : Image) (frame : Frame) → frame.width ≡ p.width → frame.height ≡ p.height → frame.xres ≡ p.xres → frame.yres ≡ p.yres → frame.unit ≡ p.unit → in_frame frame p.rows ≡ p
framed p frame wide high across down unit =
    let start = in_frame frame p.rows in
    ap (λ w. record start { width = w }) wide
    ∙ ap (λ h. record start { width = p.width; height = h }) high
    ∙ ap (λ x. record start { width = p.width; height = p.height; xres = x }) across
    ∙ ap (λ y. record start { width = p.width; height = p.height; xres = p.xres; yres = y }) down
    ∙ ap (λ u. record start { width = p.width; height = p.height; xres = p.xres; yres = p.yres; unit = u }) unit

there : {A : Type 0} (o : Option A) (d : A) → is_some o ≡ true → o ≡ Some (unwrap_or o d)
there None d is = absurd cc
there (Some x) d is = refl

-- bytes for which lines are found are kept
pub taken_is_kept : (frame : Frame) (bytes : List ℕ) → FitsRes frame.xres → FitsRes frame.yres → is_some (lines_of frame.width frame.height bytes) ≡ true → IsKeptPage (image_kept frame bytes) bytes
unfolding strip
taken_is_kept frame bytes across down is =
    let lines = unwrap_or (lines_of frame.width frame.height bytes) [] in
    let taken = lines_taken frame.width frame.height bytes lines (there (lines_of frame.width frame.height bytes) [] is) in
    let plain = plain_page frame.width frame.height lines taken.0 in
    record { page = record { sides = plain.sides; xres = across; yres = down; grid = plain.grid }; strip = taken.1 }

-- lines that were read from a strip and coded again are a page in the frame
anew_page : (frame : Frame) (bytes written : List ℕ) → IsTrue (sides_are_allowed frame.width frame.height) → FitsRes frame.xres → FitsRes frame.yres → (so : CodesOf frame.width frame.height bytes written)
    → IsPage (in_frame frame so.lines)
anew_page frame bytes written sides across down so = record { sides = sides; xres = across; yres = down; grid = so.grid }

-- what was written of them is kept
pub anew_is_kept : StripLaw → (frame : Frame) (bytes written kept : List ℕ) → IsTrue (sides_are_allowed frame.width frame.height) → FitsRes frame.xres → FitsRes frame.yres → CodesOf frame.width frame.height bytes written → kept ≡ written
    → IsKeptPage (image_kept frame kept) kept
anew_is_kept law frame bytes written kept sides across down so same =
    coded_is_kept law (in_frame frame so.lines) frame kept (anew_page frame bytes written sides across down so) refl (same ∙ so.codes)

-- and seen as the page that was read
pub anew_is_read : StripLaw → (frame : Frame) (bytes written kept : List ℕ) → IsTrue (sides_are_allowed frame.width frame.height) → FitsRes frame.xres → FitsRes frame.yres → CodesOf frame.width frame.height bytes written → kept ≡ written
    → IsReadFrom frame bytes (image_kept frame kept)
anew_is_read law frame bytes written kept sides across down so same =
    let page = anew_page frame bytes written sides across down so in
    subst (IsReadFrom frame bytes) (sym (coded_is law (in_frame frame so.lines) frame kept page refl (same ∙ so.codes)))
    (record { page = page; framed = refl; reads = so.reads })
