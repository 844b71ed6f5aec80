-- Strips in turn: carries what one strip holds or breaks over to all of them.
use Rattle.std.proofs.Common.{ℕ, ◌≡◌, ◌+◌, ◌-◌, ◌*◌, ◌<◌, ◌≤◌, zero, suc, Bool, true, false, List, [], ◌++◌, length, take, refl, sym, ap, subst, ◌∙◌, arith, inl, inr, ⊎_elim, append_assoc, append-nil, length-append}
use Rattle.std.proofs.lemmas.Bool.{and_parts, cases_eq}
use Rattle.std.proofs.lemmas.List.{length-take-le}
use Rattle.bp_core.specs.Answers.{IfRule}
use Rattle.bp_core.specs.declared.refusals.Refusal.{Refusal}
use Rattle.bp_core.specs.declared.refusals.Refusal.TheVariants as refusals
use Rattle.bp_core.specs.declared.rules.Rule.{Rule}
use Rattle.bp_codes.specs.declared.span.Fill.TheVariants.{High}
use Rattle.bp_codes.specs.Bits.{bits_of}
use Rattle.bp_rows.specs.Bits.{row_bytes}
use Rattle.bp_rows.specs.Packed.{packed_rows}
use Rattle.bp_rows.proofs.PackedLemmas.{length-packed_rows}
use Rattle.bp_tiff.specs.declared.directory.Directory.{Directory}
use Rattle.bp_tiff.specs.declared.layout.Strips.{Strips}
use Rattle.bp_tiff.specs.declared.layout.Layout.{Layout}
use Rattle.bp_tiff.specs.Layout.{strips_due, is_inside, are_inside}
use Rattle.bp_tiff.specs.Layout.{IsLaid}
use Rattle.bp_tiff.specs.Pixels.{packed_values, value_inked, CodedHolds, PackedHolds}
use Rattle.bp_tiff.specs.Read.{Breaks, StripsHold, StripsBreak, strip_bytes, strip_rows}
use Rattle.bp_t6.specs.Strips.{AppendsLines}
use Rattle.bp_tiff.specs.Appending.{kept_fill, lines_in, AppendsStrip, rows_before, HasReadStrips, HoldsAll}
use Rattle.bp_tiff.proofs.JoinedLemmas.{values_of_front, values_joined, inked_joined, values_packed}

-- ---- how many

pub before_end : (h r k : ℕ) → 0 < r → k < strips_due h r → k * r < h
before_end h r k some within = grind arith

pub at_end : (h r : ℕ) → 0 < r → h ≤ strips_due h r * r
at_end h r some = grind arith

pub each_inside : (bytes : List ℕ) (d : Directory) (s : Strips) (n k j : ℕ) → are_inside bytes d s n k ≡ true → k ≤ j → j < k + n → is_inside bytes d s j ≡ true
each_inside bytes d s zero k j all low high = absurd (omega arith)
each_inside bytes d s (suc n) k j all low high =
    let parts = and_parts (is_inside bytes d s k) (are_inside bytes d s n (k + 1)) all in
    ⊎_elim
    (λ (same : j ≡ k). ap (is_inside bytes d s) same ∙ parts.0)
    (λ apart. each_inside bytes d s n (k + 1) j parts.1 (omega arith) (omega arith))
    (cases_eq j k)

-- ---- one strip

pub packed_adds : (bytes : List ℕ) (l : Layout) (k : ℕ) (old new : List ℕ) → l.coding.is_t6 ≡ false → strip_rows l k * row_bytes l.sides.width ≤ length (strip_bytes bytes l k)
    → new ≡ old ++ take (strip_rows l k * row_bytes l.sides.width) (strip_bytes bytes l k) → AppendsStrip bytes l k old new
packed_adds bytes l k old new plain enough joined =
    let w = l.sides.width in let n = strip_rows l k in let strip = strip_bytes bytes l k in let z = l.coding.zero_is_black in
    let more = take (n * row_bytes w) strip in
    let fill : kept_fill l.coding ≡ l.coding.fill = ap (λ (b : Bool). elim b [ true ↦ High | false ↦ l.coding.fill ]) plain in
    let lines : lines_in l n more ≡ value_inked z (packed_values l.coding.fill w n strip) =
    ap (λ f. value_inked z (packed_values f w n more)) fill ∙ ap (value_inked z) (values_of_front l.coding.fill w n strip) in
    let P : Bool → Type 0 = λ b. elim b [ true ↦ CodedHolds l.coding w n strip (lines_in l n more) | false ↦ PackedHolds l.coding w n strip (lines_in l n more) ] in
    record { more = more; joined = joined; long = length-take-le (n * row_bytes w) strip enough; holds = subst P (sym plain) (record { enough = enough; means = lines }) }

pub coded_adds : (bytes : List ℕ) (l : Layout) (k : ℕ) (old new : List ℕ) → l.coding.is_t6 ≡ true
    → AppendsLines (bits_of l.coding.fill (strip_bytes bytes l k)) l.sides.width (strip_rows l k) old new → AppendsStrip bytes l k old new
coded_adds bytes l k old new coded a =
    let w = l.sides.width in let n = strip_rows l k in let strip = strip_bytes bytes l k in let z = l.coding.zero_is_black in
    let more = packed_rows a.lines in
    let fill : kept_fill l.coding ≡ High = ap (λ (b : Bool). elim b [ true ↦ High | false ↦ l.coding.fill ]) coded in
    let lines : lines_in l n more ≡ value_inked z a.lines =
    ap (λ f. value_inked z (packed_values f w n more)) fill ∙ ap (value_inked z) (values_packed w n a.lines a.grid) in
    let P : Bool → Type 0 = λ b. elim b [ true ↦ CodedHolds l.coding w n strip (lines_in l n more) | false ↦ PackedHolds l.coding w n strip (lines_in l n more) ] in
    record { more = more; joined = a.packed; long = length-packed_rows w n a.lines a.grid; holds = subst P (sym coded) (record { values = a.lines; reads = a.reads; means = lines }) }

-- ---- one strip more

pub rows_more : (l : Layout) (k : ℕ) → k * l.strips.rows < l.sides.height → rows_before l (k + 1) ≡ rows_before l k + strip_rows l k
rows_more l k within =
    let r = l.strips.rows in
    let more : (k + 1) * r ≡ k * r + r = grind arith in
    omega arith

pub read_more : (bytes : List ℕ) (l : Layout) (k : ℕ) (old new : List ℕ) → k * l.strips.rows < l.sides.height → k < l.strips.count → HasReadStrips bytes l k old → AppendsStrip bytes l k old new → HasReadStrips bytes l (k + 1) new
read_more bytes l k old new within some before a =
    let n = l.strips.count in let w = l.sides.width in let z = l.coding.zero_is_black in let f = kept_fill l.coding in
    let s = row_bytes w in let m = rows_before l k in let r = strip_rows l k in
    let rows : rows_before l (k + 1) ≡ m + r = rows_more l k within in
    let left : n - k ≡ suc (n - (k + 1)) = omega arith in
    let sum : (m + r) * s ≡ m * s + r * s = grind arith in
    let lines : lines_in l (rows_before l (k + 1)) new ≡ lines_in l m old ++ lines_in l r a.more =
    ap (λ q. lines_in l q new) rows ∙ ap (lines_in l (m + r)) a.joined
    ∙ ap (value_inked z) (values_joined f w m r old a.more before.long) ∙ inked_joined z (packed_values f w m old) (packed_values f w r a.more) in
    record {
      long = ap length a.joined ∙ length-append old a.more ∙ omega (arith, before.long, a.long, sum, ap (λ q. q * s) rows);
      holds = λ rest held.
          let P : ℕ → Type 0 = λ q. StripsHold bytes l q k (lines_in l r a.more ++ rest) in
          let Q : List (List Bool) → Type 0 = λ ls. StripsHold bytes l n 0 ls in
          subst Q (sym (append_assoc (lines_in l m old) (lines_in l r a.more) rest) ∙ ap (λ ls. ls ++ rest) (sym lines))
          (before.holds (lines_in l r a.more ++ rest) (subst P (sym left) (record { these = lines_in l r a.more; rest = rest; one = a.holds; others = held; joined = refl })));
      breaks = λ rule broken.
          let P : ℕ → Type 0 = λ q. StripsBreak bytes l q k rule in
          before.breaks rule (subst P (sym left) (inr (record { these = lines_in l r a.more; one = a.holds; others = broken })));
    }

-- a rule that one strip breaks is the first of all strips, where those before it break none
pub breaks_here :
    (bytes : List ℕ) (l : Layout) (k : ℕ) (rule : Rule)
    → k < l.strips.count
    → (StripsBreak bytes l (l.strips.count - k) k rule → StripsBreak bytes l l.strips.count 0 rule)
    → Breaks bytes l k rule
    → StripsBreak bytes l l.strips.count 0 rule
breaks_here bytes l k rule some before broken =
    let n = l.strips.count in
    let left : n - k ≡ suc (n - (k + 1)) = omega arith in
    let P : ℕ → Type 0 = λ q. StripsBreak bytes l q k rule in
    before (subst P (sym left) (inl broken))

-- what follows of a rule follows of a refusal
pub refused_too :
    (P Q : Rule → Type 0) (refusal : Refusal)
    → ((rule : Rule) → P rule → Q rule)
    → IfRule P refusal
    → IfRule Q refusal
refused_too P Q (refusals.Rule rule) follows p = follows rule p
refused_too P Q refusals.OutOfMemory follows p = tt

-- ---- the last one was read

pub rows_all : (bytes : List ℕ) (l : Layout) (k : ℕ) → IsLaid bytes l → k ≡ l.strips.count → rows_before l k ≡ l.sides.height
rows_all bytes l k laid last =
    let all = at_end l.sides.height l.strips.rows laid.rows in
    let same : k * l.strips.rows ≡ strips_due l.sides.height l.strips.rows * l.strips.rows = ap (λ q. q * l.strips.rows) (last ∙ laid.count) in
    omega arith

pub all_held : (bytes : List ℕ) (l : Layout) (k : ℕ) (out : List ℕ) → IsLaid bytes l → k ≡ l.strips.count → HasReadStrips bytes l k out → StripsHold bytes l l.strips.count 0 (lines_in l l.sides.height out)
all_held bytes l k out laid last before =
    let none : l.strips.count - k ≡ 0 = omega arith in
    let P : ℕ → Type 0 = λ q. StripsHold bytes l q k [] in
    let Q : List (List Bool) → Type 0 = λ ls. StripsHold bytes l l.strips.count 0 ls in
    subst Q (append-nil (lines_in l (rows_before l k) out) ∙ ap (λ q. lines_in l q out) (rows_all bytes l k laid last))
    (before.holds [] (subst P (sym none) refl))

pub all_rows : (bytes : List ℕ) (l : Layout) (k : ℕ) (out : List ℕ) → IsLaid bytes l → k ≡ l.strips.count → HasReadStrips bytes l k out → HoldsAll bytes l out
all_rows bytes l k out laid last before = record {
  long = before.long ∙ ap (λ q. q * row_bytes l.sides.width) (rows_all bytes l k laid last);
  holds = all_held bytes l k out laid last before;
}
