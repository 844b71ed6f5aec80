use Rattle.std.proofs.Common.{◌≡◌, ◌*◌, ◌≤◌, ◌++◌, List, ℕ, length, take, Result, Ok, Err, OnOk, ap, subst, ◌∙◌, true, false}
use Rattle.bp_core.specs.declared.refusals.Refusal.{Refusal}
use Rattle.bp_codes.specs.Bits.{bits_of}
use Rattle.bp_rows.specs.Bits.{row_bytes}
use Rattle.bp_tiff.specs.declared.layout.Layout.{Layout}
use Rattle.bp_tiff.specs.Read.{strip_bytes, strip_rows}
use Rattle.bp_t6.specs.Strips.{AppendsLines}
use Rattle.bp_tiff.specs.Appending.{AppendsStrip}
use Rattle.bp_tiff.proofs.InTurnLemmas.{packed_adds, coded_adds}
use Rattle.bp_tiff.proofs.strips.put_strip.Goals as goal

on_ok_coded : (r : Result (Unit {0}) Refusal) (bytes : List ℕ) (l : Layout) (k n : ℕ) (strip old new : List ℕ) → l.coding.is_t6 ≡ true → strip ≡ strip_bytes bytes l k → n ≡ strip_rows l k
    → OnOk r (AppendsLines (bits_of l.coding.fill strip) l.sides.width n old new) → OnOk r (AppendsStrip bytes l k old new)
on_ok_coded (Ok u) bytes l k n strip old new coded s e a =
    let P : List ℕ → Type 0 = λ x. AppendsLines (bits_of l.coding.fill x) l.sides.width (strip_rows l k) old new in
    let Q : ℕ → Type 0 = λ m. AppendsLines (bits_of l.coding.fill strip) l.sides.width m old new in
    coded_adds bytes l k old new coded (subst P s (subst Q e a))
on_ok_coded (Err x) bytes l k n strip old new coded s e a = tt

on_ok_packed : (r : Result (Unit {0}) Refusal) (bytes : List ℕ) (l : Layout) (k n : ℕ) (strip old new : List ℕ) → l.coding.is_t6 ≡ false → strip ≡ strip_bytes bytes l k → n ≡ strip_rows l k
    → OnOk r (n * row_bytes l.sides.width ≤ length strip) → OnOk r (new ≡ old ++ take (n * row_bytes l.sides.width) strip) → OnOk r (AppendsStrip bytes l k old new)
on_ok_packed (Ok u) bytes l k n strip old new plain s e enough a =
    let w = l.sides.width in
    let P : List ℕ → Type 0 = λ x. strip_rows l k * row_bytes w ≤ length x in
    let Q : ℕ → Type 0 = λ m. m * row_bytes w ≤ length strip in
    packed_adds bytes l k old new plain (subst P s (subst Q e enough)) (a ∙ ap (λ m. old ++ take (m * row_bytes w) strip) e ∙ ap (λ x. old ++ take (strip_rows l k * row_bytes w) x) s)
on_ok_packed (Err x) bytes l k n strip old new plain s e enough a = tt

pub returns-then-layout-clause-found : goal.returns-then-layout-clause-found
returns-then-layout-clause-found c =
    on_ok_coded c.read_rows.result c.args.bytes.now c.args.layout.now c.args.k c.rows_at-rows.result c.strip_at-strip.result.now c.args.out.now.items c.read_rows.new.out.items
    c.if-layout.true c.strip_at-strip.ensures.gives c.rows_at-rows.ensures c.read_rows.ensures.read

pub returns-else-layout-clause-found : goal.returns-else-layout-clause-found
returns-else-layout-clause-found c =
    on_ok_packed c.put_packed.result c.args.bytes.now c.args.layout.now c.args.k c.rows_at-rows.result c.strip_at-strip.result.now c.args.out.now.items c.put_packed.new.out.items
    c.if-layout.false c.strip_at-strip.ensures.gives c.rows_at-rows.ensures c.put_packed.ensures.long c.put_packed.ensures.found
