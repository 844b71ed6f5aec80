-- Lemmas of rectangles: two of them share a pixel exactly where their columns meet and their rows do.
use Rattle.std.proofs.Common.{◌≡◌, ◌↔◌, ◌+◌, ◌<◌, ◌≤◌, ℕ, Bool, true, false, ◌&&◌, IsTrue, max, min, sym, ◌∙◌, arith}
use Rattle.std.proofs.lemmas.Bool.Decides.{nat_tests}
use Rattle.bp_core.specs.declared.rectangle.Rect.{Rect}
use Rattle.bp_core.specs.Rectangle.{Touches, spans_meet, touches}

-- the first place of both spans
meeting : (a n b m : ℕ) → spans_meet a n b m ≡ true → (max a b < a + n) × (max a b < b + m) × (a ≤ max a b) × (b ≤ max a b)
meeting a n b m e = let h : max a b < min (a + n) (b + m) = grind (arith, nat_tests) in (omega arith, omega arith, omega arith, omega arith)

meets : (a n b m at : ℕ) → a ≤ at → at < a + n → b ≤ at → at < b + m → spans_meet a n b m ≡ true
meets a n b m at l r l' r' = let h : max a b < min (a + n) (b + m) = omega arith in grind (arith, nat_tests)

both : (p q : Bool) → (p && q) ≡ true → (p ≡ true) × (q ≡ true)
both true q e = (grind arith, e)
both false q e = absurd (grind arith)

touching : (r s : Rect) → touches r s ≡ true → Touches r s
touching r s e =
    let parts = both (spans_meet r.left r.width s.left s.width) (spans_meet r.top r.height s.top s.height) e in
    let across = meeting r.left r.width s.left s.width parts.0 in
    let down = meeting r.top r.height s.top s.height parts.1 in
    record {
      row = max r.top s.top;
      col = max r.left s.left;
      in_one = record { below_top = down.2; above_bottom = down.0; from_left = across.2; to_right = across.0 };
      in_other = record { below_top = down.3; above_bottom = down.1; from_left = across.3; to_right = across.1 };
    }

touched : (r s : Rect) → Touches r s → touches r s ≡ true
touched r s t =
    let p = t.in_one in
    let q = t.in_other in
    let across = meets r.left r.width s.left s.width t.col p.from_left p.to_right q.from_left q.to_right in
    let down = meets r.top r.height s.top s.height t.row p.below_top p.above_bottom q.below_top q.above_bottom in
    cc

-- the test is the fact
pub touches-fact : (r s : Rect) (b : Bool) → b ≡ touches r s → IsTrue b ↔ Touches r s
touches-fact r s b e = (λ yes. touching r s (sym e ∙ yes), λ t. e ∙ touched r s t)
