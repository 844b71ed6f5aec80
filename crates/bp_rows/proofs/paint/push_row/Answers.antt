use Rattle.std.proofs.Common.{ℕ, List, ◌≡◌, ◌+◌, ◌*◌, ◌/◌, ◌++◌, take, OnOk, length, subst, ap, ◌∙◌, arith}
use Rattle.std.proofs.lemmas.List.{length-replicate}
use Rattle.bp_rows.proofs.ClearingLemmas.{written_back}
use Rattle.bp_rows.proofs.PaintLemmas.{packed_of, added}
use Rattle.bp_rows.proofs.paint.push_row.Goals as goal

pub returns-clause-added : goal.returns-clause-added
returns-clause-added c = λ line shows.
    let row = c.paint_row.new.row in
    let white = c.deref_mut.ensures.value ∙ c.in_ok-extend_from_slice.ensures.items ∙ ap (λ (bs : List ℕ). bs ++ c.white_words.result.now) c.clear.ensures.items ∙ c.white_words.ensures in
    let size : length row ≡ 8 * (c.args.width / 64 + 1) = c.paint_row.ensures.long ∙ ap length white ∙ length-replicate (8 * (c.args.width / 64 + 1)) 0 in
    let lent : c.deref.result.now ≡ row = c.deref.ensures.value ∙ written_back _ row _ (c.paint_row.ensures.long ∙ c.deref_mut.ensures.len) in
    subst (λ (bs : List ℕ). OnOk c.extend_from_slice-2.result (c.extend_from_slice-2.new.self.items ≡ c.args.strip.now.items ++ bs))
    (ap (take c.bytes_of_row.result) lent
    ∙ packed_of row c.args.places.now c.args.width c.bytes_of_row.result line c.bytes_of_row.ensures (omega (arith, size, c.bytes_of_row.ensures)) c.paint_row.ensures.fit shows
    (λ i. c.paint_row.ensures.pixels line i shows))
    (added c.extend_from_slice-2.result c.extend_from_slice-2.new.self.items c.args.strip.now.items (take c.bytes_of_row.result c.deref.result.now) c.extend_from_slice-2.ensures.items)
