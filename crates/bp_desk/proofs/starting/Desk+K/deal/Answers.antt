use Rattle.std.proofs.Common.{rules, arith, ◌≡◌, ◌<◌, ◌+◌, ◌-◌, length, refl, sym, ap, ◌∙◌}
use Rattle.std.specs.Prelude.{vec_len}
use Rattle.std.proofs.lemmas.List.FromFn.{length-map-range_with_len}
use Rattle.bp_desk.specs.Seats.{fresh, fresh_with}
use Rattle.bp_desk.specs.Turns.{dealt}
use Rattle.bp_desk.proofs.DealLemmas.{deals}
use Rattle.bp_desk.proofs.StartLemmas.{dealt_next, others_more}
use Rattle.bp_desk.proofs.starting.Desk+K.deal.Goals as goal

pub split_seat-place-requires : goal.split_seat-place-requires
split_seat-place-requires g c =
    let i = c.loop-dealt.invariant in
    let v = (fresh c.args.self.now 1 c.loop-dealt.dealt).view in
    let more : c.loop-dealt.dealt < c.self.inside.table.shared.key.seats =
    (let a : c.loop-dealt.dealt < c.self.inside.seats = search rules in
    let b = c.self.invariant.seated in omega arith)
    in (
      i.2 ∙ sym (ap (λ d. d.id) c.self.view_is),
      (let w = c.self.invariant.words in omega arith),
      dealt_next c.self.inside.table.shared.key c.loop-dealt.first.id c.loop-dealt.first.me v i.3
          (deals c.self.inside.table.shared.key c.loop-dealt.first.id v (omega arith) more refl),
    )

pub push_reserved-requires : goal.push_reserved-requires
push_reserved-requires g c =
    let i = c.loop-dealt.invariant in
    let a : c.loop-dealt.dealt < c.self.inside.seats = search rules in
    let b = ap (λ d. d.seats) c.self.view_is in
    let n : length c.loop-dealt.row.items ≡ c.loop-dealt.dealt - 1 =
    ap length i.4
    ∙ length-map-range_with_len (fresh_with c.args.self.now) 2 (c.loop-dealt.dealt - 1) in
    let l : vec_len c.loop-dealt.row ≡ length c.loop-dealt.row.items = search rules in
    omega arith

pub push_reserved-requires-2 : goal.push_reserved-requires-2
push_reserved-requires-2 g c =
    let i = c.loop-dealt.invariant in
    let n : length c.loop-dealt.row.items ≡ c.loop-dealt.dealt - 1 =
    ap length i.4
    ∙ length-map-range_with_len (fresh_with c.args.self.now) 2 (c.loop-dealt.dealt - 1) in
    let l : vec_len c.loop-dealt.row ≡ length c.loop-dealt.row.items = search rules in
    omega arith

pub loop-dealt-preserved : goal.loop-dealt-preserved
loop-dealt-preserved g c =
    let i = c.loop-dealt.invariant in
    let a : c.loop-dealt.dealt < c.self.inside.seats = search rules in
    let b = ap (λ d. d.seats) c.self.view_is in
    let e = c.split_seat-place.ensures in
    let w = (fresh c.args.self.now 1 (c.loop-dealt.dealt + 1)).view in (
      omega arith,
      omega arith,
      e.0 ∙ i.2,
      e.2 ∙ ap (λ m. (record (m.0) { given = m.0.given + 1 }, m.1)) i.3,
      c.push_reserved.ensures.items
          ∙ others_more c.args.self.now c.loop-dealt.dealt c.loop-dealt.row.items _ i.0 i.4
          (λ j.
          record {
            desk = (e.3 ∙ i.2) j;
            view = ((ap (λ m. m.0) e.4) ∙ ap (λ m. dealt (m.0)) i.3) j;
          }),
      (let k = c.push_reserved.ensures.capacity in omega arith),
    )
