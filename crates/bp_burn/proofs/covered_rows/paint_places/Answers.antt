use Rattle.std.proofs.Common.{◌≡◌, ◌<◌, ◌+◌, ◌∷◌, [], ℕ, List, Bool, length, sum, false, refl, sym, ap, ◌∙◌, subst, arith}
use Rattle.std.proofs.lemmas.List.{get_or_past, length-replicate}
use Rattle.bp_rows.specs.Burned.{burned, row_part}
use Rattle.bp_rows.specs.Changes.{Rises, Shows, place_at}
use Rattle.bp_rows.specs.Image.{Image, row_of}
use Rattle.bp_rows.proofs.BurnedLemmas.{burned_is_grid}
use Rattle.bp_rows.proofs.ShownLemmas.{odd_two, up}
use Rattle.bp_burn.proofs.OutLemmas.{IsFront, front_all, front_more, front_none, white_row}
use Rattle.bp_burn.proofs.covered_rows.paint_places.Goals as goal

pub set_runs-requires-clause-total : goal.set_runs-requires-clause-total
set_runs-requires-clause-total c =
    let all : sum c.args.white.now ≡ 0 + c.args.page.now.width = ap (λ (runs : List ℕ). sum runs) c.requires.white in
    omega (arith, all)

pub loop-k-init : goal.loop-k-init
loop-k-init c =
    let width = c.width-width.result in
    let some : 0 < length c.args.page.now.rows = omega (arith, c.width-width.ensures.page.grid.down, c.requires.down) in
    let blank = c.requires.white ∙ ap (λ w. w ∷ []) (sym c.width-width.ensures.value) in
    let row = white_row c.set_runs.new.self c.args.page.now c.args.white.now width some c.set_runs.ensures blank in
    record {
      even = refl;
      wide = ap (λ (i : Image). i.width) c.set_runs.ensures;
      high = ap (λ (i : Image). i.height) c.set_runs.ensures;
      long = ap (λ (l : List Bool). length l) row ∙ length-replicate width false;
      front = λ line shows. front_none c.set_runs.new.self c.args.places.now width line shows row;
    }

pub blacken-requires-clause-down : goal.blacken-requires-clause-down
blacken-requires-clause-down c = omega (arith, c.loop-k.invariant.high, c.requires.down)

pub blacken-requires-clause-order : goal.blacken-requires-clause-order
blacken-requires-clause-order c =
    let rises = subst (λ (w : ℕ). Rises c.args.places.now w) (sym c.width-width.ensures.value) c.requires.rises in
    omega (arith, up c.args.places.now c.width-width.result c.loop-k.k rises, c.place_in-from.ensures, c.place_in-to.ensures)

pub blacken-requires-clause-across : goal.blacken-requires-clause-across
blacken-requires-clause-across c =
    let rises = subst (λ (w : ℕ). Rises c.args.places.now w) (sym c.width-width.ensures.value) c.requires.rises in
    omega (arith, rises.within (c.loop-k.k + 1), c.place_in-to.ensures, c.width-width.ensures.value, c.loop-k.invariant.wide)

pub loop-k-preserved : goal.loop-k-preserved
loop-k-preserved c =
    let inv = c.loop-k.invariant in
    let places = c.args.places.now in
    let width = c.width-width.result in
    let k = c.loop-k.k in
    let old = c.loop-k.page in
    let is : c.blacken.new.self ≡ burned old (row_part 0 (place_at places width k) (place_at places width (k + 1)) ∷ []) =
    c.blacken.ensures
    ∙ ap (λ from. burned old (row_part 0 from c.place_in-to.result ∷ [])) c.place_in-from.ensures
    ∙ ap (λ to. burned old (row_part 0 (place_at places width k) to ∷ [])) c.place_in-to.ensures in
    let wide : old.width ≡ width = inv.wide ∙ sym c.width-width.ensures.value in
    let high : 0 < old.height = omega (arith, inv.high, c.requires.down) in
    record {
      even = odd_two k ∙ inv.even;
      wide = ap (λ (i : Image). i.width) is ∙ inv.wide;
      high = ap (λ (i : Image). i.height) is ∙ inv.high;
      long = ap (λ (i : Image). length (row_of i 0)) is
          ∙ (burned_is_grid old (row_part 0 (place_at places width k) (place_at places width (k + 1)) ∷ [])).across 0 high ∙ wide;
      front = λ line shows.
          subst (λ (i : Image). IsFront i width (place_at places width (k + 2)) line) (sym is)
          (front_more old places width k line shows wide high (inv.front line shows) inv.even);
    }

pub returns-clause-row : goal.returns-clause-row
returns-clause-row c = λ line shows.
    let places = c.args.places.now in
    let width = c.width-width.result in
    let k = c.loop-k.k in
    let shown = subst (λ (w : ℕ). Shows places w line) (sym c.width-width.ensures.value) shows in
    front_all c.loop-k.page places width k line shown c.loop-k.invariant.long
    (get_or_past places k width (omega (arith, c.loop-k-test.false)))
    (c.loop-k.invariant.front line shown)
