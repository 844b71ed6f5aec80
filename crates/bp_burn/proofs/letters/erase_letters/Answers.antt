use Rattle.std.proofs.Common.{ℕ, ◌≡◌, ◌+◌, ap, sym, ◌∙◌, arith}
use Rattle.bp_burn.specs.Covered.{letters_in}
use Rattle.bp_burn.specs.Figures.{text_row}
use Rattle.bp_burn.specs.Ink.{erased}
use Rattle.bp_burn.proofs.ChangeLemmas.{all_parts_erased, no_part_erased, part_erased, part_kept}
use Rattle.bp_burn.proofs.InkLemmas.{before}
use Rattle.bp_burn.proofs.LetterLemmas.{from_top, letter_row, letters_within, no_letter_row}
use Rattle.bp_burn.proofs.letters.erase_letters.Goals as goal
use Rattle.bp_burn.proofs.letters.erase_letters.Goals.{in-Some, in_default}

pub loop-v-init : goal.loop-v-init
loop-v-init c =
    no_part_erased c.args.page.now (λ r col. from_top c.args.first c.inset-top.result r) (letters_in c.args.rows c.args.first c.args.stamp.now) c.requires.page.grid

pub loop-v-preserved : goal.loop-v-preserved
loop-v-preserved c =
    let p = c.args.page.now in
    let s = c.args.stamp.now in
    let rows = c.args.rows in
    let first = c.args.first in
    let text = c.as_bytes-text.result.now in
    let top = c.inset-top.result in
    let left = c.inset-left.result in
    let v = c.loop-v.v in
    let index : ℕ → ℕ → ℕ = λ r col. from_top first top r in
    let whole = letters_in rows first s in
    elim c.match-row_among.branch [
      | in-Some w ↦
          let row = w.in-Some.row in
          let figure = text_row text v row left in
          let there : first + row ≡ top + v = omega (arith, w.in-Some.ensures.found.0) in
          w.page-is ∙ w.erase_text_row.ensures ∙ ap (λ page. erased page figure) c.loop-v.invariant
          ∙ part_erased p index whole figure v
          (λ r col down across. letter_row s text rows first top left v row r col (c.as_bytes-text.ensures.value ∙ c.code.ensures) c.inset-top.ensures c.inset-left.ensures there w.in-Some.ensures.found.1)
      | in_default w ↦
          w.page-is ∙ c.loop-v.invariant
          ∙ part_kept p index whole v
          (λ r col down across. no_letter_row s rows first top v r col c.inset-top.ensures
          (λ within same. w.in_default.ensures.none r within (same ∙ ap (λ n. top + n) (sym c.from.ensures))))
    ]

pub returns : goal.returns
returns c =
    let p = c.args.page.now in
    let s = c.args.stamp.now in
    let rows = c.args.rows in
    let first = c.args.first in
    let top = c.inset-top.result in
    let index : ℕ → ℕ → ℕ = λ r col. from_top first top r in
    let whole = letters_in rows first s in
    let last : c.loop-v.v ≡ 21 = omega arith in
    c.loop-v.invariant ∙ ap (λ n. erased p (before index whole n)) last
    ∙ all_parts_erased p index whole 21 (λ r col down across is. letters_within s rows first top r col c.inset-top.ensures is)
