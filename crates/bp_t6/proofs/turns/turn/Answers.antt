use Rattle.std.proofs.Common.{arith, ℕ, ◌≡◌, ◌<◌, ◌+◌, ◌-◌, ◌++◌, List, [], ◌∷◌, length, get_or, sym, ap, ◌∙◌, subst, Some}
use Rattle.std.specs.Option.{option_to_list}
use Rattle.std.proofs.lemmas.List.{get_or_read}
use Rattle.bp_rows.specs.Changes.{Shows}
use Rattle.bp_t6.specs.Turns.{Turns}
use Rattle.bp_t6.proofs.TurnLemmas.{turn_shows, back_shows, turn_colour, turn_turns}
use Rattle.bp_t6.proofs.turns.turn.Goals as goal
use Rattle.bp_t6.proofs.turns.turn.Goals.{else-count-gt0-via-then-count-gt0+else-index-place, else-count-gt0-via-else-count-gt0}

pub returns-then-index-place-clause-shows : goal.returns-then-index-place-clause-shows
returns-then-index-place-clause-shows c = λ pixels shows.
    let ts = c.args.line.now.items in let d = c.index.result.now in
    let some = c.pop.ensures.value d (omega (arith, c.if-count-gt0.true, c.len-count.ensures)) in
    let last = ap (λ n. get_or ts (n - 1) d) (sym c.len-count.ensures) ∙ sym c.index.ensures ∙ c.if-index-place.true in
    let old : c.args.line.now.items ≡ c.pop.new.self.items ++ c.args.place ∷ [] = c.pop.ensures.items ∙ ap (λ o. c.pop.new.self.items ++ option_to_list o) (some ∙ ap Some last) in
    back_shows c.pop.new.self.items c.args.place pixels (subst (λ (ts : List ℕ). Shows ts c.args.place pixels) old shows)

pub returns-clause-turns : goal.returns-clause-turns
returns-clause-turns c =
    let ts = c.args.line.now.items in let n = c.args.place in
    let last : (k : ℕ) → k + 1 ≡ length ts → get_or ts k 0 < n = elim c.else-count-gt0.branch [
      | else-count-gt0-via-then-count-gt0+else-index-place w ↦ (λ k e.
          let at : c.len-count.result - 1 ≡ k = omega (arith, c.len-count.ensures) in
          let read = get_or_read ts (c.len-count.result - 1) w.index.result.now (omega arith) w.index.ensures 0 in
          let same : w.index.result.now ≡ get_or ts k 0 = read ∙ ap (λ j. get_or ts j 0) at in
          omega (arith, c.requires.turns.until k (omega arith), w.if-index-place.false))
      | else-count-gt0-via-else-count-gt0 w ↦ (λ k e. absurd (omega (arith, w.if-count-gt0.false, c.len-count.ensures)))
    ] in
    subst (λ (ps : List ℕ). Turns ps n) (sym c.push_reserved.ensures.items) (turn_turns ts n c.requires.turns last)

pub returns-clause-colour : goal.returns-clause-colour
returns-clause-colour c = turn_colour c.args.line.now.items c.push_reserved.new.self.items c.args.place c.push_reserved.ensures.items

pub returns-clause-shows : goal.returns-clause-shows
returns-clause-shows c = λ pixels shows.
    subst (λ (ps : List ℕ). Shows ps c.args.place pixels) (sym c.push_reserved.ensures.items) (turn_shows c.args.line.now.items c.args.place pixels shows)
