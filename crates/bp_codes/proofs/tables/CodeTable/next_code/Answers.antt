use Rattle.std.proofs.Common.{◌≡◌, ◌+◌, ◌-◌, ◌^◌, ◌≤◌, arith, length, take, drop, map, min, ap, sym, ◌∙◌, rules, length-drop}
use Rattle.std.proofs.lemmas.List.{length-map}
use Rattle.bp_codes.specs.Bits.{number_of_bits, code_bits}
use Rattle.bp_codes.specs.Span.{span_bits}
use Rattle.bp_codes.specs.NextCode.{next_row}
use Rattle.bp_codes.specs.Fronts.{fronts}
use Rattle.bp_codes.proofs.ReadingLemmas.{answered, place_is, place_below, place_small, next_row-below, says_ends, says_strange, says_row, row_below}
use Rattle.bp_codes.proofs.tables.CodeTable.next_code.Goals as goal

pub overflow_add-count : goal.overflow_add-count
overflow_add-count g c =
    let bits = drop c.args.at (span_bits c.args.span.now) in
    let left : length bits ≡ length (span_bits c.args.span.now) - c.args.at = length-drop c.args.at (span_bits c.args.span.now) in
    let count : c.min-count.result ≡ min c.self.inside.longest (length bits) = omega (arith, left) in
    let small : c.min-count.result ≤ 13 = omega (arith, c.self.invariant.within) in
    let place = place_is bits c.min-count.result c.window-window.result small c.window-window.ensures in
    let below = place_below c.self.inside.longest c.min-count.result bits (omega arith) (omega arith) in
    omega (arith, place, place_small c.self.inside.longest (2 ^ c.min-count.result + number_of_bits (take c.min-count.result bits)) c.self.invariant.within below)

pub at-requires : goal.at-requires
at-requires g c =
    let bits = drop c.args.at (span_bits c.args.span.now) in
    let left : length bits ≡ length (span_bits c.args.span.now) - c.args.at = length-drop c.args.at (span_bits c.args.span.now) in
    let count : c.min-count.result ≡ min c.self.inside.longest (length bits) = omega (arith, left) in
    let small : c.min-count.result ≤ 13 = omega (arith, c.self.invariant.within) in
    let place = place_is bits c.min-count.result c.window-window.result small c.window-window.ensures in
    omega (arith, place, place_below c.self.inside.longest c.min-count.result bits (omega arith) (omega arith), c.self.invariant.wide)

pub returns-in-255-clause-found : goal.returns-in-255-clause-found
returns-in-255-clause-found g c =
    let bits = drop c.args.at (span_bits c.args.span.now) in
    let left : length bits ≡ length (span_bits c.args.span.now) - c.args.at = length-drop c.args.at (span_bits c.args.span.now) in
    let count : c.min-count.result ≡ min c.self.inside.longest (length bits) = omega (arith, left) in
    let codes = map code_bits c.self.inside.rows in
    let says = answered codes c.self.inside.longest (fronts c.self.inside.index) bits c.min-count.result c.window-window.result c.at.result c.self.invariant.kept c.self.invariant.short c.self.invariant.within count c.window-window.ensures c.at.ensures in
    let few : length codes ≤ 254 = omega (arith, length-map c.self.inside.rows code_bits, c.self.invariant.few) in
    says_ends codes (next_row codes bits) few (next_row-below codes bits) (sym says ∙ c.in-255.is)
    ∙ ap (λ cs. next_row cs bits) c.self.view_is

pub returns-in-254-clause-found : goal.returns-in-254-clause-found
returns-in-254-clause-found g c =
    let bits = drop c.args.at (span_bits c.args.span.now) in
    let left : length bits ≡ length (span_bits c.args.span.now) - c.args.at = length-drop c.args.at (span_bits c.args.span.now) in
    let count : c.min-count.result ≡ min c.self.inside.longest (length bits) = omega (arith, left) in
    let codes = map code_bits c.self.inside.rows in
    let says = answered codes c.self.inside.longest (fronts c.self.inside.index) bits c.min-count.result c.window-window.result c.at.result c.self.invariant.kept c.self.invariant.short c.self.invariant.within count c.window-window.ensures c.at.ensures in
    let few : length codes ≤ 254 = omega (arith, length-map c.self.inside.rows code_bits, c.self.invariant.few) in
    says_strange codes (next_row codes bits) few (next_row-below codes bits) (sym says ∙ c.in-254.is)
    ∙ ap (λ cs. next_row cs bits) c.self.view_is

pub returns-in_default-clause-found : goal.returns-in_default-clause-found
returns-in_default-clause-found g c =
    let bits = drop c.args.at (span_bits c.args.span.now) in
    let left : length bits ≡ length (span_bits c.args.span.now) - c.args.at = length-drop c.args.at (span_bits c.args.span.now) in
    let count : c.min-count.result ≡ min c.self.inside.longest (length bits) = omega (arith, left) in
    let codes = map code_bits c.self.inside.rows in
    let says = answered codes c.self.inside.longest (fronts c.self.inside.index) bits c.min-count.result c.window-window.result c.at.result c.self.invariant.kept c.self.invariant.short c.self.invariant.within count c.window-window.ensures c.at.ensures in
    let not_ends : c.at.result ≡ 255 → ⊥ = omega arith in
    let not_strange : c.at.result ≡ 254 → ⊥ = omega arith in
    let few : length codes ≤ 254 = omega (arith, length-map c.self.inside.rows code_bits, c.self.invariant.few) in
    says_row codes c.at.result c.from-in_default.result (next_row codes bits) few (next_row-below codes bits) not_ends not_strange says c.from-in_default.ensures
    ∙ ap (λ cs. next_row cs bits) c.self.view_is

pub returns-in_default-clause-row : goal.returns-in_default-clause-row
returns-in_default-clause-row g c =
    let bits = drop c.args.at (span_bits c.args.span.now) in
    let left : length bits ≡ length (span_bits c.args.span.now) - c.args.at = length-drop c.args.at (span_bits c.args.span.now) in
    let count : c.min-count.result ≡ min c.self.inside.longest (length bits) = omega (arith, left) in
    let codes = map code_bits c.self.inside.rows in
    let says = answered codes c.self.inside.longest (fronts c.self.inside.index) bits c.min-count.result c.window-window.result c.at.result c.self.invariant.kept c.self.invariant.short c.self.invariant.within count c.window-window.ensures c.at.ensures in
    let not_ends : c.at.result ≡ 255 → ⊥ = omega arith in
    let not_strange : c.at.result ≡ 254 → ⊥ = omega arith in
    let few : length codes ≤ 254 = omega (arith, length-map c.self.inside.rows code_bits, c.self.invariant.few) in
    let found = says_row codes c.at.result c.from-in_default.result (next_row codes bits) few (next_row-below codes bits) not_ends not_strange says c.from-in_default.ensures in
    let all : length c.self.inside.rows ≡ g.row.N = search rules in
    omega (arith, row_below (length codes) c.from-in_default.result (next_row codes bits) found (next_row-below codes bits), length-map c.self.inside.rows code_bits, all)
