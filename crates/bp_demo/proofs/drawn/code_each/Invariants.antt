use Rattle.std.proofs.Common.{◌≡◌}
use Rattle.bp_demo.proofs.drawn.code_each.Given as goal

-- as they were
abbrev pub invariant-loop-page : goal.invariant-loop-page
invariant-loop-page l = l.pages ≡ l.initial.pages
