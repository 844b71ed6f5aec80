use Rattle.std.proofs.Common.{◌≡◌, take, true}
use Rattle.std.specs.List.{list_all}
use Rattle.bp_load.specs.Opt.{opt_text, has_texts}
use Rattle.bp_load.proofs.opt.write_opt.Given as goal

-- the lines so far are written
abbrev pub invariant-loop-line : goal.invariant-loop-line
invariant-loop-line l = record {
  written : l.out.items ≡ opt_text (take l.line-index l.line-items);
  texts : list_all has_texts (take l.line-index l.line-items) ≡ true;
}
