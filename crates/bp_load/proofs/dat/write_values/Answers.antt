use Rattle.std.specs.String.{string_bytes}
use Rattle.std.proofs.lemmas.Result.{on_ok_weaker}
use Rattle.bp_load.proofs.DatLemmas.{values_parts}
use Rattle.bp_load.proofs.dat.write_values.Goals as goal

pub returns-clause-ok : goal.returns-clause-ok
returns-clause-ok c =
    on_ok_weaker c.write_others.result
    (λ last. values_parts c.args.values.now c.in-Some.first.now c.in-Some.others.now (string_bytes c.args.out.now) (string_bytes c.write_value.new.out) (string_bytes c.write_others.new.out)
    c.in-Some.ensures.cases.0 c.in_ok-write_value.ensures.ok last)
    c.write_others.ensures.ok
