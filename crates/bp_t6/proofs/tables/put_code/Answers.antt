use Rattle.std.proofs.Common.{◌≡◌, ◌++◌, Bool, List, OnOk, subst}
use Rattle.bp_t6.proofs.CodeLemmas.{code_at}
use Rattle.bp_t6.proofs.tables.put_code.Goals as goal

pub put-requires-clause-short : goal.put-requires-clause-short
put-requires-clause-short g c = (code_at c.args.codes.now c.args.row c.code_of.result c.requires.short c.code_of.ensures).short

pub put-requires-clause-fits : goal.put-requires-clause-fits
put-requires-clause-fits g c = (code_at c.args.codes.now c.args.row c.code_of.result c.requires.short c.code_of.ensures).fits

pub returns-clause-put : goal.returns-clause-put
returns-clause-put g c =
    subst (λ (bs : List Bool). OnOk c.put.result (c.put.new.self ≡ c.args.out.now ++ bs))
    (code_at c.args.codes.now c.args.row c.code_of.result c.requires.short c.code_of.ensures).bits c.put.ensures.ok
