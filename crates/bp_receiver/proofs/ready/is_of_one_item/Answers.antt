use Rattle.std.proofs.Common.{codes}
use Rattle.std.proofs.lemmas.Str.Pattern.{contains_text}
use Rattle.bp_receiver.proofs.ReadyFileLemmas.{one-image, one-text}
use Rattle.bp_receiver.proofs.ready.is_of_one_item.Goals as goal

pub returns-then-contains : goal.returns-then-contains
returns-then-contains c =
    let bytes = c.as_str-path.result.now in
    one-image c.args.path.now bytes c.contains.result c.as_str-path.ensures.bytes
    (contains_text c.contains.result (codes "/IMAGES/") bytes c.contains.ensures.cases)
    c.if-contains.true

pub returns-else-contains : goal.returns-else-contains
returns-else-contains c =
    let bytes = c.as_str-path.result.now in
    one-text c.args.path.now bytes c.contains.result c.contains-else-contains.result
    c.as_str-path.ensures.bytes
    (contains_text c.contains.result (codes "/IMAGES/") bytes c.contains.ensures.cases)
    (contains_text c.contains-else-contains.result (codes "/TEXT/") bytes
    c.contains-else-contains.ensures.cases)
    c.if-contains.false
