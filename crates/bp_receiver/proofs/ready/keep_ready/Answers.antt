use Rattle.bp_receiver.specs.declared.ready.ReadyFile.{ReadyFile}
use Rattle.bp_receiver.proofs.ReadyFileLemmas.{kept-more, ready-added}
use Rattle.bp_receiver.proofs.ready.keep_ready.Goals as goal

pub returns-clause-ready : goal.returns-clause-ready
returns-clause-ready c m given are =
    let file : ReadyFile =
    record { id = c.args.id.now; path = c.args.path.now; bytes = c.args.bytes.now } in
    ready-added m c.args.ready.now.items c.add_ready.new.ready.items file
    c.is_of_one_item.result c.add_ready.result c.add_ready.ensures.added
    c.add_ready.ensures.refused c.is_of_one_item.ensures c.if-is_of_one_item.false c.requires
    given are

pub returns-clause-kept : goal.returns-clause-kept
returns-clause-kept c =
    kept-more _ _ _ c.is_of_one_item.result c.add_ready.result c.add_ready.ensures.added
    c.is_of_one_item.ensures c.if-is_of_one_item.false
