use Rattle.bp_receiver.proofs.wants.receive.Goals as goal

pub returns-clause-ready : goal.returns-clause-ready
returns-clause-ready c =
    c.owed_given.ensures.ready c.args.tables.now.matter c.owed_for-owed.ensures.by c.requires
