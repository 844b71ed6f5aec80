use Rattle.bp_cli.proofs.LeadLemmas.{answer_produced, freezes}
use Rattle.bp_cli.proofs.produce.freeze_for_lead.Goals as goal

pub frozen_in-requires : goal.frozen_in-requires
frozen_in-requires g c =
    answer_produced c.args.tables.now.matter c.args.request c.lead_digest-lead.result (g.K.Keeper.shows c.args.keeper.now) c.step-answer.result c.step-answer.new.tables.matter (g.K.Keeper.shows c.step-answer.new.keeper)
    c.know_valid.ensures c.lead_digest-lead.ensures c.step-answer.ensures.made

pub returns : goal.returns
returns g c =
    freezes c.args.tables.now.matter c.args.request c.lead_digest-lead.result (g.K.Keeper.shows c.args.keeper.now) c.step-answer.result c.frozen_in.result c.step-answer.new.tables.matter (g.K.Keeper.shows c.step-answer.new.keeper)
    c.know_valid.ensures c.lead_digest-lead.ensures c.step-answer.ensures.made c.frozen_in.ensures
