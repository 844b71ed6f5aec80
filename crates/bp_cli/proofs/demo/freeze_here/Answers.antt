use Rattle.bp_cli.proofs.LeadLemmas.{froze_here, here_lacked, here_produced, here_refused}
use Rattle.bp_cli.proofs.demo.freeze_here.Goals as goal

pub returns-in_err-decided : goal.returns-in_err-decided
returns-in_err-decided c =
    let m = c.args.tables.now.matter in
    here_refused m c.args.request c.lead_digest-lead.result c.in_err-decided.field-0.0 c.from_residual.result m
    c.know_valid.ensures c.lead_digest-lead.ensures c.in_err-decided.ensures c.from_residual.ensures.0 c.from_residual.ensures.1

pub returns-in_err-make : goal.returns-in_err-make
returns-in_err-make c =
    let residual = c.from_residual-in_err-make in
    here_lacked c.args.tables.now.matter c.args.request residual.result c.make.new.tables.matter residual.ensures.0 residual.ensures.1

pub production_in-requires : goal.production_in-requires
production_in-requires c =
    here_produced c.args.tables.now.matter c.args.request c.lead_digest-lead.result c.in_ok-decided.decided
    c.know_valid.ensures c.lead_digest-lead.ensures c.in_ok-decided.ensures

pub returns : goal.returns
returns c =
    froze_here c.args.tables.now.matter c.args.request c.lead_digest-lead.result c.in_ok-decided.decided c.production_in.result c.make.new.tables.matter
    c.know_valid.ensures c.lead_digest-lead.ensures c.in_ok-decided.ensures c.in_ok-make.ensures.made c.production_in.ensures
