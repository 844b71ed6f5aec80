use Rattle.bp_test_day.proofs.strips.strips.Goals as goal

pub both_strips-requires-clause-second : goal.both_strips-requires-clause-second
both_strips-requires-clause-second g c κs within = c.in-Some-sheet_job.ensures c.args.day.now.tables.matter
