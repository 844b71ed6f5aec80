use Rattle.bp_demo.proofs.CallLemmas.{no_more}
use Rattle.bp_demo.proofs.calls.add_marks.Goals as goal

pub returns-in-Produce : goal.returns-in-Produce
returns-in-Produce c = no_more c.args.calls.now.items c.args.number c.args.treatment c.args.first_word c.in-Produce.is
