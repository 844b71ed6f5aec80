use Rattle.std.proofs.Common.{ap}
use Rattle.bp_import.proofs.DocumentLemmas.{page_made}
use Rattle.bp_import.proofs.documents.pages_with_words.Goals as goal

pub loop-page-preserved : goal.loop-page-preserved
loop-page-preserved c =
    let l = c.loop-page in
    page_made l.pages.items c.pop.new.self.items c.in-Some.page l.lists.items c.pop-in-Some.new.self.items c.in-Some-pop.words
    l.made.items c.push.new.self.items _ _ l.invariant c.in-Some.ensures.items c.in-Some-pop.ensures.items c.in_ok-push.ensures.items
    (ap (λ words. record { page = c.in-Some.page; words = words }) c.from_vec.ensures)
