use Rattle.std.proofs.Common.{◌≡◌, ◌++◌, List, OnOk, ap, subst, sym, ◌∙◌, map, append-nil}
use Rattle.bp_matter.specs.declared.looks.Hit.{Hit}
use Rattle.bp_looks.specs.Hits.{hits_of, hits_of_rows, terms_of, word_text}
use Rattle.bp_looks.specs.Parts.{page_rows, page_texts}
use Rattle.bp_looks.proofs.found.add_page.Goals as goal

pub returns : goal.returns
returns c =
    let ts = terms_of c.args.terms.now in
    let spot = c.args.spot in
    let m = c.args.tables.now.matter in
    let same : hits_of ts spot (map word_text c.words_on-words.result.now)
    ≡ hits_of_rows ts spot (page_rows m spot.doc.0 spot.page) =
    ap (λ words. hits_of ts spot (map word_text words)) c.words_on-words.ensures.value
    ∙ sym (append-nil (hits_of ts spot (page_texts m spot.doc.0 spot.page))) in
    subst (λ (l : List Hit). OnOk c.add_word_hits.result
    (c.add_word_hits.new.hits.items ≡ c.args.hits.now.items ++ l)) same c.add_word_hits.ensures
