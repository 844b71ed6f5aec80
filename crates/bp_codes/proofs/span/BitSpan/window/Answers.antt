use Rattle.std.proofs.Common.{◌^◌, ◌/◌, ◌-◌, ap, ◌∙◌}
use Rattle.bp_codes.proofs.BitListLemmas.{window_of}
use Rattle.bp_codes.proofs.span.BitSpan.window.Goals as goal

pub returns : goal.returns
returns c =
    let s = c.args.self.now in
    ap (λ v. v / 2 ^ (32 - c.args.count)) c.from-rest.ensures
    ∙ window_of s.fill s.bytes.now c.args.at c.args.count c.word.result c.requires.short c.requires.within c.word.ensures
