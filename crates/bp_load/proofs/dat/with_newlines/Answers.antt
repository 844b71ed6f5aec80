use Rattle.std.proofs.Common.{◌++◌, encode_utf8, encode_utf8_all, map, ap, sym, ◌∙◌}
use Rattle.std.proofs.lemmas.Iterator.{YieldsList-from_chars}
use Rattle.std.proofs.lemmas.Iterator.Consumers.{YieldsList-end}
use Rattle.bp_load.specs.Dat.{read_character}
use Rattle.bp_load.proofs.DatLemmas.{one_more, map_same}
use Rattle.bp_load.proofs.dat.with_newlines.Goals as goal

pub loop-c-preserved : goal.loop-c-preserved
loop-c-preserved c =
    let so_far = encode_utf8_all (map read_character c.loop-c.yielded) in
    c.in_ok-push.ensures.bytes ∙ ap (λ bytes. bytes ++ encode_utf8 c.read_character.result) c.loop-c.invariant
    ∙ ap (λ d. so_far ++ encode_utf8 d) c.read_character.ensures ∙ one_more read_character c.loop-c.yielded c.in-Some.c

pub returns : goal.returns
returns c =
    let t = YieldsList-end (YieldsList-from_chars c.args.text.now c.utf8.text cc) c.loop-c.yielded _ c.loop-c.yielded_by _ _ c.in-None.is c.next.ensures.steps in
    c.loop-c.invariant ∙ ap (λ cs. encode_utf8_all (map read_character cs)) (sym (map_same c.loop-c.yielded) ∙ t.0)
