use Rattle.std.proofs.Common.{sym, ◌∙◌}
use Rattle.std.specs.Str.{chars}
use Rattle.std.proofs.lemmas.Str.{encodes-chars}
use Rattle.bp_core.proofs.PathLemmas.{refused_in, dots_in, all_tests, colon_there, refused_there}
use Rattle.bp_core.proofs.paths.is_path.Goals.{then-not-has_colon, else-not-has_colon}
use Rattle.bp_core.proofs.paths.is_path.Goals as goal

pub returns-then-not-has_refused_part : goal.returns-then-not-has_refused_part
returns-then-not-has_refused_part c =
    let bs = c.args.text.now in
    let cs = chars bs in
    elim c.if-not-has_colon.branch [
      | then-not-has_colon w ↦
          let refused = w.has_refused_part.ensures ∙ refused_in c.as_bytes-bytes.result.now cs (encodes-chars bs c.utf8.text ∙ sym c.as_bytes-bytes.ensures.value) in
          let dots = c.are_dots.ensures ∙ dots_in c.as_bytes-bytes.result.now cs (encodes-chars bs c.utf8.text ∙ sym c.as_bytes-bytes.ensures.value) in
          all_tests cs w.has_refused_part.result c.are_dots.result (sym c.has_colon.ensures ∙ w.if-not-has_colon.true) refused dots (sym w.value-is ∙ c.if-not-has_refused_part.true)
      | else-not-has_colon w ↦ let e = w.if-not-has_colon.false in let f = w.value-is in let g = c.if-not-has_refused_part.true in cc
    ]

pub returns-else-not-has_refused_part : goal.returns-else-not-has_refused_part
returns-else-not-has_refused_part c =
    let bs = c.args.text.now in
    let cs = chars bs in
    elim c.if-not-has_colon.branch [
      | then-not-has_colon w ↦
          let refused = w.has_refused_part.ensures ∙ refused_in c.as_bytes-bytes.result.now cs (encodes-chars bs c.utf8.text ∙ sym c.as_bytes-bytes.ensures.value) in
          c.if-not-has_refused_part.false ∙ sym (refused_there cs w.has_refused_part.result refused (sym w.value-is ∙ c.if-not-has_refused_part.false))
      | else-not-has_colon w ↦ c.if-not-has_refused_part.false ∙ sym (colon_there cs (sym c.has_colon.ensures ∙ w.if-not-has_colon.false))
    ]
