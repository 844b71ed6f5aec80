use Rattle.std.proofs.Common.{◌<◌, ◌==◌, [], length, ap, sym, ◌∙◌, arith}
use Rattle.std.specs.Option.{option_and_then}
use Rattle.std.specs.List.{slice_get}
use Rattle.std.proofs.lemmas.List.Quantifiers.{position-Some}
use Rattle.std.proofs.lemmas.Option.{slice_get-get_or}
use Rattle.bp_codes.specs.Glyphs.{alphabet, rows_at}
use Rattle.bp_codes.proofs.glyph_table.GlyphTable.rows_of.Goals as goal

pub returns-in-Some : goal.returns-in-Some
returns-in-Some g c =
    let glyphs = c.self.inside.glyphs in
    let place = c.in-Some.place in
    let first = position-Some (λ character. character == c.args.c) alphabet place 0 (sym c.in-Some.ensures) in
    let within : place < length glyphs = omega (arith, first.0, c.self.invariant) in
    sym (slice_get-get_or glyphs place [] within)
    ∙ ap (option_and_then (slice_get glyphs)) c.in-Some.ensures
    ∙ ap (λ table. rows_at table c.args.c) c.self.view_is
