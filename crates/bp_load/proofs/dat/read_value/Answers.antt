use Rattle.std.proofs.Common.{List, ℕ, ap, sym, subst, ◌∙◌}
use Rattle.std.specs.List.{list_all}
use Rattle.std.specs.Str.{chars, IsUtf8}
use Rattle.std.specs.String.{string_bytes}
use Rattle.std.proofs.lemmas.Str.{IsUtf8-string_bytes}
use Rattle.bp_load.specs.Dat.{stands_for_itself}
use Rattle.bp_load.proofs.DatLemmas.{value_some, plain_text}
use Rattle.bp_load.proofs.dat.read_value.Goals as goal

pub returns : goal.returns
returns c =
    let found = c.in-Some.ensures in
    let text = c.in_ok-text-2.text in
    value_some (chars c.args.piece.now) (chars c.in-Some.inner.now) c.from_string-2.result (string_bytes text) found.0 found.1 (sym c.are_inner.ensures ∙ c.if-not-are_inner.false) c.from_string-2.ensures (IsUtf8-string_bytes text) c.in_ok-text-2.ensures

pub returns-then-stand_for_themselves : goal.returns-then-stand_for_themselves
returns-then-stand_for_themselves c =
    let found = c.in-Some.ensures in
    let text = c.in_ok-text.text in
    let inner = c.in-Some.inner.now in
    let P : List ℕ → Type 0 = λ t. IsUtf8 t in
    let utf8 = subst P c.as_bytes.ensures.value c.as_bytes.ensures.utf8 in
    let plain = plain_text inner utf8 (ap (list_all stands_for_itself) (sym c.as_bytes.ensures.value) ∙ sym c.stand_for_themselves.ensures ∙ c.if-stand_for_themselves.true) in
    value_some (chars c.args.piece.now) (chars inner) c.from_string.result (string_bytes text) found.0 found.1 plain.0 c.from_string.ensures (IsUtf8-string_bytes text) (c.in_ok-text.ensures.ok ∙ plain.1)
