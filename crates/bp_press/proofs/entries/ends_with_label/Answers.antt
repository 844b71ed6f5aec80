use Rattle.std.proofs.Common.{◌≡◌, ◌-◌, ◌++◌, ◌∙◌, ap, encode_utf8_all, length, sym, take}
use Rattle.std.proofs.lemmas.Bool.Decides.{Decides-eqb}
use Rattle.std.proofs.Math.Seq.{take-append_seam}
use Rattle.std.proofs.lemmas.Slice.Eq.{ends_is}
use Rattle.bp_freeze.specs.Log.{label_in}
use Rattle.bp_press.proofs.FindLemmas.{path_bytes, stripped_none, stripped_some, stripped_whole}
use Rattle.bp_press.proofs.entries.ends_with_label.Goals as goal

pub returns-in-Some-clause-found : goal.returns-in-Some-clause-found
returns-in-Some-clause-found c = λ front is.
    let prefix = c.args.prefix.now in
    let end = c.args.end.now in
    let label = label_in prefix c.args.number in
    let s = c.as_bytes.result.now in
    let bytes : s ≡ (encode_utf8_all front ++ label) ++ end =
    c.as_bytes.ensures.value ∙ c.as_str.ensures.bytes ∙ ap encode_utf8_all is ∙ path_bytes front prefix.text end prefix.width c.args.number c.requires.good c.requires.ascii in
    let rest : c.in-Some.rest.now ≡ encode_utf8_all front ++ label = stripped_some s end (encode_utf8_all front ++ label) c.strip_suffix.result c.in-Some.rest c.in-Some.is bytes c.strip_suffix.ensures.cases in
    let needle : take c.label_into-length.result c.label_into-length.new.into ≡ label =
    ap (λ n. take n c.label_into-length.new.into) c.label_into-length.ensures.length ∙ ap (take (length label)) c.label_into-length.ensures.label ∙ take-append_seam label _ in
    (ends_is Decides-eqb c.in-Some.rest.now _ c.ends_with.result c.ends_with.ensures.value).1 (encode_utf8_all front) (rest ∙ ap (λ l. encode_utf8_all front ++ l) (sym needle))

pub returns-in-None-clause-found : goal.returns-in-None-clause-found
returns-in-None-clause-found c = λ front is.
    let prefix = c.args.prefix.now in
    let end = c.args.end.now in
    let label = label_in prefix c.args.number in
    let s = c.as_bytes.result.now in
    let bytes : s ≡ (encode_utf8_all front ++ label) ++ end =
    c.as_bytes.ensures.value ∙ c.as_str.ensures.bytes ∙ ap encode_utf8_all is ∙ path_bytes front prefix.text end prefix.width c.args.number c.requires.good c.requires.ascii in
    absurd (stripped_none s end (encode_utf8_all front ++ label) c.strip_suffix.result c.in-None.is bytes c.strip_suffix.ensures.cases)

pub returns-in-Some-clause-ends : goal.returns-in-Some-clause-ends
returns-in-Some-clause-ends c = λ yes.
    let end = c.args.end.now in
    let label = label_in c.args.prefix.now c.args.number in
    let s = c.as_bytes.result.now in
    let rest = c.in-Some.rest.now in
    let into = c.label_into-length.new.into in
    let bytes : s ≡ encode_utf8_all c.args.path.now = c.as_bytes.ensures.value ∙ c.as_str.ensures.bytes in
    let whole : s ≡ rest ++ end = stripped_whole s end c.strip_suffix.result c.in-Some.rest c.in-Some.is c.strip_suffix.ensures.cases in
    let needle : take c.label_into-length.result into ≡ label =
    ap (λ n. take n into) c.label_into-length.ensures.length ∙ ap (take (length label)) c.label_into-length.ensures.label ∙ take-append_seam label _ in
    let front = take (length rest - length (take c.label_into-length.result into)) rest in
    let ends : rest ≡ front ++ take c.label_into-length.result into =
    (ends_is Decides-eqb rest _ c.ends_with.result c.ends_with.ensures.value).0 yes in
    record {
      front = front;
      is = sym bytes ∙ whole ∙ ap (λ r. r ++ end) (ends ∙ ap (λ l. front ++ l) needle);
    }
