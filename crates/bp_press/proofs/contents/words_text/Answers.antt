use Rattle.std.proofs.Common.{◌≡◌, ◌++◌, [], ◌∷◌, ap, sym, ◌∙◌}
use Rattle.std.specs.Option.{option_copied}
use Rattle.std.specs.Str.{chars}
use Rattle.std.specs.String.{string_bytes}
use Rattle.std.proofs.lemmas.Str.{IsUtf8-string_bytes, chars-nil}
use Rattle.bp_text.specs.PageText.{words_text}
use Rattle.bp_press.specs.Shown.{in_hand, words_left}
use Rattle.bp_press.proofs.WordLemmas.{hand, last_given, one_more, page_ended}
use Rattle.bp_press.proofs.contents.words_text.Goals as goal

pub loop-next-init : goal.loop-next-init
loop-next-init c =
    let given = option_copied c.next-next.result in
    let rest = words_left c.next-next.new.self in
    let left = in_hand given rest in
    record {
      written =
          ap (λ bytes. chars bytes ++ words_text left) c.new-text.ensures.bytes
          ∙ ap (λ cs. cs ++ words_text left) chars-nil ∙ ap words_text (sym (hand (words_left c.args.lent) given rest c.next-next.ensures));
      last = last_given (words_left c.args.lent) given rest c.next-next.ensures;
    }

pub loop-next-preserved : goal.loop-next-preserved
loop-next-preserved c =
    let word = c.in-Some.word.now in
    let given = option_copied c.next-next-in-Some.result in
    let rest = words_left c.next-next-in-Some.new.self in
    let old = words_left c.loop-next.words in
    let before = string_bytes c.loop-next.text in
    let is = ap (λ o. in_hand o old) (ap option_copied c.in-Some.is) ∙ ap (λ words. word ∷ words) (hand old given rest c.next-next-in-Some.ensures) in
    record {
      written =
          one_more word given rest (words_left c.args.lent) before c.as_str.result.now (string_bytes c.push_str.new.self)
          c.end_of.result.now (string_bytes c.push_str-in-Some.new.self) (IsUtf8-string_bytes c.loop-next.text) c.as_str.utf8
          (last_given old given rest c.next-next-in-Some.ensures) c.as_str.ensures.characters c.end_of.ensures
          c.in_ok-push_str.ensures.bytes c.in_ok-push_str-2.ensures.bytes
          (sym (ap (λ words. chars before ++ words_text words) is) ∙ c.loop-next.invariant.written);
      last = last_given old given rest c.next-next-in-Some.ensures;
    }

pub returns : goal.returns
returns c =
    let old = words_left c.loop-next.words in
    let left = in_hand (option_copied c.loop-next.next) old in
    let gone = ap option_copied c.in_default.is in
    let none : left ≡ [] = ap (λ o. in_hand o old) gone ∙ c.loop-next.invariant.last gone in
    c.from_string.ensures ∙ ap chars c.in_ok-push_str-3.ensures.bytes
    ∙ page_ended (string_bytes c.loop-next.text) left (words_left c.args.lent) (IsUtf8-string_bytes c.loop-next.text) none c.loop-next.invariant.written
