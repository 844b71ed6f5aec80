use Rattle.std.proofs.Common.{◌≡◌, ◌++◌, [], None, length}
use Rattle.std.specs.Option.{option_copied}
use Rattle.std.specs.Str.{chars}
use Rattle.std.specs.String.{string_bytes}
use Rattle.bp_text.specs.PageText.{words_text}
use Rattle.bp_press.specs.Shown.{in_hand, words_left}
use Rattle.bp_press.proofs.contents.words_text.Given as goal

-- what is written, with what the words that are left give, is what all words give
abbrev pub invariant-loop-next : goal.invariant-loop-next
invariant-loop-next l = record {
  written : chars (string_bytes l.text) ++ words_text (in_hand (option_copied l.next) (words_left l.words)) ≡ words_text (words_left l.fn.lent);
  last : option_copied l.next ≡ None → words_left l.words ≡ [];
}

abbrev pub decreases-loop-next : goal.decreases-loop-next
decreases-loop-next l = length (in_hand (option_copied l.next) (words_left l.words))
