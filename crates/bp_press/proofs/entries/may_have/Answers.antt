use Rattle.std.proofs.Common.{◌≡◌, ◌+◌, ◌++◌, List, ℕ, codes, false, true, subst, sym}
use Rattle.std.specs.Str.{bytes_eq}
use Rattle.bp_freeze.specs.Log.{label_in}
use Rattle.bp_press.specs.VolumeFiles.{entry_path}
use Rattle.bp_press.specs.declared.volume_files.VolumeFile.{VolumeFile}
use Rattle.bp_press.proofs.FindLemmas.{image_missed, text_missed}
use Rattle.bp_press.proofs.entries.may_have.Goals as goal

pub returns-in-Page : goal.returns-in-Page
returns-in-Page c = λ none.
    let q = c.args.production.now.request in
    let it = c.in-Page in
    let first = it.item.now.span.first in
    let ends =
    subst (λ (k : ℕ). (before : List ℕ) → c.args.path.now ≡ before ++ (label_in q.prefix (first + k) ++ codes ".TIF") → c.ends_with_label.result ≡ true) c.from.ensures c.ends_with_label.ensures.found in
    subst (λ (entry : VolumeFile). bytes_eq (entry_path c.args.production.now entry) c.args.path.now ≡ false) (sym it.is)
    (image_missed q (it.place + it.page) (first + it.page) c.args.path.now c.ends_with_label.result ends none)

pub returns-in-Sheet : goal.returns-in-Sheet
returns-in-Sheet c = λ none.
    let q = c.args.production.now.request in
    let it = c.in-Sheet in
    let first = it.item.now.span.first in
    let ends =
    subst (λ (k : ℕ). (before : List ℕ) → c.args.path.now ≡ before ++ (label_in q.prefix (first + k) ++ codes ".TIF") → c.ends_with_label-in-Sheet.result ≡ true) c.from-in-Sheet.ensures c.ends_with_label-in-Sheet.ensures.found in
    subst (λ (entry : VolumeFile). bytes_eq (entry_path c.args.production.now entry) c.args.path.now ≡ false) (sym it.is)
    (image_missed q (it.place + it.sheet) (first + it.sheet) c.args.path.now c.ends_with_label-in-Sheet.result ends none)

pub returns-in-Text : goal.returns-in-Text
returns-in-Text c = λ none.
    let it = c.in-Text in
    subst (λ (entry : VolumeFile). bytes_eq (entry_path c.args.production.now entry) c.args.path.now ≡ false) (sym it.is)
    (text_missed c.args.production.now.request it.place it.item.now.span.first c.args.path.now c.ends_with_label-in-Text.result c.ends_with_label-in-Text.ensures.found none)
