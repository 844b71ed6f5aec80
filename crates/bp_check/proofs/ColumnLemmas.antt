-- A column has one use.
use Rattle.std.proofs.Common.{◌≡◌, ℕ, true, false, List, ap, encode_utf8_all}
use Rattle.std.specs.Prelude.{codes}
use Rattle.std.specs.Str.{bytes_eq}
use Rattle.std.proofs.lemmas.Slice.Eq.{bytes_eq-Decides}
use Rattle.bp_check.specs.Columns.{is_enddoc, is_pagecount, is_textpath}
use Rattle.bp_load.specs.Documents.{is_begdoc}

pub begdoc_not_enddoc : (c : List ℕ) → is_begdoc c ≡ true → is_enddoc c ≡ false
begdoc_not_enddoc c is = ap (λ b. bytes_eq b (codes "ENDDOC")) ((bytes_eq-Decides (encode_utf8_all c) (codes "BEGDOC")).0 is)

pub begdoc_not_pagecount : (c : List ℕ) → is_begdoc c ≡ true → is_pagecount c ≡ false
begdoc_not_pagecount c is = ap (λ b. bytes_eq b (codes "PAGECOUNT")) ((bytes_eq-Decides (encode_utf8_all c) (codes "BEGDOC")).0 is)

pub begdoc_not_textpath : (c : List ℕ) → is_begdoc c ≡ true → is_textpath c ≡ false
begdoc_not_textpath c is = ap (λ b. bytes_eq b (codes "TEXTPATH")) ((bytes_eq-Decides (encode_utf8_all c) (codes "BEGDOC")).0 is)

pub enddoc_not_pagecount : (c : List ℕ) → is_enddoc c ≡ true → is_pagecount c ≡ false
enddoc_not_pagecount c is = ap (λ b. bytes_eq b (codes "PAGECOUNT")) ((bytes_eq-Decides (encode_utf8_all c) (codes "ENDDOC")).0 is)

pub enddoc_not_textpath : (c : List ℕ) → is_enddoc c ≡ true → is_textpath c ≡ false
enddoc_not_textpath c is = ap (λ b. bytes_eq b (codes "TEXTPATH")) ((bytes_eq-Decides (encode_utf8_all c) (codes "ENDDOC")).0 is)

pub pagecount_not_textpath : (c : List ℕ) → is_pagecount c ≡ true → is_textpath c ≡ false
pagecount_not_textpath c is = ap (λ b. bytes_eq b (codes "TEXTPATH")) ((bytes_eq-Decides (encode_utf8_all c) (codes "PAGECOUNT")).0 is)
