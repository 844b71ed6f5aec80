-- What a search answers: what it finds, or the first rule that it breaks.
use Rattle.std.specs.Prelude.{ℕ, List, not, nat_lt, if◌then◌else◌, Option, Some, None, Result, Ok, Err}
use Rattle.bp_core.specs.Rules.{bare_rule}
use Rattle.bp_core.specs.declared.rules.Rule.{Rule}
use Rattle.bp_core.specs.declared.rules.RuleKind.TheVariants.{TermRefused}
use Rattle.bp_matter.specs.LookUps.{doc_with, of_row}
use Rattle.bp_matter.specs.Matter.{Matter}
use Rattle.bp_matter.specs.declared.looks.Found.{Found}
use Rattle.bp_looks.specs.Found.{found_of}
use Rattle.bp_looks.specs.Refusing.{no_document, no_page}
use Rattle.bp_looks.specs.Terms.{are_terms}

-- how many pages the document of a number has, if there is one
abbrev pub page_count_of : Matter → ℕ → Option ℕ
page_count_of m doc = of_row (λ row. row.pages) (doc_with doc m)

-- from a part on of a document of so many pages, if there is one
abbrev pub find_from : Matter → List (List ℕ) → ℕ → ℕ → Option ℕ → Result Found Rule
find_from m terms from page None = Err (no_document from)
find_from m terms from page (Some pages) =
    if nat_lt pages page then Err (no_page page) else Ok (found_of m terms from page)

-- the answer of a search for terms from a part of a document on
abbrev pub find : Matter → List (List ℕ) → ℕ → ℕ → Result Found Rule
find m terms from page =
    if not (are_terms terms) then Err (bare_rule TermRefused)
    else find_from m terms from page (page_count_of m from)
