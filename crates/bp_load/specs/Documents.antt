-- What load files say of a document: the cell of its row under a column, and its lines.
use Rattle.std.specs.Prelude.{ℕ, ◌+◌, Bool, List, [], ◌∷◌, codes, drop, encode_utf8_all, if◌then◌else◌}
use Rattle.std.specs.Str.{bytes_eq}
use Rattle.bp_load.specs.declared.opt.OptLine.{OptLine}

-- the column of the first page of a document
abbrev pub is_begdoc : List ℕ → Bool
is_begdoc column = bytes_eq (encode_utf8_all column) (codes "BEGDOC")

-- the cell of a row under the first column of a kind; empty where there is none
abbrev pub cell_under : (List ℕ → Bool) → List (List ℕ) → List (List ℕ) → List ℕ
cell_under is_it [] row = []
cell_under is_it (column ∷ columns) [] = []
cell_under is_it (column ∷ columns) (cell ∷ row) =
    if is_it column then cell else cell_under is_it columns row

-- the documents that are left after a line: a break begins the first of them
abbrev pub docs_after : {D : Type 0} → List D → OptLine → List D
docs_after docs line = if line.doc_break then drop 1 docs else docs

-- how many lines stand before the next break
abbrev pub until_break : List OptLine → ℕ
until_break [] = 0
until_break (line ∷ lines) = if line.doc_break then 0 else until_break lines + 1
