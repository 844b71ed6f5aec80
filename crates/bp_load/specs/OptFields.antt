-- The fields of an OPT line, as the reader holds them.
use Rattle.std.specs.Prelude.{ℕ, List, [], ◌∷◌}
use Rattle.bp_load.specs.declared.opt.Fields.{Fields}
use Rattle.bp_load.specs.Opt.{opt_field}

-- the seven fields as a list
abbrev pub opt_fields : Fields → List (List ℕ)
opt_fields f =
    f.image.now ∷ f.volume.now ∷ f.path.now
    ∷ f.doc_break.now ∷ f.folder_break.now ∷ f.box_break.now ∷ f.pages.now ∷ []

-- the first seven fields, missing ones empty
abbrev pub seven : List (List ℕ) → List (List ℕ)
seven fields =
    opt_field fields 0 ∷ opt_field fields 1 ∷ opt_field fields 2
    ∷ opt_field fields 3 ∷ opt_field fields 4 ∷ opt_field fields 5 ∷ opt_field fields 6 ∷ []
