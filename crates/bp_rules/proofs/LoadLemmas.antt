-- What was read from the rows of a keeper is loaded from them.
use Rattle.std.proofs.Common.{◌≡◌, eqb, false, List, [], ◌∷◌, length, Option, Some, None, sym, ◌∙◌, subst}
use Rattle.std.specs.Prelude.{IfSome, Ok}
use Rattle.bp_core.specs.declared.kept.Row.{Row}
use Rattle.bp_matter.specs.KeptRows.{rows_of}
use Rattle.bp_matter.specs.Matter.{Matter, Shown}
use Rattle.bp_matter.specs.Valid.{IsValid}
use Rattle.bp_rules.specs.Loading.{LoadedFrom}

pub loaded-ok : (rows : List Row) (tables : Shown) → IsValid tables.matter → ((m n : Matter) → IsValid m → IsValid n → rows_of m ≡ rows_of n → m ≡ n) → eqb (length rows) 0 ≡ false → rows ≡ rows_of tables.matter → LoadedFrom rows (Ok tables)
loaded-ok [] tables v law some e = absurd cc
loaded-ok (row ∷ rows) tables v law some e = (e, λ other w h. law tables.matter other v w (sym e ∙ h))

pub told-ok : (told : Option (List Row)) (rows : List Row) (tables : Shown) → IfSome told (λ r. rows ≡ r) → LoadedFrom rows (Ok tables) → IfSome told (λ r. LoadedFrom r (Ok tables))
told-ok None rows tables same h = tt
told-ok (Some r) rows tables same h = subst (λ x. LoadedFrom x (Ok tables)) same h
