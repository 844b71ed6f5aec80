-- Two matters still show the same of a production after calls on both.
use Rattle.std.proofs.Common.{◌≡◌, ℕ, List, sym, ap, subst, ◌∙◌}
use Rattle.bp_matter.specs.Matter.{Matter}
use Rattle.bp_matter.specs.declared.rows.DocRow.{DocRow}
use Rattle.bp_matter.specs.declared.rows.FieldRow.{FieldRow}
use Rattle.bp_matter.specs.declared.rows.Item.{Item}
use Rattle.bp_matter.specs.declared.rows.PageRow.{PageRow}
use Rattle.bp_matter.specs.declared.rows.PageWords.{PageWords}
use Rattle.bp_matter.specs.declared.rows.Production.{Production}
use Rattle.bp_freeze.specs.Agree.{Agree, ItemAgrees, PageAgrees}
use Rattle.bp_receiver.specs.Contents.{CallStays}

-- a matter with these fields, documents, pages and words in place of its own
abbrev pub with_contents : List FieldRow → List DocRow → List PageRow → List PageWords → Matter → Matter
with_contents fields docs pages words x =
    record x { fields = fields; docs = docs; pages = pages; words = words }

abbrev pub with_those_of : Matter → Matter → Matter
with_those_of m x = with_contents m.fields m.docs m.pages m.words x

page-agrees : (m n x y : Matter) (i : Item) (page : ℕ)
    → PageAgrees m n i page
    → PageAgrees (with_those_of m x) (with_those_of n y) i page
page-agrees m n x y i page a = record { image = a.image; words = a.words }

item-agrees : (f : Production) (m n x y : Matter) (i : Item)
    → ItemAgrees f m n i
    → ItemAgrees f (with_those_of m x) (with_those_of n y) i
item-agrees f m n x y i a =
    record {
      counts = a.counts;
      pages = λ page low high. page-agrees m n x y i page (a.pages page low high);
      values = a.values;
    }

agree-with : (f : Production) (m n x y : Matter)
    → Agree f m n
    → Agree f (with_those_of m x) (with_those_of n y)
agree-with f m n x y a =
    record {
      numbers = a.numbers;
      items = λ k i short shown. item-agrees f m n x y _ (a.items k i short shown);
    }

pub those-stay : (m x : Matter) → CallStays m x → with_those_of m x ≡ x
those-stay m x s =
    ap (λ (l : List FieldRow). with_contents l m.docs m.pages m.words x) (sym s.fields)
    ∙ ap (λ (l : List DocRow). with_contents x.fields l m.pages m.words x) (sym s.docs)
    ∙ ap (λ (l : List PageRow). with_contents x.fields x.docs l m.words x) (sym s.pages)
    ∙ ap (λ (l : List PageWords). with_contents x.fields x.docs x.pages l x) (sym s.words)

pub agree-stays : (f : Production) (m n x y : Matter)
    → CallStays m x
    → CallStays n y
    → Agree f m n
    → Agree f x y
agree-stays f m n x y r s a =
    subst (λ (z : Matter). Agree f x z) (those-stay n y s)
    (subst (λ (z : Matter). Agree f z (with_those_of n y)) (those-stay m x r) (agree-with f m n x y a))
