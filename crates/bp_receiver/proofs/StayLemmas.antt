-- What a call leaves of what volumes are made of.
use Rattle.std.proofs.Common.{◌≡◌, List, ◌++◌, refl, ap, ◌∙◌}
use Rattle.bp_matter.specs.Matter.{Matter}
use Rattle.bp_matter.specs.declared.rows.ProductionRow.{ProductionRow}
use Rattle.bp_freeze.specs.Freezing.{kept_production}
use Rattle.bp_freeze.proofs.KeptLemmas.{kept-more}
use Rattle.bp_receiver.specs.Contents.{CallStays}

-- a matter that differs in other lists alone
pub stays-others : (m n : Matter)
    → n.fields ≡ m.fields
    → n.docs ≡ m.docs
    → n.pages ≡ m.pages
    → n.words ≡ m.words
    → n.productions ≡ m.productions
    → CallStays m n
stays-others m n fields docs pages words productions =
    record {
      fields = fields;
      docs = docs;
      pages = pages;
      words = words;
      productions = λ f kept.
          ap (λ (rows : List ProductionRow). kept_production rows f.request.id) productions ∙ kept;
    }

pub stays-itself : (m : Matter) → CallStays m m
stays-itself m = stays-others m m refl refl refl refl refl

-- one after the other
pub stays-then : (m n o : Matter) → CallStays m n → CallStays n o → CallStays m o
stays-then m n o r s =
    record {
      fields = s.fields ∙ r.fields;
      docs = s.docs ∙ r.docs;
      pages = s.pages ∙ r.pages;
      words = s.words ∙ r.words;
      productions = λ f kept. s.productions f (r.productions f kept);
    }

-- more productions, whatever becomes of the prefixes
pub stays-behind : (m n : Matter) (more : List ProductionRow)
    → n.fields ≡ m.fields
    → n.docs ≡ m.docs
    → n.pages ≡ m.pages
    → n.words ≡ m.words
    → n.productions ≡ m.productions ++ more
    → CallStays m n
stays-behind m n more fields docs pages words productions =
    record {
      fields = fields;
      docs = docs;
      pages = pages;
      words = words;
      productions = λ f kept.
          ap (λ (rows : List ProductionRow). kept_production rows f.request.id) productions
          ∙ kept-more m.productions more f.request.id f kept;
    }
