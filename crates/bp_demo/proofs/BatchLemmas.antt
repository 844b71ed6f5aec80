-- The batch of a demo is one that an import takes.
use Rattle.std.proofs.Common.{◌≡◌, ℕ, ◌<◌, ◌≤◌, ◌^◌, List, [], length, refl, sym, ap, arith, subst}
use Rattle.std.specs.Prelude.{codes}
use Rattle.std.proofs.lemmas.Bool.{eq-eqb, lt-ltb}
use Rattle.sha2.specs.Sha256.{sha256}
use Rattle.sha2.proofs.Facts256.{length-sha256}
use Rattle.bp_matter.specs.Batches.{IsBatch, pages_in}
use Rattle.bp_matter.specs.declared.batches.BatchDoc.{BatchDoc}
use Rattle.bp_demo.specs.Batch.{batch_of}
use Rattle.bp_demo.specs.Documents.{documents, pages_drawn}
use Rattle.bp_demo.proofs.PileLemmas.{AreSound, documents_sound, pages_sound}

-- whatever the digest, if it has 32 bytes
pub sound_batch : (digest : List ℕ) (n : ℕ) (docs : List BatchDoc) → length digest ≡ 32 → n < 2000 → AreSound n docs
    → IsBatch (record { name = codes "demo"; digest = digest; fields = []; docs = docs })
sound_batch digest n docs long small s =
    let few = s.few in
    let count = s.count in
    record {
      name = refl;
      digest = eq-eqb (length digest) 32 long;
      fields = refl;
      names_differ = refl;
      families = s.families;
      docs = s.fit;
      few_fields = refl;
      few_docs = lt-ltb (length docs) (2 ^ 32) (omega arith);
      few_pages = lt-ltb (pages_in docs) (2 ^ 32) (omega arith);
      written = s.written;
    }

pub drawn_sound : (seed n : ℕ) → n < 2000 → AreSound n (documents (pages_drawn seed n))
drawn_sound seed n small = documents_sound n (pages_drawn seed n) small (pages_sound seed n small)

-- the batch of the documents that are drawn
pub drawn_batch : (docs : List BatchDoc) (seed n : ℕ) → n < 2000 → docs ≡ documents (pages_drawn seed n) → IsBatch (batch_of docs)
drawn_batch docs seed n small is =
    subst (λ ds. IsBatch (batch_of ds)) (sym is) (sound_batch (sha256 []) n (documents (pages_drawn seed n)) (length-sha256 []) small (drawn_sound seed n small))

pub drawn_few : (docs : List BatchDoc) (seed n : ℕ) → n < 2000 → docs ≡ documents (pages_drawn seed n) → length docs ≤ 2000
drawn_few docs seed n small is = let few = (drawn_sound seed n small).few in omega (arith, ap length is)
