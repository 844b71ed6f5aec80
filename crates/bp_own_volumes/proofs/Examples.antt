-- Worked examples: the operands and the counts of a small volume.
use Rattle.std.proofs.Common.{◌≡◌, ◌*◌, ℕ, None, Some, [], ◌∷◌, codes, refl}
use Rattle.bp_core.specs.declared.review.Basis.TheVariants.{Ac, Wp}
use Rattle.bp_core.specs.declared.review.Basis.{Basis}
use Rattle.bp_core.specs.declared.review.Treatment.TheVariants.{Withhold}
use Rattle.bp_core.specs.declared.stamps.Ink.TheVariants.{Lettered}
use Rattle.bp_check.specs.declared.files.TheConstants.{FILE_LIMIT}
use Rattle.bp_matter.specs.Matter.{Matter}
use Rattle.bp_matter.specs.declared.rows.Item.{Item}
use Rattle.bp_matter.specs.declared.rows.Production.{Production}
use Rattle.bp_matter.specs.declared.rows.Request.{Request}
use Rattle.bp_own_volumes.specs.OwnVolumes.{own_counts, own_operands}

abbrev asked : Request
asked = record {
  id = codes "R-1";
  volume = codes "V1";
  prefix = record { text = codes "AB-"; width = 4 };
  from = record { 0 = 1 };
  to = record { 0 = 2 };
  fields = [];
}

-- a document that is withheld, under one label
abbrev withheld : ℕ → Basis → Item
withheld number basis = record {
  doc = record { 0 = number };
  parent = record { 0 = number };
  treatment = Withhold basis;
  boxes = [];
  held = [];
  entry = None;
  designation = [];
  span = record { first = number; last = number };
}

-- two of them
abbrev two : Production
two = record { ink = Lettered; request = asked; items = withheld 1 Ac ∷ withheld 2 Wp ∷ []; span = record { first = 1; last = 2 } }

two_operands : own_operands asked
    ≡ record { dat = codes "V1/DATA/V1.DAT"; opt = codes "V1/DATA/V1.OPT"; manifest = Some (codes "V1/MANIFEST.TXT") }
two_operands = refl

-- two images, two texts, DAT, OPT and log are listed
two_counts : (m : Matter) → own_counts two m ≡ record { documents = 2; images = 2; files = 7 }
two_counts m = refl

limit : FILE_LIMIT ≡ 128 * (1024 * 1024)
limit = refl
