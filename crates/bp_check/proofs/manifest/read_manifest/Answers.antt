use Rattle.std.proofs.Common.{◌+◌, ◌∷◌, [], ◌∙◌, Vec, map, ap, arith}
use Rattle.std.specs.declared.alloc.Global.{Global}
use Rattle.std.proofs.lemmas.List.{map-append}
use Rattle.bp_check.specs.Manifest.{between_newlines, listed_from, listed_files}
use Rattle.bp_check.specs.Seen.{listed_seen}
use Rattle.bp_check.specs.Steps.{behind}
use Rattle.bp_check.specs.declared.manifest.ListedFile.{ListedFile}
use Rattle.bp_check.proofs.ManifestLemmas.{line_listed, line_refused}
use Rattle.bp_check.proofs.manifest.read_manifest.Goals as goal

pub returns-in-Err : goal.returns-in-Err
returns-in-Err c =
    let l = c.loop-rest in
    line_refused {X = ListedFile} {Y = Vec ListedFile Global} listed_seen (λ rows. map listed_seen rows.items) (l.number + 1) (map listed_seen l.listed.items)
    l.rest.now c.in-Some.line.now c.in-Some.after.now (listed_files c.args.bytes.now) c.in-Err.refusal c.in-Some.ensures.line c.in-Err.ensures l.invariant.told

pub loop-rest-preserved : goal.loop-rest-preserved
loop-rest-preserved c =
    let l = c.loop-rest in
    let file = c.in-Ok.file in
    let after = c.in-Some.after.now in
    let others = listed_from (l.number + 1 + 1) (between_newlines after) in
    record {
      counted = omega (arith, l.invariant.counted, c.in-Some.ensures.shorter);
      told =
          ap (λ items. behind (map listed_seen items) others) c.in_ok-push.ensures.items
          ∙ ap (λ front. behind front others) (map-append listed_seen l.listed.items (file ∷ []))
          ∙ line_listed (l.number + 1) (map listed_seen l.listed.items) l.rest.now c.in-Some.line.now after (listed_seen file) c.in-Some.ensures.line c.in-Ok.ensures
          ∙ l.invariant.told;
    }
