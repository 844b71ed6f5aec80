-- Files that are ready stay so after calls.
use Rattle.std.proofs.Common.{◌≡◌, ℕ, List, Option, Some, None, refl, sym, ap, subst, ◌∙◌}
use Rattle.std.specs.Prelude.{Result, Ok, Err}
use Rattle.std.proofs.lemmas.List.Elements.{All-weaker}
use Rattle.bp_keep.specs.Keeper.{KeeperView}
use Rattle.bp_matter.specs.Matter.{Matter}
use Rattle.bp_matter.specs.declared.calls.Call.{Call}
use Rattle.bp_matter.specs.declared.calls.Reply.{Reply}
use Rattle.bp_matter.specs.declared.rows.Production.{Production}
use Rattle.bp_freeze.specs.Freezing.{kept_production}
use Rattle.bp_freeze.specs.Keeping.{KeepsProduction}
use Rattle.bp_freeze.proofs.KeptLemmas.{kept-id}
use Rattle.bp_outside.specs.declared.files.FileRow.{FileRow}
use Rattle.bp_press.specs.Answering.{file_answer}
use Rattle.bp_press.specs.Contents.{produced_page}
use Rattle.bp_press.specs.Volume.{volume_of}
use Rattle.bp_rules.specs.Stepping.{step_of}
use Rattle.bp_rules.specs.Steps.{StepsCall}
use Rattle.bp_rules.specs.declared.refusals.MatterRefusal.{MatterRefusal}
use Rattle.bp_rules.specs.declared.refusals.MatterRefusal.TheVariants as stops
use Rattle.bp_receiver.specs.Contents.{CallStays}
use Rattle.bp_receiver.specs.Ready.{AreReady, IsGiven, IsReady}
use Rattle.bp_receiver.specs.Receiving.{file_given, given_file}
use Rattle.bp_receiver.specs.declared.events.Given.TheVariants as gives
use Rattle.bp_receiver.specs.declared.ready.ReadyFile.{ReadyFile}
use Rattle.bp_receiver.proofs.AgreeLemmas.{those-stay, with_those_of}
use Rattle.bp_receiver.proofs.CallLemmas.{Staying, step-stays}
use Rattle.bp_receiver.proofs.StayLemmas.{stays-itself}

-- ---- what calls leave

-- a matter with the same contents gives a production the same volume
same-files : (f : Production) (m n : Matter) → volume_of f (with_those_of m n) ≡ volume_of f m
unfolding volume_of produced_page
same-files f m n = refl

files-stay : (f : Production) (m n : Matter) → CallStays m n → volume_of f n ≡ volume_of f m
files-stay f m n stays = sym (ap (volume_of f) (those-stay m n stays)) ∙ same-files f m n

-- a file of a kept production is given still
kept-given : (m n : Matter) (path bytes : List ℕ) (f : Production)
    → CallStays m n
    → file_given m path (Some f) ≡ Ok (gives.File bytes)
    → file_given n path (Some f) ≡ Ok (gives.File bytes)
kept-given m n path bytes f stays given =
    ap (λ (files : List FileRow). given_file (file_answer path files)) (files-stay f m n stays) ∙ given

given-stays : (m n : Matter) (id path bytes : List ℕ) (kept : Option Production)
    → kept_production m.productions id ≡ kept
    → CallStays m n
    → file_given m path kept ≡ Ok (gives.File bytes)
    → IsGiven n id path bytes
given-stays m n id path bytes None is stays given = absurd cc
given-stays m n id path bytes (Some f) is stays given =
    let same : f.request.id ≡ id = kept-id m.productions id f is in
    let keeps : KeepsProduction m f = subst (λ (i : List ℕ). kept_production m.productions i ≡ Some f) (sym same) is in
    let still : kept_production n.productions id ≡ Some f =
    subst (λ (i : List ℕ). kept_production n.productions i ≡ Some f) same (stays.productions f keeps) in
    ap (file_given n path) still ∙ kept-given m n path bytes f stays given

file-stays : (m n : Matter) → CallStays m n → (file : ReadyFile) → IsReady m file → IsReady n file
file-stays m n stays file ready = record {
  given =
      given-stays m n file.id file.path file.bytes (kept_production m.productions file.id) refl
      stays ready.given;
  whole = ready.whole;
}

pub ready-stay : (m n : Matter) (ready : List ReadyFile)
    → CallStays m n
    → AreReady m ready
    → AreReady n ready
ready-stay m n ready stays are = record {
  each = All-weaker (IsReady m) (IsReady n) (file-stays m n stays) ready are.each;
  once = are.once;
}

-- what a step that was made leaves
made-stays : (m : Matter) (key : List ℕ) (call : Call) (reply : Reply) (n : Matter)
    → step_of m key call ≡ Ok (record { reply = reply; matter = n })
    → CallStays m n
made-stays m key call reply n made = subst (Staying m) made (step-stays m key call)

equal-stays : (m n : Matter) → n ≡ m → CallStays m n
equal-stays m n same = subst (CallStays m) (sym same) (stays-itself m)

-- whatever came of a step
pub step-leaves : (m : Matter) (key : List ℕ) (call : Call) (keeper : KeeperView)
    (made : Result Reply MatterRefusal) (n : Matter) (keeper' : KeeperView)
    → StepsCall m key call keeper made n keeper'
    → CallStays m n
step-leaves m key call keeper (Ok reply) n keeper' c =
    subst (CallStays m) (sym c.made.matter) (made-stays m key call reply _ c.answer)
step-leaves m key call keeper (Err (stops.Rule rule)) n keeper' c = equal-stays m n c.1
step-leaves m key call keeper (Err stops.KeeperFault) n keeper' c = equal-stays m n c.1.matter
step-leaves m key call keeper (Err stops.OutOfMemory) n keeper' c = equal-stays m n c.matter
