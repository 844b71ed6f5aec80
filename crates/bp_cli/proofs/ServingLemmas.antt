-- Lemmas of serving: from what serving a matter gave to how the work of serve ends.
use Rattle.std.proofs.Common.{ℕ, ◌≡◌, List, Option, None, Ok, Err, refl, sym, subst, ◌∙◌, sum}
use Rattle.std.specs.Prelude.{IfSome}
use Rattle.bp_desk.specs.Serving.{RoseBy}
use Rattle.bp_book.specs.declared.history.Made.{Made}
use Rattle.bp_frozen.specs.Frozen.{FreezeLaw}
use Rattle.bp_keep.specs.Keeper.{KeeperView}
use Rattle.bp_matter.specs.KeptRows.{rows_of}
use Rattle.bp_matter.specs.Matter.{Matter}
use Rattle.bp_outside.specs.Door.{DoorView}
use Rattle.bp_outside.specs.Out.{OutView}
use Rattle.bp_rules.specs.Loading.{LoadsTables}
use Rattle.bp_rules.specs.Steps.{KeepsRows, never, once}
use Rattle.bp_rules.specs.declared.refusals.MatterRefusal.{MatterRefusal}
use Rattle.bp_rules.specs.declared.refusals.MatterRefusal.TheVariants as refusals
use Rattle.bp_desk.specs.Matters.{ServesMatter, ServesNone, unasked, unloaded}
use Rattle.bp_cli.specs.declared.serve.ServeLine.{ServeLine}
use Rattle.bp_cli.specs.declared.stops.Stop.{Stop}
use Rattle.bp_cli.specs.declared.stops.Stop.TheVariants as stops
use Rattle.bp_cli.specs.Endings.{Ending}
use Rattle.bp_cli.specs.Serve.{ServesHall, ServeEnds, hall, nobody, unsaid, with_read}
use Rattle.bp_cli.specs.ServeSteps.{SaysServed, ServesWith}
use Rattle.bp_cli.specs.Stops.{StopsForMatter}
use Rattle.bp_cli.proofs.KeptLemmas.{keeps_matter, kept_rule, load_left, read_itself, rows_itself}

-- ---- nobody was served

refused_ends : {D : Type 0} (shows : D → DoorView) (asked : ServeLine) (before mid : KeeperView) (doors : List D) (out out' : OutView) (why : MatterRefusal) (stop : Stop) → LoadsTables before (Err why) mid → StopsForMatter why stop
    → ServeEnds shows asked (with_read mid.rows (hall before doors out)) (Err stop) None (hall mid doors out')
refused_ends {D} shows asked before mid doors out out' (refusals.Rule rule) stop loaded is =
    subst (λ (x : Stop). ServeEnds shows asked (with_read mid.rows (hall before doors out)) (Err x) None (hall mid doors out')) (sym is) (
      record { loaded = loaded.rule; kept = kept_rule mid.rows rule loaded.told_after },
      record { doors = refl; none = refl; keeper = load_left before mid (Err (refusals.Rule rule)) before.faults loaded loaded.faults },
    )
refused_ends {D} shows asked before mid doors out out' refusals.KeeperFault stop loaded is =
    subst (λ (x : Stop). ServeEnds shows asked (with_read mid.rows (hall before doors out)) (Err x) None (hall mid doors out')) (sym is)
    (record { doors = refl; none = refl; keeper = load_left before mid (Err refusals.KeeperFault) _ loaded loaded.faults })
refused_ends {D} shows asked before mid doors out out' refusals.OutOfMemory stop loaded is =
    subst (λ (x : Stop). ServeEnds shows asked (with_read mid.rows (hall before doors out)) (Err x) None (hall mid doors out')) (sym is)
    (nobody (record { doors = refl; none = refl; keeper = load_left before mid (Err refusals.OutOfMemory) before.faults loaded loaded.faults }))

not_started : {D : Type 0} (shows : D → DoorView) (asked : ServeLine) (before mid : KeeperView) (doors : List D) (out out' : OutView) (why : MatterRefusal) (stop : Stop) → LoadsTables before (Err why) mid → StopsForMatter why stop
    → ServesWith shows asked (hall before doors out) (Err stop) None (hall mid doors out')
not_started shows asked before mid doors out out' why stop loaded is = record {
  read = mid.rows;
  rows = read_itself before mid loaded.same;
  ends = refused_ends shows asked before mid doors out out' why stop loaded is;
  loads = once loaded.loads;
}

-- memory ran out before the keeper was asked
not_asked : {D : Type 0} (shows : D → DoorView) (asked : ServeLine) (before : KeeperView)
    (doors : List D) (out out' : OutView) (stop : Stop)
    → StopsForMatter refusals.OutOfMemory stop
    → ServesWith shows asked (hall before doors out) (Err stop) None (hall before doors out')
not_asked {D} shows asked before doors out out' stop is = record {
  read = before.rows;
  rows = read_itself before before (rows_itself before.rows);
  ends = subst (λ (x : Stop). ServeEnds shows asked (with_read before.rows (hall before doors out)) (Err x) None (hall before doors out')) (sym is)
      (nobody (record { doors = refl; none = refl; keeper = record { rows = rows_itself before.rows; faults = refl; sure = refl } }));
  loads = never refl;
}

pub nobody_served : {D : Type 0} (shows : D → DoorView) (asked : ServeLine) (before mid : KeeperView)
    (doors : List D) (out out' : OutView) (why : MatterRefusal) (stop : Stop)
    → ServesNone before why mid
    → StopsForMatter why stop
    → ServesWith shows asked (hall before doors out) (Err stop) None (hall mid doors out')
nobody_served {D} shows asked before mid doors out out' why stop (unloaded loaded) is =
    not_started shows asked before mid doors out out' why stop loaded is
nobody_served {D} shows asked before mid doors out out' why stop (unasked lacks same) is =
    subst (λ (k : KeeperView). ServesWith shows asked (hall before doors out) (Err stop) None (hall k doors out'))
    (sym same)
    (not_asked shows asked before doors out out' stop
    (subst (λ (w : MatterRefusal). StopsForMatter w stop) lacks is))

-- ---- a matter was served

module _ {D : Type 0} (shows : D → DoorView) (asked : ServeLine) (before : KeeperView)
    (given handed : List D) (history : List Made) (matter : Matter) (after : KeeperView)
    (out out' : OutView)
    (served : ServesMatter shows asked.desks asked.connections before given history matter after handed)
    (law : FreezeLaw)
  where
    serves : ServesHall shows asked (with_read served.book.keeper.rows (hall before given out)) history
        (hall after handed out')
    serves =
        let book = served.book in
        let opens = served.opens in record {
          opening = book.opening;
          valid = opens.valid;
          loaded = subst (λ (m : Matter). IfSome book.keeper.rows (λ rows. rows ≡ rows_of m)) opens.opening
              (keeps_matter book.keeper.rows opens.tables opens.loaded.told_after);
          kept = subst (λ (m : Matter). KeepsRows after m) served.tables served.rows;
          callers = served.callers;
          room = served.fits;
          frozen = law book.opening history;
          failed = served.failed;
          counted = served.counted;
          served = served.doors;
          rose = subst (λ (n : ℕ). RoseBy (sum served.failed) n after.faults) opens.loaded.faults
              served.rose;
          sure = served.stays.sure ∙ opens.loaded.sure;
        }

    said : (e : Ending) (made : Option (List Made)) → SaysServed history e made
        → ServeEnds shows asked (with_read served.book.keeper.rows (hall before given out)) e made
        (hall after handed out')
    said (Ok line) made says =
        subst (λ (m : Option (List Made)). ServeEnds shows asked (with_read served.book.keeper.rows (hall before given out)) (Ok line) m (hall after handed out')) (sym says.1)
        (serves, says.0)
    said (Err stops.OutOfMemory) made says = unsaid history serves says
    said (Err (stops.Broken rule)) made says = absurd says
    said (Err stops.WordsRefused) made says = absurd says
    said (Err stops.SourceFault) made says = absurd says
    said (Err stops.FolderFault) made says = absurd says
    said (Err stops.KeeperFault) made says = absurd says

    pub matter_served : (e : Ending) (made : Option (List Made)) → SaysServed history e made
        → ServesWith shows asked (hall before given out) e made (hall after handed out')
    matter_served e made says = record {
      read = served.book.keeper.rows;
      rows = record { same = served.opens.loaded.same; told = served.stays.told };
      ends = said e made says;
      loads = once (served.stays.loads ∙ served.opens.loaded.loads);
    }
