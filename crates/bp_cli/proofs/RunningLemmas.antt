-- Lemmas of a run: from what serving, delivering, or another command, promises to what the run promises
-- of its words.
use Rattle.std.proofs.Common.{ℕ, ◌≡◌, ◌<◌, List, [], ◌∷◌, length, Option, Some, None, arith, refl, sym, ap, subst}
use Rattle.std.specs.Prelude.{IsSomeAnd, slice_index_or, slice_set}
use Rattle.bp_book.specs.declared.history.Made.{Made}
use Rattle.bp_keep.specs.Keeper.{KeeperView}
use Rattle.bp_outside.specs.Door.{DoorView}
use Rattle.bp_outside.specs.Folder.{FolderView}
use Rattle.bp_outside.specs.Out.{OutView}
use Rattle.bp_outside.specs.Source.{SourceView}
use Rattle.bp_cli.specs.Commands.{CommandLine, ReadsAsOften}
use Rattle.bp_cli.specs.Deliver.{DeliverAsked, DeliversOver, office}
use Rattle.bp_cli.specs.RunWords.{Asked, DeliversAt, ReadsFor, RunsAsked, RunsOther, desk_side, moment}
use Rattle.bp_cli.specs.Runs.{Outside, outside, RunsOverRows}
use Rattle.bp_cli.specs.declared.serve.ServeLine.{ServeLine}
use Rattle.bp_cli.specs.Serve.{ServesOver, hall}
use Rattle.bp_cli.proofs.WorkLemmas.{never_read}
use Rattle.bp_rules.specs.Steps.{AtMostOnce, never}

pub asked_to_serve : {D K : Type 0} (shows : D → DoorView) (view : K → KeeperView) (asked : Option ServeLine) (others : Asked) (line : ServeLine) (kept : Option K) (s : SourceView) (k : KeeperView) (f : FolderView) (o o' : OutView) (given handed : List D) (history : Option (List Made)) (status : ℕ) → Some line ≡ asked
    → IsSomeAnd kept (λ x. ServesOver shows line (hall k given o) history (hall (view x) handed o') status)
    → IsSomeAnd kept (λ x. RunsAsked shows asked others (moment (outside s k f o) given) history (moment (outside s (view x) f o') handed) status)
asked_to_serve shows view asked others line None s k f o o' given handed history status is serves = absurd serves
asked_to_serve shows view asked others line (Some x) s k f o o' given handed history status is serves =
    subst (λ (a : Option ServeLine). RunsAsked shows a others (moment (outside s k f o) given) history (moment (outside s (view x) f o') handed) status) is
    (record { serves = serves; source = refl; folder = refl })

pub asked_else : {D K : Type 0} (shows : D → DoorView) (asked : Asked) (kept : Option K) (before : Outside) (after : K → Outside) (given handed : List D) (history : Option (List Made)) (status : ℕ) → None ≡ asked.serves
    → IsSomeAnd kept (λ x. RunsOther shows asked.delivers asked.command (moment before given) history (moment (after x) handed) status)
    → IsSomeAnd kept (λ x. RunsAsked shows asked.serves asked (moment before given) history (moment (after x) handed) status)
asked_else shows asked None before after given handed history status is runs = absurd runs
asked_else shows asked (Some x) before after given handed history status is runs =
    subst (λ (a : Option ServeLine). RunsAsked shows a asked (moment before given) history (moment (after x) handed) status) is runs

pub asked_to_deliver : {D K : Type 0} (shows : D → DoorView) (view : K → KeeperView) (asked : Option DeliverAsked) (command : Option CommandLine) (line : DeliverAsked) (kept : Option K) (s s' : SourceView) (k : KeeperView) (f : FolderView) (o o' : OutView) (given handed : List D) (history : Option (List Made)) (status : ℕ) → Some line ≡ asked → history ≡ None
    → IsSomeAnd kept (λ x. DeliversAt shows line (desk_side s k given o) (desk_side s' (view x) handed o') status)
    → IsSomeAnd kept (λ x. RunsOther shows asked command (moment (outside s k f o) given) history (moment (outside s' (view x) f o') handed) status)
asked_to_deliver shows view asked command line None s s' k f o o' given handed history status is none delivers = absurd delivers
asked_to_deliver shows view asked command line (Some x) s s' k f o o' given handed history status is none delivers =
    subst (λ (a : Option DeliverAsked). RunsOther shows a command (moment (outside s k f o) given) history (moment (outside s' (view x) f o') handed) status) is
    (record { delivers = delivers; folder = refl; none = none })

pub asked_command : {D K : Type 0} (shows : D → DoorView) (asked : Option DeliverAsked) (command : Option CommandLine) (kept : Option K) (before : Outside) (after : K → Outside) (given handed : List D) (history : Option (List Made)) (status : ℕ) → None ≡ asked → handed ≡ given → history ≡ None
    → IsSomeAnd kept (λ x. RunsOverRows command before (after x) status)
    → IsSomeAnd kept (λ x. RunsOther shows asked command (moment before given) history (moment (after x) handed) status)
asked_command shows asked command None before after given handed history status is same none runs = absurd runs
asked_command shows asked command (Some x) before after given handed history status is same none runs =
    subst (λ (a : Option DeliverAsked). RunsOther shows a command (moment before given) history (moment (after x) handed) status) is
    (record { runs = runs; leaves = record { doors_are = same; none = none } })

-- ---- the first door

-- a list that begins so, with its first member changed
pub first_set : {D : Type 0} (given : List D) (was door : D) → 0 < length given → was ≡ slice_index_or given 0 was → (others : List D) × ((given ≡ was ∷ others) × (slice_set given 0 door ≡ door ∷ others))
first_set [] was door some there = absurd (omega (arith, some))
first_set {D} (first ∷ others) was door some there = (others, (ap (λ (x : D). x ∷ others) (sym there), refl))

-- the first door was served
pub delivers_at : {D : Type 0} (shows : D → DoorView) (asked : DeliverAsked) (s s' : SourceView) (k k' : KeeperView) (o o' : OutView) (given handed : List D) (first door : D) (others : List D) (status : ℕ) → given ≡ first ∷ others → handed ≡ door ∷ others
    → DeliversOver asked (office s k (shows first) o) (office s' k' (shows door) o') status
    → DeliversAt shows asked (desk_side s k given o) (desk_side s' k' handed o') status
delivers_at shows asked s s' k k' o o' given handed first door others status was is over =
    record { given = first; handed = door; others = others; given_first = was; handed_first = is; delivers = over }

-- ---- how often a run reads

-- nothing was read
pub none_read : (asked : Option DeliverAsked) (command : Option CommandLine) (n : ℕ) → ReadsFor asked command n n
none_read None command n = never_read command n
none_read (Some asked) command n = never refl

pub delivering_read : (asked : Option DeliverAsked) (line : DeliverAsked) (command : Option CommandLine) (before now : ℕ) → Some line ≡ asked → AtMostOnce before now → ReadsFor asked command before now
delivering_read asked line command before now is most = subst (λ (a : Option DeliverAsked). ReadsFor a command before now) is most

pub command_read : (asked : Option DeliverAsked) (command : Option CommandLine) (before now : ℕ) → None ≡ asked → ReadsAsOften command before now → ReadsFor asked command before now
command_read asked command before now is often = subst (λ (a : Option DeliverAsked). ReadsFor a command before now) is often
