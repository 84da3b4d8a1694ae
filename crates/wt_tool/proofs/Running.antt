-- What a run of a command is to the definitions.
use Rattle.std.specs.Prelude.{◌≡◌, ◌⊎◌, ℕ, Bool, not, ◌+◌, ◌<◌, List, [], ◌∷◌, ◌++◌, filter, length, IsTrue, Option, MatchOption, Some, None, IfErr, OnOk, Result, Ok, Err, refl}
use Rattle.std.proofs.Common.{inl, inr, sym, ap, subst, ◌∙◌, arith}
use Rattle.std.specs.List.{AllByRecursion}
use Rattle.std.proofs.lemmas.List.{append-nil}
use Rattle.failure.specs.Counts.{Rose, HasCause}
use Rattle.disk_model.specs.Crash.{LeavesOnly, Looked}
use Rattle.disk_model.specs.declared.disk.Disk.{Ghosts}
use Rattle.disk_model.proofs.Crash.{joined, widened}
use Rattle.kv_model.specs.Machine.{Machine, Completed}
use Rattle.kv_model.specs.Content.{Content, start, IsLayered}
use Rattle.stored.specs.Stored.{Stored, Reads, IsOn, IsBlank}
use Rattle.wt_code.specs.declared.refusals.Refusal.{Refusal}
use Rattle.wt_code.specs.declared.refusals.Refusal.TheVariants.{NoMemory, DiskFault, Corrupt, Limit as Refusal_Limit, Invalid as Refusal_Invalid}
use Rattle.wt_code.specs.declared.refusals.Invalid.TheVariants.{BadName}
use Rattle.wt_code.specs.declared.refusals.Limit.TheVariants.{Tables, Checkpoints}
use Rattle.wt_io.specs.Streams.{Gave, Took}
use Rattle.turtle.proofs.Choice.{chooses_one}
use Rattle.checkpoint_core.specs.Stands.{HasStill}
use Rattle.device_leaf.specs.Closings.{content_was}
use Rattle.tree_open.proofs.Steps.{refused_more}
use Rattle.recover_open.proofs.Devices.{whole_damage_no_content}
use Rattle.recover_open.specs.Wholes.{IsWholeDamage}
use Rattle.engine_store.specs.declared.store.Store.{Store}
use Rattle.engine_store.specs.Opened.{HasNumbers, IsAtFault, IsOpened, LacksNumbers, OpenRefused}
use Rattle.engine_store.proofs.Refusing.{spoilt_no_content}
use Rattle.stored.proofs.Device.{one_content, one_stored}
use Rattle.device_read.specs.Refusals.{HasNumbers as HasNumbersLeft, LeafIsAtFault, OpenRefused as ReaderRefused}
use Rattle.device_read.proofs.LeafPlaces.{at_fault}
use Rattle.wt_line.specs.Line.{Asked, create, write, read, list, verify, script, dump, load}
use Rattle.script_run.specs.Scripts.{Outside, counts}
use Rattle.wt_tool.specs.Points.{Point, Ran, point_of, stops}
use Rattle.engine_store.specs.Devices.{Device, Installed, device_of, last_number, IsUsedUp}
use Rattle.wt_tool.specs.Openings.{Named, RefusesOpening, MayOpen, Opens, Opened}
use Rattle.wt_tool.specs.Commands.{Runs, IsOnEngine, IsByReader}
use Rattle.wt_tool.specs.Damaged.{DumpsTableOn, ReadsKeysOn, RunsDumpOn, RunsOn, RunsReadOn, device_on, point_on}
use Rattle.wt_tool.specs.Dumps.{DumpsTable, RunsDump, form_of, way_of}
use Rattle.wt_tool.specs.Reads.{ReadsKeys, RunsRead}
use Rattle.wt_tool.specs.Words.{name_in}
use Rattle.wt_tool.specs.Parts.{at, NoDamage, TellsOfScript, TellsSpoilt, IsOpenedOn, Leaves, Loading, Reading, Scripting, met_of, end_of, silent_run}
use Rattle.wt_tool.specs.Loads.{RunsLoad}
use Rattle.wt_tool.specs.Top.{Went, WentOn, Telling, IsOpenableFor, IsReadable, IsSoFor, IsToldOf, IsStatus, Tells, IsTold, IsCut, Streams, Errors, lines, last_line, status_of, first_status, status_at}
use Rattle.engine_store.specs.Images.{OpensToLast, Stays}
use Rattle.wt_tool.proofs.Closings.{still_reads, start_opens}
use Rattle.wt_tool.proofs.FaultyLeaves.{engine_leaf, leaf_fault}

-- ---- the opening

-- the checkpoint that is on the device is the one that was opened
one_still : (bytes : List ℕ) (old : Option Stored) (s : Stored) → HasStill old bytes → IsOn bytes s → old ≡ Some s
one_still bytes None s blank on = let e : None ≡ Some s.slot = chooses_one bytes None (Some s.slot) blank.shut on.chosen in absurd (cc)
one_still bytes (Some t) s there on = ap (λ (x : Stored). Some x) (one_stored bytes t s there on)

run_below : (old : Option Stored) → HasNumbers old → (content_was old).run < last_number
run_below None numbers = omega (arith)
run_below (Some s) numbers = numbers.0

-- of a store that was opened on a disk that reads and was looked at
module _ {D : Type 0} (g : Ghosts D) (old mid : D) (s : Store) (looked : Looked g old mid) (on : IsOpenedOn g mid s) (content : Content) (reads : Reads (g.seen old) content) (layered : IsLayered content) where
  opened : IsOpened (g.seen mid) (g.may_leave mid) s
  opened = on.reads content (subst (λ (l : List ℕ). Reads l content) (sym looked.content) reads) layered

  still_there : HasStill opened.old (g.seen old)
  still_there = subst (λ (l : List ℕ). HasStill opened.old l) looked.content opened.on.stands.seen_has

  one_there : (t : Stored) → IsOn (g.seen old) t → opened.old ≡ Some t
  one_there t on_disk = one_still (g.seen old) opened.old t still_there on_disk

  was : content ≡ content_was opened.old
  was = one_content (g.seen old) content (content_was opened.old) reads (still_reads opened.old (g.seen old) still_there)

  pub may_open : MayOpen (point_of g (start content) old)
  may_open = record {
    numbers = λ used. absurd (omega (arith, used.2, (subst (λ (o : Option Stored). HasNumbers o) (one_there used.0 used.1) opened.numbers).1));
    run = λ same. omega (arith, same, subst (λ (c : Content). c.run < last_number) (sym was) (run_below opened.old opened.numbers));
  }

-- a refusal of an opening that began later
pub open_further : (fault later : Type 0) (h k : Type 0) (bytes : List ℕ) (r : Refusal) → OpenRefused later k bytes r → (later → fault) → (h → k) → OpenRefused fault h bytes r
open_further fault later h k bytes r (inl why) more known = inl (refused_more later fault k h (IsAtFault bytes) (IsAtFault bytes) r more known (λ at want found h fault. fault) why)
open_further fault later h k bytes r (inr (inl (is, why))) more known = inr (inl (is, λ x. why (known x)))
open_further fault later h k bytes r (inr (inr (is, lacks, shut))) more known = inr (inr (is, (λ x. lacks (known x)), λ x. shut (known x)))

-- a device that reads as something is blank or has a checkpoint
used_of : (bytes : List ℕ) (content : Content) → Reads bytes content → ((s : Stored) → IsOn bytes s → LacksNumbers s.kept) → (IsBlank bytes → ⊥) → IsUsedUp bytes
used_of bytes content (inl (blank, is)) lacks shut = absurd (shut blank)
used_of bytes content (inr (s, on, is)) lacks shut = (s, on, lacks s on)

-- there is no damage of a device that reads, and no leaf at fault
fault_no_content : (bytes : List ℕ) (at want found : ℕ) (content : Content) → IsAtFault bytes at want found → Reads bytes content → ⊥
fault_no_content bytes at want found content (inl damage) reads = whole_damage_no_content bytes at want found content damage reads
fault_no_content bytes at want found content (inr spoilt) reads = spoilt_no_content bytes at want found content spoilt reads

-- why a device that reads is not opened
pub refused_at : (d d' : Device) (known : Type 0) (content : Content) (r : Refusal) → known → Reads d.seen content → OpenRefused (Rose d.faults d'.faults) known d.seen r → RefusesOpening (at d (start content)) d' r
refused_at d d' known content r k reads (inl (inl failed)) = inl failed
refused_at d d' known content r k reads (inl (inr (inl none))) = inr (inl none)
refused_at d d' known content r k reads (inl (inr (inr (at_place, want, found, is, why)))) = absurd (fault_no_content d.seen at_place want found content (why k) reads)
refused_at d d' known content r k reads (inr (inl (is, why))) = inr (inr (inr (is, ap (λ n. n + 1) (why k content reads))))
refused_at d d' known content r k reads (inr (inr (is, lacks, shut))) = inr (inr (inl (is, used_of d.seen content reads (lacks k) (shut k))))

pub refused_open : {D : Type 0} (g : Ghosts D) (old new : D) (known : Type 0) (content : Content) (r : Refusal) → known → Reads (g.seen old) content → OpenRefused (Rose (g.faults old) (g.faults new)) known (g.seen old) r
    → RefusesOpening (point_of g (start content) old) (device_of g new) r
refused_open g old new known content r k reads why = refused_at (device_of g old) (device_of g new) known content r k reads why

-- why a device that reads is not read by a reader
pub reader_refused_at : (d d' : Device) (known : Type 0) (content : Content) (r : Refusal) → known → Reads d.seen content → ReaderRefused (Rose d.faults d'.faults) known d.seen r → RefusesOpening (at d (start content)) d' r
reader_refused_at d d' known content r k reads (inl (inl failed)) = inl failed
reader_refused_at d d' known content r k reads (inl (inr (inl none))) = inr (inl none)
reader_refused_at d d' known content r k reads (inl (inr (inr (at_place, want, found, is, why)))) = absurd (whole_damage_no_content d.seen at_place want found content (why k) reads)
reader_refused_at d d' known content r k reads (inr (inl (is, why))) = inr (inr (inr (is, ap (λ n. n + 1) (why k content reads))))
reader_refused_at d d' known content r k reads (inr (inr (is, lacks, shut))) = inr (inr (inl (is, used_of d.seen content reads (lacks k) (shut k))))

pub refused_reader : {D : Type 0} (g : Ghosts D) (old new : D) (known : Type 0) (content : Content) (r : Refusal) → known → Reads (g.seen old) content → ReaderRefused (Rose (g.faults old) (g.faults new)) known (g.seen old) r
    → RefusesOpening (point_of g (start content) old) (device_of g new) r
refused_reader g old new known content r k reads why = reader_refused_at (device_of g old) (device_of g new) known content r k reads why

-- a fault of the disk is told only where its count rose
pub reader_fault : (fault known : Type 0) (bytes : List ℕ) (r : Refusal) → ReaderRefused fault known bytes r → r ≡ DiskFault → fault
reader_fault fault known bytes r (inl (inl (is, failed))) told = failed
reader_fault fault known bytes r (inl (inr (inl is))) told = let e : NoMemory ≡ DiskFault = sym is ∙ told in absurd cc
reader_fault fault known bytes r (inl (inr (inr (at_place, want, found, is, why)))) told = let e : Corrupt at_place want found ≡ DiskFault = sym is ∙ told in absurd cc
reader_fault fault known bytes r (inr (inl (is, why))) told = let e : Refusal_Limit Checkpoints ≡ DiskFault = sym is ∙ told in absurd cc
reader_fault fault known bytes r (inr (inr (is, lacks, shut))) told = let e : Refusal_Limit Tables ≡ DiskFault = sym is ∙ told in absurd cc

-- the same of a device that a reader was opened on
pub reader_may_open : (d : Device) (content : Content) → ((s : Stored) → IsOn d.seen s → HasNumbersLeft s.kept) → Reads d.seen content → MayOpen (at d (start content))
reader_may_open d content numbers reads = record {
  numbers = λ used. absurd (omega (arith, used.2, (numbers used.0 used.1).1));
  run = λ same. by_content reads same;
}
  where
    by_content : Reads d.seen content → (start content).run ≡ last_number + 1 → ⊥
    by_content (inl (blank, is)) same = let none : content.run ≡ 0 = ap (λ (c : Content). c.run) is in omega (arith, same, none)
    by_content (inr (s, on, is)) same = let run : content.run ≡ s.kept.run = ap (λ (c : Content). c.run) is in omega (arith, same, run, (numbers s on).0)

-- a disk that was only looked at
pub opens_of : {D : Type 0} (g : Ghosts D) (m : Machine) (old mid : D) → Looked g old mid → Opens (point_of g m old) (point_of g m mid)
opens_of g m old mid looked = record { later = record { faults = looked.count; moment = looked.later }; machine = refl; seen = looked.content; capacity = looked.capacity }

-- the same with the whole device in the place of what a read gives
pub opens_on : {D : Type 0} (g : Ghosts D) (whole : List ℕ) (m : Machine) (old mid : D) → Looked g old mid → Opens (point_on g whole m old) (point_on g whole m mid)
opens_on g whole m old mid looked = record { later = record { faults = looked.count; moment = looked.later }; machine = refl; seen = refl; capacity = looked.capacity }

pub opens_same_on : {D : Type 0} (g : Ghosts D) (whole : List ℕ) (m : Machine) (disk : D) → Opens (point_on g whole m disk) (point_on g whole m disk)
opens_same_on g whole m disk = record { later = record { faults = omega arith; moment = omega arith }; machine = refl; seen = refl; capacity = refl }

pub opens_same : {D : Type 0} (g : Ghosts D) (m : Machine) (disk : D) → Opens (point_of g m disk) (point_of g m disk)
opens_same g m disk = record { later = record { faults = omega arith; moment = omega arith }; machine = refl; seen = refl; capacity = refl }

-- a command on an engine, where its opening is refused
pub not_opened : (o : Outside) (asked : Asked) (p : Point) (ran : Ran) → IsOnEngine asked → (r : Refusal) × (q : Point) × Opens p q × RefusesOpening p q.device r × (ran ≡ stops r q) → Runs o asked p ran
not_opened o (create config uri) p ran on why = inl why
not_opened o (write overwrite uri pairs) p ran on why = inl why
not_opened o (read uri keys) p ran on why = absurd on
not_opened o list p ran on why = absurd on
not_opened o (verify uri) p ran on why = absurd on
not_opened o script p ran on why = inl why
not_opened o (dump hex reverse uri) p ran on why = absurd on
not_opened o (load no_overwrite name) p ran on why = inl why

-- a command that answers from the device itself
pub not_read : (o : Outside) (asked : Asked) (p : Point) (ran : Ran) → IsByReader asked → (r : Refusal) × (q : Point) × Opens p q × RefusesOpening p q.device r × (ran ≡ stops r q) → Runs o asked p ran
not_read o (read uri keys) p ran by why = inl why
not_read o list p ran by why = inl why
not_read o (dump hex reverse uri) p ran by why = inl why
not_read o (create config uri) p ran by why = absurd by
not_read o (write overwrite uri pairs) p ran by why = absurd by
not_read o (verify uri) p ran by why = absurd by
not_read o script p ran by why = absurd by
not_read o (load no_overwrite name) p ran by why = absurd by

pub not_read_on : (o : Outside) (bytes : List ℕ) (asked : Asked) (p : Point) (ran : Ran) → IsByReader asked → (r : Refusal) × (q : Point) × Opens p q × RefusesOpening p q.device r × (ran ≡ stops r q) → RunsOn o bytes asked p ran
not_read_on o bytes (read uri keys) p ran by why = inl why
not_read_on o bytes list p ran by why = inl why
not_read_on o bytes (dump hex reverse uri) p ran by why = inl why
not_read_on o bytes (create config uri) p ran by why = absurd by
not_read_on o bytes (write overwrite uri pairs) p ran by why = absurd by
not_read_on o bytes (verify uri) p ran by why = absurd by
not_read_on o bytes script p ran by why = absurd by
not_read_on o bytes (load no_overwrite name) p ran by why = absurd by

-- ---- where no leaf is at fault

opened_as : (Goes Other : Point → Ran → Type 0) (p : Point) (ran : Ran) → ((q : Point) → Goes q ran → Other q ran) → Opened Goes p ran → Opened Other p ran
opened_as Goes Other p ran more (inl why) = inl why
opened_as Goes Other p ran more (inr (q, opens, may, goes)) = inr (q, opens, may, more q goes)

pub named_as : (uri : List ℕ) (Goes Other : List ℕ → Point → Ran → Type 0) (p : Point) (ran : Ran) → ((name : List ℕ) → Goes name p ran → Other name p ran) → Named uri Goes p ran → Named uri Other p ran
named_as uri Goes Other p ran more goes = by_name (name_in uri) goes
  where
    by_name : (o : Option (List ℕ)) → MatchOption o (ran ≡ stops (Refusal_Invalid BadName) p) (λ name. Goes name p ran) → MatchOption o (ran ≡ stops (Refusal_Invalid BadName) p) (λ name. Other name p ran)
    by_name None is = is
    by_name (Some name) there = more name there

-- a run on a device that reads is one that the definitions allow
pub runs_of : (o : Outside) (bytes : List ℕ) (asked : Asked) (p : Point) (ran : Ran) → ((at want found : ℕ) → LeafIsAtFault bytes at want found → ⊥) → RunsOn o bytes asked p ran → Runs o asked p ran
runs_of o bytes (read uri keys) p ran sound runs = opened_as (RunsReadOn o.output_failed bytes uri keys) (RunsRead o.output_failed uri keys) p ran (λ q named. named_as uri (λ name. ReadsKeysOn o.output_failed bytes name keys) (λ name. ReadsKeys o.output_failed name keys) q ran (λ name goes. whole_keys name q goes) named) runs
  where
    whole_keys : (name : List ℕ) (q : Point) → ReadsKeysOn o.output_failed bytes name keys q ran → ReadsKeys o.output_failed name keys q ran
    whole_keys name q (inl reads) = reads
    whole_keys name q (inr stops_at) = let leaf = stops_at.leaf in absurd (sound stops_at.at stops_at.want stops_at.found (at_fault bytes leaf.on.held leaf.on.place leaf.leaf.0 stops_at.at stops_at.want stops_at.found leaf.on.reader leaf.leaf.2))
runs_of o bytes list p ran sound runs = runs
runs_of o bytes (dump hex reverse uri) p ran sound runs = opened_as (RunsDumpOn o.output_failed bytes (form_of hex) (way_of reverse) uri) (RunsDump o.output_failed hex reverse uri) p ran (λ q named. named_as uri (DumpsTableOn o.output_failed bytes (form_of hex) (way_of reverse)) (DumpsTable o.output_failed (form_of hex) (way_of reverse)) q ran (λ name goes. whole_table name q goes) named) runs
  where
    whole_table : (name : List ℕ) (q : Point) → DumpsTableOn o.output_failed bytes (form_of hex) (way_of reverse) name q ran → DumpsTable o.output_failed (form_of hex) (way_of reverse) name q ran
    whole_table name q (inl dumps) = dumps
    whole_table name q (inr stops_at) = absurd (sound stops_at.at stops_at.want stops_at.found (at_fault bytes stops_at.on.held stops_at.on.place stops_at.index stops_at.at stops_at.want stops_at.found stops_at.on.reader stops_at.leaf))
runs_of o bytes (create config uri) p ran sound runs = absurd runs
runs_of o bytes (write overwrite uri pairs) p ran sound runs = absurd runs
runs_of o bytes (verify uri) p ran sound runs = absurd runs
runs_of o bytes script p ran sound runs = absurd runs
runs_of o bytes (load no_overwrite name) p ran sound runs = absurd runs

-- ---- what was read of the device

pub readable_for : (asked : Asked) (bytes : List ℕ) → IsByReader asked → IsReadable bytes → IsOpenableFor asked bytes
readable_for (read uri keys) bytes by opens = opens
readable_for list bytes by opens = opens
readable_for (dump hex reverse uri) bytes by opens = opens
readable_for (create config uri) bytes by opens = absurd by
readable_for (write overwrite uri pairs) bytes by opens = absurd by
readable_for (verify uri) bytes by opens = absurd by
readable_for script bytes by opens = absurd by
readable_for (load no_overwrite name) bytes by opens = absurd by

pub openable_for : (asked : Asked) (bytes : List ℕ) → IsOnEngine asked → IsReadable bytes → IsOpenableFor asked bytes
openable_for (create config uri) bytes on opens = opens
openable_for (write overwrite uri pairs) bytes on opens = opens
openable_for script bytes on opens = opens
openable_for (load no_overwrite name) bytes on opens = opens
openable_for (read uri keys) bytes on opens = absurd on
openable_for list bytes on opens = absurd on
openable_for (dump hex reverse uri) bytes on opens = absurd on
openable_for (verify uri) bytes on opens = absurd on

pub not_both : (asked : Asked) → IsOnEngine asked → IsByReader asked → ⊥
not_both (create config uri) on by = by
not_both (write overwrite uri pairs) on by = by
not_both script on by = by
not_both (load no_overwrite name) on by = by
not_both (read uri keys) on by = on
not_both list on by = on
not_both (dump hex reverse uri) on by = on
not_both (verify uri) on by = on

-- any command, where memory is too short to begin
pub not_begun : (o : Outside) (asked : Asked) (p : Point) → Opens p p → Runs o asked p (stops NoMemory p)
not_begun o (create config uri) p same = inl (NoMemory, p, same, inr (inl refl), refl)
not_begun o (write overwrite uri pairs) p same = inl (NoMemory, p, same, inr (inl refl), refl)
not_begun o (read uri keys) p same = inl (NoMemory, p, same, inr (inl refl), refl)
not_begun o list p same = inl (NoMemory, p, same, inr (inl refl), refl)
not_begun o (verify uri) p same = inl (NoMemory, p, same, inr refl, refl)
not_begun o script p same = inl (NoMemory, p, same, inr (inl refl), refl)
not_begun o (dump hex reverse uri) p same = inl (NoMemory, p, same, inr (inl refl), refl)
not_begun o (load no_overwrite name) p same = inl (NoMemory, p, same, inr (inl refl), refl)

-- ---- what is told

pub gave_none : (now : Option (List ℕ)) → Gave now now []
gave_none None = refl
gave_none (Some left) = (left, refl, refl)

quiet_end : (result : Result (Unit {0}) Refusal) → last_line (end_of result) ≡ []
quiet_end (Ok done) = refl
quiet_end (Err r) = refl

own_status : (result : Result (Unit {0}) Refusal) → first_status (met_of result) ≡ status_at (end_of result) (met_of result ++ filter counts [])
own_status (Ok done) = refl
own_status (Err r) = refl

pub result_told : (e : Errors) (result : Result (Unit {0}) Refusal) (status : ℕ) → Tells e (lines (met_of result)) (first_status (met_of result)) status → Tells e (lines (met_of result) ++ last_line (end_of result)) (status_at (end_of result) (met_of result ++ filter counts [])) status
result_told e result status told =
    subst (λ (n : ℕ). Tells e (lines (met_of result) ++ last_line (end_of result)) n status) (own_status result)
    (subst (λ (l : List ℕ). Tells e (lines (met_of result) ++ l) (first_status (met_of result)) status) (sym (quiet_end result))
    (subst (λ (l : List ℕ). Tells e l (first_status (met_of result)) status) (sym (append-nil (lines (met_of result)))) told))

met_each : (P : Refusal → Type 0) (result : Result (Unit {0}) Refusal) → IfErr result P → AllByRecursion P (met_of result)
met_each P (Ok done) each = tt
met_each P (Err r) each = (each, tt)

pub telling : (P : Refusal → Type 0) (e : Errors) (result : Result (Unit {0}) Refusal) (status : ℕ) → Tells e (lines (met_of result)) (first_status (met_of result)) status → IfErr result P → Telling P e status
telling P e result status told each = record { refusals = met_of result; each = met_each P result each; replies = []; end = end_of result; told = result_told e result status told }

-- ---- what is told of damage

no_damage_so : (asked : Asked) (honest : Type 0) (before now : List ℕ) (r : Refusal) → NoDamage r → IsSoFor asked honest before now r
no_damage_so asked honest before now (Corrupt at want found) none = absurd none
no_damage_so asked honest before now _ none = tt

-- of an honest disk, where that is known
spoilt_so : (asked : Asked) (known honest : Type 0) (before now : List ℕ) (r : Refusal) → IsOnEngine asked → (honest → known) → TellsSpoilt known before r → IsSoFor asked honest before now r
spoilt_so asked known honest before now (Corrupt at_place want found) on is told = λ h. inr (inr (engine_leaf asked before now at_place want found on (leaf_fault before at_place want found (told (is h)))))
spoilt_so asked known honest before now _ on is told = tt

script_so : (known honest : Type 0) (before now : List ℕ) (r : Refusal) → (honest → known) → TellsOfScript known now r → IsSoFor script honest before now r
script_so known honest before now (Corrupt at_place want found) is told = λ h. elim (told (is h)) [
  | inl damage ↦ inr (inl damage)
  | inr leaf ↦ inr (inr (inr (leaf_fault now at_place want found leaf)))
]
script_so known honest before now _ is told = tt

telling_as : (P Q : Refusal → Type 0) (e : Errors) (status : ℕ) → ((r : Refusal) → P r → Q r) → Telling P e status → Telling Q e status
telling_as P Q e status more t = record { refusals = t.refusals; each = each t.refusals t.each; replies = t.replies; end = t.end; told = t.told }
  where
    each : (met : List Refusal) → AllByRecursion P met → AllByRecursion Q met
    each [] so = tt
    each (r ∷ met) so = (more r so.0, each met so.1)

pub told_so : (asked : Asked) (honest : Type 0) (before now : List ℕ) (e : Errors) (status : ℕ) → Telling NoDamage e status → Telling (IsSoFor asked honest before now) e status
told_so asked honest before now e status t = telling_as NoDamage (IsSoFor asked honest before now) e status (no_damage_so asked honest before now) t

-- of a command on an engine, on a disk that was looked at before
module _ {D : Type 0} (g : Ghosts D) (old mid new : D) (looked : Looked g old mid) where
  pub spoilt_further : (asked : Asked) (r : Refusal) → IsOnEngine asked → TellsSpoilt (IsTrue (g.honest mid)) (g.seen mid) r → IsSoFor asked (IsTrue (g.honest old)) (g.seen old) (g.seen new) r
  spoilt_further asked r on told =
      spoilt_so asked (IsTrue (g.honest mid)) (IsTrue (g.honest old)) (g.seen old) (g.seen new) r on (λ h. looked.same ∙ h) (subst (λ (l : List ℕ). TellsSpoilt (IsTrue (g.honest mid)) l r) looked.content told)

  pub loaded_so : (asked : Asked) (e : Errors) (status : ℕ) → IsOnEngine asked → Telling (TellsSpoilt (IsTrue (g.honest mid)) (g.seen mid)) e status → Telling (IsSoFor asked (IsTrue (g.honest old)) (g.seen old) (g.seen new)) e status
  loaded_so asked e status on t =
      telling_as (TellsSpoilt (IsTrue (g.honest mid)) (g.seen mid)) (IsSoFor asked (IsTrue (g.honest old)) (g.seen old) (g.seen new)) e status (λ r told. spoilt_further asked r on told) t

  pub scripted_so : (e : Errors) (status : ℕ) → Telling (TellsOfScript (IsTrue (g.honest mid)) (g.seen new)) e status → Telling (IsSoFor script (IsTrue (g.honest old)) (g.seen old) (g.seen new)) e status
  scripted_so e status t =
      telling_as (TellsOfScript (IsTrue (g.honest mid)) (g.seen new)) (IsSoFor script (IsTrue (g.honest old)) (g.seen old) (g.seen new)) e status (λ r told. script_so (IsTrue (g.honest mid)) (IsTrue (g.honest old)) (g.seen old) (g.seen new) r (λ h. looked.same ∙ h) told) t

-- damage that an opening tells is there
pub opening_so : (asked : Asked) (fault known : Type 0) (bytes now : List ℕ) (r : Refusal) → IsOnEngine asked → OpenRefused fault known bytes r → IsSoFor asked known bytes now r
opening_so asked fault known bytes now r on (inl (inl (is, failed))) = subst (IsSoFor asked known bytes now) (sym is) tt
opening_so asked fault known bytes now r on (inl (inr (inl is))) = subst (IsSoFor asked known bytes now) (sym is) tt
opening_so asked fault known bytes now r on (inl (inr (inr (at_place, want, found, is, why)))) = subst (IsSoFor asked known bytes now) (sym is) (λ k. told (why k))
  where
    told : IsAtFault bytes at_place want found → IsWholeDamage bytes at_place want found ⊎ (IsWholeDamage now at_place want found ⊎ IsToldOf asked bytes now at_place want found)
    told (inl damage) = inl damage
    told (inr spoilt) = inr (inr (engine_leaf asked bytes now at_place want found on (leaf_fault bytes at_place want found spoilt)))
opening_so asked fault known bytes now r on (inr (inl (is, why))) = subst (IsSoFor asked known bytes now) (sym is) tt
opening_so asked fault known bytes now r on (inr (inr (is, lacks, shut))) = subst (IsSoFor asked known bytes now) (sym is) tt

-- why a reader is not opened, seen from further back
pub reader_further : (fault more known honest : Type 0) (bytes : List ℕ) (r : Refusal) → (fault → more) → (honest → known) → ReaderRefused fault known bytes r → ReaderRefused more honest bytes r
reader_further fault more known honest bytes r to from (inl why) = inl (refused_more fault more known honest (IsWholeDamage bytes) (IsWholeDamage bytes) r to from (λ at want found h damage. damage) why)
reader_further fault more known honest bytes r to from (inr (inl (is, why))) = inr (inl (is, λ h. why (from h)))
reader_further fault more known honest bytes r to from (inr (inr (is, lacks, shut))) = inr (inr (is, (λ h. lacks (from h)), λ h. shut (from h)))

-- damage that the opening of a reader tells is there
pub reader_so : (asked : Asked) (fault known : Type 0) (bytes now : List ℕ) (r : Refusal) → ReaderRefused fault known bytes r → IsSoFor asked known bytes now r
reader_so asked fault known bytes now r (inl (inl (is, failed))) = subst (IsSoFor asked known bytes now) (sym is) tt
reader_so asked fault known bytes now r (inl (inr (inl is))) = subst (IsSoFor asked known bytes now) (sym is) tt
reader_so asked fault known bytes now r (inl (inr (inr (at_place, want, found, is, why)))) = subst (IsSoFor asked known bytes now) (sym is) (λ k. inl (why k))
reader_so asked fault known bytes now r (inr (inl (is, why))) = subst (IsSoFor asked known bytes now) (sym is) tt
reader_so asked fault known bytes now r (inr (inr (is, lacks, shut))) = subst (IsSoFor asked known bytes now) (sym is) tt

pub status_some : (r : Refusal) (status : ℕ) → (status ≡ status_of r) ⊎ (status ≡ 12) → status ≡ 0 → ⊥
status_some r status (inr twelve) none = omega (arith, twelve, none)
status_some DiskFault status (inl is) none = omega (arith, is, none)
status_some NoMemory status (inl is) none = omega (arith, is, none)
status_some _ status (inl is) none = omega (arith, is, none)

-- a disk that was not told its home
pub untold_at : (r : Refusal) (status : ℕ) → (status ≡ status_of r) ⊎ (status ≡ 12) → (r ≡ DiskFault) ⊎ (r ≡ NoMemory) → (status ≡ 4) ⊎ (status ≡ 12)
untold_at r status (inr twelve) why = inr twelve
untold_at r status (inl is) (inl fault) = inl (is ∙ ap status_of fault)
untold_at r status (inl is) (inr short) = inr (is ∙ ap status_of short)

-- nothing is told
pub cut_all : (e : Errors) (bytes : List ℕ) → 0 < length bytes → Took e.before e.now [] → IsCut e bytes
cut_all e bytes some took = inl (0, some, took)

pub told_all : {E : Type 0} (e : Errors) (bytes : List ℕ) (result : Result (Unit {0}) E) → OnOk result (Took e.before e.now bytes) → HasCause e.faults e.faults_now result → IsTold e bytes
told_all e bytes (Ok done) ok cause = inl ok
told_all e bytes (Err x) ok cause = inr cause.failed

-- ---- the runs

module _ {D : Type 0} (g : Ghosts D) (old new : D) (content : Content) (layered : IsLayered content) (o : Outside) (asked : Asked) (w : Streams) (taken : Gave w.in_before w.in_now []) where
  abbrev Ends : ℕ → Type 0
  Ends status = Went g o asked content w old new status

  -- a run that a refusal ended before any call
  pub stopped : (r : Refusal) (status : ℕ) → Runs o asked (point_of g (start content) old) (stops r (point_of g (start content) new)) → ((c : List ℕ) → g.may_leave new c → Reads c content) → ((c : List ℕ) → g.left_since new (g.moment old) c → Reads c content)
      → Took w.out_before w.out_now [] → Tells w.errors (lines (r ∷ [])) (status_of r) status → Ends status
  stopped r status run images since out told = record {
    ran = stops r (point_of g (start content) new);
    run = run;
    there = refl;
    taken = taken;
    printed = inl out;
    told = subst (λ (l : List ℕ). Tells w.errors l (status_of r) status) (sym (append-nil (lines (r ∷ [])))) told;
    opens = inl (content, ((λ c left. images c left), layered), start_opens content layered);
    ever = λ c left. inl (content, since c left, start_opens content layered);
    stays = tt;
  }

  -- a run that reads and prints nothing, and only looks at the disk
  pub looked_went : (result : Result (Unit {0}) Refusal) (status : ℕ) → Runs o asked (point_of g (start content) old) (silent_run result [] (point_of g (start content) new)) → ((c : List ℕ) → g.may_leave new c → Reads c content) → ((c : List ℕ) → g.left_since new (g.moment old) c → Reads c content)
      → Took w.out_before w.out_now [] → Tells w.errors (lines (met_of result)) (first_status (met_of result)) status → Ends status
  looked_went result status run images since out told = record {
    ran = silent_run result [] (point_of g (start content) new);
    run = run;
    there = refl;
    taken = taken;
    printed = inl out;
    told = result_told w.errors result status told;
    opens = inl (content, ((λ c left. images c left), layered), start_opens content layered);
    ever = λ c left. inl (content, since c left, start_opens content layered);
    stays = tt;
  }

  -- a run of calls that read and print nothing, on a disk that was looked at before
  pub left_by_calls : (mid : D) (Allowed : Point → Ran → Type 0) (result : Result (Unit {0}) Refusal) (status : ℕ) → Opens (point_of g (start content) old) (point_of g (start content) mid) → MayOpen (point_of g (start content) old) → LeavesOnly g old mid (λ c. Reads c content)
      → ((ran : Ran) → Opened Allowed (point_of g (start content) old) ran → Runs o asked (point_of g (start content) old) ran) → Leaves g Allowed content mid new result
      → Took w.out_before w.out_now [] → Tells w.errors (lines (met_of result)) (first_status (met_of result)) status → Ends status
  left_by_calls mid Allowed result status opened may first as_command left out told = record {
    ran = silent_run result left.made (point_of g left.next new);
    run = as_command (silent_run result left.made (point_of g left.next new)) (inr (point_of g (start content) mid, opened, may, left.run));
    there = refl;
    taken = taken;
    printed = inl out;
    told = result_told w.errors result status told;
    opens = left.opens;
    ever = (joined g old mid new _ _ (widened g old mid _ _ first (λ c reads. inl (content, reads, start_opens content layered))) left.ever (λ c is. is)).each;
    stays = left.stays;
  }

-- a run on the device itself, with the whole one in the place of what a read gives
module _ {D : Type 0} (g : Ghosts D) (old new : D) (whole : List ℕ) (content : Content) (o : Outside) (asked : Asked) (w : Streams) (taken : Gave w.in_before w.in_now []) (looked : Looked g old new) where
  abbrev EndsOn : ℕ → Type 0
  EndsOn status = WentOn g o asked whole content w old new status

  -- that a refusal ended before it was opened
  pub stopped_on : (r : Refusal) (status : ℕ) → RunsOn o (g.seen old) asked (point_on g whole (start content) old) (stops r (point_on g whole (start content) new)) → Took w.out_before w.out_now [] → Tells w.errors (lines (r ∷ [])) (status_of r) status → EndsOn status
  stopped_on r status run out told = record {
    ran = stops r (point_on g whole (start content) new);
    run = run;
    there = refl;
    taken = taken;
    printed = inl out;
    told = subst (λ (l : List ℕ). Tells w.errors l (status_of r) status) (sym (append-nil (lines (r ∷ [])))) told;
    none = refl;
    kept = refl;
    looked = looked;
  }

  -- that was opened at this point
  pub reading_went : (mid : D) (Allowed : Point → Ran → Type 0) (status : ℕ) → Opens (point_on g whole (start content) old) (point_on g whole (start content) mid) → MayOpen (point_on g whole (start content) old)
      → ((ran : Ran) → Opened Allowed (point_on g whole (start content) old) ran → RunsOn o (g.seen old) asked (point_on g whole (start content) old) ran)
      → Reading Allowed (point_on g whole (start content) mid) (device_on g whole new) w.out_before w.out_now w.errors status → EndsOn status
  reading_went mid Allowed status opened may as_command went = record {
    ran = went.ran;
    run = as_command went.ran (inr (point_on g whole (start content) mid, opened, may, went.run));
    there = went.there;
    taken = subst (λ (l : List ℕ). Gave w.in_before w.in_now l) (sym went.silent) taken;
    printed = went.printed;
    told = went.told;
    none = went.none;
    kept = went.same;
    looked = looked;
  }

-- of a device that reads
pub went_of : {D : Type 0} (g : Ghosts D) (old new : D) (content : Content) (layered : IsLayered content) (o : Outside) (asked : Asked) (w : Streams) (status : ℕ) → ((at want found : ℕ) → LeafIsAtFault (g.seen old) at want found → ⊥)
    → ((c : List ℕ) → g.may_leave new c → Reads c content) → ((c : List ℕ) → g.left_since new (g.moment old) c → Reads c content) → WentOn g o asked (g.seen old) content w old new status → Went g o asked content w old new status
went_of g old new content layered o asked w status sound images since went = record {
  ran = went.ran;
  run = runs_of o (g.seen old) asked (point_of g (start content) old) went.ran sound went.run;
  there = went.there ∙ ap (λ (l : List ℕ). device_on g l new) (sym went.looked.content);
  taken = went.taken;
  printed = went.printed;
  told = went.told;
  opens = subst (λ (k : Completed). OpensToLast (g.may_leave new) (start content).completed k went.ran.made) (sym went.kept)
      (subst (λ (l : List Installed). OpensToLast (g.may_leave new) (start content).completed (start content).completed l) (sym went.none) (inl (content, ((λ c left. images c left), layered), start_opens content layered)));
  ever = λ c left. inl (content, since c left, start_opens content layered);
  stays = subst (λ (l : List Installed). Stays (g.left_since new) l) (sym went.none) tt;
}

-- a run of `script`, on a disk that was looked at before
module _ {D : Type 0} (g : Ghosts D) (old mid new : D) (content : Content) (layered : IsLayered content) (o : Outside) (w : Streams) where
  pub script_went : (status : ℕ) → Opens (point_of g (start content) old) (point_of g (start content) mid) → MayOpen (point_of g (start content) old) → LeavesOnly g old mid (λ c. Reads c content)
      → Scripting g o content w mid new status → Went g o script content w old new status
  script_went status opened may first went = record {
    ran = went.ran;
    run = inr (point_of g (start content) mid, opened, may, went.run);
    there = went.there;
    taken = went.taken;
    printed = went.printed;
    told = went.told;
    opens = went.opens;
    ever = (joined g old mid new _ _ (widened g old mid _ _ first (λ c reads. inl (content, reads, start_opens content layered))) went.ever (λ c is. is)).each;
    stays = went.stays;
  }

  -- a run of `load`
  pub load_went : (status : ℕ) (no_overwrite : Bool) (name : Option (List ℕ)) → Opens (point_of g (start content) old) (point_of g (start content) mid) → MayOpen (point_of g (start content) old) → LeavesOnly g old mid (λ c. Reads c content)
      → Took w.out_before w.out_now [] → Loading g (RunsLoad o.input_failed o.input_ended (not no_overwrite) name) (start content) w.in_before w.in_now w.errors mid new status → Went g o (load no_overwrite name) content w old new status
  load_went status no_overwrite name opened may first out went = record {
    ran = went.ran;
    run = inr (point_of g (start content) mid, opened, may, went.run);
    there = went.there;
    taken = went.taken;
    printed = inl (subst (λ (l : List ℕ). Took w.out_before w.out_now l) (sym went.silent) out);
    told = went.told;
    opens = went.opens;
    ever = (joined g old mid new _ _ (widened g old mid _ _ first (λ c reads. inl (content, reads, start_opens content layered))) went.ever (λ c is. is)).each;
    stays = went.stays;
  }

-- a status of a load
pub load_status : (n : ℕ) → (n ≡ 0) ⊎ ((n ≡ 1) ⊎ ((n ≡ 4) ⊎ ((n ≡ 5) ⊎ (n ≡ 12)))) → IsStatus n × (n ≡ 6 → ⊥)
load_status n (inl is) = (inl is, λ six. omega (arith, is, six))
load_status n (inr (inl is)) = (inr (inl is), λ six. omega (arith, is, six))
load_status n (inr (inr (inl is))) = (inr (inr (inl is)), λ six. omega (arith, is, six))
load_status n (inr (inr (inr (inl is)))) = (inr (inr (inr (inl is))), λ six. omega (arith, is, six))
load_status n (inr (inr (inr (inr is)))) = (inr (inr (inr (inr (inr is)))), λ six. omega (arith, is, six))
