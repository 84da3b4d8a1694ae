-- What a sync and the install of a slot leave.
use Rattle.std.specs.Prelude.{◌≡◌, ◌⊎◌, ℕ, ◌<◌, ◌≤◌, ◌^◌, List, length, take, drop, Option, Some, Result, Ok, Err, OnOk, IfErr, refl}
use Rattle.std.proofs.Common.{inl, inr, sym, ◌∙◌, ap, subst}
use Rattle.failure.specs.declared.Fault.{Fault}
use Rattle.disk_model.specs.Disk.{Only}
use Rattle.disk_model.specs.declared.disk.Disk.{Ghosts}
use Rattle.disk_model.specs.Crash.{Each, LeavesOnly, Looked}
use Rattle.disk_model.proofs.Crash.{joined, widened}
use Rattle.extent_list.specs.Space.{Space, HasNoRoom, end_of}
use Rattle.wt_code.specs.declared.store_error.StoreError.{StoreError}
use Rattle.wt_code.specs.declared.store_error.StoreError.TheVariants.{NoMemory, NoSpace, Read, Down}
use Rattle.wt_code.specs.StoreErrors.{OnRead, IfDown, IsOfDisk}
use Rattle.block_mgr.specs.Blocks.{Books}
use Rattle.device_layout.specs.declared.addr.Addr.{Addr}
use Rattle.device_layout.specs.declared.slot.Slot.{Slot}
use Rattle.turtle.specs.Slots.{Chooses, IsNext, Before, Behind, LeftOld, LeftEither, Installed}
use Rattle.stored.specs.Stored.{Stored, IsOn}
use Rattle.checkpoint_core.specs.Stands.{HasStill, AreInUse, blocks_of, chosen_of, Stands, IsWritten, placed_at}
use Rattle.checkpoint_core.specs.Finishes.{IsOld, IsEither, HasOne, Installs, HadRoom, Finishes, ReadsThen, ReadsAfter, units_of}
use Rattle.checkpoint_core.proofs.Holding.{still_long, length_behind, still_behind, still_chooses, chosen_on}

module _ (seen now : List ℕ) (images left : List ℕ → Type 0) (old : Option Stored) (new : Stored) (slot : Slot) (written : IsWritten seen images old new) (same : now ≡ seen) (only : Only now left) (is : new.slot ≡ slot) where
  pub has_now : HasStill old now
  has_now = subst (λ (l : List ℕ). HasStill old l) (sym same) written.seen_has

  pub before : IsNext (chosen_of old) slot → slot.sequence < 2 ^ 62 → Before now left (chosen_of old) slot
  before next small = record {
    each = λ c there. (subst (λ (l : List ℕ). 8192 ≤ length l) (sym (only c there)) (still_long old now has_now), ap (λ (l : List ℕ). take 8192 l) (only c there));
    chooses = still_chooses old now has_now;
    next = next;
    small = small;
  }

  old_left : (c : List ℕ) → Behind left c → Chooses c (chosen_of old) → HasStill old c
  old_left c (d, there, long, behind) chooses = still_behind old c now has_now (behind ∙ ap (λ (l : List ℕ). drop 8192 l) (only d there)) long chooses

  pub new_left : (c : List ℕ) → drop 8192 c ≡ drop 8192 now → 8192 ≤ length c → Chooses c (Some slot) → IsOn c new
  new_left c behind long chooses =
      chosen_on new c seen written.whole written.holds (behind ∙ ap (λ (l : List ℕ). drop 8192 l) same) long (still_long old seen written.seen_has) (subst (λ (x : Slot). Chooses c (Some x)) (sym is) chooses)

  pub left_old : (c : List ℕ) → LeftOld left (chosen_of old) c → HasStill old c
  left_old c left_is = old_left c left_is.0 left_is.1

  pub left_either : (c : List ℕ) → LeftEither left (chosen_of old) slot c → HasOne old new c
  left_either c (behind, inl one) = inl (old_left c behind one)
  left_either c ((d, there, long, behind), inr one) = inr (new_left c (behind ∙ ap (λ (l : List ℕ). drop 8192 l) (only d there)) long one)

  -- what is read then
  pub installed_read : (last : List ℕ) (after : List ℕ → Type 0) → Installed now slot last after → IsOn last new × (length last ≡ length seen) × (drop 8192 last ≡ drop 8192 seen)
  installed_read last after there = (
    new_left last there.behind there.long there.chooses,
    length_behind last now there.behind there.long (still_long old now has_now) ∙ ap length same,
    there.behind ∙ ap (λ (l : List ℕ). drop 8192 l) same,
  )

  pub installed : (last : List ℕ) (after : List ℕ → Type 0) → Installed now slot last after → Each after (λ c. IsOn c new)
  installed last after there c left_is = subst (λ (l : List ℕ). IsOn l new) (sym (there.only c left_is)) (new_left last there.behind there.long there.chooses)

-- ---- the runs

module _ {D : Type 0} (g : Ghosts D) where
  abbrev Run : D → D → (List ℕ → Type 0) → Type 0
  Run a b P = LeavesOnly g a b P

  -- a sync, and then an install
  pub installs : (old : Option Stored) (new : Stored) (start mid end : D) (r : Result (Unit {0}) StoreError) → Run start mid (HasStill old) → Run mid end (HasOne old new)
      → IfErr r (λ e. OnRead e (Run mid end (HasStill old))) → IfErr r (λ e. IfDown e (λ fault. Run mid end (HasStill old) ⊎ Unit {0})) → IfErr r IsOfDisk → OnOk r (Each (g.may_leave end) (λ c. IsOn c new)) → Installs g old new start end r
  installs old new start mid end r first any read down kind ok = of r read down kind ok
    where
      all : Run start end (HasOne old new)
      all = joined g start mid end _ _ (widened g start mid _ _ first (λ c is. inl is)) any (λ c is. is)

      of : (r : Result (Unit {0}) StoreError) → IfErr r (λ e. OnRead e (Run mid end (HasStill old))) → IfErr r (λ e. IfDown e (λ fault. Run mid end (HasStill old) ⊎ Unit {0})) → IfErr r IsOfDisk → OnOk r (Each (g.may_leave end) (λ c. IsOn c new)) → Installs g old new start end r
      of (Ok done) read down kind ok = (all, ok)
      of (Err NoMemory) read down kind ok = kind
      of (Err NoSpace) read down kind ok = kind
      of (Err Read) read down kind ok = joined g start mid end _ _ first read (λ c is. is)
      of (Err (Down fault)) read down kind ok = elim down [
        | inl keeps ↦ inl (joined g start mid end _ _ first keeps (λ c is. is))
        | inr at_gate ↦ inr all
      ]

  module _ (space : Space) (n capacity : ℕ) (old : Option Stored) (new : Stored) (a : Addr) (start mid end : D) (first : Run start mid (IsOld (g.may_leave start) old)) where
    one : (c : List ℕ) → HasOne old (placed_at new a) c → IsEither (g.may_leave start) old (placed_at new a) c
    one c (inl still) = inl (inr still)
    one c (inr there) = inr there

    -- a write of the record, and then both
    pub finished : (done : Unit {0}) → Installs g old (placed_at new a) mid end (Ok done) → HadRoom space n capacity → Finishes g space n capacity old new start end (Ok a)
    finished done rest room = (
      joined g start mid end _ _ (widened g start mid _ _ first (λ c is. inl is)) rest.0 (λ c is. one c is),
      rest.1,
      room,
    )

    pub not_finished : (e : StoreError) → Installs g old (placed_at new a) mid end (Err e) → Finishes g space n capacity old new start end (Err e)
    not_finished NoMemory rest = absurd rest
    not_finished NoSpace rest = absurd rest
    not_finished Read rest = joined g start mid end _ _ first rest (λ c is. inr is)
    not_finished (Down fault) rest = elim rest [
      | inl keeps ↦ inl (joined g start mid end _ _ first keeps (λ c is. inr is))
      | inr all ↦ inr (a, joined g start mid end _ _ (widened g start mid _ _ first (λ c is. inl is)) all one)
    ]

  -- the write of the record was refused
  pub not_written : (space : Space) (n capacity : ℕ) (old : Option Stored) (new : Stored) (start end : D) (e : StoreError) → Run start end (IsOld (g.may_leave start) old) → (e ≡ NoSpace → HasNoRoom space (units_of n) capacity) → Finishes g space n capacity old new start end (Err e)
  not_written space n capacity old new start end NoMemory leaves room = leaves
  not_written space n capacity old new start end NoSpace leaves room = (room refl, leaves)
  not_written space n capacity old new start end Read leaves room = leaves
  not_written space n capacity old new start end (Down fault) leaves room = inl leaves

  -- ---- what is read

  pub reads_then : (old : Option Stored) (new : Stored) (start mid end : D) (r : Result (Unit {0}) StoreError) → g.seen mid ≡ g.seen start → HasStill old (g.seen mid) → Only (g.seen mid) (g.may_leave mid) → IfErr r (λ e. OnRead e (Looked g mid end)) → IfErr r IsOfDisk
      → OnOk r (IsOn (g.seen end) new × (length (g.seen end) ≡ length (g.seen start)) × (drop 8192 (g.seen end) ≡ drop 8192 (g.seen start))) → ReadsThen g old new start end r
  reads_then old new start mid end (Ok done) same still only read kind ok = ok
  reads_then old new start mid end (Err NoMemory) same still only read kind ok = absurd kind
  reads_then old new start mid end (Err NoSpace) same still only read kind ok = absurd kind
  reads_then old new start mid end (Err Read) same still only read kind ok = (read.content ∙ same, λ d there. subst (λ (l : List ℕ). HasStill old l) (sym (only d (read.images d there))) still)
  reads_then old new start mid end (Err (Down fault)) same still only read kind ok = tt

  -- after an error behind the write of the record
  pub not_read : (books : Books) (old : Option Stored) (new made : Stored) (mid end : D) (e : StoreError) → ReadsThen g old made mid end (Err e) → HasStill old (g.seen mid) → AreInUse books.cells (blocks_of old) → end_of books.space ≤ length (g.seen mid)
      → ReadsAfter g books old new end (Err e)
  not_read books old new made mid end e reads still in_use within = of e reads
    where
      stands : (g.seen end ≡ g.seen mid) × Each (g.may_leave end) (HasStill old) → Stands (g.seen end) (g.may_leave end) books old × (end_of books.space ≤ length (g.seen end))
      stands (same, each) = (
        record { seen_has = subst (λ (l : List ℕ). HasStill old l) (sym same) still; images_have = λ _. each; in_use = in_use },
        subst (λ (l : List ℕ). end_of books.space ≤ length l) (sym same) within,
      )

      of : (e : StoreError) → ReadsThen g old made mid end (Err e) → ReadsAfter g books old new end (Err e)
      of NoMemory reads = stands reads
      of NoSpace reads = stands reads
      of Read reads = stands reads
      of (Down fault) reads = tt

pub on_ok_map : {T E : Type 0} {A B : Type 0} (r : Result T E) → OnOk r A → (A → B) → OnOk r B
on_ok_map (Ok x) is more = more is
on_ok_map (Err e) is more = tt

pub on_read_map : {T : Type 0} {A B : Type 0} (r : Result T StoreError) → IfErr r (λ e. OnRead e A) → (A → B) → IfErr r (λ e. OnRead e B)
on_read_map (Ok x) is more = tt
on_read_map (Err NoMemory) is more = tt
on_read_map (Err NoSpace) is more = tt
on_read_map (Err Read) is more = more is
on_read_map (Err (Down fault)) is more = tt

pub if_down_map : {T : Type 0} {A B : Fault → Type 0} (r : Result T StoreError) → IfErr r (λ e. IfDown e A) → ((fault : Fault) → A fault → B fault) → IfErr r (λ e. IfDown e B)
if_down_map (Ok x) is more = tt
if_down_map (Err NoMemory) is more = tt
if_down_map (Err NoSpace) is more = tt
if_down_map (Err Read) is more = tt
if_down_map (Err (Down fault)) is more = more fault is
