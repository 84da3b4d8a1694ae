-- The runs of `load`, by what its calls did.
use Rattle.std.specs.Prelude.{◌≡◌, ◌<◌, ℕ, List, [], ◌∷◌, length, Option, Some, None, Result, Ok, Err, MatchOption}
use Rattle.std.proofs.Common.{inl, inr, refl, sym, subst, ◌∙◌, arith}
use Rattle.disk_model.specs.declared.disk.Disk.{Ghosts}
use Rattle.item.specs.declared.Formats.{Formats}
use Rattle.wt_code.specs.declared.refusals.Refusal.{Refusal}
use Rattle.wt_code.specs.declared.refusals.Refusal.TheVariants.{DiskFault, NoMemory}
use Rattle.kv_model.specs.Decisions.{Demand}
use Rattle.kv_model.specs.Machine.{Completed, Machine}
use Rattle.kv_model.specs.Decisions.{Outcome}
use Rattle.kv_model.specs.Told.{Tells}
use Rattle.kv_model.specs.Calls.{Session, System, Call, Begin, Create, Decided, PutKey, Commit}
use Rattle.dump_text.specs.Grammar.{Row}
use Rattle.engine_world.specs.Worlds.{World}
use Rattle.engine_store.specs.declared.store.Store.{Store}
use Rattle.wt_code.specs.declared.answers.Answer.{Answer}
use Rattle.wt_code.specs.declared.answers.Answer.TheVariants as answers
use Rattle.engine_store.specs.Devices.{IsLater, KeepsCheckpoint, device_of}
use Rattle.wt_tool.specs.Points.{Point, Ran, Calls, Did, point_of}
use Rattle.wt_tool.specs.Creates.{MakesTable}
use Rattle.wt_tool.specs.Loads.{ClosesLoad, LoadsRows, PutsRow, PutsRows}
use Rattle.wt_tool.specs.Led.{DoneBy, Holds, LedBy, OpenedBy, WentOut}
use Rattle.wt_tool.proofs.Leading.{called_led, ended, led_behind, made_led, opened_led}

module _ {D : Type 0} (g : Ghosts D) (start_disk : D) (first : Completed) where
  -- a run that is also another
  led_as : (Run Other Rest : Point → Ran → Type 0) (n : Store) (w : World) (before after : D) (result : Result (Unit {0}) Refusal) → ((p : Point) (ran : Ran) → Run p ran → Other p ran) → LedBy g start_disk first w n before after Run Rest result
      → LedBy g start_disk first w n before after Other Rest result
  led_as Run Other Rest n w before after (Ok done) more (later, holds, goes) = (later, holds, λ ran rest. more _ ran (goes ran rest))
  led_as Run Other Rest n w before after (Err r) more (later, holds, run) = (later, holds, more _ _ run)

  -- ---- the table

  module _ (name : List ℕ) (formats : Formats) (demand : Demand) (rows : List Row) (w : World) (disk : D) where
    pub begins_led : (m n : Store) (result : Result (Unit {0}) Refusal) → OpenedBy g start_disk first w m disk disk (Ok tt)
        → ((v : World) → Holds g start_disk first m disk v → DoneBy g start_disk first v n disk disk (System 0) (Create name formats) result) → LedBy g start_disk first w n disk disk (LoadsRows name formats demand rows) (PutsRows name demand rows) result
    begins_led m n result opens makes =
        led_behind g start_disk first (LoadsRows name formats demand rows) (MakesTable name formats (PutsRows name demand rows)) (PutsRows name demand rows) w m n disk disk disk result
        (opened_led g start_disk first (MakesTable name formats (PutsRows name demand rows)) w m disk (Ok tt) opens)
        (λ v holds. made_led g start_disk first name formats (PutsRows name demand rows) v n disk disk result (makes v holds))

    pub unopened_led : (m : Store) (r : Refusal) → OpenedBy g start_disk first w m disk disk (Err r) → LedBy g start_disk first w m disk disk (LoadsRows name formats demand rows) (PutsRows name demand rows) (Err r)
    unopened_led m r opens = opened_led g start_disk first (MakesTable name formats (PutsRows name demand rows)) w m disk (Err r) opens

  -- ---- a row

  module _ (name : List ℕ) (demand : Demand) (row : Row) (rows : List Row) where
    abbrev Committing : Point → Ran → Type 0
    Committing p ran = Calls (Session 0) (Commit None None) (PutsRows name demand rows) p ran

    abbrev Putting : Point → Ran → Type 0
    Putting p ran = Calls (Session 0) (PutKey name row.0 row.1 demand) Committing p ran

    abbrev Beginning : Point → Ran → Type 0
    Beginning p ran = Calls (Session 0) (Begin None) Putting p ran

    abbrev pub RowLed : World → Store → D → D → Result (Unit {0}) Refusal → Type 0
    RowLed w n before after result = LedBy g start_disk first w n before after (PutsRows name demand (row ∷ rows)) (PutsRows name demand rows) result

    -- the same of its transaction alone
    abbrev pub OneLed : World → Store → D → D → Result (Unit {0}) Refusal → Type 0
    OneLed w n before after result = LedBy g start_disk first w n before after (PutsRow name demand row (PutsRows name demand rows)) (PutsRows name demand rows) result

    pub row_short : (w : World) (s : Store) (disk : D) → Holds g start_disk first s disk w → RowLed w s disk disk (Err NoMemory)
    row_short w s disk holds = (w.machine, ended g start_disk first s disk w holds, inl refl)

    pub row_unbegun : (w : World) (m : Store) (before after : D) (r : Refusal) → DoneBy g start_disk first w m before after (Session 0) (Begin None) (Err r) → OneLed w m before after (Err r)
    row_unbegun w m before after r begins = called_led g start_disk first (Session 0) (Begin None) Putting w m before after (Err r) begins

    -- ---- rows went out of memory before it

    module _ (w : World) (before mid : D) (later : IsLater (device_of g before) (device_of g mid)) (keeps : KeepsCheckpoint (device_of g before) (device_of g mid)) where
      -- its transaction begins on the device as it was, too
      begun_back : (m : Machine) → m ≡ w.machine → (a : Answer (List ℕ)) (q : Point) → Did (point_of g m mid) (Session 0) (Begin None) a q → Did (point_of g w.machine before) (Session 0) (Begin None) a q
      begun_back m same a q did = record {
        later = record { faults = (let one = later.faults in let two = did.later.faults in omega (arith, one, two)); moment = (let one = later.moment in let two = did.later.moment in omega (arith, one, two)) };
        keeps = record { capacity = did.keeps.capacity ∙ keeps.capacity; checkpoint = λ s has. did.keeps.checkpoint s (keeps.checkpoint s has) };
        answers = elim did.answers [
          | inl decided ↦ inl (subst (λ (x : Machine). (o : Outcome) × Decided x 0 (Begin None) o q.machine × Tells o a) same decided)
          | inr held ↦ absurd held
        ];
      }

      row_back : (m : Machine) → m ≡ w.machine → (ran : Ran) → PutsRow name demand row (PutsRows name demand rows) (point_of g m mid) ran → PutsRow name demand row (PutsRows name demand rows) (point_of g w.machine before) ran
      row_back m same ran (inl (r, q, did, is)) = inl (r, q, begun_back m same (answers.Refused r) q did, is)
      row_back m same ran (inr (q, did, goes)) = inr (q, begun_back m same answers.Done q did, goes)

      one_back : (v : World) (n : Store) (after : D) (result : Result (Unit {0}) Refusal) → v.machine ≡ w.machine → OneLed v n mid after result → RowLed w n before after result
      one_back v n after (Ok done) same (u, holds, goes) = (u, holds, λ ran rest. inr (inr (row_back v.machine same ran (goes ran rest))))
      one_back v n after (Err r) same (m, end, run) = (m, end, inr (inr (row_back v.machine same _ run)))

    pub row_behind : (w : World) (m n : Store) (before mid after : D) (result : Result (Unit {0}) Refusal) → WentOut g start_disk first w m before mid (Ok tt) → ((v : World) → Holds g start_disk first m mid v → OneLed v n mid after result) → RowLed w n before after result
    row_behind w m n before mid after result (v, holds, same, later, keeps) one = one_back w before mid later keeps v n after result same (one v holds)

    -- they did not
    pub row_fails : (w : World) (m : Store) (before after : D) (r : Refusal) → r ≡ DiskFault → WentOut g start_disk first w m before after (Err r) → RowLed w m before after (Err r)
    row_fails w m before after r is (next, end, later, rose, may) = subst (λ (x : Refusal). RowLed w m before after (Err x)) (sym is) (next, end, inr (inl (point_of g next after, later, rose, may, refl)))

    -- ---- its transaction

    module _ (c : Call) (is : c ≡ PutKey name row.0 row.1 demand) (w : World) (m n : Store) (before mid after : D) (begins : DoneBy g start_disk first w m before mid (Session 0) (Begin None) (Ok tt)) where
      put_row : (result : Result (Unit {0}) Refusal) → ((v : World) → Holds g start_disk first m mid v → DoneBy g start_disk first v n mid after (Session 0) c result) → LedBy g start_disk first w n before after Beginning Committing result
      put_row result puts =
          led_behind g start_disk first Beginning Putting Committing w m n before mid after result (called_led g start_disk first (Session 0) (Begin None) Putting w m before mid (Ok tt) begins)
          (λ v holds. called_led g start_disk first (Session 0) (PutKey name row.0 row.1 demand) Committing v n mid after result (subst (λ (x : Call). DoneBy g start_disk first v n mid after (Session 0) x result) is (puts v holds)))

      pub row_unput : (r : Refusal) → ((v : World) → Holds g start_disk first m mid v → DoneBy g start_disk first v n mid after (Session 0) c (Err r)) → OneLed w n before after (Err r)
      row_unput r puts = put_row (Err r) puts

      pub row_put : (o : Store) (last : D) (result : Result (Unit {0}) Refusal) → ((v : World) → Holds g start_disk first m mid v → DoneBy g start_disk first v n mid after (Session 0) c (Ok tt))
          → ((v : World) → Holds g start_disk first n after v → DoneBy g start_disk first v o after last (Session 0) (Commit None None) result) → OneLed w o before last result
      row_put o last result puts commits =
          led_behind g start_disk first Beginning Committing (PutsRows name demand rows) w n o before after last result (put_row (Ok tt) puts)
          (λ v holds. called_led g start_disk first (Session 0) (Commit None None) (PutsRows name demand rows) v o after last result (commits v holds))

  -- ---- the rows

  module _ (name : List ℕ) (demand : Demand) (First : Point → Ran → Type 0) (w : World) (s : Store) (before mid : D) where
    abbrev SoFar : List Row → Type 0
    SoFar rows = LedBy g start_disk first w s before mid First (PutsRows name demand rows) (Ok tt)

    pub rows_next : (n : Store) (after : D) (result : Result (Unit {0}) Refusal) (all rows : List Row) (row : Row) → all ≡ row ∷ rows → SoFar all → ((v : World) → Holds g start_disk first s mid v → RowLed name demand row rows v n mid after result)
        → LedBy g start_disk first w n before after First (PutsRows name demand rows) result
    rows_next n after result all rows row is so_far next =
        led_behind g start_disk first First (PutsRows name demand (row ∷ rows)) (PutsRows name demand rows) w s n before mid after result (subst SoFar is so_far) next

    pub rows_end : (all : List Row) → all ≡ [] → SoFar all → LedBy g start_disk first w s before mid First ClosesLoad (Ok tt)
    rows_end all is so_far = subst SoFar is so_far

    -- memory for a row is wanted
    pub rows_short : (all : List Row) → 0 < length all → SoFar all → LedBy g start_disk first w s before mid First ClosesLoad (Err NoMemory)
    rows_short [] some so_far = absurd (omega (arith, some))
    rows_short (row ∷ rows) some so_far =
        led_behind g start_disk first First (PutsRows name demand (row ∷ rows)) (PutsRows name demand rows) w s s before mid mid (Err NoMemory) so_far (λ v holds. row_short name demand row rows v s mid holds)

-- what is left of them
pub row_taken : (o : Option Row) (row : Row) (old new : List Row) → o ≡ Some row → MatchOption o (old ≡ []) (λ r. old ≡ r ∷ new) → old ≡ row ∷ new
row_taken o row old new is taken = subst (λ (x : Option Row). MatchOption x (old ≡ []) (λ r. old ≡ r ∷ new)) is taken

pub row_none : (o : Option Row) (old new : List Row) → o ≡ None → MatchOption o (old ≡ []) (λ r. old ≡ r ∷ new) → old ≡ []
row_none o old new is taken = subst (λ (x : Option Row). MatchOption x (old ≡ []) (λ r. old ≡ r ∷ new)) is taken
