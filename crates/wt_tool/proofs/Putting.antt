-- The runs of `write`, by what its calls did.
use Rattle.std.specs.Prelude.{◌≡◌, ◌≤◌, ◌<◌, ◌+◌, ◌==◌, ℕ, suc, Bool, true, false, List, [], ◌∷◌, length, drop, None, Result, Ok, Err}
use Rattle.std.proofs.Common.{inl, refl, sym, ap, subst, ◌∙◌, Bor, get_or, length-drop, arith}
use Rattle.std.proofs.Math.Seq.{drop-cons}
use Rattle.std.proofs.lemmas.Bool.{eqb-true}
use Rattle.std.proofs.lemmas.List.{nil_from_length}
use Rattle.disk_model.specs.declared.disk.Disk.{Ghosts}
use Rattle.script_run.specs.declared.script.End.TheVariants.{Through}
use Rattle.wt_line.specs.Line.{pair_texts}
use Rattle.wt_code.specs.declared.refusals.Refusal.{Refusal}
use Rattle.wt_code.specs.declared.refusals.Refusal.TheVariants.{NoMemory}
use Rattle.kv_model.specs.Decisions.{Demand}
use Rattle.kv_model.specs.Machine.{Completed}
use Rattle.kv_model.specs.Calls.{Session, Call, Begin, Commit}
use Rattle.item_forms.specs.Forms.{stored_as}
use Rattle.engine_world.specs.Worlds.{World}
use Rattle.engine_store.specs.declared.store.Store.{Store}
use Rattle.engine_store.specs.Devices.{device_of}
use Rattle.wt_tool.specs.Points.{Point, Ran, Calls, WithSession, ends, Closes, point_of}
use Rattle.wt_tool.specs.Openings.{formats_at}
use Rattle.wt_tool.specs.Writes.{PutsPairs, WritesPairs, the_put}
use Rattle.wt_tool.specs.Led.{DoneBy, Holds, LedBy, PutsBegun}
use Rattle.wt_tool.proofs.Beside.{short_put}
use Rattle.wt_tool.proofs.Leading.{called_led, ended, led_behind}

module _ {D : Type 0} (g : Ghosts D) (start_disk : D) (first : Completed) (name : List ℕ) (demand : Demand) (pair : List ℕ × List ℕ) (pairs : List (List ℕ × List ℕ)) (w : World) where
  -- of a pair, and once its transaction has begun
  abbrev pub PutLed : Store → D → D → Result (Unit {0}) Refusal → Type 0
  PutLed n before after result = LedBy g start_disk first w n before after (PutsPairs name demand (pair ∷ pairs)) (PutsPairs name demand pairs) result

  abbrev pub BegunLed : World → Store → D → D → Result (Unit {0}) Refusal → Type 0
  BegunLed v n before after result = LedBy g start_disk first v n before after (PutsBegun name demand pair pairs) (PutsPairs name demand pairs) result

  abbrev Commits : Point → Ran → Type 0
  Commits p ran = Calls (Session 0) (Commit None None) (λ done. PutsPairs name demand pairs done) p ran

  pub put_led : (m n : Store) (before mid after : D) (result : Result (Unit {0}) Refusal) → DoneBy g start_disk first w m before mid (Session 0) (Begin None) (Ok tt)
      → ((v : World) → Holds g start_disk first m mid v → BegunLed v n mid after result) → PutLed n before after result
  put_led m n before mid after result begins begun =
      led_behind g start_disk first (PutsPairs name demand (pair ∷ pairs)) (PutsBegun name demand pair pairs) (PutsPairs name demand pairs) w m n before mid after result
      (called_led g start_disk first (Session 0) (Begin None) (PutsBegun name demand pair pairs) w m before mid (Ok tt) begins) begun

  pub put_refused : (m : Store) (before after : D) (r : Refusal) → DoneBy g start_disk first w m before after (Session 0) (Begin None) (Err r) → PutLed m before after (Err r)
  put_refused m before after r begins = called_led g start_disk first (Session 0) (Begin None) (PutsBegun name demand pair pairs) w m before after (Err r) begins

  -- the put of the pair
  putting : (m : Store) (before after : D) (c : Call) (result : Result (Unit {0}) Refusal) → c ≡ the_put w.machine name demand pair → DoneBy g start_disk first w m before after (Session 0) c result
      → LedBy g start_disk first w m before after (λ p ran. Calls (Session 0) (the_put w.machine name demand pair) Commits p ran) Commits result
  putting m before after c result is put =
      called_led g start_disk first (Session 0) (the_put w.machine name demand pair) Commits w m before after result (subst (λ (x : Call). DoneBy g start_disk first w m before after (Session 0) x result) is put)

  as_begun : (n : Store) (before after : D) (Rest : Point → Ran → Type 0) (result : Result (Unit {0}) Refusal) → LedBy g start_disk first w n before after (λ p ran. Calls (Session 0) (the_put w.machine name demand pair) Commits p ran) Rest result
      → LedBy g start_disk first w n before after (PutsBegun name demand pair pairs) Rest result
  as_begun n before after Rest (Ok done) led = led
  as_begun n before after Rest (Err r) led = led

  pub begun_led : (m n : Store) (before mid after : D) (c : Call) (result : Result (Unit {0}) Refusal) → c ≡ the_put w.machine name demand pair → DoneBy g start_disk first w m before mid (Session 0) c (Ok tt)
      → ((v : World) → Holds g start_disk first m mid v → DoneBy g start_disk first v n mid after (Session 0) (Commit None None) result) → BegunLed w n before after result
  begun_led m n before mid after c result is put commits =
      led_behind g start_disk first (PutsBegun name demand pair pairs) Commits (PutsPairs name demand pairs) w m n before mid after result
      (as_begun m before mid Commits (Ok tt) (putting m before mid c (Ok tt) is put))
      (λ v holds. called_led g start_disk first (Session 0) (Commit None None) (PutsPairs name demand pairs) v n mid after result (commits v holds))

  pub begun_refused : (m : Store) (before after : D) (c : Call) (r : Refusal) → c ≡ the_put w.machine name demand pair → DoneBy g start_disk first w m before after (Session 0) c (Err r) → BegunLed w m before after (Err r)
  begun_refused m before after c r is put = as_begun m before after (PutsPairs name demand pairs) (Err r) (putting m before after c (Err r) is put)

  pub begun_short : (s : Store) (disk : D) (r : Refusal) → r ≡ NoMemory → Holds g start_disk first s disk w → BegunLed w s disk disk (Err r)
  begun_short s disk r is holds = subst (λ (x : Refusal). BegunLed w s disk disk (Err x)) (sym is) (
    w.machine,
    ended g start_disk first s disk w holds,
    inl (
      NoMemory,
      point_of g w.machine disk,
      short_put (device_of g disk) w.machine name (stored_as (formats_at w.machine name).key pair.0) (stored_as (formats_at w.machine name).value pair.1) demand,
      refl,
    ),
  )

-- ---- pairs of words

abbrev pub Words : Type 0
Words = List (Bor (List ℕ) × Bor (List ℕ))

-- without a pair nothing is run, with one a session is opened
pub writes_none : (name : List ℕ) (demand : Demand) (l : Words) (empty : Bool) → empty ≡ true → empty ≡ (length l == 0) → (p : Point) → WritesPairs name demand (pair_texts l) p (ends Through p)
writes_none name demand [] empty is tells p = refl
writes_none name demand (x ∷ l) empty is tells p = let no : length (x ∷ l) ≡ 0 = eqb-true (length (x ∷ l)) 0 (sym tells ∙ is) in absurd (omega (arith, no))

pub writes_some : (name : List ℕ) (demand : Demand) (l : Words) (empty : Bool) → empty ≡ false → empty ≡ (length l == 0) → (p : Point) (ran : Ran) → WithSession (PutsPairs name demand (pair_texts l)) p ran → WritesPairs name demand (pair_texts l) p ran
writes_some name demand [] empty is tells p ran runs = let no : true ≡ false = sym tells ∙ is in absurd (cc)
writes_some name demand (x ∷ l) empty is tells p ran runs = runs

abbrev pub nowhere : Bor (List ℕ) × Bor (List ℕ)
nowhere = (record { ref_ptr = (0, 0); now = [] }, record { ref_ptr = (0, 0); now = [] })

-- the pair at a place, and those behind it
pub at_pair : (l : Words) (i : ℕ) (d : Bor (List ℕ) × Bor (List ℕ)) → i < length l → pair_texts (drop i l) ≡ ((get_or l i d).0.now, (get_or l i d).1.now) ∷ pair_texts (drop (i + 1) l)
at_pair l i d less =
    let e : suc i ≡ i + 1 = omega arith in
    ap pair_texts (drop-cons l i d less) ∙ ap (λ (n : ℕ). ((get_or l i d).0.now, (get_or l i d).1.now) ∷ pair_texts (drop n l)) e

pub no_pair : (l : Words) (i : ℕ) → length l ≤ i → pair_texts (drop i l) ≡ []
no_pair l i past = ap pair_texts (nil_from_length (drop i l) (omega (arith, length-drop i l, past)))

module _ {D : Type 0} (g : Ghosts D) (start_disk : D) (first : Completed) (name : List ℕ) (demand : Demand) (l : Words) (i : ℕ) (First : Point → Ran → Type 0) (u : World) (e : Store) (before mid : D) where
  abbrev SoFar : Type 0
  SoFar = LedBy g start_disk first u e before mid First (PutsPairs name demand (pair_texts (drop i l))) (Ok tt)

  -- the next of them was put, or refused
  pub led_next : (n : Store) (after : D) (result : Result (Unit {0}) Refusal) → i < length l → SoFar
      → ((v : World) → Holds g start_disk first e mid v → (pairs : List (List ℕ × List ℕ)) → PutLed g start_disk first name demand ((get_or l i nowhere).0.now, (get_or l i nowhere).1.now) pairs v n mid after result)
      → LedBy g start_disk first u n before after First (PutsPairs name demand (pair_texts (drop (i + 1) l))) result
  led_next n after result less so_far next =
      let pair : List ℕ × List ℕ = ((get_or l i nowhere).0.now, (get_or l i nowhere).1.now) in
      led_behind g start_disk first First (PutsPairs name demand (pair ∷ pair_texts (drop (i + 1) l))) (PutsPairs name demand (pair_texts (drop (i + 1) l))) u e n before mid after result
      (subst (λ (pairs : List (List ℕ × List ℕ)). LedBy g start_disk first u e before mid First (PutsPairs name demand pairs) (Ok tt)) (at_pair l i nowhere less) so_far)
      (λ v holds. next v holds (pair_texts (drop (i + 1) l)))

  -- all were put
  pub led_end : length l ≤ i → SoFar → LedBy g start_disk first u e before mid First Closes (Ok tt)
  led_end past so_far = subst (λ (pairs : List (List ℕ × List ℕ)). LedBy g start_disk first u e before mid First (PutsPairs name demand pairs) (Ok tt)) (no_pair l i past) so_far
