-- What a leaf that a call waits for brings, and what is told where it cannot be had.
use Rattle.std.proofs.Common.{◌≡◌, ◌∙◌, ◌≤◌, ℕ, Option, None, sym, ap, subst, inl, inr, arith}
use Rattle.std.specs.Prelude.{Result, Ok, Err, IfErr, IsTrue, option_map}
use Rattle.failure.specs.Counts.{Rose}
use Rattle.failure.specs.declared.Fault.{Fault}
use Rattle.disk_model.specs.Crash.{Looked}
use Rattle.disk_model.specs.declared.disk.Disk.{Ghosts}
use Rattle.wt_code.specs.declared.refusals.Refusal.{Refusal}
use Rattle.tree_dir.specs.Leaves.{IsDirectory}
use Rattle.engine_world.specs.Worlds.{World}
use Rattle.engine.specs.Waits.{IsAway}
use Rattle.ckpt_step.specs.Rooms.{known_in}
use Rattle.engine_store.specs.declared.store.Store.{Store}
use Rattle.engine_store.specs.Calls.{Basis, IsBasis, MayTell}
use Rattle.engine_store.specs.Fetches.{IsReached}
use Rattle.engine_store.specs.Keeping.{with_kept}
use Rattle.engine_store.specs.Loads.{IsCause, LacksLeaf, RefusesLeaf, ShelfIsOn}
use Rattle.engine_store.proofs.Bases.{spoilt_on}
use Rattle.engine_store.proofs.Shelves.{shelf_on}

pub none_known : {A B : Type 0} (f : A → B) (o : Option A) (known : Option B) → option_map f o ≡ known → o ≡ None → known ≡ None
none_known {A = A} f o known is none = sym is ∙ ap (λ (x : Option A). option_map f x) none

-- ---- counts of faults

pub rose_since : (start before after : ℕ) → start ≤ before → Rose before after → Rose start after
rose_since start before after le rose = omega (arith, le, rose)

pub rose_later : (before mid after : ℕ) → mid ≤ after → Rose before mid → Rose before after
rose_later before mid after le rose = omega (arith, le, rose)

-- ---- the leaf

module _ {D : Type 0} (g : Ghosts D) (s : Store) (disk : D) where
  pub shelf_here : (w now : World) (leaf : ℕ) → IsReached g s disk w now → s.engine.hub.fault ≡ None → IsAway s.engine.hub.dir.leaves leaf → known_in s.ground.parts leaf ≡ None → ShelfIsOn (g.seen disk) s.engine.hub.dir now.shelf leaf
  shelf_here w now leaf reached up away none =
      let b = reached.backed up in
      shelf_on (g.seen disk) (g.may_leave disk) s.engine s.ground (with_kept s.ground.kept now) reached.stands b.0 w leaf b.1 b.2 b.3 reached.shelf away none

pub caused : (fault full : Type 0) (down : Option Fault) (result : Result (Unit {0}) Refusal) → IfErr result (LacksLeaf fault) → IfErr result (IsCause fault full down)
caused fault full down (Ok done) lacks = tt
caused fault full down (Err r) (inl none) = inl none
caused fault full down (Err r) (inr rose) = inr (inl rose)

-- ---- what is told

module _ {D : Type 0} (g : Ghosts D) (basis : Option Basis) (start before after : D) (le : g.faults start ≤ g.faults before) (looked : Looked g before after) where
  abbrev Told : Refusal → Type 0
  Told r = MayTell g basis start after r

  pub tells_leaf : (s : Store) (leaf : ℕ) (result : Result (Unit {0}) Refusal) → IsBasis g basis s.engine before → IsDirectory s.engine.hub.dir → IsAway s.engine.hub.dir.leaves leaf → IfErr result (RefusesLeaf g s.engine.hub.dir leaf before after) → IfErr result (MayTell g basis start after)
  tells_leaf s leaf (Ok done) on dir away why = tt
  tells_leaf s leaf (Err r) on dir away (inl (is, rose)) = subst Told (sym is) (rose_since (g.faults start) (g.faults before) (g.faults after) le rose)
  tells_leaf s leaf (Err r) on dir away (inr (inl is)) = subst Told (sym is) tt
  tells_leaf s leaf (Err r) on dir away (inr (inr (at, want, found, is, spoils))) = subst Told (sym is) (λ honest.
      let h : IsTrue (g.honest before) = sym looked.same ∙ honest in
      spoilt_on g basis s.engine before leaf at want found on dir away h (spoils h))
