-- What the device has of leaves that go on, and the hub with them.
use Rattle.std.proofs.Common.{◌≡◌, ◌≢◌, ℕ, List, Option, Some, refl, sym, ap, subst, ◌∙◌, inl, inr, arith}
use Rattle.std.specs.Prelude.{slice_get}
use Rattle.std.specs.List.{Contains}
use Rattle.kv_model.specs.History.{Table}
use Rattle.row_page.specs.Rows.{Row}
use Rattle.kv_model.specs.Holds.{Descends}
use Rattle.kv_model.specs.Ordered.{Older}
use Rattle.leaf_rows.specs.Contents.{seen_rows}
use Rattle.leaf_rows.specs.declared.marks.Marks.{Marks}
use Rattle.reconcile.specs.declared.image.Moved.{Moved}
use Rattle.reconcile.specs.Moving.{versions_in}
use Rattle.evict_step.specs.Kept.{Lists, list_of, records_in}
use Rattle.kept_open.specs.Opening.{opened_rows}
use Rattle.stored.specs.TableTree.{Entry}
use Rattle.disk_model.specs.Crash.{Looked}
use Rattle.disk_model.specs.declared.disk.Disk.{Ghosts}
use Rattle.wt_code.specs.declared.refusals.Refusal.{Refusal}
use Rattle.device_leaf.proofs.Opens.{rose_sooner}
use Rattle.recover_open.specs.Damage.{EntrySpoils}
use Rattle.recover_open.specs.Leaves.{IsUnder}
use Rattle.tree_dir.specs.declared.leaf.Leaf.{Leaf}
use Rattle.tree_dir.specs.Leaves.{Directory, leaves_of}
use Rattle.call_steps.specs.declared.hub.Hub.{Hub}
use Rattle.engine_world.specs.Leaves.{LeavesOwned}
use Rattle.engine.specs.Directories.{HubGoesOn, LeavesGoOn}
use Rattle.engine_store.specs.Loads.{LeafSpoils, RefusesLeaf, low_behind}
use Rattle.engine_store.specs.Marked.{IsLeafKept}
use Rattle.engine_store.proofs.LeavesGo.{leaf_was, leaves_same, leaves_then, low_goes, named_went}

-- ---- what the device has of them

pub kept_then : (bytes : List ℕ) (d n : Directory) (marks : Marks) (ids : List ℕ) (lists : Lists) (shelf : ℕ → List Row) → LeavesGoOn d.leaves n.leaves → ((l : Leaf) → Contains d.leaves l → IsLeafKept bytes d marks ids lists shelf l) → (l : Leaf) → Contains n.leaves l → IsLeafKept bytes n marks ids lists shelf l
kept_then bytes d n marks ids lists shelf goes kept l there =
    let was = leaf_was d.leaves n.leaves l goes there in
    let k = kept was.0 was.1 in
    record {
      rows = k.rows;
      under = subst (λ (e : Entry). IsUnder bytes e (low_behind l.id n.leaves) k.rows) (sym was.2.entry)
          (subst (λ (low : Option (List ℕ)). IsUnder bytes was.0.entry low k.rows) (ap (λ (i : ℕ). low_behind i d.leaves) (sym was.2.id) ∙ sym (low_goes d.leaves n.leaves l.id goes)) k.under);
      opened = ap shelf was.2.id ∙ (k.opened ∙ ap (λ (id : ℕ). opened_rows (seen_rows marks ids k.rows) (list_of lists id)) (sym was.2.id));
      falls = λ key. subst (λ (id : ℕ). Descends Older (records_in lists id key)) (sym was.2.id) (k.falls key);
    }

-- so it is where the same is kept of it
pub relisted : (bytes : List ℕ) (d : Directory) (marks : Marks) (ids : List ℕ) (lists now : Lists) (shelf : ℕ → List Row) (l : Leaf) → list_of now l.id ≡ list_of lists l.id → IsLeafKept bytes d marks ids lists shelf l → IsLeafKept bytes d marks ids now shelf l
relisted bytes d marks ids lists now shelf l same k = record {
  rows = k.rows;
  under = k.under;
  opened = k.opened ∙ ap (λ (moved : List Moved). opened_rows (seen_rows marks ids k.rows) moved) (sym same);
  falls = λ key. subst (λ (moved : List Moved). Descends Older (versions_in key moved)) (sym same) (k.falls key);
}

pub spoils_back : (bytes : List ℕ) (d n : Directory) (id at want found : ℕ) → LeavesGoOn d.leaves n.leaves → LeafSpoils bytes n id at want found → LeafSpoils bytes d id at want found
spoils_back bytes d n id at want found goes spoils =
    let was = named_went d.leaves n.leaves id spoils.leaf goes spoils.there in
    record {
      leaf = was.0;
      there = was.1;
      spoils = subst (λ (e : Entry). EntrySpoils bytes e (low_behind id d.leaves) at want found) was.2.entry (subst (λ (low : Option (List ℕ)). EntrySpoils bytes spoils.leaf.entry low at want found) (low_goes d.leaves n.leaves id goes) spoils.spoils);
    }

-- why a leaf is not read later, with the disk as it was before
pub refuses_back : {D : Type 0} (g : Ghosts D) (d n : Directory) (id : ℕ) (old mid new : D) (r : Refusal) → LeavesGoOn d.leaves n.leaves → Looked g old mid → RefusesLeaf g n id mid new r → RefusesLeaf g d id old new r
refuses_back g d n id old mid new r goes looked (inl failed) = inl (failed.0, rose_sooner (g.faults old) (g.faults mid) (g.faults new) looked.count failed.1)
refuses_back g d n id old mid new r goes looked (inr (inl none)) = inr (inl none)
refuses_back g d n id old mid new r goes looked (inr (inr (at, want, found, is, spoils))) = inr (inr (at, want, found, is, λ known. spoils_back (g.seen old) d n id at want found goes (subst (λ (bytes : List ℕ). LeafSpoils bytes n id at want found) looked.content (spoils (looked.same ∙ known)))))

-- ---- the hub

none_of : (h : Hub) (l : Leaf) → LeavesOwned h.tables.tables h.dir.leaves → Contains h.dir.leaves l → ((i : ℕ) (t : Table) → slice_get h.tables.tables i ≡ Some t → l.table ≢ t.number) → ⊥
none_of h l owned there none = let its = owned l there in none its.0 its.1 its.2 its.3

pub goes_same : (h : Hub) → LeavesOwned h.tables.tables h.dir.leaves → HubGoesOn h h
goes_same h owned = record {
  run = refl;
  fault = refl;
  tables = λ i t at. at;
  dir = record {
    ids = omega arith;
    kept = λ i t at. leaves_same (leaves_of t.number h.dir.leaves);
    made = λ l there none. absurd (none_of h l owned there none);
  };
}

pub owned_then : (h next : Hub) → LeavesOwned h.tables.tables h.dir.leaves → LeavesGoOn h.dir.leaves next.dir.leaves → HubGoesOn h next → LeavesOwned next.tables.tables next.dir.leaves
owned_then h next owned leaves goes l there =
    let was = leaf_was h.dir.leaves next.dir.leaves l leaves there in
    let its = owned was.0 was.1 in
    (its.0, its.1, goes.tables its.0 its.1 its.2, was.2.table ∙ its.3)

-- one after the other, where the leaves are those that were there
pub goes_then : (a b c : Hub) → LeavesOwned a.tables.tables a.dir.leaves → LeavesGoOn a.dir.leaves c.dir.leaves → HubGoesOn a b → HubGoesOn b c → HubGoesOn a c
goes_then a b c owned leaves g h = record {
  run = h.run ∙ g.run;
  fault = h.fault ∙ g.fault;
  tables = λ i t at. h.tables i t (g.tables i t at);
  dir = record {
    ids = (let one = g.dir.ids in let two = h.dir.ids in omega (arith, one, two));
    kept = λ i t at. leaves_then (leaves_of t.number a.dir.leaves) (leaves_of t.number b.dir.leaves) (leaves_of t.number c.dir.leaves) (g.dir.kept i t at) (h.dir.kept i t (g.tables i t at));
    made = λ l there none.
        let was = leaf_was a.dir.leaves c.dir.leaves l leaves there in
        absurd (none_of a was.0 owned was.1 (λ i t at same. none i t at (was.2.table ∙ same)));
  };
}
