use Rattle.std.proofs.Common.{◌≡◌, ◌∙◌, ◌++◌, ◌+◌, [], ◌∷◌, List, ℕ, suc, length, take, ap, sym, subst, refl, arith}
use Rattle.std.specs.List.{AllByRecursion}
use Rattle.std.proofs.lemmas.List.{length-append, map-append}
use Rattle.disk_model.proofs.Crash.{same_disk_then}
use Rattle.device_layout.specs.declared.addr.Addr.{Addr}
use Rattle.stored.specs.Links.{LinkFits}
use Rattle.stored.specs.TableTree.{Entry}
use Rattle.tree_write.specs.Drafts.{addrs_to}
use Rattle.tree_write.specs.Steps.{keys_of, part_keys}
use Rattle.leaf_write.specs.Adds.{AreAdded}
use Rattle.leaf_write.proofs.Adding.{added_more, added_none}
use Rattle.leaf_write.proofs.Going.{Going, addrs_more, begun, ended, given_back, more, next}
use Rattle.leaf_write.proofs.Lists.{all_both, get_some, keys_more, spelled_at}
use Rattle.leaf_write.proofs.leaves.write_leaves.Goals as goal

pub loop-i-init : goal.loop-i-init
loop-i-init g c = record {
  disk = record { same = refl; room = refl; home = refl; later = omega arith };
  held = refl;
  ready = c.requires.ready;
  count = ap length c.in-Ok.ensures.items;
  room = omega (arith, c.in-Ok.ensures.capacity);
  keys = ap keys_of c.in-Ok.ensures.items;
  fits = subst (λ (l : List Entry). AllByRecursion (λ (e : Entry). LinkFits e.link) l) (sym c.in-Ok.ensures.items) tt;
  added = subst (λ (l : List Entry). AreAdded c.args.blocks.now (addrs_to l) c.args.blocks.now) (sym c.in-Ok.ensures.items) (added_none c.args.blocks.now);
  going = λ leaves spelled h old may. subst (λ (l : List Entry). Going g.D.Disk old c.args.blocks.now c.args.disk.now c.args.images.now leaves 0 l c.args.blocks.now c.args.disk.now) (sym c.in-Ok.ensures.items)
      (begun g.D.Disk old c.args.blocks.now c.args.disk.now c.args.images.now leaves may (λ d left. g.met.D.Disk.only_now _ d left) spelled);
}

pub write_leaf-requires-clause-rows : goal.write_leaf-requires-clause-rows
write_leaf-requires-clause-rows g c = spelled_at c.args.images.now c.requires.leaves.0 c.loop-i.i c.index-images-i.result c.requires.leaves.1 (get_some c.args.images.now c.loop-i.i c.index-images-i.result c.loop-i-test.true c.index-images-i.is)

pub returns-in-Err-clause-writes : goal.returns-in-Err-clause-writes
returns-in-Err-clause-writes g c leaves spelled h old may =
    let D = g.D.Disk in
    let books0 = c.args.blocks.now in
    let start = c.args.disk.now in
    let now = c.loop-i.invariant in
    let i = c.loop-i.i in
    let es = c.loop-i.entries.items in
    let image = c.index-images-i.result in
    let at = get_some c.args.images.now i image c.loop-i-test.true c.index-images-i.is in
    let going = now.going leaves spelled h old may in
    let one = next D old books0 start c.args.images.now leaves i es c.loop-i.blocks c.loop-i.disk image going at now.disk.room in
    let wrote = c.in-Err.ensures.writes one.rows one.spells (now.disk.same ∙ h) old going.written.may in
    let back = c.give_back.ensures in
    given_back D old books0 start c.args.images.now leaves i es c.loop-i.blocks c.loop-i.disk image going at now.disk.room may c.write_leaf.new.blocks c.give_back.new.blocks c.write_leaf.new.disk c.in-Err.error wrote
    (λ before added. back.cells before (subst (λ (l : List Entry). AreAdded before (addrs_to l) c.write_leaf.new.blocks) (sym c.deref.ensures.value) added)) back.units back.synced

pub loop-i-preserved : goal.loop-i-preserved
loop-i-preserved g c =
    let D = g.D.Disk in
    let books0 = c.args.blocks.now in
    let start = c.args.disk.now in
    let now = c.loop-i.invariant in
    let i = c.loop-i.i in
    let es = c.loop-i.entries.items in
    let image = c.index-images-i.result in
    let at = get_some c.args.images.now i image c.loop-i-test.true c.index-images-i.is in
    let items = c.push_reserved.ensures.items in
    let done = c.in-Ok-write_leaf.ensures in
    let e : Entry = c.in-Ok-write_leaf.entry in
    let later : suc i ≡ i + 1 = omega arith in
    record {
      disk = same_disk_then D start c.loop-i.disk c.write_leaf.new.disk now.disk done.disk;
      held = done.held ∙ now.held;
      ready = λ h. done.ready (now.disk.same ∙ h) tt;
      count = omega (arith, ap (λ (l : List Entry). length l) items, length-append es (e ∷ []), now.count);
      room = omega (arith, c.push_reserved.ensures.capacity, now.room);
      keys = ap keys_of items ∙ (map-append {A = Entry} {B = List ℕ} (λ x. x.key) es (e ∷ []) ∙ (ap (λ (l : List (List ℕ)). l ++ e.key ∷ []) now.keys ∙ (ap (λ (k : List ℕ). take i (part_keys c.args.low.now c.args.images.now) ++ k ∷ []) done.key ∙ sym (keys_more c.args.low.now c.args.images.now i image at))));
      fits = subst (λ (l : List Entry). AllByRecursion (λ (x : Entry). LinkFits x.link) l) (sym {A = List Entry} items) (all_both (λ (x : Entry). LinkFits x.link) es (e ∷ []) now.fits (done.fits, tt));
      added = subst (λ (l : List Entry). AreAdded books0 (addrs_to l) c.write_leaf.new.blocks) (sym {A = List Entry} items)
          (subst (λ (l : List Addr). AreAdded books0 l c.write_leaf.new.blocks) (addrs_more es e) (added_more books0 c.loop-i.blocks c.write_leaf.new.blocks (addrs_to es) e.link.addr now.added done.added));
      going = λ leaves spelled h old may.
          let going = now.going leaves spelled h old may in
          let one = next D old books0 start c.args.images.now leaves i es c.loop-i.blocks c.loop-i.disk image going at now.disk.room in
          let wrote = done.writes one.rows one.spells (now.disk.same ∙ h) old going.written.may in
          let step : Going D old books0 start c.args.images.now leaves (suc i) (es ++ e ∷ []) c.write_leaf.new.blocks c.write_leaf.new.disk =
          more D old books0 start c.args.images.now leaves i es c.loop-i.blocks c.loop-i.disk image going at now.disk.room (now.ready h) e c.write_leaf.new.blocks c.write_leaf.new.disk wrote in
          subst (λ (l : List Entry). Going D old books0 start c.args.images.now leaves (i + 1) l c.write_leaf.new.blocks c.write_leaf.new.disk) (sym {A = List Entry} items)
          (subst (λ (k : ℕ). Going D old books0 start c.args.images.now leaves k (es ++ e ∷ []) c.write_leaf.new.blocks c.write_leaf.new.disk) later step);
    }

pub returns-clause-writes : goal.returns-clause-writes
returns-clause-writes g c leaves spelled h old may = ended g.D.Disk old c.args.blocks.now c.args.disk.now c.args.images.now leaves c.loop-i.i c.loop-i.entries.items c.loop-i.blocks c.loop-i.disk (c.loop-i.invariant.going leaves spelled h old may) (omega (arith, c.loop-i-test.false))
