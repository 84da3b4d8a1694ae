use Rattle.std.proofs.Common.{◌≡◌, ◌∙◌, ◌++◌, ◌+◌, [], ◌∷◌, List, ℕ, suc, length, take, ap, sym, subst, refl, arith, append_assoc}
use Rattle.std.specs.Prelude.{Err}
use Rattle.std.specs.List.{AllByRecursion}
use Rattle.std.proofs.lemmas.List.{append-nil, length-append, map-append}
use Rattle.disk_model.proofs.Crash.{same_disk_then}
use Rattle.device_layout.specs.declared.addr.Addr.{Addr}
use Rattle.device_layout.specs.declared.link.Link.{Link}
use Rattle.stored.specs.Links.{LinkFits}
use Rattle.stored.specs.TableTree.{Entry}
use Rattle.tree_write.specs.Steps.{LeafWrites, LeafWritten, keys_of, part_keys}
use Rattle.tree_write.specs.Writes.{IsLiveLeaf}
use Rattle.tree_write.proofs.Going.{Going, begun, ended, failed, get_some, keys_more, leaf_mid, live_mid, more, next, spelled_at, stopped}
use Rattle.tree_write.proofs.LeafSteps.{want_space}
use Rattle.tree_write.proofs.Lists.{all_both}
use Rattle.tree_write.proofs.leaves.write_leaves.Goals as goal

pub returns-in_default-clause-writes : goal.returns-in_default-clause-writes
returns-in_default-clause-writes g c leaves spelled h old first may =
    let D = g.D.Disk in
    let d = c.args.disk.now in
    let books = c.args.blocks.now in (
      [],
      sym (append-nil c.args.captured.now.items),
      stopped D old first books d c.args.was.now c.args.images.now leaves may (c.requires.ready h) (λ d left. g.met.D.Disk.only_now _ d left) 0 [] [] books d _
          (begun D old first books d c.args.was.now c.args.images.now leaves may (c.requires.ready h) (λ d left. g.met.D.Disk.only_now _ d left) spelled) (λ is. want_space is),
    )

pub loop-i-init : goal.loop-i-init
loop-i-init g c = record {
  disk = record { same = refl; room = refl; home = refl; later = omega arith };
  held = c.requires.held;
  ready = c.requires.ready;
  count = ap length c.in-Ok.ensures.items;
  room = omega (arith, c.in-Ok.ensures.capacity);
  keys = ap keys_of c.in-Ok.ensures.items;
  fits = subst (λ (l : List Entry). AllByRecursion (λ (e : Entry). LinkFits e.link) l) (sym c.in-Ok.ensures.items) tt;
  going = λ leaves spelled h old first may. (
    [],
    sym (append-nil c.args.captured.now.items),
    subst (λ (l : List Entry). Going g.D.Disk old first c.args.blocks.now c.args.disk.now c.args.was.now c.args.images.now leaves 0 l [] c.args.blocks.now c.args.disk.now) (sym c.in-Ok.ensures.items)
        (begun g.D.Disk old first c.args.blocks.now c.args.disk.now c.args.was.now c.args.images.now leaves may (c.requires.ready h) (λ d left. g.met.D.Disk.only_now _ d left) spelled),
  );
}

pub write_leaf-requires-clause-rows : goal.write_leaf-requires-clause-rows
write_leaf-requires-clause-rows g c = spelled_at c.args.images.now c.requires.leaves.0 c.loop-i.i c.index-images-i.result c.requires.leaves.1 (get_some c.args.images.now c.loop-i.i c.index-images-i.result c.loop-i-test.true c.index-images-i.is)

pub returns-in_default-key_of-clause-writes : goal.returns-in_default-key_of-clause-writes
returns-in_default-key_of-clause-writes g c leaves spelled h old first may =
    let D = g.D.Disk in
    let now = c.loop-i.invariant in
    let going = now.going leaves spelled h old first may in
    (going.0, going.1, stopped D old first c.args.blocks.now c.args.disk.now c.args.was.now c.args.images.now leaves may (c.requires.ready h) (λ d left. g.met.D.Disk.only_now _ d left) c.loop-i.i c.loop-i.entries.items going.0 c.loop-i.blocks c.loop-i.disk _ going.2 (λ is. want_space is))

pub returns-in-Err-clause-writes : goal.returns-in-Err-clause-writes
returns-in-Err-clause-writes g c leaves spelled h old first may =
    let D = g.D.Disk in
    let now = c.loop-i.invariant in
    let image = c.index-images-i.result in
    let at = get_some c.args.images.now c.loop-i.i image c.loop-i-test.true c.index-images-i.is in
    let only = λ (d : List ℕ) (left : D.left_since c.args.disk.now (D.moment c.args.disk.now) d). g.met.D.Disk.only_now _ d left in
    let going = now.going leaves spelled h old first may in
    let es = c.loop-i.entries.items in
    let one = next D old first c.args.blocks.now c.args.disk.now c.args.was.now c.args.images.now leaves may (c.requires.ready h) only c.loop-i.i es going.0 c.loop-i.blocks c.loop-i.disk image going.2 at now.disk.room in
    let live = live_mid D old first c.args.blocks.now c.args.disk.now c.args.was.now c.args.images.now leaves may (c.requires.ready h) only c.loop-i.i es going.0 c.loop-i.blocks c.loop-i.disk image going.2 at now.disk.room in
    let leaf = leaf_mid D old first c.args.blocks.now c.args.disk.now c.args.was.now c.args.images.now leaves may (c.requires.ready h) only c.loop-i.i es going.0 c.loop-i.blocks c.loop-i.disk image going.2 at now.disk.room in
    let wrote = c.in-Err.ensures.writes one.rows one.spells (now.disk.same ∙ h) old first going.2.captures.may live (subst (λ (l : Link). IsLiveLeaf first l) (sym c.link_at.ensures) leaf) in (
      going.0 ++ wrote.0,
      wrote.1 ∙ (ap (λ (l : List Addr). l ++ wrote.0) going.1 ∙ append_assoc c.args.captured.now.items going.0 wrote.0),
      failed D old first c.args.blocks.now c.args.disk.now c.args.was.now c.args.images.now leaves may (c.requires.ready h) only c.loop-i.i es going.0 c.loop-i.blocks c.loop-i.disk image going.2 at now.disk.room wrote.0 c.write_leaf.new.blocks c.write_leaf.new.disk c.in-Err.error
          (subst (λ (l : Link). LeafWrites D old first c.loop-i.blocks c.write_leaf.new.blocks c.loop-i.disk c.write_leaf.new.disk l one.rows wrote.0 (Err c.in-Err.error)) c.link_at.ensures wrote.2),
    )

pub loop-i-preserved : goal.loop-i-preserved
loop-i-preserved g c =
    let D = g.D.Disk in
    let now = c.loop-i.invariant in
    let image = c.index-images-i.result in
    let at = get_some c.args.images.now c.loop-i.i image c.loop-i-test.true c.index-images-i.is in
    let es = c.loop-i.entries.items in
    let items = c.push_reserved.ensures.items in
    let done = c.in-Ok-write_leaf.ensures in
    let entry : Entry = record { key = c.in-Ok-key_of.key; link = c.in-Ok-write_leaf.link } in
    record {
      disk = same_disk_then D c.args.disk.now c.loop-i.disk c.write_leaf.new.disk now.disk done.disk;
      held = done.held;
      ready = λ h. done.ready (now.disk.same ∙ h);
      count = omega (arith, ap (λ (l : List Entry). length l) items, length-append es (entry ∷ []), now.count);
      room = omega (arith, c.push_reserved.ensures.capacity, now.room);
      keys = ap keys_of items ∙ (map-append {A = Entry} {B = List ℕ} (λ e. e.key) es (entry ∷ []) ∙ (ap (λ (l : List (List ℕ)). l ++ entry.key ∷ []) now.keys ∙ (ap (λ (k : List ℕ). take c.loop-i.i (part_keys c.args.low.now c.args.images.now) ++ k ∷ []) c.in-Ok-key_of.ensures ∙ sym (keys_more c.args.low.now c.args.images.now c.loop-i.i image at))));
      fits = subst (λ (l : List Entry). AllByRecursion (λ (e : Entry). LinkFits e.link) l) (sym items) (all_both (λ (e : Entry). LinkFits e.link) es (entry ∷ []) now.fits (done.fits, tt));
      going = λ leaves spelled h old first may.
          let only = λ (d : List ℕ) (left : D.left_since c.args.disk.now (D.moment c.args.disk.now) d). g.met.D.Disk.only_now _ d left in
          let going = now.going leaves spelled h old first may in
          let one = next D old first c.args.blocks.now c.args.disk.now c.args.was.now c.args.images.now leaves may (c.requires.ready h) only c.loop-i.i es going.0 c.loop-i.blocks c.loop-i.disk image going.2 at now.disk.room in
          let live = live_mid D old first c.args.blocks.now c.args.disk.now c.args.was.now c.args.images.now leaves may (c.requires.ready h) only c.loop-i.i es going.0 c.loop-i.blocks c.loop-i.disk image going.2 at now.disk.room in
          let leaf = leaf_mid D old first c.args.blocks.now c.args.disk.now c.args.was.now c.args.images.now leaves may (c.requires.ready h) only c.loop-i.i es going.0 c.loop-i.blocks c.loop-i.disk image going.2 at now.disk.room in
          let wrote = done.writes one.rows one.spells (now.disk.same ∙ h) old first going.2.captures.may live (subst (λ (l : Link). IsLiveLeaf first l) (sym c.link_at.ensures) leaf) in
          let step : Going D old first c.args.blocks.now c.args.disk.now c.args.was.now c.args.images.now leaves (suc c.loop-i.i) (es ++ entry ∷ []) (going.0 ++ wrote.0) c.write_leaf.new.blocks c.write_leaf.new.disk =
          more D old first c.args.blocks.now c.args.disk.now c.args.was.now c.args.images.now leaves may (c.requires.ready h) only c.loop-i.i es going.0 c.loop-i.blocks c.loop-i.disk image going.2 at now.disk.room c.in-Ok-key_of.key c.in-Ok-write_leaf.link wrote.0 c.write_leaf.new.blocks c.write_leaf.new.disk
          (subst (λ (l : Link). LeafWritten D old first c.loop-i.blocks c.write_leaf.new.blocks c.loop-i.disk c.write_leaf.new.disk l one.rows wrote.0 c.in-Ok-write_leaf.link) c.link_at.ensures wrote.2) in
          let later : suc c.loop-i.i ≡ c.loop-i.i + 1 = omega arith in (
            going.0 ++ wrote.0,
            wrote.1 ∙ (ap (λ (l : List Addr). l ++ wrote.0) going.1 ∙ append_assoc c.args.captured.now.items going.0 wrote.0),
            subst (λ (l : List Entry). Going D old first c.args.blocks.now c.args.disk.now c.args.was.now c.args.images.now leaves (c.loop-i.i + 1) l (going.0 ++ wrote.0) c.write_leaf.new.blocks c.write_leaf.new.disk) (sym items)
                (subst (λ (k : ℕ). Going D old first c.args.blocks.now c.args.disk.now c.args.was.now c.args.images.now leaves k (es ++ entry ∷ []) (going.0 ++ wrote.0) c.write_leaf.new.blocks c.write_leaf.new.disk) later step),
          );
    }

pub returns-clause-writes : goal.returns-clause-writes
returns-clause-writes g c leaves spelled h old first may =
    let going = c.loop-i.invariant.going leaves spelled h old first may in
    (going.0, going.1, ended g.D.Disk old first c.args.blocks.now c.args.disk.now c.args.was.now c.args.images.now leaves may (c.requires.ready h) (λ d left. g.met.D.Disk.only_now _ d left) c.loop-i.i c.loop-i.entries.items going.0 c.loop-i.blocks c.loop-i.disk going.2 (omega (arith, c.loop-i-test.false)))
