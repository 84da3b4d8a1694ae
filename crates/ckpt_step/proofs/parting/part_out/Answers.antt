use Rattle.std.proofs.Common.{◌≡◌, ◌∙◌, ap, arith, inl, inr, length, refl, sym, subst, ℕ}
use Rattle.std.specs.Prelude.{option_copied}
use Rattle.tree_dir.specs.declared.leaf.Leaf.{Leaf}
use Rattle.tree_dir.specs.Leaves.{Directory}
use Rattle.evict_step.specs.Kept.{KeepsMore, KeepsThese, Lists, lying_in}
use Rattle.ckpt_step.proofs.KeptGround.{parts_kept}
use Rattle.ckpt_step.proofs.LedEnds.{stayed_led}
use Rattle.ckpt_step.proofs.Members.{some_same}
use Rattle.ckpt_step.proofs.OutConcluding.{parted_rows, parted_work}
use Rattle.ckpt_step.proofs.OutEnds.{refused_out, told_engine}
use Rattle.ckpt_step.proofs.parting.part_out.Goals as goal

pub returns-in-Some-clause-evicts : goal.returns-in-Some-clause-evicts
returns-in-Some-clause-evicts g c h w stands runs old on follows device = (
  stayed_led g.D.Disk old w c.args.ground.now c.args.engine.now c.args.leaf c.args.disk.now (λ x is. g.met.D.Disk.only_now _ x is) on follows device,
  inr (c.args.moved.items, record { running = option_copied c.args.running; runs = runs; images = c.args.images.items; cut = c.requires.cut; more = c.requires.more }, c.in-Some.ensures.some),
)

-- ---- there was no memory

pub returns-in_default-room_for-clause-evicts : goal.returns-in_default-room_for-clause-evicts
returns-in_default-room_for-clause-evicts g c h w stands runs old on follows device =
    inl (stayed_led g.D.Disk old w c.args.ground.now c.args.engine.now c.args.leaf c.args.disk.now (λ x is. g.met.D.Disk.only_now _ x is) on follows device, inr (inl refl))

pub returns-in_default-in_place-clause-evicts : goal.returns-in_default-in_place-clause-evicts
returns-in_default-in_place-clause-evicts g c h w stands runs old on follows device =
    inl (stayed_led g.D.Disk old w c.args.ground.now c.args.engine.now c.args.leaf c.args.disk.now (λ x is. g.met.D.Disk.only_now _ x is) on follows device, inr (inl refl))

-- ---- it parts

pub in_place-requires : goal.in_place-requires
in_place-requires g c = let more = c.requires.more in omega (arith, more)

pub put_out-requires-clause-may : goal.put_out-requires-clause-may
put_out-requires-clause-may g c = c.in_default.ensures.none refl

pub put_out-requires-clause-cut : goal.put_out-requires-clause-cut
put_out-requires-clause-cut g c = (c.requires.cut.rows, c.in-Ok-in_place.ensures.place c.requires.cut.rows c.requires.cut.are c.requires.cut.fit)

pub take_in-requires-clause-fit : goal.take_in-requires-clause-fit
take_in-requires-clause-fit g c = c.requires.cut.moved_fit

pub take_in-requires-clause-none : goal.take_in-requires-clause-none
take_in-requires-clause-none g c = c.in-Ok.ensures.none

pub take_in-requires-clause-room : goal.take_in-requires-clause-room
take_in-requires-clause-room g c =
    let room = c.in-Ok.ensures.room in
    let same = ap (λ (l : Lists). length l) c.put_out.ensures.history in
    let long = c.args.moved.ok.0 in
    let count = c.len.ensures in
    omega (arith, room, same, long, count)

pub returns-in-Ok-put_out-clause-evicts : goal.returns-in-Ok-put_out-clause-evicts
returns-in-Ok-put_out-clause-evicts g c h w stands runs old on follows device =
    let D = g.D.Disk in
    let cut = c.requires.cut in
    let moved = c.args.moved.items in
    let place = c.in-Ok-in_place.ensures.place cut.rows cut.are cut.fit in
    let put = c.in-Ok-put_out.ensures.puts h cut.rows place w stands (parted_rows c.args.engine.now w (option_copied c.args.running) c.args.leaf c.args.images.items moved cut place.leaf place.there stands runs) old on follows device in
    let left = parts_kept D old w c.args.ground.now c.put_out.new.ground c.args.engine.now c.put_out.new.engine c.args.leaf c.args.disk.now c.put_out.new.disk c.args.ground.now.kept c.take_in.new.self moved
    (parted_work D old w c.args.ground.now c.put_out.new.ground c.args.engine.now c.put_out.new.engine c.args.leaf c.args.disk.now c.put_out.new.disk stands cut.rows place.leaf place.there
    moved put (c.in_default.ensures.none refl) cut.may (cut.evicted w stands runs) (record { running = option_copied c.args.running; runs = runs; images = c.args.images.items; cut = cut; more = c.requires.more })) in
    let table : c.in-Ok-in_place.cut.table ≡ left.parted.way.leaf.table = place.table ∙ ap (λ (l : Leaf). l.table) (some_same (sym place.there ∙ left.parted.way.there)) in
    record {
      moved = moved;
      left = left;
      kept = subst (λ (t : ℕ). KeepsMore c.args.ground.now.kept c.take_in.new.self (lying_in c.put_out.new.engine.hub.dir.leaves t moved)) table
          (subst (λ (d : Directory). KeepsMore c.args.ground.now.kept c.take_in.new.self (lying_in d.leaves c.in-Ok-in_place.cut.table moved)) c.leaves-leaves.ensures.are
          (subst (λ (l : Lists). KeepsMore l c.take_in.new.self (lying_in c.leaves-leaves.result.now.leaves c.in-Ok-in_place.cut.table moved)) c.put_out.ensures.history c.take_in.ensures));
    }

pub returns-in-Ok-put_out-clause-engine : goal.returns-in-Ok-put_out-clause-engine
returns-in-Ok-put_out-clause-engine g c = (c.in-Ok-put_out.ensures.given.0, record { may = c.in_default.ensures.none refl; way = c.in-Ok-put_out.ensures.given.1 })

-- ---- it stays

pub returns-in-Err-clause-evicts : goal.returns-in-Err-clause-evicts
returns-in-Err-clause-evicts g c h w stands runs old on follows device =
    let cut = c.requires.cut in
    let moved = c.args.moved.items in
    let place = c.in-Ok-in_place.ensures.place cut.rows cut.are cut.fit in
    refused_out g.D.Disk old w c.args.ground.now c.put_out.new.ground c.args.engine.now c.tell.new.engine c.args.leaf c.args.disk.now c.put_out.new.disk c.in-Err.error c.put_out.new.engine c.tell.result
    (c.in-Err.ensures.puts h cut.rows place w stands (parted_rows c.args.engine.now w (option_copied c.args.running) c.args.leaf c.args.images.items moved cut place.leaf place.there stands runs) old on follows device) c.in-Err.ensures.fault c.tell.ensures.tells

pub returns-in-Err-clause-engine : goal.returns-in-Err-clause-engine
returns-in-Err-clause-engine g c = told_engine c.args.engine.now c.put_out.new.engine c.tell.new.engine c.args.leaf c.in-Err.error c.tell.result c.in-Err.ensures.kept c.tell.ensures.tells

pub returns-in-Err-clause-keeps : goal.returns-in-Err-clause-keeps
returns-in-Err-clause-keeps g c w stands keeps = subst (λ (l : Lists). KeepsThese w l) (sym c.put_out.ensures.history) keeps
