-- Leaves that leave their frames, one after the other.
use Rattle.std.proofs.Common.{◌≡◌, ◌∙◌, ℕ, List, None, Some, refl, ap, subst, arith}
use Rattle.std.specs.Prelude.{slice_get}
use Rattle.disk_model.specs.declared.disk.Disk.{Ghosts}
use Rattle.row_page.specs.Rows.{Row}
use Rattle.stored.specs.TableTree.{Entry}
use Rattle.tree_dir.specs.Leaves.{IsDirectory, leaves_with}
use Rattle.call_steps.specs.State.{State}
use Rattle.engine_world.specs.GivingWay.{IsIdle, IsShelved}
use Rattle.engine_world.specs.Stands.{Engine, Stands}
use Rattle.engine_world.specs.Worlds.{World}
use Rattle.engine.specs.Frames.{HasGivenWay}
use Rattle.ckpt_step.specs.declared.ground.Ground.{Ground}
use Rattle.ckpt_step.specs.Giving.{Forgets, GroundsGiveWay, MayTakeOver}
use Rattle.ckpt_step.specs.Rooms.{known_in}
use Rattle.engine_store.specs.declared.store.Store.{Store}
use Rattle.engine_store.specs.Relieves.{LetsGo}
use Rattle.engine_store.proofs.CutShelves.{next_climbs}
use Rattle.engine_store.proofs.NoLives.{none_live, none_on}

module _ {D : Type 0} (g : Ghosts D) where
  -- none does
  pub stays : (s : Store) → LetsGo g s s
  stays s = record {
    alike = record { running = refl; frames = refl; sessions = refl; tables = refl; txns = refl; number = refl; trees = refl };
    kept = refl;
    relieves = λ disk old w stands idle on follows none newest. record { shelf = w.shelf; stands = stands; on = on; follows = follows; none = none; ids = omega arith; same = λ id less. refl };
  }

  -- some do, and then others
  pub goes_then : (a b c : Store) → LetsGo g a b → LetsGo g b c → LetsGo g a c
  goes_then a b c one two = record {
    alike = record {
      running = two.alike.running ∙ one.alike.running;
      frames = two.alike.frames ∙ one.alike.frames;
      sessions = two.alike.sessions ∙ one.alike.sessions;
      tables = two.alike.tables ∙ one.alike.tables;
      txns = two.alike.txns ∙ one.alike.txns;
      number = two.alike.number ∙ one.alike.number;
      trees = two.alike.trees ∙ one.alike.trees;
    };
    kept = two.kept ∙ one.kept;
    relieves = λ disk old w stands idle on follows none newest.
        let r = one.relieves disk old w stands idle on follows none newest in
        let t = two.relieves disk old (record w { shelf = r.shelf }) r.stands idle r.on r.follows r.none newest in
        record {
          shelf = t.shelf;
          stands = t.stands;
          on = t.on;
          follows = t.follows;
          none = t.none;
          ids = (let first = r.ids in let second = t.ids in omega (arith, first, second));
          same = λ id less. t.same id (let first = r.ids in omega (arith, less, first)) ∙ r.same id less;
        };
  }

  -- nobody is at work then, where nobody was
  pub idle_then : (a b : Store) → LetsGo g a b → IsIdle a.engine → IsIdle b.engine
  idle_then a b goes idle session x at = idle session x (subst (λ (l : List State). slice_get l session ≡ Some x) goes.alike.sessions at)

  -- a leaf gives way to what the checkpoint has of it, of which nothing is kept any more
  module _ (law : (disk : D) → GroundsGiveWay (g.seen disk) (g.may_leave disk)) (s : Store) (e : Engine) (ground : Ground) (id oldest : ℕ) (entries : List Entry) (way : HasGivenWay s.engine e id entries) (dir : IsDirectory e.hub.dir)
      (stands : (way : HasGivenWay s.engine e id entries) (w : World) (shelf : ℕ → List Row) → Stands s.engine w → w.machine.checkpoint ≡ None → IsShelved w.machine s.engine.hub.dir e.hub.dir (leaves_with way.leaf.table way.ids entries) w.shelf shelf → Stands e (record w { shelf = shelf }))
      (marks : (w : World) → Stands s.engine w → oldest ≡ w.machine.oldest) (over : MayTakeOver s.engine.hub.dir (known_in s.ground.parts) id oldest entries) (forgets : Forgets s.ground ground id) where
    pub gave : LetsGo g s (record s { engine = e; ground = ground })
    gave = record {
      alike = record {
        running = refl;
        frames = refl;
        sessions = ap (λ (x : Engine). x.sessions) way.is;
        tables = ap (λ (x : Engine). x.hub.tables) way.is;
        txns = ap (λ (x : Engine). x.hub.txns) way.is;
        number = ap (λ (x : Ground). x.number) forgets.same;
        trees = ap (λ (x : Ground). x.trees) forgets.same;
      };
      kept = ap (λ (x : Ground). x.kept) forgets.same;
      relieves = λ disk old w st idle on follows none newest.
          let still = law disk s.engine e w s.ground ground old id entries way st dir on follows (none_on (g.seen disk) s.engine.hub s.ground w none) (none_live s.ground.lives s.engine.hub.dir.leaves way.leaf.table none) newest (subst (λ (n : ℕ). MayTakeOver s.engine.hub.dir (known_in s.ground.parts) id n entries) (marks w st) over) forgets in
          record {
            shelf = still.shelf;
            stands = stands way w still.shelf st idle still.shelved;
            on = still.on;
            follows = still.follows;
            none = ap (λ (x : Ground). x.lives) forgets.same ∙ none;
            ids = next_climbs s.engine.hub.dir e.hub.dir id entries way.ids over.place.leaf.entry.key way.gave over.place.begins;
            same = still.shelved.others;
          };
    }
