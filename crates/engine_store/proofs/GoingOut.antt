-- Leaves that have gone out of their frames: nobody sees it.
use Rattle.std.proofs.Common.{◌≡◌, ◌∙◌, ℕ, List, Option, None, Some, length, refl, sym, ap, subst, arith}
use Rattle.std.specs.Prelude.{Bool, true, false, IfOk, IsTrue, OnErr, Result, Ok, Err}
use Rattle.failure.specs.declared.NoMemory.{NoMemory}
use Rattle.disk_model.specs.declared.disk.Disk.{Ghosts}
use Rattle.wt_code.specs.declared.answers.Answer.{Answer}
use Rattle.kv_model.specs.Calls.{Call}
use Rattle.kv_model.specs.Machine.{Completed}
use Rattle.tree_dir.specs.declared.leaf.Leaf.{Leaf}
use Rattle.tree_dir.specs.Leaves.{IsDirectory, leaf_named}
use Rattle.call_steps.specs.declared.hub.Hub.{Hub}
use Rattle.call_steps.specs.declared.reply.Reply.{Reply}
use Rattle.engine_world.specs.Stands.{Engine, Stands}
use Rattle.engine_world.specs.Worlds.{World}
use Rattle.engine.specs.Directories.{HubGoesOn}
use Rattle.engine.specs.Frames.{HasGoneOut, MayGoOut}
use Rattle.engine.specs.declared.step.Actor.{Actor}
use Rattle.engine.specs.declared.step.Step.{Step}
use Rattle.evict_step.specs.Kept.{KeepsThese}
use Rattle.ckpt_step.specs.declared.ground.Ground.{Ground}
use Rattle.ckpt_step.specs.Floors.{AreLivesOn, Follows}
use Rattle.ckpt_step.specs.Grounds.{StandsOn}
use Rattle.ckpt_step.specs.Rooms.{known_in}
use Rattle.ckpt_step.specs.Stays.{GroundsLetGo, let_go}
use Rattle.ckpt_step.specs.Trees.{AreLow}
use Rattle.engine_store.specs.declared.store.Store.{Store}
use Rattle.engine_store.specs.Calls.{Basis, CallKeeps, Called, Finished, Holding, IsBasis, Stepped, TellsSo}
use Rattle.engine_store.specs.Devices.{Installed}
use Rattle.engine_store.specs.GoneOut.{GoOut, IsWhole, all_out}
use Rattle.engine_store.specs.Held.{IsHeld, IsHeldIn}
use Rattle.engine_store.specs.Keeping.{with_kept}
use Rattle.engine_store.specs.Opened.{IsReady}
use Rattle.engine_store.proofs.AllOut.{hub_out, out_on}
use Rattle.engine_store.proofs.HubsGo.{goes_same}
use Rattle.engine_store.proofs.KeptLeaves.{named_there}
use Rattle.engine_store.proofs.Telling.{told_on}
use Rattle.engine_store.proofs.UnderWayStill.{runs_ground, runs_same}

module _ {D : Type 0} (g : Ghosts D) where
  -- ---- none, some, and then others

  pub none_out : (s s' : Store) → s'.engine ≡ s.engine → s'.ground ≡ s.ground → s'.running ≡ s.running → s'.frames ≡ s.frames → GoOut g s s'
  none_out s s' engine ground running frames = record {
    ground = ground;
    running = running;
    frames = frames;
    sessions = ap (λ (e : Engine). e.sessions) engine;
    hub = subst (λ (e : Engine). e.hub ≡ record s.engine.hub { dir = e.hub.dir }) (sym engine) refl;
    stands = λ w stands. subst (λ (e : Engine). Stands e w) (sym engine) stands;
    on = λ disk old on. (
      subst (λ (e : Engine). StandsOn (g.seen disk) (g.may_leave disk) e.hub s'.ground old) (sym engine) (subst (λ (x : Ground). StandsOn (g.seen disk) (g.may_leave disk) s.engine.hub x old) (sym ground) on),
      λ w follows. subst (λ (e : Engine). Follows old e.hub s'.ground w) (sym engine) (subst (λ (x : Ground). Follows old s.engine.hub x w) (sym ground) follows),
      λ w device. subst (λ (e : Engine). AreLivesOn (g.seen disk) e.hub s'.ground w) (sym engine) (subst (λ (x : Ground). AreLivesOn (g.seen disk) s.engine.hub x w) (sym ground) device),
    );
    goes = λ h goes. subst (λ (e : Engine). HubGoesOn (all_out h) e.hub) (sym engine) goes;
  }

  pub out_then : (a b c : Store) → GoOut g a b → GoOut g b c → GoOut g a c
  out_then a b c one two = record {
    ground = two.ground ∙ one.ground;
    running = two.running ∙ one.running;
    frames = two.frames ∙ one.frames;
    sessions = two.sessions ∙ one.sessions;
    hub = two.hub ∙ ap (λ (h : Hub). record h { dir = c.engine.hub.dir }) one.hub;
    stands = λ w stands. two.stands w (one.stands w stands);
    on = λ disk old on.
        let x = one.on disk old on in
        let y = two.on disk old x.0 in
        (y.0, (λ w follows. y.1 w (x.1 w follows)), λ w device. y.2 w (x.2 w device));
    goes = λ h goes. two.goes h (one.goes h goes);
  }

  -- ---- a leaf

  module _ (law : (disk : D) → GroundsLetGo (g.seen disk) (g.may_leave disk)) (s : Store) (e : Engine) (id : ℕ) (whole : IsWhole s id) (gone : HasGoneOut s.engine e id) (dir : IsDirectory s.engine.hub.dir)
      (stands : (w : World) → Stands s.engine w → Stands e w) where
    abbrev l : Leaf
    l = whole.leads.0

    own : l.id ≡ id
    own = (named_there id s.engine.hub.dir.leaves l whole.leads.1).1

    hub_is : e.hub ≡ let_go s.engine.hub id
    hub_is = ap (λ (x : Engine). x.hub) gone.is

    pub has_gone : GoOut g s (record s { engine = e })
    has_gone = record {
      ground = refl;
      running = refl;
      frames = refl;
      sessions = ap (λ (x : Engine). x.sessions) gone.is;
      hub = subst (λ (x : Engine). x.hub ≡ record s.engine.hub { dir = x.hub.dir }) (sym gone.is) refl;
      stands = stands;
      on = λ disk old on.
          let x = law disk s.engine.hub s.ground old l dir (ap (λ (k : ℕ). leaf_named k s.engine.hub.dir.leaves) own ∙ whole.leads.1) (ap (known_in s.ground.parts) own ∙ whole.unwritten) whole.leads.2 on in
          let same : let_go s.engine.hub l.id ≡ e.hub = ap (let_go s.engine.hub) own ∙ sym hub_is in (
            subst (λ (h : Hub). StandsOn (g.seen disk) (g.may_leave disk) h s.ground old) same x.0,
            λ w follows. subst (λ (h : Hub). Follows old h s.ground w) same (x.1 w follows),
            λ w device. subst (λ (h : Hub). AreLivesOn (g.seen disk) h s.ground w) same (x.2 w device),
          );
      goes = λ h goes. subst (λ (x : Hub). HubGoesOn (all_out h) x) (sym hub_is) (out_on h s.engine.hub id l dir whole.leads.1 whole.leads.2 goes);
    }

  pub gone_or_not : (law : (disk : D) → GroundsLetGo (g.seen disk) (g.may_leave disk)) (s : Store) (e : Engine) (id : ℕ) (whole : IsWhole s id) (dir : IsDirectory s.engine.hub.dir) (stands : (w : World) → Stands s.engine w → Stands e w) (result : Result Bool NoMemory)
      → IfOk result (λ out. IsTrue out → HasGoneOut s.engine e id) → IfOk result (λ out. out ≡ false → (MayGoOut s.engine id → ⊥) × (e ≡ s.engine)) → OnErr result (e ≡ s.engine) → GoOut g s (record s { engine = e })
  gone_or_not law s e id whole dir stands (Ok true) out not kept = has_gone law s e id whole (out refl) dir stands
  gone_or_not law s e id whole dir stands (Ok false) out not kept = none_out s (record s { engine = e }) (not refl).1 refl refl refl
  gone_or_not law s e id whole dir stands (Err none) out not kept = none_out s (record s { engine = e }) kept refl refl refl

  -- ---- what holds between two calls

  module _ (s s' : Store) (out : GoOut g s s') where
    held_in_out : (start disk : D) (w : World) (first : Completed) (made : List Installed) → IsHeldIn g start s disk w first made → IsHeldIn g start s' disk w first made
    held_in_out start disk w first made held = record {
      stands = out.stands w held.stands;
      running = runs_same s'.ground s.running s'.running w.machine out.running (runs_ground s.ground s'.ground s.running w.machine (ap (λ (x : Ground). x.number) out.ground) (ap (λ (x : Ground). x.floor) out.ground) held.running);
      kept = subst (λ (x : Ground). KeepsThese w x.kept) (sym out.ground) held.kept;
      bare = λ id late. held.bare id (let ids = (out.goes s.engine.hub (hub_out s.engine.hub s.engine.hub (goes_same s.engine.hub held.stands.owned))).dir.ids in omega (arith, late, ids));
      on = λ up.
          let x = held.on up in
          let y = out.on disk x.old x.on in
          record { old = x.old; on = y.0; follows = y.1 w x.follows; since = y.2 w x.since; opens = x.opens; one = x.one };
      images = held.images;
      last = held.last;
      ever = held.ever;
      stays = held.stays;
      past = held.past;
    }

    pub held_out : (start disk : D) (w : World) (first : Completed) (made : List Installed) → IsHeld g start s disk w first made → IsHeld g start s' disk w first made
    held_out start disk w first made held = subst (λ (x : Ground). IsHeldIn g start s' disk (with_kept x.kept w) first made) (sym out.ground) (held_in_out start disk (with_kept s.ground.kept w) first made held)

    pub ready_out : IsReady s → IsReady s'
    ready_out ready =
        let runs = ap (λ (h : Hub). h.txns.run) out.hub in
        let tables = ap (λ (h : Hub). length h.tables.tables) out.hub in
        let number = ap (λ (x : Ground). x.number) out.ground in
        let trees = ap (λ (x : Ground). length x.trees.items) out.ground in
        record {
          run = omega (arith, ready.run, runs, number);
          trees = omega (arith, ready.trees, tables, trees);
          low = subst (λ (x : Ground). AreLow x.trees.items) (sym out.ground) ready.low;
        }

    basis_out : (basis : Option Basis) (disk : D) → IsBasis g basis s.engine disk → IsBasis g basis s'.engine disk
    basis_out None disk is = tt
    basis_out (Some b) disk is = λ honest. let x = is honest in (x.0, x.1, out.goes b.hub x.2)

    module _ (first : Store) (before after : D) where
      pub keeps_out : CallKeeps g first s before after → CallKeeps g first s' before after
      keeps_out keeps = record {
        ready = λ ready. ready_out (keeps.ready ready);
        ground = out.ground ∙ (keeps.ground ∙ ap (λ (x : Ground). let ground : Ground = record first.ground { kept = x.kept } in ground) (sym out.ground));
        running = out.running ∙ keeps.running;
        frames = out.frames ∙ keeps.frames;
        looked = keeps.looked;
        home = keeps.home;
      }

      pub told_out : (Told : Option Basis → D → Type 0) → TellsSo g first s before after Told → TellsSo g first s' before after Told
      told_out Told told basis start le on had =
          let x = told basis start le on had in
          (x.0, told_on g basis start after after refl (omega arith) s.engine s'.engine out.sessions x.1, basis_out basis after x.2)

      pub called_out : (session : ℕ) (asked : Call) (answer : Answer (List ℕ)) → Holding g first before (λ start w last made. Called g start w last made first s before after session asked answer) → Holding g first before (λ start w last made. Called g start w last made first s' before after session asked answer)
      called_out session asked answer calls honest start w last made held =
          let x = calls honest start w last made held in
          record { kept = x.kept; caused = x.caused; later = x.later; called = x.called; held = held_out start after x.later last made x.held }

      pub stepped_out : (made_step : Step) (told : Reply) → Holding g first before (λ start w last made. Stepped g start w last made first s before after made_step told) → Holding g first before (λ start w last made. Stepped g start w last made first s' before after made_step told)
      stepped_out made_step told steps honest start w last made held =
          let x = steps honest start w last made held in
          record { later = x.later; stepped = x.stepped; held = held_out start after x.later last made x.held }

      pub finished_out : (who : Actor) (answer : Answer (List ℕ)) → Holding g first before (λ start w last made. Finished g start w last made first s before after who answer) → Holding g first before (λ start w last made. Finished g start w last made first s' before after who answer)
      finished_out who answer ends honest start w last made held =
          let x = ends honest start w last made held in
          record { later = x.later; ended = x.ended; held = held_out start after x.later last made x.held }
