-- An engine on what a device holds.
use Rattle.std.proofs.Common.{◌≡◌, ◌+◌, ◌^◌, ◌<◌, ◌≤◌, ℕ, zero, suc, refl, ap, sym, ◌∙◌, List, [], length, inr, subst, arith}
use Rattle.std.specs.Prelude.{Option, None, map, reverse}
use Rattle.std.specs.List.{Contains}
use Rattle.limits.specs.declared.TheConstants.{NUMBER_MAX, TABLES_MAX}
use Rattle.kv_model.specs.Allowed.{StampsFit}
use Rattle.kv_model.specs.Content.{Content}
use Rattle.row_page.specs.Rows.{Row}
use Rattle.tree_dir.specs.declared.leaf.Leaf.{Leaf}
use Rattle.tree_dir.specs.Leaves.{Directory, IsDirectory}
use Rattle.txn_table.specs.Tabled.{fresh}
use Rattle.catalog.specs.Known.{AreTables, Known}
use Rattle.wt_calls.specs.declared.system_call.SystemCall.{SystemCall}
use Rattle.call_steps.specs.declared.frame.FramePiece.{FramePiece}
use Rattle.call_steps.specs.declared.hub.Hub.{Hub}
use Rattle.call_steps.specs.State.{State}
use Rattle.call_turns.specs.Seats.{AllRun, AreSeated}
use Rattle.engine_world.specs.Leaves.{FramesStand, LeavesOwned, TablesBegun}
use Rattle.engine_world.specs.Stands.{Engine}
use Rattle.engine_world.specs.Systems.{Begins, LeafStarts}
use Rattle.engine_world.specs.Worlds.{Records}
use Rattle.engine.specs.Bases.{IsBaseOf}
use Rattle.engine.specs.Openings.{IsOpened, no_calls}
use Rattle.engine.specs.Sizes.{LeavesFit, NamesFit, SessionsFit}
use Rattle.engine.specs.Sound.{AreBuilt, IsSound}
use Rattle.engine.proofs.CallSizes.{sessions-none}
use Rattle.engine.proofs.LeafSizes.{leaves-none}
use Rattle.engine.proofs.Names.{fresh-names}

none-built : AreBuilt no_calls
none-built zero asked is = absurd (cc)
none-built (suc zero) asked is = absurd (cc)
none-built (suc (suc zero)) asked is = absurd (cc)
none-built (suc (suc (suc zero))) asked is = absurd (cc)
none-built (suc (suc (suc (suc i)))) asked is = absurd (cc)

module _ (e : Engine) (run oldest stable : ℕ) (known : Known) (dir : Directory) (o : IsOpened run oldest stable known dir e) (owned : LeavesOwned known.tables dir.leaves) where
  pub begins-on : AreTables known → IsDirectory dir → (c : Content) (shelf : ℕ → List Row) (records : Records) → IsBaseOf c shelf records run oldest stable known dir → Begins c shelf records e
  begins-on all is c shelf records base = record {
    fault = ap (λ (h : Hub). h.fault) o.hub;
    stamps = ap (λ (h : Hub). h.stamps) o.hub ∙ (ap (λ n. record { oldest = n; stable = stable }) base.oldest_is ∙ ap (λ n. record { oldest = c.oldest; stable = n }) base.stable_is);
    txns = ap (λ (h : Hub). h.txns) o.hub ∙ ap (λ n. fresh n 0) base.run_is;
    catalog = subst (λ (h : Hub). AreTables h.tables) (sym o.hub) all;
    tables = ap (λ (h : Hub). reverse h.tables.tables) o.hub ∙ base.tables_are;
    dir = subst (λ (h : Hub). IsDirectory h.dir) (sym o.hub) is;
    begun = subst (λ (h : Hub). TablesBegun h.tables.tables h.dir.leaves) (sym o.hub) base.begun;
    owned = subst (λ (h : Hub). LeavesOwned h.tables.tables h.dir.leaves) (sym o.hub) owned;
    leaves = subst (λ (h : Hub). (l : Leaf) → Contains h.dir.leaves l → LeafStarts c shelf records h.dir.leaves e.pieces e.states l) (sym o.hub) (λ l there. inr (base.leaves l there));
    unused = subst (λ (h : Hub). (id : ℕ) → h.dir.next ≤ id → (key : List ℕ) → records id key ≡ []) (sym o.hub) base.unused;
    frames = subst (λ (ps : List FramePiece). FramesStand ps e.states) (sym o.pieces) (λ frame. record { below = omega arith; word = omega arith });
    sessions = o.sessions;
    systems = subst (λ (calls : List (Option SystemCall)). map (λ x. None) calls ≡ calls) (sym o.systems) refl;
  }

  pub opened-sound : known.next + TABLES_MAX < 2 ^ 32 + length known.tables → StampsFit oldest stable → 1 ≤ run → run ≤ NUMBER_MAX → IsSound e
  opened-sound numbers stamps begun most = record {
    count = ap (λ (h : Hub). length h.txns.sessions) o.hub ∙ sym (ap (λ (ss : List State). length ss) o.sessions);
    seated = subst (λ (ss : List State). AreSeated e.hub ss) (sym o.sessions) (λ session a is. absurd (cc));
    run = subst AllRun (sym o.sessions) (λ session a is. absurd (cc));
    built = subst (λ (calls : List (Option SystemCall)). AreBuilt calls) (sym o.systems) none-built;
    actors = ap (λ (calls : List (Option SystemCall)). length calls) o.systems;
    states = ap (λ (ws : List ℕ). length ws) o.states ∙ sym (ap (λ (ps : List FramePiece). length ps) o.pieces);
    numbers = subst (λ (h : Hub). h.tables.next + TABLES_MAX < 2 ^ 32 + length h.tables.tables) (sym o.hub) numbers;
    owned = subst (λ (h : Hub). LeavesOwned h.tables.tables h.dir.leaves) (sym o.hub) owned;
    stamps = subst (λ (h : Hub). StampsFit h.stamps.oldest h.stamps.stable) (sym o.hub) stamps;
    sizes = record {
      leaves = subst LeavesFit (sym o.pieces) leaves-none;
      sessions = subst (SessionsFit e.hub.txns) (sym o.sessions) (sessions-none e.hub.txns);
      names = subst (λ (h : Hub). NamesFit h.txns) (sym o.hub) (fresh-names run begun most);
    };
  }
