-- What an engine is that was opened on tables and the directory of their leaves.
use Rattle.std.proofs.Common.{◌≡◌, ◌+◌, List, Option, None, map, reverse, refl, sym, ap, subst, ◌∙◌, arith}
use Rattle.kv_model.specs.Content.{descending, table_lt}
use Rattle.leaf_rows.specs.declared.marks.Marks.{Marks}
use Rattle.tree_dir.specs.Leaves.{Directory, IsDirectory, no_leaves}
use Rattle.wt_calls.specs.declared.system_call.SystemCall.{SystemCall}
use Rattle.catalog.specs.Known.{AreTables, Known}
use Rattle.call_steps.specs.declared.hub.Hub.{Hub}
use Rattle.call_steps.specs.declared.frame.FramePiece.{FramePiece}
use Rattle.engine_world.specs.Leaves.{FramesStand}
use Rattle.engine_world.specs.Stands.{Engine}
use Rattle.engine.specs.Openings.{IsOpened, first_hub}
use Rattle.engine_start.specs.declared.table_entries.TableEntries.{TableEntries}
use Rattle.engine_start.specs.Entries.{AreAdded, IsUnread, tables_of}

module _ (m : Marks) (known : Known) (dir : Directory) (e : Engine) (is : IsOpened (m.run + 1) m.oldest m.stable known dir e) where
  pub is_unread : (tables : List TableEntries) → AreTables known → reverse known.tables ≡ descending table_lt (tables_of tables) → IsDirectory dir → AreAdded no_leaves tables dir → IsUnread m tables e
  is_unread tables catalog are directory added = record {
    fault = ap (λ (h : Hub). h.fault) is.hub;
    stamps = ap (λ (h : Hub). h.stamps) is.hub;
    txns = ap (λ (h : Hub). h.txns) is.hub;
    catalog = subst (λ (h : Hub). AreTables h.tables) (sym is.hub) catalog;
    tables_are = ap (λ (h : Hub). reverse h.tables.tables) is.hub ∙ are;
    dir = subst (λ (h : Hub). IsDirectory h.dir) (sym is.hub) directory;
    added = subst (λ (h : Hub). AreAdded no_leaves tables h.dir) (sym is.hub) added;
    frames = subst (λ (ps : List FramePiece). FramesStand ps e.states) (sym is.pieces) (λ frame. record { below = omega arith; word = omega arith });
    sessions = is.sessions;
    systems = subst (λ (l : List (Option SystemCall)). map {A = Option SystemCall} (λ x. None) l ≡ l) (sym is.systems) refl;
  }

  -- it was opened on the tables and the directory that it has
  pub on_its_own : IsOpened (m.run + 1) m.oldest m.stable e.hub.tables e.hub.dir e
  on_its_own = record {
    hub = is.hub ∙ ap (λ (h : Hub). first_hub (m.run + 1) m.oldest m.stable h.tables h.dir) (sym is.hub);
    pieces = is.pieces;
    states = is.states;
    sessions = is.sessions;
    systems = is.systems;
  }
