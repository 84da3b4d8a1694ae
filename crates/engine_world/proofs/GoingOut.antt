-- A leaf goes out of its frame, as it was read.
use Rattle.std.proofs.Common.{◌≡◌, ℕ, refl, ap, sym, ◌∙◌, List, [], subst}
use Rattle.std.specs.Prelude.{Option, Some, None, slice_get}
use Rattle.item.specs.declared.Change.{Change}
use Rattle.stamp.specs.declared.Version.{Version}
use Rattle.kv_model.specs.Machine.{of_some}
use Rattle.row_page.specs.Rows.{Row}
use Rattle.leaf_chains.specs.declared.slot.KeyChain.{KeyChain}
use Rattle.leaf_chains.specs.Slots.{chain_at, slot_of}
use Rattle.reconcile.specs.Shows.{shown_at}
use Rattle.tree_dir.specs.Leaves.{in_frame}
use Rattle.call_steps.specs.declared.frame.Frame.{Frame}
use Rattle.call_steps.specs.State.{State}
use Rattle.update_chain.specs.EventLaws.{StandsFor}
use Rattle.engine_world.specs.Evicting.{NoneWroteIn}
use Rattle.engine_world.specs.GoingOut.{LeavesGoOut, LeavesGoOutUnseen, gone_out, with_again}
use Rattle.engine_world.specs.Leaves.{slots_in}
use Rattle.engine_world.specs.Stands.{Engine, Stands}
use Rattle.engine_world.specs.Worlds.{World}
use Rattle.engine_world.proofs.AtRest.{row-alone}
use Rattle.engine_world.proofs.Emptying.{IsFrameOf, clear-aside, emptied-stands, frame-of, untold}
use Rattle.engine_world.proofs.LeavesChanged.{frame-mild}
use Rattle.engine_world.proofs.Moves.{again-as}

-- in a frame without chains nobody wrote
none-wrote : (e : Engine) (w : World) (frame : ℕ) → Stands e w → slots_in e.pieces frame ≡ [] → (session : ℕ) (a : State) → slice_get e.sessions session ≡ Some a → NoneWroteIn frame a
none-wrote e w frame st none session a at k member same =
    let wrote = (st.sessions session a at).noted.wrote k member in
    let clash : None ≡ Some k.slot = sym (ap (slot_of wrote.0.key) (ap (slots_in e.pieces) same ∙ none)) ∙ wrote.2.slot in absurd cc

pub leaves-go-out : LeavesGoOut
leaves-go-out e w l framed f st there placed filled chains rows aside last is = emptied-stands e w l framed f (in_frame None) w.shelf w.records (record {
  stands = st;
  there = there;
  placed = placed;
  filled = filled;
  mild = frame-mild None;
  out = refl;
  others = λ id other. refl;
  kept = λ id other key. refl;
  unused = st.unused;
  keys = λ key under. subst (λ (vs : List (Version Change)). StandsFor w.machine l.table key [] (shown_at key (w.shelf l.id)) vs) (sym (mine.none key))
      (subst (λ (xs : List Row). StandsFor w.machine l.table key [] (shown_at key xs) []) page-is
      (subst (λ (slots : List KeyChain). StandsFor w.machine l.table key (chain_at key slots) (shown_at key f.leaf.page) []) chains (mine.keys key under)));
  ordered = λ key under. row-alone (shown_at key (w.shelf l.id)) (w.records l.id key) (mine.none key);
  bare = λ key outside. (subst (λ (xs : List Row). shown_at key xs ≡ None) page-is (mine.bare key outside), mine.none key);
  aside = λ session a at. (aside session a at, none-wrote e w framed.frame st slots-are session a at);
  last = last;
  dir = is;
}) where
  mine : IsFrameOf w e.hub.dir.leaves l f
  mine = frame-of e w l framed st there placed f filled

  -- it has the rows of its block, and no more
  page-is : f.leaf.page ≡ w.shelf l.id
  page-is = mine.lies rows

  slots-are : slots_in e.pieces framed.frame ≡ []
  slots-are = ap (λ (o : Option Frame). of_some [] (λ (x : Frame). x.leaf.chains) o) filled ∙ chains

pub leaves-go-out-unseen : LeavesGoOutUnseen
leaves-go-out-unseen e w l framed f st there placed filled chains rows clear last is =
    again-as (gone_out e l.id framed.frame) (with_again e framed.frame w) w.again
    (leaves-go-out e w l framed f st there placed filled chains rows (λ session a at. clear-aside framed.frame a.stage (clear session a at)) last is)
    (λ session a at noticed. untold e framed.frame w (gone_out e l.id framed.frame).pieces session a at (clear session a at) noticed)
