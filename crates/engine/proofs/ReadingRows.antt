-- What a read of rows has found, by what each of its steps tells.
use Rattle.std.proofs.Common.{◌≡◌, ◌<◌, ℕ, refl, sym, Bool, true, false, List, length, subst}
use Rattle.std.specs.Prelude.{Option, Some, None, if◌then◌else◌, option_map}
use Rattle.std.proofs.lemmas.Option.{none-some, same_Some}
use Rattle.stamp.specs.declared.View.{View}
use Rattle.wt_code.specs.declared.refusals.Refusal.TheVariants as told
use Rattle.wt_code.specs.declared.refusals.Invalid.TheVariants as why
use Rattle.kv_model.specs.Rows.{Way}
use Rattle.tree_dir.specs.declared.leaf.Framed.{Framed}
use Rattle.tree_dir.specs.declared.leaf.Leaf.{Leaf}
use Rattle.leaf_frame.specs.Leaf.{HeldLeaf}
use Rattle.call_steps.specs.declared.frame.Frame.{Frame}
use Rattle.call_steps.specs.declared.hub.Hub.{Hub}
use Rattle.call_steps.specs.declared.stage.Stage.TheVariants as stage
use Rattle.call_steps.specs.Looks.{start_in}
use Rattle.call_steps.specs.State.{State}
use Rattle.call_steps.specs.Tables.{leaf_sought, row_sought}
use Rattle.engine_world.specs.Laws.{IsViewOf}
use Rattle.engine_world.specs.Leaves.{frame_in}
use Rattle.engine_world.specs.Stands.{Engine}
use Rattle.engine.specs.Closes.{is_at_work}
use Rattle.engine.specs.Reads.{refused_first, refused_idle}
use Rattle.engine.specs.RowReads.{AreNearest, NoneNearest, RowsAt, start_behind}
use Rattle.engine.proofs.Closes.{at-rest}

-- a session that is not refused rests
pub first-rests : (h : Hub) (a : State) (key : List ℕ) → refused_first h a key ≡ None → a.stage ≡ stage.Rest
first-rests h a key is = by (is_at_work a.stage) refl is where
  by : (b : Bool) → is_at_work a.stage ≡ b → (if b then Some (told.Invalid why.InCall) else refused_idle h.fault a.phase key) ≡ None → a.stage ≡ stage.Rest
  by true at_work clash = absurd (none-some (told.Invalid why.InCall) (sym clash))
  by false idle rest = at-rest a.stage idle

-- these rows stand in the leaf of a frame
pub rows-at : (e : Engine) (session : ℕ) (a : State) (cursor table : ℕ) (way : Way) (most : ℕ) (rows : List (List ℕ × List ℕ)) (from : Option (List ℕ)) (l : Leaf) (framed : Framed) (leaf : HeldLeaf) (view : View)
    → from ≡ start_in a.cursors cursor table → leaf_sought e.hub.dir.leaves table (row_sought way from) ≡ Some l → l.frame ≡ Some framed → option_map (λ (f : Frame). f.leaf) (frame_in e.pieces framed.frame) ≡ Some leaf
    → IsViewOf e.hub session view → cursor < length a.cursors → AreNearest view way from leaf rows → (length rows < most → NoneNearest view way (start_behind from rows) leaf)
    → RowsAt e session a cursor table way most rows
rows-at e session a cursor table way most rows from l framed leaf view starts begins placed held lent there near ends = by (frame_in e.pieces framed.frame) refl held where
  by : (o : Option Frame) → frame_in e.pieces framed.frame ≡ o → option_map (λ (f : Frame). f.leaf) o ≡ Some leaf → RowsAt e session a cursor table way most rows
  by None is none = absurd (none-some leaf none)
  by (Some f) is some = record {
    leaf = l;
    begins = subst (λ o. leaf_sought e.hub.dir.leaves table (row_sought way o) ≡ Some l) starts begins;
    framed = framed;
    placed = placed;
    frame = f;
    held = is;
    view = view;
    lent = lent;
    there = there;
    near = subst (λ o. AreNearest view way o f.leaf rows) starts (subst (λ (h : HeldLeaf). AreNearest view way from h rows) (sym (same_Some f.leaf leaf some)) near);
    ends = λ less. subst (λ o. NoneNearest view way (start_behind o rows) f.leaf) starts (subst (λ (h : HeldLeaf). NoneNearest view way (start_behind from rows) h) (sym (same_Some f.leaf leaf some)) (ends less));
  }
