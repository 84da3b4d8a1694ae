use Rattle.std.proofs.Common.{◌≡◌, ◌<◌, refl, ap, sym, ◌∙◌, List, [], length, inl, inr, subst, arith}
use Rattle.std.specs.Prelude.{Option, Some, None, Ok, option_copied, option_map, slice_get}
use Rattle.std.proofs.Common.{ℕ}
use Rattle.std.proofs.lemmas.Option.{same_Some, slice_get_read}
use Rattle.wt_code.specs.declared.refusals.Refusal.TheVariants as refusal
use Rattle.kv_model.specs.Rows.{Way}
use Rattle.wt_calls.specs.Calls.{way_in}
use Rattle.call_steps.specs.State.{State}
use Rattle.call_steps.specs.Tables.{leaf_sought, row_sought}
use Rattle.call_steps.specs.declared.frame.Frame.{Frame}
use Rattle.engine_world.specs.Leaves.{frame_in}
use Rattle.engine_world.specs.Stands.{Engine}
use Rattle.engine.specs.Reads.{refused_first}
use Rattle.engine.specs.RowReads.{NotRead, RowsAt, RowsRead}
use Rattle.engine.proofs.ReadingRows.{rows-at}
use Rattle.engine.proofs.parts.Parts.read_rows.Goals as goal

pub returns-in-Ok-clause-read : goal.returns-in-Ok-clause-read
returns-in-Ok-clause-read c = subst (λ (x : Engine). (a : State) → slice_get x.sessions c.args.session ≡ Some a → RowsRead x c.args.session a c.args.cursor c.args.table way c.args.most (Ok tt) c.copy_rows.new.rows) c.self.view_is (λ a there.
    subst (λ (b : State). RowsRead e c.args.session b c.args.cursor c.args.table way c.args.most (Ok tt) c.copy_rows.new.rows) (same_Some here a (sym at ∙ there)) (on, inr found)) where
      e : Engine
      e = record { hub = c.self.inside.hub; pieces = c.self.inside.pieces.items; states = c.self.inside.states.items; hazards = c.self.inside.hazards.items; sessions = c.self.inside.sessions.items; systems = c.self.inside.systems.items }

      way : Way
      way = way_in c.args.way

      here : State
      here = c.index-state.result.now

      open_one : c.args.session < length e.sessions
      open_one = subst (λ (x : Engine). c.args.session < length x.sessions) (sym c.self.view_is) c.requires.open

      at : slice_get e.sessions c.args.session ≡ Some here
      at = slice_get_read e.sessions (length e.sessions) c.args.session here refl open_one c.index-state.ensures

      on : refused_first e.hub here [] ≡ None
      on = sym c.refused_first.ensures ∙ c.in_default.is

      from : Option (List ℕ)
      from = option_map (λ k. k.now) c.start_on-from.result

      begins : leaf_sought e.hub.dir.leaves c.args.table (row_sought way from) ≡ Some c.in-Some-leaf_sought.leaf.now
      begins = sym c.leaf_sought.ensures ∙ ap option_copied c.in-Some-leaf_sought.is

      inside : c.args.cursor < length here.cursors
      inside = let below = c.if-cursor-cursors.false in let count = c.cursors.ensures in omega (arith, below, count)

      found : RowsAt e c.args.session here c.args.cursor c.args.table way c.args.most c.copy_rows.new.rows
      found = rows-at e c.args.session here c.args.cursor c.args.table way c.args.most c.copy_rows.new.rows from c.in-Some-leaf_sought.leaf.now c.in-Some-frame.framed c.in-Some-leaf_in.leaf.now c.in-Some-view.view
          c.start_on-from.ensures begins c.in-Some-frame.is
          (subst (λ (x : Engine). option_map (λ (f : Frame). f.leaf) (frame_in x.pieces c.in-Some-frame.framed.frame) ≡ Some c.in-Some-leaf_in.leaf.now) (sym c.self.view_is) (sym c.leaf_in.ensures ∙ ap option_copied c.in-Some-leaf_in.is))
          (record { own = c.in-Some-view.ensures.own; read = c.in-Some-view.ensures.read; sight = c.in-Some-view.ensures.sight })
          inside c.in-Ok.ensures.near c.in-Ok.ensures.ends

pub returns-in-Err-clause-read : goal.returns-in-Err-clause-read
returns-in-Err-clause-read c = subst (λ (x : Engine). (a : State) → slice_get x.sessions c.args.session ≡ Some a → NotRead x c.args.session a c.args.cursor c.args.table (way_in c.args.way) refusal.NoMemory) c.self.view_is (λ a there.
    subst (λ (b : State). NotRead e c.args.session b c.args.cursor c.args.table (way_in c.args.way) refusal.NoMemory) (same_Some here a (sym at ∙ there)) (inr (sym c.refused_first.ensures ∙ c.in_default.is, inr (inl refl)))) where
      e : Engine
      e = record { hub = c.self.inside.hub; pieces = c.self.inside.pieces.items; states = c.self.inside.states.items; hazards = c.self.inside.hazards.items; sessions = c.self.inside.sessions.items; systems = c.self.inside.systems.items }

      here : State
      here = c.index-state.result.now

      open_one : c.args.session < length e.sessions
      open_one = subst (λ (x : Engine). c.args.session < length x.sessions) (sym c.self.view_is) c.requires.open

      at : slice_get e.sessions c.args.session ≡ Some here
      at = slice_get_read e.sessions (length e.sessions) c.args.session here refl open_one c.index-state.ensures
