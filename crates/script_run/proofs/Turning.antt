-- What a turn comes to, by the line that it read and what was made of it.
use Rattle.std.proofs.Common.{◌≡◌, ◌∙◌, ◌++◌, ◌+◌, ◌≤◌, ◌<◌, ℕ, List, [], ◌∷◌, length, take, refl, sym, ap, subst, inl, inr}
use Rattle.std.specs.Prelude.{Bool, IfSome, IsTrue, Ok, Err, Option, Some, None}
use Rattle.wt_code.specs.declared.refusals.Refusal.{Refusal}
use Rattle.wt_code.specs.declared.refusals.Refusal.TheVariants.{Invalid, NoMemory}
use Rattle.wt_code.specs.declared.refusals.Invalid.TheVariants.{Text}
use Rattle.wt_io.specs.Streams.{AtEnd, Took}
use Rattle.wt_io.specs.StreamLemmas.{took_none}
use Rattle.wt_io.specs.declared.streams.Source.{Ghosts as SourceGhosts}
use Rattle.wt_io.specs.declared.streams.Sink.{Ghosts as SinkGhosts}
use Rattle.script_text.specs.Replies.{line_of_reply}
use Rattle.disk_model.specs.declared.disk.Disk.{Ghosts}
use Rattle.engine_store.specs.declared.store.Store.{Store}
use Rattle.script_run.specs.declared.kept.Kept.{Kept}
use Rattle.script_run.specs.declared.one_line.Printed.{Printed}
use Rattle.script_run.specs.declared.one_line.Stop.TheVariants as stop
use Rattle.script_run.specs.declared.script.End.{End}
use Rattle.script_run.specs.declared.script.End.TheVariants.{Through, Stopped, InputFailed, OutputFailed}
use Rattle.script_run.specs.declared.script.Place.{Place}
use Rattle.script_run.specs.declared.script.TheConstants.{INPUT_MAX}
use Rattle.script_run.specs.Lines.{GaveMore, Held, IsCut}
use Rattle.script_run.specs.Scripts.{RunsLines, Script, ends, outside}
use Rattle.script_run.specs.Runs.{IsAt, LineMade}
use Rattle.script_run.specs.Turns.{LineTurn, PrintTurn, RunEnds, TurnEnds, TurnMade, of_output}
use Rattle.script_run.proofs.Scripting.{IsWider, runs-wider}

-- ---- a line

pub stops_same : (r x : Refusal) → Stopped r ≡ Stopped x → r ≡ x
stops_same r x is = cc

-- disk: the device as the run began; s: before the line; store and now: what it leaves
module _ {D K : Type 0} (g : Ghosts D) (disk : D) (sink : SinkGhosts K) (text : List ℕ) (s : Script) (store : Store) (now : D) where
  -- it has a byte behind those that an input may have
  pub line-long : (out : K) (place : Place) → INPUT_MAX < place.used + length text → IsAt g disk store now s
      → RunEnds g disk store now (of_output sink out out) sink out out (text ∷ []) s place place (Stopped (Invalid (Text place.line)))
  line-long out place long at = record {
    ran = ends (Stopped (Invalid (Text place.line))) s;
    runs = inl (inr long, refl, refl);
    end_is = refl;
    no_reply = refl;
    took = took_none (sink.written out);
    at = at;
    start = refl;
    met = refl;
  }

  -- it is none
  pub line-none : (out : K) (place : Place) (kept : Kept) → LineMade g disk text s store now kept (Err stop.NoLine)
      → RunEnds g disk store now (of_output sink out out) sink out out (text ∷ []) s place (record place { kept = kept }) (Stopped (Invalid (Text place.line)))
  line-none out place kept made = record {
    ran = ends (Stopped (Invalid (Text place.line))) s;
    runs = inl (inl made.0, refl, refl);
    end_is = refl;
    no_reply = refl;
    took = took_none (sink.written out);
    at = made.1;
    start = refl;
    met = refl;
  }

  -- memory is wanted
  pub line-stops : (out : K) (place : Place) (kept : Kept) → place.used + length text ≤ INPUT_MAX → LineMade g disk text s store now kept (Err stop.NoMemory)
      → RunEnds g disk store now (of_output sink out out) sink out out (text ∷ []) s place (record place { kept = kept }) (Stopped NoMemory)
  line-stops out place kept room (inl at) = record {
    ran = ends (Stopped NoMemory) s;
    runs = inr (inl (refl, refl));
    end_is = refl;
    no_reply = refl;
    took = took_none (sink.written out);
    at = at;
    start = refl;
    met = refl;
  }
  line-stops out place kept room (inr (asked, formats, reply, run)) = record {
    ran = ends (Stopped NoMemory) run.later;
    runs = inr (inr (room, asked, run.line, run.now, inr (formats, reply, run.later, run.replies, inr (inr (refl, refl)))));
    end_is = refl;
    no_reply = refl;
    took = took_none (sink.written out);
    at = run.at;
    start = run.start;
    met = refl;
  }

  -- the device was not opened
  pub line-shut : (out : K) (place : Place) (kept : Kept) (r : Refusal) → place.used + length text ≤ INPUT_MAX → LineMade g disk text s store now kept (Err (stop.Opening r))
      → RunEnds g disk store now (of_output sink out out) sink out out (text ∷ []) s place (record place { kept = kept }) (Stopped r)
  line-shut out place kept r room (asked, spelled, fits, x) = record {
    ran = ends (Stopped r) x.later;
    runs = inr (inr (room, asked, spelled, fits, inl (r, x.later, x.stops, refl, refl)));
    end_is = refl;
    no_reply = refl;
    took = took_none (sink.written out);
    at = x.at;
    start = x.start;
    met = refl;
  }

  -- it was run, and printed whole or not
  pub line-told : (out out' : K) (place next : Place) (kept : Kept) (printed : Printed) (end : Option End)
      → place.used + length text ≤ INPUT_MAX → LineMade g disk text s store now kept (Ok printed) → PrintTurn sink out out' printed (length text) (record place { kept = kept }) next end → LineTurn g disk store now sink out out' text s place next end
  line-told out out' place next kept printed None room (asked, formats, reply, run, is) p =
      record {
        printed = printed.line.items;
        refusal = printed.refusal;
        later = run.later;
        done = record {
          room = room;
          asked = asked;
          formats = formats;
          reply = reply;
          line = run.line;
          now = run.now;
          replies = run.replies;
          printed_is = is.line;
          refusal_is = is.refusal;
        };
        took = p.took;
        at = run.at;
        start = run.start;
        kept = run.kept_is ∙ sym p.kept;
        line = p.behind.line;
        used = p.behind.used;
        met = p.behind.met;
      }
  line-told out out' place next kept printed (Some end) room (asked, formats, reply, run, is) p =
      let n = p.took.0 in
      let whole : List ℕ = line_of_reply formats reply ++ 10 ∷ [] in
      let less : n < length whole = subst (λ (l : List ℕ). n < length l) is.line p.took.1 in
      record {
        ran = record (ends OutputFailed run.later) { text = take n whole };
        runs = inr (inr (room, asked, run.line, run.now, inr (formats, reply, run.later, run.replies, inr (inl (n, refl, p.rose, less, refl)))));
        end_is = p.end_is;
        no_reply = refl;
        took = subst (λ (l : List ℕ). Took (sink.written out) (sink.written out') (take n l)) is.line p.took.2;
        at = run.at;
        start = run.start;
        met = ap (λ (x : Place). x.met) p.same;
      }

-- ---- a turn

module _ {D S K : Type 0} (g : Ghosts D) (disk : D) (source : SourceGhosts S) (sink : SinkGhosts K) (s : Script) (store : Store) (now : D) where
  -- there is no line more, or none could be read
  pub turn-ends : (input input' : S) (out : K) (held : Held) (place : Place) (end : End) (given behind : List ℕ) (ended : Bool)
      → GaveMore held.ended (source.left input) (source.left input') given → (IsTrue ended → AtEnd (source.left input')) → (IsTrue held.ended → IsTrue ended) → held.behind ++ given ≡ behind → (end ≡ Through → behind ≡ [])
      → RunsLines (outside source sink input input' out out) place.line place.used [] s (ends end s) → IsAt g disk store now s
      → TurnEnds g disk store now source sink input input' out out held place place s end
  turn-ends input input' out held place end given behind ended gave at_end stays is whole runs at = record {
    given = given;
    gave = gave;
    texts = [];
    behind = behind;
    ended = ended;
    at_end = at_end;
    stays = stays;
    lines = is;
    run = record { ran = ends end s; runs = runs; end_is = refl; no_reply = refl; took = took_none (sink.written out); at = at; start = refl; met = refl };
    whole = whole;
  }

  -- a line was read
  pub turn-line : (input input' : S) (out out' : K) (held held' : Held) (place next : Place) (end : Option End) (given : List ℕ)
      → GaveMore held.ended (source.left input) (source.left input') given → (IsTrue held'.ended → AtEnd (source.left input')) → (IsTrue held.ended → IsTrue held'.ended)
      → IsCut held'.ended (held.behind ++ given) held'.line held'.behind → IfSome end (λ x. (x ≡ Through → ⊥) × (x ≡ InputFailed → ⊥)) → LineTurn g disk store now sink out out' held'.line s place next end
      → TurnMade g disk store now source sink input input' out out' held held' place next s end
  turn-line input input' out out' held held' place next None given gave at_end stays cut early line = record { given = given; gave = gave; cut = cut; line = line }
  turn-line input input' out out' held held' place next (Some end) given gave at_end stays cut early line =
      let o = of_output sink out out' in
      let o' = outside source sink input input' out out' in
      let wide : IsWider o o' = record { failed = λ failed. absurd failed; ended = λ ended. absurd ended; output = λ failed. failed } in
      record {
        given = given;
        gave = gave;
        texts = held'.line ∷ [];
        behind = held'.behind;
        ended = held'.ended;
        at_end = at_end;
        stays = stays;
        lines = (held'.behind, cut, refl);
        run = record {
          ran = line.ran;
          runs = runs-wider o o' place.line place.used (held'.line ∷ []) s line.ran wide line.runs;
          end_is = line.end_is;
          no_reply = line.no_reply;
          took = line.took;
          at = line.at;
          start = line.start;
          met = line.met;
        };
        whole = λ through. absurd (early.0 through);
      }
