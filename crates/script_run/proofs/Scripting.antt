-- Lines that were run one after the other, and the run that they are the front of.
use Rattle.std.proofs.Common.{◌≡◌, ◌∙◌, ◌++◌, ◌+◌, ◌≤◌, ℕ, List, [], ◌∷◌, length, refl, sym, ap, subst, inl, inr, append_assoc, arith}
use Rattle.std.specs.Prelude.{◌⊎◌, Bool, true, false, IsTrue, Option, Some, None, filter, cond}
use Rattle.std.proofs.lemmas.List.{append-nil}
use Rattle.failure.specs.Counts.{Rose}
use Rattle.wt_code.specs.declared.refusals.Refusal.{Refusal}
use Rattle.wt_code.specs.declared.refusals.Refusal.TheVariants.{DiskFault, NoMemory}
use Rattle.wt_io.specs.Streams.{AtEnd, Gave, Took}
use Rattle.wt_io.specs.StreamLemmas.{took_more, took_none}
use Rattle.wt_io.specs.declared.streams.Source.{Ghosts as SourceGhosts}
use Rattle.wt_io.specs.declared.streams.Sink.{Ghosts as SinkGhosts}
use Rattle.script_text.specs.declared.replies.Reply.{Reply}
use Rattle.script_text.specs.Replies.{line_of_reply}
use Rattle.disk_model.specs.declared.disk.Disk.{Ghosts}
use Rattle.kv_model.specs.Machine.{Completed}
use Rattle.engine_world.specs.Worlds.{World}
use Rattle.engine_store.specs.declared.frames.Frames.{Frames}
use Rattle.engine_store.specs.declared.frames.Frames.TheVariants.{Firm}
use Rattle.engine_store.specs.declared.progress.Progress.{Progress}
use Rattle.engine_store.specs.declared.store.Store.{Store}
use Rattle.engine_store.specs.Devices.{Installed, device_of}
use Rattle.engine_store.specs.Held.{IsHeld}
use Rattle.engine_store.specs.Progress.{place_in}
use Rattle.script_run.specs.declared.script.End.TheVariants.{Stopped}
use Rattle.script_run.specs.declared.script.Place.{Place}
use Rattle.script_run.specs.declared.script.ScriptRun.{ScriptRun}
use Rattle.script_run.specs.Lines.{AreLines, Held, IsCut}
use Rattle.script_run.specs.Scripts.{Outside, Ran, RunsLines, Script, counts, ends, first_of, fresh, listed, outside, nothing_kept, prints, refusals_in}
use Rattle.script_run.specs.Runs.{IsAt, IsRun, MetFault}
use Rattle.script_run.specs.Turns.{LineDone, TurnEnds, TurnGoesOn, met_with}
use Rattle.script_run.proofs.Cutting.{gave_more, gave_none}

-- ---- lines of an input

cut-more : (ended ended' : Bool) (bytes more line behind : List ℕ) → (IsTrue ended → more ≡ []) → (IsTrue ended → IsTrue ended') → IsCut ended bytes line behind → IsCut ended' (bytes ++ more) line (behind ++ more)
cut-more ended ended' bytes more line behind none stays (unbroken, inl (short, is)) =
    (unbroken, inl (short, ap (λ (l : List ℕ). l ++ more) is ∙ append_assoc line (10 ∷ behind) more))
cut-more ended ended' bytes more line behind none stays (unbroken, inr (inl (short, some, at_end, empty, is))) =
    (unbroken, inr (inl (short, some, stays at_end, ap (λ (l : List ℕ). l ++ more) empty ∙ none at_end, ap (λ (l : List ℕ). bytes ++ l) (none at_end) ∙ append-nil bytes ∙ is)))
cut-more ended ended' bytes more line behind none stays (unbroken, inr (inr (long, is))) =
    (unbroken, inr (inr (long, ap (λ (l : List ℕ). l ++ more) is ∙ append_assoc line behind more)))

-- the lines of more bytes, behind those of the first
pub lines-then : (ended ended' : Bool) (given more behind behind' : List ℕ) (texts texts' : List (List ℕ)) → (IsTrue ended → more ≡ []) → (IsTrue ended → IsTrue ended')
    → AreLines ended given texts behind → AreLines ended' (behind ++ more) texts' behind' → AreLines ended' (given ++ more) (texts ++ texts') behind'
lines-then ended ended' given more behind behind' [] texts' none stays is lines = subst (λ (l : List ℕ). AreLines ended' (l ++ more) texts' behind') (sym is) lines
lines-then ended ended' given more behind behind' (line ∷ texts) texts' none stays (middle, cut, rest) lines =
    (middle ++ more, cut-more ended ended' given more line middle none stays cut, lines-then ended ended' middle more behind behind' texts texts' none stays rest lines)

-- a source at its end stays there
pub end-stays : (before now : Option (List ℕ)) (given : List ℕ) → Gave before now given → AtEnd before → AtEnd now
end-stays None now given is at_end = subst (λ (o : Option (List ℕ)). AtEnd o) (sym is) tt
end-stays (Some all) now given (rest, is, front) at_end = subst (λ (o : Option (List ℕ)). AtEnd o) (sym is) (none given rest (sym front ∙ at_end))
  where
    none : (xs ys : List ℕ) → xs ++ ys ≡ [] → ys ≡ []
    none [] ys e = e
    none (x ∷ xs) ys e = absurd cc

-- ---- lines that were run

-- the lines were run and printed whole: what was printed, and the refusals in it
abbrev pub DoneLines : List (List ℕ) → ℕ → ℕ → Script → ℕ → ℕ → Script → List ℕ → List Refusal → Type 0
DoneLines [] at used s at' used' s' text refusals = (at' ≡ at) × (used' ≡ used) × (s' ≡ s) × (text ≡ []) × (refusals ≡ [])
DoneLines (line ∷ lines) at used s at' used' s' text refusals =
    (printed : List ℕ) × (refusal : Option Refusal) × (later : Script) × (rest : List ℕ) × (others : List Refusal) × LineDone line used s printed refusal later
    × DoneLines lines (at + 1) (used + (length line + 1)) later at' used' s' rest others × (text ≡ printed ++ rest) × (refusals ≡ listed refusal ++ others)

-- one line more
pub done-more : (lines : List (List ℕ)) (at used : ℕ) (s : Script) (at' used' : ℕ) (s' : Script) (text : List ℕ) (refusals : List Refusal) (line printed : List ℕ) (refusal : Option Refusal) (later : Script)
    → DoneLines lines at used s at' used' s' text refusals → LineDone line used' s' printed refusal later
    → DoneLines (lines ++ line ∷ []) at used s (at' + 1) (used' + (length line + 1)) later (text ++ printed) (refusals ++ listed refusal)
done-more [] at used s at' used' s' text refusals line printed refusal later (at_is, used_is, same, no_text, none) done = (
  printed,
  refusal,
  later,
  [],
  [],
  subst (λ (x : Script). LineDone line used x printed refusal later) same (subst (λ (n : ℕ). LineDone line n s' printed refusal later) used_is done),
  (ap (λ (n : ℕ). n + 1) at_is, ap (λ (n : ℕ). n + (length line + 1)) used_is, refl, refl, refl),
  ap (λ (l : List ℕ). l ++ printed) no_text ∙ sym (append-nil printed),
  ap (λ (l : List Refusal). l ++ listed refusal) none ∙ sym (append-nil (listed refusal)),
)
done-more (first ∷ lines) at used s at' used' s' text refusals line printed refusal later (p, r, l, rest, others, one, more, is, all) done = (
  p,
  r,
  l,
  rest ++ printed,
  others ++ listed refusal,
  one,
  done-more lines (at + 1) (used + (length first + 1)) l at' used' s' rest others line printed refusal later more done,
  ap (λ (x : List ℕ). x ++ printed) is ∙ append_assoc p rest printed,
  ap (λ (x : List Refusal). x ++ listed refusal) all ∙ append_assoc (listed r) others (listed refusal),
)

abbrev pub behind : List ℕ → List Refusal → Ran → Ran
behind text refusals ran = record ran { text = text ++ ran.text; replies = refusals ++ ran.replies }

told-so : (ran : Ran) (text text' : List ℕ) (refusals refusals' : List Refusal) → text ≡ text' → refusals ≡ refusals' → record ran { text = text; replies = refusals } ≡ record ran { text = text'; replies = refusals' }
told-so ran text text' refusals refusals' is all = let Made : Type 0 = Ran in
    ap (λ (l : List ℕ). let x : Made = record ran { text = l; replies = refusals } in x) is ∙ ap (λ (l : List Refusal). let x : Made = record ran { text = text'; replies = l } in x) all

prints-so : (ran : Ran) (text rest printed line : List ℕ) (refusals others : List Refusal) (refusal : Option Refusal) (reply : Reply) → text ≡ printed ++ rest → printed ≡ line ++ 10 ∷ [] → refusals ≡ listed refusal ++ others → listed refusal ≡ refusals_in reply
    → behind text refusals ran ≡ prints line reply (behind rest others ran)
prints-so ran text rest printed line refusals others refusal reply is so all one =
    told-so ran (text ++ ran.text) (line ++ 10 ∷ (rest ++ ran.text)) (refusals ++ ran.replies) (refusals_in reply ++ (others ++ ran.replies))
    (ap (λ (l : List ℕ). l ++ ran.text) (is ∙ ap (λ (l : List ℕ). l ++ rest) so ∙ append_assoc line (10 ∷ []) rest) ∙ append_assoc line (10 ∷ rest) ran.text)
    (ap (λ (l : List Refusal). l ++ ran.replies) (all ∙ ap (λ (l : List Refusal). l ++ others) one) ∙ append_assoc (refusals_in reply) others ran.replies)

-- the run behind the lines is one from their first, with them before it
pub done-runs : (o : Outside) (lines : List (List ℕ)) (at used : ℕ) (s : Script) (at' used' : ℕ) (s' : Script) (text : List ℕ) (refusals : List Refusal) (texts : List (List ℕ)) (ran : Ran)
    → DoneLines lines at used s at' used' s' text refusals → RunsLines o at' used' texts s' ran → RunsLines o at used (lines ++ texts) s (behind text refusals ran)
done-runs o [] at used s at' used' s' text refusals texts ran (at_is, used_is, same, no_text, none) runs =
    subst (λ (l : List ℕ). RunsLines o at used texts s (behind l refusals ran)) (sym no_text)
    (subst (λ (l : List Refusal). RunsLines o at used texts s (behind [] l ran)) (sym none)
    (subst (λ (x : Script). RunsLines o at used texts x ran) same
    (subst (λ (n : ℕ). RunsLines o at n texts s' ran) used_is
    (subst (λ (n : ℕ). RunsLines o n used' texts s' ran) at_is runs))))
done-runs o (line ∷ lines) at used s at' used' s' text refusals texts ran (printed, refusal, later, rest, others, one, more, is, all) runs =
    inr (inr (
      one.room,
      one.asked,
      one.line,
      one.now,
      inr (
        one.formats,
        one.reply,
        later,
        one.replies,
        inl (
          behind rest others ran,
          prints-so ran text rest printed (line_of_reply one.formats one.reply) refusals others refusal one.reply is one.printed_is all one.refusal_is,
          done-runs o lines (at + 1) (used + (length line + 1)) later at' used' s' rest others texts ran more runs,
        ),
      ),
    ))

-- ---- what is known of the streams

-- what was so of a part of a run is so of it
pub record IsWider (o o' : Outside) : Type 0 where
  pub failed : o.input_failed → o'.input_failed
  pub ended : o.input_ended → o'.input_ended
  pub output : o.output_failed → o'.output_failed

pub runs-wider : (o o' : Outside) (at used : ℕ) (texts : List (List ℕ)) (s : Script) (ran : Ran) → IsWider o o' → RunsLines o at used texts s ran → RunsLines o' at used texts s ran
runs-wider o o' at used [] s ran wide (inl (ended, is)) = inl (wide.ended ended, is)
runs-wider o o' at used [] s ran wide (inr (inl (failed, is))) = inr (inl (wide.failed failed, is))
runs-wider o o' at used [] s ran wide (inr (inr is)) = inr (inr is)
runs-wider o o' at used (text ∷ texts) s ran wide (inl none) = inl none
runs-wider o o' at used (text ∷ texts) s ran wide (inr (inl short)) = inr (inl short)
runs-wider o o' at used (text ∷ texts) s ran wide (inr (inr (room, asked, spelled, now, inl stops))) = inr (inr (room, asked, spelled, now, inl stops))
runs-wider o o' at used (text ∷ texts) s ran wide (inr (inr (room, asked, spelled, now, inr (formats, reply, later, replies, inl (rest, is, runs))))) =
    inr (inr (room, asked, spelled, now, inr (formats, reply, later, replies, inl (rest, is, runs-wider o o' (at + 1) (used + (length text + 1)) texts later rest wide runs))))
runs-wider o o' at used (text ∷ texts) s ran wide (inr (inr (room, asked, spelled, now, inr (formats, reply, later, replies, inr (inl (n, nil, failed, less, is)))))) =
    inr (inr (room, asked, spelled, now, inr (formats, reply, later, replies, inr (inl (n, nil, wide.output failed, less, is)))))
runs-wider o o' at used (text ∷ texts) s ran wide (inr (inr (room, asked, spelled, now, inr (formats, reply, later, replies, inr (inr short))))) =
    inr (inr (room, asked, spelled, now, inr (formats, reply, later, replies, inr (inr short))))

pub rose-before : (first before now : ℕ) → first ≤ before → Rose before now → Rose first now
rose-before first before now le rose = omega (arith, le, rose)

pub rose-after : (first before now : ℕ) → before ≤ now → Rose first before → Rose first now
rose-after first before now le rose = omega (arith, le, rose)

-- a fault that was met before, or is met now
pub rose-either : (P : Type 0) (first before now : ℕ) → before ≤ now → (P → Rose first before) → P ⊎ Rose first now → Rose first now
rose-either P first before now le was (inl p) = rose-after first before now le (was p)
rose-either P first before now le was (inr rose) = rose

-- ---- the first fault of the disk or want of memory

pub none-met : (r : Refusal) → let none : Option Refusal = None in none ≡ Some r → ⊥
none-met r is = cc

met-more : (refusals : List Refusal) (refusal : Option Refusal) → met_with (first_of (filter counts refusals)) refusal ≡ first_of (filter counts (refusals ++ listed refusal))
met-more [] refusal = refl
met-more (r ∷ refusals) refusal =
    elim (counts r) as (λ b. met_with (first_of (cond b (r ∷ filter counts refusals) (filter counts refusals))) refusal
    ≡ first_of (cond b (r ∷ filter counts (refusals ++ listed refusal)) (filter counts (refusals ++ listed refusal))))
    [ true ↦ refl | false ↦ met-more refusals refusal ]

-- ---- what a run met

-- want of memory is no fault of the disk
pub none-told : MetFault (record { end = Stopped NoMemory; met = None }) → ⊥
none-told (inl is) = cc
none-told (inr is) = cc

-- one that it met in its last turn, or before
pub rose-told : (told : ScriptRun) (first before now : ℕ) (met : Option Refusal) → before ≤ now → told.met ≡ met → (met ≡ Some DiskFault → Rose first before) → (told.end ≡ Stopped DiskFault → Rose first now) → MetFault told → Rose first now
rose-told told first before now met le same was rose (inl end) = rose end
rose-told told first before now met le same was rose (inr is) = rose-after first before now le (was (sym same ∙ is))

-- ---- a run so far

-- how many frames there are says nothing of what is held
pub frames-held : {D : Type 0} (g : Ghosts D) (start disk : D) (store : Store) (frames : Frames) (w : World) (first : Completed) (made : List Installed) → IsHeld g start store disk w first made → IsHeld g start (record store { frames = frames }) disk w first made
frames-held g start disk store frames w first made held = record {
  stands = held.stands;
  running = held.running;
  kept = held.kept;
  bare = held.bare;
  on = λ up. let x = held.on up in record { old = x.old; on = x.on; follows = x.follows; since = x.since; opens = x.opens; one = x.one };
  images = held.images;
  last = held.last;
  ever = held.ever;
  stays = held.stays;
  past = held.past;
}

module _ {D : Type 0} (g : Ghosts D) (disk : D) (w : World) (frames : ℕ) (progress : Option Progress) where
  -- of a run that is this far, from the store of this world
  pub record IsDone {S K : Type 0} (source : SourceGhosts S) (sink : SinkGhosts K) (input input' : S) (out out' : K) (held : Held) (place : Place) (store : Store) (now : D) : Type 0 where
    pub given : List ℕ
    pub gave : Gave (source.left input) (source.left input') given
    pub texts : List (List ℕ)
    pub lines : AreLines held.ended given texts held.behind
    pub text : List ℕ
    pub refusals : List Refusal
    pub script : Script
    pub done : DoneLines texts 1 0 (fresh w (device_of g disk) frames progress) place.line place.used script text refusals
    pub took : Took (sink.written out) (sink.written out') text
    pub met : place.met ≡ first_of (filter counts refusals)
    pub at : IsAt g disk store now script
    pub start : script.first ≡ w.machine.completed
    pub kept : script.kept ≡ place.kept

  -- before the first line
  pub first-at : (store : Store) → store.frames ≡ Firm frames → place_in store.running ≡ progress → IsHeld g disk store disk w w.machine.completed [] → IsAt g disk store disk (fresh w (device_of g disk) frames progress)
  first-at store firm place held = record { held = held; device = refl; frames = firm; progress = place }

  pub none-done : {S K : Type 0} (source : SourceGhosts S) (sink : SinkGhosts K) (input : S) (out : K) (held : Held) (place : Place) (store : Store) → store.frames ≡ Firm frames → place_in store.running ≡ progress
      → held.behind ≡ [] → place.line ≡ 1 → place.used ≡ 0 → place.kept ≡ nothing_kept → place.met ≡ None → IsHeld g disk store disk w w.machine.completed []
      → IsDone source sink input input out out held place store disk
  none-done source sink input out held place store firm running empty line used formats met holds = record {
    given = [];
    gave = gave_none (source.left input);
    texts = [];
    lines = sym empty;
    text = [];
    refusals = [];
    script = fresh w (device_of g disk) frames progress;
    done = (line, used, refl, refl, refl);
    took = took_none (sink.written out);
    met = met;
    at = first-at store firm running holds;
    start = refl;
    kept = sym formats;
  }

  -- one line more
  pub more-done : {S K : Type 0} (source : SourceGhosts S) (sink : SinkGhosts K) (input input' input'' : S) (out out' out'' : K) (held held' : Held) (place next : Place) (store store' : Store) (now now' : D)
      → (IsTrue held.ended → IsTrue held'.ended) → (d : IsDone source sink input input' out out' held place store now)
      → TurnGoesOn g disk store' now' source sink input' input'' out' out'' held held' place next d.script → IsDone source sink input input'' out out'' held' next store' now'
  more-done source sink input input' input'' out out' out'' held held' place next store store' now now' stays d t =
      let l = t.line in
      let begin = fresh w (device_of g disk) frames progress in
      let all = done-more d.texts 1 0 begin place.line place.used d.script d.text d.refusals held'.line l.printed l.refusal l.later d.done l.done in
      record {
        given = d.given ++ t.given;
        gave = gave_more (source.left input) (source.left input') (source.left input'') d.given t.given d.gave t.gave.0;
        texts = d.texts ++ held'.line ∷ [];
        lines = lines-then held.ended held'.ended d.given t.given held.behind held'.behind d.texts (held'.line ∷ []) t.gave.1 stays d.lines (held'.behind, t.cut, refl);
        text = d.text ++ l.printed;
        refusals = d.refusals ++ listed l.refusal;
        script = l.later;
        done = subst (λ (n : ℕ). DoneLines (d.texts ++ held'.line ∷ []) 1 0 begin n next.used l.later (d.text ++ l.printed) (d.refusals ++ listed l.refusal)) (sym l.line)
            (subst (λ (n : ℕ). DoneLines (d.texts ++ held'.line ∷ []) 1 0 begin (place.line + 1) n l.later (d.text ++ l.printed) (d.refusals ++ listed l.refusal)) (sym l.used) all);
        took = took_more (sink.written out) (sink.written out') (sink.written out'') d.text l.printed d.took l.took;
        met = l.met ∙ ap (λ (m : Option Refusal). met_with m l.refusal) d.met ∙ met-more d.refusals l.refusal;
        at = l.at;
        start = l.start ∙ d.start;
        kept = l.kept;
      }

  -- the run, at its end
  pub run-done : {S K : Type 0} (source : SourceGhosts S) (sink : SinkGhosts K) (input input' input'' : S) (out out' out'' : K) (held : Held) (place next : Place) (store store' : Store) (now now' : D) (told : ScriptRun)
      → source.fault_count input ≤ source.fault_count input' → sink.fault_count out ≤ sink.fault_count out'
      → (d : IsDone source sink input input' out out' held place store now) → TurnEnds g disk store' now' source sink input' input'' out' out'' held place next d.script told.end → told.met ≡ next.met
      → IsRun g (outside source sink input input'' out out'') (source.left input) (source.left input'') (sink.written out) (sink.written out'') w disk now' frames progress store' told
  run-done source sink input input' input'' out out' out'' held place next store store' now now' told reads writes d t met =
      let o = outside source sink input input'' out out'' in
      let own = outside source sink input' input'' out' out'' in
      let wide : IsWider own o = record {
        failed = λ rose. rose-before (source.fault_count input) (source.fault_count input') (source.fault_count input'') reads rose;
        ended = λ ended. ended;
        output = λ rose. rose-before (sink.fault_count out) (sink.fault_count out') (sink.fault_count out'') writes rose;
      } in
      let begin = fresh w (device_of g disk) frames progress in
      let ran : Ran = behind d.text d.refusals t.run.ran in
      let runs : RunsLines o 1 0 (d.texts ++ t.texts) begin ran =
      done-runs o d.texts 1 0 begin place.line place.used d.script d.text d.refusals t.texts t.run.ran d.done (runs-wider own o place.line place.used t.texts d.script t.run.ran wide t.run.runs) in
      let none : d.refusals ++ t.run.ran.replies ≡ d.refusals = ap (λ (l : List Refusal). d.refusals ++ l) t.run.no_reply ∙ append-nil d.refusals in
      record {
        given = d.given ++ t.given;
        gave = gave_more (source.left input) (source.left input') (source.left input'') d.given t.given d.gave t.gave.0;
        texts = d.texts ++ t.texts;
        behind = t.behind;
        ended = t.ended;
        at_end = t.at_end;
        lines = lines-then held.ended t.ended d.given t.given held.behind t.behind d.texts t.texts t.gave.1 t.stays d.lines t.lines;
        ran = ran;
        runs = runs;
        took = took_more (sink.written out) (sink.written out') (sink.written out'') d.text t.run.ran.text d.took t.run.took;
        end_is = t.run.end_is;
        met = met ∙ t.run.met ∙ d.met ∙ ap (λ (l : List Refusal). first_of (filter counts l)) (sym none);
        whole = λ through. t.whole (t.run.end_is ∙ through);
        device = t.run.at.device;
        held = subst (λ (c : Completed). IsHeld g disk store' now' t.run.ran.last.world c t.run.ran.last.made) (t.run.start ∙ d.start) t.run.at.held;
      }

  -- there was no memory to begin with
  pub none-run : {S K : Type 0} (source : SourceGhosts S) (sink : SinkGhosts K) (input : S) (out : K) (store : Store) (told : ScriptRun) → told.end ≡ Stopped NoMemory → told.met ≡ None → IsHeld g disk store disk w w.machine.completed []
      → IsRun g (outside source sink input input out out) (source.left input) (source.left input) (sink.written out) (sink.written out) w disk disk frames progress store told
  none-run source sink input out store told end met holds = record {
    given = [];
    gave = gave_none (source.left input);
    texts = [];
    behind = [];
    ended = false;
    at_end = λ is. absurd cc;
    lines = refl;
    ran = ends (Stopped NoMemory) (fresh w (device_of g disk) frames progress);
    runs = inr (inr refl);
    took = took_none (sink.written out);
    end_is = end;
    met = met;
    whole = λ through. refl;
    device = refl;
    held = holds;
  }
