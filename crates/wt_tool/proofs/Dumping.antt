-- How far a dump is printed, and the runs that it makes.
use Rattle.std.proofs.Common.{◌≡◌, ◌⊎◌, ◌≤◌, ◌<◌, ◌+◌, ◌∙◌, ◌++◌, ℕ, suc, List, [], ◌∷◌, take, drop, Option, Some, None, Result, Ok, Err, MatchOption, inl, inr, refl, sym, ap, subst, length, length-append, append_assoc, arith}
use Rattle.std.specs.List.{AllByRecursion, flat_map}
use Rattle.std.specs.Prelude.{slice_get, IfErr, IsTrue}
use Rattle.std.proofs.lemmas.List.{append-nil, take-append-le}
use Rattle.failure.specs.Counts.{Rose}
use Rattle.disk_model.specs.declared.disk.Disk.{Ghosts}
use Rattle.disk_model.specs.Crash.{Looked}
use Rattle.wt_code.specs.declared.refusals.Refusal.{Refusal}
use Rattle.wt_code.specs.declared.refusals.Refusal.TheVariants.{NoMemory, NoTable, DiskFault, Corrupt, Invalid as Refusal_Invalid}
use Rattle.wt_code.specs.declared.refusals.Invalid.TheVariants.{BadName}
use Rattle.wt_io.specs.Streams.{Took, TookFront}
use Rattle.wt_io.specs.StreamLemmas.{took_more, took_none}
use Rattle.kv_model.specs.Content.{Content, start}
use Rattle.kv_model.specs.History.{Table, tables, named}
use Rattle.kv_model.specs.Rows.{Way}
use Rattle.item.specs.declared.formats.Formats.{Formats}
use Rattle.row_page.specs.Rows.{Row as PageRow}
use Rattle.checkpoint_core.specs.Stands.{HasStill}
use Rattle.tree_open.specs.Damage.{Refused}
use Rattle.tree_open.proofs.Steps.{refused_more}
use Rattle.device_read.specs.Laws.{AreWholePages}
use Rattle.device_read.specs.Leaves.{HasNoLeaf}
use Rattle.device_read.specs.Rows.{put_rows}
use Rattle.device_read.specs.Spoilt.{IsSpoiltFrom}
use Rattle.device_read.specs.Readers.{Held}
use Rattle.device_read.specs.Refusals.{LeafIsAtFault}
use Rattle.dump_text.specs.declared.form.Form.{Form}
use Rattle.dump_text.specs.Grammar.{Row}
use Rattle.dump_text.specs.Written.{dump_lines, head_lines, row_lines, text_of}
use Rattle.engine_store.specs.Devices.{Device, IsLater, KeepsCheckpoint, device_of}
use Rattle.script_run.specs.declared.script.End.{End}
use Rattle.script_run.specs.declared.script.End.TheVariants.{Through, Stopped, InputFailed, OutputFailed}
use Rattle.wt_line.specs.Line.{Asked}
use Rattle.wt_tool.specs.Commands.{IsByReader}
use Rattle.wt_tool.specs.Damaged.{DumpsTableOn, IsTableOn, RunsDumpOn, StopsAtLeaf, device_on}
use Rattle.wt_tool.specs.Dumps.{AreRows, DumpsTable}
use Rattle.wt_tool.specs.Openings.{Named, Opens}
use Rattle.wt_tool.specs.Pages.{CutsOff, EndsAtLeaf, EndsBy, EndsSoundly, IsLeft, LacksLeaf, PutsBehind, PutsLeaf, RowsEndBy, TableEndsBy, UriEndsBy, UriLacksLeaf, along, place_on, rows_on, rows_text}
use Rattle.wt_tool.specs.Parts.{IsReadStatus, IsSoOfLeaves, NoDamage, Reading, TellsEnd, at}
use Rattle.wt_tool.specs.Points.{Point, Ran, ends, prints, stops}
use Rattle.wt_tool.specs.Scripts.{told_at}
use Rattle.wt_tool.specs.Top.{Errors, IsSoFor, Printed, Telling, status_of}
use Rattle.wt_tool.specs.Words.{name_in}
use Rattle.wt_tool.proofs.FaultyLeaves.{reader_leaf}
use Rattle.wt_tool.proofs.Gets.{front_more, rose_before}
use Rattle.wt_tool.proofs.Naming.{named_goes}
use Rattle.wt_tool.proofs.Running.{named_as}
use Rattle.wt_tool.proofs.Ways.{front_all, front_more as map_more, front_rest, rows_append, text_append, under_before, whole_rows}

-- ---- a disk that is looked at

pub looked_self : {D : Type 0} (g : Ghosts D) (disk : D) → Looked g disk disk
looked_self g disk = record { same = refl; content = refl; images = λ c left. left; capacity = refl; count = omega arith; later = omega arith; since = λ t c le left. left }

pub looked_later : {D : Type 0} (g : Ghosts D) (old new : D) → Looked g old new → IsLater (device_of g old) (device_of g new)
looked_later g old new looked = record { faults = looked.count; moment = looked.later }

pub looked_keeps : {D : Type 0} (g : Ghosts D) (old new : D) → Looked g old new → KeepsCheckpoint (device_of g old) (device_of g new)
looked_keeps g old new looked = record { capacity = looked.capacity; checkpoint = λ s has. subst (λ (l : List ℕ). HasStill s l) (sym looked.content) has }

-- the same with the whole device in the place of what a read gives
pub later_on : {D : Type 0} (g : Ghosts D) (whole : List ℕ) (old new : D) → Looked g old new → IsLater (device_on g whole old) (device_on g whole new)
later_on g whole old new looked = record { faults = looked.count; moment = looked.later }

pub keeps_on : {D : Type 0} (g : Ghosts D) (whole : List ℕ) (old new : D) → Looked g old new → KeepsCheckpoint (device_on g whole old) (device_on g whole new)
keeps_on g whole old new looked = record { capacity = looked.capacity; checkpoint = λ s has. has }

pub spoilt_now : {D : Type 0} (g : Ghosts D) (whole : List ℕ) (old mid : D) → Looked g old mid → IsSpoiltFrom whole (g.seen old) → IsSpoiltFrom whole (g.seen mid)
spoilt_now g whole old mid looked spoilt = subst (λ (l : List ℕ). IsSpoiltFrom whole l) (sym looked.content) spoilt

-- a run that is also another
pub reading_as : (Allowed Other : Point → Ran → Type 0) (p : Point) (d : Device) (before now : Option (List ℕ)) (e : Errors) (status : ℕ) → ((ran : Ran) → Allowed p ran → Other p ran) → Reading Allowed p d before now e status → Reading Other p d before now e status
reading_as Allowed Other p d before now e status more r = record { ran = r.ran; run = more r.ran r.run; printed = r.printed; told = r.told; silent = r.silent; none = r.none; there = r.there; same = r.same }

-- ---- how a run is cut off

front_longer : (before now : Option (List ℕ)) (text more : List ℕ) → TookFront before now text → TookFront before now (text ++ more)
front_longer before now text more front =
    let short : front.0 ≤ length text = front.1 in
    (front.0, omega (arith, short, length-append text more), subst (λ (l : List ℕ). Took before now l) (sym (take-append-le front.0 text more short)) front.2)

-- behind a text that was printed
cut_behind : (failed disk : Type 0) (before mid now : Option (List ℕ)) (printed text : List ℕ) (end : End) → Took before mid printed → CutsOff failed disk mid now text end → CutsOff failed disk before now (printed ++ text) end
cut_behind failed disk before mid now printed text Through took cut = cut
cut_behind failed disk before mid now printed text InputFailed took cut = cut
cut_behind failed disk before mid now printed text OutputFailed took cut = (front_more before mid now printed text took cut.0, cut.1)
cut_behind failed disk before mid now printed text (Stopped r) took (why, (front, rest, all, more)) =
    (why, (printed ++ front, rest, ap (λ (l : List ℕ). printed ++ l) all ∙ sym (append_assoc printed front rest), took_more before mid now printed front took more))

-- of a longer text
pub cut_longer : (failed disk : Type 0) (before now : Option (List ℕ)) (text more : List ℕ) (end : End) → CutsOff failed disk before now text end → CutsOff failed disk before now (text ++ more) end
cut_longer failed disk before now text more Through cut = cut
cut_longer failed disk before now text more InputFailed cut = cut
cut_longer failed disk before now text more OutputFailed cut = (front_longer before now text more cut.0, cut.1)
cut_longer failed disk before now text more (Stopped r) (why, (front, rest, all, took)) = (why, (front, rest ++ more, ap (λ (l : List ℕ). l ++ more) all ∙ append_assoc front rest more, took))

-- by what else the output or the disk has failed
pub cut_wider : (failed wider disk more : Type 0) (before now : Option (List ℕ)) (text : List ℕ) (end : End) → (failed → wider) → (disk → more) → CutsOff failed disk before now text end → CutsOff wider more before now text end
cut_wider failed wider disk more before now text Through out why cut = cut
cut_wider failed wider disk more before now text InputFailed out why cut = cut
cut_wider failed wider disk more before now text OutputFailed out why cut = (cut.0, out cut.1)
cut_wider failed wider disk more before now text (Stopped r) out why (inl short, rest) = (inl short, rest)
cut_wider failed wider disk more before now text (Stopped r) out why (inr (is, fault), rest) = (inr (is, why fault), rest)

pub cut_ends : (failed disk : Type 0) (before now : Option (List ℕ)) (text : List ℕ) (end : End) → CutsOff failed disk before now text end → EndsBy failed disk before now text end
cut_ends failed disk before now text Through cut = absurd cut
cut_ends failed disk before now text InputFailed cut = cut
cut_ends failed disk before now text OutputFailed cut = cut
cut_ends failed disk before now text (Stopped r) cut = cut

pub cut_sound : (failed disk honest : Type 0) (bytes : List ℕ) (before now : Option (List ℕ)) (text : List ℕ) (end : End) → CutsOff failed disk before now text end → EndsSoundly failed disk honest bytes end
cut_sound failed disk honest bytes before now text Through cut = absurd cut
cut_sound failed disk honest bytes before now text InputFailed cut = cut
cut_sound failed disk honest bytes before now text OutputFailed cut = cut.1
cut_sound failed disk honest bytes before now text (Stopped r) (inl is, rest) = (subst (IsSoOfLeaves honest bytes) (sym is) tt, λ fault. absurd (no_fault (sym is ∙ fault)))
  where
    no_fault : NoMemory ≡ DiskFault → ⊥
    no_fault e = cc
cut_sound failed disk honest bytes before now text (Stopped r) (inr (is, why), rest) = (subst (IsSoOfLeaves honest bytes) (sym is) tt, λ fault. why)

-- ---- a text of which a front is printed

pub left_first : (before : Option (List ℕ)) (text : List ℕ) → IsLeft before before text text
left_first before text = ([], refl, took_none before)

pub left_on : (before mid now : Option (List ℕ)) (rest all more next : List ℕ) → IsLeft before mid rest all → IsLeft mid now next (rest ++ more) → IsLeft before now next (all ++ more)
left_on before mid now rest all more next (printed, is, took) (further, same, also) = (
  printed ++ further,
  append_assoc printed further next ∙ ap (λ (l : List ℕ). printed ++ l) same ∙ sym (append_assoc printed rest more) ∙ ap (λ (l : List ℕ). l ++ more) is,
  took_more before mid now printed further took also,
)

pub left_cut : (failed disk : Type 0) (before mid now : Option (List ℕ)) (rest all more : List ℕ) (end : End) → IsLeft before mid rest all → CutsOff failed disk mid now (rest ++ more) end → CutsOff failed disk before now (all ++ more) end
left_cut failed disk before mid now rest all more end (printed, is, took) cut =
    subst (λ (l : List ℕ). CutsOff failed disk before now l end) (sym (append_assoc printed rest more) ∙ ap (λ (l : List ℕ). l ++ more) is)
    (cut_behind failed disk before mid now printed (rest ++ more) end took cut)

-- what is left is printed, or is not
pub left_ends : (failed disk : Type 0) (before mid now : Option (List ℕ)) (rest all : List ℕ) (end : End) → IsLeft before mid rest all → EndsBy failed disk mid now rest end → EndsBy failed disk before now all end
left_ends failed disk before mid now rest all Through (printed, is, took) ended = subst (λ (l : List ℕ). Took before now l) is (took_more before mid now printed rest took ended)
left_ends failed disk before mid now rest all InputFailed (printed, is, took) ended = ended
left_ends failed disk before mid now rest all OutputFailed (printed, is, took) ended =
    subst (λ (l : List ℕ). CutsOff failed disk before now l OutputFailed) is (cut_behind failed disk before mid now printed rest OutputFailed took ended)
left_ends failed disk before mid now rest all (Stopped r) (printed, is, took) ended =
    subst (λ (l : List ℕ). CutsOff failed disk before now l (Stopped r)) is (cut_behind failed disk before mid now printed rest (Stopped r) took ended)

pub ends_wider : (failed wider disk more : Type 0) (before now : Option (List ℕ)) (text : List ℕ) (end : End) → (failed → wider) → (disk → more) → EndsBy failed disk before now text end → EndsBy wider more before now text end
ends_wider failed wider disk more before now text Through out why ended = ended
ends_wider failed wider disk more before now text InputFailed out why ended = ended
ends_wider failed wider disk more before now text OutputFailed out why ended = cut_wider failed wider disk more before now text OutputFailed out why ended
ends_wider failed wider disk more before now text (Stopped r) out why ended = cut_wider failed wider disk more before now text (Stopped r) out why ended

pub sound_wider : (failed wider disk more honest : Type 0) (bytes : List ℕ) (end : End) → (failed → wider) → (disk → more) → EndsSoundly failed disk honest bytes end → EndsSoundly wider more honest bytes end
sound_wider failed wider disk more honest bytes Through out why sound = sound
sound_wider failed wider disk more honest bytes InputFailed out why sound = sound
sound_wider failed wider disk more honest bytes OutputFailed out why sound = out sound
sound_wider failed wider disk more honest bytes (Stopped r) out why sound = (sound.0, λ is. why (sound.1 is))

-- ---- rows that are printed one behind the other

-- Of a list each of whose elements gives rows, those in front of one are behind the text, and a front of that is printed.
module _ {A : Type 0} (f : A → List Row) (form : Form) (xs : List A) (old : List ℕ) where
  abbrev pub so_far : ℕ → List ℕ
  so_far i = old ++ rows_text form (flat_map f (take i xs))

  abbrev pub whole : List ℕ
  whole = old ++ rows_text form (flat_map f xs)

  none_yet : so_far 0 ≡ old
  none_yet = append-nil old

  pub first_left : (before : Option (List ℕ)) → IsLeft before before old (so_far 0)
  first_left before = subst (λ (l : List ℕ). IsLeft before before old l) (sym none_yet) (left_first before old)

  pub last_left : (before now : Option (List ℕ)) (text : List ℕ) (i : ℕ) → length xs ≤ i → IsLeft before now text (so_far i) → IsLeft before now text whole
  last_left before now text i le left = subst (λ (l : List Row). IsLeft before now text (old ++ rows_text form l)) (front_all f xs i le) left

  module _ (before mid now : Option (List ℕ)) (text : List ℕ) (i : ℕ) (x : A) (there : slice_get xs i ≡ Some x) (left : IsLeft before mid text (so_far i)) where
    one_more : so_far i ++ rows_text form (f x) ≡ so_far (i + 1)
    one_more =
        append_assoc old (rows_text form (flat_map f (take i xs))) (rows_text form (f x))
        ∙ ap (λ (l : List ℕ). old ++ l) (sym (rows_append form (flat_map f (take i xs)) (f x)) ∙ ap (rows_text form) (sym (map_more f xs i x there) ∙ ap (λ (n : ℕ). flat_map f (take n xs)) (next i)))
      where
        next : (n : ℕ) → suc n ≡ n + 1
        next n = omega arith

    pub next_left : (next : List ℕ) → IsLeft mid now next (text ++ rows_text form (f x)) → IsLeft before now next (so_far (i + 1))
    next_left next more = subst (λ (l : List ℕ). IsLeft before now next l) one_more (left_on before mid now text (so_far i) (rows_text form (f x)) next left more)

    pub next_cut : (failed disk : Type 0) (end : End) → CutsOff failed disk mid now (text ++ rows_text form (f x)) end → CutsOff failed disk before now whole end
    next_cut failed disk end cut =
        let rest : List ℕ = rows_text form (flat_map f (drop (i + 1) xs)) in
        subst (λ (l : List ℕ). CutsOff failed disk before now l end)
        (append_assoc old (rows_text form (flat_map f (take (i + 1) xs))) rest ∙ ap (λ (l : List ℕ). old ++ l) (sym (rows_append form (flat_map f (take (i + 1) xs)) (flat_map f (drop (i + 1) xs))) ∙ ap (rows_text form) (sym (front_rest f xs (i + 1)))))
        (cut_longer failed disk before now (so_far (i + 1)) rest end
        (subst (λ (l : List ℕ). CutsOff failed disk before now l end) one_more (left_cut failed disk before mid now text (so_far i) (rows_text form (f x)) end left cut)))

-- by its result
pub behind_wider : (failed wider disk more : Type 0) (before now : Option (List ℕ)) (old new text : List ℕ) (result : Result (Unit {0}) End) → (failed → wider) → (disk → more) → PutsBehind failed disk before now old new text result → PutsBehind wider more before now old new text result
behind_wider failed wider disk more before now old new text (Ok done) out why puts = puts
behind_wider failed wider disk more before now old new text (Err end) out why puts = cut_wider failed wider disk more before now (old ++ text) end out why puts

pub behind_sound : (failed disk honest : Type 0) (bytes : List ℕ) (before now : Option (List ℕ)) (old new text : List ℕ) (result : Result (Unit {0}) End) → PutsBehind failed disk before now old new text result → IfErr result (EndsSoundly failed disk honest bytes)
behind_sound failed disk honest bytes before now old new text (Ok done) puts = tt
behind_sound failed disk honest bytes before now old new text (Err end) puts = cut_sound failed disk honest bytes before now (old ++ text) end puts

-- nothing was put
pub nothing_behind : (before : Option (List ℕ)) (text : List ℕ) → IsLeft before before text (text ++ [])
nothing_behind before text = subst (λ (l : List ℕ). IsLeft before before text l) (sym (append-nil text)) (left_first before text)

pub err_wider : (failed disk more honest : Type 0) (bytes : List ℕ) (result : Result (Unit {0}) End) → (disk → more) → IfErr result (EndsSoundly failed disk honest bytes) → IfErr result (EndsSoundly failed more honest bytes)
err_wider failed disk more honest bytes (Ok done) why sound = tt
err_wider failed disk more honest bytes (Err end) why sound = sound_wider failed failed disk more honest bytes end (λ x. x) why sound

pub ends_sound : (failed disk honest : Type 0) (bytes : List ℕ) (before now : Option (List ℕ)) (text : List ℕ) (end : End) → EndsBy failed disk before now text end → EndsSoundly failed disk honest bytes end
ends_sound failed disk honest bytes before now text Through ended = tt
ends_sound failed disk honest bytes before now text InputFailed ended = ended
ends_sound failed disk honest bytes before now text OutputFailed ended = cut_sound failed disk honest bytes before now text OutputFailed ended
ends_sound failed disk honest bytes before now text (Stopped r) ended = cut_sound failed disk honest bytes before now text (Stopped r) ended

so_before : (honest : Type 0) (h : Type 0) (bytes : List ℕ) (r : Refusal) → (h → honest) → IsSoOfLeaves honest bytes r → IsSoOfLeaves h bytes r
so_before honest h bytes (Corrupt at want found) to so = λ x. so (to x)
so_before honest h bytes _ to so = tt

-- what a refusal says on a disk that was looked at before
pub so_further : {D : Type 0} (g : Ghosts D) (old mid : D) (r : Refusal) → Looked g old mid → IsSoOfLeaves (IsTrue (g.honest mid)) (g.seen mid) r → IsSoOfLeaves (IsTrue (g.honest old)) (g.seen old) r
so_further g old mid r looked so = so_before (IsTrue (g.honest mid)) (IsTrue (g.honest old)) (g.seen old) r (λ h. looked.same ∙ h) (subst (λ (l : List ℕ). IsSoOfLeaves (IsTrue (g.honest mid)) l r) looked.content so)

-- on a disk that was looked at before
pub sound_further : {D : Type 0} (g : Ghosts D) (failed wider : Type 0) (old mid new : D) (end : End) → Looked g old mid → (failed → wider)
    → EndsSoundly failed (Rose (g.faults mid) (g.faults new)) (IsTrue (g.honest mid)) (g.seen mid) end → EndsSoundly wider (Rose (g.faults old) (g.faults new)) (IsTrue (g.honest old)) (g.seen old) end
sound_further g failed wider old mid new Through looked out sound = sound
sound_further g failed wider old mid new InputFailed looked out sound = sound
sound_further g failed wider old mid new OutputFailed looked out sound = out sound
sound_further g failed wider old mid new (Stopped r) looked out sound = (
  so_further g old mid r looked sound.0,
  λ is. rose_before (g.faults old) (g.faults mid) (g.faults new) looked.count (sound.1 is),
)

-- ---- a leaf that is not read

pub leaf_so : (fault known honest : Type 0) (bytes : List ℕ) (r : Refusal) → (honest → known) → Refused fault known (LeafIsAtFault bytes) r → IsSoOfLeaves honest bytes r × (r ≡ DiskFault → fault)
leaf_so fault known honest bytes r to (inl (is, failed)) = (subst (IsSoOfLeaves honest bytes) (sym is) tt, λ also. failed)
leaf_so fault known honest bytes r to (inr (inl is)) = (subst (IsSoOfLeaves honest bytes) (sym is) tt, λ also. absurd (no_fault (sym is ∙ also)))
  where
    no_fault : NoMemory ≡ DiskFault → ⊥
    no_fault e = cc
leaf_so fault known honest bytes r to (inr (inr (at, want, found, is, why))) = (subst (IsSoOfLeaves honest bytes) (sym is) (λ h. why (to h)), λ also. absurd (no_fault at want found (sym is ∙ also)))
  where
    no_fault : (at want found : ℕ) → Corrupt at want found ≡ DiskFault → ⊥
    no_fault at want found e = cc

-- of this leaf
pub leaf_missing_so : (fault honest : Type 0) (bytes : List ℕ) (Missing : ℕ → ℕ → ℕ → Type 0) (r : Refusal) → (honest → (at want found : ℕ) → Missing at want found → LeafIsAtFault bytes at want found) → Refused fault honest Missing r → IsSoOfLeaves honest bytes r × (r ≡ DiskFault → fault)
leaf_missing_so fault honest bytes Missing r law why =
    leaf_so fault honest honest bytes r (λ h. h) (refused_more fault fault honest honest Missing (LeafIsAtFault bytes) r (λ f. f) (λ h. h) (λ at want found h missing. law h at want found missing) why)

-- what is put behind the text then
pub leaf_put : (failed fault known : Type 0) (bytes : List ℕ) (h : Held) (place i : ℕ) (now : Option (List ℕ)) (old new more : List ℕ) (r : Refusal) → known → Refused fault known (HasNoLeaf bytes h place i) r → PutsLeaf failed fault bytes h place i now now old new more (Err (Stopped r))
leaf_put failed fault known bytes h place i now old new more r k (inl (is, why)) = inl (inr (is, why), ([], old ++ more, refl, took_none now))
leaf_put failed fault known bytes h place i now old new more r k (inr (inl is)) = inl (inl is, ([], old ++ more, refl, took_none now))
leaf_put failed fault known bytes h place i now old new more r k (inr (inr (at, want, found, is, why))) =
    inr (at, want, found, ap (λ (x : Refusal). Err (Stopped x)) is, why k, took_none now)

-- the leaf was put
pub leaf_done : (failed fault : Type 0) (bytes : List ℕ) (h : Held) (place i : ℕ) (before now : Option (List ℕ)) (old new more : List ℕ) → PutsLeaf failed fault bytes h place i before now old new more (Ok tt) → IsLeft before now new (old ++ more)
leaf_done failed fault bytes h place i before now old new more (inl left) = left
leaf_done failed fault bytes h place i before now old new more (inr (at, want, found, is, leaf, took)) = absurd cc

-- the run ends behind so many pages
pub leaf_ended : (bytes : List ℕ) (h : Held) (place i : ℕ) (form : Form) (way : Way) (head : List ℕ) (pages : List (List PageRow)) (passed : ℕ) (before mid now : Option (List ℕ)) (text : List ℕ) (at want found : ℕ) (end : End) → passed < length pages → i ≡ place_on way (length pages) passed
    → IsLeft before mid text (head ++ rows_text form (flat_map (λ page. put_rows (along way page)) (take passed (along way pages)))) → HasNoLeaf bytes h place i at want found → Took mid now [] → end ≡ Stopped (Corrupt at want found) → EndsAtLeaf bytes h place form way head pages before now end
leaf_ended bytes h place i form way head pages passed before mid now text at want found end within same (printed, is, took) leaf none ended = record {
  passed = passed;
  within = within;
  at = at;
  want = want;
  found = found;
  leaf = subst (λ (n : ℕ). HasNoLeaf bytes h place n at want found) same leaf;
  front = printed;
  rest = text;
  text = sym is;
  took = subst (λ (l : List ℕ). Took before now l) (append-nil printed) (took_more before mid now printed [] took none);
  is = ended;
}

-- ---- a table

module _ (failed fault : Type 0) (bytes : List ℕ) (c : Content) (h : Held) (place : ℕ) (t : Table) (form : Form) (way : Way) (name : List ℕ) (before now : Option (List ℕ)) (end : End) (pages : List (List PageRow)) (are : AreWholePages bytes c h place t.number pages) where
  pub rows_printed : (head : List ℕ) (formats : Formats) → head ≡ text_of (head_lines form name formats) → formats ≡ t.formats → EndsBy failed fault before now (head ++ rows_text form (rows_on way pages)) end → RowsEndBy failed fault c t form way name before now end
  rows_printed head formats is same ended = (
    rows_on way pages,
    whole_rows way bytes c h place t pages are,
    subst (λ (l : List ℕ). EndsBy failed fault before now l end)
        (ap (λ (l : List ℕ). l ++ rows_text form (rows_on way pages)) (is ∙ ap (λ (f : Formats). text_of (head_lines form name f)) same) ∙ sym (text_append (head_lines form name t.formats) (flat_map (row_lines form) (rows_on way pages))))
        ended,
  )

-- up to a leaf that is at fault
pub table_lacks : (whole bytes : List ℕ) (c : Content) (form : Form) (way : Way) (name : List ℕ) (before now : Option (List ℕ)) (end : End) (on : IsTableOn bytes name) → named name (tables (start c).history) ≡ Some on.table → (pages : List (List PageRow)) → AreWholePages whole c on.held on.place on.table.number pages → (head : List ℕ) (formats : Formats)
    → head ≡ text_of (head_lines form name formats) → formats ≡ on.table.formats → EndsAtLeaf bytes on.held on.place form way head pages before now end → LacksLeaf bytes c form way name before now end
table_lacks whole bytes c form way name before now end on is_named pages are head formats is same ended =
    let f : List PageRow → List Row = (λ page. put_rows (along way page)) in
    let rows : List Row = flat_map f (take ended.passed (along way pages)) in
    record {
      on = on;
      index = place_on way (length pages) ended.passed;
      at = ended.at;
      want = ended.want;
      found = ended.found;
      leaf = ended.leaf;
      is_named = is_named;
      rows = rows;
      others = flat_map f (drop ended.passed (along way pages));
      all = subst (λ (l : List Row). AreRows way (start c) on.table l) (front_rest f (along way pages) ended.passed) (whole_rows way whole c on.held on.place on.table pages are);
      under = λ row there. under_before way whole c on.held on.place on.table.number pages ended.passed row are ended.within there;
      front = ended.front;
      rest = ended.rest;
      text = text_append (head_lines form name on.table.formats) (flat_map (row_lines form) rows) ∙ ap (λ (l : List ℕ). l ++ rows_text form rows) (sym (is ∙ ap (λ (x : Formats). text_of (head_lines form name x)) same)) ∙ ended.text;
      took = ended.took;
      is = ended.is;
    }

-- for want of memory nothing is printed
pub none_printed : (failed fault : Type 0) (bytes : List ℕ) (c : Content) (h : Held) (place : ℕ) (t : Table) (form : Form) (way : Way) (name : List ℕ) (before : Option (List ℕ)) (pages : List (List PageRow)) → AreWholePages bytes c h place t.number pages
    → RowsEndBy failed fault c t form way name before before (Stopped NoMemory)
none_printed failed fault bytes c h place t form way name before pages are =
    (rows_on way pages, whole_rows way bytes c h place t pages are, (inl refl, ([], text_of (dump_lines form name t.formats (rows_on way pages)), refl, took_none before)))

-- ---- the run

module _ (failed : Type 0) (d d' : Device) (c : Content) (form : Form) (way : Way) (uri : List ℕ) (before now : Option (List ℕ)) (end : End) where
  pub uri_named : (name : List ℕ) → name_in uri ≡ Some name → TableEndsBy failed d d' c form way name before now end → UriEndsBy failed d d' c form way uri before now end
  uri_named name is ended = subst (λ (o : Option (List ℕ)). MatchOption o ((end ≡ Stopped (Refusal_Invalid BadName)) × (d' ≡ d) × Took before now []) (λ name. TableEndsBy failed d d' c form way name before now end)) (sym is) ended

  pub uri_unnamed : name_in uri ≡ None → (end ≡ Stopped (Refusal_Invalid BadName)) × (d' ≡ d) × Took before now [] → UriEndsBy failed d d' c form way uri before now end
  uri_unnamed none ended = subst (λ (o : Option (List ℕ)). MatchOption o ((end ≡ Stopped (Refusal_Invalid BadName)) × (d' ≡ d) × Took before now []) (λ name. TableEndsBy failed d d' c form way name before now end)) (sym none) ended

module _ (failed : Type 0) (c : Content) (form : Form) (way : Way) (d d' : Device) (later : IsLater d d') (keeps : KeepsCheckpoint d d') (before now : Option (List ℕ)) (e : Errors) (status : ℕ) where
  abbrev here : Point
  here = at d (start c)

  abbrev there : Point
  there = at d' (start c)

  abbrev fault : Type 0
  fault = Rose d.faults d'.faults

  -- what was printed, and how it ended
  module _ (Allowed : Point → Ran → Type 0) where
    ended_so : (text : List ℕ) (end : End) → Allowed here (record (ends end there) { text = text ++ []; refusals = told_at end }) → Printed before now end text → TellsEnd e end None status → Reading Allowed here d' before now e status
    ended_so text end run printed told = record {
      ran = record (ends end there) { text = text ++ []; refusals = told_at end };
      run = run;
      printed = subst (λ (l : List ℕ). Printed before now end l) (sym (append-nil text)) printed;
      told = told;
      silent = refl;
      none = refl;
      there = refl;
      same = refl;
    }

    -- before the disk was looked at
    ended_here : (end : End) → d' ≡ d → Allowed here (record (ends end here) { text = [] ++ []; refusals = told_at end }) → Took before now [] → TellsEnd e end None status → Reading Allowed here d' before now e status
    ended_here end same run took told = record {
      ran = record (ends end here) { text = [] ++ []; refusals = told_at end };
      run = run;
      printed = inl took;
      told = told;
      silent = refl;
      none = refl;
      there = sym same;
      same = refl;
    }

  module _ (name : List ℕ) where
    abbrev Dumped : Type 0
    Dumped = Reading (DumpsTable failed form way name) here d' before now e status

    by_rows : (t : Table) (end : End) → named name (tables (start c).history) ≡ Some t → RowsEndBy failed fault c t form way name before now end → TellsEnd e end None status → Dumped
    by_rows t Through is (rows, are, took) told =
        let text = text_of (dump_lines form name t.formats rows) in
        ended_so (DumpsTable failed form way name) text Through (inr (t, rows, is, are, (there, later, keeps, refl, inl refl))) (inl took) told
    by_rows t OutputFailed is (rows, are, (front, why)) told =
        let text = text_of (dump_lines form name t.formats rows) in
        ended_so (DumpsTable failed form way name) text OutputFailed (inr (t, rows, is, are, (there, later, keeps, refl, inr (inl (refl, why))))) (inr (front, refl)) told
    by_rows t (Stopped r) is (rows, are, (inl short, (front, rest, all, took))) told =
        ended_so (DumpsTable failed form way name) front (Stopped r)
        (inr (t, rows, is, are, (there, later, keeps, refl, inr (inr (front, rest, all, inl (ap (λ (x : Refusal). prints front (stops x there)) short)))))) (inl took) told
    by_rows t (Stopped r) is (rows, are, (inr (fault_is, why), (front, rest, all, took))) told =
        ended_so (DumpsTable failed form way name) front (Stopped r)
        (inr (t, rows, is, are, (there, later, keeps, refl, inr (inr (front, rest, all, inr (ap (λ (x : Refusal). prints front (stops x there)) fault_is, why)))))) (inl took) told
    by_rows t InputFailed is (rows, are, none) told = absurd none

    by_table : (end : End) → TableEndsBy failed d d' c form way name before now end → TellsEnd e end None status → Dumped
    by_table end (inl (none, is, still, took)) told = ended_here (DumpsTable failed form way name) (Stopped NoTable) still (inl (none, refl)) took (subst (λ (x : End). TellsEnd e x None status) is told)
    by_table end (inr (t, is, rows)) told = by_rows t end is rows told

  pub dumped : (uri : List ℕ) (end : End) → UriEndsBy failed d d' c form way uri before now end → TellsEnd e end None status → Reading (Named uri (DumpsTable failed form way)) here d' before now e status
  dumped uri end ended told = by_name (name_in uri) ended
    where
      by_name : (o : Option (List ℕ)) → MatchOption o ((end ≡ Stopped (Refusal_Invalid BadName)) × (d' ≡ d) × Took before now []) (λ name. TableEndsBy failed d d' c form way name before now end)
          → Reading (λ p ran. MatchOption o (ran ≡ stops (Refusal_Invalid BadName) p) (λ name. DumpsTable failed form way name p ran)) here d' before now e status
      by_name None (is, still, took) =
          ended_here (λ p ran. ran ≡ stops (Refusal_Invalid BadName) p) (Stopped (Refusal_Invalid BadName)) still refl took (subst (λ (x : End). TellsEnd e x None status) is told)
      by_name (Some name) ended = by_table name end ended told

  -- up to a leaf that is at fault
  pub dumped_up_to : (bytes uri : List ℕ) (end : End) → Opens here there → UriLacksLeaf bytes c form way uri before now end → TellsEnd e end None status → Reading (RunsDumpOn failed bytes form way uri) here d' before now e status
  dumped_up_to bytes uri end opens (name, is_name, lacks) told =
      let run : StopsAtLeaf bytes form way name here (record (ends (Stopped (Corrupt lacks.at lacks.want lacks.found)) there) { text = lacks.front ++ []; refusals = Corrupt lacks.at lacks.want lacks.found ∷ [] }) = record {
        on = lacks.on;
        index = lacks.index;
        at = lacks.at;
        want = lacks.want;
        found = lacks.found;
        leaf = lacks.leaf;
        is_named = lacks.is_named;
        rows = lacks.rows;
        others = lacks.others;
        all = lacks.all;
        under = lacks.under;
        front = lacks.front;
        rest = lacks.rest;
        text = lacks.text;
        next = there;
        opens = opens;
        is = refl;
      } in
      ended_so (RunsDumpOn failed bytes form way uri) lacks.front (Stopped (Corrupt lacks.at lacks.want lacks.found))
      (named_goes uri (DumpsTableOn failed bytes form way) name is_name here (record (ends (Stopped (Corrupt lacks.at lacks.want lacks.found)) there) { text = lacks.front ++ []; refusals = Corrupt lacks.at lacks.want lacks.found ∷ [] }) (inr run))
      (inl lacks.took) (subst (λ (x : End). TellsEnd e x None status) lacks.is told)

-- one of both
pub dumped_on : (failed : Type 0) (c : Content) (form : Form) (way : Way) (d d' : Device) → IsLater d d' → KeepsCheckpoint d d' → Opens (at d (start c)) (at d' (start c)) → (before now : Option (List ℕ)) (e : Errors) (status : ℕ) (bytes uri : List ℕ) (end : End) → UriEndsBy failed d d' c form way uri before now end ⊎ UriLacksLeaf bytes c form way uri before now end → TellsEnd e end None status
    → Reading (RunsDumpOn failed bytes form way uri) (at d (start c)) d' before now e status
dumped_on failed c form way d d' later keeps opens before now e status bytes uri end (inl ended) told =
    reading_as (Named uri (DumpsTable failed form way)) (RunsDumpOn failed bytes form way uri) (at d (start c)) d' before now e status
    (λ ran named. named_as uri (DumpsTable failed form way) (DumpsTableOn failed bytes form way) (at d (start c)) ran (λ name goes. inl goes) named)
    (dumped failed c form way d d' later keeps before now e status uri end ended told)
dumped_on failed c form way d d' later keeps opens before now e status bytes uri end (inr lacks) told = dumped_up_to failed c form way d d' later keeps before now e status bytes uri end opens lacks told

-- ---- whatever the disk

leaves_so : (asked : Asked) (honest : Type 0) (before now : List ℕ) (r : Refusal) → IsByReader asked → IsSoOfLeaves honest before r → IsSoFor asked honest before now r
leaves_so asked honest before now (Corrupt at want found) by so = λ h. inr (inr (reader_leaf asked before now at want found by (so h)))
leaves_so asked honest before now _ by so = tt

-- of a command that reads leaf by leaf
pub told_leaves : (asked : Asked) (honest : Type 0) (before now : List ℕ) (e : Errors) (status : ℕ) → IsByReader asked → Telling (IsSoOfLeaves honest before) e status → Telling (IsSoFor asked honest before now) e status
told_leaves asked honest before now e status by t = record { refusals = t.refusals; each = each t.refusals t.each; replies = t.replies; end = t.end; told = t.told }
  where
    each : (met : List Refusal) → AllByRecursion (IsSoOfLeaves honest before) met → AllByRecursion (IsSoFor asked honest before now) met
    each [] so = tt
    each (r ∷ met) so = (leaves_so asked honest before now r by so.0, each met so.1)

-- the same, seen from further back
pub leaves_further : {D : Type 0} (g : Ghosts D) (old mid : D) (e : Errors) (status : ℕ) → Looked g old mid → Telling (IsSoOfLeaves (IsTrue (g.honest mid)) (g.seen mid)) e status → Telling (IsSoOfLeaves (IsTrue (g.honest old)) (g.seen old)) e status
leaves_further g old mid e status looked t = record { refusals = t.refusals; each = each t.refusals t.each; replies = t.replies; end = t.end; told = t.told }
  where
    each : (met : List Refusal) → AllByRecursion (IsSoOfLeaves (IsTrue (g.honest mid)) (g.seen mid)) met → AllByRecursion (IsSoOfLeaves (IsTrue (g.honest old)) (g.seen old)) met
    each [] so = tt
    each (r ∷ met) so = (so_further g old mid r looked so.0, each met so.1)

-- a refusal that tells of no damage
no_damage_of_leaves : (honest : Type 0) (bytes : List ℕ) (r : Refusal) → NoDamage r → IsSoOfLeaves honest bytes r
no_damage_of_leaves honest bytes (Corrupt at want found) none = absurd none
no_damage_of_leaves honest bytes _ none = tt

pub told_undamaged : (honest : Type 0) (bytes : List ℕ) (e : Errors) (status : ℕ) → Telling NoDamage e status → Telling (IsSoOfLeaves honest bytes) e status
told_undamaged honest bytes e status t = record { refusals = t.refusals; each = each t.refusals t.each; replies = t.replies; end = t.end; told = t.told }
  where
    each : (met : List Refusal) → AllByRecursion NoDamage met → AllByRecursion (IsSoOfLeaves honest bytes) met
    each [] none = tt
    each (r ∷ met) none = (no_damage_of_leaves honest bytes r none.0, each met none.1)

module _ (failed disk honest : Type 0) (bytes : List ℕ) where
  pub dump_tells : (e : Errors) (end : End) (status : ℕ) → EndsSoundly failed disk honest bytes end → TellsEnd e end None status → Telling (IsSoOfLeaves honest bytes) e status
  dump_tells e end status sound told = record { refusals = told_at end; each = each end sound; replies = []; end = end; told = told }
    where
      each : (end : End) → EndsSoundly failed disk honest bytes end → AllByRecursion (IsSoOfLeaves honest bytes) (told_at end)
      each Through sound = tt
      each (Stopped r) sound = (sound.0, tt)
      each InputFailed sound = absurd sound
      each OutputFailed sound = tt

  -- what a status says
  pub record SaysOf (status : ℕ) : Type 0 where
    pub is : IsReadStatus status
    pub of_disk : status ≡ 4 → disk
    pub of_output : status ≡ 6 → failed

  stopped_says : (r : Refusal) (status : ℕ) → status ≡ status_of r → (r ≡ DiskFault → disk) → SaysOf status
  stopped_says DiskFault status is why = record { is = inr (inr (inl is)); of_disk = λ four. why refl; of_output = λ six. absurd (omega (arith, is, six)) }
  stopped_says NoMemory status is why = record { is = inr (inr (inr (inr is))); of_disk = λ four. absurd (omega (arith, is, four)); of_output = λ six. absurd (omega (arith, is, six)) }
  stopped_says _ status is why = record { is = inr (inl is); of_disk = λ four. absurd (omega (arith, is, four)); of_output = λ six. absurd (omega (arith, is, six)) }

  pub dump_says : (e : Errors) (end : End) (status : ℕ) → EndsSoundly failed disk honest bytes end → TellsEnd e end None status → SaysOf status
  dump_says e end status sound (inr (cut, is)) = record { is = inr (inr (inr (inr is))); of_disk = λ four. absurd (omega (arith, is, four)); of_output = λ six. absurd (omega (arith, is, six)) }
  dump_says e Through status sound (inl (told, is)) = record { is = inl is; of_disk = λ four. absurd (omega (arith, is, four)); of_output = λ six. absurd (omega (arith, is, six)) }
  dump_says e OutputFailed status sound (inl (told, is)) = record { is = inr (inr (inr (inl is))); of_disk = λ four. absurd (omega (arith, is, four)); of_output = λ six. sound }
  dump_says e InputFailed status sound (inl (told, is)) = absurd sound
  dump_says e (Stopped r) status sound (inl (told, is)) = stopped_says r status is sound.1
