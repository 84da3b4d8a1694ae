-- What is known of a text that was read line by line.
use Rattle.std.proofs.Common.{◌≡◌, ◌∙◌, ◌++◌, ◌+◌, ◌<◌, ◌-◌, ◌^◌, ◌⊎◌, ℕ, List, [], ◌∷◌, Option, Some, None, length, inl, inr, refl, sym, ap, subst, arith, append_assoc, min, Bool, true, false}
use Rattle.std.specs.Prelude.{◌==◌, if◌then◌else◌, Result, Ok, Err, IfOk, IfErr, OnOk, not}
use Rattle.std.proofs.lemmas.Bool.{eqb-true, false≢true}
use Rattle.std.proofs.lemmas.List.{append-nil, length_push}
use Rattle.std.proofs.lemmas.Option.{same_Some}
use Rattle.item.specs.declared.formats.Formats.{Formats}
use Rattle.wt_code.specs.declared.refusals.Refusal.{Refusal}
use Rattle.wt_code.specs.declared.refusals.Refusal.TheVariants.{NoMemory, Invalid}
use Rattle.wt_code.specs.declared.refusals.Invalid.TheVariants.{Text}
use Rattle.dump_text.specs.Cuts.{before_lines, lines_in}
use Rattle.dump_text.specs.Grammar.{AreRows, IsDump, Row}
use Rattle.dump_text.specs.Items.{WritesItem, item_on}
use Rattle.dump_text.specs.Lines.{MayEnd, Reads, ReadsNone, Takes, TakesNone, number_behind, refusal_of_next}
use Rattle.dump_text.specs.RowLines.{AreRowLines, HasItem, item_at, rows_in}
use Rattle.dump_text.specs.Runs.{HasRead, rows_of, table_of}
use Rattle.dump_text.specs.Texts.{GoesOn, IsDumped, IsRefused}
use Rattle.dump_text.specs.Wholes.{HasTaken, IsCutOff, IsFound, IsFoundIn, IsHead, IsKept, IsNext, IsRowAnswer, IsRowNext, IsStop, format_next, reader_at}
use Rattle.dump_text.specs.declared.form.Form.{Form}
use Rattle.dump_text.specs.declared.reader.DumpReader.{DumpReader}
use Rattle.dump_text.specs.declared.reader.Next.{Next}
use Rattle.dump_text.specs.declared.reader.Next.TheVariants as next
use Rattle.dump_text.specs.declared.reader.Step.{Step}
use Rattle.dump_text.specs.declared.reader.Step.TheVariants as step
use Rattle.dump_text.specs.declared.reader.Table.{Table}
use Rattle.dump_text.specs.declared.whole.Dumped.{Dumped}
use Rattle.dump_text.specs.declared.whole.Found.{Found}
use Rattle.dump_text.specs.declared.whole.Reading.{Reading}
use Rattle.dump_text.proofs.DumpRuns.{dump-read, dump-sound, line-more, rows-sound, run-on, wrong-line}
use Rattle.dump_text.proofs.FinishedDumps.{lines-go-on}
use Rattle.dump_text.proofs.TextLines.{rows_behind, table_behind, table_first}

-- ---- before the rows, and among them

-- a line before the rows says nothing, or tells the table
abbrev pub IsHeadStep : Next → Step → Type 0
IsHeadStep to said = ((said ≡ step.More) × IsHead to) ⊎ ((table : Table) × (form : Form) × (said ≡ step.Table table) × (to ≡ next.Key form table.formats))

head_step : (at : Next) (line : List ℕ) (to : Next) (said : Step) → IsHead at → Takes at line to said → IsHeadStep to said
head_step next.Title line to said is p = inl (p.2, subst IsHead (sym p.1) tt)
head_step next.Form line to said is p = inl (p.3, subst IsHead (sym p.2) tt)
head_step (next.Header form) line to said is p = inl (p.2, subst IsHead (sym p.1) tt)
head_step (next.Pair form (Some table)) line to said is (inl p) = inr (table, form, p.2, p.1)
head_step (next.Pair form (Some table)) line to said is (inr p) = inl (p.2, subst IsHead (sym p.1) tt)
head_step (next.Pair form None) line to said is (inl p) = inl (p.3, subst IsHead (sym p.2) tt)
head_step (next.Pair form None) line to said is (inr p) = inl (p.3, subst IsHead (sym p.2) tt)
head_step (next.Skipped form found) line to said is p = inl (p.1, subst IsHead (sym p.0) tt)
head_step (next.Config form name) line to said is p = inl (p.3, subst IsHead (sym p.2) tt)
head_step (next.Key form formats) line to said is p = absurd is
head_step (next.Value form formats key) line to said is p = absurd is
head_step next.Over line to said is p = absurd p

head_no_end : (at : Next) → IsHead at → MayEnd at → ⊥
head_no_end next.Title is end = end
head_no_end next.Form is end = end
head_no_end (next.Header form) is end = end
head_no_end (next.Pair form found) is end = end
head_no_end (next.Skipped form found) is end = end
head_no_end (next.Config form name) is end = end
head_no_end (next.Key form formats) is end = is
head_no_end (next.Value form formats key) is end = end
head_no_end next.Over is end = end

-- a line that writes the item that is next is taken
abbrev RowTaken : Bool → Found → Next → List ℕ → Type 0
RowTaken at_value f at line = (to : Next) × (said : Step) × Takes at line to said × IsRowNext (not at_value) f to × ((table : Table) → said ≡ step.Table table → ⊥)

row_taken : (at_value : Bool) (f : Found) (at : Next) (line : List ℕ) → IsRowNext at_value f at → WritesItem f.form (format_next at_value f.table.formats) line → RowTaken at_value f at line
row_taken true f at line is writes = (
  next.Key f.form f.table.formats,
  step.Row is.0 writes.0,
  subst (λ (n : Next). Takes n line (next.Key f.form f.table.formats) (step.Row is.0 writes.0)) (sym is.1) (writes.0, writes.1, refl, refl),
  refl,
  λ table e. cc (e),
)
row_taken false f at line is writes = (
  next.Value f.form f.table.formats writes.0,
  step.Key,
  subst (λ (n : Next). Takes n line (next.Value f.form f.table.formats writes.0) step.Key) (sym is) (writes.0, writes.1, refl, refl),
  (writes.0, refl),
  λ table e. cc (e),
)

-- and no other line is
row_refused : (at_value : Bool) (f : Found) (at : Next) (line : List ℕ) → IsRowNext at_value f at → (WritesItem f.form (format_next at_value f.table.formats) line → ⊥) → TakesNone at line
row_refused true f at line is none to said takes = let t = subst (λ (n : Next). Takes n line to said) is.1 takes in none (t.0, t.1)
row_refused false f at line is none to said takes = let t = subst (λ (n : Next). Takes n line to said) is takes in none (t.0, t.1)

-- ---- the rows

item_is : (form : Form) (line item : List ℕ) → item_on form line ≡ Some item → item_at form line ≡ item
item_is form line item is = rw is refl

has_item : (form : Form) (line item : List ℕ) → item_on form line ≡ Some item → HasItem form line
has_item form line item is = is ∙ ap (λ (x : List ℕ). Some x) (sym (item_is form line item is))

are_row_lines : (form : Form) (formats : Formats) (rows : List Row) (lines : List (List ℕ)) → AreRows form formats rows lines → AreRowLines form lines
are_row_lines form formats [] lines are = subst (AreRowLines form) (sym are) tt
are_row_lines form formats (row ∷ rows) lines are =
    subst (AreRowLines form) (sym are.5) (has_item form are.0 row.0 are.3.0, has_item form are.1 row.1 are.4.0, are_row_lines form formats rows are.2 are.6)

rows_are : (form : Form) (formats : Formats) (rows : List Row) (lines : List (List ℕ)) → AreRows form formats rows lines → rows_in form lines ≡ rows
rows_are form formats [] lines are = ap (rows_in form) are
rows_are form formats (row ∷ rows) lines are =
    let key = item_is form are.0 row.0 are.3.0 in
    let value = item_is form are.1 row.1 are.4.0 in
    ap (rows_in form) are.5 ∙ (λ i. (key i, value i) ∷ rows_are form formats rows are.2 are.6 i)

-- ---- a line more

found_more : (found : Option Found) (lines : List (List ℕ)) (said : List Step) (last : Step) (line : List ℕ) (at to : Next) (left : List (List ℕ)) → ((table : Table) → last ≡ step.Table table → ⊥) → Takes at line to last → IsFound found said at (line ∷ left) → IsFound found (said ++ last ∷ []) to left
found_more None lines said last line at to left other takes is = by_step (head_step at line to last is.0 takes)
  where
    by_step : IsHeadStep to last → IsFound None (said ++ last ∷ []) to left
    by_step (inl p) = (
      p.1,
      table_first said last is.1 ∙ ap (λ (s : Step). table_of (s ∷ [])) p.0,
      rows_behind said last ∙ ap (λ (s : Step). rows_of said ++ rows_of (s ∷ [])) p.0 ∙ append-nil (rows_of said) ∙ is.2,
    )
    by_step (inr p) = absurd (other p.0 p.2)
found_more (Some f) lines said last line at to left other takes is = record {
  since = is.since ++ line ∷ [];
  told = is.told ++ last ∷ [];
  lines = is.lines ∙ sym (append_assoc is.since (line ∷ []) left);
  ran = run-on is.since line (next.Key f.form f.table.formats) at to is.told last is.ran takes;
  table = table_behind said last f.table is.table;
  rows = rows_behind said last ∙ ap (λ (l : List Row). l ++ rows_of (last ∷ [])) is.rows ∙ sym (rows_behind is.told last);
}

-- the table is told
found_table : (said : List Step) (f : Found) (at to : Next) (left : List (List ℕ)) → lines_in f.rows.now ≡ left → to ≡ next.Key f.form f.table.formats → IsFound None said at (left) → IsFoundIn f (said ++ step.Table f.table ∷ []) to left
found_table said f at to left behind told is = record {
  since = [];
  told = [];
  lines = behind;
  ran = (told, refl);
  table = table_first said (step.Table f.table) is.1;
  rows = rows_behind said (step.Table f.table) ∙ append-nil (rows_of said) ∙ is.2;
}

-- ---- the ends

count_is : (n k : ℕ) → n < 2 ^ 63 → k ≡ min n (2 ^ 64 - 1) → number_behind k ≡ n + 1
count_is n k less is = omega (arith, is)

pub refused_is : (lines : List (List ℕ)) (reader : DumpReader) (said : List Step) → length lines < 2 ^ 63 → HasRead lines reader said → number_behind reader.lines ≡ length lines + 1
refused_is lines reader said less read = count_is (length lines) reader.lines less read.counted

-- a line is not taken
pub stop_is : (lines left : List (List ℕ)) (line : List ℕ) (r : Reading) (refusal : Refusal) → length lines < 2 ^ 63 → (t : HasTaken lines left r) → (refusal ≡ NoMemory) ⊎ ((refusal ≡ refusal_of_next r.reader) × TakesNone t.at line) → IsStop lines line refusal
stop_is lines left line r refusal less t (inl short) = inl short
stop_is lines left line r refusal less t (inr (is, none)) = inr (
  is ∙ ap (λ (n : ℕ). Invalid (Text n)) (refused_is lines (reader_at r.reader.lines t.at) t.said less t.read),
  lines-go-on lines (reader_at r.reader.lines t.at) t.said t.read,
  λ on. wrong-line lines on.0 line (reader_at r.reader.lines t.at) t.said on.1 t.read none (subst (IsDump on.1) (append_assoc lines (line ∷ []) on.0) on.2),
)

-- it is taken, and the table is what it was
taken_more : (lines left : List (List ℕ)) (line : List ℕ) (old new : Reading) (to : Next) (last : Step) → ((table : Table) → last ≡ step.Table table → ⊥) → (t : HasTaken lines (line ∷ left) old) → Takes t.at line to last
    → new.reader.lines ≡ number_behind old.reader.lines → new.found ≡ old.found → IsNext new.found new.at_value new.reader.next to → HasTaken (lines ++ line ∷ []) left new
taken_more lines left line old new to last other t takes counted same stands = record {
  said = t.said ++ last ∷ [];
  at = to;
  read = line-more lines line (reader_at old.reader.lines t.at) (reader_at new.reader.lines to) t.said last t.read (takes, counted);
  found = subst (λ (o : Option Found). IsFound o (t.said ++ last ∷ []) to left) (sym same) (found_more old.found lines t.said last line t.at to left other takes t.found);
  stands = stands;
}

-- a line of a row is taken
pub taken_row : (lines left : List (List ℕ)) (line : List ℕ) (old new : Reading) (answer : Option Bool) → answer ≡ Some true → IsRowAnswer old.found old.at_value line answer
    → new.reader.lines ≡ number_behind old.reader.lines → new.found ≡ old.found → new.at_value ≡ not old.at_value → HasTaken lines (line ∷ left) old → HasTaken (lines ++ line ∷ []) left new
taken_row lines left line old new answer so row counted same turned t = by_found old.found refl row
  where
    by_found : (o : Option Found) → old.found ≡ o → IsRowAnswer o old.at_value line answer → HasTaken (lines ++ line ∷ []) left new
    by_found None e none = absurd (let e = sym so ∙ none in cc (e))
    by_found (Some f) e row =
        let is : row.0 ≡ true = same_Some row.0 true (sym row.1 ∙ so) in
        let stands : IsRowNext old.at_value f t.at = subst (λ (o : Option Found). IsNext o old.at_value old.reader.next t.at) e t.stands in
        let more = row_taken old.at_value f t.at line stands (row.2.0 is) in
        taken_more lines left line old new more.0 more.1 more.4 t more.2 counted same
        (subst (λ (o : Option Found). IsNext o new.at_value new.reader.next more.0) (sym (same ∙ e)) (subst (λ (b : Bool). IsRowNext b f more.0) (sym turned) more.3))

-- or it is not
pub row_none : (lines left : List (List ℕ)) (line : List ℕ) (r : Reading) (answer : Option Bool) → answer ≡ Some false → IsRowAnswer r.found r.at_value line answer → (t : HasTaken lines left r) → TakesNone t.at line
row_none lines left line r answer so row t = by_found r.found refl row
  where
    by_found : (o : Option Found) → r.found ≡ o → IsRowAnswer o r.at_value line answer → TakesNone t.at line
    by_found None e none = absurd (let e = sym so ∙ none in cc (e))
    by_found (Some f) e row =
        let is : row.0 ≡ false = same_Some row.0 false (sym row.1 ∙ so) in
        let stands : IsRowNext r.at_value f t.at = subst (λ (o : Option Found). IsNext o r.at_value r.reader.next t.at) e t.stands in
        row_refused r.at_value f t.at line stands (λ writes. false≢true (sym is ∙ row.2.1 writes))

pub is_none : (found : Option Found) → ((f : Found) → found ≡ Some f → ⊥) → found ≡ None
is_none None other = refl
is_none (Some f) other = absurd (other f refl)

-- the rows have not come
pub no_rows : (found : Option Found) (at_value : Bool) (line : List ℕ) (answer : Option Bool) → answer ≡ None → IsRowAnswer found at_value line answer → found ≡ None
no_rows None at_value line answer none row = refl
no_rows (Some f) at_value line answer none row = absurd (let some = sym none ∙ row.1 in cc (some))

pub head_next : (lines left : List (List ℕ)) (r : Reading) → r.found ≡ None → (t : HasTaken lines left r) → (t.at ≡ r.reader.next) × (r.at_value ≡ false)
head_next lines left r none t = subst (λ (o : Option Found). IsNext o r.at_value r.reader.next t.at) none t.stands

pub head_none : (lines left : List (List ℕ)) (line : List ℕ) (r : Reading) → r.found ≡ None → (t : HasTaken lines left r) → ReadsNone r.reader line → TakesNone t.at line
head_none lines left line r none t refused = subst (λ (n : Next). TakesNone n line) (sym (head_next lines left r none t).0) refused

-- what a line before the rows told is kept
module _ (lines : List (List ℕ)) (line behind : List ℕ) (old mid new : Reading) (none : old.found ≡ None) (same : mid.found ≡ old.found) (also : mid.at_value ≡ old.at_value) (t : HasTaken lines (line ∷ lines_in behind) old) where
  takes_there : (last : Step) → Reads old.reader line mid.reader last → Takes t.at line mid.reader.next last
  takes_there last reads = subst (λ (n : Next). Takes n line mid.reader.next last) (sym (head_next lines (line ∷ lines_in behind) old none t).0) reads.0

  no_table : (last : Step) → ((table : Table) → last ≡ step.Table table → ⊥) → Reads old.reader line mid.reader last → new ≡ mid → HasTaken (lines ++ line ∷ []) (lines_in behind) new
  no_table last other reads kept =
      subst (HasTaken (lines ++ line ∷ []) (lines_in behind)) (sym kept)
      (taken_more lines (lines_in behind) line old mid mid.reader.next last other t (takes_there last reads) reads.1 same
      (subst (λ (o : Option Found). IsNext o mid.at_value mid.reader.next mid.reader.next) (sym (same ∙ none)) (refl, also ∙ (head_next lines (line ∷ lines_in behind) old none t).1)))

  is_before : IsFound None t.said t.at (line ∷ lines_in behind)
  is_before = subst (λ (o : Option Found). IsFound o t.said t.at (line ∷ lines_in behind)) none t.found

  told : (table : Table) → Reads old.reader line mid.reader (step.Table table) → IsKept (step.Table table) behind mid new → HasTaken (lines ++ line ∷ []) (lines_in behind) new
  told table reads kept = by_step (head_step t.at line mid.reader.next (step.Table table) is_before.0 (takes_there (step.Table table) reads))
    where
      by_step : IsHeadStep mid.reader.next (step.Table table) → HasTaken (lines ++ line ∷ []) (lines_in behind) new
      by_step (inl p) = absurd (let e = p.0 in cc (e))
      by_step (inr p) =
          let one : table ≡ p.0 = same_table table p.0 p.2 in
          let k = kept p.1 p.0.formats p.3 in
          let f : Found = k.0 in
          let to : mid.reader.next ≡ next.Key f.form f.table.formats = p.3 ∙ (λ i. next.Key (sym k.1 i) (sym (k.2 ∙ one) i).formats) in
          record {
            said = t.said ++ step.Table f.table ∷ [];
            at = mid.reader.next;
            read = line-more lines line (reader_at old.reader.lines t.at) (reader_at new.reader.lines mid.reader.next) t.said (step.Table f.table) t.read
                (subst (λ (x : Table). Takes t.at line mid.reader.next (step.Table x)) (sym k.2) (takes_there (step.Table table) reads), ap (λ (x : DumpReader). x.lines) k.4 ∙ reads.1);
            found = subst (λ (o : Option Found). IsFound o (t.said ++ step.Table f.table ∷ []) mid.reader.next (lines_in behind)) (sym k.5)
                (found_table t.said f t.at mid.reader.next (lines_in behind) (ap lines_in k.3) to is_before);
            stands = subst (λ (o : Option Found). IsNext o new.at_value new.reader.next mid.reader.next) (sym k.5)
                (subst (λ (b : Bool). IsRowNext b f mid.reader.next) (sym (k.6 ∙ also ∙ (head_next lines (line ∷ lines_in behind) old none t).1)) to);
          }
        where
          same_table : (a b : Table) → step.Table a ≡ step.Table b → a ≡ b
          same_table a b e = cc

  pub taken_kept : (last : Step) → Reads old.reader line mid.reader last → IsKept last behind mid new → HasTaken (lines ++ line ∷ []) (lines_in behind) new
  taken_kept (step.Table table) reads kept = told table reads kept
  taken_kept step.More reads kept = no_table step.More (λ table e. cc (e)) reads kept
  taken_kept step.Key reads kept = no_table step.Key (λ table e. cc (e)) reads kept
  taken_kept (step.Row key value) reads kept = no_table (step.Row key value) (λ table e. cc (e)) reads kept

-- nothing is left, and it is no end
pub cut_off : (lines : List (List ℕ)) (r : Reading) → length lines < 2 ^ 63 → (t : HasTaken lines [] r) → (MayEnd t.at → ⊥) → IsCutOff lines (Invalid (Text (number_behind r.reader.lines)))
cut_off lines r less t none = (
  ap (λ (n : ℕ). Invalid (Text n)) (refused_is lines (reader_at r.reader.lines t.at) t.said less t.read),
  lines-go-on lines (reader_at r.reader.lines t.at) t.said t.read,
  λ dump is. none (dump-read dump lines t.at t.said is t.read.ran).0,
)

pub no_table_no_end : (lines : List (List ℕ)) (r : Reading) → r.found ≡ None → (t : HasTaken lines [] r) → MayEnd t.at → ⊥
no_table_no_end lines r none t end = head_no_end t.at (subst (λ (o : Option Found). IsFound o t.said t.at []) none t.found).0 end

pub no_value_no_end : (lines : List (List ℕ)) (r : Reading) → r.at_value ≡ true → (t : HasTaken lines [] r) → MayEnd t.at → ⊥
no_value_no_end lines r is t end = by_found r.found (subst (λ (b : Bool). IsNext r.found b r.reader.next t.at) is t.stands)
  where
    by_found : (o : Option Found) → IsNext o true r.reader.next t.at → ⊥
    by_found None stands = false≢true (sym stands.1)
    by_found (Some f) stands = subst MayEnd stands.1 end

pub no_key_no_end : (at : Next) → ((form : Form) (formats : Formats) → at ≡ next.Key form formats → ⊥) → MayEnd at → ⊥
no_key_no_end (next.Key form formats) other end = other form formats refl
no_key_no_end next.Title other end = end
no_key_no_end next.Form other end = end
no_key_no_end (next.Header form) other end = end
no_key_no_end (next.Pair form found) other end = end
no_key_no_end (next.Skipped form found) other end = end
no_key_no_end (next.Config form name) other end = end
no_key_no_end (next.Value form formats key) other end = end
no_key_no_end next.Over other end = end

-- all was read, and it is a dump
module _ (lines : List (List ℕ)) (r : Reading) (f : Found) (found : r.found ≡ Some f) (at_key : r.at_value ≡ false) (t : HasTaken lines [] r) where
  there : IsFoundIn f t.said t.at []
  there = subst (λ (o : Option Found). IsFound o t.said t.at []) found t.found

  at : t.at ≡ next.Key f.form f.table.formats
  at = subst (λ (b : Bool). IsRowNext b f t.at) at_key (subst (λ (o : Option Found). IsNext o r.at_value r.reader.next t.at) found t.stands)

  ends : MayEnd t.at
  ends = subst MayEnd (sym at) tt

  rows_read : (rows : List Row) × AreRows f.form f.table.formats rows there.since × (rows_of there.told ≡ rows) × (table_of there.told ≡ None)
  rows_read = rows-sound f.form f.table.formats there.since t.at there.told there.ran ends

  rows_behind_table : AreRows f.form f.table.formats rows_read.0 (lines_in f.rows.now)
  rows_behind_table = subst (AreRows f.form f.table.formats rows_read.0) (sym (there.lines ∙ append-nil there.since)) rows_read.1

  pub all_row_lines : AreRowLines f.form (lines_in f.rows.now)
  all_row_lines = are_row_lines f.form f.table.formats rows_read.0 (lines_in f.rows.now) rows_behind_table

  pub all_dumped : (d : Dumped) → d.table ≡ f.table → d.rows ≡ rows_in f.form (lines_in f.rows.now) → IsDumped lines d
  all_dumped d table rows =
      let s = dump-sound lines t.at t.said t.read.ran ends in
      record {
        dump = s.0;
        is = s.1;
        table = table ∙ same_Some f.table (record { name = s.0.name; formats = s.0.formats }) (sym there.table ∙ s.2.table);
        rows = rows ∙ rows_are f.form f.table.formats rows_read.0 (lines_in f.rows.now) rows_behind_table ∙ sym rows_read.2 ∙ sym there.rows ∙ s.2.rows;
      }

-- ---- a text

pub refused_stop : (ended : Bool) (text : List ℕ) (front rest : List (List ℕ)) (line : List ℕ) (r : Refusal) → lines_in text ≡ front ++ line ∷ rest → IsStop front line r → IsRefused ended text r
refused_stop ended text front rest line r is (inl short) = inl short
refused_stop true text front rest line r is (inr (same, on, wrong)) = inr (length front + 1, same, (front, line ∷ rest, is, refl, on, wrong))
refused_stop false text front rest line r is (inr (same, on, wrong)) = inr (length front + 1, same, (front, rest, line, is, refl, on, inr wrong))

refused_end : (text : List ℕ) (r : Refusal) → IsCutOff (lines_in text) r → IsRefused true text r
refused_end text r (same, on, wrong) = inr (length (lines_in text) + 1, same, (lines_in text, [], sym (append-nil (lines_in text)), refl, on, wrong))

-- a list is empty, or has a last one
abbrev HasLast : {A : Type 0} → List A → Type 0
HasLast {A} l = (l ≡ []) ⊎ ((front : List A) × (last : A) × (l ≡ front ++ last ∷ []))

has_last : {A : Type 0} (l : List A) → HasLast l
has_last [] = inl refl
has_last {A} (x ∷ l) = by_rest (has_last l)
  where
    by_rest : HasLast l → HasLast (x ∷ l)
    by_rest (inl none) = inr ([], x, ap (λ (k : List A). x ∷ k) none)
    by_rest (inr (front, last, is)) = inr (x ∷ front, last, ap (λ (k : List A). x ∷ k) is)

-- lines that go on do so before their last
goes_before : (front : List (List ℕ)) (line : List ℕ) → GoesOn (front ++ line ∷ []) → GoesOn front
goes_before front line (more, dump, is) = (line ∷ more, dump, subst (IsDump dump) (append_assoc front (line ∷ []) more) is)

some_line : (text : List ℕ) → 0 < length text → lines_in text ≡ [] → ⊥
some_line [] some none = omega (arith, some)
some_line (b ∷ text) some none = by_test (b == 10) (lines_in text) none
  where
    by_test : (newline : Bool) (lines : List (List ℕ)) → (if newline then [] ∷ lines else before_lines b lines) ≡ [] → ⊥
    by_test true lines e = cc (e)
    by_test false [] e = cc (e)
    by_test false (line ∷ lines) e = cc (e)

refused_over : (text : List ℕ) → 0 < length text → GoesOn (lines_in text) → IsRefused false text (Invalid (Text (length (lines_in text))))
refused_over text some on = by_last (has_last (lines_in text))
  where
    by_last : HasLast (lines_in text) → IsRefused false text (Invalid (Text (length (lines_in text))))
    by_last (inl none) = absurd (some_line text some none)
    by_last (inr (front, last, is)) = inr (length (lines_in text), refl, (front, [], last, is, ap (λ (l : List (List ℕ)). length l) is ∙ length_push front last, goes_before front last (subst GoesOn is on), inl refl))

-- ---- where a loop over the lines ends

pub rest_none : (rest : List ℕ) (empty : Bool) → empty ≡ true → empty ≡ (length rest == 0) → rest ≡ []
rest_none [] empty is tells = refl
rest_none (b ∷ rest) empty is tells = let no : length (b ∷ rest) ≡ 0 = eqb-true (length (b ∷ rest)) 0 (sym tells ∙ is) in absurd (omega (arith, no))

-- nothing is left of it
pub taken_all : (text rest : List ℕ) (front : List (List ℕ)) (r : Reading) → rest ≡ [] → lines_in text ≡ front ++ lines_in rest → HasTaken front (lines_in rest) r → (lines_in text ≡ front) × HasTaken front [] r
taken_all text rest front r none is t = (
  is ∙ ap (λ (l : List ℕ). front ++ lines_in l) none ∙ append-nil front,
  subst (λ (l : List ℕ). HasTaken front (lines_in l) r) none t,
)

pub dumped_all : (text : List ℕ) (front : List (List ℕ)) (result : Result Dumped Refusal) → lines_in text ≡ front → IfOk result (IsDumped front) → IfOk result (IsDumped (lines_in text))
dumped_all text front result is d = subst (λ (l : List (List ℕ)). IfOk result (IsDumped l)) (sym is) d

pub done_ended : (result : Result Dumped Refusal) (ended : Bool) → ended ≡ true → OnOk result (ended ≡ true)
done_ended (Ok d) ended is = is
done_ended (Err r) ended is = tt

pub refused_all : (text : List ℕ) (front : List (List ℕ)) (result : Result Dumped Refusal) (ended : Bool) → ended ≡ true → lines_in text ≡ front → IfErr result (IsCutOff front) → IfErr result (IsRefused ended text)
refused_all text front (Ok d) ended is same cut = tt
refused_all text front (Err r) ended is same cut =
    subst (λ (b : Bool). IsRefused b text r) (sym is) (refused_end text r (subst (λ (l : List (List ℕ)). IsCutOff l r) (sym same) cut))

pub refused_last : (text : List ℕ) (front : List (List ℕ)) (r : Reading) (ended : Bool) (count : ℕ) → ended ≡ false → 0 < length text → lines_in text ≡ front → count ≡ length front → HasTaken front [] r → IsRefused ended text (Invalid (Text count))
refused_last text front r ended count is some same counted t =
    subst (λ (b : Bool). IsRefused b text (Invalid (Text count))) (sym is)
    (subst (λ (n : ℕ). IsRefused false text (Invalid (Text n))) (ap (λ (l : List (List ℕ)). length l) same ∙ sym counted)
    (refused_over text some (subst GoesOn (sym same) (lines-go-on front (reader_at r.reader.lines t.at) t.said t.read))))
