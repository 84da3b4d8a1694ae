-- What a reader tells of lines is what the grammar says of them.
use Rattle.std.proofs.Common.{◌≡◌, ◌∙◌, ◌+◌, ℕ, List, [], ◌∷◌, ◌++◌, length, refl, sym, ap, subst, inl, inr, codes, arith}
use Rattle.std.specs.Prelude.{Option, Some, None, ◌-◌, ◌^◌, min, ◌==◌, false}
use Rattle.std.specs.List.{AllByRecursion}
use Rattle.std.proofs.lemmas.Bool.{eqb-false}
use Rattle.std.proofs.lemmas.List.{length_push}
use Rattle.std.proofs.lemmas.Option.{same_Some}
use Rattle.item.specs.declared.formats.Format.{Format}
use Rattle.item.specs.declared.formats.Formats.{Formats}
use Rattle.config_text.specs.Items.{NamesFormats, formats_of}
use Rattle.config_text.proofs.ReadItems.{one-list}
use Rattle.dump_text.specs.Items.{IsItemLine}
use Rattle.dump_text.specs.Written.{form_line}
use Rattle.dump_text.specs.Lines.{NamesTable, Takes, MayEnd, Reads, ReadsNone}
use Rattle.dump_text.specs.Grammar.{Row, Dump, Pair, pair_lines, IsBeforeData, Counts, AreRows, IsDump}
use Rattle.dump_text.specs.Runs.{Runs, HasRead, rows_of, table_of, Tells}
use Rattle.dump_text.specs.declared.form.Form.{Form}
use Rattle.dump_text.specs.declared.form.Form.TheVariants.{Print, Hex}
use Rattle.dump_text.specs.declared.reader.Table.{Table}
use Rattle.dump_text.specs.declared.reader.Step.{Step}
use Rattle.dump_text.specs.declared.reader.Step.TheVariants as step
use Rattle.dump_text.specs.declared.reader.Next.{Next}
use Rattle.dump_text.specs.declared.reader.Next.TheVariants as next
use Rattle.dump_text.specs.declared.reader.DumpReader.{DumpReader}

-- ---- a line is taken in one way

abbrev Same : Next → Step → Next → Step → Type 0
Same a s b t = (a ≡ b) × (s ≡ t)

one-form : (f g : Form) → form_line f ≡ form_line g → f ≡ g
one-form Print Print e = refl
one-form Print Hex e = absurd (cc (e))
one-form Hex Print e = absurd (cc (e))
one-form Hex Hex e = refl

apart : (x y : ℕ) (xs ys : List ℕ) → (x == y) ≡ false → x ∷ xs ≡ y ∷ ys → ⊥
apart x y xs ys other e = eqb-false x y other (head e) where
  head : x ∷ xs ≡ y ∷ ys → x ≡ y
  head e = cc

one-name : (line name other : List ℕ) → NamesTable name line → NamesTable other line → name ≡ other
one-name line name other (inl e) (inl f) = let s = sym e ∙ f in cc (s)
one-name line name other (inl e) (inr f) = absurd (apart 116 102 _ _ refl (sym e ∙ f))
one-name line name other (inr e) (inl f) = absurd (apart 102 116 _ _ refl (sym e ∙ f))
one-name line name other (inr e) (inr f) = let s = sym e ∙ f in cc (s)

one-formats : (line : List ℕ) (f g : Formats) → NamesFormats line f → NamesFormats line g → f ≡ g
one-formats line f g is also = let s = sym is.2 ∙ (ap formats_of (one-list is.1 also.0 also.1) ∙ also.2) in cc (s)

one-item : (form : Form) (format : Format) (line item other : List ℕ) → IsItemLine form format item line → IsItemLine form format other line → item ≡ other
one-item form format line item other is also = same_Some item other (sym is.0 ∙ also.0)

data-names-none : (line name : List ℕ) → line ≡ codes "Data" → NamesTable name line → ⊥
data-names-none line name is (inl e) = apart 68 116 _ _ refl (sym is ∙ e)
data-names-none line name is (inr e) = apart 68 102 _ _ refl (sym is ∙ e)

taken-one-way : (at : Next) (line : List ℕ) (a b : Next) (s t : Step) → Takes at line a s → Takes at line b t → Same a s b t
taken-one-way next.Title line a b s t p q = (p.1 ∙ sym q.1, p.2 ∙ sym q.2)
taken-one-way next.Form line a b s t p q = (p.2 ∙ (ap next.Header (one-form p.0 q.0 (sym p.1 ∙ q.1)) ∙ sym q.2), p.3 ∙ sym q.3)
taken-one-way (next.Header form) line a b s t p q = (p.1 ∙ sym q.1, p.2 ∙ sym q.2)
taken-one-way (next.Pair form (Some table)) line a b s t (inl p) (inl q) = (p.1 ∙ sym q.1, p.2 ∙ sym q.2)
taken-one-way (next.Pair form (Some table)) line a b s t (inl p) (inr q) = absurd (q.0 p.0)
taken-one-way (next.Pair form (Some table)) line a b s t (inr p) (inl q) = absurd (p.0 q.0)
taken-one-way (next.Pair form (Some table)) line a b s t (inr p) (inr q) = (p.1 ∙ sym q.1, p.2 ∙ sym q.2)
taken-one-way (next.Pair form None) line a b s t (inl p) (inl q) = (p.2 ∙ (ap (next.Config form) (one-name line p.0 q.0 p.1 q.1) ∙ sym q.2), p.3 ∙ sym q.3)
taken-one-way (next.Pair form None) line a b s t (inl p) (inr q) = absurd (q.1 p.0 p.1)
taken-one-way (next.Pair form None) line a b s t (inr p) (inl q) = absurd (p.1 q.0 q.1)
taken-one-way (next.Pair form None) line a b s t (inr p) (inr q) = (p.2 ∙ sym q.2, p.3 ∙ sym q.3)
taken-one-way (next.Skipped form found) line a b s t p q = (p.0 ∙ sym q.0, p.1 ∙ sym q.1)
taken-one-way (next.Config form name) line a b s t p q =
    (p.2 ∙ (ap (λ (f : Formats). next.Pair form (Some (record { name = name; formats = f }))) (one-formats line p.0 q.0 p.1 q.1) ∙ sym q.2), p.3 ∙ sym q.3)
taken-one-way (next.Key form formats) line a b s t p q = (p.2 ∙ (ap (next.Value form formats) (one-item form formats.key line p.0 q.0 p.1 q.1) ∙ sym q.2), p.3 ∙ sym q.3)
taken-one-way (next.Value form formats key) line a b s t p q = (p.2 ∙ sym q.2, p.3 ∙ (ap (step.Row key) (one-item form formats.value line p.0 q.0 p.1 q.1) ∙ sym q.3))
taken-one-way next.Over line a b s t p q = absurd p

pub run-one-way : (lines : List (List ℕ)) (at a b : Next) (s t : List Step) → Runs at lines a s → Runs at lines b t → (a ≡ b) × (s ≡ t)
run-one-way [] at a b s t p q = (p.0 ∙ sym q.0, p.1 ∙ sym q.1)
run-one-way (line ∷ lines) at a b s t p q =
    let here = taken-one-way at line p.0 q.0 p.1 q.1 p.3 q.3 in
    let more = run-one-way lines q.0 a b p.2 q.2 (subst (λ (n : Next). Runs n lines a p.2) here.0 p.4) q.4 in
    (more.0, p.5 ∙ (λ i. here.1 i ∷ more.1 i) ∙ sym q.5)

-- ---- what is read is a dump

pub rows-sound : (form : Form) (formats : Formats) (lines : List (List ℕ)) (to : Next) (said : List Step) → Runs (next.Key form formats) lines to said → MayEnd to
    → (rows : List Row) × AreRows form formats rows lines × (rows_of said ≡ rows) × (table_of said ≡ None)
rows-sound form formats [] to said ran end = ([], refl, ap rows_of ran.1, ap table_of ran.1)
rows-sound form formats (key ∷ []) to said ran end = absurd (subst MayEnd (ran.4.0 ∙ ran.3.2) end)
rows-sound form formats (key ∷ (value ∷ rest)) to said ran end =
    let first = ran.3 in
    let behind : Runs (next.Value form formats first.0) (value ∷ rest) to ran.2 = subst (λ (n : Next). Runs n (value ∷ rest) to ran.2) first.2 ran.4 in
    let second = behind.3 in
    let more = rows-sound form formats rest to behind.2 (subst (λ (n : Next). Runs n rest to behind.2) second.2 behind.4) end in
    let steps : said ≡ step.Key ∷ step.Row first.0 second.0 ∷ behind.2 = ran.5 ∙ (λ i. first.3 i ∷ behind.5 i) ∙ ap (λ (t : Step). step.Key ∷ t ∷ behind.2) second.3 in
    ((first.0, second.0) ∷ more.0, (key, value, rest, first.1, second.1, refl, more.1), ap rows_of steps ∙ ap (λ (l : List Row). (first.0, second.0) ∷ l) more.2, ap table_of steps ∙ more.3)

-- the pairs that are left, and the rows
abbrev Left : Form → Formats → List (List ℕ) → List Pair → List (List ℕ) → Next → List Step → List Step → Type 0
Left form formats lines pairs rows to said others = (lines ≡ pair_lines pairs ++ codes "Data" ∷ rows) × Runs (next.Key form formats) rows to others × (rows_of said ≡ rows_of others)

counted-sound : (form : Form) (table : Table) (lines : List (List ℕ)) (to : Next) (said : List Step) → Runs (next.Pair form (Some table)) lines to said → MayEnd to
    → (pairs : List Pair) × (rows : List (List ℕ)) × (others : List Step) × AllByRecursion IsBeforeData pairs × Left form table.formats lines pairs rows to said others × (table_of said ≡ Some table)
counted-sound form table [] to said ran end = absurd (subst MayEnd ran.0 end)
counted-sound form table (line ∷ []) to said ran end = elim ran.3 [
  | inl rows ↦
      let behind : Runs (next.Key form table.formats) [] to ran.2 = subst (λ (n : Next). Runs n [] to ran.2) rows.1 ran.4 in
      let steps : said ≡ step.Table table ∷ ran.2 = ran.5 ∙ ap (λ (t : Step). t ∷ ran.2) rows.2 in
      ([], [], ran.2, tt, (ap (λ (l : List ℕ). l ∷ []) rows.0, behind, ap rows_of steps), ap table_of steps)
  | inr other ↦ absurd (subst MayEnd (ran.4.0 ∙ other.1) end)
]
counted-sound form table (line ∷ (config ∷ rest)) to said ran end = elim ran.3 [
  | inl rows ↦
      let behind : Runs (next.Key form table.formats) (config ∷ rest) to ran.2 = subst (λ (n : Next). Runs n (config ∷ rest) to ran.2) rows.1 ran.4 in
      let steps : said ≡ step.Table table ∷ ran.2 = ran.5 ∙ ap (λ (t : Step). t ∷ ran.2) rows.2 in
      ([], config ∷ rest, ran.2, tt, (ap (λ (l : List ℕ). l ∷ config ∷ rest) rows.0, behind, ap rows_of steps), ap table_of steps)
  | inr other ↦
      let behind : Runs (next.Skipped form (Some table)) (config ∷ rest) to ran.2 = subst (λ (n : Next). Runs n (config ∷ rest) to ran.2) other.1 ran.4 in
      let more = counted-sound form table rest to behind.2 (subst (λ (n : Next). Runs n rest to behind.2) behind.3.0 behind.4) end in
      let steps : said ≡ step.More ∷ step.More ∷ behind.2 = ran.5 ∙ (λ i. other.2 i ∷ behind.5 i) ∙ ap (λ (t : Step). step.More ∷ t ∷ behind.2) behind.3.1 in
      ((line, config) ∷ more.0, more.1, more.2, (other.0, more.3), (ap (λ (l : List (List ℕ)). line ∷ config ∷ l) more.4.0, more.4.1, ap rows_of steps ∙ more.4.2), ap table_of steps ∙ more.5)
]

pairs-sound : (form : Form) (lines : List (List ℕ)) (to : Next) (said : List Step) → Runs (next.Pair form None) lines to said → MayEnd to
    → (table : Table) × (pairs : List Pair) × (rows : List (List ℕ)) × (others : List Step) × Counts pairs table.name table.formats × Left form table.formats lines pairs rows to said others × (table_of said ≡ Some table)
pairs-sound form [] to said ran end = absurd (subst MayEnd ran.0 end)
pairs-sound form (line ∷ []) to said ran end = elim ran.3 [
  | inl named ↦ absurd (subst MayEnd (ran.4.0 ∙ named.2) end)
  | inr other ↦ absurd (subst MayEnd (ran.4.0 ∙ other.2) end)
]
pairs-sound form (line ∷ (config ∷ rest)) to said ran end = elim ran.3 [
  | inl named ↦
      let behind : Runs (next.Config form named.0) (config ∷ rest) to ran.2 = subst (λ (n : Next). Runs n (config ∷ rest) to ran.2) named.2 ran.4 in
      let told = behind.3 in
      let table : Table = record { name = named.0; formats = told.0 } in
      let more = counted-sound form table rest to behind.2 (subst (λ (n : Next). Runs n rest to behind.2) told.2 behind.4) end in
      let steps : said ≡ step.More ∷ step.More ∷ behind.2 = ran.5 ∙ (λ i. named.3 i ∷ behind.5 i) ∙ ap (λ (t : Step). step.More ∷ t ∷ behind.2) told.3 in
      (table, (line, config) ∷ more.0, more.1, more.2, inl (named.1, told.1, more.3), (ap (λ (l : List (List ℕ)). line ∷ config ∷ l) more.4.0, more.4.1, ap rows_of steps ∙ more.4.2), ap table_of steps ∙ more.5)
  | inr other ↦
      let behind : Runs (next.Skipped form None) (config ∷ rest) to ran.2 = subst (λ (n : Next). Runs n (config ∷ rest) to ran.2) other.2 ran.4 in
      let more = pairs-sound form rest to behind.2 (subst (λ (n : Next). Runs n rest to behind.2) behind.3.0 behind.4) end in
      let steps : said ≡ step.More ∷ step.More ∷ behind.2 = ran.5 ∙ (λ i. other.3 i ∷ behind.5 i) ∙ ap (λ (t : Step). step.More ∷ t ∷ behind.2) behind.3.1 in
      (more.0, (line, config) ∷ more.1, more.2, more.3, inr (other.0, other.1, more.4), (ap (λ (l : List (List ℕ)). line ∷ config ∷ l) more.5.0, more.5.1, ap rows_of steps ∙ more.5.2), ap table_of steps ∙ more.6)
]

pub dump-sound : (lines : List (List ℕ)) (to : Next) (said : List Step) → Runs next.Title lines to said → MayEnd to → (dump : Dump) × IsDump dump lines × Tells dump said
dump-sound [] to said ran end = absurd (subst MayEnd ran.0 end)
dump-sound (title ∷ []) to said ran end = absurd (subst MayEnd (ran.4.0 ∙ ran.3.1) end)
dump-sound (title ∷ (form_is ∷ [])) to said ran end =
    let behind : Runs next.Form (form_is ∷ []) to ran.2 = subst (λ (n : Next). Runs n (form_is ∷ []) to ran.2) ran.3.1 ran.4 in
    absurd (subst MayEnd (behind.4.0 ∙ behind.3.2) end)
dump-sound (title ∷ (form_is ∷ (header ∷ lines))) to said ran end =
    let second : Runs next.Form (form_is ∷ header ∷ lines) to ran.2 = subst (λ (n : Next). Runs n (form_is ∷ header ∷ lines) to ran.2) ran.3.1 ran.4 in
    let form : Form = second.3.0 in
    let third : Runs (next.Header form) (header ∷ lines) to second.2 = subst (λ (n : Next). Runs n (header ∷ lines) to second.2) second.3.2 second.4 in
    let found = pairs-sound form lines to third.2 (subst (λ (n : Next). Runs n lines to third.2) third.3.1 third.4) end in
    let rows = rows-sound form found.0.formats found.2 to found.3 found.5.1 end in
    let steps : said ≡ step.More ∷ step.More ∷ step.More ∷ third.2 =
    ran.5 ∙ (λ i. ran.3.2 i ∷ second.5 i) ∙ (λ i. step.More ∷ second.3.3 i ∷ third.5 i) ∙ ap (λ (t : Step). step.More ∷ step.More ∷ t ∷ third.2) third.3.2 in
    let dump : Dump = record { form = form; name = found.0.name; formats = found.0.formats; rows = rows.0 } in
    let whole : title ∷ form_is ∷ header ∷ lines ≡ title ∷ form_line form ∷ codes "Header" ∷ (pair_lines found.1 ++ codes "Data" ∷ found.2) =
    λ i. title ∷ second.3.1 i ∷ third.3.0 i ∷ found.5.0 i in
    (dump, (title, found.1, found.2, ran.3.0, found.4, rows.1, whole), record { table = ap table_of steps ∙ found.6; rows = ap rows_of steps ∙ (found.5.2 ∙ rows.2) })

-- ---- a dump is read

-- some run over the lines tells these
abbrev RunsOn : Next → List (List ℕ) → Next → List Row → Option Table → Type 0
RunsOn at lines to rows table = (said : List Step) × Runs at lines to said × (rows_of said ≡ rows) × (table_of said ≡ table)

rows-back : (form : Form) (formats : Formats) (rows : List Row) (lines : List (List ℕ)) → AreRows form formats rows lines → RunsOn (next.Key form formats) lines (next.Key form formats) rows None
rows-back form formats [] lines are = subst (λ (l : List (List ℕ)). RunsOn (next.Key form formats) l (next.Key form formats) [] None) (sym are) ([], (refl, refl), refl, refl)
rows-back form formats (row ∷ rows) lines are =
    let more = rows-back form formats rows are.2 are.6 in
    let first : Step = step.Row row.0 row.1 in
    subst (λ (l : List (List ℕ)). RunsOn (next.Key form formats) l (next.Key form formats) (row ∷ rows) None) (sym are.5) (
      step.Key ∷ first ∷ more.0,
      (next.Value form formats row.0, step.Key, first ∷ more.0, (row.0, are.3, refl, refl), (next.Key form formats, first, more.0, (row.1, are.4, refl, refl), more.1, refl), refl),
      ap (λ (l : List Row). row ∷ l) more.2,
      more.3,
    )

counted-back : (form : Form) (table : Table) (pairs : List Pair) (rows : List Row) (lines : List (List ℕ)) → AllByRecursion IsBeforeData pairs → AreRows form table.formats rows lines
    → RunsOn (next.Pair form (Some table)) (pair_lines pairs ++ codes "Data" ∷ lines) (next.Key form table.formats) rows (Some table)
counted-back form table [] rows lines before are =
    let more = rows-back form table.formats rows lines are in
    (step.Table table ∷ more.0, (next.Key form table.formats, step.Table table, more.0, inl (refl, refl, refl), more.1, refl), more.2, refl)
counted-back form table (pair ∷ pairs) rows lines before are =
    let more = counted-back form table pairs rows lines before.1 are in (
      step.More ∷ step.More ∷ more.0,
      (next.Skipped form (Some table), step.More, step.More ∷ more.0, inr (before.0, refl, refl), (next.Pair form (Some table), step.More, more.0, (refl, refl), more.1, refl), refl),
      more.2,
      more.3,
    )

pairs-back : (form : Form) (name : List ℕ) (formats : Formats) (pairs : List Pair) (rows : List Row) (lines : List (List ℕ)) → Counts pairs name formats → AreRows form formats rows lines
    → RunsOn (next.Pair form None) (pair_lines pairs ++ codes "Data" ∷ lines) (next.Key form formats) rows (Some (record { name = name; formats = formats }))
pairs-back form name formats [] rows lines counts are = absurd counts
pairs-back form name formats (pair ∷ pairs) rows lines (inl named) are =
    let table : Table = record { name = name; formats = formats } in
    let more = counted-back form table pairs rows lines named.2 are in (
      step.More ∷ step.More ∷ more.0,
      (next.Config form name, step.More, step.More ∷ more.0, inl (name, named.0, refl, refl), (next.Pair form (Some table), step.More, more.0, (formats, named.1, refl, refl), more.1, refl), refl),
      more.2,
      more.3,
    )
pairs-back form name formats (pair ∷ pairs) rows lines (inr other) are =
    let more = pairs-back form name formats pairs rows lines other.2 are in (
      step.More ∷ step.More ∷ more.0,
      (next.Skipped form None, step.More, step.More ∷ more.0, inr (other.0, other.1, refl, refl), (next.Pair form None, step.More, more.0, (refl, refl), more.1, refl), refl),
      more.2,
      more.3,
    )

dump-back : (dump : Dump) (lines : List (List ℕ)) → IsDump dump lines → RunsOn next.Title lines (next.Key dump.form dump.formats) dump.rows (Some (record { name = dump.name; formats = dump.formats }))
dump-back dump lines is =
    let table : Table = record { name = dump.name; formats = dump.formats } in
    let more = pairs-back dump.form dump.name dump.formats is.1 dump.rows is.2 is.4 is.5 in
    let rest : List (List ℕ) = pair_lines is.1 ++ codes "Data" ∷ is.2 in
    subst (λ (l : List (List ℕ)). RunsOn next.Title l (next.Key dump.form dump.formats) dump.rows (Some table)) (sym is.6) (
      step.More ∷ step.More ∷ step.More ∷ more.0,
      (
        next.Form,
        step.More,
        step.More ∷ step.More ∷ more.0,
        (is.3, refl, refl),
        (next.Header dump.form, step.More, step.More ∷ more.0, (dump.form, refl, refl, refl), (next.Pair dump.form None, step.More, more.0, (refl, refl, refl), more.1, refl), refl),
        refl,
      ),
      more.2,
      more.3,
    )

-- each run over the lines of a dump tells it
pub dump-read : (dump : Dump) (lines : List (List ℕ)) (to : Next) (said : List Step) → IsDump dump lines → Runs next.Title lines to said → MayEnd to × Tells dump said
dump-read dump lines to said is ran =
    let some = dump-back dump lines is in
    let same = run-one-way lines next.Title (next.Key dump.form dump.formats) to some.0 said some.1 ran in
    (subst MayEnd same.0 tt, record { table = ap table_of (sym same.1) ∙ some.3; rows = ap rows_of (sym same.1) ∙ some.2 })

same-key : (f g : Form) (a b : Formats) → next.Key f a ≡ next.Key g b → f ≡ g
same-key f g a b e = cc

-- lines are of one dump at most
pub one-dump : (lines : List (List ℕ)) (dump other : Dump) → IsDump dump lines → IsDump other lines → dump ≡ other
one-dump lines dump other is also =
    let ran = dump-back dump lines is in
    let more = dump-back other lines also in
    let same = run-one-way lines next.Title (next.Key dump.form dump.formats) (next.Key other.form other.formats) ran.0 more.0 ran.1 more.1 in
    let form : dump.form ≡ other.form = same-key dump.form other.form dump.formats other.formats same.0 in
    let table = same_Some (record { name = dump.name; formats = dump.formats }) (record { name = other.name; formats = other.formats }) (sym ran.3 ∙ (ap table_of same.1 ∙ more.3)) in
    let rows : dump.rows ≡ other.rows = sym ran.2 ∙ (ap rows_of same.1 ∙ more.2) in
    λ i. record { form = form i; name = (table i).name; formats = (table i).formats; rows = rows i }

-- ---- one line more

pub run-on : (lines : List (List ℕ)) (line : List ℕ) (at mid to : Next) (said : List Step) (last : Step) → Runs at lines mid said → Takes mid line to last → Runs at (lines ++ line ∷ []) to (said ++ last ∷ [])
run-on [] line at mid to said last ran takes =
    (to, last, [], subst (λ (n : Next). Takes n line to last) ran.0 takes, (refl, refl), ap (λ (l : List Step). l ++ last ∷ []) ran.1)
run-on (first ∷ lines) line at mid to said last ran takes =
    (ran.0, ran.1, ran.2 ++ last ∷ [], ran.3, run-on lines line ran.0 mid to ran.2 last ran.4 takes, ap (λ (l : List Step). l ++ last ∷ []) ran.5)

count-on : (n k m : ℕ) → k ≡ min n (2 ^ 64 - 1) → m ≡ min (k + 1) (2 ^ 64 - 1) → m ≡ min (n + 1) (2 ^ 64 - 1)
count-on n k m e f = omega (arith, e, f)

pub line-more : (lines : List (List ℕ)) (line : List ℕ) (old new : DumpReader) (said : List Step) (last : Step) → HasRead lines old said → Reads old line new last → HasRead (lines ++ line ∷ []) new (said ++ last ∷ [])
line-more lines line old new said last read takes = record {
  ran = run-on lines line next.Title old.next new.next said last read.ran takes.0;
  counted = count-on (length lines) old.lines new.lines read.counted takes.1 ∙ ap (λ n. min n (2 ^ 64 - 1)) (sym (length_push lines line));
}

run-parts : (front back : List (List ℕ)) (at to : Next) (said : List Step) → Runs at (front ++ back) to said → (mid : Next) × (first others : List Step) × Runs at front mid first × Runs mid back to others
run-parts [] back at to said ran = (at, [], said, (refl, refl), ran)
run-parts (line ∷ front) back at to said ran =
    let more = run-parts front back ran.0 to ran.2 ran.4 in
    (more.0, ran.1 ∷ more.1, more.2, (ran.0, ran.1, more.1, ran.3, more.3, refl), more.4)

-- a line that no reader takes stands in no dump
pub wrong-line : (lines more : List (List ℕ)) (line : List ℕ) (reader : DumpReader) (said : List Step) (dump : Dump) → HasRead lines reader said → ReadsNone reader line → IsDump dump (lines ++ line ∷ more) → ⊥
wrong-line lines more line reader said dump read none is =
    let some = dump-back dump (lines ++ line ∷ more) is in
    let parts = run-parts lines (line ∷ more) next.Title (next.Key dump.form dump.formats) some.0 some.1 in
    let same = run-one-way lines next.Title parts.0 reader.next parts.1 said parts.3 read.ran in
    none parts.4.0 parts.4.1 (subst (λ (n : Next). Takes n line parts.4.0 parts.4.1) same.0 parts.4.3)
