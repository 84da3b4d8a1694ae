-- Lines that a reader takes go on to be a dump.
use Rattle.std.proofs.Common.{◌≡◌, ◌∙◌, ℕ, List, [], ◌∷◌, ◌++◌, refl, sym, ap, subst, inl, inr, codes, lit<}
use Rattle.std.specs.Prelude.{Option, Some, None}
use Rattle.item.specs.declared.formats.Format.{Format}
use Rattle.item.specs.declared.formats.Format.TheVariants.{S, U}
use Rattle.item.specs.declared.formats.Formats.{Formats}
use Rattle.config_text.specs.Grammar.{AreItems}
use Rattle.config_text.specs.Items.{NamesFormats}
use Rattle.dump_text.specs.Items.{item_line, IsItemLine}
use Rattle.dump_text.specs.Written.{form_line}
use Rattle.dump_text.specs.Lines.{Takes, MayEnd}
use Rattle.dump_text.specs.Grammar.{Dump, IsDump}
use Rattle.dump_text.specs.Runs.{Runs, HasRead}
use Rattle.dump_text.specs.declared.form.Form.{Form}
use Rattle.dump_text.specs.declared.form.Form.TheVariants.{Print}
use Rattle.dump_text.specs.declared.reader.Table.{Table}
use Rattle.dump_text.specs.declared.reader.Step.{Step}
use Rattle.dump_text.specs.declared.reader.Step.TheVariants as step
use Rattle.dump_text.specs.declared.reader.Next.{Next}
use Rattle.dump_text.specs.declared.reader.Next.TheVariants as next
use Rattle.dump_text.specs.declared.reader.DumpReader.{DumpReader}
use Rattle.dump_text.proofs.DumpRuns.{dump-sound}
use Rattle.dump_text.proofs.WrittenDumps.{item-written}

-- some lines lead to an end
abbrev Finishes : Next → Type 0
Finishes at = (lines : List (List ℕ)) × (to : Next) × (said : List Step) × Runs at lines to said × MayEnd to

first-line : (at mid : Next) (line : List ℕ) (first : Step) → Takes at line mid first → Finishes mid → Finishes at
first-line at mid line first takes rest = (line ∷ rest.0, rest.1, first ∷ rest.2, (mid, first, rest.2, takes, rest.3, refl), rest.4)

some-item : (form : Form) (format : Format) → (item line : List ℕ) × IsItemLine form format item line
some-item form S = (0 ∷ [], item_line form (0 ∷ []), item-written form S (0 ∷ []) (lit< tt, tt) ([], refl))
some-item form U = ([], item_line form [], item-written form U [] tt tt)

plain-named : NamesFormats [] (record { key = U; value = U })
plain-named = ([], AreItems.none, refl)

finish-key : (form : Form) (formats : Formats) → Finishes (next.Key form formats)
finish-key form formats = ([], next.Key form formats, [], (refl, refl), tt)

finish-counted : (form : Form) (table : Table) → Finishes (next.Pair form (Some table))
finish-counted form table = first-line _ (next.Key form table.formats) (codes "Data") (step.Table table) (inl (refl, refl, refl)) (finish-key form table.formats)

finish-config : (form : Form) (name : List ℕ) → Finishes (next.Config form name)
finish-config form name =
    let table : Table = record { name = name; formats = record { key = U; value = U } } in
    first-line _ (next.Pair form (Some table)) [] step.More (record { key = U; value = U }, plain-named, refl, refl) (finish-counted form table)

finish-pair : (form : Form) (found : Option Table) → Finishes (next.Pair form found)
finish-pair form (Some table) = finish-counted form table
finish-pair form None = first-line _ (next.Config form []) (codes "table:") step.More (inl ([], inl refl, refl, refl)) (finish-config form [])

finish-header : (form : Form) → Finishes (next.Header form)
finish-header form = first-line _ (next.Pair form None) (codes "Header") step.More (refl, refl, refl) (finish-pair form None)

finish-form : Finishes next.Form
finish-form = first-line _ (next.Header Print) (form_line Print) step.More (Print, refl, refl, refl) (finish-header Print)

finish : (at : Next) → (at ≡ next.Over → ⊥) → Finishes at
finish next.Title never = first-line _ next.Form (codes "WiredTiger Dump") step.More (([], refl), refl, refl) finish-form
finish next.Form never = finish-form
finish (next.Header form) never = finish-header form
finish (next.Pair form found) never = finish-pair form found
finish (next.Skipped form found) never = first-line _ (next.Pair form found) [] step.More (refl, refl) (finish-pair form found)
finish (next.Config form name) never = finish-config form name
finish (next.Key form formats) never = finish-key form formats
finish (next.Value form formats key) never =
    let some = some-item form formats.value in
    first-line _ (next.Key form formats) some.1 (step.Row key some.0) (some.0, some.2, refl, refl) (finish-key form formats)
finish next.Over never = absurd (never refl)

-- ---- no line that is taken ends a reader

never-over : (at : Next) (line : List ℕ) (to : Next) (said : Step) → Takes at line to said → to ≡ next.Over → ⊥
never-over next.Title line to said p e = let s = sym p.1 ∙ e in cc (s)
never-over next.Form line to said p e = let s = sym p.2 ∙ e in cc (s)
never-over (next.Header form) line to said p e = let s = sym p.1 ∙ e in cc (s)
never-over (next.Pair form (Some table)) line to said (inl p) e = let s = sym p.1 ∙ e in cc (s)
never-over (next.Pair form (Some table)) line to said (inr p) e = let s = sym p.1 ∙ e in cc (s)
never-over (next.Pair form None) line to said (inl p) e = let s = sym p.2 ∙ e in cc (s)
never-over (next.Pair form None) line to said (inr p) e = let s = sym p.2 ∙ e in cc (s)
never-over (next.Skipped form found) line to said p e = let s = sym p.0 ∙ e in cc (s)
never-over (next.Config form name) line to said p e = let s = sym p.2 ∙ e in cc (s)
never-over (next.Key form formats) line to said p e = let s = sym p.2 ∙ e in cc (s)
never-over (next.Value form formats key) line to said p e = let s = sym p.2 ∙ e in cc (s)
never-over next.Over line to said p e = p

run-never-over : (lines : List (List ℕ)) (at to : Next) (said : List Step) → Runs at lines to said → (at ≡ next.Over → ⊥) → to ≡ next.Over → ⊥
run-never-over [] at to said ran never e = never (sym ran.0 ∙ e)
run-never-over (line ∷ lines) at to said ran never e = run-never-over lines ran.0 to ran.2 ran.4 (never-over at line ran.0 ran.1 ran.3) e

run-append : (front back : List (List ℕ)) (at mid to : Next) (said more : List Step) → Runs at front mid said → Runs mid back to more → Runs at (front ++ back) to (said ++ more)
run-append [] back at mid to said more ran on =
    subst (λ (n : Next). Runs n back to (said ++ more)) ran.0 (subst (λ (l : List Step). Runs mid back to (l ++ more)) (sym ran.1) on)
run-append (line ∷ front) back at mid to said more ran on =
    (ran.0, ran.1, ran.2 ++ more, ran.3, run-append front back ran.0 mid to ran.2 more ran.4 on, ap (λ (l : List Step). l ++ more) ran.5)

start-goes : next.Title ≡ next.Over → ⊥
start-goes e = cc (e)

pub lines-go-on : (lines : List (List ℕ)) (reader : DumpReader) (said : List Step) → HasRead lines reader said → (more : List (List ℕ)) × (dump : Dump) × IsDump dump (lines ++ more)
lines-go-on lines reader said read =
    let end = finish reader.next (run-never-over lines next.Title reader.next said read.ran start-goes) in
    let is = dump-sound (lines ++ end.0) end.1 (said ++ end.2) (run-append lines end.0 next.Title reader.next end.1 said end.2 read.ran end.3) end.4 in
    (end.0, is.0, is.1)
