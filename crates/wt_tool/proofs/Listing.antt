-- The runs of `list`.
use Rattle.std.proofs.Common.{◌≡◌, ◌≤◌, ◌<◌, ◌∙◌, ◌++◌, ℕ, zero, suc, true, false, List, [], ◌∷◌, append_assoc, map, take, Option, Some, None, inl, inr, refl, sym, ap, subst, length, arith}
use Rattle.std.specs.Prelude.{slice_get, bytes_eq, codes}
use Rattle.std.proofs.lemmas.Bool.{cases_Bool}
use Rattle.std.proofs.lemmas.List.{append-nil}
use Rattle.std.proofs.lemmas.Option.{same_Some}
use Rattle.std.proofs.lemmas.Slice.Eq.{bytes_eq-Decides}
use Rattle.kv_model.specs.Holds.{Member}
use Rattle.kv_model.specs.History.{Table, named}
use Rattle.kv_model.specs.Machine.{Machine}
use Rattle.kv_model.specs.Content.{Content, start}
use Rattle.catalog.specs.Known.{NamesAscend}
use Rattle.device_read.specs.Rows.{HasTables}
use Rattle.engine_store.specs.Devices.{Device}
use Rattle.wt_code.specs.declared.refusals.Refusal.TheVariants.{NoMemory}
use Rattle.wt_io.specs.Streams.{Took, TookFront}
use Rattle.script_run.specs.declared.script.End.TheVariants.{Through, OutputFailed}
use Rattle.wt_tool.specs.Points.{ends, stops, prints}
use Rattle.wt_tool.specs.Lists.{AreNames, RunsList, Sorted, names_text}
use Rattle.wt_tool.specs.Parts.{NoDamage, Reading, at}
use Rattle.wt_tool.specs.Top.{Errors, IsTold, Telling, Tells, last_line, lines}

abbrev pub names_of : List Table → List (List ℕ)
names_of known = map {A = Table} (λ t. t.name) known

abbrev pub line_of : Table → List ℕ
line_of t = codes "table:" ++ t.name ++ 10 ∷ []

-- ---- the text

pub lines_more : (xs : List Table) (i : ℕ) (t : Table) → slice_get xs i ≡ Some t → names_text (names_of (take (suc i) xs)) ≡ names_text (names_of (take i xs)) ++ line_of t
lines_more [] i t is = absurd cc
lines_more (u ∷ xs) zero t is = append-nil (line_of u) ∙ ap line_of (same_Some u t is)
lines_more (u ∷ xs) (suc i) t is = ap (λ (l : List ℕ). line_of u ++ l) (lines_more xs i t is) ∙ sym (append_assoc (line_of u) (names_text (names_of (take i xs))) (line_of t))

pub lines_all : (xs : List Table) (i : ℕ) → length xs ≤ i → names_text (names_of (take i xs)) ≡ names_text (names_of xs)
lines_all [] zero le = refl
lines_all [] (suc i) le = refl
lines_all (u ∷ xs) zero le = absurd (omega (arith, le))
lines_all (u ∷ xs) (suc i) le = ap (λ (l : List ℕ). line_of u ++ l) (lines_all xs i (omega (arith, le)))

-- one is at each place
pub one_there : (xs : List Table) (i : ℕ) → i < length xs → slice_get xs i ≡ None → ⊥
one_there [] i within none = omega (arith, within)
one_there (u ∷ xs) zero within none = cc
one_there (u ∷ xs) (suc i) within none = one_there xs i (omega (arith, within)) none

-- ---- the names

sorted_of : (known : List Table) → NamesAscend known → Sorted (names_of known)
sorted_of [] ascend = tt
sorted_of (t ∷ []) ascend = tt
sorted_of (t ∷ (u ∷ later)) ascend = (ascend.0, sorted_of (u ∷ later) ascend.1)

same_name : (a b : List ℕ) → bytes_eq a b ≡ true → a ≡ b
same_name a b is = (bytes_eq-Decides a b).0 is

pub named_member : (name : List ℕ) (known : List Table) (t : Table) → named name known ≡ Some t → Member t known × (t.name ≡ name)
named_member name [] t is = absurd cc
named_member name (u ∷ later) t is = elim (cases_Bool (bytes_eq u.name name)) [
  | inl same ↦
      let one : u ≡ t = same_Some u t (rw same at is) in
      (inl (sym one), ap (λ (x : Table). x.name) (sym one) ∙ same_name u.name name same)
  | inr other ↦ let rest = named_member name later t (rw other at is) in (inr rest.0, rest.1)
]

pub member_named : (known : List Table) (t : Table) → Member t known → (u : Table) × (named t.name known ≡ Some u)
member_named [] t there = absurd there
member_named (u ∷ later) t there = elim (cases_Bool (bytes_eq u.name t.name)) [
  | inl same ↦ (u, rw same refl)
  | inr other ↦ elim there [
    | inl is ↦ absurd (differs u t is other)
    | inr rest ↦ let found = member_named later t rest in (found.0, rw other found.1)
  ]
]
  where
    itself : (name : List ℕ) → bytes_eq name name ≡ true
    itself name = (bytes_eq-Decides name name).1 refl

    differs : (u t : Table) → t ≡ u → bytes_eq u.name t.name ≡ false → ⊥
    differs u t is other = let e : true ≡ false = sym (itself u.name) ∙ (ap (λ (x : Table). bytes_eq u.name x.name) (sym is) ∙ other) in cc

name_member : (known : List Table) (name : List ℕ) → Member name (names_of known) → (t : Table) × Member t known × (t.name ≡ name)
name_member [] name there = absurd there
name_member (u ∷ later) name (inl is) = (u, inl refl, sym is)
name_member (u ∷ later) name (inr there) = let rest = name_member later name there in (rest.0, inr rest.1, rest.2)

member_name : (known : List Table) (t : Table) → Member t known → Member t.name (names_of known)
member_name [] t there = there
member_name (u ∷ later) t (inl is) = inl (ap (λ (x : Table). x.name) is)
member_name (u ∷ later) t (inr there) = inr (member_name later t there)

-- the names of a reader's tables are those of the machine
pub are_names : (c : Content) (known : List Table) → HasTables c known → AreNames (start c) (names_of known)
are_names c known has = record {
  all = λ name. (
    (λ there.
        let at = name_member known name there in
        let found = subst (λ (n : List ℕ). (t : Table) × (named n known ≡ Some t)) at.2 (member_named known at.0 at.1) in
        (found.0, has.named_alike name ∙ found.1)),
    (λ found.
        let is = named_member name known found.0 (sym (has.named_alike name) ∙ found.1) in
        subst (λ (n : List ℕ). Member n (names_of known)) is.1 (member_name known found.0 is.0)),
  );
  ascend = sorted_of known has.ascend;
}

-- ---- the run

module _ (output : Type 0) (d : Device) (m : Machine) (names : List (List ℕ)) (are : AreNames m names) (before now : Option (List ℕ)) (e : Errors) where
  pub listed_through : (text : List ℕ) → text ≡ names_text names → Took before now text → Took e.before e.now [] → Reading (RunsList output) (at d m) d before now e 0
  listed_through text is took quiet = record {
    ran = prints (names_text names) (ends Through (at d m));
    run = (names, are, inl refl);
    printed = inl (subst (λ (l : List ℕ). Took before now l) (is ∙ sym (append-nil (names_text names))) took);
    told = inl (inl quiet, refl);
    silent = refl;
    none = refl;
    there = refl;
    same = refl;
  }

  pub listed_cut : (text : List ℕ) → text ≡ names_text names → TookFront before now text → output → IsTold e (last_line OutputFailed) → Reading (RunsList output) (at d m) d before now e 6
  listed_cut text is front why told = record {
    ran = prints (names_text names) (ends OutputFailed (at d m));
    run = (names, are, inr (inl (refl, why)));
    printed = inr (subst (λ (l : List ℕ). TookFront before now l) (is ∙ sym (append-nil (names_text names))) front, refl);
    told = inl (told, refl);
    silent = refl;
    none = refl;
    there = refl;
    same = refl;
  }

  pub listed_short : (status : ℕ) → Took before now [] → Tells e (lines (NoMemory ∷ [])) 12 status → Reading (RunsList output) (at d m) d before now e status
  listed_short status quiet told = record {
    ran = stops NoMemory (at d m);
    run = (names, are, inr (inr refl));
    printed = inl quiet;
    told = subst (λ (l : List ℕ). Tells e l 12 status) (sym (append-nil (lines (NoMemory ∷ [])))) told;
    silent = refl;
    none = refl;
    there = refl;
    same = refl;
  }

-- ---- what is told

pub tells_nothing : (e : Errors) → Took e.before e.now [] → Telling NoDamage e 0
tells_nothing e quiet = record { refusals = []; each = tt; replies = []; end = Through; told = inl (inl quiet, refl) }

pub tells_fault : (e : Errors) → IsTold e (last_line OutputFailed) → Telling NoDamage e 6
tells_fault e told = record { refusals = []; each = tt; replies = []; end = OutputFailed; told = inl (told, refl) }
