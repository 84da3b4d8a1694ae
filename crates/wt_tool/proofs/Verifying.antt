-- The runs of `verify`.
use Rattle.std.proofs.Common.{◌≡◌, ◌∙◌, ◌⊎◌, ℕ, Bool, true, false, List, [], ◌∷◌, Option, Some, None, Result, Ok, Err, inl, inr, refl, sym, ap, subst, arith}
use Rattle.std.specs.Prelude.{◌||◌, IfOk, IfErr, bytes_eq}
use Rattle.std.specs.List.{list_any}
use Rattle.std.proofs.lemmas.Bool.{cases_Bool}
use Rattle.std.proofs.lemmas.Slice.Eq.{bytes_eq-Decides}
use Rattle.failure.specs.Counts.{Rose}
use Rattle.disk_model.specs.declared.disk.Disk.{Ghosts}
use Rattle.kv_model.specs.Content.{Content, nothing, start, kept, descending, table_lt, placed_lt}
use Rattle.kv_model.specs.Holds.{Member}
use Rattle.kv_model.specs.History.{Table, tables, named}
use Rattle.kv_model.specs.Machine.{Machine}
use Rattle.kv_model.proofs.Finishing.{tables-base}
use Rattle.kv_model.proofs.Sorting.{member-descending, descending-member}
use Rattle.stored.specs.Records.{TableRoot, Record}
use Rattle.stored.specs.Stored.{Reads, content_of, tables_of}
use Rattle.stored.proofs.Device.{one_content}
use Rattle.wt_code.specs.declared.refusals.Refusal.{Refusal}
use Rattle.wt_code.specs.declared.refusals.Refusal.TheVariants.{NoTable, Invalid as Refusal_Invalid}
use Rattle.wt_code.specs.declared.refusals.Invalid.TheVariants.{BadName}
use Rattle.recover_open.specs.Bare.{stored_with}
use Rattle.tree_open.specs.Damage.{Refused}
use Rattle.recover_open.specs.Wholes.{IsWholeDamage}
use Rattle.recover_open.proofs.Devices.{whole_damage_no_content}
use Rattle.engine_store.specs.Devices.{device_of}
use Rattle.verify_dev.specs.declared.report.Report.{Report}
use Rattle.verify_dev.specs.Reports.{IsVerified, ReportsOr}
use Rattle.wt_line.specs.Line.{Asked, verify}
use Rattle.wt_tool.specs.Points.{point_of}
use Rattle.wt_tool.specs.Parts.{IsOfAttach, met_of}
use Rattle.wt_tool.specs.Top.{IsAt, IsSoFor, IsStatus, status_of, first_status}
use Rattle.wt_tool.specs.Verifies.{RefusesVerify, AreTablesOf, tables_in}
use Rattle.wt_tool.proofs.Listing.{member_named, named_member}
use Rattle.wt_tool.proofs.Running.{status_some, untold_at}

-- ---- a name, in the record and in the machine

abbrev pub has_name : List ℕ → List Table → Bool
has_name name known = list_any {X = Table} (λ t. bytes_eq t.name name) known

pub name_in_record : (name : List ℕ) (tables : List TableRoot) → list_any {X = TableRoot} (λ t. bytes_eq t.table.name name) tables ≡ has_name name (tables_of tables)
name_in_record name [] = refl
name_in_record name (t ∷ tables) = ap (λ (b : Bool). bytes_eq t.table.name name || b) (name_in_record name tables)

any_member : (name : List ℕ) (known : List Table) → has_name name known ≡ true → (t : Table) × Member t known × (t.name ≡ name)
any_member name [] is = absurd cc
any_member name (u ∷ later) is = elim (cases_Bool (bytes_eq u.name name)) [
  | inl same ↦ (u, inl refl, (bytes_eq-Decides u.name name).0 same)
  | inr other ↦ let rest = any_member name later (rw other at is) in (rest.0, inr rest.1, rest.2)
]

member_any : (t : Table) (known : List Table) → Member t known → has_name t.name known ≡ true
member_any t [] there = absurd there
member_any t (u ∷ later) (inl same) =
    let is : bytes_eq u.name t.name ≡ true = (bytes_eq-Decides u.name t.name).1 (ap (λ (x : Table). x.name) (sym same)) in
    rw is refl
member_any t (u ∷ later) (inr there) = elim (cases_Bool (bytes_eq u.name t.name)) [
  | inl same ↦ rw same refl
  | inr other ↦ rw other (member_any t later there)
]

module _ (m : Machine) (known : List Table) (same : AreTablesOf m known) (name : List ℕ) where
  pub some_named : has_name name known ≡ true → (t : Table) × (named name (tables m.history) ≡ Some t)
  some_named is =
      let there = any_member name known is in
      subst (λ (n : List ℕ). (t : Table) × (named n (tables m.history) ≡ Some t)) there.2 (member_named (tables m.history) there.0 ((same there.0).0 there.1))

  pub none_named : has_name name known ≡ false → named name (tables m.history) ≡ None
  none_named is = of (named name (tables m.history)) refl
    where
      of : (o : Option Table) → named name (tables m.history) ≡ o → o ≡ None
      of None at = refl
      of (Some t) at =
          let there = named_member name (tables m.history) t at in
          let any : has_name name known ≡ true = subst (λ (n : List ℕ). has_name n known ≡ true) there.1 (member_any t known ((same t).1 there.0)) in
          let e : true ≡ false = sym any ∙ is in absurd cc

-- ---- the tables of the device

started : (c : Content) → AreTablesOf (start c) c.tables
started c t =
    let made = tables-base (descending table_lt c.tables) (descending placed_lt (kept c)) in (
      λ there. subst (λ (l : List Table). Member t l) (sym made) (descending-member table_lt c.tables t there),
      λ there. member-descending table_lt c.tables t (subst (λ (l : List Table). Member t l) made there),
    )

-- of a device that reads, those that were found are those of the machine that an opening makes
pub start_tables : (bytes : List ℕ) (content : Content) (x : Option Record) (o : Report) → Reads bytes content → ReportsOr bytes x o → AreTablesOf (start content) (tables_in x)
start_tables bytes content None o reads (blank, counts) =
    subst (λ (c : Content). AreTablesOf (start c) []) (one_content bytes nothing content (inl (blank, refl)) reads) (started nothing)
start_tables bytes content (Some r) o reads reports =
    let s = stored_with reports.slot r reports.trees reports.history in
    subst (λ (c : Content). AreTablesOf (start c) (tables_of r.tables)) (one_content bytes (content_of s) content (inr (s, reports.on, refl)) reads) (started (content_of s))

-- a device that was read through reads as a content
pub examined_reads : (bytes : List ℕ) (x : Option Record) (o : Report) → ReportsOr bytes x o → (content : Content) × Reads bytes content
examined_reads bytes None o (blank, counts) = (nothing, inl (blank, refl))
examined_reads bytes (Some r) o reports =
    let s = stored_with reports.slot r reports.trees reports.history in
    (content_of s, inr (s, reports.on, refl))

-- so does one that was counted
pub verified_reads : (bytes : List ℕ) (o : Report) → IsVerified bytes o → (content : Content) × Reads bytes content
verified_reads bytes o (inl (blank, counts)) = (nothing, inl (blank, refl))
verified_reads bytes o (inr (r, reports)) = examined_reads bytes (Some r) o reports

-- what holds in any case
pub in_any : {T E P : Type 0} (result : Result T E) → P → IfOk result (λ x. P)
in_any (Ok x) p = p
in_any (Err e) p = tt

pub ok_of : {P : Type 0} (result : Result (Unit {0}) Refusal) → P → IfOk result (λ done. P)
ok_of (Ok done) p = p
ok_of (Err r) p = tt

-- ---- why it is refused

abbrev pub VerifyRefused : (fault known : Type 0) → List ℕ → Refusal → Type 0
VerifyRefused fault known bytes r = Refused fault known (IsWholeDamage bytes) r ⊎ ((r ≡ Refusal_Invalid BadName) ⊎ (r ≡ NoTable))

-- of a device that reads
pub refused_verify : {D : Type 0} (g : Ghosts D) (old new : D) (known : Type 0) (content : Content) (r : Refusal) → known → Reads (g.seen old) content → Refused (Rose (g.faults old) (g.faults new)) known (IsWholeDamage (g.seen old)) r
    → RefusesVerify (point_of g (start content) old) (device_of g new) r
refused_verify g old new known content r k reads (inl failed) = inl failed
refused_verify g old new known content r k reads (inr (inl none)) = inr none
refused_verify g old new known content r k reads (inr (inr (at, want, found, is, why))) = absurd (whole_damage_no_content (g.seen old) at want found content (why k) reads)

pub verify_so : (uri : Option (List ℕ)) (fault known : Type 0) (bytes now : List ℕ) (r : Refusal) → VerifyRefused fault known bytes r → IsSoFor (verify uri) known bytes now r
verify_so uri fault known bytes now r (inl (inl (is, failed))) = subst (IsSoFor (verify uri) known bytes now) (sym is) tt
verify_so uri fault known bytes now r (inl (inr (inl is))) = subst (IsSoFor (verify uri) known bytes now) (sym is) tt
verify_so uri fault known bytes now r (inl (inr (inr (at, want, found, is, why)))) = subst (IsSoFor (verify uri) known bytes now) (sym is) (λ k. inl (why k))
verify_so uri fault known bytes now r (inr (inl is)) = subst (IsSoFor (verify uri) known bytes now) (sym is) tt
verify_so uri fault known bytes now r (inr (inr is)) = subst (IsSoFor (verify uri) known bytes now) (sym is) tt

-- ---- its status

abbrev pub IsOfResult : Result (Unit {0}) Refusal → ℕ → Type 0
IsOfResult result status = (status ≡ first_status (met_of result)) ⊎ (status ≡ 12)

pub done_only : (P : Type 0) (result : Result (Unit {0}) Refusal) (status : ℕ) → IfOk result (λ done. P) → IsOfResult result status → status ≡ 0 → P
done_only P (Ok done) status ok of none = ok
done_only P (Err r) status ok of none = absurd (status_some r status of none)

pub verify_at : {D : Type 0} (g : Ghosts D) (home : List ℕ) (old new : D) (result : Result (Unit {0}) Refusal) (status : ℕ) → IfOk result (λ done. g.home new ≡ Some home) → (g.home new ≡ Some home) ⊎ ((g.home new ≡ g.home old) × IfErr result IsOfAttach) → g.seen new ≡ g.seen old → IsOfResult result status → IsAt g home old new status
verify_at g home old new (Ok done) status told untold seen of = inl told
verify_at g home old new (Err r) status told (inl at) seen of = inl at
verify_at g home old new (Err r) status told (inr (same, why)) seen of = inr (same, seen, untold_at r status of why)

-- what the status of a refusal says
pub record Said (fault : Type 0) (status : ℕ) : Type 0 where
  pub is : IsStatus status
  pub failed : status ≡ 4 → fault
  pub no_input : status ≡ 5 → ⊥
  pub no_output : status ≡ 6 → ⊥

one_said : (fault : Type 0) (status : ℕ) → (status ≡ 0) ⊎ ((status ≡ 1) ⊎ (status ≡ 12)) → Said fault status
one_said fault status (inl is) = record { is = inl is; failed = λ n. absurd (omega (arith, is, n)); no_input = λ n. omega (arith, is, n); no_output = λ n. omega (arith, is, n) }
one_said fault status (inr (inl is)) = record { is = inr (inl is); failed = λ n. absurd (omega (arith, is, n)); no_input = λ n. omega (arith, is, n); no_output = λ n. omega (arith, is, n) }
one_said fault status (inr (inr is)) = record { is = inr (inr (inr (inr (inr is)))); failed = λ n. absurd (omega (arith, is, n)); no_input = λ n. omega (arith, is, n); no_output = λ n. omega (arith, is, n) }

refusal_said : (fault known : Type 0) (bytes : List ℕ) (r : Refusal) (status : ℕ) → VerifyRefused fault known bytes r → status ≡ status_of r → Said fault status
refusal_said fault known bytes r status (inl (inl (is, failed))) of =
    let four : status ≡ 4 = of ∙ ap status_of is in
    record { is = inr (inr (inl four)); failed = λ n. failed; no_input = λ n. omega (arith, four, n); no_output = λ n. omega (arith, four, n) }
refusal_said fault known bytes r status (inl (inr (inl is))) of = one_said fault status (inr (inr (of ∙ ap status_of is)))
refusal_said fault known bytes r status (inl (inr (inr (at, want, found, is, why)))) of = one_said fault status (inr (inl (of ∙ ap status_of is)))
refusal_said fault known bytes r status (inr (inl is)) of = one_said fault status (inr (inl (of ∙ ap status_of is)))
refusal_said fault known bytes r status (inr (inr is)) of = one_said fault status (inr (inl (of ∙ ap status_of is)))

pub verify_said : (fault known : Type 0) (bytes : List ℕ) (result : Result (Unit {0}) Refusal) (status : ℕ) → IfErr result (VerifyRefused fault known bytes) → IsOfResult result status → Said fault status
verify_said fault known bytes result status err (inr is) = one_said fault status (inr (inr is))
verify_said fault known bytes (Ok done) status err (inl is) = one_said fault status (inl is)
verify_said fault known bytes (Err r) status err (inl is) = refusal_said fault known bytes r status err is
