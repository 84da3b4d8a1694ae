-- The slots of a history to which a version is added.
use Rattle.std.specs.Prelude.{◌≡◌, ◌⊎◌, ℕ, ◌<◌, ◌^◌, ◌==◌, true, false, List, [], ◌∷◌, ◌++◌, bytes_eq, filter, map, refl}
use Rattle.std.specs.List.{AllByRecursion}
use Rattle.std.proofs.Common.{inl, inr, sym, ◌∙◌, ap, subst}
use Rattle.std.proofs.lemmas.Bool.{and_parts, cases_Bool, cases_eq, eqb-true}
use Rattle.std.proofs.lemmas.List.{map-append}
use Rattle.std.proofs.lemmas.List.Elements.{filter-append}
use Rattle.item.specs.declared.Change.{Change}
use Rattle.item.specs.declared.Change.TheVariants.{Put, Remove}
use Rattle.stamp.specs.declared.Version.{Version}
use Rattle.kv_model.specs.Holds.{Member}
use Rattle.kv_model.specs.History.{Table, has_table}
use Rattle.row_page.specs.Changes.{PageChange}
use Rattle.row_page.specs.Rows.{RowFits, key_most}
use Rattle.reconcile.proofs.Keyed.{key_self, same_key}
use Rattle.reconcile.specs.Cells.{cell_change, cell_version}
use Rattle.stored.specs.HistoryTree.{RecordFits}
use Rattle.reconcile.specs.declared.image.Moved.{Moved}
use Rattle.reconcile.specs.Moving.{versions_in}
use Rattle.hist_store.specs.declared.key_history.KeyHistory.{KeyHistory}
use Rattle.hist_store.specs.Laws.{AddsAdd, AddsChange, AddsKeep}
use Rattle.hist_store.specs.Versions.{added, is_of, versions_of, with_version}
use Rattle.hist_store.proofs.Adding.{with-within}
use Rattle.hist_pages.specs.Records.{Fits, change_on, record_of}
use Rattle.hist_gather.specs.Added.{AreKnown, HasMore, OfMoved}

-- ---- the versions of one key among those that move

pub versions-append : (key : List ℕ) (a b : List Moved) → versions_in key (a ++ b) ≡ versions_in key a ++ versions_in key b
versions-append key a b = ap (map {A = Moved} (λ m. m.version)) (filter-append (λ (m : Moved). bytes_eq m.key key) a b) ∙ map-append (λ (m : Moved). m.version) (filter (λ (m : Moved). bytes_eq m.key key) a) (filter (λ (m : Moved). bytes_eq m.key key) b)

own_one : (one : Moved) → Member one.version (versions_in one.key (one ∷ []))
own_one one = let is = key_self one.key in rw is (inl refl)

one_only : (one : Moved) (key : List ℕ) (v : Version Change) → Member v (versions_in key (one ∷ [])) → (v ≡ one.version) × (one.key ≡ key)
one_only one key v there = elim (cases_Bool (bytes_eq one.key key)) [
  | inl is ↦ elim (rw is at there) [ inl same ↦ (same, same_key one.key key is) | inr none ↦ absurd none ]
  | inr isnt ↦ absurd (rw isnt at there)
]

-- ---- one more

one-key : (table other : ℕ) (key its : List ℕ) → ((other ≡ table) × (its ≡ key)) ⊎ (other ≡ table → its ≡ key → ⊥)
one-key table other key its = elim (cases_eq other table) [
  | inr differ ↦ inr (λ same keys. differ same)
  | inl same ↦ elim (cases_Bool (bytes_eq its key)) [
    | inl is ↦ inl (same, same_key its key is)
    | inr isnt ↦ inr (λ tables keys. let clash : false ≡ true = sym isnt ∙ (ap (bytes_eq its) (sym keys) ∙ key_self its) in absurd cc)
  ]
]

module _ (add : AddsAdd) (change : AddsChange) (keep : AddsKeep) (table : ℕ) (one : Moved) (slots : List KeyHistory) where
  abbrev after : List KeyHistory
  after = added table one.key one.version slots

  abbrev had : List (Version Change)
  had = versions_of table one.key slots

  has : versions_of table one.key after ≡ with_version one.version had
  has = change table one.key one.version slots

  -- of the key itself
  from-own : (v : Version Change) → Member v (versions_of table one.key after) → Member v had ⊎ OfMoved table (one ∷ []) table one.key v
  from-own v there = elim (with-within one.version had v (subst (λ (l : List (Version Change)). Member v l) has there)) [
    | inl same ↦ inr (refl, subst (λ (x : Version Change). Member x (versions_in one.key (one ∷ []))) (sym same) (own_one one))
    | inr was ↦ inl was
  ]

  kept-own : (v : Version Change) → Member v had → Member v (versions_of table one.key after)
  kept-own v there = subst (λ (l : List (Version Change)). Member v l) (sym has) ((add one.version had).old v there)

  into-own : (w : Version Change) × Member w (versions_of table one.key after) × (w.window.name ≡ one.version.window.name)
  into-own = let new = (add one.version had).new one.version (inl refl) in (new.0, subst (λ (l : List (Version Change)). Member new.0 l) (sym has) new.1, new.2)

  -- and of each
  from-each : (other : ℕ) (its : List ℕ) (v : Version Change) → Member v (versions_of other its after) → Member v (versions_of other its slots) ⊎ OfMoved table (one ∷ []) other its v
  from-each other its v there = elim (one-key table other one.key its) [
    | inr differ ↦ inl (subst (λ (l : List (Version Change)). Member v l) (keep table other one.key its one.version slots differ) there)
    | inl same ↦
        let at : Member v (versions_of table one.key after) = subst (λ (n : ℕ). Member v (versions_of n one.key after)) same.0 (subst (λ (k : List ℕ). Member v (versions_of other k after)) same.1 there) in
        elim (from-own v at) [
          | inl was ↦ inl (subst (λ (n : ℕ). Member v (versions_of n its slots)) (sym same.0) (subst (λ (k : List ℕ). Member v (versions_of table k slots)) (sym same.1) was))
          | inr of ↦ inr (same.0, subst (λ (k : List ℕ). Member v (versions_in k (one ∷ []))) (sym same.1) of.1)
        ]
  ]

  kept-each : (other : ℕ) (its : List ℕ) (v : Version Change) → Member v (versions_of other its slots) → Member v (versions_of other its after)
  kept-each other its v there = elim (one-key table other one.key its) [
    | inr differ ↦ subst (λ (l : List (Version Change)). Member v l) (sym (keep table other one.key its one.version slots differ)) there
    | inl same ↦
        let at : Member v had = subst (λ (n : ℕ). Member v (versions_of n one.key slots)) same.0 (subst (λ (k : List ℕ). Member v (versions_of other k slots)) same.1 there) in
        subst (λ (n : ℕ). Member v (versions_of n its after)) (sym same.0) (subst (λ (k : List ℕ). Member v (versions_of table k after)) (sym same.1) (kept-own v at))
  ]

  into-each : (other : ℕ) (its : List ℕ) (v : Version Change) → OfMoved table (one ∷ []) other its v → (w : Version Change) × Member w (versions_of other its after) × (w.window.name ≡ v.window.name)
  into-each other its v of =
      let is = one_only one its v of.1 in
      let new = into-own in (
        new.0,
        subst (λ (n : ℕ). Member new.0 (versions_of n its after)) (sym of.0) (subst (λ (k : List ℕ). Member new.0 (versions_of table k after)) is.1 new.1),
        new.2 ∙ ap (λ (x : Version Change). x.window.name) (sym is.0),
      )

  pub one_more : HasMore (OfMoved table (one ∷ [])) slots after
  one_more = record { from = from-each; kept = kept-each; into = into-each }

-- ---- whose slots, and whether they fit

pub known_more : (tables : List Table) (table : ℕ) (key : List ℕ) (v : Version Change) (slots : List KeyHistory) → has_table tables table ≡ true → AreKnown tables slots → AreKnown tables (added table key v slots)
known_more tables table key v [] has known = (has, tt)
known_more tables table key v (h ∷ slots) has known = elim (cases_Bool (is_of table key h)) [
  | inl is ↦ rw is (known.0, known.1)
  | inr isnt ↦ rw isnt (known.0, known_more tables table key v slots has known.1)
]

all_with : (P : Version Change → Type 0) (v : Version Change) (versions : List (Version Change)) → ((x : Version Change) → Member x (v ∷ versions) → P x) → AllByRecursion P (with_version v versions)
all_with P v versions each = all_made (with_version v versions) (λ x there. each x (with-within v versions x there)) where
  all_made : (l : List (Version Change)) → ((x : Version Change) → Member x l → P x) → AllByRecursion P l
  all_made [] each = tt
  all_made (x ∷ l) each = (each x (inl refl), all_made l (λ y there. each y (inr there)))

all_of : (P : Version Change → Type 0) (l : List (Version Change)) (x : Version Change) → AllByRecursion P l → Member x l → P x
all_of P [] x all there = absurd there
all_of P (y ∷ l) x all (inl same) = subst P (sym same) all.0
all_of P (y ∷ l) x all (inr there) = all_of P l x all.1 there

pub fit_more : (table : ℕ) (key : List ℕ) (v : Version Change) (slots : List KeyHistory) → RecordFits (record_of table key v) → Fits slots → Fits (added table key v slots)
fit_more table key v [] own fit = ((own, tt), tt)
fit_more table key v (h ∷ slots) own fit = elim (cases_Bool (is_of table key h)) [
  | inl is ↦ rw is (all_with (λ (x : Version Change). RecordFits (record_of h.table h.key x)) v h.versions (each is), fit.1)
  | inr isnt ↦ rw isnt (fit.0, fit_more table key v slots own fit.1)
] where
  here : is_of table key h ≡ true → RecordFits (record_of h.table h.key v)
  here is =
      let parts = and_parts (h.table == table) (bytes_eq h.key key) is in
      subst (λ (n : ℕ). RecordFits (record_of n h.key v)) (sym (eqb-true h.table table parts.0)) (subst (λ (k : List ℕ). RecordFits (record_of table k v)) (sym (same_key h.key key parts.1)) own)

  each : is_of table key h ≡ true → (x : Version Change) → Member x (v ∷ h.versions) → RecordFits (record_of h.table h.key x)
  each is x (inl same) = subst (λ (y : Version Change). RecordFits (record_of h.table h.key y)) (sym same) (here is)
  each is x (inr there) = all_of (λ (y : Version Change). RecordFits (record_of h.table h.key y)) h.versions x fit.0 there

change-same : (c : Change) → cell_change c ≡ change_on c
change-same (Put value) = refl
change-same Remove = refl

pub record_fits : (table : ℕ) (key : List ℕ) (v : Version Change) → table < 2 ^ 32 → RowFits [] key_most (key, cell_version v) → RecordFits (record_of table key v)
record_fits table key v low row = record {
  table = low;
  row = subst (λ (c : PageChange). RowFits [] key_most (key, record { window = v.window; change = c })) (change-same v.change) row;
}
