-- What an opening keeps of captured rows.
use Rattle.std.proofs.Common.{◌≡◌, ◌∙◌, ℕ, Bool, true, ◌&&◌, List, [], ◌∷◌, ◌++◌, length, Option, Some, None, refl, ap, sym, subst, inl, inr}
use Rattle.std.specs.Prelude.{filter, not}
use Rattle.std.specs.Option.{option_to_list}
use Rattle.std.specs.List.{list_any}
use Rattle.std.proofs.lemmas.Bool.{cases_Bool}
use Rattle.std.proofs.lemmas.List.{append-nil}
use Rattle.item.specs.declared.Change.{Change}
use Rattle.stamp.specs.declared.Name.{Name}
use Rattle.stamp.specs.declared.Version.{Version}
use Rattle.row_page.specs.Rows.{Row}
use Rattle.kv_model.specs.AgreementLaws.{head_of}
use Rattle.kv_model.specs.Allowed.{StampsFit}
use Rattle.kv_model.specs.Content.{Content, Snapshot, base, descending, is_again, is_kept_version, kept, kept_cells, placed_lt, sees_name, table_lt}
use Rattle.kv_model.specs.Holds.{Member}
use Rattle.kv_model.specs.History.{Entry, Placed, core, cut, has_table, is_at, is_stable, line, of_key}
use Rattle.kv_model.specs.Machine.{Machine}
use Rattle.kv_model.proofs.ContentKeys.{of-key-into}
use Rattle.kv_model.proofs.Opening.{at-placed}
use Rattle.kv_model.proofs.Finishing.{first-start, line-base, line-cut}
use Rattle.reconcile.specs.Shows.{shown_at}
use Rattle.reconcile.proofs.Keyed.{of_key_descending, of_key_rows}
use Rattle.snapshot.specs.Sight.{Sight, is_seen}
use Rattle.leaf_chains.specs.Slots.{chain_at}
use Rattle.reconcile.specs.CutLaws.{CapturesAreCut, HoldsRows, NewestSuffices}
use Rattle.reconcile.proofs.Picking.{captured_seen}
use Rattle.reconcile.proofs.Newest.{captures-newest}
use Rattle.reconcile.proofs.CaptureSifting.{cut_core, keys_sifted, one_stable, passes, stable_one}

-- ---- the versions of a key among those placed

both_keys : (table : ℕ) (key : List ℕ) (xs ys : List Placed) → of_key table key (xs ++ ys) ≡ of_key table key xs ++ of_key table key ys
both_keys table key [] ys = refl
both_keys table key (x ∷ xs) ys = elim (cases_Bool (is_at table key x)) [
  | inl here ↦ rw here (ap (λ (l : List (Version Change)). x.version ∷ l) (both_keys table key xs ys))
  | inr away ↦ rw away (both_keys table key xs ys)
]

none_kept : (f : Placed → Bool) (table : ℕ) (key : List ℕ) (l : List Placed) → of_key table key l ≡ [] → of_key table key (filter f l) ≡ []
none_kept f table key l none =
    keys_sifted f (λ v. true) table key l (λ p there at. absurd (subst (λ (vs : List (Version Change)). Member p.version vs) none (of-key-into table key l p there at)))
    ∙ ap (λ (vs : List (Version Change)). filter (λ v. true) vs) none

of_some : (v : Version Change) (o : Option (Version Change)) → Member v (option_to_list o) → o ≡ Some v
of_some v None there = absurd there
of_some v (Some w) (inl same) = ap (λ (x : Version Change). Some x) (sym same)
of_some v (Some w) (inr none) = absurd none

-- ---- what is kept

-- the recorded snapshot sees what the sight sees
sees_as : (c : Content) (s : Sight) (x : Name) → c.run ≡ s.run → c.snapshot ≡ record { min = s.min; max = s.max; ids = s.list } → is_seen s x ≡ true → sees_name c.run c.snapshot x ≡ true
sees_as c s x run snapshot seen = ap (λ (n : ℕ). sees_name n c.snapshot x) run ∙ (ap (λ (n : Snapshot). sees_name s.run n x) snapshot ∙ seen)

module _ (m : Machine) (table : ℕ) (key : List ℕ) (s : Sight) (rows : List Row) (c : Content) (shown : Option (Version Change)) (fit : StampsFit m.oldest m.stable)
    (head : head_of (line m.history table key) ≡ shown) (n : NewestSuffices m table key) (h : HoldsRows m.stable table key s rows c) (cells : of_key table key c.cells ≡ option_to_list shown)
    (seen : (v : Version Change) → shown ≡ Some v → is_seen s v.window.name ≡ true) where
  -- what is durable at stable is kept
  cell_kept : (p : Placed) → Member p c.cells → is_at table key p ≡ true → is_kept_version c p ≡ is_stable m.stable p.version
  cell_kept p there at =
      let is = of_some p.version shown (subst (λ (l : List (Version Change)). Member p.version l) cells (of-key-into table key c.cells p there at)) in
      let here = (at-placed table key p at).0 in
      passes (has_table c.tables p.table) (sees_name c.run c.snapshot p.version.window.name) (is_stable c.stable p.version)
      (subst (λ (k : ℕ). has_table c.tables k ≡ true) (sym here) h.known)
      (sees_as c s p.version.window.name h.run h.snapshot (seen p.version is))
      ∙ ap (λ (k : ℕ). is_stable k p.version) h.stable_stamp

  kept_is : of_key table key (kept c) ≡ option_to_list (stable_one m.stable shown)
  kept_is =
      let others = filter (λ p. is_kept_version c p && not (list_any (is_again p) (kept_cells c))) c.records in
      both_keys table key (kept_cells c) others
      ∙ (ap (λ (l : List (Version Change)). of_key table key (kept_cells c) ++ l) (none_kept (λ p. is_kept_version c p && not (list_any (is_again p) (kept_cells c))) table key c.records h.records)
      ∙ (append-nil (of_key table key (kept_cells c))
      ∙ (keys_sifted (is_kept_version c) (is_stable m.stable) table key c.cells cell_kept ∙ (ap (filter (is_stable m.stable)) cells ∙ one_stable m.stable shown))))

  base_line : line (base c) table key ≡ option_to_list (stable_one m.stable shown)
  base_line = line-base (descending table_lt c.tables) (descending placed_lt (kept c)) table key ∙ of_key_descending placed_lt table key (kept c) (stable_one m.stable shown) kept_is

  cut_line : line (cut m.history (length m.history) m.stable) table key ≡ filter (is_stable m.stable) (line m.history table key)
  cut_line = line-cut m.history (length m.history) m.stable table key ∙ ap (λ (l : List Entry). filter (is_stable m.stable) (line l table key)) (first-start [] m.history)

  pub agrees : core m.oldest (line (base c) table key) ≡ core m.oldest (line (cut m.history (length m.history) m.stable) table key)
  agrees =
      ap (core m.oldest) base_line
      ∙ (ap (λ (o : Option (Version Change)). core m.oldest (option_to_list (stable_one m.stable o))) (sym head)
      ∙ (cut_core m.oldest m.stable (line m.history table key) fit n.reached ∙ sym (ap (core m.oldest) cut_line)))

pub captures-cut : CapturesAreCut
captures-cut m table key chains s rows c valid none sees stands is n h =
    let shown = shown_at key rows in
    let head = sym (captures-newest m table key (chain_at key chains) s valid none sees stands) ∙ sym (is.shows key) in
    agrees m table key s rows c shown valid.stamps head n h (h.cells ∙ of_key_rows table key None rows is.fit.ascend)
    (λ v e. captured_seen s (chain_at key chains) v (sym (is.shows key) ∙ e))
