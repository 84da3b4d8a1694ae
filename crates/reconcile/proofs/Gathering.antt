-- The rows of the keys along a way.
use Rattle.std.proofs.Common.{◌≡◌, ◌<◌, ◌∙◌, ℕ, zero, suc, true, false, List, [], ◌∷◌, ◌++◌, length, get_or, Option, Some, None, refl, ap, sym, subst, inl, inr, arith}
use Rattle.std.specs.Prelude.{bytes_eq, slice_get}
use Rattle.std.specs.Option.{option_to_list}
use Rattle.std.specs.List.{AllByRecursion, AllPairs}
use Rattle.std.proofs.lemmas.Bool.{cases_Bool}
use Rattle.std.proofs.lemmas.List.{append_assoc}
use Rattle.std.proofs.lemmas.List.Elements.{at_from_Contains}
use Rattle.std.proofs.lemmas.Option.{same_Some, slice_get_within}
use Rattle.item.specs.declared.Change.{Change}
use Rattle.stamp.specs.declared.Version.{Version}
use Rattle.kv_model.specs.Holds.{Member, Descends}
use Rattle.kv_model.specs.Rows.{key_lt}
use Rattle.row_page.specs.Rows.{Row, RowFits, Ascends, comes_after, is_below, key_most}
use Rattle.row_page.proofs.Ascending.{above_differs, below_differs}
use Rattle.leaf_rows.specs.Rows.{AreFit}
use Rattle.reconcile.specs.Shows.{shown_at}
use Rattle.snapshot.specs.Sight.{Sight}
use Rattle.update_chain.proofs.Below.{member-append-left, member-append-right}
use Rattle.leaf_chains.specs.declared.slot.KeyChain.{KeyChain}
use Rattle.leaf_chains.specs.Slots.{chain_at, key_at, key_of, slot_of}
use Rattle.leaf_chains.specs.Nearest.{IsWayUp}
use Rattle.leaf_chains.proofs.Changes.{held, key_self, not_found, same_key, with_chain}
use Rattle.leaf_chains.proofs.Installs.{no_chain}
use Rattle.reconcile.specs.Capture.{captured, ChainFits, ChainsFit, IsCaptured}
use Rattle.reconcile.specs.Gathered.{row_of, rows_of, slots_at}
use Rattle.reconcile.proofs.Picking.{captured_fits, version_back}

-- ---- one slot after the other

rows_both : (s : Sight) (xs ys : List KeyChain) → rows_of s (xs ++ ys) ≡ rows_of s xs ++ rows_of s ys
rows_both s [] ys = refl
rows_both s (c ∷ xs) ys = ap (λ (l : List Row). row_of c.key (captured s c.chain) ++ l) (rows_both s xs ys) ∙ sym (append_assoc (row_of c.key (captured s c.chain)) (rows_of s xs) (rows_of s ys))

pub rows_next : (s : Sight) (slots : List KeyChain) (i : ℕ) (way : List ℕ) (rows : List Row)
    → (rows ++ rows_of s (option_to_list (slice_get slots i))) ++ rows_of s (slots_at slots way) ≡ rows ++ rows_of s (slots_at slots (i ∷ way))
rows_next s slots i way rows =
    append_assoc rows (rows_of s (option_to_list (slice_get slots i))) (rows_of s (slots_at slots way))
    ∙ ap (λ (l : List Row). rows ++ l) (sym (rows_both s (option_to_list (slice_get slots i)) (slots_at slots way)))

-- ---- keys that ascend

-- the first key is above the second
abbrev pub KeyAbove : KeyChain → KeyChain → Type 0
KeyAbove d c = is_below c.key d.key ≡ true

abbrev pub Climbs : List KeyChain → Type 0
Climbs chains = Descends KeyAbove chains

none_at : (key : List ℕ) (chains : List KeyChain) → ((c : KeyChain) → Member c chains → bytes_eq c.key key ≡ false) → chain_at key chains ≡ []
none_at key [] none = refl
none_at key (c ∷ chains) none = rw (none c (inl refl)) (none_at key chains (λ d there. none d (inr there)))

shown_row : (s : Sight) (c : KeyChain) (chains : List KeyChain) (key : List ℕ) (o : Option (Version Change)) → captured s c.chain ≡ o → Climbs (c ∷ chains) → shown_at key (rows_of s chains) ≡ captured s (chain_at key chains)
    → shown_at key (row_of c.key o ++ rows_of s chains) ≡ captured s (chain_at key (c ∷ chains))
shown_row s c chains key None is up rest = elim (cases_Bool (bytes_eq c.key key)) [
  | inl same ↦
      let others = none_at key chains (λ d there. above_differs d.key key (subst (λ (k : List ℕ). is_below k d.key ≡ true) (same_key c.key key same) (up.0 d there))) in
      rw same (rest ∙ (ap (captured s) others ∙ sym is))
  | inr other ↦ rw other rest
]
shown_row s c chains key (Some v) is up rest = elim (cases_Bool (bytes_eq c.key key)) [
  | inl same ↦ rw same (ap (λ (w : Version Change). Some w) (version_back v) ∙ sym is)
  | inr other ↦ rw other rest
]

shown_rows : (s : Sight) (chains : List KeyChain) (key : List ℕ) → Climbs chains → shown_at key (rows_of s chains) ≡ captured s (chain_at key chains)
shown_rows s [] key up = refl
shown_rows s (c ∷ chains) key up = shown_row s c chains key (captured s c.chain) refl up (shown_rows s chains key up.1)

pub chain_member : (chains : List KeyChain) (c : KeyChain) → Climbs chains → Member c chains → chain_at c.key chains ≡ c.chain
chain_member [] c up there = absurd there
chain_member (x ∷ chains) c up (inl same) = subst (λ (y : KeyChain). chain_at c.key (y ∷ chains) ≡ c.chain) same (rw (key_self c.key) refl)
chain_member (x ∷ chains) c up (inr later) = rw (below_differs x.key c.key (up.0 c later)) (chain_member chains c up.1 later)

-- ---- the slots of a way

abbrev Slot : List KeyChain → List ℕ → KeyChain → Type 0
Slot slots way c = (k : ℕ) × (k < length way) × (slice_get slots (get_or way k 0) ≡ Some c)

slot_later : (slots : List KeyChain) (i : ℕ) (way : List ℕ) (c : KeyChain) → Slot slots way c → Slot slots (i ∷ way) c
slot_later slots i way c at = (suc at.0, (let lt = at.1 in omega (arith, lt)), at.2)

slot_member : (slots : List KeyChain) (way : List ℕ) (c : KeyChain) → Member c (slots_at slots way) → Slot slots way c
slot_member slots [] c there = absurd there
slot_member slots (i ∷ way) c there = by (slice_get slots i) refl there (λ later. slot_later slots i way c (slot_member slots way c later)) where
  by : (o : Option KeyChain) → slice_get slots i ≡ o → Member c (option_to_list o ++ slots_at slots way) → (Member c (slots_at slots way) → Slot slots (i ∷ way) c) → Slot slots (i ∷ way) c
  by None is later go = go later
  by (Some x) is (inl same) go = (0, omega arith, is ∙ ap (λ (y : KeyChain). Some y) (sym same))
  by (Some x) is (inr later) go = go later

member_slot : (slots : List KeyChain) (way : List ℕ) (k : ℕ) (c : KeyChain) → k < length way → slice_get slots (get_or way k 0) ≡ Some c → Member c (slots_at slots way)
member_slot slots [] k c lt is = absurd (omega (arith, lt))
member_slot slots (i ∷ way) zero c lt is = member-append-left c (option_to_list (slice_get slots i)) (slots_at slots way) (subst (λ (o : Option KeyChain). Member c (option_to_list o)) (sym is) (inl refl))
member_slot slots (i ∷ way) (suc k) c lt is = member-append-right c (option_to_list (slice_get slots i)) (slots_at slots way) (member_slot slots way k c (omega (arith, lt)) is)

pub climbs : (slots : List KeyChain) (way : List ℕ) → AllPairs (λ i j. key_lt (key_at slots i) (key_at slots j) ≡ true) way → Climbs (slots_at slots way)
climbs slots [] up = tt
climbs slots (i ∷ way) up = by (slice_get slots i) refl (climbs slots way (λ a b d lt within. up (suc a) (suc b) d (omega (arith, lt)) (omega (arith, within)))) where
  above : (c d : KeyChain) → slice_get slots i ≡ Some c → Member d (slots_at slots way) → KeyAbove d c
  above c d is there =
      let at = slot_member slots way d there in
      let lt = at.1 in
      ap (λ (o : Option KeyChain). key_lt (key_of o) d.key) (sym is)
      ∙ (ap (λ (o : Option KeyChain). key_lt (key_at slots i) (key_of o)) (sym at.2) ∙ up 0 (suc at.0) 0 (omega arith) (omega (arith, lt)))

  by : (o : Option KeyChain) → slice_get slots i ≡ o → Climbs (slots_at slots way) → Climbs (option_to_list o ++ slots_at slots way)
  by None is rest = rest
  by (Some c) is rest = ((λ d there. above c d is there), rest)

none_in : (key : List ℕ) (slots : List KeyChain) (i : ℕ) (c : KeyChain) → slot_of key slots ≡ None → slice_get slots i ≡ Some c → bytes_eq c.key key ≡ false
none_in key [] i c none is = absurd cc
none_in key (x ∷ slots) zero c none is = subst (λ (y : KeyChain). bytes_eq y.key key ≡ false) (same_Some x c is) (not_found key x slots none).0
none_in key (x ∷ slots) (suc i) c none is = none_in key slots i c (not_found key x slots none).1 is

-- the slots of the whole way have the chains of all keys
pub way_chain : (slots : List KeyChain) (way : List ℕ) (key : List ℕ) → IsWayUp None slots way → chain_at key (slots_at slots way) ≡ chain_at key slots
way_chain slots way key w = by (slot_of key slots) refl where
  by : (o : Option ℕ) → slot_of key slots ≡ o → chain_at key (slots_at slots way) ≡ chain_at key slots
  by None is = none_at key (slots_at slots way) (λ c there. let at = slot_member slots way c there in none_in key slots (get_or way at.0 0) c is at.2) ∙ sym (no_chain key slots is)
  by (Some i) is =
      let here = held key slots i is in
      let at = at_from_Contains way i (w.whole i (slice_get_within slots i (with_chain key (chain_at key slots)) here) refl) in
      chain_member (slots_at slots way) (with_chain key (chain_at key slots)) (climbs slots way w.ascends)
      (member_slot slots way at.0 (with_chain key (chain_at key slots)) at.1 (ap (slice_get slots) (at.2 0) ∙ here))

-- ---- the rows

rows_fit : (s : Sight) (chains : List KeyChain) → ((c : KeyChain) → Member c chains → ChainFits c.key c.chain) → AllByRecursion (λ (r : Row). RowFits [] key_most r) (rows_of s chains)
rows_fit s [] fits = tt
rows_fit s (c ∷ chains) fits = by (captured s c.chain) refl (rows_fit s chains (λ d there. fits d (inr there))) where
  by : (o : Option (Version Change)) → captured s c.chain ≡ o → AllByRecursion (λ (r : Row). RowFits [] key_most r) (rows_of s chains) → AllByRecursion (λ (r : Row). RowFits [] key_most r) (row_of c.key o ++ rows_of s chains)
  by None is rest = rest
  by (Some v) is rest = (captured_fits s c.key c.chain v is (fits c (inl refl)), rest)

rows_ascend : (s : Sight) (before : Option (List ℕ)) (chains : List KeyChain) → ((c : KeyChain) → Member c chains → comes_after before c.key ≡ true) → Climbs chains → Ascends before (rows_of s chains)
rows_ascend s before [] after up = tt
rows_ascend s before (c ∷ chains) after up =
    by (captured s c.chain) (rows_ascend s before chains (λ d there. after d (inr there)) up.1) (rows_ascend s (Some c.key) chains (λ d there. up.0 d there) up.1)
  where
    by : (o : Option (Version Change)) → Ascends before (rows_of s chains) → Ascends (Some c.key) (rows_of s chains) → Ascends before (row_of c.key o ++ rows_of s chains)
    by None rest behind = rest
    by (Some v) rest behind = (after c (inl refl), behind)

pub way_fits : (s : Sight) (slots : List KeyChain) (way : List ℕ) → IsWayUp None slots way → ChainsFit slots → AreFit (rows_of s (slots_at slots way))
way_fits s slots way w fit = record {
  fit = rows_fit s (slots_at slots way) (λ c there. subst (ChainFits c.key) (sym (way_chain slots way c.key w) ∙ chain_member (slots_at slots way) c (climbs slots way w.ascends) there) (fit c.key));
  ascend = rows_ascend s None (slots_at slots way) (λ c there. refl) (climbs slots way w.ascends);
}

pub way_captured : (s : Sight) (slots : List KeyChain) (way : List ℕ) → IsWayUp None slots way → ChainsFit slots → IsCaptured s slots (rows_of s (slots_at slots way))
way_captured s slots way w fit = record {
  fit = way_fits s slots way w fit;
  shows = λ key. shown_rows s (slots_at slots way) key (climbs slots way w.ascends) ∙ ap (captured s) (way_chain slots way key w);
}
