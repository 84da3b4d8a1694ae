-- What is made of all lists.
use Rattle.std.proofs.Common.{◌≡◌, ◌⊎◌, ◌∙◌, ℕ, Bool, true, List, [], ◌∷◌, ◌++◌, map, drop, Option, Some, None, refl, ap, sym, subst, inl, inr}
use Rattle.std.specs.Prelude.{filter, find, bytes_eq, option_map}
use Rattle.std.specs.Option.{option_to_list}
use Rattle.std.specs.List.{AllByRecursion, flat_map}
use Rattle.std.proofs.lemmas.Bool.{cases_Bool}
use Rattle.item.specs.declared.Change.{Change}
use Rattle.stamp.specs.declared.Name.{Name}
use Rattle.stamp.specs.declared.Version.{Version}
use Rattle.kv_model.specs.Holds.{Member}
use Rattle.kv_model.specs.History.{down_to}
use Rattle.row_page.specs.Rows.{Ascends, Row, RowFits, comes_after, is_below, key_most}
use Rattle.leaf_rows.specs.Rows.{AreFit}
use Rattle.reconcile.specs.Shows.{shown_at}
use Rattle.update_chain.specs.declared.update.Update.{Update}
use Rattle.leaf_chains.specs.declared.slot.KeyChain.{KeyChain}
use Rattle.leaf_chains.specs.Slots.{chain_at}
use Rattle.reconcile.proofs.Gathering.{Climbs}
use Rattle.reconcile.specs.declared.image.Moved.{Moved}
use Rattle.reconcile.specs.declared.live.Live.{Live}
use Rattle.reconcile.specs.Held.{IsReconciled, held_at, is_live, is_past, lives, moved_of, passes, versions}
use Rattle.reconcile.specs.Merged.{all_gone, all_kept, gone, kept, merged, moved_row}
use Rattle.reconcile.specs.Moving.{InKeyOrder, NotBelow, versions_in}
use Rattle.reconcile.proofs.Merging.{Each, Rises, Tidy, at, each_both, keyed, merged_held, merged_tidy, of_one_key, row_version, rows_in, shown_keyed}
use Rattle.reconcile.proofs.Sifting.{down_map, down_member, drop_map, drop_member, filter_map, filter_member, find_map, head_of}

-- ---- what is made is of the list

one_member : (o : Option Row) (q : Row) → Member q (option_to_list o) → o ≡ Some q
one_member None q there = absurd there
one_member (Some r) q (inl same) = ap (λ (x : Row). Some x) (sym same)
one_member (Some r) q (inr none) = absurd none

found_member : (p : Row → Bool) (l : List Row) (q : Row) → find p l ≡ Some q → Member q l
found_member p [] q is = absurd cc
found_member p (r ∷ l) q is = elim (cases_Bool (p r)) [
  | inl t ↦ let found : Some r ≡ Some q = rw t at is in let same : r ≡ q = cc in inl (sym same)
  | inr f ↦ inr (found_member p l q (rw f at is))
]

kept_member : (live : Live) (l : List Row) (q : Row) → Member q (kept live l) → Member q l
kept_member live l q there = found_member (λ r. lives live r.1.window) l q (one_member (find (λ (r : Row). lives live r.1.window) l) q there)

gone_member : (live : Live) (pin : ℕ) (floor : Name) (l : List Row) (q : Row) → Member q (gone live pin floor l) → Member q l
gone_member live pin floor l q there =
    let alive = filter (λ (r : Row). lives live r.1.window) l in
    (filter_member (λ (r : Row). lives live r.1.window) l q (down_member (λ (r : Row). passes pin floor r.1.window) alive q (drop_member (down_to (λ (r : Row). passes pin floor r.1.window) alive) q there))).0

flat_each : (f : List Row → List Row) → ((l : List Row) (q : Row) → Member q (f l) → Member q l) → (P : Row → Type 0) (gs : List (List Row)) → Each P (rows_in gs) → Each P (flat_map f gs)
flat_each f within P [] all q there = absurd there
flat_each f within P (g ∷ gs) all x at = each_both P (f g) (flat_map f gs) (λ q there. all q (front g q (within g q there))) (flat_each f within P gs (λ q there. all q (behind g q there))) x at where
  front : (l : List Row) (q : Row) → Member q l → Member q (l ++ rows_in gs)
  front [] q there = absurd there
  front (r ∷ l) q (inl same) = inl same
  front (r ∷ l) q (inr later) = inr (front l q later)

  behind : (l : List Row) (q : Row) → Member q (rows_in gs) → Member q (l ++ rows_in gs)
  behind [] q there = there
  behind (r ∷ l) q there = inr (behind l q there)

-- ---- the rows are in order and fit

each_fit : (P : Row → Type 0) (rows : List Row) → Each P rows → AllByRecursion P rows
each_fit P [] all = tt
each_fit P (r ∷ rows) all = (all r (inl refl), each_fit P rows (λ q there. all q (inr there)))

kept_ascend : (live : Live) (before : Option (List ℕ)) (gs : List (List Row)) → Each (λ q. comes_after before q.0 ≡ true) (all_kept live gs) → Tidy gs → Ascends before (all_kept live gs)
kept_ascend live before [] after tidy = tt
kept_ascend live before (g ∷ gs) after tidy = by (find (λ (r : Row). lives live r.1.window) g) (λ q there. kept_member live g q there) after (λ each. kept_ascend live before gs each tidy.others) (λ r each. kept_ascend live (Some r.0) gs each tidy.others) where
  later : (r : Row) → r.0 ≡ tidy.key → Each (λ q. is_below r.0 q.0 ≡ true) (all_kept live gs)
  later r is = flat_each (kept live) (kept_member live) (λ q. is_below r.0 q.0 ≡ true) gs (subst (λ (k : List ℕ). Each (λ q. is_below k q.0 ≡ true) (rows_in gs)) (sym is) tidy.over)

  by : (o : Option Row) → ((q : Row) → Member q (option_to_list o) → Member q g) → Each (λ q. comes_after before q.0 ≡ true) (option_to_list o ++ all_kept live gs)
      → (Each (λ q. comes_after before q.0 ≡ true) (all_kept live gs) → Ascends before (all_kept live gs)) → ((r : Row) → Each (λ q. is_below r.0 q.0 ≡ true) (all_kept live gs) → Ascends (Some r.0) (all_kept live gs))
      → Ascends before (option_to_list o ++ all_kept live gs)
  by None within after none some = none after
  by (Some r) within after none some = (after r (inl refl), some r (later r (tidy.one r (within r (inl refl)))))

pub kept_fit : (live : Live) (gs : List (List Row)) → Tidy gs → Each (λ q. RowFits [] key_most q) (rows_in gs) → AreFit (all_kept live gs)
kept_fit live gs tidy fit = record {
  fit = each_fit (λ q. RowFits [] key_most q) (all_kept live gs) (flat_each (kept live) (kept_member live) (λ q. RowFits [] key_most q) gs fit);
  ascend = kept_ascend live None gs (λ q there. refl) tidy;
}

-- ---- of each key

shown_kept : (live : Live) (gs : List (List Row)) (key : List ℕ) → Tidy gs → shown_at key (all_kept live gs) ≡ find (is_live live) (keyed key (rows_in gs))
shown_kept live gs key tidy =
    let mine = filter (at key) (rows_in gs) in
    shown_keyed key (all_kept live gs)
    ∙ (ap (λ (l : List Row). head_of (map row_version l)) (of_one_key (kept live) refl (kept_member live) gs tidy key)
    ∙ (first (find (λ (r : Row). lives live r.1.window) mine) ∙ sym (find_map row_version (λ (r : Row). lives live r.1.window) (is_live live) mine (λ r. refl)))) where
      first : (o : Option Row) → head_of (map row_version (option_to_list o)) ≡ option_map row_version o
      first None = refl
      first (Some r) = refl

pub is_reconciled : (live : Live) (chains slots : List KeyChain) (page : List Row) → Climbs chains → Rises page → ((key : List ℕ) → chain_at key chains ≡ chain_at key slots) → AreFit (all_kept live (merged chains page))
    → IsReconciled (is_live live) page slots (all_kept live (merged chains page))
is_reconciled live chains slots page climbs up same fit = record {
  fit = fit;
  shows = λ key.
      shown_kept live (merged chains page) key (merged_tidy chains page climbs up)
      ∙ (ap (λ (l : List (Version Change)). find (is_live live) l) (merged_held key chains page climbs up)
      ∙ ap (λ (l : List Update). find (is_live live) (versions l ++ option_to_list (shown_at key page))) (same key));
}

moved_keyed : (key : List ℕ) (rows : List Row) → versions_in key (map moved_row rows) ≡ keyed key rows
moved_keyed key [] = refl
moved_keyed key (r ∷ rows) = elim (cases_Bool (bytes_eq r.0 key)) [
  | inl same ↦ rw same (ap (λ (l : List (Version Change)). row_version r ∷ l) (moved_keyed key rows))
  | inr other ↦ rw other (moved_keyed key rows)
]

gone_versions : (live : Live) (pin : ℕ) (floor : Name) (l : List Row) → map row_version (gone live pin floor l) ≡ moved_of (is_live live) (is_past pin floor) (map row_version l)
gone_versions live pin floor l =
    let alive = filter (λ (r : Row). lives live r.1.window) l in
    let down = down_to (λ (r : Row). passes pin floor r.1.window) alive in
    sym (drop_map row_version down)
    ∙ ap (λ (k : List (Version Change)). drop 1 k)
    (sym (down_map row_version (λ (r : Row). passes pin floor r.1.window) (is_past pin floor) alive (λ r. refl))
    ∙ ap (λ (k : List (Version Change)). down_to (is_past pin floor) k) (sym (filter_map row_version (λ (r : Row). lives live r.1.window) (is_live live) l (λ r. refl))))

pub moved_are : (live : Live) (pin : ℕ) (floor : Name) (chains slots : List KeyChain) (page : List Row) → Climbs chains → Rises page → ((key : List ℕ) → chain_at key chains ≡ chain_at key slots)
    → (key : List ℕ) → versions_in key (map moved_row (all_gone live pin floor (merged chains page))) ≡ moved_of (is_live live) (is_past pin floor) (held_at key page slots)
moved_are live pin floor chains slots page climbs up same key =
    moved_keyed key (all_gone live pin floor (merged chains page))
    ∙ (ap (λ (l : List Row). map row_version l) (of_one_key (gone live pin floor) refl (gone_member live pin floor) (merged chains page) (merged_tidy chains page climbs up) key)
    ∙ (gone_versions live pin floor (filter (at key) (rows_in (merged chains page)))
    ∙ (ap (λ (l : List (Version Change)). moved_of (is_live live) (is_past pin floor) l) (merged_held key chains page climbs up)
    ∙ ap (λ (l : List Update). moved_of (is_live live) (is_past pin floor) (versions l ++ option_to_list (shown_at key page))) (same key))))

-- ---- what moves is in order

map_member : (rows : List Row) (m : Moved) → Member m (map moved_row rows) → (q : Row) × Member q rows × (m ≡ moved_row q)
map_member [] m there = absurd there
map_member (r ∷ rows) m (inl same) = (r, inl refl, same)
map_member (r ∷ rows) m (inr later) = let at = map_member rows m later in (at.0, inr at.1, at.2)

order_front : (k : List ℕ) (front rows : List Row) → Each (λ q. q.0 ≡ k) front → Each (λ q. is_below k q.0 ≡ true) rows → InKeyOrder (map moved_row rows) → InKeyOrder (map moved_row (front ++ rows))
order_front k [] rows one over rest = rest
order_front k (r ∷ front) rows one over rest = (first, order_front k front rows (λ q there. one q (inr there)) over rest) where
  mine : r.0 ≡ k
  mine = one r (inl refl)

  each : Each (λ q. (r.0 ≡ q.0) ⊎ (is_below r.0 q.0 ≡ true)) (front ++ rows)
  each = each_both (λ q. (r.0 ≡ q.0) ⊎ (is_below r.0 q.0 ≡ true)) front rows (λ q there. inl (mine ∙ sym (one q (inr there)))) (λ q there. inr (subst (λ (x : List ℕ). is_below x q.0 ≡ true) (sym mine) (over q there)))

  first : (m : Moved) → Member m (map moved_row (front ++ rows)) → NotBelow m (moved_row r)
  first m there = let at = map_member (front ++ rows) m there in subst (λ (x : Moved). NotBelow x (moved_row r)) (sym at.2) (each at.0 at.1)

pub moved_order : (live : Live) (pin : ℕ) (floor : Name) (gs : List (List Row)) → Tidy gs → InKeyOrder (map moved_row (all_gone live pin floor gs))
moved_order live pin floor [] tidy = tt
moved_order live pin floor (g ∷ gs) tidy =
    order_front tidy.key (gone live pin floor g) (all_gone live pin floor gs) (λ q there. tidy.one q (gone_member live pin floor g q there))
    (flat_each (gone live pin floor) (gone_member live pin floor) (λ q. is_below tidy.key q.0 ≡ true) gs tidy.over) (moved_order live pin floor gs tidy.others)
