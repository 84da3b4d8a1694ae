-- The keys that a transaction wrote, after one write more.
use Rattle.std.proofs.Common.{◌≡◌, ◌⊎◌, ◌<◌, ℕ, refl, ap, sym, ◌∙◌, Bool, true, false, List, [], ◌∷◌, ◌++◌, length, inl, inr, subst, map}
use Rattle.std.specs.Prelude.{Option, Some, filter, find, not}
use Rattle.std.proofs.lemmas.Bool.{cases_Bool, cases_eq, both_ways}
use Rattle.item.specs.declared.Change.{Change}
use Rattle.stamp.specs.declared.Name.{Name}
use Rattle.stamp.specs.declared.Version.{Version}
use Rattle.kv_model.specs.Holds.{Member}
use Rattle.kv_model.specs.History.{Write, line, released, writes_at}
use Rattle.kv_model.specs.Machine.{Machine, Transaction, Running, transaction_of, name_of, joined, unstamped}
use Rattle.kv_model.specs.Reads.{own_write}
use Rattle.kv_model.specs.Valid.{Valid, PhaseStands}
use Rattle.kv_model.specs.Pending.{Update as ModelUpdate, settled, TopStands}
use Rattle.kv_model.proofs.OwnWrites.{at-parts, member-joined}
use Rattle.kv_model.proofs.Releases.{name_eq-same}
use Rattle.kv_model.proofs.Snapshots.{line-released}
use Rattle.tree_dir.specs.declared.leaf.Leaf.{Leaf}
use Rattle.update_chain.specs.declared.update.Update.{Update}
use Rattle.update_chain.specs.EventLaws.{StandsFor}
use Rattle.update_chain.specs.Updates.{update_in, is_led_by}
use Rattle.update_chain.proofs.Below.{member-append, member-append-left, member-append-right}
use Rattle.update_chain.proofs.Reading.{one-transaction}
use Rattle.call_steps.specs.declared.frame.FramePiece.{FramePiece}
use Rattle.call_steps.specs.declared.written.WrittenKey.{WrittenKey}
use Rattle.call_steps.specs.Looks.{noted}
use Rattle.call_steps.specs.State.{State}
use Rattle.engine_world.specs.Leaves.{AreNoted, IsSlotOf}
use Rattle.engine_world.proofs.Beside.{SlotsStay}
use Rattle.engine_world.proofs.OnePiece.{slot-stays}

-- ---- who leads a chain wrote its key

pub led-own : (m : Machine) (session : ℕ) (t : Transaction) (table : ℕ) (key : List ℕ) (chain : List Update) (row : Option (Version Change)) → Valid m → transaction_of m session ≡ Some t → t.phase ≡ Running → 0 < t.id → StandsFor m table key chain row []
    → is_led_by (name_of m t) chain ≡ true → (w : Write) × (own_write t table key ≡ Some w)
led-own m session t table key [] row valid there running drawn k led = absurd (cc)
led-own m session t table key (u ∷ older) row valid there running drawn k led = by-top k.top k.chained k.topped where
  named : u.version.window.name ≡ name_of m t
  named = let p = name_eq-same u.version.window.name (name_of m t) led in ap (λ n. record { run = n; id = u.version.window.name.id }) p.0 ∙ ap (λ n. record { run = m.run; id = n }) p.1

  -- what was released is no update of a transaction that runs
  by-held : (held : List (Version Change)) → ((v : Version Change) → Member v held → Member v (line m.history table key)) → update_in u ∷ map update_in older ≡ map settled held → ⊥
  by-held [] within e = absurd (cc)
  by-held (v ∷ rest) within e =
      let first : update_in u ≡ settled v = cc in
      let name : v.window.name ≡ name_of m t = ap (λ (z : ModelUpdate). z.version.window.name) (sym first) ∙ named in
      let phase : released m.history (length m.history) (name_of m t) ≡ false = subst (λ p. PhaseStands p m.history (name_of m t) t) running (valid.sessions.each session t there).phase in
      both_ways (released m.history (length m.history) (name_of m t)) phase (subst (λ n. released m.history (length m.history) n ≡ true) name (line-released m.history valid.orderly table key v (within v (inl refl))))

  by-top : (top : List ModelUpdate) → update_in u ∷ map update_in older ≡ top ++ map settled k.held → TopStands m table key top k.below → (w : Write) × (own_write t table key ≡ Some w)
  by-top [] e topped = absurd (by-held k.held (λ v at. subst (Member v) (sym topped.0) (k.stores.kept.within v (inl (inl at)))) e)
  by-top (x ∷ []) e q = elim (cases_eq q.session session) [
    | inl here ↦ (q.write, subst (λ z. own_write z table key ≡ Some q.write) (one-transaction m session q.session t q.transaction there q.there here) q.own)
    | inr other ↦ absurd (valid.sessions.distinct session q.session t q.transaction there q.there (λ same. other (sym same)) drawn ids)
  ] where
    ids : t.id ≡ q.transaction.id
    ids = let first : update_in u ≡ x = cc in ap (λ (n : Name). n.id) (sym named ∙ (ap (λ (z : ModelUpdate). z.version.window.name) first ∙ q.name))
  by-top (x ∷ (y ∷ more)) e topped = absurd topped

pub own-member : (t : Transaction) (table : ℕ) (key : List ℕ) (w : Write) → own_write t table key ≡ Some w → Member w t.writes × (writes_at table key w ≡ true)
own-member t table key w own = find-member (writes_at table key) t.writes w own where
  find-member : (p : Write → Bool) (l : List Write) (x : Write) → find p l ≡ Some x → Member x l × (p x ≡ true)
  find-member p [] x e = absurd (cc)
  find-member p (y ∷ ys) x e = elim (cases_Bool (p y)) [
    | inl is ↦ let same : Some y ≡ Some x = rw is at e in let one : y ≡ x = cc in (inl (sym one), subst (λ z. p z ≡ true) one is)
    | inr isnt ↦ let later = find-member p ys x (rw isnt at e) in (inr later.0, later.1)
  ]

-- ---- the writes with one more

member-kept : (p : Write → Bool) (l : List Write) (x : Write) → Member x l → p x ≡ true → Member x (filter p l)
member-kept p [] x there is = absurd there
member-kept p (y ∷ ys) x (inl same) is = let passed : p y ≡ true = subst (λ z. p z ≡ true) same is in rw passed (inl same)
member-kept p (y ∷ ys) x (inr there) is = elim (cases_Bool (p y)) [ inl t ↦ rw t (inr (member-kept p ys x there is)) | inr f ↦ rw f (member-kept p ys x there is) ]

not-from : (b : Bool) → b ≡ false → not b ≡ true
not-from b e = rw e refl

module _ (leaves : List Leaf) (pieces later : List FramePiece) (table : ℕ) (key : List ℕ) (change : Change) (writes : List Write) (a : State) (k : WrittenKey)
    (stays : SlotsStay pieces later) (old : AreNoted leaves pieces writes a.written) (mine : IsSlotOf leaves later k table key) where
  abbrev new : Write
  new = unstamped table key change

  slot-at : (k : WrittenKey) (n : ℕ) (l : List ℕ) (o : ℕ) (r : List ℕ) → IsSlotOf leaves later k n l → n ≡ o → l ≡ r → IsSlotOf leaves later k o r
  slot-at k n l o r s numbers keys = subst (λ i. IsSlotOf leaves later k i r) numbers (subst (λ z. IsSlotOf leaves later k n z) keys s)

  noted-before : (w : Write) → Member w writes → (j : WrittenKey) × Member j a.written × IsSlotOf leaves later j w.table w.key
  noted-before w member = let o = old.noted w member in (o.0, o.1, slot-stays leaves pieces later stays o.0 w.table w.key o.2)

  wrote-before : (j : WrittenKey) → Member j a.written → (w : Write) × Member w (joined new writes) × IsSlotOf leaves later j w.table w.key
  wrote-before j member = let o = old.wrote j member in let s = slot-stays leaves pieces later stays j o.0.table o.0.key o.2 in elim (cases_Bool (writes_at table key o.0)) [
    | inl is ↦ let parts = at-parts table key o.0 is in (new, inl refl, slot-at j o.0.table o.0.key table key s parts.0 parts.1)
    | inr isnt ↦ (o.0, inr (member-kept (λ w. not (writes_at table key w)) writes o.0 o.1 (not-from (writes_at table key o.0) isnt)), s)
  ]

  -- the key is noted where it was not led by the own name; else it was noted before
  pub noted-on : (led : Bool) → (led ≡ true → (w : Write) × Member w writes × (writes_at table key w ≡ true)) → AreNoted leaves later (joined new writes) (noted led k a).written
  noted-on true own = record {
    noted = λ w member. elim (member-joined new writes w member) [ inl is ↦ again w is | inr there ↦ noted-before w there ];
    wrote = λ j member. wrote-before j member;
  } where
    again : (w : Write) → w ≡ new → (j : WrittenKey) × Member j a.written × IsSlotOf leaves later j w.table w.key
    again w is = let o = own refl in let parts = at-parts table key o.0 o.2 in let n = noted-before o.0 o.1 in
        (n.0, n.1, slot-at n.0 o.0.table o.0.key w.table w.key n.2 (parts.0 ∙ ap (λ (z : Write). z.table) (sym is)) (parts.1 ∙ ap (λ (z : Write). z.key) (sym is)))
  noted-on false own = record {
    noted = λ w member. elim (member-joined new writes w member) [
      | inl is ↦ (k, member-append-right k a.written (k ∷ []) (inl refl), slot-at k table key w.table w.key mine (ap (λ (z : Write). z.table) (sym is)) (ap (λ (z : Write). z.key) (sym is)))
      | inr there ↦ let n = noted-before w there in (n.0, member-append-left n.0 a.written (k ∷ []) n.1, n.2)
    ];
    wrote = λ j member. by j (member-append j a.written (k ∷ []) member);
  } where
    by : (j : WrittenKey) → Member j a.written ⊎ Member j (k ∷ []) → (w : Write) × Member w (joined new writes) × IsSlotOf leaves later j w.table w.key
    by j (inl there) = wrote-before j there
    by j (inr (inl is)) = (new, inl refl, subst (λ z. IsSlotOf leaves later z table key) (sym is) mine)
    by j (inr (inr none)) = absurd none
