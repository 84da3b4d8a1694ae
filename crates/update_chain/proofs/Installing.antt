-- Updates of a running transaction, over a chain that stands for their key.
use Rattle.std.proofs.Common.{◌≡◌, ◌⊎◌, ◌<◌, ℕ, refl, ap, sym, ◌∙◌, true, false, List, [], ◌∷◌, ◌++◌, length, inl, inr, subst, map}
use Rattle.std.specs.Prelude.{Option, Some, option_map, if◌then◌else◌}
use Rattle.std.proofs.lemmas.Bool.{cases_Bool, cases_eq, both_ways}
use Rattle.item.specs.declared.Change.{Change}
use Rattle.stamp.specs.declared.Version.{Version}
use Rattle.stamp.specs.declared.View.{View}
use Rattle.kv_model.specs.Holds.{Member}
use Rattle.kv_model.specs.Ordered.{NameBelow}
use Rattle.kv_model.specs.History.{Write, line, released, name_eq}
use Rattle.kv_model.specs.Machine.{Machine, Transaction, Running, AcceptWrite, transaction_of, name_of, after, with_transaction, written, unstamped}
use Rattle.kv_model.specs.Reads.{own_write, OthersEnding, MayWrite}
use Rattle.kv_model.specs.Valid.{Valid, PhaseStands}
use Rattle.kv_model.specs.StoreLaws.{Held}
use Rattle.kv_model.specs.Pending.{Update as ModelUpdate, settled as model_settled, MarkStands, BelowStands, IsTop, TopStands, KeyStands}
use Rattle.kv_model.proofs.OwnWrites.{at-own}
use Rattle.kv_model.proofs.Finishing.{name_eq-refl}
use Rattle.kv_model.proofs.Releases.{false-from, released-whole}
use Rattle.kv_model.proofs.Writing.{sees-line}
use Rattle.update_chain.specs.declared.update.Update.{Update}
use Rattle.update_chain.specs.Updates.{update_in, front_changed, installed, is_named, marked, stamped}
use Rattle.update_chain.specs.Writing.{may_follow_by}
use Rattle.update_chain.specs.EventLaws.{may_follow_front, InstallsStand, MarksStand}
use Rattle.update_chain.proofs.Reading.{Reader, running-alive, one-transaction}
use Rattle.update_chain.proofs.Writes.{never-follow}
use Rattle.update_chain.proofs.Tops.{TopOf, of-top, running-rest, named-top, front-cases, unheld, same-name}
use Rattle.update_chain.proofs.Carrying.{carried-top, taken, elsewhere, others-ending}

running-unreleased : (m : Machine) (s : ℕ) (t : Transaction) → Valid m → transaction_of m s ≡ Some t → t.phase ≡ Running → released m.history (length m.history) (name_of m t) ≡ false
running-unreleased m s t valid there running = subst (λ p. PhaseStands p m.history (name_of m t) t) running (valid.sessions.each s t there).phase

-- the same with another update on top
other-top : (m : Machine) (table : ℕ) (key : List ℕ) (chain : List ModelUpdate) (u : ModelUpdate) (cell : Option (Version Change)) (H : Version Change → Type 0) → (k : KeyStands m table key chain cell H) → IsTop m table key u k.below
    → KeyStands m table key (u ∷ map model_settled k.held) cell H
other-top m table key chain u cell H k top = record { top = u ∷ []; held = k.held; below = k.below; chained = refl; ordered = k.ordered; topped = top; stores = k.stores; layered = k.layered }

-- ---- marks and stamps

changed-top : (m : Machine) (s : ℕ) (t : Transaction) (w : Write) (table : ℕ) (key : List ℕ) (u x : ModelUpdate) (below : List (Version Change)) → t.phase ≡ Running → x.version.window.name ≡ u.version.window.name → x.version.change ≡ u.version.change
    → TopOf m s t w table key u below → TopOf m s t w table key x below
changed-top m s t w table key u x below running name change q = record {
  there = q.there;
  own = q.own;
  name = name ∙ q.name;
  change = change ∙ q.change;
  mark = subst (λ p. MarkStands p m.history (name_of m t) x) (sym running) tt;
  rest = subst (λ p. BelowStands p (name_of m t) x (line m.history table key) below) (sym running) (running-rest t (name_of m t) u (line m.history table key) below running q.rest);
  alone = q.alone;
  above = λ v at. subst (NameBelow v.window.name) (sym name) (q.above v at);
}

changes-stand : (m : Machine) (s : ℕ) (t : Transaction) (table : ℕ) (key : List ℕ) (change : Update → Update) (chain : List Update) (cell : Option (Version Change)) (H : Version Change → Type 0) → Valid m → transaction_of m s ≡ Some t → t.phase ≡ Running
    → ((u : Update) → (change u).version.window.name ≡ u.version.window.name) → ((u : Update) → (change u).version.change ≡ u.version.change)
    → KeyStands m table key (map update_in chain) cell H → KeyStands m table key (map update_in (front_changed (name_of m t) change chain)) cell H
changes-stand m s t table key change [] cell H valid there running names changes k = k
changes-stand m s t table key change (u ∷ older) cell H valid there running names changes k = elim (cases_Bool (is_named (name_of m t) u)) [
  | inr other ↦ subst (λ b. KeyStands m table key (map update_in ((if b then change u else u) ∷ older)) cell H) (sym other) k
  | inl named ↦ subst (λ b. KeyStands m table key (map update_in ((if b then change u else u) ∷ older)) cell H) (sym named) (by-front (same-name u.version.window.name (name_of m t) named)
      (front-cases m table key u older k.top k.held k.below k.chained k.topped))
] where
  by-front : u.version.window.name ≡ name_of m t
      → ((k.top ≡ []) × ((v : Version Change) × Member v k.held × (update_in u ≡ model_settled v))) ⊎ ((k.top ≡ update_in u ∷ []) × (map update_in older ≡ map model_settled k.held))
      → KeyStands m table key (map update_in (change u ∷ older)) cell H
  by-front name (inl held) = absurd (unheld m t table key (map update_in (u ∷ older)) cell H valid (running-unreleased m s t valid there running) k held.1.0 held.1.1 (sym (ap (λ (x : ModelUpdate). x.version.window.name) held.1.2) ∙ name))
  by-front name (inr top) = let q = named-top m s t table key (update_in u) k.below valid there (subst (λ l. TopStands m table key l k.below) top.0 k.topped) name in
      subst (λ l. KeyStands m table key (update_in (change u) ∷ l) cell H) (sym top.1) (other-top m table key (map update_in (u ∷ older)) (update_in (change u)) cell H k
      (of-top m s t q.0 table key (update_in (change u)) k.below (changed-top m s t q.0 table key (update_in u) (update_in (change u)) k.below running (names u) (changes u) q.1)))

pub marks-stand : MarksStand
marks-stand m s t table key chain cell records prepare commit durable valid there running k = (
  changes-stand m s t table key (marked prepare) chain cell _ valid there running (λ u. refl) (λ u. refl) k,
  changes-stand m s t table key (stamped commit durable) chain cell _ valid there running (λ u. refl) (λ u. refl) k,
)

-- ---- an accepted write

own-joined : (table : ℕ) (key : List ℕ) (change : Change) (t : Transaction) → own_write (written table key change t) table key ≡ Some (unstamped table key change)
own-joined table key change t = rw (at-own (unstamped table key change)) refl

-- each version that stands is of an older name
older-than : (m : Machine) (s : ℕ) (t : Transaction) (table : ℕ) (key : List ℕ) (v : Version Change) → Valid m → transaction_of m s ≡ Some t → t.phase ≡ Running → 0 < t.id → MayWrite m s t table key → Member v (line m.history table key)
    → NameBelow v.window.name (name_of m t)
older-than m s t table key v valid there running drawn may at = let seen = sees-line m s t table key valid there (running-alive t running) may v at in
    elim (valid.names v.window.name (released-whole m.history t.start v.window.name seen)) [
      | inl earlier ↦ inl earlier
      | inr now ↦ inr (now.0, (valid.sessions.each s t there).sight v.window.name seen now.0 drawn)
    ]

-- what may be followed leaves nobody but the writer himself on top
mine : (m : Machine) (s : ℕ) (t : Transaction) (view : View) (table : ℕ) (key : List ℕ) (u : Update) (below : List (Version Change)) → Reader m s t view → may_follow_by view u ≡ true → (q : IsTop m table key (update_in u) below) → q.session ≡ s
mine m s t view table key u below r follows q = elim (cases_eq q.session s) [
  | inl here ↦ here
  | inr apart ↦ absurd (both_ways (may_follow_by view u) (never-follow m s t view table key u below r q apart) follows)
]

-- the line and the others, where nobody or the writer himself is on top
record IsFree (m : Machine) (s : ℕ) (table : ℕ) (key : List ℕ) (below : List (Version Change)) : Type 0 where
  line_is : line m.history table key ≡ below
  alone : OthersEnding m s table key

-- the update is put over the versions that are held
installs : (m : Machine) (s : ℕ) (t : Transaction) (view : View) (table : ℕ) (key : List ℕ) (u : Update) (chain : List Update) (cell : Option (Version Change)) (H : Version Change → Type 0) → Reader m s t view → may_follow_front view chain ≡ true
    → u.version.window.name ≡ name_of m t → (k : KeyStands m table key (map update_in chain) cell H) → IsFree m s table key k.below × (map update_in (installed u chain) ≡ update_in u ∷ map model_settled k.held)
installs m s t view table key u [] cell H r follows name k = by-top k.top k.chained k.topped where
  by-top : (top : List ModelUpdate) → [] ≡ top ++ map model_settled k.held → TopStands m table key top k.below → IsFree m s table key k.below × (update_in u ∷ [] ≡ update_in u ∷ map model_settled k.held)
  by-top [] e topped = (record { line_is = topped.0; alone = λ o x other wrote. topped.1 o x wrote }, ap (λ l. update_in u ∷ l) e)
  by-top (x ∷ rest) e topped = absurd (cc)
installs m s t view table key u (v ∷ older) cell H r follows name k = by-front (front-cases m table key v older k.top k.held k.below k.chained k.topped) where
  by-front : ((k.top ≡ []) × ((o : Version Change) × Member o k.held × (update_in v ≡ model_settled o))) ⊎ ((k.top ≡ update_in v ∷ []) × (map update_in older ≡ map model_settled k.held))
      → IsFree m s table key k.below × (map update_in (installed u (v ∷ older)) ≡ update_in u ∷ map model_settled k.held)
  by-front (inl held) = let topped : TopStands m table key [] k.below = subst (λ l. TopStands m table key l k.below) held.0 k.topped in (
    record { line_is = topped.0; alone = λ o x other wrote. topped.1 o x wrote },
    ap (λ b. map update_in (if b then u ∷ older else u ∷ (v ∷ older))) (false-from (is_named u.version.window.name v) (λ e.
        unheld m t table key (map update_in (v ∷ older)) cell H r.valid (running-unreleased m s t r.valid r.there r.running) k held.1.0 held.1.1
        (sym (ap (λ (x : ModelUpdate). x.version.window.name) held.1.2) ∙ (same-name v.version.window.name u.version.window.name e ∙ name))))
        ∙ ap (λ l. update_in u ∷ l) (k.chained ∙ ap (λ l. l ++ map model_settled k.held) held.0),
  )
  by-front (inr top) = let q : IsTop m table key (update_in v) k.below = subst (λ l. TopStands m table key l k.below) top.0 k.topped in
      let own = top-own q in (
        record { line_is = running-rest t (name_of m t) (update_in v) (line m.history table key) k.below r.running own.1.rest; alone = own.1.alone },
        ap (λ b. map update_in (if b then u ∷ older else u ∷ (v ∷ older))) (subst (λ n. name_eq n u.version.window.name ≡ true) (name ∙ sym own.1.name) (name_eq-refl u.version.window.name))
            ∙ ap (λ l. update_in u ∷ l) top.1,
      ) where
        top-own : (q : IsTop m table key (update_in v) k.below) → (w : Write) × TopOf m s t w table key (update_in v) k.below
        top-own q = let here = mine m s t view table key v k.below r follows q in
            named-top m s t table key (update_in v) k.below r.valid r.there q (q.name ∙ ap (name_of m) (one-transaction m s q.session t q.transaction r.there q.there here))

installed-top : (m : Machine) (s : ℕ) (t : Transaction) (table : ℕ) (key : List ℕ) (u : Update) (below : List (Version Change)) → Valid m → transaction_of m s ≡ Some t → t.phase ≡ Running → 0 < t.id → MayWrite m s t table key
    → u.version.window.name ≡ name_of m t → IsFree m s table key below → IsTop (after m (AcceptWrite s table key u.version.change)) table key (update_in u) below
installed-top m s t table key u below valid there running drawn may name free = subst (λ o. IsTop (with_transaction m s o) table key (update_in u) below) (sym (ap (option_map (written table key u.version.change)) there)) (record {
  session = s;
  transaction = now;
  write = unstamped table key u.version.change;
  there = taken m s t (Some now) there;
  own = own-joined table key u.version.change t;
  name = name;
  change = refl;
  mark = subst (λ p. MarkStands p m.history (name_of m t) (update_in u)) (sym running) tt;
  rest = subst (λ p. BelowStands p (name_of m t) (update_in u) (line m.history table key) below) (sym running) free.line_is;
  alone = others-ending m (with_transaction m s (Some now)) s table key (λ r x other at. elsewhere m s (Some now) r x other at) free.alone;
  above = λ v at. subst (NameBelow v.window.name) (sym name) (older-than m s t table key v valid there running drawn may (subst (Member v) (sym free.line_is) at));
}) where
  now : Transaction
  now = written table key u.version.change t

pub installs-stand : InstallsStand
installs-stand m s t view table key u chain cell records valid there may stands follows name k =
    let done = installs m s t view table key u chain cell _ (record { valid = valid; there = there; running = running; stands = stands }) follows name k in
    subst (λ c. KeyStands (after m (AcceptWrite s table key u.version.change)) table key c cell (Held records)) (sym done.1)
    (carried-top m (AcceptWrite s table key u.version.change) table key _ cell _ valid may k (update_in u ∷ []) (installed-top m s t table key u k.below valid there running drawn write name done.0)) where
      same : may.0 ≡ t
      same = one-transaction m s s t may.0 there may.1 refl

      running : t.phase ≡ Running
      running = subst (λ (x : Transaction). x.phase ≡ Running) same may.2.0

      drawn : 0 < t.id
      drawn = subst (λ (x : Transaction). 0 < x.id) same may.2.1

      write : MayWrite m s t table key
      write = subst (λ (x : Transaction). MayWrite m s x table key) same may.2.2
