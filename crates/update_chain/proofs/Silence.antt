-- What gives a reader nothing goes on to give it nothing.
use Rattle.std.proofs.Common.{◌≡◌, ◌≢◌, ◌⊎◌, ◌≤◌, ℕ, refl, ap, sym, ◌∙◌, Bool, true, false, ◌&&◌, ◌||◌, List, [], ◌∷◌, length, inl, inr, subst, map, arith}
use Rattle.std.specs.Prelude.{find, Option, Some, None, ◌==◌, if◌then◌else◌}
use Rattle.std.proofs.lemmas.Bool.{cases_Bool, and_left, and_right, and_cases, or_parts, or_from}
use Rattle.item.specs.declared.Change.{Change}
use Rattle.item.specs.declared.Change.TheVariants.{Put, Remove}
use Rattle.stamp.specs.declared.Name.{Name}
use Rattle.stamp.specs.declared.Version.{Version}
use Rattle.stamp.specs.declared.View.{View}
use Rattle.kv_model.specs.Holds.{Member}
use Rattle.kv_model.specs.History.{Write, line, released, reads_at}
use Rattle.kv_model.specs.Machine.{Machine, Transaction, Running, Resolving, transaction_of, name_of}
use Rattle.kv_model.specs.Reads.{own_write}
use Rattle.kv_model.specs.Valid.{PhaseStands}
use Rattle.kv_model.specs.Pending.{Update as ModelUpdate, settled as model_settled, MarkStands, BelowStands, TopStands, KeyStands}
use Rattle.kv_model.proofs.Newest.{find-none}
use Rattle.kv_model.proofs.Ordering.{line-descends}
use Rattle.kv_model.proofs.Prepares.{later-unread}
use Rattle.kv_model.proofs.Releases.{false-from}
use Rattle.snapshot.specs.Sight.{is_seen, sight_of}
use Rattle.snapshot.specs.Matters.{IsLive, Counts}
use Rattle.snapshot.proofs.GoingOn.{follows-after}
use Rattle.update_chain.specs.declared.update.Update.{Update}
use Rattle.update_chain.specs.Updates.{update_in, is_named, front_changed, installed, marked, stamped, undone, trimmed, covers_at, is_own, stamp_at, decides, Conflicts, IsOlder, reply_of, reply_to}
use Rattle.update_chain.specs.EventLaws.{outcome}
use Rattle.update_chain.specs.StaySilent.{IsSilent, ChainsStaySilent, AdmittedGoOn}
use Rattle.update_chain.proofs.Meeting.{back, marked-stamp}
use Rattle.update_chain.proofs.Reading.{Reader, read-past, other-isnt}
use Rattle.update_chain.proofs.Writes.{unseen}
use Rattle.update_chain.proofs.Tops.{TopOf, named-top, front-cases, frame-stands, same-name}
use Rattle.update_chain.proofs.Stamping.{same-named, stamped-held}
use Rattle.update_chain.proofs.Trimming.{down-within}

-- ---- silence

reply-gives : (b : Bool) (c : Change) (id : ℕ) → (if b then reply_of c else Conflicts id) ≡ IsOlder → ⊥
reply-gives true (Put value) id e = cc
reply-gives true Remove id e = cc
reply-gives false c id e = cc

-- no update of a chain decides that gives nothing
none-decides : (view : View) (chain : List Update) → IsSilent view chain → (u : Update) → Member u chain → decides view u ≡ false
none-decides view chain silent u at = by-found (find (decides view) chain) refl silent where
  by-found : (o : Option Update) → find (decides view) chain ≡ o → reply_to view o ≡ IsOlder → decides view u ≡ false
  by-found None none e = false-from (decides view u) (λ is. find-none (decides view) chain none u at is)
  by-found (Some x) some e = absurd (reply-gives (is_own view x || (x.prepared == 0)) x.version.change x.version.window.name.id e)

silent-from : (view : View) (chain : List Update) → ((u : Update) → Member u chain → decides view u ≡ false) → IsSilent view chain
silent-from view [] none = refl
silent-from view (u ∷ older) none = read-past view u older (none u (inl refl)) ∙ silent-from view older (λ x at. none x (inr at))

front-silent : (view : View) (name : Name) (change : Update → Update) (chain : List Update) → IsSilent view chain → ((u : Update) → Member u chain → is_named name u ≡ true → decides view (change u) ≡ false) → IsSilent view (front_changed name change chain)
front-silent view name change [] silent none = silent
front-silent view name change (u ∷ older) silent none = elim (cases_Bool (is_named name u)) [
  | inr other ↦ subst (λ b. IsSilent view ((if b then change u else u) ∷ older)) (sym other) silent
  | inl named ↦ subst (λ b. IsSilent view ((if b then change u else u) ∷ older)) (sym named)
      (read-past view (change u) older (none u (inl refl) named) ∙ silent-from view older (λ x at. none-decides view (u ∷ older) silent x (inr at)))
]

-- ---- updates of others

-- of a running transaction
module _ (m : Machine) (s : ℕ) (t : Transaction) (view : View) (r : Reader m s t view) (other : ℕ) (x : Transaction) (apart : other ≢ s) (there : transaction_of m other ≡ Some x) (running : x.phase ≡ Running) (drawn : x.id ≢ 0) where
  live : IsLive m (name_of m x)
  live = record { session = other; transaction = x; there = there; drawn = omega arith; name = refl; counts = subst (λ p. Counts p x) (sym running) tt }

  never : released m.history (length m.history) (name_of m x) ≡ false
  never = subst (λ p. PhaseStands p m.history (name_of m x) x) running (r.valid.sessions.each other x there).phase

  running-passes : (u : Update) → u.version.window.name ≡ name_of m x → decides view u ≡ false
  running-passes u name = ap (λ b. b || (is_seen (sight_of view) u.version.window.name && reads_at view.read (stamp_at u))) (other-isnt m s other t x view u r apart there (omega arith) name)
      ∙ and_left (is_seen (sight_of view) u.version.window.name) (reads_at view.read (stamp_at u)) (ap (is_seen (sight_of view)) name ∙ unseen m s t x view other r there live never)

  installs-silent : (u : Update) (chain : List Update) → u.version.window.name ≡ name_of m x → IsSilent view chain → IsSilent view (installed u chain)
  installs-silent u [] name silent = silent-from view (u ∷ []) (λ v at. elim at [ inl e ↦ subst (λ z. decides view z ≡ false) (sym e) (running-passes u name) | inr none ↦ absurd none ])
  installs-silent u (v ∷ older) name silent = elim (cases_Bool (is_named u.version.window.name v)) [
    | inl same ↦ subst (λ b. IsSilent view (if b then u ∷ older else u ∷ (v ∷ older))) (sym same)
        (read-past view u older (running-passes u name) ∙ silent-from view older (λ z at. none-decides view (v ∷ older) silent z (inr at)))
    | inr apart ↦ subst (λ b. IsSilent view (if b then u ∷ older else u ∷ (v ∷ older))) (sym apart) (read-past view u (v ∷ older) (running-passes u name) ∙ silent)
  ]

-- of a resolving one, stamped: not before the prepare that was not admitted
module _ (m : Machine) (s : ℕ) (t : Transaction) (view : View) (table : ℕ) (key : List ℕ) (r : Reader m s t view) (other : ℕ) (x : Transaction) (w : Write) (commit durable : ℕ) (apart : other ≢ s) (there : transaction_of m other ≡ Some x) (resolving : x.phase ≡ Resolving)
    (own : own_write x table key ≡ Some w) (at : Member (outcome m x w commit durable) (line m.history table key)) where
  stamp-later : (u : ModelUpdate) (below : List (Version Change)) → BelowStands Resolving (name_of m x) u (line m.history table key) below → u.prepared ≤ commit
  stamp-later u below (inl none) = absurd (none.1 (outcome m x w commit durable) at refl)
  stamp-later u below (inr one) = subst (λ (v : Version Change). u.prepared ≤ v.window.commit)
      (same-named (line m.history table key) one.0 (outcome m x w commit durable) (line-descends m.history r.valid.orderly table key) (subst (Member one.0) (sym one.2) (inl refl)) at one.1.0) one.1.1

  top-passes : (u : Update) (z : Write) (below : List (Version Change)) → TopOf m other x z table key (update_in u) below → decides view u ≡ false → decides view (stamped commit durable u) ≡ false
  top-passes u z below q passes = or_from (is_own view u) (is_seen (sight_of view) u.version.window.name && reads_at view.read commit) (parts.0)
      (elim (and_cases (is_seen (sight_of view) u.version.window.name) (reads_at view.read (stamp_at u)) parts.1) [
        | inl unseen ↦ and_left (is_seen (sight_of view) u.version.window.name) (reads_at view.read commit) unseen
        | inr unread ↦ and_right (is_seen (sight_of view) u.version.window.name) (reads_at view.read commit)
            (later-unread view.read u.prepared commit (stamp-later (update_in u) below (subst (λ p. BelowStands p (name_of m x) (update_in u) (line m.history table key) below) resolving q.rest))
            (ap (reads_at view.read) (sym (marked-stamp (update_in u) mark.0)) ∙ unread))
      ]) where
        parts : (is_own view u ≡ false) × ((is_seen (sight_of view) u.version.window.name && reads_at view.read (stamp_at u)) ≡ false)
        parts = or_parts (is_own view u) (is_seen (sight_of view) u.version.window.name && reads_at view.read (stamp_at u)) passes

        mark : MarkStands Resolving m.history (name_of m x) (update_in u)
        mark = subst (λ p. MarkStands p m.history (name_of m x) (update_in u)) resolving q.mark

  stamps-silent : (chain : List Update) (cell : Option (Version Change)) (H : Version Change → Type 0) → KeyStands m table key (map update_in chain) cell H → IsSilent view chain → IsSilent view (front_changed (name_of m x) (stamped commit durable) chain)
  stamps-silent [] cell H k silent = silent
  stamps-silent (u ∷ older) cell H k silent = elim (cases_Bool (is_named (name_of m x) u)) [
    | inr unlike ↦ subst (λ b. IsSilent view ((if b then stamped commit durable u else u) ∷ older)) (sym unlike) silent
    | inl named ↦ subst (λ b. IsSilent view ((if b then stamped commit durable u else u) ∷ older)) (sym named)
        (read-past view (stamped commit durable u) older (by-front (same-name u.version.window.name (name_of m x) named) (front-cases m table key u older k.top k.held k.below k.chained k.topped))
        ∙ silent-from view older (λ z deep. none-decides view (u ∷ older) silent z (inr deep)))
  ] where
    passes : decides view u ≡ false
    passes = none-decides view (u ∷ older) silent u (inl refl)

    by-front : u.version.window.name ≡ name_of m x
        → ((k.top ≡ []) × ((v : Version Change) × Member v k.held × (update_in u ≡ model_settled v))) ⊎ ((k.top ≡ update_in u ∷ []) × (map update_in older ≡ map model_settled k.held))
        → decides view (stamped commit durable u) ≡ false
    by-front name (inl held) = let v = held.1.0 in
        let same : v ≡ outcome m x w commit durable = same-named (line m.history table key) v (outcome m x w commit durable) (line-descends m.history r.valid.orderly table key)
        (frame-stands m table key (map update_in (u ∷ older)) cell H k v (inl held.1.1)) at (sym (ap (λ (z : ModelUpdate). z.version.window.name) held.1.2) ∙ name) in
        ap (λ z. decides view (back z)) (stamped-held m x w u commit durable (held.1.2 ∙ ap model_settled same)) ∙ passes
    by-front name (inr top) = let q = named-top m other x table key (update_in u) k.below r.valid there (subst (λ l. TopStands m table key l k.below) top.0 k.topped) name in
        top-passes u q.0 k.below q.1 passes

-- ---- the law

undo-silent : (view : View) (name : Name) (chain : List Update) → IsSilent view chain → IsSilent view (undone name chain)
undo-silent view name [] silent = silent
undo-silent view name (u ∷ older) silent = elim (cases_Bool (is_named name u)) [
  | inl named ↦ subst (λ b. IsSilent view (if b then older else u ∷ older)) (sym named) (silent-from view older (λ z at. none-decides view (u ∷ older) silent z (inr at)))
  | inr other ↦ subst (λ b. IsSilent view (if b then older else u ∷ older)) (sym other) silent
]

pub chains-stay-silent : ChainsStaySilent
chains-stay-silent m s t view table key chain cell records valid there running stands k silent = record {
  running = λ other x apart at is drawn. record {
    installs = λ u name. installs-silent m s t view reader other x apart at is drawn u chain name silent;
    marks = λ prepare. front-silent view (name_of m x) (marked prepare) chain silent (λ u deep named. running-passes m s t view reader other x apart at is drawn (marked prepare u) (same-name u.version.window.name (name_of m x) named));
    stamps = λ commit durable. front-silent view (name_of m x) (stamped commit durable) chain silent
        (λ u deep named. running-passes m s t view reader other x apart at is drawn (stamped commit durable u) (same-name u.version.window.name (name_of m x) named));
  };
  resolving = λ other x w commit durable apart at is own out. stamps-silent m s t view table key reader other x w commit durable apart at is own out chain cell _ k silent;
  undoes = λ name. undo-silent view name chain silent;
  trims = λ pin floor. silent-from view (trimmed pin floor chain) (λ u at. none-decides view chain silent u (down-within (covers_at pin floor) chain u at));
} where
  reader : Reader m s t view
  reader = record { valid = valid; there = there; running = running; stands = stands }

pub admitted-go-on : AdmittedGoOn
admitted-go-on m event s t v valid may there = ap (λ b. b && reads_at t.read v.window.commit) ((follows-after m event valid may).same t.start v.window.name (valid.sessions.each s t there).start)
