-- Keys of leaves in no frame: they go on to stand, and a load of a marked one cleans it.
use Rattle.std.proofs.Common.{◌≡◌, ◌⊎◌, ◌<◌, ℕ, refl, ap, sym, ◌∙◌, true, false, ◌&&◌, ◌||◌, List, [], ◌∷◌, ◌++◌, inl, inr, subst, arith, map}
use Rattle.std.specs.Prelude.{Option, Some, None, nat_lt, nat_le, ◌==◌}
use Rattle.std.proofs.lemmas.Bool.{cases_Bool, both_ways, and_parts, and_from, or_left, or_right, or_cases, eqb-true, eq-eqb, ltb-true, lt-ltb, leb-true, le-leb}
use Rattle.item.specs.declared.Change.{Change}
use Rattle.stamp.specs.declared.Name.{Name}
use Rattle.stamp.specs.declared.Version.{Version}
use Rattle.kv_model.specs.Holds.{Member, Stores}
use Rattle.kv_model.specs.Ordered.{Older}
use Rattle.kv_model.specs.History.{line, version_of, is_stable, is_by}
use Rattle.kv_model.specs.Machine.{Machine, Transaction, Phase, Running, Failed, Prepared, Resolving, Leaving, Event, name_of, after, stamped}
use Rattle.kv_model.specs.Reads.{own_write, is_own, IsEnding}
use Rattle.kv_model.specs.Allowed.{Allowed, CommitsAt}
use Rattle.kv_model.specs.Droppable.{covers}
use Rattle.kv_model.specs.Captures.{UpTo, In, Cleaned, Layered}
use Rattle.kv_model.specs.CaptureLaws.{KeptOf}
use Rattle.kv_model.specs.Content.{sees_name, sees_id}
use Rattle.kv_model.specs.Pending.{Update, settled, HasEnded, NoneHolds, TopStands, InFrame, KeyStands}
use Rattle.kv_model.specs.Elsewhere.{IsElsewhere}
use Rattle.kv_model.specs.Reconciling.{each_one}
use Rattle.kv_model.specs.Marks.{Filter, keeps_cell, lets_through, is_below_filter, NameUpTo}
use Rattle.kv_model.specs.MarkLaws.{MarksGoOn, LeavesGoOn, FramesGoOn, MarkedLoads, CleanKeeps, CleanStands}
use Rattle.kv_model.specs.StoreLaws.{Held}
use Rattle.kv_model.specs.Valid.{Valid, IsDrawn}
use Rattle.kv_model.proofs.Snapshots.{line-released}
use Rattle.kv_model.proofs.OwnWrites.{filter-unwritten, stamped-at}
use Rattle.kv_model.proofs.Pins.{covers-after}
use Rattle.kv_model.proofs.Finishing.{older-order}
use Rattle.kv_model.proofs.Living.{stores-covers, cleaned-stands}
use Rattle.kv_model.proofs.Onward.{session-was, run-after, stable-after, history-grew}
use Rattle.kv_model.proofs.ReconciledKeys.{stores-alike, no-top, plain-held, list-frame, chain-held, resting-key}

-- ---- a key that nobody holds, at an event that is elsewhere

pub commits-busy : (p : Phase) (commit durable : ℕ) → CommitsAt p commit durable → IsEnding p → ⊥
commits-busy Running commit durable fits ends = ends
commits-busy (Prepared stamp) commit durable fits ends = ends
commits-busy Failed commit durable fits ends = ends
commits-busy Resolving commit durable fits ends = fits
commits-busy Leaving commit durable fits ends = fits

pub line-rests : (m : Machine) (event : Event) (table : ℕ) (key : List ℕ) → Valid m → Allowed m event → IsElsewhere table key event → NoneHolds m table key → line (after m event).history table key ≡ line m.history table key
line-rests m event table key valid may elsewhere free = elim (history-grew m event valid may) [
  | inl same ↦ ap (λ h. line h table key) same
  | inr more ↦ elim more [
    | inl q ↦ ap (λ h. line h table key) q.is ∙ q.lines table key
    | inr rest ↦ elim rest [
      | inl c ↦ ap (λ h. line h table key) c.is ∙ (c.lines table key ∙ elim (cases_Bool (is_own (own_write c.transaction table key))) [
        | inl own ↦ absurd (commits-busy c.transaction.phase c.commit c.durable c.may (free c.session c.transaction (c.there, own)))
        | inr none ↦ ap (λ l. map (version_of (name_of m c.transaction)) l ++ line m.history table key)
            (stamped-at c.commit c.durable table key c.transaction.writes ∙ ap (stamped c.commit c.durable) (filter-unwritten table key c.transaction.writes ((valid.sessions.each c.session c.transaction c.there).single table key) none))
      ])
      | inr is ↦ absurd (subst (IsElsewhere table key) is elsewhere)
    ]
  ]
]

pub free-rests : (m : Machine) (event : Event) (table : ℕ) (key : List ℕ) → Valid m → Allowed m event → IsElsewhere table key event → NoneHolds m table key → NoneHolds (after m event) table key
free-rests m event table key valid may elsewhere free r u wrote = elim (session-was m event table key valid may r u wrote.0) [
  | inl kin ↦ kin.2.ending (free r kin.0 (kin.1, ap is_own (sym kin.2.own) ∙ wrote.1))
  | inr new ↦ elim new [
    | inl fresh ↦ let none : is_own (own_write u table key) ≡ false = ap is_own fresh.own in absurd (both_ways (is_own (own_write u table key)) none wrote.1)
    | inr now ↦ absurd (now.2.here elsewhere)
  ]
]

-- a name that was drawn and has ended is not drawn again
pub ended-rests : (m : Machine) (event : Event) (x : Name) → Valid m → Allowed m event → IsDrawn m.run m.next x → HasEnded m x → HasEnded (after m event) x
ended-rests m event x valid may drawn ended r u there is = elim (session-was m event 0 [] valid may r u there) [
  | inl kin ↦ ended r kin.0 kin.1 (named kin.0 kin.2.id)
  | inr new ↦ elim new [
    | inl fresh ↦ undrawn drawn fresh.id
    | inr now ↦ ended r now.0 now.1 (named now.0 now.2.id)
  ]
] where
  run-is : x.run ≡ m.run
  run-is = ap (λ (n : Name). n.run) is ∙ run-after m event

  named : (t : Transaction) → u.id ≡ t.id → x ≡ name_of m t
  named t id = is ∙ (ap (λ run. the_name run u.id) (run-after m event) ∙ ap (the_name m.run) id) where
    the_name : ℕ → ℕ → Name
    the_name run id = record { run = run; id = id }

  undrawn : IsDrawn m.run m.next x → (u.id ≡ 0) ⊎ (u.id ≡ m.next) → ⊥
  undrawn (inl earlier) id = let e = run-is in omega arith
  undrawn (inr here) (inl none) = let e : x.id ≡ u.id = ap (λ (n : Name). n.id) is in let some = here.1 in omega arith
  undrawn (inr here) (inr last) = let e : x.id ≡ u.id = ap (λ (n : Name). n.id) is in let low = here.2 in omega arith

pub line-drawn : (m : Machine) (table : ℕ) (key : List ℕ) (v : Version Change) → Valid m → Member v (line m.history table key) → IsDrawn m.run m.next v.window.name
line-drawn m table key v valid there = valid.names v.window.name (line-released m.history valid.orderly table key v there)

pub marks-go-on : MarksGoOn
marks-go-on m event table key mark cell records valid may elsewhere k = record {
  stores = subst (λ l. Stores Older (covers (after m event)) l (KeptOf (keeps_cell mark) (In cell)) (Held records)) (sym same)
      (stores-covers Older (covers m) (covers (after m event)) (line m.history table key) (KeptOf (keeps_cell mark) (In cell)) (Held records)
      (λ v there is. covers-after m event table key v valid may there is) k.stores);
  filtered = k.filtered;
  layered = k.layered;
  ended = λ v there. let old = subst (λ l. Member v l) same there in ended-rests m event v.window.name valid may (line-drawn m table key v valid old) (k.ended v old);
  free = free-rests m event table key valid may elsewhere k.free;
  bound = let low = k.bound in let more = stable-after m event in omega arith;
} where
  same : line (after m event).history table key ≡ line m.history table key
  same = line-rests m event table key valid may elsewhere k.free

-- ---- a leaf in no frame that is not marked

-- its parts, the cell alone
pub record Rests (m : Machine) (table : ℕ) (key : List ℕ) (cell : Option (Version Change)) (History : Version Change → Type 0) : Type 0 where
  pub free : NoneHolds m table key
  pub stores : Stores Older (covers m) (line m.history table key) (In cell) History
  pub layered : (v : Version Change) → History v → (w : Version Change) × In cell w × HasEnded m w.window.name × UpTo Older v w

pub rest-parts : (m : Machine) (table : ℕ) (key : List ℕ) (cell : Option (Version Change)) (History : Version Change → Type 0) → KeyStands m table key [] cell History → Rests m table key cell History
rest-parts m table key cell History k = parts k.top k.held k.below k.chained k.topped k.stores k.layered where
  parts : (top : List Update) (held below : List (Version Change)) → [] ≡ top ++ map settled held → TopStands m table key top below → Stores Older (covers m) below (InFrame held cell) History
      → ((v : Version Change) → History v → (w : Version Change) × InFrame held cell w × HasEnded m w.window.name × UpTo Older v w) → Rests m table key cell History
  parts (u ∷ top) held below is stands stores layered = absurd (cc)
  parts [] (v ∷ held) below is stands stores layered = absurd (cc)
  parts [] [] below is stands stores layered = record {
    free = stands.1;
    stores = subst (λ l. Stores Older (covers m) l (In cell) History) (sym stands.0)
        (stores-alike Older (covers m) below (InFrame [] cell) History (In cell) History (λ x f. elim f [ inl none ↦ absurd none | inr is ↦ is ]) (λ x is. inr is) (λ x h. h) (λ x h. h) stores);
    layered = λ v h. let w = layered v h in (w.0, elim w.1 [ inl none ↦ absurd none | inr is ↦ is ], w.2, w.3);
  }

pub leaves-go-on : LeavesGoOn
leaves-go-on m event table key cell records valid may elsewhere k = resting-key (after m event) table key cell (Held records) (refl, free-rests m event table key valid may elsewhere p.free)
    (subst (λ l. Stores Older (covers (after m event)) l (In cell) (Held records)) (sym same)
    (stores-covers Older (covers m) (covers (after m event)) (line m.history table key) (In cell) (Held records)
    (λ v there is. covers-after m event table key v valid may there is) p.stores))
    (λ v h. let w = p.layered v h in (w.0, w.1, ended-rests m event w.0.window.name valid may (line-drawn m table key w.0 valid (p.stores.kept.within w.0 (inl w.1))) w.2, w.3)) where
      p : Rests m table key cell (Held records)
      p = rest-parts m table key cell (Held records) k

      same : line (after m event).history table key ≡ line m.history table key
      same = line-rests m event table key valid may elsewhere p.free

-- ---- a frame all of whose writers have ended

pub frames-go-on : FramesGoOn
frames-go-on m event table key chain cell records valid may elsewhere ended k = (
  record {
    top = [];
    held = k.held;
    below = line (after m event).history table key;
    chained = k.chained ∙ ap (λ t. t ++ map settled k.held) none;
    ordered = k.ordered;
    topped = (refl, free-rests m event table key valid may elsewhere topped.1);
    stores = subst (λ l. Stores Older (covers (after m event)) l (InFrame k.held cell) (Held records)) (sym same)
        (stores-covers Older (covers m) (covers (after m event)) (line m.history table key) (InFrame k.held cell) (Held records)
        (λ v there is. covers-after m event table key v valid may there is) stores);
    layered = λ v h. let w = k.layered v h in (w.0, w.1, goes-on w.0 (stores.kept.within w.0 (inl w.1)) w.2, w.3);
  },
  (λ v there is. goes-on v (stores.kept.within v (inl (list-frame k.held cell v (subst (λ l. Member v l) (plain-held chain k.top k.held cell k.chained none) there)))) (ended v there refl)),
) where
  none : k.top ≡ []
  none = no-top m table key chain k.top k.held k.below k.chained k.topped (λ u there. ended u.version (chain-held chain cell u there) refl)

  topped : TopStands m table key [] k.below
  topped = subst (λ t. TopStands m table key t k.below) none k.topped

  stores : Stores Older (covers m) (line m.history table key) (InFrame k.held cell) (Held records)
  stores = subst (λ l. Stores Older (covers m) l (InFrame k.held cell) (Held records)) (sym topped.0) k.stores

  same : line (after m event).history table key ≡ line m.history table key
  same = line-rests m event table key valid may elsewhere topped.1

  goes-on : (v : Version Change) → Member v (line m.history table key) → HasEnded m v.window.name → HasEnded (after m event) v.window.name
  goes-on v there done = ended-rests m event v.window.name valid may (line-drawn m table key v valid there) done

-- ---- a load

pub marked-loads : MarkedLoads
marked-loads m table key mark cell loaded records cleaned k = resting-key m table key loaded (Held records) (refl, k.free) after.0
    (λ v h. let w = after.1 v h in (w.0, w.1, k.ended w.0 (after.0.kept.within w.0 (inl w.1)), w.3)) where
      after : Stores Older (covers m) (line m.history table key) (In loaded) (Held records) × Layered Older each_one (In loaded) (Held records)
      after = cleaned-stands Older (covers m) (keeps_cell mark) each_one (line m.history table key) cell loaded (Held records) older-order k.stores
          (λ v h keeps. k.layered v h) k.filtered (λ v there. refl) cleaned

-- ---- a clean leaf

clean-name : (f : Option Filter) (name x : Name) → is_below_filter f name ≡ true → NameUpTo x name → lets_through f x ≡ true
clean-name None name x is up = refl
clean-name (Some f) name x is up = elim (or_cases (nat_lt name.run f.run) ((name.run == f.run) && nat_lt name.id f.snapshot.min) is) [
  | inl earlier ↦ early (let low = ltb-true name.run f.run earlier in run-low low up)
  | inr same ↦ let p = and_parts (name.run == f.run) (nat_lt name.id f.snapshot.min) same in let here = eqb-true name.run f.run p.0 in let low = ltb-true name.id f.snapshot.min p.1 in at here low up
] where
  early : x.run < f.run → sees_name f.run f.snapshot x ≡ true
  early low = or_left (nat_lt x.run f.run) ((x.run == f.run) && sees_id f.snapshot x.id) (lt-ltb x.run f.run low)

  run-low : name.run < f.run → NameUpTo x name → x.run < f.run
  run-low low (inl same) = let e : x.run ≡ name.run = ap (λ (n : Name). n.run) same in omega arith
  run-low low (inr (inl less)) = omega arith
  run-low low (inr (inr less)) = let e = less.0 in omega arith

  late : x.run ≡ f.run → x.id < f.snapshot.min → sees_name f.run f.snapshot x ≡ true
  late same low = or_right (nat_lt x.run f.run) ((x.run == f.run) && sees_id f.snapshot x.id) (and_from (x.run == f.run) (sees_id f.snapshot x.id) (eq-eqb x.run f.run same)
      (or_left (nat_lt x.id f.snapshot.min) _ (lt-ltb x.id f.snapshot.min low)))

  at : name.run ≡ f.run → name.id < f.snapshot.min → NameUpTo x name → sees_name f.run f.snapshot x ≡ true
  at here low (inl same) = late (ap (λ (n : Name). n.run) same ∙ here) (let e : x.id ≡ name.id = ap (λ (n : Name). n.id) same in omega arith)
  at here low (inr (inl less)) = early (omega arith)
  at here low (inr (inr less)) = late (less.0 ∙ here) (let l = less.1 in omega arith)

pub clean-keeps : CleanKeeps
clean-keeps mark name durable v clean up low = let p = and_parts (is_below_filter mark.filter name) ((mark.bound == 0) || nat_le durable mark.bound) clean in
    and_from (lets_through mark.filter v.window.name) (is_stable mark.bound v) (clean-name mark.filter name v.window.name p.0 up)
    (elim (or_cases (mark.bound == 0) (nat_le durable mark.bound) p.1) [
      | inl none ↦ or_left (mark.bound == 0) (is_by mark.bound v) none
      | inr under ↦ or_right (mark.bound == 0) (is_by mark.bound v) (le-leb v.window.durable mark.bound (let l = leb-true durable mark.bound under in omega arith))
    ])

pub clean-stands : CleanStands
clean-stands m table key mark name durable cell records clean names stamps k = marked-loads m table key mark cell cell records (as-it-is cell (λ v is. clean-keeps mark name durable v clean (names v is) (stamps v is))) k where
  as-it-is : (cell : Option (Version Change)) → ((v : Version Change) → In cell v → keeps_cell mark v ≡ true) → Cleaned Older (keeps_cell mark) cell (Held records) cell
  as-it-is None keeps = refl
  as-it-is (Some v) keeps = inl (keeps v refl, refl)
