-- What the finish of a checkpoint writes opens as what the machine completes.
use Rattle.std.proofs.Common.{◌≡◌, ℕ, refl, ap, sym, ◌∙◌, Bool, true, ◌&&◌, List, [], ◌∷◌, ◌++◌, length, inl, inr, subst, map}
use Rattle.std.specs.Prelude.{Option, Some, None, filter}
use Rattle.std.proofs.lemmas.Bool.{cases_Bool, both_ways, and_parts}
use Rattle.item.specs.declared.Change.{Change}
use Rattle.stamp.specs.declared.Name.{Name}
use Rattle.stamp.specs.declared.Version.{Version}
use Rattle.kv_model.specs.Holds.{Member, Descends}
use Rattle.kv_model.specs.Ordered.{Older, IsOrderly, Follows}
use Rattle.kv_model.specs.History.{Entry, Create, Commit, Prepare, Resolve, Undo, Rts, Write, Placed, line, of_key, is_by, is_stable, has_table, tables, first, cut, committed, history_of, version_of, writes_at, Agree}
use Rattle.kv_model.specs.Machine.{Machine, Checkpoint, finished}
use Rattle.kv_model.specs.Captures.{UpTo, In, Either, both, Captured, CapturedIn, KeyCaptured, IsKeyContent, is_in, keeps}
use Rattle.kv_model.specs.Content.{Content, base, kept, sees_name, descending, placed_lt, table_lt, IsLayered, OpensAs}
use Rattle.kv_model.specs.Reads.{own_write, is_own, IsEnding}
use Rattle.kv_model.specs.Pending.{NoneHolds}
use Rattle.kv_model.specs.MarkLaws.{AbsentStands}
use Rattle.kv_model.specs.Regular.{IsRegular, IsVersionOf}
use Rattle.kv_model.specs.Marks.{recorded_mark, keeps_cell}
use Rattle.kv_model.specs.OpeningLaws.{Finishes, FinishOpens, cell_of, records_of}
use Rattle.kv_model.specs.StoreLaws.{Held}
use Rattle.kv_model.specs.Valid.{Valid, ValidCheckpoint}
use Rattle.kv_model.proofs.Newest.{find-member}
use Rattle.kv_model.proofs.ReconciledKeys.{resting-key}
use Rattle.kv_model.proofs.Agrees.{line-rts}
use Rattle.kv_model.proofs.Ordering.{line-writes, line-descends}
use Rattle.kv_model.proofs.Capturing.{member-out, member-into}
use Rattle.kv_model.proofs.Growing.{table-older}
use Rattle.kv_model.proofs.Finishing.{member-append, line-prefix, line-base, first-start, finish-agrees}
use Rattle.kv_model.proofs.OwnWrites.{at-parts}
use Rattle.kv_model.proofs.Sorting.{member-descending}
use Rattle.kv_model.proofs.Opening.{of-key-from, at-placed, any-there, kept-from, start-valid}
use Rattle.kv_model.proofs.ContentKeys.{at-self, of-key-into, any-from, cell-placed, key-content}

-- ---- tables

-- a version stands of a table that is there alone
written-table : (name : Name) (writes : List Write) (older : List Entry) → Follows name writes older → (table : ℕ) (key : List ℕ) (v : Version Change) → Member v (map (version_of name) (filter (writes_at table key) writes)) → has_table (tables older) table ≡ true
written-table name writes older follows table key v there = from (filter (writes_at table key) writes) (λ w at. member-out (writes_at table key) writes w at) there where
  from : (l : List Write) → ((w : Write) → Member w l → Member w writes × (writes_at table key w ≡ true)) → Member v (map (version_of name) l) → has_table (tables older) table ≡ true
  from [] each there = absurd there
  from (w ∷ l) each (inl same) = let o = each w (inl refl) in subst (λ n. has_table (tables older) n ≡ true) (at-parts table key w o.1).0 (follows.placed w o.0)
  from (w ∷ l) each (inr later) = from l (λ x at. each x (inr at)) later

pub line-table : (history : List Entry) → IsOrderly history → (table : ℕ) (key : List ℕ) (v : Version Change) → Member v (line history table key) → has_table (tables history) table ≡ true
line-table [] orderly table key v there = absurd there
line-table (Create t ∷ older) orderly table key v there = table-older (Create t) older table (line-table older orderly.1 table key v there)
line-table (Commit name writes ∷ older) orderly table key v there = elim (member-append v (map (version_of name) (filter (writes_at table key) writes)) (line older table key) (rw (line-writes name writes older table key) at there)) [
  | inl new ↦ written-table name writes older orderly.0 table key v new
  | inr old ↦ line-table older orderly.1 table key v old
]
line-table (Prepare name stamp ∷ older) orderly table key v there = line-table older orderly table key v there
line-table (Resolve name writes ∷ older) orderly table key v there = elim (member-append v (map (version_of name) (filter (writes_at table key) writes)) (line older table key) (rw (line-writes name writes older table key) at there)) [
  | inl new ↦ written-table name writes older orderly.0.0 table key v new
  | inr old ↦ line-table older orderly.1 table key v old
]
line-table (Undo name ∷ older) orderly table key v there = line-table older orderly table key v there
line-table (Rts s ∷ older) orderly table key v there = line-table older orderly table key v (member-out (is_by s) (line older table key) v (rw (line-rts s older table key) at there)).0

-- so of a table that is not there nothing stands
none-there : (l : List (Version Change)) → ((v : Version Change) → Member v l → ⊥) → l ≡ []
none-there [] none = refl
none-there (v ∷ l) none = absurd (none v (inl refl))

pub absent-stands : AbsentStands
absent-stands m table key valid absent = resting-key m table key None (Held []) (refl, free) (record {
  kept = record { within = λ v held. elim held [ inl is ↦ absurd (cc) | inr h ↦ absurd h ]; all = λ v there. absurd (nothing v there) };
  upper = λ v w is there below. absurd (nothing w there);
}) (λ v h. absurd h) where
  nothing : (v : Version Change) → Member v (line m.history table key) → ⊥
  nothing v there = both_ways (has_table (tables m.history) table) absent (line-table m.history valid.orderly table key v there)

  free : NoneHolds m table key
  free s t wrote = by-write (own_write t table key) refl wrote.1 where
    by-write : (o : Option Write) → own_write t table key ≡ o → is_own o ≡ true → IsEnding t.phase
    by-write None e own = absurd (cc)
    by-write (Some w) e own = let at = find-member (writes_at table key) t.writes w e in
        absurd (both_ways (has_table (tables m.history) table) absent (subst (λ n. has_table (tables m.history) n ≡ true) (at-parts table key w at.1).0 ((valid.sessions.each s t wrote.0).placed w at.0)))

-- of a part of an orderly history
orderly-start : (news start : List Entry) → IsOrderly (news ++ start) → IsOrderly start
orderly-start [] start orderly = orderly
orderly-start (Create t ∷ news) start orderly = orderly-start news start orderly.1
orderly-start (Commit name writes ∷ news) start orderly = orderly-start news start orderly.1
orderly-start (Prepare name stamp ∷ news) start orderly = orderly-start news start orderly
orderly-start (Resolve name writes ∷ news) start orderly = orderly-start news start orderly.1
orderly-start (Undo name ∷ news) start orderly = orderly-start news start orderly
orderly-start (Rts s ∷ news) start orderly = orderly-start news start orderly

-- the tables of a content, in order
ordered-table : (c : Content) (number : ℕ) → has_table (descending table_lt c.tables) number ≡ true → has_table c.tables number ≡ true
ordered-table c number has = let t = any-from _ (descending table_lt c.tables) has in any-there _ c.tables t.0 (member-descending table_lt c.tables t.0 t.1) t.2

-- ---- the finish

module _ (m : Machine) (c : Checkpoint) (content : Content) (valid : Valid m) (runs : m.checkpoint ≡ Some c) (r : IsRegular content) (f : Finishes m c content) where
  k : ValidCheckpoint m.history m.oldest m.stable c
  k = valid.checkpoint c runs

  abbrev seen : Version Change → Bool
  seen v = committed m.history c.prefix v.window.name

  -- it is committed in the prefix, and stable
  abbrev stays : Version Change → Bool
  stays v = seen v && is_stable c.stable v

  same-keeps : (v : Version Change) → sees_name content.run content.snapshot v.window.name ≡ committed m.history c.prefix v.window.name → keeps_cell (recorded_mark content) v ≡ stays v
  same-keeps v sees = ap (λ b. b && is_stable content.stable v) sees ∙ ap (λ s. seen v && is_stable s v) f.stable

  placed-sees : (p : Placed) → IsVersionOf content p → keeps_cell (recorded_mark content) p.version ≡ stays p.version
  placed-sees p of = same-keeps p.version (f.sees p of)

  held-sees : (table : ℕ) (key : List ℕ) (v : Version Change) → Either (In (cell_of content table key)) (Held (records_of content table key)) v → keeps_cell (recorded_mark content) v ≡ stays v
  held-sees table key v (inl cell) = let p = cell-placed content table key v cell in subst (λ (z : Version Change). keeps_cell (recorded_mark content) z ≡ stays z) (sym p.3) (placed-sees p.0 (inl p.1))
  held-sees table key v (inr at) = let p = of-key-from table key content.records v at in subst (λ (z : Version Change). keeps_cell (recorded_mark content) z ≡ stays z) (sym p.3) (placed-sees p.0 (inr p.1))

  layered : IsLayered content
  layered p there keeps =
      let parts = and_parts (has_table content.tables p.table) (keeps_cell (recorded_mark content) p.version) keeps in
      let sees = (and_parts (seen p.version) (is_stable c.stable p.version) (sym (placed-sees p (inr there)) ∙ parts.1)).0 in
      let cap = f.captured p.table p.key parts.0 in
      let y = cap.top p.version (cap.within p.version (of-key-into p.table p.key content.records p there (at-self p))) sees in
      let q = cell-placed content p.table p.key y.0 y.1 in
      (q.0, q.1, q.2, subst (λ (z : Version Change). UpTo Older p.version z) q.3 y.2)

  -- what is seen is of a table of the content
  seen-table : (table : ℕ) (key : List ℕ) (v : Version Change) → Member v (line m.history table key) → seen v ≡ true → has_table content.tables table ≡ true
  seen-table table key v there sees = ordered-table content table (subst (λ l. has_table l table ≡ true) (sym f.tables)
      (subst (λ h. has_table (tables h) table ≡ true) (sym (ap (first c.prefix) k.whole ∙ (ap (λ n. first n (k.news ++ k.start)) k.prefix ∙ first-start k.news k.start)))
      (line-table k.start (orderly-start k.news k.start (subst IsOrderly k.whole valid.orderly)) table key v
      (subst (λ l. Member v l) (line-prefix k.news k.start table key k.follow)
      (member-into (is_in (k.news ++ k.start) (length k.start)) (line (k.news ++ k.start) table key) v (subst (λ h. Member v (line h table key)) k.whole there)
      (subst (λ h. committed h (length k.start) v.window.name ≡ true) k.whole (subst (λ n. committed m.history n v.window.name ≡ true) k.prefix sees)))))))

  -- each key is captured, also of tables made since
  captured : (table : ℕ) (key : List ℕ) → CapturedIn m c table key (cell_of content table key) (Held (records_of content table key))
  captured table key = elim (cases_Bool (has_table content.tables table)) [
    | inl has ↦ f.captured table key has
    | inr new ↦ record {
      cell_there = λ v is. let none = f.no_cell table key new in absurd (cc);
      within = f.within table key new;
      all = λ v there sees. absurd (both_ways (has_table content.tables table) new (seen-table table key v there sees));
      top = λ v there sees. absurd (both_ways (has_table content.tables table) new (seen-table table key v there sees));
    }
  ]

  contents : (table : ℕ) (key : List ℕ) → IsKeyContent stays (cell_of content table key) (Held (records_of content table key)) (of_key table key (descending placed_lt (kept content)))
  contents table key = elim (cases_Bool (has_table content.tables table)) [
    | inl has ↦ let is = key-content content table key r layered has in record {
      from = λ v at. let o = is.from v at in (o.0, sym (held-sees table key v o.0) ∙ o.1);
      into = λ v held keeps. is.into v held (held-sees table key v held ∙ keeps);
    }
    | inr new ↦ record {
      from = λ v at. let p = of-key-from table key (descending placed_lt (kept content)) v at in let o = kept-from content p.0 (member-descending placed_lt (kept content) p.0 p.1) in
          let has = (and_parts (has_table content.tables p.0.table) (keeps_cell (recorded_mark content) p.0.version) o.1).0 in
          absurd (both_ways (has_table content.tables table) new (subst (λ n. has_table content.tables n ≡ true) (at-placed table key p.0 p.2).0 has));
      into = λ v held keeps. absurd (both_ways (has_table content.tables table) new
          (seen-table table key v (elim held [ inl cell ↦ (captured table key).cell_there v cell | inr at ↦ f.within table key new v at ]) (and_parts (seen v) (is_stable c.stable v) keeps).0));
    }
  ]

  descends : (table : ℕ) (key : List ℕ) → Descends Older (of_key table key (descending placed_lt (kept content)))
  descends table key = subst (Descends Older) (line-base (descending table_lt content.tables) (descending placed_lt (kept content)) table key) (line-descends (base content) (start-valid content r).orderly table key)

  captured-since : (table : ℕ) (key : List ℕ) → KeyCaptured k.news k.start c.oldest table key (cell_of content table key) (Held (records_of content table key))
  captured-since table key = subst (λ n. Captured Older (is_in (k.news ++ k.start) n) (is_by c.oldest) (line (k.news ++ k.start) table key) (cell_of content table key) (Held (records_of content table key))) k.prefix
      (subst (λ h. Captured Older (is_in h c.prefix) (is_by c.oldest) (line h table key) (cell_of content table key) (Held (records_of content table key))) k.whole (captured table key))

  contents-since : (table : ℕ) (key : List ℕ) → IsKeyContent (keeps k.news k.start c.stable) (cell_of content table key) (Held (records_of content table key)) (of_key table key (descending placed_lt (kept content)))
  contents-since table key = subst (λ n. IsKeyContent (both (is_in (k.news ++ k.start) n) (is_stable c.stable)) (cell_of content table key) (Held (records_of content table key)) (of_key table key (descending placed_lt (kept content)))) k.prefix
      (subst (λ h. IsKeyContent (both (is_in h c.prefix) (is_stable c.stable)) (cell_of content table key) (Held (records_of content table key)) (of_key table key (descending placed_lt (kept content)))) k.whole (contents table key))

  tables-since : tables k.start ≡ descending table_lt content.tables
  tables-since = sym (f.tables ∙ ap tables (ap (first c.prefix) k.whole ∙ (ap (λ n. first n (k.news ++ k.start)) k.prefix ∙ first-start k.news k.start)))

  agrees : Agree (base content) (cut m.history c.prefix c.stable) c.oldest
  agrees = subst (λ h. Agree (base content) (cut h c.prefix c.stable) c.oldest) (sym k.whole)
      (subst (λ n. Agree (base content) (cut (k.news ++ k.start) n c.stable) c.oldest) (sym k.prefix)
      (subst (λ l. Agree (history_of l (descending placed_lt (kept content))) (cut (k.news ++ k.start) (length k.start) c.stable) c.oldest) tables-since
      (finish-agrees k.news k.start c.oldest c.stable (descending placed_lt (kept content)) (cell_of content) (λ table key. Held (records_of content table key))
      (subst IsOrderly k.whole valid.orderly) k.follow k.stamps captured-since descends contents-since)))

  pub finish-opens-at : OpensAs content (finished m c).completed
  finish-opens-at = record { layered = layered; oldest = f.oldest; stable = f.stable; agrees = agrees }

pub finish-opens : FinishOpens
finish-opens m c content valid runs r f = finish-opens-at m c content valid runs r f
