-- A checkpoint's finish: what is kept of its images and the history agrees with the cut.
use Rattle.std.proofs.Common.{◌≡◌, ◌⊎◌, ◌≤◌, ℕ, refl, ap, sym, ◌∙◌, Bool, true, false, ◌&&◌, ◌||◌, List, [], ◌∷◌, ◌++◌, length, inl, inr, subst, arith, map, length-append}
use Rattle.std.specs.Prelude.{filter, Option, Some, nat_le, nat_lt, ◌==◌, min}
use Rattle.std.specs.List.{list_all}
use Rattle.std.proofs.lemmas.Bool.{cases_Bool, or_right, or_left, or_cases, le-leb, leb-true, and_parts, and_from, eq-eqb, lt-ltb, le-ltb, ltb-true}
use Rattle.std.proofs.lemmas.List.Elements.{filter-append}
use Rattle.item.specs.declared.Change.{Change}
use Rattle.stamp.specs.declared.Name.{Name}
use Rattle.stamp.specs.declared.Version.{Version}
use Rattle.kv_model.specs.Holds.{Member, Descends, IsOrder}
use Rattle.kv_model.specs.Ordered.{Older, NameBelow, IsOrderly}
use Rattle.kv_model.specs.History.{Entry, Create, Commit, Prepare, Resolve, Undo, Rts, Table, Placed, Write, line, standing, version_of, commit_of, is_at, is_by, is_stable, of_key, history_of, committed, ends, writes_at, core, cut, first, Agree, tables, created, name_eq}
use Rattle.kv_model.specs.Machine.{Machine, Checkpoint, of_some}
use Rattle.kv_model.specs.Droppable.{covers, pin, read_stamps, seen_by}
use Rattle.kv_model.specs.Captures.{both, IsKeyContent, is_in, AllFollow, KeyCaptured, keeps}
use Rattle.kv_model.proofs.Covering.{fold-min-start}
use Rattle.kv_model.proofs.Ordering.{line-descends, line-writes}
use Rattle.kv_model.proofs.Agrees.{line-rts}
use Rattle.kv_model.proofs.Capturing.{captured-agrees, member-out}

-- what covers while a checkpoint runs is in its prefix and at most its oldest
pub covers-checkpoint : (m : Machine) (c : Checkpoint) (v : Version Change) → m.checkpoint ≡ Some c → covers m v ≡ true
    → (committed m.history c.prefix v.window.name ≡ true) × (is_by c.oldest v ≡ true)
covers-checkpoint m c v runs is =
    let one = and_parts (nat_le v.window.durable (pin m)) (list_all (seen_by m v.window.name) m.sessions && of_some true (λ (c : Checkpoint). committed m.history c.prefix v.window.name) m.checkpoint) is in
    let two = and_parts (list_all (seen_by m v.window.name) m.sessions) (of_some true (λ (c : Checkpoint). committed m.history c.prefix v.window.name) m.checkpoint) one.1 in
    let three = subst (λ o. of_some true (λ (c : Checkpoint). committed m.history c.prefix v.window.name) o ≡ true) runs two.1 in
    let under = subst (λ o. pin m ≤ of_some m.oldest (λ (c : Checkpoint). min m.oldest c.oldest) o) runs (fold-min-start (of_some m.oldest (λ (c : Checkpoint). min m.oldest c.oldest) m.checkpoint) (read_stamps m)) in
    let low = leb-true v.window.durable (pin m) one.0 in
    (three, le-leb v.window.durable c.oldest (omega arith))

standing-creates : (known : List Table) → standing (map Create known) ≡ []
standing-creates [] = refl
standing-creates (t ∷ known) = standing-creates known

standing-commits : (kept : List Placed) (rest : List Entry) → standing (map commit_of kept ++ rest) ≡ kept ++ standing rest
standing-commits [] rest = refl
standing-commits (p ∷ kept) rest = ap (λ l. p ∷ l) (standing-commits kept rest)

append-nil : {A : Type 0} (l : List A) → l ++ [] ≡ l
append-nil [] = refl
append-nil (x ∷ xs) = ap (λ l. x ∷ l) (append-nil xs)

pub standing-base : (known : List Table) (kept : List Placed) → standing (history_of known kept) ≡ kept
standing-base known kept = standing-commits kept (map Create known) ∙ (ap (λ l. kept ++ l) (standing-creates known) ∙ append-nil kept)

pub line-base : (known : List Table) (kept : List Placed) (table : ℕ) (key : List ℕ) → line (history_of known kept) table key ≡ of_key table key kept
line-base known kept table key = ap (of_key table key) (standing-base known kept)

tables-commits : (kept : List Placed) (rest : List Entry) → tables (map commit_of kept ++ rest) ≡ tables rest
tables-commits [] rest = refl
tables-commits (p ∷ kept) rest = tables-commits kept rest

tables-creates : (known : List Table) → tables (map Create known) ≡ known
tables-creates [] = refl
tables-creates (t ∷ known) = ap (λ l. t ∷ l) (tables-creates known)

pub tables-base : (known : List Table) (kept : List Placed) → tables (history_of known kept) ≡ known
tables-base known kept = tables-commits kept (map Create known) ∙ tables-creates known

created-commits : (kept : List Placed) (rest : List Entry) → created (map commit_of kept ++ rest) ≡ created rest
created-commits [] rest = refl
created-commits (p ∷ kept) rest = created-commits kept rest

created-creates : (known : List Table) → created (map Create known) ≡ known
created-creates [] = refl
created-creates (t ∷ known) = ap (λ l. t ∷ l) (created-creates known)

pub created-base : (known : List Table) (kept : List Placed) → created (history_of known kept) ≡ known
created-base known kept = created-commits kept (map Create known) ∙ created-creates known

-- a test of versions passes over the choice of a key
of_key-filter : (f : Version Change → Bool) (table : ℕ) (key : List ℕ) (l : List Placed) → of_key table key (filter (λ (p : Placed). f p.version) l) ≡ filter f (of_key table key l)
of_key-filter f table key [] = refl
of_key-filter f table key (x ∷ xs) = elim (cases_Bool (f x.version)) [
  | inl t ↦ elim (cases_Bool (is_at table key x)) [ inl a ↦ rw (t, a, t, of_key-filter f table key xs) refl | inr b ↦ rw (t, b, of_key-filter f table key xs) refl ]
  | inr n ↦ elim (cases_Bool (is_at table key x)) [ inl a ↦ rw (n, a, n, of_key-filter f table key xs) refl | inr b ↦ rw (n, b, of_key-filter f table key xs) refl ]
]

-- the lines of a cut
pub line-cut : (history : List Entry) (n stable table : ℕ) (key : List ℕ) → line (cut history n stable) table key ≡ filter (is_stable stable) (line (first n history) table key)
line-cut history n stable table key = line-base (tables (first n history)) (filter (λ (p : Placed). is_stable stable p.version) (standing (first n history))) table key ∙ of_key-filter (is_stable stable) table key (standing (first n history))

-- the first entries, after others followed
first-all : (start : List Entry) → first (length start) start ≡ start
first-all [] = refl
first-all (entry ∷ older) = rw (lt-ltb (length older) (length (entry ∷ older)) (omega arith)) refl

pub first-start : (news start : List Entry) → first (length start) (news ++ start) ≡ start
first-start [] start = first-all start
first-start (entry ∷ older) start = rw (le-ltb (length (older ++ start)) (length start) (omega (arith, length-append older start))) (first-start older start)

pub committed-start : (news start : List Entry) (name : Name) → committed (news ++ start) (length start) name ≡ committed start (length start) name
committed-start [] start name = refl
committed-start (entry ∷ older) start name = rw (le-ltb (length (older ++ start)) (length start) (omega (arith, length-append older start))) (simplify (ends entry name) (committed-start older start name)) where
  simplify : (b : Bool) → committed (older ++ start) (length start) name ≡ committed start (length start) name → ((b && false) || committed (older ++ start) (length start) name) ≡ committed start (length start) name
  simplify true e = e
  simplify false e = e

committed-more : (history : List Entry) (n m : ℕ) (name : Name) → n ≤ m → committed history n name ≡ true → committed history m name ≡ true
committed-more [] n m name le is = is
committed-more (entry ∷ older) n m name le is = elim (or_cases (ends entry name && nat_lt (length older) n) (committed older n name) is) [
  | inl here ↦ let p = and_parts (ends entry name) (nat_lt (length older) n) here in
      or_left (ends entry name && nat_lt (length older) m) (committed older m name) (and_from (ends entry name) (nat_lt (length older) m) p.0 (lt-ltb (length older) m (let low = ltb-true (length older) n p.1 in omega arith)))
  | inr later ↦ or_right (ends entry name && nat_lt (length older) m) (committed older m name) (committed-more older n m name le later)
]

committed-older : (entry : Entry) (older : List Entry) (name : Name) → committed older (length older) name ≡ true → committed (entry ∷ older) (length (entry ∷ older)) name ≡ true
committed-older entry older name is = committed-more (entry ∷ older) (length older) (length (entry ∷ older)) name (omega arith)
    (or_right (ends entry name && nat_lt (length older) (length older)) (committed older (length older) name) is)

pub name_eq-refl : (x : Name) → name_eq x x ≡ true
name_eq-refl x = and_from (x.run == x.run) (x.id == x.id) (eq-eqb x.run x.run refl) (eq-eqb x.id x.id refl)

pub member-append : {A : Type 0} (x : A) (l rest : List A) → Member x (l ++ rest) → Member x l ⊎ Member x rest
member-append x [] rest there = inr there
member-append x (y ∷ ys) rest (inl same) = inl (inl same)
member-append x (y ∷ ys) rest (inr there) = elim (member-append x ys rest there) [ inl at ↦ inl (inr at) | inr at ↦ inr at ]

pub named-so : (name : Name) (l : List Write) (v : Version Change) → Member v (map (version_of name) l) → v.window.name ≡ name
named-so name [] v there = absurd there
named-so name (w ∷ ws) v (inl same) = ap (λ (x : Version Change). x.window.name) same
named-so name (w ∷ ws) v (inr there) = named-so name ws v there

-- each version of a line was committed
pub line-committed : (history : List Entry) (table : ℕ) (key : List ℕ) (v : Version Change) → Member v (line history table key) → committed history (length history) v.window.name ≡ true
line-committed [] table key v there = absurd there
line-committed (Create t ∷ older) table key v there = committed-older (Create t) older v.window.name (line-committed older table key v there)
line-committed (Commit name writes ∷ older) table key v there = elim (member-append v (map (version_of name) (filter (writes_at table key) writes)) (line older table key) (rw (line-writes name writes older table key) at there)) [
  | inl new ↦ or_left (name_eq name v.window.name && nat_lt (length older) (length (Commit name writes ∷ older))) (committed older (length (Commit name writes ∷ older)) v.window.name)
      (and_from (name_eq name v.window.name) (nat_lt (length older) (length (Commit name writes ∷ older)))
      (subst (λ x. name_eq name x ≡ true) (sym (named-so name (filter (writes_at table key) writes) v new)) (name_eq-refl name)) (lt-ltb (length older) (length (Commit name writes ∷ older)) (omega arith)))
  | inr old ↦ committed-older (Commit name writes) older v.window.name (line-committed older table key v old)
]
line-committed (Prepare name stamp ∷ older) table key v there = committed-older (Prepare name stamp) older v.window.name (line-committed older table key v there)
line-committed (Resolve name writes ∷ older) table key v there = elim (member-append v (map (version_of name) (filter (writes_at table key) writes)) (line older table key) (rw (line-writes name writes older table key) at there)) [
  | inl new ↦ or_left (name_eq name v.window.name && nat_lt (length older) (length (Resolve name writes ∷ older))) (committed older (length (Resolve name writes ∷ older)) v.window.name)
      (and_from (name_eq name v.window.name) (nat_lt (length older) (length (Resolve name writes ∷ older)))
      (subst (λ x. name_eq name x ≡ true) (sym (named-so name (filter (writes_at table key) writes) v new)) (name_eq-refl name)) (lt-ltb (length older) (length (Resolve name writes ∷ older)) (omega arith)))
  | inr old ↦ committed-older (Resolve name writes) older v.window.name (line-committed older table key v old)
]
line-committed (Undo name ∷ older) table key v there = committed-older (Undo name) older v.window.name (line-committed older table key v there)
line-committed (Rts s ∷ older) table key v there = committed-older (Rts s) older v.window.name
    (line-committed older table key v (member-out (is_by s) (line older table key) v (rw (line-rts s older table key) at there)).0)

pub filter-all : {A : Type 0} (f : A → Bool) (l : List A) → ((x : A) → Member x l → f x ≡ true) → filter f l ≡ l
filter-all f [] all = refl
filter-all f (x ∷ xs) all = rw (all x (inl refl)) (ap (λ l. x ∷ l) (filter-all f xs (λ y there. all y (inr there))))

filter-none : {A : Type 0} (f : A → Bool) (l : List A) → ((x : A) → Member x l → f x ≡ false) → filter f l ≡ []
filter-none f [] none = refl
filter-none f (x ∷ xs) none = rw (none x (inl refl)) (filter-none f xs (λ y there. none y (inr there)))

filter-cong : {A : Type 0} (f g : A → Bool) (l : List A) → ((x : A) → f x ≡ g x) → filter f l ≡ filter g l
filter-cong f g [] same = refl
filter-cong f g (x ∷ xs) same = elim (cases_Bool (g x)) [
  | inl t ↦ rw (same x ∙ t, t) (ap (λ l. x ∷ l) (filter-cong f g xs same))
  | inr n ↦ rw (same x ∙ n, n) (filter-cong f g xs same)
]

filter-twice : {A : Type 0} (f g : A → Bool) (l : List A) → filter (both f g) l ≡ filter g (filter f l)
filter-twice f g [] = refl
filter-twice f g (x ∷ xs) = elim (cases_Bool (f x)) [
  | inl t ↦ elim (cases_Bool (g x)) [ inl u ↦ rw (t, u) (ap (λ l. x ∷ l) (filter-twice f g xs)) | inr n ↦ rw (t, n) (filter-twice f g xs) ]
  | inr n ↦ rw n (filter-twice f g xs)
]

started : List Entry → Version Change → Bool
started start v = committed start (length start) v.window.name

line-new : (start older : List Entry) (name : Name) (writes : List Write) (table : ℕ) (key : List ℕ) → committed start (length start) name ≡ false
    → filter (λ (v : Version Change). committed start (length start) v.window.name) (line older table key) ≡ line start table key
    → filter (λ (v : Version Change). committed start (length start) v.window.name) (map (version_of name) (filter (writes_at table key) writes) ++ line older table key) ≡ line start table key
line-new start older name writes table key fresh rest =
    filter-append (λ (v : Version Change). committed start (length start) v.window.name) (map (version_of name) (filter (writes_at table key) writes)) (line older table key)
    ∙ (ap (λ l. l ++ filter (λ (v : Version Change). committed start (length start) v.window.name) (line older table key))
    (filter-none (λ (v : Version Change). committed start (length start) v.window.name) (map (version_of name) (filter (writes_at table key) writes))
    (λ v there. subst (λ x. committed start (length start) x ≡ false) (sym (named-so name (filter (writes_at table key) writes) v there)) fresh))
    ∙ rest)

line-since : (start news : List Entry) (table : ℕ) (key : List ℕ) → AllFollow start news
    → filter (λ (v : Version Change). committed start (length start) v.window.name) (line (news ++ start) table key) ≡ line start table key
line-since start [] table key follows = filter-all (λ (v : Version Change). committed start (length start) v.window.name) (line start table key) (line-committed start table key)
line-since start (Create t ∷ news) table key follows = line-since start news table key follows.1
line-since start (Commit name writes ∷ news) table key follows = rw (line-writes name writes (news ++ start) table key) (line-new start (news ++ start) name writes table key follows.0 (line-since start news table key follows.1))
line-since start (Prepare name stamp ∷ news) table key follows = line-since start news table key follows.1
line-since start (Resolve name writes ∷ news) table key follows = rw (line-writes name writes (news ++ start) table key) (line-new start (news ++ start) name writes table key follows.0 (line-since start news table key follows.1))
line-since start (Undo name ∷ news) table key follows = line-since start news table key follows.1
line-since start (Rts s ∷ news) table key follows = absurd follows.0

-- what a checkpoint's snapshot sees of the line of now is the line of its start
pub line-prefix : (news start : List Entry) (table : ℕ) (key : List ℕ) → AllFollow start news → filter (is_in (news ++ start) (length start)) (line (news ++ start) table key) ≡ line start table key
line-prefix news start table key follows =
    filter-cong (is_in (news ++ start) (length start)) (λ (v : Version Change). committed start (length start) v.window.name) (line (news ++ start) table key) (λ v. committed-start news start v.window.name)
    ∙ line-since start news table key follows

pub older-order : IsOrder Older
older-order = record {
  asym = λ v w. asym v.window.name w.window.name;
  irrefl = λ v is. irrefl v.window.name is;
} where
  asym : (x y : Name) → NameBelow x y → NameBelow y x → ⊥
  asym x y (inl a) (inl b) = omega arith
  asym x y (inl a) (inr b) = let e = b.0 in omega arith
  asym x y (inr a) (inl b) = let e = a.0 in omega arith
  asym x y (inr a) (inr b) = let e = a.1 in let f = b.1 in omega arith

  irrefl : (x : Name) → NameBelow x x → ⊥
  irrefl x (inl a) = omega arith
  irrefl x (inr a) = let e = a.1 in omega arith

-- the law of the finish, for one key: what is kept of image and history agrees with the cut
pub finish-core : (news start : List Entry) (oldest stable table : ℕ) (key : List ℕ) (cell : Option (Version Change)) (History : Version Change → Type 0) (content : List (Version Change))
    → IsOrderly (news ++ start) → AllFollow start news → (stable ≡ 0) ⊎ (oldest ≤ stable)
    → KeyCaptured news start oldest table key cell History
    → Descends Older content → IsKeyContent (keeps news start stable) cell History content
    → core oldest (line (cut (news ++ start) (length start) stable) table key) ≡ core oldest content
finish-core news start oldest stable table key cell History content orderly follows stamps c d is =
    ap (core oldest)
    (line-cut (news ++ start) (length start) stable table key
    ∙ (ap (λ h. filter (is_stable stable) (line h table key)) (first-start news start)
    ∙ (ap (filter (is_stable stable)) (sym (line-prefix news start table key follows))
    ∙ sym (filter-twice (is_in (news ++ start) (length start)) (is_stable stable) (line (news ++ start) table key)))))
    ∙ captured-agrees Older (is_in (news ++ start) (length start)) (is_by oldest) (is_stable stable) (line (news ++ start) table key) content cell History
    older-order (line-descends (news ++ start) orderly table key) d
    (λ v low. elim stamps [
      | inl none ↦ or_left (stable == 0) (is_by stable v) (eq-eqb stable 0 none)
      | inr le ↦ or_right (stable == 0) (is_by stable v) (le-leb v.window.durable stable (let at = leb-true v.window.durable oldest low in omega arith))
    ])
    is c

-- all keys at once: the content agrees with the cut
pub finish-agrees : (news start : List Entry) (oldest stable : ℕ) (kept : List Placed) (cells : ℕ → List ℕ → Option (Version Change)) (History : ℕ → List ℕ → Version Change → Type 0)
    → IsOrderly (news ++ start) → AllFollow start news → (stable ≡ 0) ⊎ (oldest ≤ stable)
    → ((table : ℕ) (key : List ℕ) → KeyCaptured news start oldest table key (cells table key) (History table key))
    → ((table : ℕ) (key : List ℕ) → Descends Older (of_key table key kept))
    → ((table : ℕ) (key : List ℕ) → IsKeyContent (keeps news start stable) (cells table key) (History table key) (of_key table key kept))
    → Agree (history_of (tables start) kept) (cut (news ++ start) (length start) stable) oldest
finish-agrees news start oldest stable kept cells History orderly follows stamps captured d is = record {
  same_tables = tables-base (tables start) kept ∙ sym (tables-base (tables (first (length start) (news ++ start))) (filter (λ (p : Placed). is_stable stable p.version) (standing (first (length start) (news ++ start)))) ∙ ap tables (first-start news start));
  cores = λ table key. ap (core oldest) (line-base (tables start) kept table key)
      ∙ sym (finish-core news start oldest stable table key (cells table key) (History table key) (of_key table key kept) orderly follows stamps (captured table key) (d table key) (is table key));
}
