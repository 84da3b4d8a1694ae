-- The leaves of a history, and the history.
use Rattle.std.proofs.Common.{◌≡◌, ℕ, ◌+◌, ◌<◌, ◌≤◌, List, [], ◌∷◌, ◌++◌, length, take, drop, get_or, Option, Some, None, refl, sym, ◌∙◌, ap, subst, inl, inr}
use Rattle.std.specs.Prelude.{◌==◌, true, false}
use Rattle.std.specs.List.{AllByRecursion}
use Rattle.std.proofs.lemmas.Bool.{cases_Bool, false≢true}
use Rattle.std.proofs.lemmas.List.{append-nil, map-append, take-append-drop, take_all, drop_all}
use Rattle.std.proofs.lemmas.List.Concat.{flat_map-append}
use Rattle.checkpoint_record.proofs.Lists.{take_step}
use Rattle.device_layout.specs.declared.addr.Addr.{Addr}
use Rattle.stored.specs.Blocks.{Block, IsAddressed, IsAt, Holds}
use Rattle.stored.specs.Tree.{Layer, join, bottom, inner_blocks, leaf_blocks, AllBear}
use Rattle.stored.specs.HistoryTree.{HistoryEntry, HistoryRecord, HistoryTree, HistoryBears, Mark, HistoryClimbs, HistoryStays, NamesOnce, RecordsAscend, mark_of, first_record, history_kind, first_mark}
use Rattle.stored.specs.Records.{Root}
use Rattle.inner_page.specs.Names.{names_differ}
use Rattle.inner_page.proofs.NamesOnce.{differ_true, differ_is}
use Rattle.device_leaf.proofs.Shapes.{all_front, all_join}
use Rattle.tree_open.specs.Trees.{places}
use Rattle.hist_open.specs.declared.history.History.{History}
use Rattle.hist_open.specs.Trees.{InnerIs, HasHistory, IsRead, root_own}
use Rattle.hist_open.specs.Leaves.{IsUnder, NoneUnder, AreLeaves, RecordsAre, RecordsStay, leaf_block, leaf_addrs}
use Rattle.hist_open.specs.Damage.{EntrySpoils, LeavesSpoil, HistorySpoils, NamesTwice}
use Rattle.hist_open.proofs.OneLeaf.{one_under}
use Rattle.hist_open.proofs.OneLayer.{AllAddressed, Named, AreOwn, own_named, own_rest, named_begins, mark_push, mark_none, drop_here}
use Rattle.hist_open.proofs.Descent.{history_read, one_inner, one_layers}

-- ---- while the leaves are read

leaves_push : (bytes : List ℕ) (front : List HistoryEntry) (e : HistoryEntry) (next : Option Mark) (leaves : List (List HistoryRecord)) (records : List HistoryRecord) → AreLeaves bytes front (Some e.least) leaves → IsUnder bytes e next records → AreLeaves bytes (front ++ e ∷ []) next (leaves ++ records ∷ [])
leaves_push bytes [] e next [] records are is = (is, tt)
leaves_push bytes [] e next (other ∷ leaves) records are is = absurd are
leaves_push bytes (x ∷ front) e next [] records are is = absurd are
leaves_push bytes (x ∷ front) e next (other ∷ leaves) records are is = (
  subst (λ (k : Option Mark). IsUnder bytes x k other) (mark_push front e next) are.0,
  leaves_push bytes front e next leaves records are.1 is,
)

pub records_push : (leaves : List (List HistoryRecord)) (records : List HistoryRecord) → join (leaves ++ records ∷ []) ≡ join leaves ++ records
records_push leaves records = flat_map-append (λ (l : List HistoryRecord). l) leaves (records ∷ []) ∙ ap (λ (l : List HistoryRecord). join leaves ++ l) (append-nil records)

pub leaves_more : (bytes : List ℕ) (own : List HistoryEntry) (i : ℕ) (e : HistoryEntry) (leaves : List (List HistoryRecord)) (records : List HistoryRecord) → i < length own → e ≡ get_or own i e → AreLeaves bytes (take i own) (first_mark (drop i own)) leaves → IsUnder bytes e (first_mark (drop (i + 1) own)) records
    → AreLeaves bytes (take (i + 1) own) (first_mark (drop (i + 1) own)) (leaves ++ records ∷ [])
leaves_more bytes own i e leaves records lt is are leaf =
    let before : AreLeaves bytes (take i own) (Some e.least) leaves = subst (λ (k : Option Mark). AreLeaves bytes (take i own) k leaves) (ap first_mark (drop_here own i e lt is)) are in
    subst (λ (l : List HistoryEntry). AreLeaves bytes l (first_mark (drop (i + 1) own)) (leaves ++ records ∷ [])) (sym (take_step own i e lt is))
    (leaves_push bytes (take i own) e (first_mark (drop (i + 1) own)) leaves records before leaf)

pub leaves_spoilt : (bytes : List ℕ) (own : List HistoryEntry) (i : ℕ) (e : HistoryEntry) (leaves : List (List HistoryRecord)) (at want found : ℕ) → i < length own → e ≡ get_or own i e → AreLeaves bytes (take i own) (first_mark (drop i own)) leaves → EntrySpoils bytes e (first_mark (drop (i + 1) own)) at want found
    → LeavesSpoil bytes own at want found
leaves_spoilt bytes own i e leaves at want found lt is are spoils =
    let here = drop_here own i e lt is in
    record {
      front = take i own;
      entry = e;
      others = drop (i + 1) own;
      is = sym (take-append-drop i own) ∙ ap (λ (l : List HistoryEntry). take i own ++ l) here;
      leaves = leaves;
      before = subst (λ (k : Option Mark). AreLeaves bytes (take i own) k leaves) (ap first_mark here) are;
      leaf = spoils;
    }

are_whole : (bytes : List ℕ) (es : List HistoryEntry) (i : ℕ) (leaves : List (List HistoryRecord)) → length es ≤ i → AreLeaves bytes (take i es) (first_mark (drop i es)) leaves → AreLeaves bytes es None leaves
are_whole bytes es i leaves le are = subst (λ (l : List HistoryEntry). AreLeaves bytes l None leaves) (take_all i es le) (subst (λ (l : List HistoryEntry). AreLeaves bytes (take i es) (first_mark l) leaves) (drop_all i es le) are)

pub leaves_whole : (bytes : List ℕ) (own : List HistoryEntry) (i : ℕ) (leaves : List (List HistoryRecord)) (records : List HistoryRecord) → length own ≤ i → AreLeaves bytes (take i own) (first_mark (drop i own)) leaves → records ≡ join leaves → RecordsAre bytes own records
leaves_whole bytes own i leaves records le are is = record { leaves = leaves; are = are_whole bytes own i leaves le are; joined = is }

-- ---- the records of all leaves

ascend_both : (before : Option Mark) (p rest : List HistoryRecord) → RecordsAscend before p → RecordsAscend None rest → RecordsStay (first_record rest) p → (p ≡ [] → RecordsAscend before rest) → RecordsAscend before (p ++ rest)
ascend_both before [] rest ascend more stays none = none refl
ascend_both before (x ∷ []) [] ascend more stays none = ascend
ascend_both before (x ∷ []) (r ∷ rest) ascend more stays none = (ascend.0, (stays.0, more.1))
ascend_both before (x ∷ y ∷ p) rest ascend more stays none = (ascend.0, ascend_both (Some (mark_of x)) (y ∷ p) rest ascend.1 more stays.1 (λ is. cc))

first_some : (p rest : List HistoryRecord) (mark : Mark) → first_record p ≡ Some mark → first_record (p ++ rest) ≡ Some mark
first_some [] rest mark is = cc
first_some (x ∷ p) rest mark is = is

first_join : (bytes : List ℕ) (es : List HistoryEntry) (leaves : List (List HistoryRecord)) → Named es → AreLeaves bytes es None leaves → first_record (join leaves) ≡ first_mark es
first_join bytes [] [] named are = refl
first_join bytes [] (p ∷ leaves) named are = absurd are
first_join bytes (e ∷ es) [] named are = absurd are
first_join bytes (e ∷ es) (p ∷ leaves) named are = first_some p (join leaves) e.least (named_begins e (first_record p) named.0 are.0.bears.begins)

leaf_ascends : (e : HistoryEntry) (p : List HistoryRecord) → HistoryBears e p → RecordsAscend None p
leaf_ascends e p bears = elim bears.leaf [
  | inl none ↦ subst (λ (l : List HistoryRecord). RecordsAscend None l) (sym none.1) tt
  | inr are ↦ are.1.ascend
]

records_ascend : (bytes : List ℕ) (es : List HistoryEntry) (leaves : List (List HistoryRecord)) → AreOwn es → AreLeaves bytes es None leaves → RecordsAscend None (join leaves)
records_ascend bytes [] [] own are = tt
records_ascend bytes [] (p ∷ leaves) own are = absurd are
records_ascend bytes (e ∷ es) [] own are = absurd are
records_ascend bytes (e ∷ es) (p ∷ leaves) own are =
    let rest = own_rest e es own in
    let more = records_ascend bytes es leaves (own_named es rest) are.1 in
    ascend_both None p (join leaves) (leaf_ascends e p are.0.bears) more
    (subst (λ (k : Option Mark). RecordsStay k p) (mark_none es ∙ sym (first_join bytes es leaves rest are.1)) are.0.stays) (λ none. more)

-- a name stands once for each key exactly where they are told to differ
pub names_once : (bytes : List ℕ) (es : List HistoryEntry) (records : List HistoryRecord) → AreOwn es → RecordsAre bytes es records → names_differ records ≡ true → NamesOnce records
names_once bytes es records own are told =
    differ_true records (subst (λ (l : List HistoryRecord). RecordsAscend None l) (sym are.joined) (records_ascend bytes es are.leaves own are.are)) told

pub names_twice : (bytes : List ℕ) (root : Root) (es : List HistoryEntry) (addrs : List Addr) (records : List HistoryRecord) → InnerIs bytes root es addrs → RecordsAre bytes es records → names_differ records ≡ false → NamesTwice bytes root root.link.addr.offset root.link.addr.sum root.link.addr.sum
names_twice bytes root es addrs records inner are told = record {
  es = es;
  addrs = addrs;
  inner = inner;
  leaves = are.leaves;
  are = are.are;
  twice = λ once. false≢true (sym told ∙ differ_is records (subst (λ (l : List HistoryRecord). NamesOnce l) (sym are.joined) once));
  place = refl;
  sum = refl;
  same = refl;
}

-- ---- no leaves where one is not there

no_leaves : (bytes : List ℕ) (front : List HistoryEntry) (e : HistoryEntry) (others : List HistoryEntry) (leaves : List (List HistoryRecord)) → NoneUnder bytes e (first_mark others) → AreLeaves bytes (front ++ e ∷ others) None leaves → ⊥
no_leaves bytes [] e others [] none are = are
no_leaves bytes [] e others (records ∷ leaves) none are = none records (subst (λ (k : Option Mark). IsUnder bytes e k records) (mark_none others) are.0)
no_leaves bytes (x ∷ front) e others [] none are = are
no_leaves bytes (x ∷ front) e others (records ∷ leaves) none are = no_leaves bytes front e others leaves none are.1

-- there is one list of leaves at most
one_leaves : (bytes : List ℕ) (es : List HistoryEntry) (next : Option Mark) (ps qs : List (List HistoryRecord)) → AreLeaves bytes es next ps → AreLeaves bytes es next qs → ps ≡ qs
one_leaves bytes [] next [] [] are other = refl
one_leaves bytes [] next [] (q ∷ qs) are other = absurd other
one_leaves bytes [] next (p ∷ ps) qs are other = absurd are
one_leaves bytes (e ∷ es) next [] qs are other = absurd are
one_leaves bytes (e ∷ es) next (p ∷ ps) [] are other = absurd other
one_leaves bytes (e ∷ es) next (p ∷ ps) (q ∷ qs) are other =
    ap (λ (l : List HistoryRecord). l ∷ ps) (one_under bytes e _ p q are.0 other.0) ∙ ap (λ (l : List (List HistoryRecord)). q ∷ l) (one_leaves bytes es next ps qs are.1 other.1)

-- ---- in the words of a tree

to_bear : (bytes : List ℕ) (es : List HistoryEntry) (next : Option Mark) (leaves : List (List HistoryRecord)) → AreLeaves bytes es next leaves → AllBear history_kind es leaves × AllAddressed (leaf_blocks history_kind es leaves) × Holds bytes (leaf_blocks history_kind es leaves)
to_bear bytes [] next [] are = (tt, tt, tt)
to_bear bytes [] next (records ∷ leaves) are = absurd are
to_bear bytes (e ∷ es) next [] are = absurd are
to_bear bytes (e ∷ es) next (records ∷ leaves) are =
    let rest = to_bear bytes es next leaves are.1 in (
      (are.0.bears, rest.0),
      all_join (λ (b : Block). IsAddressed b) (leaf_block e records) (leaf_blocks history_kind es leaves) are.0.addressed rest.1,
      all_join (λ (b : Block). IsAt bytes b) (leaf_block e records) (leaf_blocks history_kind es leaves) are.0.holds rest.2,
    )

to_stay : (bytes : List ℕ) (es : List HistoryEntry) (leaves : List (List HistoryRecord)) → AreLeaves bytes es None leaves → HistoryStays es leaves
to_stay bytes [] leaves are = tt
to_stay bytes (e ∷ es) [] are = tt
to_stay bytes (e ∷ es) (records ∷ leaves) are = (subst (λ (k : Option Mark). RecordsStay k records) (mark_none es) are.0.stays, to_stay bytes es leaves are.1)

all_back : (P : Block → Type 0) (xs ys : List Block) → AllByRecursion P (xs ++ ys) → AllByRecursion P ys
all_back P [] ys all = all
all_back P (x ∷ xs) ys all = all_back P xs ys all.1

-- from a tree's words
from_bear : (bytes : List ℕ) (es : List HistoryEntry) (leaves : List (List HistoryRecord)) → AllBear history_kind es leaves → HistoryStays es leaves → AllAddressed (leaf_blocks history_kind es leaves) → Holds bytes (leaf_blocks history_kind es leaves) → AreLeaves bytes es None leaves
from_bear bytes [] [] bear stay addressed holds = tt
from_bear bytes [] (records ∷ leaves) bear stay addressed holds = absurd bear
from_bear bytes (e ∷ es) [] bear stay addressed holds = absurd bear
from_bear bytes (e ∷ es) (records ∷ leaves) bear stay addressed holds =
    let rest : List Block = leaf_blocks history_kind es leaves in (
      record {
        bears = bear.0;
        stays = subst (λ (k : Option Mark). RecordsStay k records) (sym (mark_none es)) stay.0;
        addressed = all_front (λ (b : Block). IsAddressed b) (leaf_block e records) rest addressed;
        holds = all_front (λ (b : Block). IsAt bytes b) (leaf_block e records) rest holds;
      },
      from_bear bytes es leaves bear.1 stay.1 (all_back (λ (b : Block). IsAddressed b) (leaf_block e records) rest addressed) (all_back (λ (b : Block). IsAt bytes b) (leaf_block e records) rest holds),
    )

tree_leaves : (bytes : List ℕ) (root : Root) (t : HistoryTree) → HasHistory bytes root t → AreLeaves bytes (bottom (root_own root) t.layers) None t.leaves
tree_leaves bytes root t has =
    let own : List HistoryEntry = bottom (root_own root) t.layers in
    let upper : List Block = inner_blocks history_kind (root_own root) t.layers in
    let leaves : List Block = leaf_blocks history_kind own t.leaves in
    from_bear bytes own t.leaves has.is.bear has.is.parts.stays (all_back (λ (b : Block). IsAddressed b) upper leaves has.addressed) (all_back (λ (b : Block). IsAt bytes b) upper leaves has.holds)

-- ---- the history

-- where leaves stand
leaf_places : (es : List HistoryEntry) (leaves : List (List HistoryRecord)) → AllBear history_kind es leaves → places (leaf_blocks history_kind es leaves) ≡ leaf_addrs es
leaf_places [] [] bear = refl
leaf_places [] (records ∷ leaves) bear = absurd bear
leaf_places (e ∷ es) [] bear = absurd bear
leaf_places (e ∷ es) (records ∷ leaves) bear = elim (cases_Bool (e.link.addr.offset == 0)) [
  | inl none ↦ rw none (leaf_places es leaves bear.1)
  | inr some ↦ rw some (ap (λ (l : List Addr). e.link.addr ∷ l) (leaf_places es leaves bear.1))
]

pub history_is : (bytes : List ℕ) (root : Root) (es : List HistoryEntry) (above : List Addr) (records : List HistoryRecord) (h : History) → InnerIs bytes root es above → RecordsAre bytes es records → NamesOnce records → h.records.items ≡ records → h.addrs.items ≡ above ++ leaf_addrs es → IsRead bytes root h
history_is bytes root es above records h inner read once all stand =
    let own : List HistoryEntry = bottom (root_own root) inner.layers in
    let are : AreLeaves bytes own None read.leaves = subst (λ (l : List HistoryEntry). AreLeaves bytes l None read.leaves) inner.entries read.are in
    let words = to_bear bytes own None read.leaves are in
    let upper : List Block = inner_blocks history_kind (root_own root) inner.layers in
    let leaves : List Block = leaf_blocks history_kind own read.leaves in
    record {
      tree = record { layers = inner.layers; leaves = read.leaves };
      has = record {
        is = record {
          levels = inner.levels;
          lead = inner.lead;
          bear = words.0;
          parts = record {
            climbs = subst (λ (l : List HistoryEntry). HistoryClimbs l) inner.entries inner.climbs;
            stays = to_stay bytes own read.leaves are;
            once = subst (λ (l : List HistoryRecord). NamesOnce l) read.joined once;
          };
        };
        addressed = all_join (λ (b : Block). IsAddressed b) upper leaves inner.addressed words.1;
        holds = all_join (λ (b : Block). IsAt bytes b) upper leaves inner.holds words.2;
      };
      all = all ∙ read.joined;
      stand = stand
          ∙ ap (λ (l : List Addr). l ++ leaf_addrs es) inner.stand
          ∙ ap (λ (l : List HistoryEntry). places upper ++ leaf_addrs l) inner.entries
          ∙ ap (λ (l : List Addr). places upper ++ l) (sym (leaf_places own read.leaves words.0))
          ∙ sym (map-append {A = Block} (λ b. b.place) upper leaves);
    }

-- ---- no history where one is not there

same_leaves : (bytes : List ℕ) (root : Root) (es : List HistoryEntry) (addrs : List Addr) (t : HistoryTree) → InnerIs bytes root es addrs → HasHistory bytes root t → AreLeaves bytes es None t.leaves
same_leaves bytes root es addrs t inner has =
    let own : List HistoryEntry = bottom (root_own root) t.layers in
    let one = one_inner bytes root own es (places (inner_blocks history_kind (root_own root) t.layers)) addrs (history_read bytes root t has) inner in
    subst (λ (l : List HistoryEntry). AreLeaves bytes l None t.leaves) one.0 (tree_leaves bytes root t has)

pub spoilt_no_history : (bytes : List ℕ) (root : Root) (at want found : ℕ) (t : HistoryTree) → HistorySpoils bytes root at want found → HasHistory bytes root t → ⊥
spoilt_no_history bytes root at want found t (inl inner) has = inner.none (bottom (root_own root) t.layers) (places (inner_blocks history_kind (root_own root) t.layers)) (history_read bytes root t has)
spoilt_no_history bytes root at want found t (inr (inl leaf)) has =
    let are = same_leaves bytes root leaf.es leaf.addrs t leaf.inner has in
    no_leaves bytes leaf.leaves.front leaf.leaves.entry leaf.leaves.others t.leaves leaf.leaves.leaf.none (subst (λ (l : List HistoryEntry). AreLeaves bytes l None t.leaves) leaf.leaves.is are)
spoilt_no_history bytes root at want found t (inr (inr twice)) has =
    let are = same_leaves bytes root twice.es twice.addrs t twice.inner has in
    twice.twice (subst (λ (l : List (List HistoryRecord)). NamesOnce (join l)) (one_leaves bytes twice.es None t.leaves twice.leaves are twice.are) has.is.parts.once)

pub one_history : (bytes : List ℕ) (root : Root) (t other : HistoryTree) → HasHistory bytes root t → HasHistory bytes root other → t ≡ other
one_history bytes root t other has there =
    let layers : t.layers ≡ other.layers = one_layers bytes root t other has there in
    let leaves : t.leaves ≡ other.leaves =
    one_leaves bytes (bottom (root_own root) other.layers) None t.leaves other.leaves (subst (λ (l : List (Layer HistoryEntry)). AreLeaves bytes (bottom (root_own root) l) None t.leaves) layers (tree_leaves bytes root t has)) (tree_leaves bytes root other there) in
    ap (λ (l : List (Layer HistoryEntry)). tree_with l t.leaves) layers ∙ ap (λ (l : List (List HistoryRecord)). tree_with other.layers l) leaves
  where
    tree_with : List (Layer HistoryEntry) → List (List HistoryRecord) → HistoryTree
    tree_with layers leaves = record { layers = layers; leaves = leaves }
