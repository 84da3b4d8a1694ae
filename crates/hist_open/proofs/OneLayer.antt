-- The pages of one layer.
use Rattle.std.proofs.Common.{◌≡◌, ℕ, ◌+◌, ◌-◌, ◌<◌, ◌≤◌, length, take, drop, get_or, IsTrue, List, [], ◌∷◌, ◌++◌, Option, Some, None, refl, sym, ◌∙◌, ap, subst, inl, inr, arith}
use Rattle.std.specs.List.{AllByRecursion}
use Rattle.std.proofs.lemmas.List.{length-drop, take-append-drop, take_all, drop_all, at_drop_more}
use Rattle.checkpoint_record.proofs.Lists.{take_step}
use Rattle.stored.specs.Blocks.{Block, IsAddressed, Holds}
use Rattle.stored.specs.Tree.{Layer, join, Lead, page_blocks}
use Rattle.stored.specs.HistoryTree.{HistoryEntry, HistoryEntryFits, Mark, Begins, HistoryClimbs, first_mark, history_kind, is_before, start}
use Rattle.inner_page.proofs.MarkOrder.{before_trans}
use Rattle.hist_open.specs.Pages.{PageIs, NoPage, Stays, ArePages, LayerIs, mark_next}
use Rattle.hist_open.specs.Damage.{PageSpoils, LayerSpoils}
use Rattle.hist_open.proofs.OnePage.{one_page, stays_none}

abbrev pub AllAddressed : List Block → Type 0
AllAddressed blocks = AllByRecursion (λ (b : Block). IsAddressed b) blocks

-- ---- one page more

pub mark_push : (front : List HistoryEntry) (e : HistoryEntry) (next : Option Mark) → mark_next front (Some e.least) ≡ mark_next (front ++ e ∷ []) next
mark_push [] e next = refl
mark_push (x ∷ front) e next = refl

pub pages_push : (bytes : List ℕ) (level : ℕ) (front : List HistoryEntry) (e : HistoryEntry) (next : Option Mark) (pages : Layer HistoryEntry) (p : List HistoryEntry) → ArePages bytes level front (Some e.least) pages → PageIs bytes level e next p → ArePages bytes level (front ++ e ∷ []) next (pages ++ p ∷ [])
pages_push bytes level [] e next [] p are is = (is, tt)
pages_push bytes level [] e next (q ∷ pages) p are is = absurd are
pages_push bytes level (x ∷ front) e next [] p are is = absurd are
pages_push bytes level (x ∷ front) e next (q ∷ pages) p are is = (
  subst (λ (k : Option Mark). PageIs bytes level x k q) (mark_push front e next) are.0,
  pages_push bytes level front e next pages p are.1 is,
)

pub join_push : (pages : Layer HistoryEntry) (p : List HistoryEntry) → join (pages ++ p ∷ []) ≡ join pages ++ p
join_push [] p = nil p
  where
    nil : (l : List HistoryEntry) → l ++ [] ≡ l
    nil [] = refl
    nil (x ∷ l) = ap (λ (m : List HistoryEntry). x ∷ m) (nil l)
join_push (q ∷ pages) p = ap (λ (l : List HistoryEntry). q ++ l) (join_push pages p) ∙ sym (assoc q (join pages) p)
  where
    assoc : (a b c : List HistoryEntry) → (a ++ b) ++ c ≡ a ++ (b ++ c)
    assoc [] b c = refl
    assoc (x ∷ a) b c = ap (λ (m : List HistoryEntry). x ∷ m) (assoc a b c)

-- ---- no layer where a page is not there

pub mark_none : (others : List HistoryEntry) → mark_next others None ≡ first_mark others
mark_none [] = refl
mark_none (x ∷ others) = refl

pub no_pages : (bytes : List ℕ) (level : ℕ) (front : List HistoryEntry) (e : HistoryEntry) (others : List HistoryEntry) (pages : Layer HistoryEntry) → NoPage bytes level e (first_mark others) → ArePages bytes level (front ++ e ∷ others) None pages → ⊥
no_pages bytes level [] e others [] none are = are
no_pages bytes level [] e others (p ∷ pages) none are = none p (subst (λ (k : Option Mark). PageIs bytes level e k p) (mark_none others) are.0)
no_pages bytes level (x ∷ front) e others [] none are = are
no_pages bytes level (x ∷ front) e others (p ∷ pages) none are = no_pages bytes level front e others pages none are.1

-- there is one layer at most
pub one_layer : (bytes : List ℕ) (level : ℕ) (own : List HistoryEntry) (next : Option Mark) (ps qs : Layer HistoryEntry) → ArePages bytes level own next ps → ArePages bytes level own next qs → ps ≡ qs
one_layer bytes level [] next [] [] are other = refl
one_layer bytes level [] next [] (q ∷ qs) are other = absurd other
one_layer bytes level [] next (p ∷ ps) qs are other = absurd are
one_layer bytes level (e ∷ own) next [] qs are other = absurd are
one_layer bytes level (e ∷ own) next (p ∷ ps) [] are other = absurd other
one_layer bytes level (e ∷ own) next (p ∷ ps) (q ∷ qs) are other =
    ap (λ (l : List HistoryEntry). l ∷ ps) (one_page bytes level e (mark_next own next) p q are.0 other.0) ∙ ap (λ (l : Layer HistoryEntry). q ∷ l) (one_layer bytes level own next ps qs are.1 other.1)

-- ---- in the words of a tree

pub to_lead : (bytes : List ℕ) (level : ℕ) (own : List HistoryEntry) (next : Option Mark) (pages : Layer HistoryEntry) → ArePages bytes level own next pages → Lead history_kind level own pages × AllAddressed (page_blocks history_kind level own pages) × Holds bytes (page_blocks history_kind level own pages)
to_lead bytes level [] next [] are = (tt, tt, tt)
to_lead bytes level [] next (p ∷ pages) are = absurd are
to_lead bytes level (e ∷ own) next [] are = absurd are
to_lead bytes level (e ∷ own) next (p ∷ pages) are =
    let rest = to_lead bytes level own next pages are.1 in
    ((are.0.leads, rest.0), (are.0.addressed, rest.1), (are.0.holds, rest.2))

-- ---- entries that say their first record

-- no entry stands before every record
abbrev pub Named : List HistoryEntry → Type 0
Named own = AllByRecursion (λ (e : HistoryEntry). e.least ≡ start → ⊥) own

-- the entry of a root alone, or such entries
abbrev pub AreOwn : List HistoryEntry → Type 0
AreOwn [] = Unit {0}
AreOwn (e ∷ []) = Unit {0}
AreOwn (e ∷ f ∷ own) = Named (e ∷ f ∷ own)

pub own_named : (own : List HistoryEntry) → Named own → AreOwn own
own_named [] named = tt
own_named (e ∷ []) named = tt
own_named (e ∷ f ∷ own) named = named

pub own_rest : (e : HistoryEntry) (own : List HistoryEntry) → AreOwn (e ∷ own) → Named own
own_rest e [] are = tt
own_rest e (f ∷ own) are = are.1

-- a version's name is that of a run
fit_named : (es : List HistoryEntry) → AllByRecursion (λ (e : HistoryEntry). HistoryEntryFits e) es → Named es
fit_named [] fit = tt
fit_named (e ∷ es) fit = ((λ is. let none : e.least.name.run ≡ 0 = ap (λ (m : Mark). m.name.run) is in omega (arith, none, fit.0.name.run.0)), fit_named es fit.1)

named_join : (p rest : List HistoryEntry) → Named p → Named rest → Named (p ++ rest)
named_join [] rest named more = more
named_join (e ∷ p) rest named more = (named.0, named_join p rest named.1 more)

pub join_named : (level : ℕ) (own : List HistoryEntry) (pages : Layer HistoryEntry) → Lead history_kind level own pages → Named (join pages)
join_named level [] [] lead = tt
join_named level [] (p ∷ pages) lead = absurd lead
join_named level (e ∷ own) [] lead = absurd lead
join_named level (e ∷ own) (p ∷ pages) lead = named_join p (join pages) (fit_named p lead.0.page.fit) (join_named level own pages lead.1)

-- a page is not empty, and begins with its entry's record
pub named_begins : (e : HistoryEntry) (first : Option Mark) → (e.least ≡ start → ⊥) → Begins e first → first ≡ Some e.least
named_begins e first named (inl is) = absurd (named is)
named_begins e first named (inr is) = is

begins_some : (p rest : List HistoryEntry) (mark : Mark) → first_mark p ≡ Some mark → first_mark (p ++ rest) ≡ Some mark
begins_some [] rest mark is = cc
begins_some (x ∷ p) rest mark is = is

first_join : (level : ℕ) (own : List HistoryEntry) (pages : Layer HistoryEntry) → Named own → Lead history_kind level own pages → first_mark (join pages) ≡ first_mark own
first_join level [] [] named lead = refl
first_join level [] (p ∷ pages) named lead = absurd lead
first_join level (e ∷ own) [] named lead = absurd lead
first_join level (e ∷ own) (p ∷ pages) named lead = begins_some p (join pages) e.least (named_begins e (first_mark p) named.0 lead.0.begins)

-- records that climb, and behind them others that climb
climbs_both : (p rest : List HistoryEntry) → HistoryClimbs p → HistoryClimbs rest → Stays (first_mark rest) p → HistoryClimbs (p ++ rest)
climbs_both [] rest climbs more stays = more
climbs_both (x ∷ []) [] climbs more stays = tt
climbs_both (x ∷ []) (r ∷ rest) climbs more stays = (stays.0, more)
climbs_both (x ∷ y ∷ p) rest climbs more stays = (climbs.0, climbs_both (y ∷ p) rest climbs.1 more stays.1)

climbs_rest : (p rest : List HistoryEntry) → HistoryClimbs (p ++ rest) → HistoryClimbs rest
climbs_rest [] rest climbs = climbs
climbs_rest (x ∷ []) [] climbs = tt
climbs_rest (x ∷ []) (r ∷ rest) climbs = climbs.1
climbs_rest (x ∷ y ∷ p) rest climbs = climbs_rest (y ∷ p) rest climbs.1

stays_before : (p : List HistoryEntry) (r : HistoryEntry) (rest : List HistoryEntry) → HistoryClimbs (p ++ r ∷ rest) → Stays (Some r.least) p
stays_before [] r rest climbs = tt
stays_before (x ∷ []) r rest climbs = (climbs.0, tt)
stays_before (x ∷ y ∷ p) r rest climbs =
    let more : Stays (Some r.least) (y ∷ p) = stays_before (y ∷ p) r rest climbs.1 in
    (before_trans x.least y.least r.least climbs.0 more.0, more)

climbs_stays : (p rest : List HistoryEntry) → HistoryClimbs (p ++ rest) → Stays (first_mark rest) p
climbs_stays p [] climbs = stays_none p
climbs_stays p (r ∷ rest) climbs = stays_before p r rest climbs

-- a layer's entries climb
pub join_climbs : (bytes : List ℕ) (level : ℕ) (own : List HistoryEntry) (pages : Layer HistoryEntry) → AreOwn own → ArePages bytes level own None pages → HistoryClimbs (join pages)
join_climbs bytes level [] [] named are = tt
join_climbs bytes level [] (p ∷ pages) named are = absurd are
join_climbs bytes level (e ∷ own) [] named are = absurd are
join_climbs bytes level (e ∷ own) (p ∷ pages) named are =
    let lead = to_lead bytes level own None pages are.1 in
    let rest = own_rest e own named in
    climbs_both p (join pages) are.0.leads.page.climbs (join_climbs bytes level own pages (own_named own rest) are.1)
    (subst (λ (k : Option Mark). Stays k p) (mark_none own ∙ sym (first_join level own pages rest lead.0)) are.0.stays)

-- from a tree's words
pub from_lead : (bytes : List ℕ) (level : ℕ) (own : List HistoryEntry) (pages : Layer HistoryEntry) → AreOwn own → Lead history_kind level own pages → AllAddressed (page_blocks history_kind level own pages) → Holds bytes (page_blocks history_kind level own pages) → HistoryClimbs (join pages) → ArePages bytes level own None pages
from_lead bytes level [] [] named lead addressed holds climbs = tt
from_lead bytes level [] (p ∷ pages) named lead addressed holds climbs = absurd lead
from_lead bytes level (e ∷ own) [] named lead addressed holds climbs = absurd lead
from_lead bytes level (e ∷ own) (p ∷ pages) named lead addressed holds climbs =
    let rest = own_rest e own named in (
      record {
        leads = lead.0;
        stays = subst (λ (k : Option Mark). Stays k p) (first_join level own pages rest lead.1 ∙ sym (mark_none own)) (climbs_stays p (join pages) climbs);
        addressed = addressed.0;
        holds = holds.0;
      },
      from_lead bytes level own pages (own_named own rest) lead.1 addressed.1 holds.1 (climbs_rest p (join pages) climbs),
    )

-- where the records of a layer climb, so do those above it
begins_before : (p : List HistoryEntry) (mark next : Mark) → first_mark p ≡ Some mark → Stays (Some next) p → IsTrue (is_before mark next)
begins_before [] mark next is stays = cc
begins_before (x ∷ p) mark next is stays = let same : x.least ≡ mark = cc in subst (λ (k : Mark). IsTrue (is_before k next)) same stays.0

pub climbs_above : (level : ℕ) (own : List HistoryEntry) (pages : Layer HistoryEntry) → AreOwn own → Lead history_kind level own pages → HistoryClimbs (join pages) → HistoryClimbs own
climbs_above level [] pages named lead climbs = tt
climbs_above level (e ∷ []) pages named lead climbs = tt
climbs_above level (e ∷ f ∷ own) [] named lead climbs = absurd lead
climbs_above level (e ∷ f ∷ own) (p ∷ pages) named lead climbs = (
  begins_before p e.least f.least (named_begins e (first_mark p) named.0 lead.0.begins) (subst (λ (k : Option Mark). Stays k p) (first_join level (f ∷ own) pages named.1 lead.1) (climbs_stays p (join pages) climbs)),
  climbs_above level (f ∷ own) pages (own_named (f ∷ own) named.1) lead.1 (climbs_rest p (join pages) climbs),
)

-- ---- while a layer is read

-- what stands behind a place, as a slice to the end
pub behind : (own : List HistoryEntry) (i : ℕ) → take (length own - (i + 1)) (drop (i + 1) own) ≡ drop (i + 1) own
behind own i = take_all (length own - (i + 1)) (drop (i + 1) own) (omega (arith, length-drop (i + 1) own))

pub drop_here : (own : List HistoryEntry) (i : ℕ) (e : HistoryEntry) → i < length own → e ≡ get_or own i e → drop i own ≡ e ∷ drop (i + 1) own
drop_here own i e lt is = at_drop_more (λ (l : List HistoryEntry). l) own i e lt ∙ ap (λ (x : HistoryEntry). x ∷ drop (i + 1) own) (sym is)

-- the pages of the entries in front of the i-th, which these are, and of the i-th
pub layer_more : (bytes : List ℕ) (level : ℕ) (own : List HistoryEntry) (i : ℕ) (e : HistoryEntry) (pages : Layer HistoryEntry) (p : List HistoryEntry) → i < length own → e ≡ get_or own i e → ArePages bytes level (take i own) (first_mark (drop i own)) pages → PageIs bytes level e (first_mark (drop (i + 1) own)) p → ArePages bytes level (take (i + 1) own) (first_mark (drop (i + 1) own)) (pages ++ p ∷ [])
layer_more bytes level own i e pages p lt is are page =
    let before : ArePages bytes level (take i own) (Some e.least) pages = subst (λ (k : Option Mark). ArePages bytes level (take i own) k pages) (ap first_mark (drop_here own i e lt is)) are in
    subst (λ (l : List HistoryEntry). ArePages bytes level l (first_mark (drop (i + 1) own)) (pages ++ p ∷ [])) (sym (take_step own i e lt is))
    (pages_push bytes level (take i own) e (first_mark (drop (i + 1) own)) pages p before page)

pub layer_spoilt : (bytes : List ℕ) (level : ℕ) (own : List HistoryEntry) (i : ℕ) (e : HistoryEntry) (pages : Layer HistoryEntry) (at want found : ℕ) → i < length own → e ≡ get_or own i e → ArePages bytes level (take i own) (first_mark (drop i own)) pages → PageSpoils bytes level e (first_mark (drop (i + 1) own)) at want found → LayerSpoils bytes level own at want found
layer_spoilt bytes level own i e pages at want found lt is are spoils =
    let here = drop_here own i e lt is in
    record {
      front = take i own;
      entry = e;
      others = drop (i + 1) own;
      is = sym (take-append-drop i own) ∙ ap (λ (l : List HistoryEntry). take i own ++ l) here;
      pages = pages;
      before = subst (λ (k : Option Mark). ArePages bytes level (take i own) k pages) (ap first_mark here) are;
      page = spoils;
    }

pub layer_whole : (bytes : List ℕ) (level : ℕ) (own : List HistoryEntry) (i : ℕ) (pages : Layer HistoryEntry) (es : List HistoryEntry) → length own ≤ i → ArePages bytes level (take i own) (first_mark (drop i own)) pages → es ≡ join pages → LayerIs bytes level own es
layer_whole bytes level own i pages es le are is = record {
  pages = pages;
  are = subst (λ (l : List HistoryEntry). ArePages bytes level l None pages) (take_all i own le) (subst (λ (l : List HistoryEntry). ArePages bytes level (take i own) (first_mark l) pages) (drop_all i own le) are);
  entries = is;
}
