-- The pages of one layer.
use Rattle.std.proofs.Common.{◌≡◌, ℕ, ◌+◌, ◌-◌, ◌<◌, ◌≤◌, length, take, drop, get_or, IsTrue, List, [], ◌∷◌, ◌++◌, Option, Some, None, refl, sym, ◌∙◌, ap, subst, arith}
use Rattle.std.specs.List.{AllByRecursion}
use Rattle.std.proofs.lemmas.List.{length-append, length-drop, take-append-drop, take_all, drop_all, at_drop_more}
use Rattle.checkpoint_record.proofs.Lists.{take_step}
use Rattle.stored.specs.Blocks.{Block, IsAddressed, Holds}
use Rattle.stored.specs.Tree.{Layer, join, Lead, page_blocks}
use Rattle.stored.specs.TableTree.{Entry, Climbs, first_key, table_kind}
use Rattle.row_page.specs.Rows.{is_below}
use Rattle.row_page.proofs.Ascending.{below_trans}
use Rattle.tree_open.specs.Pages.{PageIs, NoPage, Stays, IsFormed, ArePages, LayerIs, key_next}
use Rattle.tree_open.specs.Damage.{PageSpoils, LayerSpoils}
use Rattle.tree_open.proofs.OnePage.{one_page, stays_none}

abbrev pub AllAddressed : List Block → Type 0
AllAddressed blocks = AllByRecursion (λ (b : Block). IsAddressed b) blocks

-- ---- one page more

pub key_push : (front : List Entry) (e : Entry) (next : Option (List ℕ)) → key_next front (Some e.key) ≡ key_next (front ++ e ∷ []) next
key_push [] e next = refl
key_push (x ∷ front) e next = refl

pub pages_push : (bytes : List ℕ) (level : ℕ) (front : List Entry) (e : Entry) (next : Option (List ℕ)) (pages : Layer Entry) (p : List Entry) → ArePages bytes level front (Some e.key) pages → PageIs bytes level e next p → ArePages bytes level (front ++ e ∷ []) next (pages ++ p ∷ [])
pages_push bytes level [] e next [] p are is = (is, tt)
pages_push bytes level [] e next (q ∷ pages) p are is = absurd are
pages_push bytes level (x ∷ front) e next [] p are is = absurd are
pages_push bytes level (x ∷ front) e next (q ∷ pages) p are is = (
  subst (λ (k : Option (List ℕ)). PageIs bytes level x k q) (key_push front e next) are.0,
  pages_push bytes level front e next pages p are.1 is,
)

pub join_push : (pages : Layer Entry) (p : List Entry) → join (pages ++ p ∷ []) ≡ join pages ++ p
join_push [] p = nil p
  where
    nil : (l : List Entry) → l ++ [] ≡ l
    nil [] = refl
    nil (x ∷ l) = ap (λ (m : List Entry). x ∷ m) (nil l)
join_push (q ∷ pages) p = ap (λ (l : List Entry). q ++ l) (join_push pages p) ∙ sym (assoc q (join pages) p)
  where
    assoc : (a b c : List Entry) → (a ++ b) ++ c ≡ a ++ (b ++ c)
    assoc [] b c = refl
    assoc (x ∷ a) b c = ap (λ (m : List Entry). x ∷ m) (assoc a b c)

-- ---- no layer where a page is not there

pub key_none : (others : List Entry) → key_next others None ≡ first_key others
key_none [] = refl
key_none (x ∷ others) = refl

pub no_pages : (bytes : List ℕ) (level : ℕ) (front : List Entry) (e : Entry) (others : List Entry) (pages : Layer Entry) → NoPage bytes level e (first_key others) → ArePages bytes level (front ++ e ∷ others) None pages → ⊥
no_pages bytes level [] e others [] none are = are
no_pages bytes level [] e others (p ∷ pages) none are = none p (subst (λ (k : Option (List ℕ)). PageIs bytes level e k p) (key_none others) are.0)
no_pages bytes level (x ∷ front) e others [] none are = are
no_pages bytes level (x ∷ front) e others (p ∷ pages) none are = no_pages bytes level front e others pages none are.1

-- there is one layer at most
pub one_layer : (bytes : List ℕ) (level : ℕ) (own : List Entry) (next : Option (List ℕ)) (ps qs : Layer Entry) → ArePages bytes level own next ps → ArePages bytes level own next qs → ps ≡ qs
one_layer bytes level [] next [] [] are other = refl
one_layer bytes level [] next [] (q ∷ qs) are other = absurd other
one_layer bytes level [] next (p ∷ ps) qs are other = absurd are
one_layer bytes level (e ∷ own) next [] qs are other = absurd are
one_layer bytes level (e ∷ own) next (p ∷ ps) [] are other = absurd other
one_layer bytes level (e ∷ own) next (p ∷ ps) (q ∷ qs) are other =
    ap (λ (l : List Entry). l ∷ ps) (one_page bytes level e (key_next own next) p q are.0 other.0) ∙ ap (λ (l : Layer Entry). q ∷ l) (one_layer bytes level own next ps qs are.1 other.1)

-- ---- in the words of a tree

pub to_lead : (bytes : List ℕ) (level : ℕ) (own : List Entry) (next : Option (List ℕ)) (pages : Layer Entry) → ArePages bytes level own next pages → Lead table_kind level own pages × AllAddressed (page_blocks table_kind level own pages) × Holds bytes (page_blocks table_kind level own pages)
to_lead bytes level [] next [] are = (tt, tt, tt)
to_lead bytes level [] next (p ∷ pages) are = absurd are
to_lead bytes level (e ∷ own) next [] are = absurd are
to_lead bytes level (e ∷ own) next (p ∷ pages) are =
    let rest = to_lead bytes level own next pages are.1 in
    ((are.0.leads, rest.0), (are.0.addressed, rest.1), (are.0.holds, rest.2))

-- a page is not empty, and begins with its entry's key
begins_some : (p rest : List Entry) (key : List ℕ) → first_key p ≡ Some key → first_key (p ++ rest) ≡ Some key
begins_some [] rest key is = cc
begins_some (x ∷ p) rest key is = is

first_join : (level : ℕ) (own : List Entry) (pages : Layer Entry) → Lead table_kind level own pages → first_key (join pages) ≡ first_key own
first_join level [] [] lead = refl
first_join level [] (p ∷ pages) lead = absurd lead
first_join level (e ∷ own) [] lead = absurd lead
first_join level (e ∷ own) (p ∷ pages) lead = begins_some p (join pages) e.key lead.0.begins

-- keys that climb, and behind them others that climb
climbs_both : (p rest : List Entry) → Climbs p → Climbs rest → Stays (first_key rest) p → Climbs (p ++ rest)
climbs_both [] rest climbs more stays = more
climbs_both (x ∷ []) [] climbs more stays = tt
climbs_both (x ∷ []) (r ∷ rest) climbs more stays = (stays.0, more)
climbs_both (x ∷ y ∷ p) rest climbs more stays = (climbs.0, climbs_both (y ∷ p) rest climbs.1 more stays.1)

climbs_rest : (p rest : List Entry) → Climbs (p ++ rest) → Climbs rest
climbs_rest [] rest climbs = climbs
climbs_rest (x ∷ []) [] climbs = tt
climbs_rest (x ∷ []) (r ∷ rest) climbs = climbs.1
climbs_rest (x ∷ y ∷ p) rest climbs = climbs_rest (y ∷ p) rest climbs.1

stays_below : (p : List Entry) (r : Entry) (rest : List Entry) → Climbs (p ++ r ∷ rest) → Stays (Some r.key) p
stays_below [] r rest climbs = tt
stays_below (x ∷ []) r rest climbs = (climbs.0, tt)
stays_below (x ∷ y ∷ p) r rest climbs =
    let more : Stays (Some r.key) (y ∷ p) = stays_below (y ∷ p) r rest climbs.1 in
    (below_trans x.key y.key r.key climbs.0 more.0, more)

climbs_stays : (p rest : List Entry) → Climbs (p ++ rest) → Stays (first_key rest) p
climbs_stays p [] climbs = stays_none p
climbs_stays p (r ∷ rest) climbs = stays_below p r rest climbs

-- a layer's entries climb
pub join_climbs : (bytes : List ℕ) (level : ℕ) (own : List Entry) (pages : Layer Entry) → ArePages bytes level own None pages → Climbs (join pages)
join_climbs bytes level [] [] are = tt
join_climbs bytes level [] (p ∷ pages) are = absurd are
join_climbs bytes level (e ∷ own) [] are = absurd are
join_climbs bytes level (e ∷ own) (p ∷ pages) are =
    let lead = to_lead bytes level own None pages are.1 in
    climbs_both p (join pages) are.0.leads.page.climbs (join_climbs bytes level own pages are.1)
    (subst (λ (k : Option (List ℕ)). Stays k p) (key_none own ∙ sym (first_join level own pages lead.0)) are.0.stays)

-- from a tree's words
pub from_lead : (bytes : List ℕ) (level : ℕ) (own : List Entry) (pages : Layer Entry) → Lead table_kind level own pages → AllAddressed (page_blocks table_kind level own pages) → Holds bytes (page_blocks table_kind level own pages) → Climbs (join pages) → ArePages bytes level own None pages
from_lead bytes level [] [] lead addressed holds climbs = tt
from_lead bytes level [] (p ∷ pages) lead addressed holds climbs = absurd lead
from_lead bytes level (e ∷ own) [] lead addressed holds climbs = absurd lead
from_lead bytes level (e ∷ own) (p ∷ pages) lead addressed holds climbs = (
  record {
    leads = lead.0;
    stays = subst (λ (k : Option (List ℕ)). Stays k p) (first_join level own pages lead.1 ∙ sym (key_none own)) (climbs_stays p (join pages) climbs);
    addressed = addressed.0;
    holds = holds.0;
  },
  from_lead bytes level own pages lead.1 addressed.1 holds.1 (climbs_rest p (join pages) climbs),
)

-- where the keys of a layer climb, so do those above it
begins_below : (p : List Entry) (key next : List ℕ) → first_key p ≡ Some key → Stays (Some next) p → IsTrue (is_below key next)
begins_below [] key next is stays = cc
begins_below (x ∷ p) key next is stays = let same : x.key ≡ key = cc in subst (λ (k : List ℕ). IsTrue (is_below k next)) same stays.0

pub climbs_above : (level : ℕ) (own : List Entry) (pages : Layer Entry) → Lead table_kind level own pages → Climbs (join pages) → Climbs own
climbs_above level [] pages lead climbs = tt
climbs_above level (e ∷ []) pages lead climbs = tt
climbs_above level (e ∷ f ∷ own) [] lead climbs = absurd lead
climbs_above level (e ∷ f ∷ own) (p ∷ pages) lead climbs = (
  begins_below p e.key f.key lead.0.begins (subst (λ (k : Option (List ℕ)). Stays k p) (first_join level (f ∷ own) pages lead.1) (climbs_stays p (join pages) climbs)),
  climbs_above level (f ∷ own) pages lead.1 (climbs_rest p (join pages) climbs),
)

-- ---- while a layer is read

-- what stands behind a place, as a slice to the end
pub behind : (own : List Entry) (i : ℕ) → take (length own - (i + 1)) (drop (i + 1) own) ≡ drop (i + 1) own
behind own i = take_all (length own - (i + 1)) (drop (i + 1) own) (omega (arith, length-drop (i + 1) own))

drop_here : (own : List Entry) (i : ℕ) (e : Entry) → i < length own → e ≡ get_or own i e → drop i own ≡ e ∷ drop (i + 1) own
drop_here own i e lt is = at_drop_more (λ (l : List Entry). l) own i e lt ∙ ap (λ (x : Entry). x ∷ drop (i + 1) own) (sym is)

-- keys below one that is below another are below that
stays_through : (e : Entry) (next : Option (List ℕ)) (below p : List Entry) → Stays (Some e.key) below → IsFormed e next p → Stays next below
stays_through e None below p stays formed = stays_none below
stays_through e (Some n) below p stays formed = all_through below stays
  where
    all_through : (l : List Entry) → Stays (Some e.key) l → Stays (Some n) l
    all_through [] all = tt
    all_through (x ∷ l) all = (below_trans x.key e.key n all.0 (begins_below p e.key n formed.begins formed.stays), all_through l all.1)

stays_join : (next : Option (List ℕ)) (below p : List Entry) → Stays next below → Stays next p → Stays next (below ++ p)
stays_join next [] p stays more = more
stays_join next (x ∷ below) p stays more = (stays.0, stays_join next below p stays.1 more)

some_entry : (p : List Entry) (key : List ℕ) → first_key p ≡ Some key → 1 ≤ length p
some_entry [] key is = cc
some_entry (x ∷ p) key is = omega arith

-- the keys of the pages in front of the i-th climb, up to its own
pub record AreFormed (own below : List Entry) (i : ℕ) : Type 0 where
  pub climbs : Climbs below
  pub stays : Stays (first_key (drop i own)) below
  pub some : 1 ≤ i → 1 ≤ length below

pub formed_more : (own : List Entry) (i : ℕ) (e : Entry) (below p all : List Entry) → i < length own → e ≡ get_or own i e → AreFormed own below i → IsFormed e (first_key (drop (i + 1) own)) p → all ≡ below ++ p → AreFormed own all (i + 1)
formed_more own i e below p all lt is was formed joined =
    let here : first_key (drop i own) ≡ Some e.key = ap first_key (drop_here own i e lt is) in
    let stays : Stays (Some e.key) below = subst (λ (k : Option (List ℕ)). Stays k below) here was.stays in
    let next : Option (List ℕ) = first_key (drop (i + 1) own) in
    record {
      climbs = subst (λ (l : List Entry). Climbs l) (sym joined) (climbs_both below p was.climbs formed.climbs (subst (λ (k : Option (List ℕ)). Stays k below) (sym formed.begins) stays));
      stays = subst (λ (l : List Entry). Stays next l) (sym joined) (stays_join next below p (stays_through e next below p stays formed) formed.stays);
      some = λ le. omega (arith, some_entry p e.key formed.begins, ap length joined, length-append below p);
    }

-- the pages of the entries in front of the i-th, which these are, and of the i-th
pub layer_more : (bytes : List ℕ) (level : ℕ) (own : List Entry) (i : ℕ) (e : Entry) (pages : Layer Entry) (p : List Entry) → i < length own → e ≡ get_or own i e → ArePages bytes level (take i own) (first_key (drop i own)) pages → PageIs bytes level e (first_key (drop (i + 1) own)) p → ArePages bytes level (take (i + 1) own) (first_key (drop (i + 1) own)) (pages ++ p ∷ [])
layer_more bytes level own i e pages p lt is are page =
    let before : ArePages bytes level (take i own) (Some e.key) pages = subst (λ (k : Option (List ℕ)). ArePages bytes level (take i own) k pages) (ap first_key (drop_here own i e lt is)) are in
    subst (λ (l : List Entry). ArePages bytes level l (first_key (drop (i + 1) own)) (pages ++ p ∷ [])) (sym (take_step own i e lt is))
    (pages_push bytes level (take i own) e (first_key (drop (i + 1) own)) pages p before page)

pub layer_spoilt : (bytes : List ℕ) (level : ℕ) (own : List Entry) (i : ℕ) (e : Entry) (pages : Layer Entry) (at want found : ℕ) → i < length own → e ≡ get_or own i e → ArePages bytes level (take i own) (first_key (drop i own)) pages → PageSpoils bytes level e (first_key (drop (i + 1) own)) at want found → LayerSpoils bytes level own at want found
layer_spoilt bytes level own i e pages at want found lt is are spoils =
    let here = drop_here own i e lt is in
    record {
      front = take i own;
      entry = e;
      others = drop (i + 1) own;
      is = sym (take-append-drop i own) ∙ ap (λ (l : List Entry). take i own ++ l) here;
      pages = pages;
      before = subst (λ (k : Option (List ℕ)). ArePages bytes level (take i own) k pages) (ap first_key here) are;
      page = spoils;
    }

pub layer_whole : (bytes : List ℕ) (level : ℕ) (own : List Entry) (i : ℕ) (pages : Layer Entry) (es : List Entry) → length own ≤ i → ArePages bytes level (take i own) (first_key (drop i own)) pages → es ≡ join pages → LayerIs bytes level own es
layer_whole bytes level own i pages es le are is = record {
  pages = pages;
  are = subst (λ (l : List Entry). ArePages bytes level l None pages) (take_all i own le) (subst (λ (l : List Entry). ArePages bytes level (take i own) (first_key l) pages) (drop_all i own le) are);
  entries = is;
}
