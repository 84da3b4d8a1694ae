-- From layer to layer.
use Rattle.std.proofs.Common.{◌≡◌, ℕ, suc, ◌+◌, ◌-◌, ◌<◌, List, [], ◌∷◌, ◌++◌, length, take, get_or, Option, None, refl, sym, ◌∙◌, ap, subst, arith}
use Rattle.std.specs.Prelude.{map}
use Rattle.std.specs.List.{AllByRecursion}
use Rattle.std.proofs.lemmas.List.{length-append, append-nil, append_assoc, map-append}
use Rattle.device_layout.specs.declared.addr.Addr.{Addr}
use Rattle.checkpoint_record.proofs.Lists.{take_step}
use Rattle.device_leaf.proofs.Shapes.{all_front, all_join}
use Rattle.stored.specs.Blocks.{Block, IsAddressed, IsAt, Holds}
use Rattle.stored.specs.Tree.{Layer, join, bottom, inner_blocks, leaf_blocks, page_blocks, AllLead}
use Rattle.stored.specs.HistoryTree.{HistoryEntry, HistoryClimbs, HistoryTree, Mark, history_kind}
use Rattle.stored.specs.Records.{Root}
use Rattle.hist_open.specs.Pages.{ArePages, LayerIs}
use Rattle.tree_open.specs.Trees.{leaf_addr, places}
use Rattle.hist_open.specs.Trees.{AreLayers, HasHistory, InnerIs, root_own}
use Rattle.hist_open.specs.Leaves.{leaf_addrs}
use Rattle.hist_open.specs.Damage.{LayerSpoils, InnerSpoils}
use Rattle.hist_open.proofs.OneLayer.{AllAddressed, AreOwn, to_lead, from_lead, join_climbs, join_named, own_named, climbs_above, one_layer, no_pages}

-- ---- in the words of a tree

pub to_words : (bytes : List ℕ) (level : ℕ) (own : List HistoryEntry) (layers : List (Layer HistoryEntry)) → length layers ≡ level → AreLayers bytes level own layers → AllLead history_kind own layers × AllAddressed (inner_blocks history_kind own layers) × Holds bytes (inner_blocks history_kind own layers)
to_words bytes level own [] deep are = (tt, tt, tt)
to_words bytes level own (pages ∷ layers) deep are =
    let here = to_lead bytes (suc (length layers)) own None pages (subst (λ k. ArePages bytes k own None pages) (sym deep) are.0) in
    let rest = to_words bytes (level - 1) (join pages) layers (omega (arith, deep)) are.1 in (
      (here.0, rest.0),
      all_join (λ (b : Block). IsAddressed b) (page_blocks history_kind (suc (length layers)) own pages) (inner_blocks history_kind (join pages) layers) here.1 rest.1,
      all_join (λ (b : Block). IsAt bytes b) (page_blocks history_kind (suc (length layers)) own pages) (inner_blocks history_kind (join pages) layers) here.2 rest.2,
    )

-- the entries below are those of records
below_own : (bytes : List ℕ) (level : ℕ) (own : List HistoryEntry) (pages : Layer HistoryEntry) → ArePages bytes level own None pages → AreOwn (join pages)
below_own bytes level own pages are = own_named (join pages) (join_named level own pages (to_lead bytes level own None pages are).0)

pub bottom_own : (bytes : List ℕ) (level : ℕ) (own : List HistoryEntry) (layers : List (Layer HistoryEntry)) → AreOwn own → AreLayers bytes level own layers → AreOwn (bottom own layers)
bottom_own bytes level own [] named are = named
bottom_own bytes level own (pages ∷ layers) named are = bottom_own bytes (level - 1) (join pages) layers (below_own bytes level own pages are.0) are.1

pub bottom_climbs : (bytes : List ℕ) (level : ℕ) (own : List HistoryEntry) (layers : List (Layer HistoryEntry)) → AreOwn own → HistoryClimbs own → AreLayers bytes level own layers → HistoryClimbs (bottom own layers)
bottom_climbs bytes level own [] named climbs are = climbs
bottom_climbs bytes level own (pages ∷ layers) named climbs are = bottom_climbs bytes (level - 1) (join pages) layers (below_own bytes level own pages are.0) (join_climbs bytes level own pages named are.0) are.1

all_back : (P : Block → Type 0) (xs ys : List Block) → AllByRecursion P (xs ++ ys) → AllByRecursion P ys
all_back P [] ys all = all
all_back P (x ∷ xs) ys all = all_back P xs ys all.1

pub from_words : (bytes : List ℕ) (level : ℕ) (own : List HistoryEntry) (layers : List (Layer HistoryEntry)) → AreOwn own → length layers ≡ level → AllLead history_kind own layers → AllAddressed (inner_blocks history_kind own layers) → Holds bytes (inner_blocks history_kind own layers) → HistoryClimbs (bottom own layers) → HistoryClimbs own × AreLayers bytes level own layers
from_words bytes level own [] named deep lead addressed holds climbs = (climbs, tt)
from_words bytes level own (pages ∷ layers) named deep lead addressed holds climbs =
    let here : List Block = page_blocks history_kind (suc (length layers)) own pages in
    let below : List Block = inner_blocks history_kind (join pages) layers in
    let rest = from_words bytes (level - 1) (join pages) layers (own_named (join pages) (join_named (suc (length layers)) own pages lead.0)) (omega (arith, deep)) lead.1 (all_back (λ (b : Block). IsAddressed b) here below addressed) (all_back (λ (b : Block). IsAt bytes b) here below holds) climbs in
    let are : ArePages bytes (suc (length layers)) own None pages = from_lead bytes (suc (length layers)) own pages named lead.0 (all_front (λ (b : Block). IsAddressed b) here below addressed) (all_front (λ (b : Block). IsAt bytes b) here below holds) rest.0 in
    (climbs_above (suc (length layers)) own pages named lead.0 rest.0, (subst (λ k. ArePages bytes k own None pages) deep are, rest.1))

-- ---- where the pages stand

abbrev pub page_addrs : List HistoryEntry → List Addr
page_addrs own = map {A = HistoryEntry} (λ e. e.link.addr) own

leaf_push : (own : List HistoryEntry) (e : HistoryEntry) → leaf_addrs (own ++ e ∷ []) ≡ leaf_addrs own ++ leaf_addr e.link.addr
leaf_push [] e = append-nil (leaf_addr e.link.addr)
leaf_push (x ∷ own) e = ap (λ (l : List Addr). leaf_addr x.link.addr ++ l) (leaf_push own e) ∙ sym (append_assoc (leaf_addr x.link.addr) (leaf_addrs own) (leaf_addr e.link.addr))

-- one leaf more
pub leaf_more : (own : List HistoryEntry) (i : ℕ) (e : HistoryEntry) (a : Addr) (before addrs more : List Addr) → i < length own → e ≡ get_or own i e → a ≡ e.link.addr → addrs ≡ before ++ leaf_addrs (take i own) → more ≡ addrs ++ leaf_addr a → more ≡ before ++ leaf_addrs (take (i + 1) own)
leaf_more own i e a before addrs more lt is same were added =
    added
    ∙ ap (λ (l : List Addr). l ++ leaf_addr a) were
    ∙ append_assoc before (leaf_addrs (take i own)) (leaf_addr a)
    ∙ ap (λ (b : Addr). before ++ (leaf_addrs (take i own) ++ leaf_addr b)) same
    ∙ ap (λ (l : List Addr). before ++ l) (sym (leaf_push (take i own) e))
    ∙ ap (λ (l : List HistoryEntry). before ++ leaf_addrs l) (sym (take_step own i e lt is))

-- where the pages of these layers stand: where the entries of each lead
abbrev own_addrs : List HistoryEntry → List (Layer HistoryEntry) → List Addr
own_addrs own [] = []
own_addrs own (pages ∷ layers) = page_addrs own ++ own_addrs (join pages) layers

own_push : (own : List HistoryEntry) (layers : List (Layer HistoryEntry)) (pages : Layer HistoryEntry) → own_addrs own (layers ++ pages ∷ []) ≡ own_addrs own layers ++ page_addrs (bottom own layers)
own_push own [] pages = append-nil (page_addrs own)
own_push own (p ∷ layers) pages =
    ap (λ (l : List Addr). page_addrs own ++ l) (own_push (join p) layers pages) ∙ sym (append_assoc (page_addrs own) (own_addrs (join p) layers) (page_addrs (bottom (join p) layers)))

page_places : (bytes : List ℕ) (level n : ℕ) (own : List HistoryEntry) (next : Option Mark) (pages : Layer HistoryEntry) → ArePages bytes level own next pages → places (page_blocks history_kind n own pages) ≡ page_addrs own
page_places bytes level n [] next pages are = refl
page_places bytes level n (e ∷ own) next [] are = absurd are
page_places bytes level n (e ∷ own) next (p ∷ pages) are = ap (λ (l : List Addr). e.link.addr ∷ l) (page_places bytes level n own next pages are.1)

inner_places : (bytes : List ℕ) (level : ℕ) (own : List HistoryEntry) (layers : List (Layer HistoryEntry)) → AreLayers bytes level own layers → places (inner_blocks history_kind own layers) ≡ own_addrs own layers
inner_places bytes level own [] are = refl
inner_places bytes level own (pages ∷ layers) are =
    map-append {A = Block} (λ b. b.place) (page_blocks history_kind (suc (length layers)) own pages) (inner_blocks history_kind (join pages) layers)
    ∙ ap (λ (l : List Addr). l ++ places (inner_blocks history_kind (join pages) layers)) (page_places bytes level (suc (length layers)) own None pages are.0)
    ∙ ap (λ (l : List Addr). page_addrs own ++ l) (inner_places bytes (level - 1) (join pages) layers are.1)

-- ---- the layers that are read

-- the layer of the tree at this level has these entries, and the pages above it stand there
pub record Reached (bytes : List ℕ) (root : Root) (level : ℕ) (own : List HistoryEntry) (addrs : List Addr) : Type 0 where
  pub layers : List (Layer HistoryEntry)
  pub depth : length layers + level ≡ root.level
  pub above : AreLayers bytes root.level (root_own root) layers
  pub entries : own ≡ bottom (root_own root) layers
  pub stand : addrs ≡ own_addrs (root_own root) layers

pub at_root : (bytes : List ℕ) (root : Root) (own : List HistoryEntry) (addrs : List Addr) → own ≡ root_own root → addrs ≡ [] → Reached bytes root root.level own addrs
at_root bytes root own addrs is none = record { layers = []; depth = omega arith; above = tt; entries = is; stand = none }

layers_push : (bytes : List ℕ) (level : ℕ) (own : List HistoryEntry) (layers : List (Layer HistoryEntry)) (pages : Layer HistoryEntry) → AreLayers bytes level own layers → ArePages bytes (level - length layers) (bottom own layers) None pages → AreLayers bytes level own (layers ++ pages ∷ [])
layers_push bytes level own [] pages are more = (subst (λ k. ArePages bytes k own None pages) (omega arith) more, tt)
layers_push bytes level own (p ∷ layers) pages are more =
    let same : level - suc (length layers) ≡ level - 1 - length layers = omega arith in
    (are.0, layers_push bytes (level - 1) (join p) layers pages are.1 (subst (λ k. ArePages bytes k (bottom (join p) layers) None pages) same more))

bottom_push : (own : List HistoryEntry) (layers : List (Layer HistoryEntry)) (pages : Layer HistoryEntry) → bottom own (layers ++ pages ∷ []) ≡ join pages
bottom_push own [] pages = refl
bottom_push own (p ∷ layers) pages = bottom_push (join p) layers pages

pub reached_more : (bytes : List ℕ) (root : Root) (level : ℕ) (own es : List HistoryEntry) (addrs more : List Addr) → 0 < level → Reached bytes root level own addrs → LayerIs bytes level own es → more ≡ addrs ++ page_addrs own → Reached bytes root (level - 1) es more
reached_more bytes root level own es addrs more some reached layer added =
    let same : level ≡ root.level - length reached.layers = omega (arith, reached.depth) in
    let pages : ArePages bytes (root.level - length reached.layers) (bottom (root_own root) reached.layers) None layer.pages =
    subst (λ (l : List HistoryEntry). ArePages bytes (root.level - length reached.layers) l None layer.pages) reached.entries (subst (λ k. ArePages bytes k own None layer.pages) same layer.are) in
    record {
      layers = reached.layers ++ layer.pages ∷ [];
      depth = omega (arith, length-append reached.layers (layer.pages ∷ []), reached.depth, some);
      above = layers_push bytes root.level (root_own root) reached.layers layer.pages reached.above pages;
      entries = layer.entries ∙ sym (bottom_push (root_own root) reached.layers layer.pages);
      stand = added ∙ ap (λ (l : List Addr). l ++ page_addrs own) reached.stand ∙ ap (λ (l : List HistoryEntry). own_addrs (root_own root) reached.layers ++ page_addrs l) reached.entries
          ∙ sym (own_push (root_own root) reached.layers layer.pages);
    }

pub inner_reached : (bytes : List ℕ) (root : Root) (level : ℕ) (es : List HistoryEntry) (addrs : List Addr) → level ≡ 0 → Reached bytes root level es addrs → InnerIs bytes root es addrs
inner_reached bytes root level es addrs low reached =
    let deep : length reached.layers ≡ root.level = omega (arith, low, reached.depth) in
    let words = to_words bytes root.level (root_own root) reached.layers deep reached.above in
    record {
      layers = reached.layers;
      levels = deep;
      lead = words.0;
      addressed = words.1;
      holds = words.2;
      entries = reached.entries;
      climbs = subst (λ (l : List HistoryEntry). HistoryClimbs l) (sym reached.entries) (bottom_climbs bytes root.level (root_own root) reached.layers tt tt reached.above);
      stand = reached.stand ∙ sym (inner_places bytes root.level (root_own root) reached.layers reached.above);
    }

-- ---- no tree where a layer is not there

no_layers : (bytes : List ℕ) (level : ℕ) (own : List HistoryEntry) (layers full : List (Layer HistoryEntry)) → AreLayers bytes level own layers → length layers < level → ((pages : Layer HistoryEntry) → ArePages bytes (level - length layers) (bottom own layers) None pages → ⊥) → length full ≡ level → AreLayers bytes level own full → ⊥
no_layers bytes level own layers [] are few none deep whole = omega (arith, few, deep)
no_layers bytes level own [] (q ∷ full) are few none deep whole = none q (subst (λ k. ArePages bytes k own None q) (omega arith) whole.0)
no_layers bytes level own (p ∷ layers) (q ∷ full) are few none deep whole =
    let same : level - 1 - length layers ≡ level - suc (length layers) = omega arith in
    no_layers bytes (level - 1) (join p) layers full are.1 (omega (arith, few))
    (λ pages here. none pages (subst (λ k. ArePages bytes k (bottom (join p) layers) None pages) same here))
    (omega (arith, deep))
    (subst (λ (l : Layer HistoryEntry). AreLayers bytes (level - 1) (join l) full) (sym (one_layer bytes level own None p q are.0 whole.0)) whole.1)

no_layer : (bytes : List ℕ) (level : ℕ) (own : List HistoryEntry) (at want found : ℕ) → LayerSpoils bytes level own at want found → (pages : Layer HistoryEntry) → ArePages bytes level own None pages → ⊥
no_layer bytes level own at want found spoils pages are =
    no_pages bytes level spoils.front spoils.entry spoils.others pages spoils.page.none (subst (λ (l : List HistoryEntry). ArePages bytes level l None pages) spoils.is are)

inner_layers : (bytes : List ℕ) (root : Root) (es : List HistoryEntry) (addrs : List Addr) → (is : InnerIs bytes root es addrs) → AreLayers bytes root.level (root_own root) is.layers
inner_layers bytes root es addrs is = (from_words bytes root.level (root_own root) is.layers tt is.levels is.lead is.addressed is.holds (subst (λ (l : List HistoryEntry). HistoryClimbs l) is.entries is.climbs)).1

pub inner_own : (bytes : List ℕ) (root : Root) (es : List HistoryEntry) (addrs : List Addr) → InnerIs bytes root es addrs → AreOwn es
inner_own bytes root es addrs is = subst (λ (l : List HistoryEntry). AreOwn l) (sym is.entries) (bottom_own bytes root.level (root_own root) is.layers tt (inner_layers bytes root es addrs is))

pub inner_spoilt : (bytes : List ℕ) (root : Root) (level : ℕ) (own : List HistoryEntry) (addrs : List Addr) (at want found : ℕ) → 0 < level → Reached bytes root level own addrs → LayerSpoils bytes level own at want found → InnerSpoils bytes root at want found
inner_spoilt bytes root level own addrs at want found some reached spoils =
    let same : level ≡ root.level - length reached.layers = omega (arith, reached.depth) in
    let few : length reached.layers < root.level = omega (arith, reached.depth, some) in
    let layer : LayerSpoils bytes (root.level - length reached.layers) (bottom (root_own root) reached.layers) at want found =
    subst (λ (l : List HistoryEntry). LayerSpoils bytes (root.level - length reached.layers) l at want found) reached.entries (subst (λ k. LayerSpoils bytes k own at want found) same spoils) in
    record {
      none = λ es others is.
          no_layers bytes root.level (root_own root) reached.layers is.layers reached.above few (no_layer bytes (root.level - length reached.layers) (bottom (root_own root) reached.layers) at want found layer) is.levels (inner_layers bytes root es others is);
      layers = reached.layers;
      few = few;
      above = reached.above;
      layer = layer;
    }

-- ---- what there is to be read

pub history_read : (bytes : List ℕ) (root : Root) (t : HistoryTree) → HasHistory bytes root t → InnerIs bytes root (bottom (root_own root) t.layers) (places (inner_blocks history_kind (root_own root) t.layers))
history_read bytes root t has =
    let upper : List Block = inner_blocks history_kind (root_own root) t.layers in
    let leaves : List Block = leaf_blocks history_kind (bottom (root_own root) t.layers) t.leaves in
    record {
      layers = t.layers;
      levels = has.is.levels;
      lead = has.is.lead;
      addressed = all_front (λ (b : Block). IsAddressed b) upper leaves has.addressed;
      holds = all_front (λ (b : Block). IsAt bytes b) upper leaves has.holds;
      entries = refl;
      climbs = has.is.parts.climbs;
      stand = refl;
    }

one_descent : (bytes : List ℕ) (level : ℕ) (own : List HistoryEntry) (ps qs : List (Layer HistoryEntry)) → length ps ≡ level → length qs ≡ level → AreLayers bytes level own ps → AreLayers bytes level own qs → ps ≡ qs
one_descent bytes level own [] [] deep long are other = refl
one_descent bytes level own [] (q ∷ qs) deep long are other = absurd (omega (arith, deep, long))
one_descent bytes level own (p ∷ ps) [] deep long are other = absurd (omega (arith, deep, long))
one_descent bytes level own (p ∷ ps) (q ∷ qs) deep long are other =
    let same : p ≡ q = one_layer bytes level own None p q are.0 other.0 in
    ap (λ (l : Layer HistoryEntry). l ∷ ps) same
    ∙ ap (λ (l : List (Layer HistoryEntry)). q ∷ l) (one_descent bytes (level - 1) (join p) ps qs (omega (arith, deep)) (omega (arith, long)) are.1 (subst (λ (l : Layer HistoryEntry). AreLayers bytes (level - 1) (join l) qs) (sym same) other.1))

history_layers : (bytes : List ℕ) (root : Root) (t : HistoryTree) → HasHistory bytes root t → AreLayers bytes root.level (root_own root) t.layers
history_layers bytes root t has =
    let upper : List Block = inner_blocks history_kind (root_own root) t.layers in
    let leaves : List Block = leaf_blocks history_kind (bottom (root_own root) t.layers) t.leaves in
    (from_words bytes root.level (root_own root) t.layers tt has.is.levels has.is.lead (all_front (λ (b : Block). IsAddressed b) upper leaves has.addressed) (all_front (λ (b : Block). IsAt bytes b) upper leaves has.holds) has.is.parts.climbs).1

pub one_layers : (bytes : List ℕ) (root : Root) (t other : HistoryTree) → HasHistory bytes root t → HasHistory bytes root other → t.layers ≡ other.layers
one_layers bytes root t other has there = one_descent bytes root.level (root_own root) t.layers other.layers has.is.levels there.is.levels (history_layers bytes root t has) (history_layers bytes root other there)

pub one_inner : (bytes : List ℕ) (root : Root) (es other : List HistoryEntry) (addrs others : List Addr) → InnerIs bytes root es addrs → InnerIs bytes root other others → (es ≡ other) × (addrs ≡ others)
one_inner bytes root es other addrs others is there =
    let same : is.layers ≡ there.layers =
    one_descent bytes root.level (root_own root) is.layers there.layers is.levels there.levels (inner_layers bytes root es addrs is) (inner_layers bytes root other others there) in (
      is.entries ∙ ap (λ (l : List (Layer HistoryEntry)). bottom (root_own root) l) same ∙ sym there.entries,
      is.stand ∙ ap (λ (l : List (Layer HistoryEntry)). places (inner_blocks history_kind (root_own root) l)) same ∙ sym there.stand,
    )
