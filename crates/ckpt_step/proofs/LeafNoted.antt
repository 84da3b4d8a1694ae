-- A leaf that is written, and its entries noted, as far as there is memory.
use Rattle.std.specs.Prelude.{◌≡◌, ℕ, suc, ◌≤◌, List, [], ◌∷◌, ◌++◌, length, drop, take, ◌-◌, Option, Result, Ok, Err, IfErr, OnOk, refl}
use Rattle.std.specs.List.{AllByRecursion}
use Rattle.std.proofs.Common.{sym, ◌∙◌, ap, subst, arith}
use Rattle.std.proofs.lemmas.List.{length-append, length-drop, take_all}
use Rattle.disk_model.specs.declared.disk.Disk.{Ghosts}
use Rattle.block_mgr.specs.Blocks.{Books}
use Rattle.device_layout.specs.declared.addr.Addr.{Addr}
use Rattle.device_layout.specs.declared.link.Link.{Link}
use Rattle.wt_code.specs.declared.store_error.StoreError.{StoreError}
use Rattle.wt_code.specs.declared.store_error.StoreError.TheVariants.{NoMemory, NoSpace}
use Rattle.row_page.specs.Rows.{Row, key_most}
use Rattle.reconcile.specs.declared.image.Image.{Image}
use Rattle.snapshot.specs.Sight.{Sight}
use Rattle.leaf_frame.specs.Leaf.{HeldLeaf}
use Rattle.frame_capture.specs.Capture.{IsCaptured}
use Rattle.stored.specs.Stored.{Stored}
use Rattle.stored.specs.TableTree.{Climbs, Entry, EntryFits}
use Rattle.tree_dir.specs.declared.leaf.Leaf.{Leaf}
use Rattle.tree_write.specs.Drafts.{AreFrom, AreLiveLeaves, DraftWrites, Drafted, LeavesOf, aligned}
use Rattle.tree_write.specs.Steps.{keys_of, links_in, part_keys}
use Rattle.ckpt_step.specs.Drafting.{WritesLeaf}
use Rattle.ckpt_step.specs.declared.parts.LeafPart.{LeafPart}
use Rattle.ckpt_step.proofs.LeafWrites.{makes_leaf, stops_leaf, unnoted_leaf}

keys_long : (es : List Entry) → length (keys_of es) ≡ length es
keys_long [] = refl
keys_long (e ∷ es) = ap (λ (n : ℕ). suc n) (keys_long es)

-- entries with more keys are as many at least
pub keys_grow : (es all : List Entry) (more : List (List ℕ)) → keys_of all ≡ keys_of es ++ more → length es ≤ length all
keys_grow es all more keys = omega (arith, keys_long es, keys_long all, ap length keys, length-append (keys_of es) more)

-- entries from a place on
from_place : (es : List Entry) (i : ℕ) → take (length es - i) (drop i es) ≡ drop i es
from_place es i = take_all (length es - i) (drop i es) (omega (arith, length-drop i es))

-- the entries are noted for the leaf behind others
abbrev pub NotedAs : ℕ → List Entry → List LeafPart → List LeafPart → Type 0
NotedAs id entries more more' = (p : LeafPart) × (p.leaf ≡ id) × (p.entries.items ≡ entries) × (more' ≡ more ++ p ∷ [])

-- of a draft those behind the ones that it had
pub noted_behind : (r : Result (Unit {0}) StoreError) (seen es all : List Entry) (before id : ℕ) (more room more' : List LeafPart) → before ≡ length es → seen ≡ all → room ≡ more → OnOk r (NotedAs id (take (length seen - before) (drop before seen)) room more') → OnOk r (NotedAs id (drop (length es) all) more more')
noted_behind (Ok done) seen es all before id more room more' at whole same noted = (noted.0, noted.1, noted.2 ∙ (from_place seen before ∙ (ap (λ (i : ℕ). drop i seen) at ∙ ap (λ (l : List Entry). drop (length es) l) whole)), noted.3 ∙ ap (λ (l : List LeafPart). l ++ noted.0 ∷ []) same)
noted_behind (Err e) seen es all before id more room more' at whole same noted = tt

-- what was tells of a draft's write, by the links that it was given
module _ {D : Type 0} (g : Ghosts D) (s : Sight) (held : HeldLeaf) (l : Leaf) (part : List Entry) (mid books' : Books) (es all : List Entry) (more more' : List LeafPart) (captured wrote_to captured' : List Addr) (between after : D) (images : List Image) (rows : List Row) (is : IsCaptured s held rows)
    (was : List Link) (was_are : was ≡ links_in part) (same_captured : captured' ≡ wrote_to) where
  abbrev pub DraftTells : Result (Unit {0}) StoreError → Type 0
  DraftTells r = (old : Option Stored) (first books : Books) (before : D) (links : List Link) (leaves : List (List Row)) (listed : List Addr)
      → Drafted g old first books mid before between links leaves listed es → AreLiveLeaves first was
      → (of : LeavesOf images rows) × (addrs : List Addr) × (wrote_to ≡ captured ++ addrs) × DraftWrites g old first books books' before after (links ++ aligned was of.leaves) (leaves ++ of.leaves) (listed ++ addrs) all r

  tells_own : (r : Result (Unit {0}) StoreError) → DraftTells r → (old : Option Stored) (first books : Books) (before : D) (links : List Link) (leaves : List (List Row)) (listed : List Addr)
      → Drafted g old first books mid before between links leaves listed es → AreLiveLeaves first (links_in part)
      → (of : LeavesOf images rows) × (addrs : List Addr) × (captured' ≡ captured ++ addrs) × DraftWrites g old first books books' before after (links ++ aligned (links_in part) of.leaves) (leaves ++ of.leaves) (listed ++ addrs) all r
  tells_own r tells old first books before links leaves listed draft live =
      let told = tells old first books before links leaves listed draft (subst (λ (m : List Link). AreLiveLeaves first m) (sym was_are) live) in
      (told.0, told.1, same_captured ∙ told.2, subst (λ (m : List Link). DraftWrites g old first books books' before after (links ++ aligned m told.0.leaves) (leaves ++ told.0.leaves) (listed ++ told.1) all r) was_are told.3)

  -- it is written whole, and then its entries are noted, or there is no memory
  pub notes_leaf : (r : Result (Unit {0}) StoreError) → AreFrom l.entry.key rows → length l.entry.key ≤ key_most → keys_of all ≡ keys_of es ++ part_keys l.entry.key images → Climbs all → AllByRecursion EntryFits all
      → OnOk r ((p : LeafPart) × (p.leaf ≡ l.id) × (p.entries.items ≡ drop (length es) all) × (more' ≡ more ++ p ∷ [])) → IfErr r (λ x. x ≡ NoMemory) → DraftTells (Ok tt) → WritesLeaf g s held l part mid books' es all more more' captured captured' between after r
  notes_leaf (Ok done) from short keys climbs fits noted none tells = makes_leaf g s held l part mid books' es all more more' captured captured' between after images rows is from short keys climbs fits noted.0 noted.1 noted.2 noted.3 (tells_own (Ok tt) tells)
  notes_leaf (Err x) from short keys climbs fits noted none tells = unnoted_leaf g s held l part mid books' es all more more' captured captured' between after images rows is x (λ space. not_space (sym none ∙ space)) (tells_own (Ok tt) tells)
    where
      not_space : NoMemory ≡ NoSpace → ⊥
      not_space same = cc

  -- or it is not written whole
  pub leaf_stops : (x : StoreError) → DraftTells (Err x) → WritesLeaf g s held l part mid books' es all more more' captured captured' between after (Err x)
  leaf_stops x tells = stops_leaf g s held l part mid books' es all more more' captured captured' between after images rows is x (tells_own (Err x) tells)
