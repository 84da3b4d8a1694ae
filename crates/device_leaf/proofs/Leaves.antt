-- The leaf that a link leads to.
use Rattle.std.specs.Prelude.{◌≡◌, ℕ, ◌%◌, ◌≤◌, ◌==◌, List, [], ◌∷◌, length, replicate, refl, ◌-◌}
use Rattle.std.specs.List.{AllByRecursion}
use Rattle.std.proofs.Common.{inl, inr, sym, ◌∙◌, ap, subst, arith}
use Rattle.std.proofs.lemmas.List.{length-append, length-replicate}
use Rattle.std.proofs.lemmas.Bool.{cases_Bool, eqb-true, eq-eqb}
use Rattle.block_sum.specs.Sum.{sum_of}
use Rattle.le_codec.specs.Images.{padded, block_size, block_of}
use Rattle.disk_model.specs.Ranges.{range}
use Rattle.block_mgr.specs.Places.{IsPlace, IsThere, Spoils}
use Rattle.row_page.specs.Rows.{Row, image}
use Rattle.row_page.proofs.Leaves.{length-image}
use Rattle.stored.specs.Blocks.{Block, IsAddressed, IsAt, Holds}
use Rattle.device_layout.specs.declared.link.Link.{Link}
use Rattle.device_leaf.specs.Damage.{FoundNoLeaf}
use Rattle.device_leaf.specs.Leaves.{LeafIs, NoLeaf, PageIs, blocks_at}

abbrev pub block_at : Link → List Row → Block
block_at link rows = record { place = link.addr; image = image rows }

-- a leaf that is stored has one block
pub stored_block : (link : Link) (rows : List Row) → (link.addr.offset ≡ 0 → ⊥) → blocks_at link rows ≡ block_at link rows ∷ []
stored_block link rows some = elim (cases_Bool (link.addr.offset == 0)) [
  | inl is ↦ absurd (some (eqb-true link.addr.offset 0 is))
  | inr isnt ↦ rw isnt refl
]

-- and one that is not has none
pub no_block : (link : Link) (rows : List Row) → link.addr.offset ≡ 0 → blocks_at link rows ≡ []
no_block link rows is = rw (eq-eqb link.addr.offset 0 is) refl

some_bytes : (image : List ℕ) → 16 ≤ length image → 4096 ≤ block_size (length image)
some_bytes image some = omega (arith, some)

whole_units : (n : ℕ) → block_size n % 4096 ≡ 0
whole_units n = omega arith

-- an address of an image is one that a block can have
pub place_is : (b : Block) → 16 ≤ length b.image → IsAddressed b → IsPlace b.place
place_is b some is = record {
  behind = is.low;
  unit = is.unit;
  some = omega (arith, is.size, some_bytes b.image some);
  whole = ap (λ n. n % 4096) is.size ∙ whole_units (length b.image);
  most = is.most;
}

-- a block that is there does not spoil
pub there_not_spoilt : (bytes : List ℕ) (b : Block) (found : ℕ) → 16 ≤ length b.image → IsAddressed b → IsAt bytes b → Spoils bytes b.place found → ⊥
there_not_spoilt bytes b found some is there (inl (place, within, sum, differs)) = differs (sum ∙ ap sum_of there.is ∙ sym is.sum)
there_not_spoilt bytes b found some is there (inr (same, short)) = omega (arith, short (place_is b some is), there.within)

pub leaf_bytes : (rows : List Row) → 16 ≤ length (image rows)
leaf_bytes rows = omega (arith, length-image rows)

-- of a leaf that is stored
pub leaf_there : (bytes : List ℕ) (link : Link) (rows : List Row) → (link.addr.offset ≡ 0 → ⊥) → LeafIs bytes link rows → IsAddressed (block_at link rows) × IsAt bytes (block_at link rows)
leaf_there bytes link rows some leaf =
    let is = stored_block link rows some in (
      (subst (λ (l : List Block). AllByRecursion (λ (b : Block). IsAddressed b) l) is leaf.addressed).0,
      (subst (λ (l : List Block). Holds bytes l) is leaf.holds).0,
    )

spoilt_no_leaf : (bytes : List ℕ) (link : Link) (found : ℕ) → (link.addr.offset ≡ 0 → ⊥) → Spoils bytes link.addr found → NoLeaf bytes link
spoilt_no_leaf bytes link found some spoils rows leaf =
    let there = leaf_there bytes link rows some leaf in
    there_not_spoilt bytes (block_at link rows) found (leaf_bytes rows) there.0 there.1 spoils

pub found_spoilt : (bytes : List ℕ) (link : Link) (found : ℕ) → (link.addr.offset ≡ 0 → ⊥) → Spoils bytes link.addr found → FoundNoLeaf bytes link found
found_spoilt bytes link found some spoils = (spoilt_no_leaf bytes link found some spoils, inl spoils)

-- its block is a page
pub page_there : (bytes block : List ℕ) (link : Link) (rows : List Row) → (link.addr.offset ≡ 0 → ⊥) → block ≡ range bytes link.addr.offset link.addr.size → LeafIs bytes link rows → PageIs block link rows
page_there bytes block link rows some block_is leaf =
    let there = leaf_there bytes link rows some leaf in
    record {
      page = record { admitted = leaf.bears.leaf; spelled = block_is ∙ there.1.is ∙ ap (λ k. padded (image rows) k) there.0.size };
      says = leaf.bears.says;
    }

pub no_page_no_leaf : (bytes block : List ℕ) (link : Link) → (link.addr.offset ≡ 0 → ⊥) → block ≡ range bytes link.addr.offset link.addr.size → ((rows : List Row) → PageIs block link rows → ⊥) → NoLeaf bytes link
no_page_no_leaf bytes block link some block_is none rows leaf = none rows (page_there bytes block link rows some block_is leaf)

whole_size : (n : ℕ) → n ≤ block_size n
whole_size n = omega arith

pub length_block : (x : List ℕ) → length (block_of x) ≡ block_size (length x)
length_block x =
    let zero : ℕ = 0 in
    omega (arith, length-append x (replicate (block_size (length x) - length x) zero), length-replicate (block_size (length x) - length x) zero, whole_size (length x))

-- a page that stands where the link leads is the leaf
pub leaf_of_page : (bytes block : List ℕ) (link : Link) (rows : List Row) → (link.addr.offset ≡ 0 → ⊥) → IsThere bytes link.addr → block ≡ range bytes link.addr.offset link.addr.size → length block ≡ link.addr.size → PageIs block link rows → LeafIs bytes link rows
leaf_of_page bytes block link rows some there block_is size page =
    let is = stored_block link rows some in
    let sizes : link.addr.size ≡ block_size (length (image rows)) = sym size ∙ ap length page.page.spelled ∙ length_block (image rows) in
    let at : IsAt bytes (block_at link rows) = record { within = there.within; is = sym block_is ∙ page.page.spelled ∙ ap (λ k. padded (image rows) k) (sym sizes) } in
    let addressed : IsAddressed (block_at link rows) = record {
      low = there.place.behind;
      unit = there.place.unit;
      size = sizes;
      most = there.place.most;
      sum = sym there.sum ∙ ap sum_of at.is;
    } in
    record {
      bears = record { leaf = page.page.admitted; empty = λ nowhere. absurd (some (eqb-true link.addr.offset 0 nowhere)); says = page.says };
      addressed = subst (λ (l : List Block). AllByRecursion (λ (b : Block). IsAddressed b) l) (sym is) (addressed, tt);
      holds = subst (λ (l : List Block). Holds bytes l) (sym is) (at, tt);
    }
