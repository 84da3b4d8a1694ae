-- One leaf that is captured.
use Rattle.std.specs.Prelude.{◌≡◌, ◌≢◌, ℕ, List, [], ◌∷◌, length, Option, Some, None, Ok, Err, refl}
use Rattle.std.proofs.Common.{inl, inr, ap, subst, arith}
use Rattle.std.proofs.lemmas.Bool.{eq-eqb}
use Rattle.disk_model.specs.Crash.{Looked}
use Rattle.disk_model.specs.declared.disk.Disk.{Ghosts}
use Rattle.extent_list.specs.Space.{HasNoRoom}
use Rattle.le_codec.specs.Images.{block_size}
use Rattle.block_mgr.specs.Blocks.{Books, HasLive, unit_of}
use Rattle.block_mgr.specs.Cells.{captured}
use Rattle.device_layout.specs.declared.link.Link.{Link}
use Rattle.wt_code.specs.declared.store_error.StoreError.{StoreError}
use Rattle.wt_code.specs.declared.store_error.StoreError.TheVariants.{NoMemory, NoSpace}
use Rattle.row_page.specs.Rows.{Row, image}
use Rattle.row_page.specs.Greatest.{durables_of, names_of}
use Rattle.row_page.proofs.Leaves.{length-image}
use Rattle.leaf_rows.specs.Rows.{image_length}
use Rattle.stored.specs.Blocks.{IsAddressed, IsAt}
use Rattle.stored.specs.Links.{SaysOf}
use Rattle.stored.specs.Stored.{Stored}
use Rattle.device_leaf.specs.Leaves.{LeafIs}
use Rattle.device_leaf.proofs.Leaves.{leaf_there}
use Rattle.tree_write.specs.Captures.{Captures, IsSafe, MayWrite, StaysLive}
use Rattle.tree_write.specs.Steps.{BlockWrites, Fails, LeafWritten, leaf_block}
use Rattle.tree_write.specs.Writes.{IsLiveLeaf}
use Rattle.tree_write.proofs.Joining.{captures_join, captures_looked}
use Rattle.tree_write.proofs.OneBlock.{captures_kept, fails_looked}

pub want_space : {P : Type 0} → NoMemory ≡ NoSpace → P
want_space is = absurd (clash is)
  where
    clash : NoMemory ≡ NoSpace → ⊥
    clash same = cc

module _ {D : Type 0} (g : Ghosts D) (old : Option Stored) (first books : Books) (before mid : D) (looked : Looked g before mid) (only : (c : List ℕ) → g.left_since before (g.moment before) c → g.may_leave before c) (was : Link) (rows : List Row) (some : rows ≢ [])
    (may : MayWrite (g.seen before) (g.may_leave before) books old) (stays : StaysLive first books) (live : IsLiveLeaf first was) where
  at_first : (was.addr.offset ≡ 0 → ⊥) → HasLive first.cells was.addr.offset was.addr.size
  at_first stored = elim live [ inl none ↦ absurd (stored none) | inr has ↦ has ]

  -- it stands where that of before did
  pub leaf_stays : (books' : Books) → LeafIs (g.seen before) was rows → HasLive books.cells was.addr.offset was.addr.size → books'.cells ≡ captured books.cells (unit_of was.addr.offset) → books'.space ≡ books.space → books'.is_synced ≡ books.is_synced → LeafWritten g old first books books' before mid was rows (was.addr ∷ []) was
  leaf_stays books' leaf has cells space synced = record {
    size = None;
    says = leaf.bears.says;
    listed = refl;
    captures = captures_kept g old first books books' (leaf_block was rows) before mid looked only may there.0 there.1 has (at_first stored) cells space synced;
    writes = inr leaf;
    own = inl refl;
    same = λ is. refl;
  }
    where
      stored : was.addr.offset ≡ 0 → ⊥
      stored none = omega (arith, none, has.1)

      there : IsAddressed (leaf_block was rows) × IsAt (g.seen before) (leaf_block was rows)
      there = leaf_there (g.seen before) was rows stored leaf

  module _ (isnt : LeafIs (g.seen before) was rows → HasLive books.cells was.addr.offset was.addr.size → ⊥) where
    pub not_there : LeafIs (g.seen before) was rows → ⊥
    not_there leaf = isnt leaf (stays was.addr.offset was.addr.size (at_first (λ none. some (leaf.bears.empty (eq-eqb was.addr.offset 0 none)).1)))

    same_size : block_size (length (image rows)) ≡ block_size (image_length rows)
    same_size = ap block_size (length-image rows)

    -- it has no place, or its write failed
    pub leaf_fails : (books' : Books) (after : D) (e : StoreError) → BlockWrites g old first books books' mid after (image rows) (Err e)
        → Fails g old first books books' before after (IsSafe e) × (e ≡ NoSpace → (LeafIs (g.seen before) was rows → ⊥) × HasNoRoom books.space (block_size (image_length rows)) (g.capacity before))
    leaf_fails books' after e wrote = (
      fails_looked g old first books before mid looked only books' after (IsSafe e) wrote.0,
      λ is. (not_there, subst (λ (k : ℕ). HasNoRoom books.space k (g.capacity before)) same_size (subst (λ (k : ℕ). HasNoRoom books.space (block_size (length (image rows))) k) looked.capacity (wrote.1 is))),
    )

    -- it is new
    pub leaf_new : (books' : Books) (after : D) (link : Link) → SaysOf link (names_of rows) (durables_of rows) → BlockWrites g old first books books' mid after (image rows) (Ok link.addr) → LeafWritten g old first books books' before after was rows (link.addr ∷ []) link
    leaf_new books' after link says wrote = record {
      size = Some (block_size (image_length rows));
      says = says;
      listed = refl;
      captures = subst (λ (k : ℕ). Captures g old first (leaf_block link rows ∷ []) (k ∷ []) books books' before after) same_size
          (captures_join g old first [] (leaf_block link rows ∷ []) [] (block_size (length (image rows)) ∷ []) books books books' before mid after looked.capacity (captures_looked g old first books before mid looked only may) wrote.1);
      writes = (some, not_there, refl);
      own = inr wrote.0;
      same = λ is. absurd (not_there is);
    }
