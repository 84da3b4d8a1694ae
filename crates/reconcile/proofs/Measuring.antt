-- How long captured rows are.
use Rattle.std.proofs.Common.{◌≡◌, ◌+◌, ◌∙◌, ℕ, List, [], ◌∷◌, ◌++◌, length, Some, None, ap, sym, subst}
use Rattle.std.specs.Prelude.{slice_get}
use Rattle.std.specs.Option.{option_to_list}
use Rattle.std.proofs.lemmas.List.{append-nil, length-append}
use Rattle.std.proofs.lemmas.List.Concat.{flat_map-append}
use Rattle.item.specs.declared.Change.{Change}
use Rattle.stamp.specs.declared.Version.{Version}
use Rattle.row_page.specs.Rows.{Row, cell, cells, value_of}
use Rattle.row_page.proofs.Leaves.{length-cell}
use Rattle.leaf_rows.specs.Rows.{image_length}
use Rattle.reconcile.proofs.Telling.{ones}
use Rattle.snapshot.specs.Sight.{Sight}
use Rattle.leaf_chains.specs.declared.slot.KeyChain.{KeyChain}
use Rattle.leaf_chains.specs.Slots.{chain_at, slot_of}
use Rattle.leaf_chains.specs.Nearest.{IsWayUp}
use Rattle.leaf_chains.proofs.Changes.{held, with_chain}
use Rattle.reconcile.specs.Cells.{cell_change, cell_version}
use Rattle.reconcile.specs.Capture.{ChainFits, ChainsFit, IsCaptured}
use Rattle.reconcile.specs.Gathered.{row_of, rows_of, slots_at}
use Rattle.reconcile.proofs.Gathering.{rows_next, way_captured, way_fits}
use Rattle.std.proofs.lemmas.Option.{same_Some}

-- the row of a version
pub row_size : (key : List ℕ) (v : Version Change) → length (cells (row_of key (Some v) ++ [])) ≡ 39 + length key + length (value_of (cell_change v.change))
row_size key v = ap (λ (b : List ℕ). length b) (append-nil (cell (key, cell_version v))) ∙ length-cell (key, cell_version v)

-- the rows of a way, by its first slot and the others
pub way_size : (s : Sight) (slots : List KeyChain) (i : ℕ) (way : List ℕ)
    → length (cells (rows_of s (slots_at slots (i ∷ way)))) ≡ length (cells (rows_of s (option_to_list (slice_get slots i)))) + length (cells (rows_of s (slots_at slots way)))
way_size s slots i way =
    ap (λ (rows : List Row). length (cells rows)) (sym (rows_next s slots i way []))
    ∙ (ap (λ (b : List ℕ). length b) (flat_map-append cell (rows_of s (option_to_list (slice_get slots i))) (rows_of s (slots_at slots way)))
    ∙ length-append (cells (rows_of s (option_to_list (slice_get slots i)))) (cells (rows_of s (slots_at slots way))))

-- the chain in a slot fits
pub slot_fits : (slots : List KeyChain) (i : ℕ) (c : KeyChain) → slice_get slots i ≡ Some c → slot_of c.key slots ≡ Some i → ChainsFit slots → ChainFits c.key c.chain
slot_fits slots i c is own fit = subst (ChainFits c.key) (ap (λ (k : KeyChain). k.chain) (same_Some (with_chain c.key (chain_at c.key slots)) c (sym (held c.key slots i own) ∙ is))) (fit c.key)

-- rows that are captured are those along the whole way
pub captured_size : (s : Sight) (slots : List KeyChain) (way : List ℕ) (rows : List Row) → IsWayUp None slots way → ChainsFit slots → IsCaptured s slots rows → image_length rows ≡ 16 + length (cells (rows_of s (slots_at slots way)))
captured_size s slots way rows w fit is = ap image_length (ones rows (rows_of s (slots_at slots way)) is.fit (way_fits s slots way w fit) (λ key. is.shows key ∙ sym ((way_captured s slots way w fit).shows key)))
