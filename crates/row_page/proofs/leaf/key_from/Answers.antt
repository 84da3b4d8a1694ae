use Rattle.std.proofs.Common.{◌≡◌, ℕ, ◌+◌, ap, sym, ◌∙◌, arith, length, take, drop, List}
use Rattle.std.specs.Int.{w16, from_le_bytes}
use Rattle.std.proofs.lemmas.List.{length-drop}
use Rattle.le_codec.proofs.Laws.{IsBytes-drop}
use Rattle.row_page.specs.Places.{row_read}
use Rattle.row_page.proofs.Founds.{KeyAt, key_there, in_block, cell_there}
use Rattle.row_page.proofs.leaf.key_from.Goals as goal

pub overflow_add-place : goal.overflow_add-place
overflow_add-place c = omega (arith, in_block c.args.block.now c.args.place c.requires, c.type_inv.block)

pub split_at-requires : goal.split_at-requires
split_at-requires c = in_block c.args.block.now c.args.place c.requires

there : (c : goal.After-from_le_bytes-len) → KeyAt (drop (16 + c.args.place) c.args.block.now) c.requires.row.0
there c = key_there (drop (16 + c.args.place) c.args.block.now) c.requires.row c.requires.rest (IsBytes-drop (16 + c.args.place) c.args.block.now (λ i. omega (arith, c.type_inv.block i))) (cell_there c.args.block.now c.args.place c.requires)

len_is : (c : goal.After-from_le_bytes-len) → c.from_le_bytes-len.result ≡ length c.requires.row.0
len_is c = c.from_le_bytes-len.ensures ∙ ap (from_le_bytes w16) (c.split_at-2.ensures.front ∙ ap (λ (l : List ℕ). take 39 l) c.split_at.ensures.back) ∙ (there c).len

pub split_at-requires-2 : goal.split_at-requires-2
split_at-requires-2 c =
    let k = key_there (drop (16 + c.args.place) c.args.block.now) c.requires.row c.requires.rest (IsBytes-drop (16 + c.args.place) c.args.block.now (λ i. omega (arith, c.type_inv.block i))) (cell_there c.args.block.now c.args.place c.requires) in
    omega (arith, ap length c.split_at.ensures.back, k.long)

pub split_at-requires-3 : goal.split_at-requires-3
split_at-requires-3 c =
    omega (arith, len_is c, (there c).long, ap length c.split_at.ensures.back, ap length c.split_at-2.ensures.back, length-drop 39 c.split_at.result.1.now)

pub returns : goal.returns
returns c =
    let bytes : List ℕ = drop (16 + c.args.place) c.args.block.now in
    let k = key_there bytes c.requires.row c.requires.rest (IsBytes-drop (16 + c.args.place) c.args.block.now (λ i. omega (arith, c.type_inv.block i))) (cell_there c.args.block.now c.args.place c.requires) in
    let n : ℕ = c.from_le_bytes-len.result in
    let len : n ≡ length c.requires.row.0 = c.from_le_bytes-len.ensures ∙ ap (from_le_bytes w16) (c.split_at-2.ensures.front ∙ ap (λ (l : List ℕ). take 39 l) c.split_at.ensures.back) ∙ k.len in
    ap (λ o. (row_read o).0) c.requires.is ∙ sym k.is
    ∙ ap (λ (m : ℕ). take m (drop 39 bytes)) (sym len)
    ∙ ap (λ (l : List ℕ). take n l) (sym (c.split_at-2.ensures.back ∙ ap (λ (l : List ℕ). drop 39 l) c.split_at.ensures.back))
    ∙ sym c.split_at-3.ensures.front
