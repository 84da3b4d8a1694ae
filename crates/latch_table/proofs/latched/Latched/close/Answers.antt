use Rattle.std.proofs.Common.{◌≡◌, ℕ, drop, length, sym, ap, ◌∙◌, arith}
use Rattle.std.specs.Slots.{slots_items}
use Rattle.latch_table.proofs.Ending.{some_word}
use Rattle.latch_table.proofs.Packing.{pack_length, same_pieces}
use Rattle.latch_table.proofs.latched.Latched.close.Goals as goal

pub gather-closed-requires-clause-some_word : goal.gather-closed-requires-clause-some_word
gather-closed-requires-clause-some_word g c = some_word c.args.self c.args.seats.items c.requires.all c.requires.some_seat c.requires.pieces

pub read_words-requires-clause-from : goal.read_words-requires-clause-from
read_words-requires-clause-from g c =
    let r = c.gather-closed.result in
    let x = r.slots.ok.0 in
    let y = r.words.ok.0 in
    let w = c.gather-closed.ensures.leaves.4 in
    let n = c.gather-closed.ensures.counts.1 in
    let m = c.slot_count-pieces.ensures in omega arith

pub read_words-requires-clause-room : goal.read_words-requires-clause-room
read_words-requires-clause-room g c =
    let n = c.gather-closed.ensures.counts.0 in
    let m = c.word_count.ensures in
    let k = c.in-Ok-with_capacity.ensures.exact in omega arith

pub take_pieces-requires-clause-parts : goal.take_pieces-requires-clause-parts
take_pieces-requires-clause-parts g c =
    let r = c.gather-closed.result in
    let l = c.gather-closed.ensures.leaves in
    let x = r.slots.ok.0 in
    let long = pack_length l.0.hub l.0.frames (slots_items r.slots) l.2 in
    let n = c.gather-closed.ensures.counts.1 in
    let m = c.slot_count-pieces.ensures in
    let k = c.in-Ok.ensures.exact in
    (l.0.hub, l.0.frames, l.2, omega arith)

pub returns-clause-pieces : goal.returns-clause-pieces
returns-clause-pieces g c =
    let r = c.gather-closed.result in
    let l = c.gather-closed.ensures.leaves in
    let x = r.slots.ok.0 in
    let n = c.gather-closed.ensures.counts.1 in
    let m = c.slot_count-pieces.ensures in
    let at : c.slot_count-pieces.result ≡ length (slots_items r.slots) = omega arith in
    let p = same_pieces c.take_pieces.result.hub l.0.hub c.take_pieces.result.frames.items l.0.frames (sym c.take_pieces.ensures.pieces ∙ l.2) in
    (l.0, l.1, p.0, p.1, c.take_pieces.ensures.words ∙ (c.read_words.ensures ∙ (ap (λ (k : ℕ). drop k (slots_items r.words)) at ∙ l.3)), l.5)
