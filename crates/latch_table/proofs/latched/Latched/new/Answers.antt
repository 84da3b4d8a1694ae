use Rattle.std.proofs.Common.{◌≡◌, ℕ, suc, ◌+◌, ◌++◌, length, replicate, sym, ap, ◌∙◌, arith}
use Rattle.latch_table.specs.Tables.{pieces_in}
use Rattle.latch_table.proofs.Packing.{pack_length, same_pieces}
use Rattle.latch_table.proofs.latched.Latched.new.Goals as goal

pub open-requires : goal.open-requires
open-requires g c =
    let n = c.len-pieces.ensures in
    let m = c.len.ensures in
    let l = c.args.frames.ok.0 in
    let pieces : c.len-pieces.result + 1 ≡ suc (length c.args.frames.items) = omega arith in
    record {
      hub = c.args.hub;
      frames = c.args.frames.items;
      further = c.args.words.items;
      parts_are = c.pack-parts.ensures.packed;
      words_are = c.deref-2.ensures.value ∙ (c.in-Ok.ensures.words ∙ (ap (λ (k : ℕ). replicate k 0 ++ c.deref.result.now) pieces ∙ ap (λ l. replicate (suc (length c.args.frames.items)) 0 ++ l) c.deref.ensures.value));
      some_seat = c.requires.some_seat;
      kept = rw m c.requires.joint;
    }

pub seat_all-seats-requires-clause-rows : goal.seat_all-seats-requires-clause-rows
seat_all-seats-requires-clause-rows g c =
    let n = c.len-pieces.ensures in
    let l = c.args.frames.ok.0 in
    let long : length c.pack-parts.result.items ≡ suc (length c.args.frames.items) = pack_length c.args.hub c.args.frames.items c.pack-parts.result.items c.pack-parts.ensures.packed in
    let o = c.in-Ok-open.ensures.table in
    let pieces : c.len-pieces.result + 1 ≡ pieces_in c.in-Ok-open.table = omega (arith, o.1) in
    let r = c.in-Ok.ensures.rows in (
      (λ k d h. r.0 k d h ∙ ap (λ (i : ℕ). replicate i Rattle.pool_law.specs.declared.part.Part.TheVariants.Gone) pieces),
      r.1 ∙ sym (ap (λ (z : Rattle.pool_law.specs.declared.shape.Shape.Shape). z.seats) o.0),
    )

pub returns-in-Err-clause-no_memory : goal.returns-in-Err-clause-no_memory
returns-in-Err-clause-no_memory g c =
    let e : _ = sym c.unpack-hub.ensures ∙ (c.in-Err.ensures.err ∙ c.pack-parts.ensures.packed) in
    same_pieces c.unpack-hub.result c.args.hub c.unpack-hub.new.frames.items c.args.frames.items e
