use Rattle.std.proofs.Common.{◌≡◌, ◌+◌, ◌++◌, ℕ, List, length, ap, ◌∙◌, arith}
use Rattle.std.proofs.lemmas.Grind.{div_ceil_times}
use Rattle.le_codec.specs.Images.{first_format, header}
use Rattle.le_codec.proofs.Heads.{length-framed}
use Rattle.stored.specs.Records.{Record, record_body, record_image}
use Rattle.checkpoint_record.proofs.Sizes.{image_most}
use Rattle.checkpoint_record.proofs.writing.encode.Goals as goal
use Rattle.checkpoint_record.proofs.writing.encode.Goals.{After-into_bytes}

pub overflow_cast-used : goal.overflow_cast-used
overflow_cast-used c = omega (arith, c.image_len-used.ensures, image_most c.args.record.now c.requires)

pub overflow_mul-room : goal.overflow_mul-room
overflow_mul-room c = omega (arith, c.div_ceil-room.ensures, div_ceil_times c.image_len-used.result 4096 (omega arith), c.image_len-used.ensures, image_most c.args.record.now c.requires)

image : (c : After-into_bytes) → c.into_bytes.result.items ≡ record_image c.args.record.now
image c =
    let r : Record = c.args.record.now in
    let body : List ℕ = record_body r in
    let count : c.len.result ≡ length r.tables = omega (arith, c.len.ensures, c.record.inside.tables.ok.0, ap (λ (q : Record). length q.tables) c.record.view_is) in
    let used : c.image_len-used.result ≡ 16 + length body = c.image_len-used.ensures ∙ length-framed 5 first_format (length r.tables) 0 body in
    c.into_bytes.ensures
    ∙ c.in_ok-put_body.ensures
    ∙ ap (λ (l : List ℕ). l ++ body) c.in_ok-write_header.ensures.written
    ∙ ap (λ (l : List ℕ). (l ++ header 5 first_format c.len.result c.image_len-used.result 0) ++ body) c.in_ok-out.ensures
    ∙ ap (λ (n : ℕ). header 5 first_format n c.image_len-used.result 0 ++ body) count
    ∙ ap (λ (n : ℕ). header 5 first_format (length r.tables) n 0 ++ body) used

pub returns-clause-image : goal.returns-clause-image
returns-clause-image c = image c

pub returns-clause-size : goal.returns-clause-size
returns-clause-size c = omega (arith, ap length (image c), image_most c.args.record.now c.requires)
