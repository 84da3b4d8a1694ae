use Rattle.std.proofs.Common.{◌≡◌, ℕ, List, ◌-◌, ap, ◌∙◌, arith, take, replicate, ◌++◌}
use Rattle.std.proofs.lemmas.List.{take-replicate}
use Rattle.le_codec.specs.Images.{block_size}
use Rattle.hist_pages.proofs.Writings.{finished}
use Rattle.hist_pages.proofs.record_writer.RecordWriter.finish.Goals as goal

pub returns : goal.returns
returns c records h =
    let v = c.self.inside in
    let n : ℕ = c.block_size.result - c.len-used.result in
    let fill : List ℕ = take n (replicate 4096 0) in
    let size : n ≡ block_size c.len-used.result - c.len-used.result = ap (λ (k : ℕ). k - c.len-used.result) c.block_size.ensures in
    finished v.bytes.items c.append.new.out.items c.header_bytes-header.result fill v.count c.len-used.result c.args.self c.self.view_is (omega (arith, v.bytes.ok.0, c.self.invariant.0)) (c.len-used.ensures ∙ v.bytes.ok.0) c.header_bytes-header.ensures
    (take-replicate n 4096 0 (omega (arith, size)) ∙ ap (λ (k : ℕ). replicate k 0) size)
    (c.append.ensures.written ∙ ap (λ (l : List ℕ). l ++ fill) c.set_front.ensures.items) records h
