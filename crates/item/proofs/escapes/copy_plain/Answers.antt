use Rattle.std.proofs.Common.{◌≡◌, ◌++◌, List, ℕ, ap, sym, ◌∙◌, subst, take, drop}
use Rattle.item.specs.Escapes.{reads_on}
use Rattle.item.specs.declared.escapes.Reading.TheVariants.{AtByte}
use Rattle.item.proofs.ReadBack.{text-past}
use Rattle.item.proofs.escapes.copy_plain.Goals as goal

pub returns-in_ok-extend_from_slice-in-AtByte-clause-bytes : goal.returns-in_ok-extend_from_slice-in-AtByte-clause-bytes
returns-in_ok-extend_from_slice-in-AtByte-clause-bytes c =
    let n : ℕ = c.plain_text.result in
    let copied = c.in_ok-extend_from_slice-in-AtByte.ensures.items ∙ ap (λ (l : List ℕ). c.args.out.now.items ++ l) c.split_at.ensures.front in
    ap (λ r. reads_on c.args.out.now.items r c.args.text.now) c.in-AtByte.is
    ∙ text-past c.args.out.now.items c.args.text.now n c.plain_text.ensures.plain
    ∙ ap (λ (l : List ℕ). reads_on l AtByte (drop n c.args.text.now)) (sym copied)
    ∙ ap (λ (l : List ℕ). reads_on c.extend_from_slice.new.self.items AtByte l) (sym c.split_at.ensures.back)
    ∙ ap (λ r. reads_on c.extend_from_slice.new.self.items r c.split_at.result.1.now) (sym c.in-AtByte.is)
