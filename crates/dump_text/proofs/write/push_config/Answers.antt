use Rattle.std.proofs.Common.{◌≡◌, ◌∙◌, ◌++◌, List, ℕ, codes, ap}
use Rattle.dump_text.specs.Written.{format_word}
use Rattle.dump_text.proofs.Joined.{joined-4}
use Rattle.dump_text.proofs.write.push_config.Goals as goal

pub returns : goal.returns
returns c =
    let old : List ℕ = c.args.out.now.items in
    let key : List ℕ = format_word c.args.formats.key in
    let value : List ℕ = format_word c.args.formats.value in
    let one : c.extend_from_slice.new.self.items ≡ old ++ codes "key_format=" = c.in_ok-extend_from_slice.ensures.items in
    let two : c.extend_from_slice-2.new.self.items ≡ c.extend_from_slice.new.self.items ++ key =
    c.in_ok-extend_from_slice-2.ensures.items ∙ ap (λ (l : List ℕ). c.extend_from_slice.new.self.items ++ l) c.format_word.ensures in
    let three : c.extend_from_slice-3.new.self.items ≡ c.extend_from_slice-2.new.self.items ++ codes ",value_format=" = c.in_ok-extend_from_slice-3.ensures.items in
    let four : c.extend_from_slice-4.new.self.items ≡ c.extend_from_slice-3.new.self.items ++ value =
    c.in_ok-extend_from_slice-4.ensures.items ∙ ap (λ (l : List ℕ). c.extend_from_slice-3.new.self.items ++ l) c.format_word-2.ensures in
    four ∙ ap (λ (l : List ℕ). l ++ value) (three ∙ ap (λ (l : List ℕ). l ++ codes ",value_format=") (two ∙ ap (λ (l : List ℕ). l ++ key) one))
    ∙ joined-4 old (codes "key_format=") key (codes ",value_format=") value
