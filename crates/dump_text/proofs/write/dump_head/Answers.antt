use Rattle.std.proofs.Common.{◌≡◌, ◌∙◌, ◌++◌, ◌∷◌, [], List, ℕ, codes, ap}
use Rattle.dump_text.specs.Written.{form_line, config_line}
use Rattle.dump_text.proofs.Joined.{joined-7}
use Rattle.dump_text.proofs.write.dump_head.Goals as goal

pub returns : goal.returns
returns c =
    let a : List ℕ = codes "WiredTiger Dump (row store 1)" ++ 10 ∷ [] in
    let f : List ℕ = form_line c.args.form in
    let b : List ℕ = (10 ∷ codes "Header") ++ (10 ∷ codes "table:") in
    let n : List ℕ = c.args.name.now in
    let g : List ℕ = config_line c.args.formats in
    let d : List ℕ = (10 ∷ codes "Data") ++ 10 ∷ [] in
    let one : c.extend_from_slice.new.self.items ≡ a = c.in_ok-extend_from_slice.ensures.items ∙ ap (λ (l : List ℕ). l ++ a) c.new-head.ensures.items in
    let two : c.extend_from_slice-2.new.self.items ≡ c.extend_from_slice.new.self.items ++ f =
    c.in_ok-extend_from_slice-2.ensures.items ∙ ap (λ (l : List ℕ). c.extend_from_slice.new.self.items ++ l) c.form_line.ensures in
    let three : c.extend_from_slice-3.new.self.items ≡ c.extend_from_slice-2.new.self.items ++ b = c.in_ok-extend_from_slice-3.ensures.items in
    let four : c.extend_from_slice-4.new.self.items ≡ c.extend_from_slice-3.new.self.items ++ n = c.in_ok-extend_from_slice-4.ensures.items in
    let five : c.extend_from_slice-5.new.self.items ≡ c.extend_from_slice-4.new.self.items ++ 10 ∷ [] = c.in_ok-extend_from_slice-5.ensures.items in
    let six : c.push_config.new.out.items ≡ c.extend_from_slice-5.new.self.items ++ g = c.in_ok-push_config.ensures in
    let seven : c.extend_from_slice-6.new.self.items ≡ c.push_config.new.out.items ++ d = c.in_ok-extend_from_slice-6.ensures.items in
    seven ∙ ap (λ (l : List ℕ). l ++ d) (six ∙ ap (λ (l : List ℕ). l ++ g) (five ∙ ap (λ (l : List ℕ). l ++ 10 ∷ [])
    (four ∙ ap (λ (l : List ℕ). l ++ n) (three ∙ ap (λ (l : List ℕ). l ++ b) (two ∙ ap (λ (l : List ℕ). l ++ f) one)))))
    ∙ joined-7 a f b n g d
