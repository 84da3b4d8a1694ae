use Rattle.std.proofs.Common.{Vec, Global, ◌≡◌, ◌+◌, ◌∙◌, ◌++◌, ◌∷◌, [], ℕ, suc, List, take, ap, sym, arith}
use Rattle.std.specs.Prelude.{codes}
use Rattle.kv_model.specs.History.{Table}
use Rattle.device_read.specs.Readers.{tables_in}
use Rattle.wt_tool.specs.Lists.{names_text}
use Rattle.wt_tool.proofs.Listing.{line_of, lines_all, lines_more, names_of, one_there}
use Rattle.wt_tool.proofs.list.text_of.Goals.{in-Some+in_ok-push_line, in_default}
use Rattle.wt_tool.proofs.list.text_of.Goals as goal

pub loop-place-preserved : goal.loop-place-preserved
loop-place-preserved c = elim c.match-table.branch [
  | in-Some+in_ok-push_line w ↦
      let known = tables_in c.args.reader.now in
      let i = c.loop-place.place in
      let t = w.in-Some.found.now in
      let next : suc i ≡ i + 1 = omega arith in
      record {
        is = ap (λ (v : Vec ℕ Global). v.items) w.text-is
            ∙ (w.in_ok-push_line.ensures
            ∙ (ap (λ (name : List ℕ). c.loop-place.text.items ++ (codes "table:" ++ name ++ 10 ∷ [])) (w.as_bytes.ensures ∙ ap (λ (x : Table). x.name) w.found.view_is)
            ∙ (ap (λ (l : List ℕ). l ++ line_of t) c.loop-place.invariant.is
            ∙ (sym (lines_more known i t (sym w.in-Some.ensures)) ∙ ap (λ (n : ℕ). names_text (names_of (take n known))) next))));
      }
  | in_default w ↦ absurd (one_there (tables_in c.args.reader.now) c.loop-place.place (omega (arith, c.loop-place-test.true, c.len-place-end.ensures)) (sym w.in_default.ensures))
]

pub returns : goal.returns
returns c = c.loop-place.invariant.is ∙ lines_all (tables_in c.args.reader.now) c.loop-place.place (omega (arith, c.loop-place-test.false, c.len-place-end.ensures))
