use Rattle.std.proofs.Common.{◌≡◌, ◌+◌, ◌∙◌, ◌++◌, ◌<◌, ℕ, suc, List, [], ◌∷◌, map, take, ap, sym, subst, arith, Vec, Global}
use Rattle.std.specs.Prelude.{Some, filter, slice_get, slice_index_or}
use Rattle.std.specs.List.{AllByRecursion}
use Rattle.std.proofs.lemmas.Option.{slice_get_within}
use Rattle.checkpoint_record.specs.declared.record.LentRoot.{LentRoot}
use Rattle.kv_model.specs.History.{Table}
use Rattle.stored.specs.Records.{TableRoot}
use Rattle.device_leaf.specs.NoHistory.{no_root}
use Rattle.catalog.specs.Known.{by_name}
use Rattle.ckpt_step.specs.Records.{IsTyped}
use Rattle.ckpt_step.specs.Trees.{placed_by, roots_of, table_root}
use Rattle.ckpt_step.proofs.ByName.{by_name_length}
use Rattle.ckpt_step.proofs.FirstTables.{first_by_name, first_in, first_past, in_first, rooted_at, rooted_in, sifted_all, sifted_more, sifted_same}
use Rattle.ckpt_step.proofs.Members.{get_within}
use Rattle.ckpt_step.proofs.roots.roots_of.Goals.{else-place-first, then-place-first+in_ok-push_table}
use Rattle.ckpt_step.proofs.roots.roots_of.Goals as goal

pub loop-place-smaller : goal.loop-place-smaller
loop-place-smaller c =
    let known = c.args.tables.now.tables in
    let found = c.in-Some.ensures.found in
    let t = get_within known c.in-Some.place found.0 in
    omega (arith, slice_get_within (by_name known) c.loop-place.i t.0 (sym found.1 ∙ t.1), by_name_length known)

pub loop-place-preserved : goal.loop-place-preserved
loop-place-preserved c =
    let n = c.args.first in
    let catalog = c.args.tables.now in
    let known = catalog.tables in
    let trees = roots_of (placed_by c.args.was.now c.args.told.now) in
    let i = c.loop-place.i in
    let place = c.in-Some.place in
    let found = c.in-Some.ensures.found in
    let here = get_within known place found.0 in
    let t = here.0 in
    let at : slice_get (by_name known) i ≡ Some t = sym found.1 ∙ here.1 in
    let rooted = rooted_in (take n known) trees in
    let next : suc i ≡ i + 1 = omega arith in
    let within = slice_get_within (by_name known) i t at in
    let count = by_name_length known in
    elim c.if-place-first.branch [
      | then-place-first+in_ok-push_table w ↦
          let low : place < n = omega (arith, w.if-place-first.true) in
          record {
            is = ap (λ (v : Vec LentRoot Global). v.items) w.roots-is
                ∙ (w.in_ok-push_table.ensures.some t here.1
                ∙ (ap (λ (l : List TableRoot). l ++ table_root t (slice_index_or trees place no_root) ∷ []) c.loop-place.invariant.is
                ∙ (ap (λ (x : TableRoot). map rooted (filter (in_first n known) (take i (by_name known))) ++ x ∷ []) (sym (rooted_at n catalog c.requires.known trees place t here.1 low))
                ∙ (sym (sifted_more rooted (in_first n known) (by_name known) i t at (first_in 1 known catalog.next n place t c.requires.known.numbers here.1 low))
                ∙ ap (λ (k : ℕ). map rooted (filter (in_first n known) (take k (by_name known)))) next))));
            within = omega (arith, within, count);
            typed = subst (λ (v : Vec LentRoot Global). AllByRecursion IsTyped v.items) (sym w.roots-is) w.in_ok-push_table.ensures.typed;
          }
      | else-place-first w ↦
          let high = w.if-place-first.false in
          record {
            is = ap (λ (v : Vec LentRoot Global). v.items) w.roots-is
                ∙ (c.loop-place.invariant.is
                ∙ (sym (sifted_same rooted (in_first n known) (by_name known) i t at (first_past 1 known catalog.next n place t c.requires.known.numbers here.1 (omega (arith, high))))
                ∙ ap (λ (k : ℕ). map rooted (filter (in_first n known) (take k (by_name known)))) next));
            within = omega (arith, within, count);
            typed = subst (λ (v : Vec LentRoot Global). AllByRecursion IsTyped v.items) (sym w.roots-is) c.loop-place.invariant.typed;
          }
    ]

pub returns-clause-roots : goal.returns-clause-roots
returns-clause-roots c =
    let n = c.args.first in
    let catalog = c.args.tables.now in
    let rooted = rooted_in (take n catalog.tables) (roots_of (placed_by c.args.was.now c.args.told.now)) in
    c.loop-place.invariant.is
    ∙ (sifted_all rooted (in_first n catalog.tables) (by_name catalog.tables) c.loop-place.i c.in_default.ensures.none
    ∙ ap (λ (l : List Table). map rooted l) (first_by_name n catalog c.requires.known))
