use Rattle.std.proofs.Common.{◌≡◌, ◌∙◌, ◌++◌, [], ◌∷◌, List, ℕ, Err, length, ap, sym, subst, arith, append_assoc}
use Rattle.std.proofs.lemmas.List.{append-nil}
use Rattle.device_layout.specs.declared.addr.Addr.{Addr}
use Rattle.reconcile.specs.declared.image.Image.{Image}
use Rattle.reconcile.specs.Images.{AreImages}
use Rattle.row_page.specs.Rows.{Row}
use Rattle.stored.specs.TableTree.{Entry}
use Rattle.stored.specs.Tree.{join}
use Rattle.tree_write.specs.Drafts.{AreFrom, Drafted, PartsWrite, aligned}
use Rattle.tree_write.specs.Steps.{keys_of, part_keys}
use Rattle.tree_write.proofs.Assembling.{leaves_failed, one_part}
use Rattle.tree_write.proofs.Drafting.{draft_begun}
use Rattle.tree_write.proofs.LeafKeys.{from_empty, part_stays}
use Rattle.tree_write.proofs.Parts.{part_alone}
use Rattle.tree_write.proofs.tree.write_tree.Goals as goal

pub write-requires-clause-rows : goal.write-requires-clause-rows
write-requires-clause-rows g c =
    let rows = c.requires.rows.0 in
    (rows, subst (λ (l : List Image). AreImages l rows) (sym c.deref.ensures.value) c.requires.rows.1, c.requires.rows.2, subst (λ (k : List ℕ). AreFrom k rows) (sym (c.new-low.ensures ∙ c.new.ensures.items)) (from_empty rows))

pub returns-in-Ok-clause-writes : goal.returns-in-Ok-clause-writes
returns-in-Ok-clause-writes g c rows are fit h old first may =
    let D = g.D.Disk in
    let d = c.args.disk.now in
    let books = c.args.blocks.now in
    let was = c.args.was.now in
    let begun = subst (λ (l : List Entry). Drafted D old first books books d d [] [] [] l) (sym c.new-draft.ensures) (draft_begun D old first books d (λ x left. g.met.D.Disk.only_now _ x left) (record { may = may.may; live = may.live; leaves = tt }) (c.requires.ready h)) in
    let wrote = c.in-Ok.ensures.writes rows (subst (λ (l : List Image). AreImages l rows) (sym c.deref.ensures.value) are) h old first books d [] [] [] begun may.leaves in
    let of = wrote.0 in
    let es = c.write.new.self in
    let mid = c.write.new.disk in
    let whole : of.leaves ++ [] ≡ of.leaves = append-nil of.leaves in
    let draft = subst (λ (l : List (List Row)). Drafted D old first books c.write.new.blocks d mid (aligned was of.leaves) l wrote.1 es) (sym whole) wrote.3 in
    let keys : keys_of es ≡ part_keys [] c.deref.result.now = c.in-Ok.ensures.keys ∙ (ap (λ (l : List Entry). keys_of l ++ part_keys c.new-low.result c.deref.result.now) c.new-draft.ensures ∙ ap (λ (k : List ℕ). part_keys k c.deref.result.now) (c.new-low.ensures ∙ c.new.ensures.items)) in
    let stay = part_stays [] es c.deref.result.now rows (omega arith) keys of fit (from_empty rows) in
    let rose = c.finish.ensures.writes (c.write.ensures.disk.same ∙ h) old first books d (aligned was of.leaves) (of.leaves ∷ []) wrote.1 draft (part_alone es of.leaves stay of.full of.some) in (
      wrote.1 ++ rose.0,
      rose.1 ∙ (ap (λ (l : List Addr). l ++ rose.0) wrote.2 ∙ append_assoc c.args.captured.now.items wrote.1 rose.0),
      one_part D old first books c.finish.new.blocks d c.finish.new.disk was of.leaves rows (wrote.1 ++ rose.0) c.finish.result
          (subst (λ (l : List Row). PartsWrite D old first (aligned was of.leaves) (of.leaves ∷ []) l (wrote.1 ++ rose.0) books c.finish.new.blocks d c.finish.new.disk c.finish.result) (ap (λ (l : List (List Row)). join l) whole ∙ of.whole) rose.2),
    )

pub returns-clause-writes : goal.returns-clause-writes
returns-clause-writes g c rows are fit h old first may =
    let D = g.D.Disk in
    let d = c.args.disk.now in
    let books = c.args.blocks.now in
    let was = c.args.was.now in
    let begun = subst (λ (l : List Entry). Drafted D old first books books d d [] [] [] l) (sym c.new-draft.ensures) (draft_begun D old first books d (λ x left. g.met.D.Disk.only_now _ x left) (record { may = may.may; live = may.live; leaves = tt }) (c.requires.ready h)) in
    let stop = c.in-Err.ensures.writes rows (subst (λ (l : List Image). AreImages l rows) (sym c.deref.ensures.value) are) h old first books d [] [] [] begun may.leaves in
    let of = stop.0 in (
      stop.1,
      stop.2,
      one_part D old first books c.write.new.blocks d c.write.new.disk was of.leaves rows stop.1 (Err c.in-Err.error)
          (leaves_failed c.deref.result.now rows of fit D old first books d (aligned was of.leaves) stop.1 c.write.new.blocks c.write.new.disk c.in-Err.error (omega (arith, ap (λ (l : List Image). length l) c.deref.ensures.value, c.args.images.ok, c.args.images.small)) stop.3),
    )
