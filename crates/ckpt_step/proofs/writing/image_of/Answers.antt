use Rattle.std.proofs.Common.{◌∙◌, ap, length, take, List, Option, arith}
use Rattle.device_leaf.proofs.Opens.{record_bytes}
use Rattle.tree_open.specs.declared.place.TreePlace.{TreePlace}
use Rattle.ckpt_step.specs.Records.{roots_by_name}
use Rattle.ckpt_step.specs.Trees.{placed_by, roots_of}
use Rattle.ckpt_step.proofs.Putting.{if_ok_map}
use Rattle.ckpt_step.proofs.writing.image_of.Goals as goal

pub returns-clause-image : goal.returns-clause-image
returns-clause-image c n floor fin = if_ok_map c.encode.result c.encode.ensures.image (λ v is. record {
  r = c.in_ok-record.record;
  admitted = c.in_ok-record.ensures.admitted;
  is = c.in_ok-record.ensures.names n floor fin;
  history = c.in_ok-record.ensures.history;
  tables = c.in_ok-record.ensures.tables ∙ ap (λ (l : List (Option TreePlace)). roots_by_name (take c.args.running.now.tables c.args.engine.now.hub.tables.tables) (roots_of (placed_by c.args.was.now l))) c.deref.ensures.value;
  spelled = is;
})

pub returns-clause-some : goal.returns-clause-some
returns-clause-some c = if_ok_map c.encode.result c.encode.ensures.image (λ v is. omega (arith, ap length is, record_bytes c.in_ok-record.record))
