use Rattle.std.proofs.Common.{◌≡◌, take}
use Rattle.disk_model.specs.Images.{content_of, MayLeave}
use Rattle.disk_model.proofs.image.image_of.Given as goal

abbrev pub invariant-loop-call : goal.invariant-loop-call
invariant-loop-call l = record {
  content_is : l.content.items ≡ content_of l.first (take l.call-index l.calls);
  image_is : MayLeave l.first (take l.call-index l.calls) l.image.items;
}
