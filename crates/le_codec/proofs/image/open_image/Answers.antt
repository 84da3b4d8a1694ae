use Rattle.std.proofs.Common.{arith}
use Rattle.le_codec.specs.Views.{image_seen}
use Rattle.le_codec.proofs.Opened.{found_in, none_in}
use Rattle.le_codec.proofs.image.open_image.Goals as goal

pub returns-clause-found : goal.returns-clause-found
returns-clause-found c = found_in image_seen c.image_of.result c.args.kind c.args.format c.args.block.now (λ i. omega (arith, c.type_inv.block i)) c.image_of.ensures

pub returns-clause-none : goal.returns-clause-none
returns-clause-none c = none_in image_seen c.image_of.result c.args.kind c.args.format c.args.block.now (omega (arith, c.ranges.kind.fits)) (omega (arith, c.ranges.format.fits)) c.image_of.ensures
