use Rattle.std.proofs.Common.{◌≡◌, ℕ, List, refl}
use Rattle.item.specs.declared.formats.Format.{Format}
use Rattle.item.specs.declared.formats.Format.TheVariants.{S, U}
use Rattle.item_forms.specs.Forms.{stored_as, written_as}
use Rattle.item_forms.proofs.ZeroLemmas.{zero-off}
use Rattle.item_forms.proofs.an_item_is_written_as_it_was.Goals as goal

written : (format : Format) (item : List ℕ) → written_as format (stored_as format item) ≡ item
written S item = zero-off item
written U item = refl

pub returns : goal.returns
returns c = written
