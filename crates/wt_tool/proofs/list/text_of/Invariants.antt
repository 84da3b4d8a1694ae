use Rattle.std.proofs.Common.{◌≡◌, take}
use Rattle.device_read.specs.Readers.{tables_in}
use Rattle.wt_tool.specs.Lists.{names_text}
use Rattle.wt_tool.proofs.Listing.{names_of}
use Rattle.wt_tool.proofs.list.text_of.Given as goal

abbrev pub invariant-loop-place : goal.invariant-loop-place
invariant-loop-place l = record { is : l.text.items ≡ names_text (names_of (take l.place (tables_in l.reader))) }
