-- What is made of a key, to an eviction and to a checkpoint.
use Rattle.std.specs.Prelude.{Bool, List, find}
use Rattle.item.specs.declared.Change.{Change}
use Rattle.stamp.specs.declared.Version.{Version}
use Rattle.kv_model.specs.Captures.{ReconciledLists}
use Rattle.kv_model.specs.Holds.{Descends}
use Rattle.kv_model.specs.Ordered.{Older}
use Rattle.reconcile.specs.Held.{moved_of}

-- of what is held, newest first, nothing is lost but what a live version that is past makes unreachable
abbrev pub KeysAreReconciled : Type 0
KeysAreReconciled = (live past : Version Change → Bool) (held : List (Version Change)) → Descends Older held → ReconciledLists Older live past held (find live held) (moved_of live past held)
