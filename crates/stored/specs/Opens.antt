-- What an opening of a device gives.
use Rattle.std.specs.Prelude.{ℕ, List}
use Rattle.kv_model.specs.Machine.{Completed}
use Rattle.kv_model.specs.Content.{Content, OpensAs}
use Rattle.stored.specs.Stored.{Reads}

-- the device's bytes read as a content that opens as this checkpoint
abbrev pub Opens : List ℕ → Completed → Type 0
Opens bytes done = (c : Content) × Reads bytes c × OpensAs c done
