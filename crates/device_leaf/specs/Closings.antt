-- What a device held before a checkpoint.
use Rattle.std.specs.Prelude.{Option, Some, None}
use Rattle.kv_model.specs.Content.{Content, nothing}
use Rattle.stored.specs.Stored.{Stored, content_of}

-- what the device held before
abbrev pub content_was : Option Stored → Content
content_was None = nothing
content_was (Some s) = content_of s
