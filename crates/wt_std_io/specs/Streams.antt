-- What a source and a sink over a reader and a writer of the system are seen as.
use Rattle.std.specs.Prelude.{ℕ, List, Option}

-- the bytes that the reader has left, where std tells them, and how often a read has failed
pub record ReaderState : Type 0 where
  pub remaining : Option (List ℕ)
  pub failures : ℕ

-- the bytes that the writer holds, where std tells them, and how often a write has failed
pub record WriterState : Type 0 where
  pub contents : Option (List ℕ)
  pub failures : ℕ
