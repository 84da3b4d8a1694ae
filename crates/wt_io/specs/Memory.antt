-- What a source and a sink in memory are seen as.
use Rattle.std.specs.Prelude.{ℕ, ◌+◌, ◌-◌, ◌^◌, min, Bool, List, nat_eq}
use Rattle.std.specs.List.{list_any}

-- a source in memory: the bytes that it has left, the number of its next read, the numbers of the
-- reads that fail, and how often it has failed
pub record SourceState : Type 0 where
  pub rest : List ℕ
  pub next_call : ℕ
  pub failing : List ℕ
  pub failures : ℕ

-- a sink in memory: the bytes that it has, the number of its next write, the numbers of the writes
-- that fail, and how often it has failed
pub record SinkState : Type 0 where
  pub content : List ℕ
  pub next_call : ℕ
  pub failing : List ℕ
  pub failures : ℕ

-- whether this number is one of those
abbrev pub is_among : ℕ → List ℕ → Bool
is_among n numbers = list_any (λ m. nat_eq m n) numbers

-- the number of the call behind this one; the numbers stand still at the end of their type
abbrev pub number_after : ℕ → ℕ
number_after n = min (n + 1) (2 ^ 64 - 1)
