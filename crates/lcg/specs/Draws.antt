-- The sequence of a linear congruential generator.
use Rattle.std.specs.Prelude.{ℕ, ◌+◌, ◌*◌, ◌/◌, ◌%◌, ◌^◌}

-- the state behind this one
abbrev pub next_state : ℕ → ℕ
next_state x = (x * 6364136223846793005 + 1442695040888963407) % 2 ^ 64

-- the number that is drawn as a state is reached: its upper half
abbrev pub drawn_at : ℕ → ℕ
drawn_at x = x / 2 ^ 32
