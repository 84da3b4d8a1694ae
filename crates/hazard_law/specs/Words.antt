-- State words and hazard words.
-- The state word of the frame f is the word f. The hazard word w of the seat j is the word frames + 5 * j + w;
-- it holds f + 1 where it names the frame f, and else 0.
use Rattle.std.specs.Prelude.{ℕ, suc, ◌+◌, ◌*◌}

-- the states of a frame at the generation g
abbrev pub empty : ℕ → ℕ
empty g = 4 * g

abbrev pub filled : ℕ → ℕ
filled g = 4 * g + 1

abbrev pub locked : ℕ → ℕ
locked g = 4 * g + 2

-- how many hazard words a seat has
abbrev pub hazards_each : ℕ
hazards_each = 5

-- which hazard word among all, and which word of the table it is
abbrev pub hazard_place : ℕ → ℕ → ℕ
hazard_place seat w = 5 * seat + w

abbrev pub hazard_word : ℕ → ℕ → ℕ → ℕ
hazard_word frames seat w = frames + (5 * seat + w)

-- how a hazard word names the frame f
abbrev pub naming : ℕ → ℕ
naming f = suc f
