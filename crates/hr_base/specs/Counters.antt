-- Counters of 64 bits, which stand still at their last number.
use Rattle.std.specs.Prelude.{ℕ, ◌+◌, ◌-◌, ◌^◌, ◌≤◌, min}

-- what a counter shows after n steps
abbrev pub shown : ℕ → ℕ
shown n = min n (2 ^ 64 - 1)

-- a counter's next number
abbrev pub next_count : ℕ → ℕ
next_count n = shown (n + 1)

-- a count went up; one that stands at its last number counts as risen
abbrev pub Rose : ℕ → ℕ → Type 0
Rose before now = next_count before ≤ now
