-- Pseudo-random draws: a linear congruential generator, with the constants of the C standard's example of `rand`.
use Rattle.std.specs.Prelude.{ℕ, zero, suc, ◌+◌, ◌*◌, ◌/◌, ◌%◌, ◌==◌}
use Rattle.hr_generator.specs.declared.draws.Transfer.{Transfer}
use Rattle.hr_generator.specs.declared.draws.TheConstants.{ACCOUNTS, AMOUNTS}

-- the state behind a state
unfoldable pub next_state : ℕ → ℕ
next_state x = (1103515245 * x + 12345) % 2147483648

-- the state so many draws behind a state
abbrev pub state_after : ℕ → ℕ → ℕ
state_after x zero = x
state_after x (suc n) = next_state (state_after x n)

-- what a state gives: its upper half, as a number from 0 and below so many
abbrev pub reduced : ℕ → ℕ → ℕ
reduced x below = (x / 65536) % below

-- the n-th draw behind a state, below so many
abbrev pub drawn : ℕ → ℕ → ℕ → ℕ
drawn x n below = reduced (state_after x n) below

-- the transfer that the four draws behind a state give; one in four reads
unfoldable pub transfer_behind : ℕ → Transfer
transfer_behind x = record {
  from = drawn x 1 ACCOUNTS + 1;
  to = drawn x 2 ACCOUNTS + 1;
  amount = drawn x 3 AMOUNTS + 1;
  reads = drawn x 4 4 == 0;
}
