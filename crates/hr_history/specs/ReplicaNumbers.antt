-- The numbers of the replicas.
use Rattle.std.specs.Prelude.{ℕ, ◌+◌, ◌*◌, List, ◌++◌, take, drop}
use Rattle.std.specs.List.{range_with_len}

-- the numbers of the 2f + 1 replicas
abbrev pub replica_numbers : ℕ → List ℕ
replica_numbers f = range_with_len 0 (2 * f + 1)

-- the same numbers, from the one after n on and round to n
abbrev pub replicas_after : ℕ → ℕ → List ℕ
replicas_after f n = drop (n + 1) (replica_numbers f) ++ take (n + 1) (replica_numbers f)
