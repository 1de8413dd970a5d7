use Rattle.std.specs.Prelude.{ℕ, Bool, ◌==◌}

-- words stand one blank apart
abbrev pub is_space : ℕ → Bool
is_space b = b == 32
