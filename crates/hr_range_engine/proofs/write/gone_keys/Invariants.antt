use Rattle.std.proofs.Common.{◌≡◌, take}
use Rattle.hr_range_engine.specs.Changed.{gone_keys}
use Rattle.hr_range_engine.proofs.write.gone_keys.Given as goal

abbrev pub invariant-keys : goal.invariant-keys
invariant-keys l = l.gone.items ≡ gone_keys l.rows (take l.key-index l.keys)
