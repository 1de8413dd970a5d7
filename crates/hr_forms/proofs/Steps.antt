-- What is there so far, and what is still to come.
use Rattle.std.proofs.Common.{List, ◌++◌, Option, Some, None}

-- some in front of others, where these are there
abbrev pub behind : {X : Type 0} → List X → Option (List X) → Option (List X)
behind front None = None
behind front (Some xs) = Some (front ++ xs)
