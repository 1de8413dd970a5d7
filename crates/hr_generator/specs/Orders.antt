-- What three words ask for.
use Rattle.std.specs.Prelude.{◌≤◌, ◌*◌, ℕ, ◌&&◌, nat_le, Option, Some, None, List, [], ◌∷◌, if◌then◌else◌}
use Rattle.hr_base.specs.Texts.{Text}
use Rattle.hr_line.specs.declared.number.Number.{Number}
use Rattle.hr_line.specs.declared.number.Number.TheVariants as numbers
use Rattle.hr_line.specs.Numbers.{number_of}
use Rattle.hr_generator.specs.declared.order.Order.{Order}
use Rattle.hr_generator.specs.declared.order.TheConstants.{MAX_SEED, MAX_SESSIONS, MAX_TRANSACTIONS}

-- a number, where it is neither below the least nor above the most
abbrev pub within : ℕ → ℕ → Option Number → Option ℕ
within least most (Some (numbers.Of n)) = if nat_le least n && nat_le n most then Some n else None
within least most _ = None

-- the number that a word is: digits, the first of which is 0 only where it is the only one
abbrev pub number_in : ℕ → ℕ → Text → Option ℕ
number_in least most word = within least most (number_of word)

-- so many transactions in each of so many sessions, where they aren't too many in all
abbrev pub ordered : Option ℕ → Option ℕ → Option ℕ → Option Order
ordered (Some seed) (Some sessions) (Some transactions) =
    if nat_le (sessions * transactions) MAX_TRANSACTIONS
    then Some (record { seed = seed; sessions = sessions; transactions = transactions })
    else None
ordered _ _ _ = None

-- the order that words give
abbrev pub order_of : List Text → Option Order
order_of (seed ∷ sessions ∷ transactions ∷ []) =
    ordered (number_in 0 MAX_SEED seed) (number_in 1 MAX_SESSIONS sessions) (number_in 1 MAX_TRANSACTIONS transactions)
order_of _ = None

-- an order's numbers are in their ranges
pub record IsOrder (order : Order) : Type 0 where
  pub seed : order.seed ≤ MAX_SEED
  pub sessions : order.sessions ≤ MAX_SESSIONS
  pub some : 1 ≤ order.sessions
  pub transactions : 1 ≤ order.transactions
  pub all : order.sessions * order.transactions ≤ MAX_TRANSACTIONS
