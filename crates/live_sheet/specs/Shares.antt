-- Shares of the ledger of accepted edits.
use Rattle.std.specs.Prelude.{◌≡◌, ◌+◌, ℕ}

-- the ledger has one part more than there are clients, and this is that one, without an amount
pub record IsRest (clients all parts amount : ℕ) : Type 0 where
  pub one_more : all ≡ clients + 1
  pub one : parts ≡ 1
  pub none : amount ≡ 0
