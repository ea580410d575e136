-- What the assignment of a placement is. No public contract cites this file.
use Rattle.std.specs.Prelude.{ℕ, ℤ}
use Rattle.msp_assign.specs.declared.assignment.Assignment.{Assignment}
use Rattle.msp_assign.specs.Prices.{IsAssigned, IsPriced, HasFreeColumn}

pub record IsGiven (rows count : ℕ) (cost : ℕ → ℕ → ℤ) (a : Assignment) : Type 0 where
  pub assigned : IsAssigned rows count a.column
  pub priced : IsPriced rows count cost a
  pub zero : HasFreeColumn count a
