-- A change of the context's key, whose order was sent at once (TS 33.401 7.2.9.2).
use Rattle.std.specs.Prelude.{ℕ}
use Rattle.x2_handover.specs.declared.orders.Order.{Order}

pub record Renewal : Type 0 where
  -- the number of the attempt
  pub number : ℕ
  -- the order
  pub order : Order
