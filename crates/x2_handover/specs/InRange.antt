-- The ranges of an order's fields.
use Rattle.std.specs.Prelude.{◌<◌, ◌≤◌, ◌^◌}
use Rattle.annex_a_keys.specs.Cell.{IsCell}
use Rattle.x2_handover.specs.declared.orders.Order.{Order}

-- PCI and EARFCN-DL of the cell, NCC 0 to 7, station 0 to 7, air address of 32 bits and at least 1
abbrev pub InRange : Order → Type 0
InRange order =
    IsCell order.cell
    × (order.ncc ≤ 7)
    × (order.station ≤ 7)
    × (1 ≤ order.air)
    × (order.air < 2 ^ 32)
