use Rattle.std.proofs.Common.{◌≡◌, ◌+◌, [], ◌∷◌, length, take, ap, ◌∙◌, length-append, arith}
use Rattle.std.specs.List.{flat_map}
use Rattle.lte_events.specs.Site.{Site}
use Rattle.rec_fields.specs.Spelled.{cell_octets}
use Rattle.role_wire.specs.Spelling.{site_octets}
use Rattle.role_wire.proofs.WritingLaws.{flat_map-at, put_more}
use Rattle.role_wire.proofs.writing.put_cells.Goals as goal

pub loop-i-preserved : goal.loop-i-preserved
loop-i-preserved c =
    let cells = c.args.cells.now in
    let i = c.loop-i.i in
    let site : Site = record { station = c.at-station.result.0; cell = c.at-station.result.1 } in
    let once = c.append-in-loop-i.ensures in
    let size : length c.append-in-loop-i.new.self ≡ length c.loop-i.out + 1 = ap length once ∙ length-append c.loop-i.out (site.station ∷ []) in (
      put_more c.args.out.now (length cells ∷ flat_map site_octets (take i cells))
          (length cells ∷ flat_map site_octets (take (i + 1) cells)) c.loop-i.out c.append-in-loop-i.new.self
          c.put_cell.new.out (site.station ∷ []) (cell_octets site.cell)
          c.loop-i.invariant.0 once c.put_cell.ensures.octets (ap (λ t. length cells ∷ t) (flat_map-at site_octets cells i site c.at-station.ensures.value)),
      omega (arith, c.put_cell.ensures.count),
      c.loop-i.invariant.2,
    )
