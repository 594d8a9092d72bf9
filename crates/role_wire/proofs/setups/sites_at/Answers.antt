use Rattle.std.proofs.Common.{◌≡◌, ◌+◌, ◌-◌, suc, sym, ap, ◌∙◌, arith}
use Rattle.rec_fields.specs.Field.{◌>>=◌}
use Rattle.role_wire.specs.Body.{sites_at}
use Rattle.role_wire.proofs.setups.sites_at.Goals as goal

pub loop-i-preserved : goal.loop-i-preserved
unfolding sites_at
loop-i-preserved c =
    let left : c.args.count - c.loop-i.i ≡ suc (c.args.count - (c.loop-i.i + 1)) = omega arith in (
      omega (arith, c.in_ok-cells.ensures.count),
      omega arith,
      c.loop-i.invariant.2
          ∙ ap (λ n. sites_at n c.loop-i.cells c.args.octets.now c.loop-i.next) left
          ∙ ap (λ r. r >>= λ sites. sites_at (c.args.count - (c.loop-i.i + 1)) sites c.args.octets.now (c.loop-i.next + 7)) (sym c.in_ok-cells.ensures.value),
    )
