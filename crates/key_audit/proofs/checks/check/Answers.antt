use Rattle.std.proofs.Common.{rules}
use Rattle.key_audit.proofs.Exactness.{exact_is_local}
use Rattle.key_audit.proofs.checks.check.Goals as goal

pub returns-then-len : goal.returns-then-len
returns-then-len c =
    exact_is_local c.args.ladder.now.rows c.len-2.ensures.ladder c.args.audit.now.rows.items c.deref.result.now
    c.deref.ensures.value (search rules) c.each_row_fits.ensures
