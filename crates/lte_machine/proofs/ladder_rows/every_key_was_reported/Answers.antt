use Rattle.key_model.specs.Value.{value_of, same_value}
use Rattle.lte_machine.specs.{Ciphers.under_keys, Machines.written_in_values, Opening.open_octets, Opening.open_by_uses}
use Rattle.lte_machine.proofs.LadderRun.{all_reported}
use Rattle.lte_machine.proofs.ladder_rows.every_key_was_reported.Goals as goal

pub returns : goal.returns
returns call c setup events w is =
    all_reported (under_keys value_of c) written_in_values (open_by_uses same_value (under_keys value_of c))
    (open_octets (under_keys value_of c)) setup events w is
