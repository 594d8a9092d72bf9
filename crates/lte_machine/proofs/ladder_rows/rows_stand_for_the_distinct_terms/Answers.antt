use Rattle.key_model.specs.Value.{value_of, same_value}
use Rattle.lte_machine.specs.{Ciphers.under_keys, Machines.written_in_values, Opening.open_octets, Opening.open_by_uses}
use Rattle.lte_machine.proofs.LadderRun.{ladder_always, octets_always}
use Rattle.lte_machine.proofs.ladder_rows.rows_stand_for_the_distinct_terms.Goals as goal

pub returns-clause-terms : goal.returns-clause-terms
returns-clause-terms call c setup events w is =
    ladder_always (under_keys value_of c) written_in_values (open_by_uses same_value (under_keys value_of c))
    (open_octets (under_keys value_of c)) setup events w is

pub returns-clause-octets : goal.returns-clause-octets
returns-clause-octets call c setup events w is =
    octets_always (under_keys value_of c) written_in_values (open_by_uses same_value (under_keys value_of c))
    (open_octets (under_keys value_of c)) setup events w is
