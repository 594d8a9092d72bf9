use Rattle.lte_properties.proofs.FarNever.{far_never}
use Rattle.lte_properties.proofs.OctetLaws.{uses_octets, joined_octets, no_kasme_octets, packet_told}
use Rattle.lte_properties.proofs.in_octets.runs_in_octets_keep_what_terms_do.Goals as goal

pub returns-clause-uses : goal.returns-clause-uses
returns-clause-uses c = uses_octets

pub returns-clause-joined : goal.returns-clause-joined
returns-clause-joined c = joined_octets

pub returns-clause-no_kasme : goal.returns-clause-no_kasme
returns-clause-no_kasme c = no_kasme_octets

pub returns-clause-packet : goal.returns-clause-packet
returns-clause-packet c = packet_told

pub returns-clause-far : goal.returns-clause-far
returns-clause-far c = far_never
