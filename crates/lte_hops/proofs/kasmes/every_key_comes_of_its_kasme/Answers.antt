use Rattle.lte_hops.proofs.KasmesHold.{none, all, alike}
use Rattle.lte_hops.proofs.kasmes.every_key_comes_of_its_kasme.Goals as goal

pub returns-clause-nothing : goal.returns-clause-nothing
returns-clause-nothing c = none

pub returns-clause-all : goal.returns-clause-all
returns-clause-all c = all

pub returns-clause-alike : goal.returns-clause-alike
returns-clause-alike c = alike
