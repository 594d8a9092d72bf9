-- A bearer as one of the two kinds, and what an SRB opens to.
use Rattle.std.specs.Prelude.{Bool, true, false}
use Rattle.rec_base.specs.declared.bearers.Bearer.{Bearer}
use Rattle.rec_base.specs.declared.bearers.Bearer.TheVariants.{Srb2, Drb2, Drb3, Drb4}
use Rattle.lte_machine.specs.Bearers.{Which, OnSrb, Srb, Signalling1, Signalling2, Drb, User1, User2, User3, User4}

-- the signalling bearer, where it is one
abbrev pub srb_of : Bearer → Srb
srb_of Srb2 = Signalling2
srb_of other = Signalling1

-- the data bearer, where it is one
abbrev pub drb_of : Bearer → Drb
drb_of Drb2 = User2
drb_of Drb3 = User3
drb_of Drb4 = User4
drb_of other = User1

-- whether a bearer is SRB1
abbrev pub is_first : Which → Bool
is_first (OnSrb Signalling1) = true
is_first other = false
