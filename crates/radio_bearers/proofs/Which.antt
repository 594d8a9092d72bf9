-- A bearer of one of the two kinds.
use Rattle.std.proofs.Common.{◌≡◌, refl}
use Rattle.rec_base.specs.{declared.bearers.Bearer.Bearer, Bearer.IsDrb, Bearer.IsSrb}
use Rattle.rec_base.specs.declared.bearers.Bearer.TheVariants.{Srb1, Srb2, Drb1, Drb2, Drb3, Drb4}
use Rattle.lte_machine.specs.Bearers.{which, OnSrb, OnDrb}
use Rattle.radio_bearers.specs.Bearers.{srb_of, drb_of}

pub which_srb : (bearer : Bearer) → IsSrb bearer → which bearer ≡ OnSrb (srb_of bearer)
which_srb Srb1 h = refl
which_srb Srb2 h = refl
which_srb Drb1 h = absurd h
which_srb Drb2 h = absurd h
which_srb Drb3 h = absurd h
which_srb Drb4 h = absurd h

pub which_drb : (bearer : Bearer) → IsDrb bearer → which bearer ≡ OnDrb (drb_of bearer)
which_drb Drb1 h = refl
which_drb Drb2 h = refl
which_drb Drb3 h = refl
which_drb Drb4 h = refl
which_drb Srb1 h = absurd h
which_drb Srb2 h = absurd h
