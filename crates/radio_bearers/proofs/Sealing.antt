-- The PDUs of the code below are those of the written machine.
use Rattle.std.proofs.Common.{◌≡◌, ℕ, ◌≤◌, Bool, true, false, cond, List, [], ◌∷◌, length, take, Result, Ok, Err, refl, arith}
use Rattle.std.specs.Prelude.{slice_index}
use Rattle.rec_base.specs.{declared.bearers.Bearer.Bearer, declared.uses.Dir.Dir, Bearer.IsDrb, Bearer.IsSrb}
use Rattle.rec_base.specs.declared.bearers.Bearer.TheVariants.{Srb1, Srb2, Drb1, Drb2, Drb3, Drb4}
use Rattle.pdcp_guard.specs.{declared.pdus.PdcpOpened.PdcpOpened, declared.pdus.PdcpFault.PdcpFault, declared.pdus.PdcpFault.TheVariants.MacFails, AsKeys.AsKeys}
use Rattle.pdcp_guard.specs.Srb.{srb_sealed, srb_ciphered, srb_opened_at}
use Rattle.pdcp_guard.specs.Drb.{drb_sealed, drb_ciphered, drb_opened_at}
use Rattle.lte_machine.specs.Ciphers.{annex_b, srb_octets, drb_octets}
use Rattle.lte_machine.specs.Opening.{Outcome, Opened, Differs, OpensSrb, OpensDrb, open_octets, by_macs}
use Rattle.lte_machine.specs.Wire.{ciphering_if, srb_use, srb_ciphering, drb_ciphering}
use Rattle.radio_bearers.specs.Bearers.{srb_of, drb_of}

-- a PDU of an SRB, ciphered or not
pub srb_sealed_is : (keys : AsKeys (List ℕ)) (cipher : Bool) (bearer : Bearer) (count : ℕ) (dir : Dir) (text : List ℕ) → IsSrb bearer
    → srb_sealed keys cipher bearer count dir text
    ≡ srb_octets annex_b (srb_use dir keys.rrc_int (srb_of bearer) count)
    (ciphering_if cipher (srb_ciphering dir keys (srb_of bearer) count)) text
unfolding srb_sealed srb_ciphered srb_octets
srb_sealed_is keys true Srb1 count dir text h = refl
srb_sealed_is keys false Srb1 count dir text h = refl
srb_sealed_is keys true Srb2 count dir text h = refl
srb_sealed_is keys false Srb2 count dir text h = refl
srb_sealed_is keys cipher Drb1 count dir text h = absurd h
srb_sealed_is keys cipher Drb2 count dir text h = absurd h
srb_sealed_is keys cipher Drb3 count dir text h = absurd h
srb_sealed_is keys cipher Drb4 count dir text h = absurd h

-- and one of a DRB
pub drb_sealed_is : (keys : AsKeys (List ℕ)) (bearer : Bearer) (count : ℕ) (dir : Dir) (text : List ℕ) → IsDrb bearer
    → drb_sealed keys bearer count dir text ≡ drb_octets annex_b (drb_ciphering dir keys (drb_of bearer) count) text
unfolding drb_sealed drb_ciphered drb_octets
drb_sealed_is keys Drb1 count dir text h = refl
drb_sealed_is keys Drb2 count dir text h = refl
drb_sealed_is keys Drb3 count dir text h = refl
drb_sealed_is keys Drb4 count dir text h = refl
drb_sealed_is keys Srb1 count dir text h = absurd h
drb_sealed_is keys Srb2 count dir text h = absurd h

first_taken : (pdu : List ℕ) → 1 ≤ length pdu → take 1 pdu ≡ slice_index pdu 0 ∷ []
first_taken [] h = absurd (omega arith)
first_taken (x ∷ xs) h = refl

-- the outcome of an opening at a COUNT
abbrev pub outcome_of : Result PdcpOpened PdcpFault → Outcome
outcome_of (Ok o) = Opened o.text
outcome_of (Err (MacFails count wanted got)) = Differs wanted got
outcome_of (Err other) = Opened []

by_test : (b : Bool) (count : ℕ) (wanted got text : List ℕ)
    → by_macs b wanted got text
    ≡ outcome_of (cond b (Ok (record { count = count; text = text })) (Err (MacFails count wanted got)))
by_test true count wanted got text = refl
by_test false count wanted got text = refl

-- what a PDU of an SRB opens to
pub srb_opened_is : (keys : AsKeys (List ℕ)) (cipher : Bool) (bearer : Bearer) (count : ℕ) (dir : Dir) (pdu : List ℕ) → IsSrb bearer → 1 ≤ length pdu
    → open_octets annex_b (OpensSrb (srb_use dir keys.rrc_int (srb_of bearer) count)
    (ciphering_if cipher (srb_ciphering dir keys (srb_of bearer) count)))
    pdu
    ≡ outcome_of (srb_opened_at keys cipher bearer count dir pdu)
unfolding open_octets srb_opened_at srb_ciphered
srb_opened_is keys true Srb1 count dir pdu h long = rw (first_taken pdu long) (by_test _ count _ _ _)
srb_opened_is keys false Srb1 count dir pdu h long = rw (first_taken pdu long) (by_test _ count _ _ _)
srb_opened_is keys true Srb2 count dir pdu h long = rw (first_taken pdu long) (by_test _ count _ _ _)
srb_opened_is keys false Srb2 count dir pdu h long = rw (first_taken pdu long) (by_test _ count _ _ _)
srb_opened_is keys cipher Drb1 count dir pdu h long = absurd h
srb_opened_is keys cipher Drb2 count dir pdu h long = absurd h
srb_opened_is keys cipher Drb3 count dir pdu h long = absurd h
srb_opened_is keys cipher Drb4 count dir pdu h long = absurd h

-- and one of a DRB
pub drb_opened_is : (keys : AsKeys (List ℕ)) (bearer : Bearer) (count : ℕ) (dir : Dir) (pdu : List ℕ) → IsDrb bearer
    → open_octets annex_b (OpensDrb (drb_ciphering dir keys (drb_of bearer) count)) pdu ≡ Opened (drb_opened_at keys bearer count dir pdu).text
unfolding open_octets drb_opened_at drb_ciphered
drb_opened_is keys Drb1 count dir pdu h = refl
drb_opened_is keys Drb2 count dir pdu h = refl
drb_opened_is keys Drb3 count dir pdu h = refl
drb_opened_is keys Drb4 count dir pdu h = refl
drb_opened_is keys Srb1 count dir pdu h = absurd h
drb_opened_is keys Srb2 count dir pdu h = absurd h
