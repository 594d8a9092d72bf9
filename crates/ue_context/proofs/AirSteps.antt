-- The steps at a PDU of a radio bearer, by what the code below opens.
use Rattle.std.proofs.Common.{◌≡◌, ℕ, ◌≤◌, Bool, true, false, cond, List, length, Some, None, Ok, Err, refl, ap, ◌∙◌, sym}
use Rattle.std.specs.Prelude.{◌==◌, ◌&&◌, take, Result}
use Rattle.lte_events.specs.{declared.inputs.PhoneIn.TheVariants.Air, declared.replies.ActorOut.ActorOut, Reply.reply_of}
use Rattle.key_model.specs.Reading.{octet_reading}
use Rattle.rec_base.specs.{declared.bearers.Bearer.Bearer, declared.uses.Dir.TheVariants.Down, Lengths.longest_packet, Bearer.IsDrb, Bearer.IsSrb}
use Rattle.rrc_rec.specs.Reading.{read_rrc}
use Rattle.pdcp_guard.specs.{declared.pdus.PdcpOpened.PdcpOpened, declared.pdus.PdcpFault.PdcpFault}
use Rattle.pdcp_guard.specs.declared.pdus.PdcpFault as faults
use Rattle.pdcp_guard.specs.Srb.{srb_count, srb_opened, srb_opened_by, srb_opened_at}
use Rattle.pdcp_guard.specs.Drb.{drb_count, drb_opened, drb_opened_by, drb_opened_at}
use Rattle.pdcp_guard.proofs.SrbFacts.{long_enough}
use Rattle.lte_machine.specs.Bearers.{which, OnSrb, OnDrb, srb_counts, drb_counts}
use Rattle.lte_machine.specs.{Calls.phone_call, Calls.use_out, Ciphers.annex_b, PhoneKeys.air_expects, PhoneRows.AirRow, PhoneRows.PacketOpened, Refusals.of_pdcp, Reply.unseen}
use Rattle.lte_machine.specs.Opening.{Outcome, OpensSrb, OpensDrb, open_octets, accepted_of}
use Rattle.lte_machine.specs.PhoneChoice.{AirFront, AtSignalling, AtPacket, air_front, air_row, signalling_at, packet_at, signalling_read}
use Rattle.lte_machine.specs.PhoneState.{Phone, Link, map_radio}
use Rattle.lte_machine.specs.Wire.{KeyUse, srb_ciphering, drb_ciphering}
use Rattle.nas_smc.specs.PhoneNas.{NasPart}
use Rattle.radio_bearers.specs.Bearers.{srb_of, drb_of}
use Rattle.radio_bearers.proofs.Sealing.{srb_opened_is, drb_opened_is, outcome_of}
use Rattle.ue_context.specs.{Parts.linked, Step.by_air, Step.to_phone}

-- what a front leads to
abbrev pub by_front : Phone (List ℕ) ℕ → List ℕ → AirFront → Phone (List ℕ) ℕ × ActorOut
by_front s pdu front =
    let o = open_octets annex_b (air_expects octet_reading front s) pdu in
    by_air s (accepted_of (air_expects octet_reading front s) o) (air_row s.caps front o)

pub fronted : (s : Phone (List ℕ) ℕ) (station air : ℕ) (bearer : Bearer) (pdu : List ℕ) (front : AirFront)
    → air_front s.caps station air pdu (which bearer) (map_radio unseen octet_reading.ncc s.radio) ≡ front
    → phone_call s (Air station air bearer pdu) ≡ by_front s pdu front
fronted s station air bearer pdu front e = ap (by_front s pdu) e

-- a connection
module _ (n : NasPart) (l : Link (List ℕ) ℕ) (station air : ℕ) (bearer : Bearer) (pdu : List ℕ)
    (here : ((l.station == station) && (l.air == air)) ≡ true) where
  -- what was opened on an SRB
  abbrev pub by_opened : Result PdcpOpened PdcpFault → Phone (List ℕ) ℕ × ActorOut
  by_opened (Err fault) = (linked n l, reply_of (of_pdcp fault))
  by_opened (Ok o) =
      by_air (linked n l) (Some (to_phone l.keys bearer o.count)) (signalling_read n.caps (srb_of bearer) o.count l.chain.number (read_rrc o.text))

  -- by the outcome
  at_outcome : ℕ → Outcome → Phone (List ℕ) ℕ × ActorOut
  at_outcome count o =
      by_air (linked n l) (accepted_of (OpensSrb (to_phone l.keys bearer count) (Some (srb_ciphering Down l.keys (srb_of bearer) count))) o)
      (air_row n.caps (AtSignalling (srb_of bearer) count l.chain.number) o)

  shaped : (count : ℕ) (b : Bool) (w g text : List ℕ) (x : Result PdcpOpened PdcpFault)
      → x ≡ cond b (Ok (record { count = count; text = text })) (Err (faults.TheVariants.MacFails count w g))
      → at_outcome count (outcome_of x) ≡ by_opened x
  unfolding at_outcome
  shaped count true w g text x e = rw e refl
  shaped count false w g text x e = rw e refl

  at_count : (count : ℕ) → IsSrb bearer → 1 ≤ length pdu
      → by_front (linked n l) pdu (AtSignalling (srb_of bearer) count l.chain.number) ≡ by_opened (srb_opened_at l.keys true bearer count Down pdu)
  unfolding at_outcome srb_opened_at
  at_count count is long =
      ap (at_outcome count) (srb_opened_is l.keys true bearer count Down pdu is long)
      ∙ shaped count _ _ _ _ (srb_opened_at l.keys true bearer count Down pdu) refl

  at_srb : which bearer ≡ OnSrb (srb_of bearer) → IsSrb bearer
      → phone_call (linked n l) (Air station air bearer pdu) ≡ by_opened (srb_opened l.keys true bearer (srb_counts (srb_of bearer) l.bearers).receive Down pdu)
  at_srb on is =
      fronted (linked n l) station air bearer pdu
      (signalling_at (srb_of bearer) l.chain.number (srb_count (srb_counts (srb_of bearer) l.bearers).receive pdu))
      (rw (here, on) refl)
      ∙ by_count (srb_count (srb_counts (srb_of bearer) l.bearers).receive pdu) refl
    where
      by_count : (c : Result ℕ PdcpFault) → srb_count (srb_counts (srb_of bearer) l.bearers).receive pdu ≡ c
          → by_front (linked n l) pdu (signalling_at (srb_of bearer) l.chain.number c) ≡ by_opened (srb_opened_by l.keys true bearer Down pdu c)
      by_count (Err fault) e = refl
      by_count (Ok count) e = at_count count is (long_enough _ pdu count e)

  pub srb_refused : (fault : PdcpFault) (out : ActorOut) → which bearer ≡ OnSrb (srb_of bearer) → IsSrb bearer
      → srb_opened l.keys true bearer (srb_counts (srb_of bearer) l.bearers).receive Down pdu ≡ Err fault → out ≡ reply_of (of_pdcp fault)
      → (linked n l, out) ≡ phone_call (linked n l) (Air station air bearer pdu)
  srb_refused fault out on is e told = ap (λ x. (linked n l, x)) told ∙ sym (at_srb on is ∙ ap by_opened e)

  pub srb_taken_so : (o : PdcpOpened) (done : Phone (List ℕ) ℕ × ActorOut) → which bearer ≡ OnSrb (srb_of bearer) → IsSrb bearer
      → srb_opened l.keys true bearer (srb_counts (srb_of bearer) l.bearers).receive Down pdu ≡ Ok o
      → done ≡ by_air (linked n l) (Some (to_phone l.keys bearer o.count)) (signalling_read n.caps (srb_of bearer) o.count l.chain.number (read_rrc o.text))
      → done ≡ phone_call (linked n l) (Air station air bearer pdu)
  srb_taken_so o done on is e told = told ∙ sym (at_srb on is ∙ ap by_opened e)

  -- on a DRB
  abbrev pub by_packet : Result PdcpOpened PdcpFault → Phone (List ℕ) ℕ × ActorOut
  by_packet (Err fault) = (linked n l, reply_of (of_pdcp fault))
  by_packet (Ok o) = by_air (linked n l) None (PacketOpened (drb_of bearer) o.count (take longest_packet o.text))

  at_drb : which bearer ≡ OnDrb (drb_of bearer) → IsDrb bearer
      → phone_call (linked n l) (Air station air bearer pdu) ≡ by_packet (drb_opened l.keys bearer (drb_counts (drb_of bearer) l.bearers).receive Down pdu)
  unfolding drb_opened_at
  at_drb on is =
      fronted (linked n l) station air bearer pdu
      (packet_at (drb_of bearer) (drb_count (drb_counts (drb_of bearer) l.bearers).receive pdu))
      (rw (here, on) refl)
      ∙ by_count (drb_count (drb_counts (drb_of bearer) l.bearers).receive pdu)
    where
      at_count : (count : ℕ) (o : PdcpOpened)
          → o ≡ drb_opened_at l.keys bearer count Down pdu
          → by_front (linked n l) pdu (AtPacket (drb_of bearer) count) ≡ by_packet (Ok o)
      at_count count o e =
          ap (λ x. by_air (linked n l) (accepted_of (OpensDrb (drb_ciphering Down l.keys (drb_of bearer) count)) x)
          (air_row n.caps (AtPacket (drb_of bearer) count) x))
          (drb_opened_is l.keys bearer count Down pdu is)
          ∙ rw e refl

      by_count : (c : Result ℕ PdcpFault) → by_front (linked n l) pdu (packet_at (drb_of bearer) c) ≡ by_packet (drb_opened_by l.keys bearer Down pdu c)
      by_count (Err fault) = refl
      by_count (Ok count) = at_count count _ refl

  pub drb_taken_so : (o : PdcpOpened) (done : Phone (List ℕ) ℕ × ActorOut) → which bearer ≡ OnDrb (drb_of bearer) → IsDrb bearer
      → drb_opened l.keys bearer (drb_counts (drb_of bearer) l.bearers).receive Down pdu ≡ Ok o
      → done ≡ by_air (linked n l) None (PacketOpened (drb_of bearer) o.count (take longest_packet o.text))
      → done ≡ phone_call (linked n l) (Air station air bearer pdu)
  drb_taken_so o done on is e told = told ∙ sym (at_drb on is ∙ ap by_packet e)

-- a row by what was accepted too
pub accepted_so : (s t : Phone (List ℕ) ℕ) (row : AirRow) (u : KeyUse (List ℕ)) (out : ActorOut)
    → (t, out) ≡ by_air s None row → (t, record out { accepted = Some (use_out u) }) ≡ by_air s (Some u) row
accepted_so s t row u out e = λ j. ((e j).0, record (e j).1 { accepted = Some (use_out u) })
