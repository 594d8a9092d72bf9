-- A receiver that takes a packet's COUNT as it was sent, and opens it to its text, is done and opens the data.
use Rattle.std.proofs.Common.{◌≡◌, ℕ, zero, suc, ◌≤◌, Bool, true, false, if◌then◌else◌, List, [], ◌∷◌, length, Option, Some, option_map, Ok, refl, ap, ◌∙◌, arith}
use Rattle.std.specs.Prelude.{◌==◌, ◌&&◌, take, nat_lt}
use Rattle.std.proofs.lemmas.Bool.Decides.{nat_tests}
use Rattle.rec_base.specs.declared.uses.Dir.TheVariants.{Up, Down}
use Rattle.lte_events.specs.declared.answers.Answer.TheVariants.{Done, NotAddressed, Short}
use Rattle.key_model.specs.{Term.Term, Reading.Reading, Reading.term_reading_by}
use Rattle.nas_count.specs.Estimate.{estimate_of}
use Rattle.nas_guard.specs.Open.{sn_in}
use Rattle.nas_rec.specs.{declared.records.NasRecord.TheVariants.NasData, Reading.read_nas}
use Rattle.rrc_rec.specs.{declared.records.RrcRecord.TheVariants.RrcData, Reading.read_rrc}
use Rattle.pdcp_guard.specs.{Srb.srb_count, Drb.drb_count}
use Rattle.ho_prep.specs.Prep.{at_air}
use Rattle.lte_machine.specs.Bearers.{Srb, Signalling1, Signalling2, Drb, User1, User2, User3, User4, Which, OnSrb, OnDrb, which, of_srb, of_drb, srb_counts, drb_counts}
use Rattle.lte_machine.specs.Wire.{nas_use, srb_use, Outgoing, drb_ciphering, nas_ciphering, srb_ciphering}
use Rattle.lte_machine.specs.Opening.{Opening, OpensNas, OpensSrb, OpensDrb, Outcome, Opened}
use Rattle.lte_machine.specs.{Reply.Reply, Reply.unseen, PhoneChoice.header_for_phone, StationRows.RrcOpened, StationRows.PacketOpened, StationKeys.signalling_opening, StationKeys.user_opening, CoreChoice.core_header}
use Rattle.lte_machine.specs.PhoneState.{NasContext, Link, Connected, Phone, PhoneNasPdu, PhoneAirPdu, map_context, map_link, map_radio}
use Rattle.lte_machine.specs.PhoneRows.{NasOpened, AirRefused, RrcOpened, PacketOpened}
use Rattle.lte_machine.specs.PhoneChoice as at_phone
use Rattle.lte_machine.specs.PhoneKeys as by_phone
use Rattle.lte_machine.specs.PhoneStep.{plain_phone, phone_step, phone_opens}
use Rattle.lte_machine.specs.StationState as station_state
use Rattle.lte_machine.specs.StationState.{Station, Context, AirPdu}
use Rattle.lte_machine.specs.StationChoice as at_station
use Rattle.lte_machine.specs.StationKeys as by_station
use Rattle.lte_machine.specs.StationStep.{plain_station, station_step, station_opens}
use Rattle.lte_machine.specs.CoreState.{Core, CoreContext, CoreNasPdu, map_core_context}
use Rattle.lte_machine.specs.CoreRows as core_rows
use Rattle.lte_machine.specs.CoreChoice as at_core
use Rattle.lte_machine.specs.CoreKeys as by_core
use Rattle.lte_machine.specs.CoreStep.{plain_core, core_step, core_opens}

-- a reply that is done and opens these data
abbrev pub DoneWith : Reply Term ℕ → List ℕ → Type 0
DoneWith reply sent = (reply.answer ≡ Done) × (reply.opened ≡ Some sent)

-- the bearer of a record on an SRB, and on a DRB
pub which_srb : (srb : Srb) → which (of_srb srb) ≡ OnSrb srb
which_srb Signalling1 = refl
which_srb Signalling2 = refl

pub which_drb : (drb : Drb) → which (of_drb drb) ≡ OnDrb drb
which_drb User1 = refl
which_drb User2 = refl
which_drb User3 = refl
which_drb User4 = refl

-- a text that is not too long is not cut
take_all : (n : ℕ) (xs : List ℕ) → length xs ≤ n → take n xs ≡ xs
take_all zero [] h = refl
take_all (suc n) [] h = refl
take_all zero (x ∷ xs) h = absurd (omega arith)
take_all (suc n) (x ∷ xs) h = ap (λ t. x ∷ t) (take_all n xs (omega arith))

both_are : (a b d e : ℕ) → a ≡ b → d ≡ e → ((a == b) && (d == e)) ≡ true
both_are a b d e f g = grind (arith, nat_tests)

is_one : (a b : ℕ) → a ≡ b → (a == b) ≡ true
is_one a b f = grind (arith, nat_tests)

-- where a PDU is for another address, and where a message is too short
abbrev not_there : at_phone.AirFront
not_there = at_phone.AirSettled (AirRefused NotAddressed)

abbrev too_short : at_core.CoreNasFront
too_short = at_core.NasSettled (core_rows.NasRefused Short)

-- how an opener opens what came
abbrev pub Opener : Type 0
Opener = Opening Term → List ℕ → Option (Outgoing Term ℕ) → Outcome

module _ (same : Term → Term → Bool) (opener : Opener) (pdu : List ℕ) (came : Option (Outgoing Term ℕ)) (text sent : List ℕ) where
  abbrev r : Reading Term ℕ
  r = term_reading_by same

  -- the phone on a NAS message
  pub phone_nas_opens : (s : Phone Term ℕ) (c : NasContext Term) (count : ℕ) → s.context ≡ Some c → header_for_phone pdu ≡ Ok 2
      → estimate_of c.receive (sn_in pdu) ≡ Ok count
      → opener (OpensNas (nas_use Down c.keys.int count) (Some (nas_ciphering Down c.keys count))) pdu came ≡ Opened text
      → read_nas text ≡ Ok (NasData sent)
      → DoneWith (phone_step r s (PhoneNasPdu pdu) (opener (phone_opens r s (PhoneNasPdu pdu)) pdu came)).1 sent
  phone_nas_opens s c count context header counts opens reads =
      let plain = plain_phone r s in
      let at = at_phone.nas_by_header plain.caps plain.partial plain.context pdu (header_for_phone pdu) in
      let front : at ≡ at_phone.AtMessage count 2 =
      ap (at_phone.nas_by_header plain.caps plain.partial plain.context pdu) header
      ∙ ap (λ o. at_phone.message_front 2 pdu (option_map (map_context unseen) o)) context
      ∙ ap (at_phone.message_at 2) counts in
      let expects : by_phone.nas_expects r at s ≡ OpensNas (nas_use Down c.keys.int count) (Some (nas_ciphering Down c.keys count)) =
      ap (λ f. by_phone.nas_expects r f s) front ∙ ap (by_phone.message_expects count 2) context in
      let outcome = opener (by_phone.nas_expects r at s) pdu came in
      let out : outcome ≡ Opened text = ap (λ p. opener p pdu came) expects ∙ opens in
      let row : at_phone.nas_row plain.caps plain.context plain.radio at outcome ≡ NasOpened count sent =
      (λ j. at_phone.nas_row plain.caps plain.context plain.radio (front j) (out j)) ∙ ap (at_phone.message_read count) reads in
      let reply : (by_phone.nas_does r (at_phone.nas_row plain.caps plain.context plain.radio at outcome) s).1 ≡ by_phone.opens sent =
      ap (λ k. (by_phone.nas_does r k s).1) row ∙ ap (λ o. (by_phone.nas_opened count sent s o).1) context in
      (ap (λ y. y.answer) reply, ap (λ y. y.opened) reply)

  -- the phone on an RRC text
  pub phone_rrc_opens : (s : Phone Term ℕ) (l : Link Term ℕ) (station air : ℕ) (srb : Srb) (count : ℕ) → s.radio ≡ Connected l
      → l.station ≡ station → l.air ≡ air → srb_count (srb_counts srb l.bearers).receive pdu ≡ Ok count
      → opener (OpensSrb (srb_use Down l.keys.rrc_int srb count) (Some (srb_ciphering Down l.keys srb count))) pdu came ≡ Opened text
      → read_rrc text ≡ Ok (RrcData sent)
      → DoneWith (phone_step r s (PhoneAirPdu station air (of_srb srb) pdu)
      (opener (phone_opens r s (PhoneAirPdu station air (of_srb srb) pdu)) pdu came)).1
      sent
  phone_rrc_opens s l station air srb count radio here there counts opens reads =
      let own = r.ncc l.chain.number in
      let at = at_phone.air_front s.caps station air pdu (which (of_srb srb)) (map_radio unseen r.ncc s.radio) in
      let front : at ≡ at_phone.AtSignalling srb count own =
      (λ j. at_phone.air_front s.caps station air pdu (which_srb srb j) (map_radio unseen r.ncc (radio j)))
      ∙ ap (λ b. if b then at_phone.linked_front (map_link unseen r.ncc l) pdu (OnSrb srb) else not_there) (both_are l.station station l.air air here there)
      ∙ ap (at_phone.signalling_at srb own) counts in
      let expects : by_phone.air_expects r at s ≡ OpensSrb (srb_use Down l.keys.rrc_int srb count) (Some (srb_ciphering Down l.keys srb count)) =
      ap (λ f. by_phone.air_expects r f s) front ∙ ap (by_phone.signalling_expects srb count) radio in
      let outcome = opener (by_phone.air_expects r at s) pdu came in
      let out : outcome ≡ Opened text = ap (λ p. opener p pdu came) expects ∙ opens in
      let row : at_phone.air_row s.caps at outcome ≡ RrcOpened srb count sent =
      (λ j. at_phone.air_row s.caps (front j) (out j)) ∙ ap (at_phone.signalling_read s.caps srb count own) reads in
      let reply : (by_phone.air_does r (at_phone.air_row s.caps at outcome) s).1 ≡ by_phone.opens sent =
      ap (λ k. (by_phone.air_does r k s).1) row ∙ ap (λ o. (by_phone.rrc_opened srb count sent s o).1) radio in
      (ap (λ y. y.answer) reply, ap (λ y. y.opened) reply)

  -- the phone on a user packet
  pub phone_packet_opens : (s : Phone Term ℕ) (l : Link Term ℕ) (station air : ℕ) (drb : Drb) (count : ℕ) → s.radio ≡ Connected l
      → l.station ≡ station → l.air ≡ air → drb_count (drb_counts drb l.bearers).receive pdu ≡ Ok count
      → opener (OpensDrb (drb_ciphering Down l.keys drb count)) pdu came ≡ Opened text → text ≡ sent → length text ≤ 1500
      → DoneWith (phone_step r s (PhoneAirPdu station air (of_drb drb) pdu)
      (opener (phone_opens r s (PhoneAirPdu station air (of_drb drb) pdu)) pdu came)).1
      sent
  phone_packet_opens s l station air drb count radio here there counts opens is short =
      let at = at_phone.air_front s.caps station air pdu (which (of_drb drb)) (map_radio unseen r.ncc s.radio) in
      let front : at ≡ at_phone.AtPacket drb count =
      (λ j. at_phone.air_front s.caps station air pdu (which_drb drb j) (map_radio unseen r.ncc (radio j)))
      ∙ ap (λ b. if b then at_phone.linked_front (map_link unseen r.ncc l) pdu (OnDrb drb) else not_there) (both_are l.station station l.air air here there)
      ∙ ap (at_phone.packet_at drb) counts in
      let expects : by_phone.air_expects r at s ≡ OpensDrb (drb_ciphering Down l.keys drb count) =
      ap (λ f. by_phone.air_expects r f s) front ∙ ap (by_phone.packet_expects drb count) radio in
      let outcome = opener (by_phone.air_expects r at s) pdu came in
      let out : outcome ≡ Opened text = ap (λ p. opener p pdu came) expects ∙ opens in
      let row : at_phone.air_row s.caps at outcome ≡ PacketOpened drb count sent =
      (λ j. at_phone.air_row s.caps (front j) (out j)) ∙ ap (PacketOpened drb count) (take_all 1500 text short ∙ is) in
      let reply : (by_phone.air_does r (at_phone.air_row s.caps at outcome) s).1 ≡ by_phone.opens sent =
      ap (λ k. (by_phone.air_does r k s).1) row ∙ ap (λ o. (by_phone.packet_opened drb count sent s o).1) radio in
      (ap (λ y. y.answer) reply, ap (λ y. y.opened) reply)

  -- the front of a station on a PDU at the air address of its active context
  active_front_is : (s : Station Term ℕ) (k : Context Term ℕ) (air : ℕ) (on : Which) → s.context ≡ Some k → k.air ≡ air → k.starting ≡ false
      → at_station.air_front (plain_station r s) air on pdu ≡ at_station.active_front k.bearers on pdu
  active_front_is s k air on context there active =
      ap (λ o. at_station.air_front_by (option_map (station_state.map_context unseen r.ncc) o) (at_air air (plain_station r s).preps) air on pdu) context
      ∙ ap (λ b.
      if b then at_station.context_front k.starting k.bearers on pdu
      else at_station.prepared_front (at_air air (plain_station r s).preps) air on pdu)
      (is_one k.air air there)
      ∙ ap (λ b. at_station.context_front b k.bearers on pdu) active

  -- a station on an RRC text
  pub station_rrc_opens : (s : Station Term ℕ) (k : Context Term ℕ) (air : ℕ) (srb : Srb) (count : ℕ) → s.context ≡ Some k
      → k.air ≡ air → k.starting ≡ false → srb_count (srb_counts srb k.bearers).receive pdu ≡ Ok count
      → opener (signalling_opening k.keys srb count) pdu came ≡ Opened text
      → read_rrc text ≡ Ok (RrcData sent)
      → DoneWith (station_step r s (AirPdu air (of_srb srb) pdu) (opener (station_opens r s (AirPdu air (of_srb srb) pdu)) pdu came)).1 sent
  station_rrc_opens s k air srb count context there active counts opens reads =
      let plain = plain_station r s in
      let at = at_station.air_front plain air (which (of_srb srb)) pdu in
      let front : at ≡ at_station.OnSignalling srb count =
      ap (λ on. at_station.air_front plain air on pdu) (which_srb srb) ∙ active_front_is s k air (OnSrb srb) context there active
      ∙ ap (at_station.counted (at_station.OnSignalling srb)) counts in
      let expects : by_station.air_expects at s ≡ signalling_opening k.keys srb count =
      ap (λ f. by_station.air_expects f s) front ∙ ap (by_station.signalling_expects srb count) context in
      let outcome = opener (by_station.air_expects at s) pdu came in
      let out : outcome ≡ Opened text = ap (λ p. opener p pdu came) expects ∙ opens in
      let row : at_station.air_row plain at outcome ≡ RrcOpened srb count (Some sent) =
      (λ j. at_station.air_row plain (front j) (out j)) ∙ ap (at_station.rrc_row srb count) reads in
      (ap (λ y. (by_station.air_does r y s).1.answer) row, ap (λ y. (by_station.air_does r y s).1.opened) row)

  -- a station on a user packet
  pub station_packet_opens : (s : Station Term ℕ) (k : Context Term ℕ) (air : ℕ) (drb : Drb) (count : ℕ) → s.context ≡ Some k
      → k.air ≡ air → k.starting ≡ false → drb_count (drb_counts drb k.bearers).receive pdu ≡ Ok count
      → opener (user_opening k.keys drb count) pdu came ≡ Opened text → text ≡ sent → length text ≤ 1500
      → DoneWith (station_step r s (AirPdu air (of_drb drb) pdu) (opener (station_opens r s (AirPdu air (of_drb drb) pdu)) pdu came)).1 sent
  station_packet_opens s k air drb count context there active counts opens is short =
      let plain = plain_station r s in
      let at = at_station.air_front plain air (which (of_drb drb)) pdu in
      let front : at ≡ at_station.OnUser drb count =
      ap (λ on. at_station.air_front plain air on pdu) (which_drb drb) ∙ active_front_is s k air (OnDrb drb) context there active
      ∙ ap (at_station.counted (at_station.OnUser drb)) counts in
      let expects : by_station.air_expects at s ≡ user_opening k.keys drb count =
      ap (λ f. by_station.air_expects f s) front ∙ ap (by_station.user_expects drb count) context in
      let outcome = opener (by_station.air_expects at s) pdu came in
      let out : outcome ≡ Opened text = ap (λ p. opener p pdu came) expects ∙ opens in
      let row : at_station.air_row plain at outcome ≡ PacketOpened drb count sent =
      (λ j. at_station.air_row plain (front j) (out j)) ∙ ap (PacketOpened drb count) (take_all 1500 text short ∙ is) in
      (ap (λ y. (by_station.air_does r y s).1.answer) row, ap (λ y. (by_station.air_does r y s).1.opened) row)

  -- the core on a NAS message
  pub core_nas_opens : (s : Core Term ℕ) (c : CoreContext Term) (count : ℕ) → s.context ≡ Some c → core_header pdu ≡ Ok 2 → 6 ≤ length pdu
      → estimate_of c.nas.receive (sn_in pdu) ≡ Ok count
      → opener (OpensNas (nas_use Up c.nas.keys.int count) (Some (nas_ciphering Up c.nas.keys count))) pdu came ≡ Opened text
      → read_nas text ≡ Ok (NasData sent)
      → DoneWith (core_step r s (CoreNasPdu pdu) (opener (core_opens r s (CoreNasPdu pdu)) pdu came)).1 sent
  core_nas_opens s c count context header long counts opens reads =
      let plain = plain_core r s in
      let enough : nat_lt (length pdu) 6 ≡ false = grind (arith, nat_tests) in
      let at = at_core.core_nas_front plain.procedure plain.context pdu (core_header pdu) in
      let front : at ≡ at_core.OpensProtected 2 count =
      ap (at_core.core_nas_front plain.procedure plain.context pdu) header
      ∙ ap (λ b. if b then too_short else at_core.protected_front plain.context 2 pdu) enough
      ∙ ap (λ o. at_core.protected_front (option_map (map_core_context unseen) o) 2 pdu) context
      ∙ ap (at_core.opens_protected 2) counts in
      let expects : by_core.core_nas_expects at s ≡ OpensNas (nas_use Up c.nas.keys.int count) (Some (nas_ciphering Up c.nas.keys count)) =
      ap (λ f. by_core.core_nas_expects f s) front ∙ ap (λ o. by_core.opens_by_context o 2 count) context in
      let outcome = opener (by_core.core_nas_expects at s) pdu came in
      let out : outcome ≡ Opened text = ap (λ p. opener p pdu came) expects ∙ opens in
      let row : at_core.core_nas_row plain.procedure plain.next plain.link at outcome ≡ core_rows.NasOpened count sent =
      (λ j. at_core.core_nas_row plain.procedure plain.next plain.link (front j) (out j)) ∙ ap (at_core.protected_row plain.procedure count) reads in
      let reply : (by_core.core_does_nas r (at_core.core_nas_row plain.procedure plain.next plain.link at outcome) s).1
      ≡ (by_core.nas_opened count sent (Some c) s).1 =
      ap (λ k. (by_core.core_does_nas r k s).1) row ∙ ap (λ o. (by_core.nas_opened count sent o s).1) context in
      (ap (λ y. y.answer) reply, ap (λ y. y.opened) reply)
