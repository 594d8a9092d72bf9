-- A packet that comes to a receiver whose keys are those that it was sealed under opens to what was sent.
use Rattle.std.proofs.Common.{◌≡◌, ℕ, ◌+◌, ◌*◌, ◌≤◌, ◌<◌, Bool, List, length, Option, Some, None, refl, ap, sym, ◌∙◌, subst}
use Rattle.std.specs.Prelude.{⊤}
use Rattle.rec_base.specs.declared.uses.Dir.{Dir}
use Rattle.rec_base.specs.declared.uses.Dir.TheVariants.{Up, Down}
use Rattle.lte_events.specs.{declared.addresses.Address.Address, declared.answers.Answer.TheVariants.Done}
use Rattle.key_model.specs.{HandoverTable.NumberedKey, Term.Term}
use Rattle.nas_count.specs.Estimate.{nas_count_limit}
use Rattle.nas_rec.specs.{declared.records.NasRecord.TheVariants.NasData, Spelling.spelling_of as nas_spelling, Reading.read_nas}
use Rattle.nas_rec.proofs.Laws.{spelled_is_read as nas_is_read}
use Rattle.rrc_rec.specs.{declared.records.RrcRecord.TheVariants.RrcData, Spelling.spelling_of as rrc_spelling, Reading.read_rrc}
use Rattle.rrc_rec.proofs.Laws.{spelled_is_read as rrc_is_read}
use Rattle.pdcp_guard.specs.{Counts.count_limit, AsKeys.AsKeys}
use Rattle.s1x2_rec.specs.Fields.{Fields}
use Rattle.lte_machine.specs.Bearers.{Srb, Drb, of_srb, of_drb}
use Rattle.lte_machine.specs.Wire.{KeyUse, Ciphering, ciphering_by, nas_use, srb_use, drb_use, Outgoing, SealedNas, PlainNas, SealedRrc, UserPacket, Between}
use Rattle.lte_machine.specs.Ciphers.{Ciphers, octets_of, nas_octets, srb_octets, drb_octets}
use Rattle.lte_machine.specs.Opening.{Opening, OpensNas, OpensSrb, OpensDrb, Outcome, Opened}
use Rattle.lte_machine.specs.PhoneState.{NasContext, Link, Radio, Idle, Connecting, Connected}
use Rattle.lte_machine.specs.StationState.{Station, Context, AirPdu}
use Rattle.lte_machine.specs.CoreState.{CoreContext}
use Rattle.nas_guard.specs.Keys.{Keys}
use Rattle.lte_machine.specs.World.{Machine, World, Line, arrives, delivery, station_of_id, turn_of}
use Rattle.lte_properties.specs.{ChainBelow.AllOf, ChainHolds.machine_by}
use Rattle.lte_properties.specs.Packets.{IsPacket, UsesRootOf, OpensToSent}
use Rattle.lte_properties.proofs.{ChainNumbers.Lists.OfSome, ChainNumbers.Lists.all_chosen, Opening.Opens.OpensBack}
use Rattle.lte_properties.proofs.Opening.Counts.{estimated, nas_parts, header_down, header_up, srb_counted, drb_counted}
use Rattle.lte_properties.proofs.Opening.Ready.{ConnectedAt, HasActive, ActiveAt, PhoneUses, CoreUses, InSrb, InDrb, InSrbOf, InDrbOf, InNas, ReadyFor, ready_for}
use Rattle.lte_properties.proofs.Opening.Steps.{phone_nas_opens, phone_rrc_opens, phone_packet_opens, station_rrc_opens, station_packet_opens, core_nas_opens}
use Rattle.lte_machine.proofs.CipherLaws.{AreCiphers}

abbrev W : Type 0
W = World Term ℕ (Outgoing Term ℕ)

-- an RRC text, a user packet and a NAS text are sealed under these keys
abbrev pub RrcUnder : AsKeys Term → Srb → KeyUse Term → Option (Ciphering Term) → Type 0
RrcUnder keys srb u e =
    (u ≡ srb_use u.dir keys.rrc_int srb u.count) × (e ≡ Some (ciphering_by keys.algs.eea (srb_use u.dir keys.rrc_enc srb u.count)))

abbrev pub PacketUnder : AsKeys Term → Drb → Ciphering Term → Type 0
PacketUnder keys drb e = e ≡ ciphering_by keys.algs.eea (drb_use e.under.dir keys.up_enc drb e.under.count)

abbrev pub NasUnder : Keys Term → KeyUse Term → Option (Ciphering Term) → Type 0
NasUnder keys u e = (u ≡ nas_use u.dir keys.int u.count) × (e ≡ Some (ciphering_by keys.algs.eea (nas_use u.dir keys.enc u.count)))

-- at the receiver that is ready for a packet, the keys are those that it was sealed under; its COUNT and its data are in
-- their ranges
abbrev pub AtPhone : Radio Term ℕ → ℕ → ℕ → (AsKeys Term → Type 0) → Type 0
AtPhone radio station air P = (l : Link Term ℕ) → radio ≡ Connected l → l.station ≡ station → l.air ≡ air → P l.keys

abbrev pub AtContext : Option (Station Term ℕ) → ℕ → (AsKeys Term → Type 0) → Type 0
AtContext o air P = (s : Station Term ℕ) (k : Context Term ℕ) → o ≡ Some s → s.context ≡ Some k → k.air ≡ air → P k.keys

abbrev pub AtNas : Option (NasContext Term) → KeyUse Term → (Keys Term → Type 0) → Type 0
AtNas o u P = (k : NasContext Term) → o ≡ Some k → UsesRootOf k u → P k.keys

abbrev pub AtCore : Option (CoreContext Term) → KeyUse Term → (Keys Term → Type 0) → Type 0
AtCore o u P = (k : CoreContext Term) → o ≡ Some k → UsesRootOf k.nas u → P k.nas.keys

abbrev pub Fits : W → Outgoing Term ℕ → List ℕ → Type 0
Fits w (UserPacket Down station air drb e text) sent =
    (length text ≤ 1500) × (e.under.count < count_limit) × (e.under.dir ≡ Down) × AtPhone w.phone.radio station air (λ keys. PacketUnder keys drb e)
Fits w (UserPacket Up station air drb e text) sent =
    (length text ≤ 1500)
    × (e.under.count < count_limit)
    × (e.under.dir ≡ Up)
    × AtContext (station_of_id station w.stations) air (λ keys. PacketUnder keys drb e)
Fits w (SealedRrc Down station air srb u e text) sent =
    (length sent ≤ 200) × (u.count < count_limit) × (u.dir ≡ Down) × AtPhone w.phone.radio station air (λ keys. RrcUnder keys srb u e)
Fits w (SealedRrc Up station air srb u e text) sent =
    (length sent ≤ 200) × (u.count < count_limit) × (u.dir ≡ Up) × AtContext (station_of_id station w.stations) air (λ keys. RrcUnder keys srb u e)
Fits w (SealedNas Down header u e text) sent =
    (length sent ≤ 200) × (u.count < nas_count_limit) × (u.dir ≡ Down) × (header ≡ 2) × AtNas w.phone.context u (λ keys. NasUnder keys u e)
Fits w (SealedNas Up header u e text) sent =
    (length sent ≤ 200) × (u.count < nas_count_limit) × (u.dir ≡ Up) × (header ≡ 2) × AtCore w.core.context u (λ keys. NasUnder keys u e)
Fits w other sent = ⊤

-- a line that is done and opens these data
abbrev LineOf : Line Term → List ℕ → Type 0
LineOf line sent = (line.answer ≡ Done) × (line.opened ≡ Some sent)

module _ (same : Term → Term → Bool) (root : ℕ → List ℕ → Term)
    (sender : Option (Outgoing Term ℕ) → Option (KeyUse Term))
    (opener : Opening Term → List ℕ → Option (Outgoing Term ℕ) → Outcome) (c : Ciphers Term) (good : AreCiphers c)
    (back : OpensBack c opener) (between : Fields → Option (NumberedKey Term ℕ) → List ℕ) where
  abbrev m : Machine Term ℕ (Outgoing Term ℕ)
  m = machine_by same root (octets_of c between) sender opener

  module _ (w : W) (station air : ℕ) (sent : List ℕ) where
    -- AN RRC TEXT

    module _ (srb : Srb) (u : KeyUse Term) (e : Option (Ciphering Term)) (text : List ℕ) (packet : text ≡ rrc_spelling (RrcData sent)) where
      abbrev rrc : Dir → Outgoing Term ℕ
      rrc dir = SealedRrc dir station air srb u e text

      abbrev rrc_pdu : List ℕ
      rrc_pdu = srb_octets c u e text

      -- it opens under the keys of its receiver
      rrc_opens : (dir : Dir) (keys : AsKeys Term) → u.dir ≡ dir → RrcUnder keys srb u e
          → opener (OpensSrb (srb_use dir keys.rrc_int srb u.count) (Some (ciphering_by keys.algs.eea (srb_use dir keys.rrc_enc srb u.count)))) rrc_pdu
          (Some (rrc dir))
          ≡ Opened text
      rrc_opens dir keys way under =
          (λ j. opener (OpensSrb (srb_use (sym way j) keys.rrc_int srb u.count)
          (Some (ciphering_by keys.algs.eea (srb_use (sym way j) keys.rrc_enc srb u.count))))
          rrc_pdu (Some (rrc dir)))
          ∙ (λ j. opener (OpensSrb (sym under.0 j) (sym under.1 j)) rrc_pdu (Some (rrc dir)))
          ∙ back.srb u e rrc_pdu dir station air srb text

      rrc_to_phone : (radio : Radio Term ℕ) → w.phone.radio ≡ radio → Fits w (rrc Down) sent → ConnectedAt radio station air (InSrb srb u.count)
          → LineOf (arrives m w (Address.Phone station air (of_srb srb)) rrc_pdu (Some (rrc Down))).1 sent
      rrc_to_phone Idle is fits ready = absurd ready
      rrc_to_phone (Connecting waiting) is fits ready = absurd ready
      rrc_to_phone (Connected l) is fits ready =
          let (short, low, way, at) = fits in
          phone_rrc_opens same opener rrc_pdu (Some (rrc Down)) text sent w.phone l station air srb u.count is ready.0 ready.1
          (srb_counted c good _ u e text ready.2 low) (rrc_opens Down l.keys way (at l is ready.0 ready.1))
          (ap read_rrc packet ∙ rrc_is_read (RrcData sent) short)

      rrc_to_context : (s : Station Term ℕ) (o : Option (Context Term ℕ)) → station_of_id station w.stations ≡ Some s → s.context ≡ o
          → Fits w (rrc Up) sent → HasActive o air (InSrbOf srb u.count)
          → LineOf (turn_of m w station (AirPdu air (of_srb srb) rrc_pdu) (Some (rrc Up)) (Some s)).1 sent
      rrc_to_context s None here is fits ready = absurd ready
      rrc_to_context s (Some k) here is fits ready =
          let (short, low, way, at) = fits in
          station_rrc_opens same opener rrc_pdu (Some (rrc Up)) text sent s k air srb u.count is ready.0 ready.1
          (srb_counted c good _ u e text ready.2 low) (rrc_opens Up k.keys way (at s k here is ready.0))
          (ap read_rrc packet ∙ rrc_is_read (RrcData sent) short)

      rrc_to_station : (o : Option (Station Term ℕ)) → station_of_id station w.stations ≡ o → Fits w (rrc Up) sent → ActiveAt o air (InSrbOf srb u.count)
          → LineOf (turn_of m w station (AirPdu air (of_srb srb) rrc_pdu) (Some (rrc Up)) o).1 sent
      rrc_to_station None is fits ready = absurd ready
      rrc_to_station (Some s) is fits ready = rrc_to_context s s.context is refl fits ready

    -- A USER PACKET

    module _ (drb : Drb) (e : Ciphering Term) (text : List ℕ) (packet : text ≡ sent) where
      abbrev user : Dir → Outgoing Term ℕ
      user dir = UserPacket dir station air drb e text

      abbrev user_pdu : List ℕ
      user_pdu = drb_octets c e text

      user_opens : (dir : Dir) (keys : AsKeys Term) → e.under.dir ≡ dir → PacketUnder keys drb e
          → opener (OpensDrb (ciphering_by keys.algs.eea (drb_use dir keys.up_enc drb e.under.count))) user_pdu (Some (user dir)) ≡ Opened text
      user_opens dir keys way under =
          (λ j. opener (OpensDrb (ciphering_by keys.algs.eea (drb_use (sym way j) keys.up_enc drb e.under.count))) user_pdu (Some (user dir)))
          ∙ (λ j. opener (OpensDrb (sym under j)) user_pdu (Some (user dir)))
          ∙ back.drb e dir station air drb text

      packet_to_phone : (radio : Radio Term ℕ) → w.phone.radio ≡ radio → Fits w (user Down) sent → ConnectedAt radio station air (InDrb drb e.under.count)
          → LineOf (arrives m w (Address.Phone station air (of_drb drb)) user_pdu (Some (user Down))).1 sent
      packet_to_phone Idle is fits ready = absurd ready
      packet_to_phone (Connecting waiting) is fits ready = absurd ready
      packet_to_phone (Connected l) is fits ready =
          let (short, low, way, at) = fits in
          phone_packet_opens same opener user_pdu (Some (user Down)) text sent w.phone l station air drb e.under.count is ready.0 ready.1
          (drb_counted c _ e text ready.2 low) (user_opens Down l.keys way (at l is ready.0 ready.1)) packet short

      packet_to_context : (s : Station Term ℕ) (o : Option (Context Term ℕ)) → station_of_id station w.stations ≡ Some s → s.context ≡ o
          → Fits w (user Up) sent → HasActive o air (InDrbOf drb e.under.count)
          → LineOf (turn_of m w station (AirPdu air (of_drb drb) user_pdu) (Some (user Up)) (Some s)).1 sent
      packet_to_context s None here is fits ready = absurd ready
      packet_to_context s (Some k) here is fits ready =
          let (short, low, way, at) = fits in
          station_packet_opens same opener user_pdu (Some (user Up)) text sent s k air drb e.under.count is ready.0 ready.1
          (drb_counted c _ e text ready.2 low) (user_opens Up k.keys way (at s k here is ready.0)) packet short

      packet_to_station : (o : Option (Station Term ℕ)) → station_of_id station w.stations ≡ o → Fits w (user Up) sent
          → ActiveAt o air (InDrbOf drb e.under.count)
          → LineOf (turn_of m w station (AirPdu air (of_drb drb) user_pdu) (Some (user Up)) o).1 sent
      packet_to_station None is fits ready = absurd ready
      packet_to_station (Some s) is fits ready = packet_to_context s s.context is refl fits ready

  -- A NAS TEXT

  module _ (w : W) (header : ℕ) (u : KeyUse Term) (e : Option (Ciphering Term)) (text sent : List ℕ) (packet : text ≡ nas_spelling (NasData sent)) where
    abbrev nas : Dir → Outgoing Term ℕ
    nas dir = SealedNas dir header u e text

    abbrev nas_pdu : List ℕ
    nas_pdu = nas_octets c header u e text

    nas_opens : (dir : Dir) (keys : Keys Term) → u.dir ≡ dir → NasUnder keys u e
        → opener (OpensNas (nas_use dir keys.int u.count) (Some (ciphering_by keys.algs.eea (nas_use dir keys.enc u.count)))) nas_pdu (Some (nas dir))
        ≡ Opened text
    nas_opens dir keys way under =
        (λ j. opener (OpensNas (nas_use (sym way j) keys.int u.count) (Some (ciphering_by keys.algs.eea (nas_use (sym way j) keys.enc u.count)))) nas_pdu
        (Some (nas dir)))
        ∙ (λ j. opener (OpensNas (sym under.0 j) (sym under.1 j)) nas_pdu (Some (nas dir)))
        ∙ back.nas u e nas_pdu dir header text

    nas_to_phone : (o : Option (NasContext Term)) → w.phone.context ≡ o → Fits w (nas Down) sent → PhoneUses o u (InNas u.count)
        → LineOf (arrives m w Address.PhoneNas nas_pdu (Some (nas Down))).1 sent
    nas_to_phone None is fits ready = absurd ready
    nas_to_phone (Some k) is fits ready =
        let (first, sn, _, long) = nas_parts c good header u e text in
        let (short, low, way, type, at) = fits in
        phone_nas_opens same opener nas_pdu (Some (nas Down)) text sent w.phone k u.count is
        (header_down nas_pdu 39 long (first ∙ ap (λ h. 16 * h + 7) type) refl)
        (estimated k.receive _ u.count ready.1 sn low) (nas_opens Down k.keys way (at k is ready.0))
        (ap read_nas packet ∙ nas_is_read (NasData sent) short)

    nas_to_core : (o : Option (CoreContext Term)) → w.core.context ≡ o → Fits w (nas Up) sent → CoreUses o u (InNas u.count)
        → LineOf (arrives m w Address.CoreNas nas_pdu (Some (nas Up))).1 sent
    nas_to_core None is fits ready = absurd ready
    nas_to_core (Some k) is fits ready =
        let (first, sn, _, long) = nas_parts c good header u e text in
        let (short, low, way, type, at) = fits in
        core_nas_opens same opener nas_pdu (Some (nas Up)) text sent w.core k u.count is
        (header_up nas_pdu 39 long (first ∙ ap (λ h. 16 * h + 7) type) refl) long
        (estimated k.nas.receive _ u.count ready.1 sn low) (nas_opens Up k.nas.keys way (at k is ready.0))
        (ap read_nas packet ∙ nas_is_read (NasData sent) short)

  -- ANY PACKET

  delivered_opens : (w : W) (x : Outgoing Term ℕ) (sent : List ℕ) → IsPacket x sent → ReadyFor w x → Fits w x sent → LineOf (delivery m w (Some x)).1 sent
  delivered_opens w (UserPacket Down station air drb e text) sent packet ready fits =
      packet_to_phone w station air sent drb e text packet w.phone.radio refl fits ready
  delivered_opens w (UserPacket Up station air drb e text) sent packet ready fits =
      packet_to_station w station air sent drb e text packet (station_of_id station w.stations) refl fits ready
  delivered_opens w (SealedRrc Down station air srb u e text) sent packet ready fits =
      rrc_to_phone w station air sent srb u e text packet w.phone.radio refl fits ready
  delivered_opens w (SealedRrc Up station air srb u e text) sent packet ready fits =
      rrc_to_station w station air sent srb u e text packet (station_of_id station w.stations) refl fits ready
  delivered_opens w (SealedNas Down header u e text) sent packet ready fits = nas_to_phone w header u e text sent packet w.phone.context refl fits ready
  delivered_opens w (SealedNas Up header u e text) sent packet ready fits = nas_to_core w header u e text sent packet w.core.context refl fits ready
  delivered_opens w (PlainNas octets) sent packet ready fits = absurd packet
  delivered_opens w (Between to fields key) sent packet ready fits = absurd packet

  -- wherever the packets that were sent fit their receivers
  pub opens_where_fits : (w : W) → AllOf (λ x. (sent : List ℕ) → IsPacket x sent → Fits w x sent) w.sent → OpensToSent m w
  opens_where_fits w all i x sent is packet ready window =
      let fits = subst (OfSome (λ y. (sent : List ℕ) → IsPacket y sent → Fits w y sent)) is
      (all_chosen (λ y. (sent : List ℕ) → IsPacket y sent → Fits w y sent) i w.sent all) in
      let opens = delivered_opens w x sent packet (ready_for w x ready window) (fits sent packet) in
      (ap (λ o. (delivery m w o).1.answer) is ∙ opens.0, ap (λ o. (delivery m w o).1.opened) is ∙ opens.1)
