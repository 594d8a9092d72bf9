-- The steps at a PDU of a radio bearer, by what the code below opens.
use Rattle.std.proofs.Common.{◌≡◌, ℕ, ◌≤◌, Bool, true, false, cond, List, length, Some, None, Ok, Err, refl, ap, ◌∙◌, sym}
use Rattle.std.specs.Prelude.{◌==◌, Option, Result, option_map}
use Rattle.lte_events.specs.declared.answers.Answer.TheVariants.{MacFails, NotAddressed, NotActive}
use Rattle.lte_events.specs.{declared.replies.ActorOut.ActorOut, Reply.reply_of}
use Rattle.key_model.specs.Reading.{octet_reading}
use Rattle.rec_base.specs.{declared.bearers.Bearer.Bearer, declared.faults.RecFault.RecFault, declared.uses.Dir.TheVariants.Up, Bearer.IsDrb, Bearer.IsSrb}
use Rattle.rec_base.specs.declared.bearers.Bearer.TheVariants.{Srb1, Srb2, Drb1, Drb2, Drb3, Drb4}
use Rattle.ho_prep.specs.Prep.{Prep, map_prep, at_air}
use Rattle.lte_machine.specs.{Reply.unseen, Ciphers.annex_b, Refusals.of_pdcp, StationKeys.air_expects}
use Rattle.ho_prep.proofs.CarryFacts.{at_air-map}
use Rattle.rrc_rec.specs.{declared.records.RrcRecord.RrcRecord, Reading.read_rrc}
use Rattle.pdcp_guard.specs.{declared.pdus.PdcpOpened.PdcpOpened, declared.pdus.PdcpFault.PdcpFault, AsKeys.AsKeys}
use Rattle.pdcp_guard.specs.declared.pdus.PdcpFault as faults
use Rattle.pdcp_guard.specs.Srb.{srb_count, srb_opened, srb_opened_by, srb_opened_at}
use Rattle.pdcp_guard.specs.Drb.{drb_count, drb_opened, drb_opened_by, drb_opened_at}
use Rattle.pdcp_guard.proofs.SrbFacts.{long_enough}
use Rattle.lte_machine.specs.Bearers.{Which, which, Signalling1, Signalling2, OnSrb, OnDrb, srb_counts, drb_counts}
use Rattle.lte_machine.specs.Opening.{Outcome, Opened, Differs, OpensSrb, OpensDrb, open_octets, accepted_of}
use Rattle.lte_machine.specs.Wire.{ciphering_if, srb_ciphering, drb_ciphering}
use Rattle.lte_machine.specs.StationState.{Station, Context, AirPdu, map_preps, map_context}
use Rattle.lte_machine.specs.StationRows.{AirRow, AirRefused, PacketOpened}
use Rattle.lte_machine.specs.StationChoice.{AirFront, air_front_by, prepared_front, AirSettled, OnSignalling, OnStarting, OnPrepared, OnUser, counted, air_front, air_row, rrc_row, starting_row, prepared_row, user_text}
use Rattle.radio_bearers.specs.Bearers.{srb_of, drb_of, is_first}
use Rattle.enb_context.specs.Preps.{IsElsewhere}
use Rattle.enb_context.specs.Step.{answered, serving, seen_plain, by_air, from_phone}
use Rattle.radio_bearers.proofs.Sealing.{srb_opened_is, drb_opened_is, outcome_of}

-- what a front leads to
abbrev pub by_front : Station (List ℕ) ℕ → List ℕ → AirFront → Station (List ℕ) ℕ × ActorOut
by_front s pdu front =
    let o = open_octets annex_b (air_expects front s) pdu in
    by_air s (accepted_of (air_expects front s) o) (air_row (seen_plain s) front o)

pub fronted : (s : Station (List ℕ) ℕ) (air : ℕ) (bearer : Bearer) (pdu : List ℕ) (front : AirFront)
    → air_front (seen_plain s) air (which bearer) pdu ≡ front → answered s (AirPdu air bearer pdu) ≡ by_front s pdu front
fronted s air bearer pdu front e = ap (by_front s pdu) e

-- what was opened on an SRB
abbrev pub by_opened : Station (List ℕ) ℕ
    → AsKeys (List ℕ)
    → Bearer
    → (ℕ → Result RrcRecord RecFault → AirRow)
    → Result PdcpOpened PdcpFault
    → Station (List ℕ) ℕ × ActorOut
by_opened s keys bearer row (Err fault) = (s, reply_of (of_pdcp fault))
by_opened s keys bearer row (Ok o) = by_air s (Some (from_phone keys bearer o.count)) (row o.count (read_rrc o.text))

-- a PDU of an SRB at some front
module _ (s : Station (List ℕ) ℕ) (keys : AsKeys (List ℕ)) (cipher : Bool) (bearer : Bearer) (pdu : List ℕ) (is : IsSrb bearer)
    (front : ℕ → AirFront) (row : ℕ → Result RrcRecord RecFault → AirRow)
    (expects : (count : ℕ)
    → air_expects (front count) s
    ≡ OpensSrb (from_phone keys bearer count) (ciphering_if cipher (srb_ciphering Up keys (srb_of bearer) count)))
    (differs : (count : ℕ) (w g : List ℕ) → air_row (seen_plain s) (front count) (Differs w g) ≡ AirRefused (MacFails count w g))
    (opens : (count : ℕ) (text : List ℕ) → air_row (seen_plain s) (front count) (Opened text) ≡ row count (read_rrc text)) where
  -- by the outcome
  at_outcome : ℕ → Outcome → Station (List ℕ) ℕ × ActorOut
  at_outcome count o =
      by_air s (accepted_of (OpensSrb (from_phone keys bearer count) (ciphering_if cipher (srb_ciphering Up keys (srb_of bearer) count))) o)
      (air_row (seen_plain s) (front count) o)

  shaped : (count : ℕ) (b : Bool) (w g text : List ℕ) (x : Result PdcpOpened PdcpFault)
      → x ≡ cond b (Ok (record { count = count; text = text })) (Err (faults.TheVariants.MacFails count w g))
      → at_outcome count (outcome_of x) ≡ by_opened s keys bearer row x
  unfolding at_outcome
  shaped count true w g text x e = rw e (ap (by_air s (Some (from_phone keys bearer count))) (opens count text))
  shaped count false w g text x e = rw e (ap (by_air s None) (differs count w g))

  at_count : (count : ℕ) → 1 ≤ length pdu → by_front s pdu (front count) ≡ by_opened s keys bearer row (srb_opened_at keys cipher bearer count Up pdu)
  unfolding at_outcome srb_opened_at
  at_count count long =
      ap (λ x. let o = open_octets annex_b x pdu in by_air s (accepted_of x o) (air_row (seen_plain s) (front count) o)) (expects count)
      ∙ ap (at_outcome count) (srb_opened_is keys cipher bearer count Up pdu is long)
      ∙ shaped count _ _ _ _ (srb_opened_at keys cipher bearer count Up pdu) refl

  pub opened_at_front : (next : ℕ)
      → by_front s pdu (counted front (srb_count next pdu))
      ≡ by_opened s keys bearer row (srb_opened keys cipher bearer next Up pdu)
  opened_at_front next = by_count (srb_count next pdu) refl
    where
      by_count : (n : Result ℕ PdcpFault)
          → srb_count next pdu ≡ n
          → by_front s pdu (counted front n) ≡ by_opened s keys bearer row (srb_opened_by keys cipher bearer Up pdu n)
      by_count (Err fault) e = refl
      by_count (Ok count) e = at_count count (long_enough next pdu count e)

-- on an SRB of an active context
pub at_srb : (s : Station (List ℕ) ℕ) (c : Context (List ℕ) ℕ) (air : ℕ) (bearer : Bearer) (pdu : List ℕ)
    → (c.air == air) ≡ true → c.starting ≡ false → which bearer ≡ OnSrb (srb_of bearer) → IsSrb bearer
    → answered (serving s c) (AirPdu air bearer pdu)
    ≡ by_opened (serving s c) c.keys bearer (rrc_row (srb_of bearer)) (srb_opened c.keys true bearer (srb_counts (srb_of bearer) c.bearers).receive Up pdu)
at_srb s c air bearer pdu here active on is =
    fronted (serving s c) air bearer pdu
    (counted (OnSignalling (srb_of bearer)) (srb_count (srb_counts (srb_of bearer) c.bearers).receive pdu))
    (rw (here, on, active) refl)
    ∙ opened_at_front (serving s c) c.keys true bearer pdu is (OnSignalling (srb_of bearer)) (rrc_row (srb_of bearer))
    (λ count. refl) (λ count w g. refl) (λ count text. refl) (srb_counts (srb_of bearer) c.bearers).receive

-- while security starts
pub at_starting : (s : Station (List ℕ) ℕ) (c : Context (List ℕ) ℕ) (air : ℕ) (pdu : List ℕ)
    → (c.air == air) ≡ true → c.starting ≡ true
    → answered (serving s c) (AirPdu air Srb1 pdu)
    ≡ by_opened (serving s c) c.keys Srb1 starting_row (srb_opened c.keys false Srb1 c.bearers.srb1.receive Up pdu)
at_starting s c air pdu here starting =
    fronted (serving s c) air Srb1 pdu (counted OnStarting (srb_count c.bearers.srb1.receive pdu)) (rw (here, starting) refl)
    ∙ opened_at_front (serving s c) c.keys false Srb1 pdu tt OnStarting starting_row
    (λ count. refl) (λ count w g. refl) (λ count text. refl) c.bearers.srb1.receive

-- on a DRB of an active context
abbrev pub by_packet : Station (List ℕ) ℕ → Bearer → Result PdcpOpened PdcpFault → Station (List ℕ) ℕ × ActorOut
by_packet s bearer (Err fault) = (s, reply_of (of_pdcp fault))
by_packet s bearer (Ok o) = by_air s None (PacketOpened (drb_of bearer) o.count (user_text o.text))

pub at_drb : (s : Station (List ℕ) ℕ) (c : Context (List ℕ) ℕ) (air : ℕ) (bearer : Bearer) (pdu : List ℕ)
    → (c.air == air) ≡ true → c.starting ≡ false → which bearer ≡ OnDrb (drb_of bearer) → IsDrb bearer
    → answered (serving s c) (AirPdu air bearer pdu)
    ≡ by_packet (serving s c) bearer (drb_opened c.keys bearer (drb_counts (drb_of bearer) c.bearers).receive Up pdu)
unfolding drb_opened_at
at_drb s c air bearer pdu here active on is =
    fronted (serving s c) air bearer pdu
    (counted (OnUser (drb_of bearer)) (drb_count (drb_counts (drb_of bearer) c.bearers).receive pdu))
    (rw (here, on, active) refl)
    ∙ by_count (drb_count (drb_counts (drb_of bearer) c.bearers).receive pdu)
  where
    at_count : (count : ℕ) (o : PdcpOpened) → o ≡ drb_opened_at c.keys bearer count Up pdu
        → by_front (serving s c) pdu (OnUser (drb_of bearer) count) ≡ by_packet (serving s c) bearer (Ok o)
    at_count count o e =
        ap (λ x. by_air (serving s c) (accepted_of (OpensDrb (drb_ciphering Up c.keys (drb_of bearer) count)) x)
        (air_row (seen_plain (serving s c)) (OnUser (drb_of bearer) count) x))
        (drb_opened_is c.keys bearer count Up pdu is)
        ∙ rw e refl

    by_count : (n : Result ℕ PdcpFault)
        → by_front (serving s c) pdu (counted (OnUser (drb_of bearer)) n)
        ≡ by_packet (serving s c) bearer (drb_opened_by c.keys bearer Up pdu n)
    by_count (Err fault) = refl
    by_count (Ok count) = at_count count _ refl

-- at the air address of a preparation
pub at_prep : (s : Station (List ℕ) ℕ) (p : Prep (List ℕ) ℕ) (air : ℕ) (pdu : List ℕ)
    → IsElsewhere air s.context → at_air air s.preps ≡ Some p
    → answered s (AirPdu air Srb1 pdu)
    ≡ by_opened s p.keys Srb1 (λ count. prepared_row s.next air count p.by) (srb_opened p.keys true Srb1 0 Up pdu)
at_prep s p air pdu elsewhere found =
    fronted s air Srb1 pdu (counted (OnPrepared air p.by) (srb_count 0 pdu)) (at_context s.context elsewhere)
    ∙ opened_at_front s p.keys true Srb1 pdu tt (OnPrepared air p.by) (λ count. prepared_row s.next air count p.by)
    (λ count. rw found refl) (λ count w g. refl) (λ count text. refl) 0
  where
    prep_front : at_air air (map_preps unseen octet_reading.ncc s.preps) ≡ Some (map_prep unseen octet_reading.ncc p)
    prep_front = at_air-map unseen octet_reading.ncc air s.preps ∙ ap (option_map (map_prep unseen octet_reading.ncc)) found

    at_context : (o : Option (Context (List ℕ) ℕ)) → IsElsewhere air o
        → air_front_by (option_map (map_context unseen octet_reading.ncc) o)
        (at_air air (map_preps unseen octet_reading.ncc s.preps)) air (OnSrb Signalling1) pdu
        ≡ counted (OnPrepared air p.by) (srb_count 0 pdu)
    at_context None h = rw prep_front refl
    at_context (Some c) h = rw (h, prep_front) refl

-- the same, as the code returns it
pub srb_refused : (s : Station (List ℕ) ℕ) (c : Context (List ℕ) ℕ) (air : ℕ) (bearer : Bearer) (pdu : List ℕ) (fault : PdcpFault) (out : ActorOut)
    → (c.air == air) ≡ true → c.starting ≡ false → which bearer ≡ OnSrb (srb_of bearer) → IsSrb bearer
    → srb_opened c.keys true bearer (srb_counts (srb_of bearer) c.bearers).receive Up pdu ≡ Err fault → out ≡ reply_of (of_pdcp fault)
    → (serving s c, out) ≡ answered (serving s c) (AirPdu air bearer pdu)
srb_refused s c air bearer pdu fault out here active on is e told =
    ap (λ x. (serving s c, x)) told ∙ sym (at_srb s c air bearer pdu here active on is ∙ ap (by_opened (serving s c) c.keys bearer (rrc_row (srb_of bearer))) e)

pub srb_taken_so : (s : Station (List ℕ) ℕ) (c : Context (List ℕ) ℕ) (air : ℕ) (bearer : Bearer) (pdu : List ℕ)
    (o : PdcpOpened) (done : Station (List ℕ) ℕ × ActorOut)
    → (c.air == air) ≡ true → c.starting ≡ false → which bearer ≡ OnSrb (srb_of bearer) → IsSrb bearer
    → srb_opened c.keys true bearer (srb_counts (srb_of bearer) c.bearers).receive Up pdu ≡ Ok o
    → done ≡ by_air (serving s c) (Some (from_phone c.keys bearer o.count)) (rrc_row (srb_of bearer) o.count (read_rrc o.text))
    → done ≡ answered (serving s c) (AirPdu air bearer pdu)
srb_taken_so s c air bearer pdu o done here active on is e told =
    told ∙ sym (at_srb s c air bearer pdu here active on is ∙ ap (by_opened (serving s c) c.keys bearer (rrc_row (srb_of bearer))) e)

pub starting_refused : (s : Station (List ℕ) ℕ) (c : Context (List ℕ) ℕ) (air : ℕ) (pdu : List ℕ) (fault : PdcpFault) (out : ActorOut)
    → (c.air == air) ≡ true → c.starting ≡ true
    → srb_opened c.keys false Srb1 c.bearers.srb1.receive Up pdu ≡ Err fault → out ≡ reply_of (of_pdcp fault)
    → (serving s c, out) ≡ answered (serving s c) (AirPdu air Srb1 pdu)
starting_refused s c air pdu fault out here starting e told =
    ap (λ x. (serving s c, x)) told ∙ sym (at_starting s c air pdu here starting ∙ ap (by_opened (serving s c) c.keys Srb1 starting_row) e)

pub starting_taken_so : (s : Station (List ℕ) ℕ) (c : Context (List ℕ) ℕ) (air : ℕ) (pdu : List ℕ) (o : PdcpOpened) (done : Station (List ℕ) ℕ × ActorOut)
    → (c.air == air) ≡ true → c.starting ≡ true
    → srb_opened c.keys false Srb1 c.bearers.srb1.receive Up pdu ≡ Ok o
    → done ≡ by_air (serving s c) (Some (from_phone c.keys Srb1 o.count)) (starting_row o.count (read_rrc o.text))
    → done ≡ answered (serving s c) (AirPdu air Srb1 pdu)
starting_taken_so s c air pdu o done here starting e told =
    told ∙ sym (at_starting s c air pdu here starting ∙ ap (by_opened (serving s c) c.keys Srb1 starting_row) e)

pub drb_taken_so : (s : Station (List ℕ) ℕ) (c : Context (List ℕ) ℕ) (air : ℕ) (bearer : Bearer) (pdu : List ℕ)
    (o : PdcpOpened) (done : Station (List ℕ) ℕ × ActorOut)
    → (c.air == air) ≡ true → c.starting ≡ false → which bearer ≡ OnDrb (drb_of bearer) → IsDrb bearer
    → drb_opened c.keys bearer (drb_counts (drb_of bearer) c.bearers).receive Up pdu ≡ Ok o
    → done ≡ by_air (serving s c) None (PacketOpened (drb_of bearer) o.count (user_text o.text))
    → done ≡ answered (serving s c) (AirPdu air bearer pdu)
drb_taken_so s c air bearer pdu o done here active on is e told =
    told ∙ sym (at_drb s c air bearer pdu here active on is ∙ ap (by_packet (serving s c) bearer) e)

pub prep_refused : (s : Station (List ℕ) ℕ) (p : Prep (List ℕ) ℕ) (air : ℕ) (pdu : List ℕ) (fault : PdcpFault) (out : ActorOut)
    → IsElsewhere air s.context → at_air air s.preps ≡ Some p
    → srb_opened p.keys true Srb1 0 Up pdu ≡ Err fault → out ≡ reply_of (of_pdcp fault)
    → (s, out) ≡ answered s (AirPdu air Srb1 pdu)
prep_refused s p air pdu fault out elsewhere found e told =
    ap (λ x. (s, x)) told ∙ sym (at_prep s p air pdu elsewhere found ∙ ap (by_opened s p.keys Srb1 (λ count. prepared_row s.next air count p.by)) e)

pub prep_taken_so : (s : Station (List ℕ) ℕ) (p : Prep (List ℕ) ℕ) (air : ℕ) (pdu : List ℕ) (o : PdcpOpened) (done : Station (List ℕ) ℕ × ActorOut)
    → IsElsewhere air s.context → at_air air s.preps ≡ Some p
    → srb_opened p.keys true Srb1 0 Up pdu ≡ Ok o
    → done ≡ by_air s (Some (from_phone p.keys Srb1 o.count)) (prepared_row s.next air o.count p.by (read_rrc o.text))
    → done ≡ answered s (AirPdu air Srb1 pdu)
prep_taken_so s p air pdu o done elsewhere found e told =
    told ∙ sym (at_prep s p air pdu elsewhere found ∙ ap (by_opened s p.keys Srb1 (λ count. prepared_row s.next air count p.by)) e)

pub prep_absent : (s : Station (List ℕ) ℕ) (air : ℕ) (bearer : Bearer) (pdu : List ℕ) (out : ActorOut)
    → IsElsewhere air s.context → at_air air s.preps ≡ None → out ≡ reply_of NotAddressed → (s, out) ≡ answered s (AirPdu air bearer pdu)
prep_absent s air bearer pdu out elsewhere none told =
    ap (λ x. (s, x)) told ∙ sym (fronted s air bearer pdu (AirSettled (AirRefused NotAddressed)) (at_context s.context elsewhere))
  where
    prep_front : at_air air (map_preps unseen octet_reading.ncc s.preps) ≡ None
    prep_front = at_air-map unseen octet_reading.ncc air s.preps ∙ ap (option_map (map_prep unseen octet_reading.ncc)) none

    at_context : (o : Option (Context (List ℕ) ℕ)) → IsElsewhere air o
        → air_front_by (option_map (map_context unseen octet_reading.ncc) o) (at_air air (map_preps unseen octet_reading.ncc s.preps)) air (which bearer) pdu
        ≡ AirSettled (AirRefused NotAddressed)
    at_context None h = rw prep_front refl
    at_context (Some c) h = rw (h, prep_front) refl

pub prep_other : (s : Station (List ℕ) ℕ) (p : Prep (List ℕ) ℕ) (air : ℕ) (bearer : Bearer) (pdu : List ℕ) (out : ActorOut)
    → IsElsewhere air s.context
    → at_air air s.preps ≡ Some p
    → is_first (which bearer) ≡ false
    → out ≡ reply_of NotActive
    → (s, out) ≡ answered s (AirPdu air bearer pdu)
prep_other s p air bearer pdu out elsewhere found other told =
    ap (λ x. (s, x)) told ∙ sym (fronted s air bearer pdu (AirSettled (AirRefused NotActive)) (at_context s.context elsewhere))
  where
    prep_front : at_air air (map_preps unseen octet_reading.ncc s.preps) ≡ Some (map_prep unseen octet_reading.ncc p)
    prep_front = at_air-map unseen octet_reading.ncc air s.preps ∙ ap (option_map (map_prep unseen octet_reading.ncc)) found

    settled : (on : Which) → is_first on ≡ false → prepared_front (Some (map_prep unseen octet_reading.ncc p)) air on pdu ≡ AirSettled (AirRefused NotActive)
    settled (OnSrb Signalling1) h = cc
    settled (OnSrb Signalling2) h = refl
    settled (OnDrb drb) h = refl

    at_context : (o : Option (Context (List ℕ) ℕ)) → IsElsewhere air o
        → air_front_by (option_map (map_context unseen octet_reading.ncc) o) (at_air air (map_preps unseen octet_reading.ncc s.preps)) air (which bearer) pdu
        ≡ AirSettled (AirRefused NotActive)
    at_context None h = rw prep_front (settled (which bearer) other)
    at_context (Some c) h = rw (h, prep_front) (settled (which bearer) other)

pub first_is : (bearer : Bearer) → is_first (which bearer) ≡ true → bearer ≡ Srb1
first_is Srb1 h = refl
first_is Srb2 h = cc
first_is Drb1 h = cc
first_is Drb2 h = cc
first_is Drb3 h = cc
first_is Drb4 h = cc
