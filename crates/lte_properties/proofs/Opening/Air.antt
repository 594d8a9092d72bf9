-- The keys of packets on the air: those that the phone takes at the packet's station and air address.
use Rattle.std.proofs.Common.{◌≡◌, ℕ, ◌≤◌, ◌<◌, Bool, List, length, drop, Option, Some, None, refl, ap, sym, subst, ◌∙◌, arith}
use Rattle.std.specs.Prelude.{⊤, slice_index}
use Rattle.rec_base.specs.declared.uses.Dir.{Dir}
use Rattle.lte_events.specs.{Ranges.IsPhoneAct, declared.acts.PhoneAct.PhoneAct}
use Rattle.key_model.specs.{HandoverTable.NumberedKey, Term.Term, Reading.Reading, Reading.term_reading_by}
use Rattle.pdcp_guard.specs.{Counts.count_limit, AsKeys.AsKeys}
use Rattle.rrc_rec.specs.{declared.records.RrcRecord.RrcRecord, Spelling.spelling_of}
use Rattle.rrc_rec.specs.declared.records.RrcRecord.TheVariants.{SecurityModeCommand, SecurityModeComplete, Reconfiguration, ReconfigurationComplete, RrcData, KeyChange}
use Rattle.lte_machine.proofs.PhoneCases as at_phone
use Rattle.lte_machine.proofs.StationCases.{Any, record_case, air_case, act_case}
use Rattle.lte_machine.specs.Bearers.{Srb, Drb, srb_counts, drb_counts}
use Rattle.lte_machine.specs.Wire.{KeyUse, Ciphering, Outgoing, SealedNas, SealedRrc, UserPacket}
use Rattle.lte_machine.specs.Reply.{Origin, Made, Reply}
use Rattle.lte_machine.specs.PhoneState.{Radio, Idle, Connecting, Connected, Phone}
use Rattle.lte_machine.specs.PhoneRows as phone
use Rattle.lte_machine.specs.{PhoneRows.PhoneRow, PhoneKeys.PhoneDone, PhoneKeys.phone_does, StationRecords.order_record, StationRows.StationRow, StationKeys.station_does}
use Rattle.lte_machine.specs.PhoneKeys as phone_keys
use Rattle.lte_machine.specs.StationState.{Station, Context, Via, Renewing}
use Rattle.x2_handover.specs.declared.orders.Order.{Order}
use Rattle.lte_machine.specs.StationRows as station
use Rattle.lte_machine.specs.StationRecords as station_records
use Rattle.lte_machine.proofs.PhoneActFacts.{SendsPacket, SendsRrc, ByAct}
use Rattle.lte_machine.proofs.Tests.{Anything, above_of}
use Rattle.lte_properties.specs.Agreement.{made_at}
use Rattle.lte_properties.proofs.Agreement.Ghost.{Ghost, keys_of, FromIs, RadioOk, CtxOk}
use Rattle.lte_properties.proofs.Agreement.Later.{Later, same_found, from_later}
use Rattle.lte_properties.proofs.{Agreement.Holds.one_here, Opening.Delivered.RrcUnder, Opening.Delivered.PacketUnder}

-- these are the AS keys of what the phone takes at a station and air address, for the algorithms of what was made there
abbrev pub KeysAre : Ghost → ℕ → ℕ → AsKeys Term → Type 0
KeysAre g id air keys = record {
  made : Made Term ℕ;
  kenb : Term;
  found : made_at g.made id air ≡ Some made;
  from : FromIs g made kenb made.from;
  keys : keys ≡ keys_of kenb made.algs;
}

-- at one address they are the same
pub one_keys : (g : Ghost) (id air : ℕ) (a b : AsKeys Term) → KeysAre g id air a → KeysAre g id air b → a ≡ b
one_keys g id air a b h k =
    let made : h.made ≡ k.made = same_found _ h.made k.made h.found k.found in
    let kenb : h.kenb ≡ k.kenb = one_here g id air h.kenb k.kenb (h.made, h.found, h.from) (k.made, k.found, k.from) in
    h.keys ∙ (λ j. keys_of (kenb j) (made j).algs) ∙ sym k.keys

pub keys_later : (g h : Ghost) → Later g h → (id air : ℕ) (keys : AsKeys Term) → KeysAre g id air keys → KeysAre h id air keys
keys_later g h l id air keys k = search (l.made, from_later)

-- an RRC text of data, and a user packet
abbrev pub RrcSealed : Ghost → Dir → ℕ → ℕ → Srb → KeyUse Term → Option (Ciphering Term) → List ℕ → Type 0
RrcSealed g dir id air srb u e text =
    (sent : List ℕ) → text ≡ spelling_of (RrcData sent)
    → record {
      short : length sent ≤ 200;
      count : u.count < count_limit;
      dir : u.dir ≡ dir;
      keys : AsKeys Term;
      are : KeysAre g id air keys;
      under : RrcUnder keys srb u e;
    }

abbrev pub PacketSealed : Ghost → Dir → ℕ → ℕ → Drb → Ciphering Term → List ℕ → Type 0
PacketSealed g dir id air drb e text = record {
  short : length text ≤ 1500;
  count : e.under.count < count_limit;
  dir : e.under.dir ≡ dir;
  keys : AsKeys Term;
  are : KeysAre g id air keys;
  under : PacketUnder keys drb e;
}

abbrev pub AirOk : Ghost → Outgoing Term ℕ → Type 0
AirOk g (SealedRrc dir id air srb u e text) = RrcSealed g dir id air srb u e text
AirOk g (UserPacket dir id air drb e text) = PacketSealed g dir id air drb e text
AirOk g other = ⊤

pub air_later : (g h : Ghost) → Later g h → (x : Outgoing Term ℕ) → AirOk g x → AirOk h x
air_later g h l (SealedRrc dir id air srb u e text) k = λ sent is. let f = k sent is in search (keys_later)
air_later g h l (UserPacket dir id air drb e text) k = search (keys_later)
air_later g h l other k = tt

-- the keys of a connected phone, and of a context
abbrev pub RadioKeys : Ghost → Radio Term ℕ → Type 0
RadioKeys g Idle = ⊤
RadioKeys g (Connecting w) = ⊤
RadioKeys g (Connected l) = KeysAre g l.station l.air l.keys

abbrev pub ContextKeys : Ghost → ℕ → Option (Context Term ℕ) → Type 0
ContextKeys g id None = ⊤
ContextKeys g id (Some c) = KeysAre g id c.air c.keys

pub radio_keys : (g : Ghost) (radio : Radio Term ℕ) → RadioOk g radio → RadioKeys g radio
radio_keys g Idle h = tt
radio_keys g (Connecting w) h = tt
radio_keys g (Connected l) h = record {
  made = h.made;
  kenb = l.kenb;
  found = h.found;
  from = h.from;
  keys = h.keys ∙ ap (keys_of l.kenb) h.algs;
}

pub context_keys : (g : Ghost) (id : ℕ) (o : Option (Context Term ℕ)) → CtxOk g id o → ContextKeys g id o
context_keys g id None h = tt
context_keys g id (Some c) h = let e = h.entry in
    record { made = e.made; kenb = c.key.kenb; found = e.found; from = e.from; keys = h.keys ∙ ap (keys_of c.key.kenb) e.is.2 }

-- TEXTS

-- a text of data is no other text, and has its data
data_in : (a b : List ℕ) → spelling_of (RrcData a) ≡ spelling_of (RrcData b) → a ≡ b
unfolding spelling_of
data_in a b e = ap (drop 1) e

abbrev first : List ℕ → ℕ
first t = slice_index t 0

abbrev NoData : RrcRecord → Type 0
NoData (RrcData text) = ⊥
NoData other = ⊤

no_data : (x : RrcRecord) → NoData x → (sent : List ℕ) → spelling_of x ≡ spelling_of (RrcData sent) → ⊥
unfolding spelling_of
no_data (SecurityModeCommand algs id air) h sent e = let kind : 1 ≡ 5 = ap first e in absurd (omega (arith, kind))
no_data SecurityModeComplete h sent e = let kind : 2 ≡ 5 = ap first e in absurd (omega (arith, kind))
no_data (Reconfiguration cell ncc algs id air) h sent e = let kind : 3 ≡ 5 = ap first e in absurd (omega (arith, kind))
no_data ReconfigurationComplete h sent e = let kind : 4 ≡ 5 = ap first e in absurd (omega (arith, kind))
no_data (KeyChange cell algs id air) h sent e = let kind : 6 ≡ 5 = ap first e in absurd (omega (arith, kind))
no_data (RrcData text) h sent e = absurd h

order_no_data : (via : Via) (order : Order) → NoData (order_record via order)
order_no_data Renewing order = tt
order_no_data other order = tt

-- WHAT A STATION SENDS

-- nothing on NAS, and on the air what is sealed under the keys of its context
abbrev pub FromStation : Ghost → Option (Outgoing Term ℕ) → Type 0
FromStation g None = ⊤
FromStation g (Some (SealedNas dir header u e text)) = ⊥
FromStation g (Some x) = AirOk g x

-- what a row needs: a COUNT that is left, and data in their range
abbrev pub SendNeeds : station.ActRow → Type 0
SendNeeds (station.PacketSent drb count text) = (count < count_limit) × (length text ≤ 1500)
SendNeeds (station.RrcSent srb count text) = (count < count_limit) × (length text ≤ 200)
SendNeeds other = ⊤

abbrev pub StationNeeds : StationRow → Type 0
StationNeeds (station.OfAct row) = SendNeeds row
StationNeeds other = ⊤

module _ (same : Term → Term → Bool) (g : Ghost) where
  abbrev r : Reading Term ℕ
  r = term_reading_by same

  source_sends : (conn : ℕ) (origin : Option Origin) → FromStation g (station_records.source_release conn origin)
  source_sends conn None = tt
  source_sends conn (Some o) = tt

  module _ (s : Station Term ℕ) (keys : ContextKeys g s.id s.context) where
    abbrev Sends : Station Term ℕ × Reply Term ℕ → Type 0
    Sends d = FromStation g d.1.sent

    -- any row of a station
    pub station_sends : (row : StationRow) (key : Option (NumberedKey Term ℕ)) → StationNeeds row → Sends (station_does r row key s)
    station_sends (station.OfRecord row) key needs =
        record_case r s Sends Anything
        (record {
          nothing = λ answer. tt;
          given = λ conn cell caps algs air kenb k. λ sent x. absurd (no_data (SecurityModeCommand algs s.id air) tt sent x);
          released = λ key k. tt;
          taken = λ conn origin pair k. source_sends conn origin;
          by_s1 = λ w pair k. tt;
          by_x2 = λ w star k. tt;
          answered = λ order key k. tt;
          cancelled = λ from key k. tt;
          left = λ key k. tt;
          renewed = λ conn number air count c e kenb k. λ sent x. absurd (no_data (KeyChange c.cell c.algs s.id air) tt sent x);
        })
        row key tt
    station_sends (station.OfAir row) key needs =
        air_case r s Sends Any
        (record {
          nothing = λ answer. tt;
          secured = λ count k. tt;
          opened = λ srb count text k. tt;
          packet = λ drb count text k. tt;
          by_s1 = λ at count k p e. tt;
          within = λ at count origin k p e. tt;
          by_x2 = λ at count number k p e. tt;
        })
        row tt
    station_sends (station.OfAct row) key needs =
        act_case r s Sends SendNeeds
        (record {
          nothing = λ answer. tt;
          by_x2 = λ number target cell k c e. tt;
          by_s1 = λ number target cell k c e. tt;
          within = λ number air cell k c e. tt;
          commanded = λ via order count k c e. λ sent x. absurd (no_data (order_record via order) (order_no_data via order) sent x);
          cancelled_x2 = λ conn number target k. tt;
          cancelled_s1 = λ conn number cell k. tt;
          cancelled_within = λ number k. tt;
          asked = λ number k c e. tt;
          packet = λ drb count text k c e.
              record { short = k.1; count = k.0; dir = refl; keys = c.keys; are = subst (ContextKeys g s.id) e keys; under = refl };
          text = λ srb count text k c e. λ sent x. record {
            short = subst (λ t. length t ≤ 200) (data_in text sent x) k.1;
            count = k.0;
            dir = refl;
            keys = c.keys;
            are = subst (ContextKeys g s.id) e keys;
            under = (refl, refl);
          };
          skipped = λ on n k. tt;
        })
        row needs

  -- WHAT THE PHONE SENDS

  abbrev pub FromPhone : Option (Outgoing Term ℕ) → Type 0
  FromPhone None = ⊤
  FromPhone (Some x) = AirOk g x

  abbrev pub PacketNeeds : Drb → List ℕ → Radio Term ℕ → Type 0
  PacketNeeds drb text Idle = ⊤
  PacketNeeds drb text (Connecting w) = ⊤
  PacketNeeds drb text (Connected l) = ((drb_counts drb l.bearers).send < count_limit) × (length text ≤ 1500)

  abbrev pub RrcNeeds : Srb → List ℕ → Radio Term ℕ → Type 0
  RrcNeeds srb text Idle = ⊤
  RrcNeeds srb text (Connecting w) = ⊤
  RrcNeeds srb text (Connected l) = ((srb_counts srb l.bearers).send < count_limit) × (length text ≤ 200)

  packet_needs : (s : Phone Term ℕ) (act : PhoneAct) (drb : Drb) (text : List ℕ) → SendsPacket s act drb text → IsPhoneAct act → PacketNeeds drb text s.radio
  packet_needs s act drb text f is =
      subst (PacketNeeds drb text) (sym f.connected) (above_of count_limit (drb_counts drb f.link.bearers).send f.left, (subst IsPhoneAct f.act_is is).1)

  rrc_needs : (s : Phone Term ℕ) (act : PhoneAct) (srb : Srb) (text : List ℕ) → SendsRrc s act srb text → IsPhoneAct act → RrcNeeds srb text s.radio
  rrc_needs s act srb text f is =
      subst (RrcNeeds srb text) (sym f.connected) (above_of count_limit (srb_counts srb f.link.bearers).send f.left, (subst IsPhoneAct f.act_is is).1)

  abbrev pub PhoneNeeds : Phone Term ℕ → PhoneRow → Type 0
  PhoneNeeds s (phone.OfAct row) = ByAct s row
  PhoneNeeds s other = ⊤

  auth_from : (row : phone.AuthRow) (root : Option Term) (s : Phone Term ℕ) → FromPhone (phone_keys.auth_does row root s).1.sent
  auth_from (phone.Authenticated ksi) None s = tt
  auth_from (phone.Authenticated ksi) (Some root) s = tt

  -- of a phone whose connection has its keys
  abbrev PhoneSends : Phone Term ℕ → PhoneDone Term ℕ → Type 0
  PhoneSends s d = RadioKeys g s.radio → FromPhone d.1.sent

  nas_from : (s : Phone Term ℕ) → at_phone.NasCases r Anything PhoneSends s
  nas_from s = record {
    nothing = λ t answer keys. tt;
    rejected = λ answer cause k keys. tt;
    rejected_under = λ answer cause c k keys. tt;
    taken = λ algs count p k keys. tt;
    taken_connected = λ algs count p k keys. tt;
    opened = λ count text c k keys. tt;
  }

  air_from : (s : Phone Term ℕ) → at_phone.AirCases r Anything PhoneSends s
  air_from s = record {
    nothing = λ t answer keys. tt;
    secured = λ id air algs count w k keys. λ sent e. absurd (no_data SecurityModeComplete tt sent e);
    handed_over = λ cell steps algs id air l k keys. λ sent e. absurd (no_data ReconfigurationComplete tt sent e);
    changed = λ cell algs id air l c f k keys. λ sent e. absurd (no_data ReconfigurationComplete tt sent e);
    rrc = λ srb count text l k keys. tt;
    packet = λ drb count text l k keys. tt;
  }

  act_from : (s : Phone Term ℕ) → at_phone.ActCases r ByAct PhoneSends s
  act_from s = record {
    nothing = λ t answer keys. tt;
    requested = λ c k keys. tt;
    resent = λ l k keys. λ sent e. absurd (no_data ReconfigurationComplete tt sent e);
    idle = λ k keys. tt;
    packet = λ drb text l k keys.
        let needs = packet_needs (at_phone.with_radio s (Connected l)) k.0 drb text k.1 k.2 in
        record { short = needs.1; count = needs.0; dir = refl; keys = l.keys; are = keys; under = refl };
    rrc = λ srb text l k keys. λ sent e.
        let needs = rrc_needs (at_phone.with_radio s (Connected l)) k.0 srb text k.1 k.2 in
        record {
          short = subst (λ t. length t ≤ 200) (data_in text sent e) needs.1;
          count = needs.0;
          dir = refl;
          keys = l.keys;
          are = keys;
          under = (refl, refl);
        };
    nas = λ text c k keys. tt;
    nas_skipped = λ n c k keys. tt;
    bearer_skipped = λ on n l k keys. tt;
  }

  -- any row of the phone
  pub phone_sends : (row : PhoneRow) (root : Option Term) (s : Phone Term ℕ) → RadioKeys g s.radio → PhoneNeeds s row
      → FromPhone (phone_does r row root s).1.sent
  phone_sends (phone.OfAuth row) root s keys needs = auth_from row root s
  phone_sends (phone.OfNas row) root s keys needs = at_phone.nas_case r Anything PhoneSends s (nas_from s) row tt keys
  phone_sends (phone.OfAir row) root s keys needs = at_phone.air_case r Anything PhoneSends s (air_from s) row tt keys
  phone_sends (phone.OfAct row) root s keys needs = at_phone.act_case r ByAct PhoneSends s (act_from s) row needs keys
