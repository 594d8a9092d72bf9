-- What is known of the keys of packets fits their receivers.
use Rattle.std.proofs.Common.{◌≡◌, sym, ap, ◌∙◌, subst, ℕ, ◌<◌, ◌≤◌, ◌==◌, true, List, length, drop, Option, Some, arith}
use Rattle.std.specs.Prelude.{slice_index}
use Rattle.std.proofs.lemmas.Bool.Decides.{nat_tests}
use Rattle.alg_choice.specs.{Algs.eia2_identity, declared.algs.Algs.Algs}
use Rattle.rec_base.specs.declared.uses.Dir.{Dir}
use Rattle.rec_base.specs.declared.uses.Dir.TheVariants.{Up, Down}
use Rattle.lte_events.specs.Site.{Site}
use Rattle.key_model.specs.Term.{Term, Alg}
use Rattle.nas_count.specs.Estimate.{nas_count_limit}
use Rattle.nas_rec.specs.{declared.records.NasRecord.NasRecord, Spelling.spelling_of}
use Rattle.nas_rec.specs.declared.records.NasRecord.TheVariants.{SecurityModeCommand, SecurityModeComplete, SecurityModeReject, ServiceRequest, NasData}
use Rattle.pdcp_guard.specs.AsKeys.{AsKeys}
use Rattle.lte_machine.specs.Wire.{KeyUse, Ciphering, ciphering_by, nas_use, Outgoing, SealedNas, PlainNas, SealedRrc, UserPacket, Between}
use Rattle.lte_machine.specs.{PhoneState.NasContext, PhoneState.Radio, StationState.Station, World.next_root, World.station_of_id}
use Rattle.lte_machine.proofs.Worlds.{TheWorld}
use Rattle.lte_properties.specs.{ChainBelow.AllOf, Packets.IsPacket, Packets.UsesRootOf}
use Rattle.lte_properties.proofs.ChainNumbers.Lists.{OfSome, all_find, all_both}
use Rattle.lte_properties.proofs.{Agreement.Ghost.Ghost, Agreement.Ghost.StationOk, Opening.World.PacketsOk}
use Rattle.lte_properties.proofs.Agreement.World.{Conns, ghost, WorldOk}
use Rattle.lte_properties.proofs.Opening.Delivered.{RrcUnder, PacketUnder, NasUnder, Fits, AtPhone, AtContext}
use Rattle.lte_properties.proofs.Opening.Nas.{Choices, nas_keys, RootHas, ContextOk, PhoneContextOk, CoreContextOk, SealedSo, SealedOk, SentOk, one_choice}
use Rattle.lte_properties.proofs.Opening.Air.{KeysAre, one_keys, RadioKeys, ContextKeys, AirOk, radio_keys, context_keys}

-- WHAT IS KNOWN OF PACKETS FITS THEIR RECEIVERS

-- the keys of a connected phone at an address, and of a station's context, are those that packets there were sealed under
at_phone : (g : Ghost) (radio : Radio Term ℕ)
    → RadioKeys g radio
    → (id air : ℕ) (keys : AsKeys Term)
    → KeysAre g id air keys
    → (P : AsKeys Term → Type 0)
    → P keys
    → AtPhone radio id air P
at_phone g radio own id air keys sealed P h l is here there =
    let mine : KeysAre g l.station l.air l.keys = subst (RadioKeys g) is own in
    let at : KeysAre g id air l.keys = subst (λ n. KeysAre g n air l.keys) here (subst (λ n. KeysAre g l.station n l.keys) there mine) in
    subst P (one_keys g id air keys l.keys sealed at) h

at_context : (cells : List Site) (g : Ghost) (ss : List (Station Term ℕ))
    → AllOf (StationOk cells g) ss
    → (id air : ℕ) (keys : AsKeys Term)
    → KeysAre g id air keys
    → (P : AsKeys Term → Type 0) → P keys → AtContext (station_of_id id ss) air P
at_context cells g ss ok id air keys sealed P h s k found context there =
    let f = subst (OfSome (λ s. StationOk cells g s × ((s.id == id) ≡ true))) found (all_find (StationOk cells g) (λ s. s.id == id) ss ok) in
    let number : s.id ≡ id = is_number s.id id f.1 in
    let mine : KeysAre g s.id k.air k.keys = subst (ContextKeys g s.id) context (context_keys g s.id s.context f.0.context) in
    let at : KeysAre g id air k.keys = subst (λ n. KeysAre g n air k.keys) number (subst (λ n. KeysAre g s.id n k.keys) there mine) in
    subst P (one_keys g id air keys k.keys sealed at) h
  where
    is_number : (a b : ℕ) → (a == b) ≡ true → a ≡ b
    is_number a b e = grind (arith, nat_tests)

-- a NAS text of data is no other text, and has its data
abbrev first : List ℕ → ℕ
first t = slice_index t 0

differ : (kind : ℕ) → kind < 5 → kind ≡ 5 → ⊥
differ kind low e = absurd (omega arith)

-- of a sealed message that carries data: how it is sealed
abbrev DataSealed : Choices → ℕ → Dir → ℕ → KeyUse Term → Option (Ciphering Term) → List ℕ → Type 0
DataSealed g next dir header u e sent =
    record {
      root : Term;
      algs : Algs;
      has : RootHas g next root algs;
      integrity : u ≡ nas_use dir (Alg root 2 eia2_identity) u.count;
      header : header ≡ 2;
      ciphering : e ≡ Some (ciphering_by algs.eea (nas_use dir (nas_keys root algs).enc u.count));
      count : u.count < nas_count_limit;
      short : length sent ≤ 200;
    }

data_sealed : (g : Choices) (next : ℕ) (dir : Dir) (header : ℕ) (u : KeyUse Term) (e : Option (Ciphering Term))
    (text sent : List ℕ)
    → SealedOk g next dir header u e text
    → text ≡ spelling_of (NasData sent) → DataSealed g next dir header u e sent
unfolding spelling_of
data_sealed g next dir header u e text sent k is = by_record k.says (sym k.spelled ∙ is) k.so
  where
    by_record : (x : NasRecord) → spelling_of x ≡ spelling_of (NasData sent) → SealedSo dir header u e k.root k.algs x → DataSealed g next dir header u e sent
    by_record (SecurityModeCommand ksi algs caps) same so = absurd (differ 1 (omega arith) (ap first same))
    by_record SecurityModeComplete same so = absurd (differ 2 (omega arith) (ap first same))
    by_record (SecurityModeReject cause) same so = absurd (differ 3 (omega arith) (ap first same))
    by_record ServiceRequest same so = absurd (differ 4 (omega arith) (ap first same))
    by_record (NasData t) same so = search (subst (λ x. length x ≤ 200) (ap (drop 1) same) so.short)

-- the context in use of that KASME has the keys that the message was sealed under
under_context : (g : Choices) (next : ℕ) (dir : Dir) (header : ℕ) (u : KeyUse Term)
    (e : Option (Ciphering Term)) (sent : List ℕ)
    → DataSealed g next dir header u e sent
    → (c : NasContext Term) → ContextOk g next c → UsesRootOf c u → NasUnder c.keys u e
under_context g next dir header u e sent k c own uses =
    let root : k.root ≡ c.root = root_of k.root c.root (sym (ap (λ v. v.key) k.integrity) ∙ uses) in
    let algs : k.algs ≡ c.keys.algs = one_choice g next c.root k.algs c.keys.algs (subst (λ t. RootHas g next t k.algs) root k.has) own.0 in
    let keys : c.keys ≡ nas_keys k.root k.algs = own.1 ∙ (λ j. nas_keys (sym root j) (sym algs j)) in
    let way : u.dir ≡ dir = ap (λ v. v.dir) k.integrity in (
      k.integrity ∙ (λ j. nas_use (sym way j) (sym keys j).int u.count),
      k.ciphering ∙ (λ j. Some (ciphering_by (sym keys j).algs.eea (nas_use (sym way j) (sym keys j).enc u.count))),
    )
  where
    root_of : (a b : Term) → Alg a 2 eia2_identity ≡ Alg b 2 eia2_identity → a ≡ b
    root_of a b e = cc

module _ (cells : List Site) (k : Conns) (g : Choices) (w : TheWorld) (ok : WorldOk cells k w) (h : PacketsOk g k w) where
  -- the keys of an address are its receiver's
  down : (id air : ℕ) (keys : AsKeys Term) → KeysAre (ghost k w) id air keys → (P : AsKeys Term → Type 0) → P keys → AtPhone w.phone.radio id air P
  down = at_phone (ghost k w) w.phone.radio (radio_keys (ghost k w) w.phone.radio ok.radio)

  up : (id air : ℕ) (keys : AsKeys Term) → KeysAre (ghost k w) id air keys → (P : AsKeys Term → Type 0) → P keys
      → AtContext (station_of_id id w.stations) air P
  up = at_context cells (ghost k w) w.stations ok.stations

  packet_fits : (x : Outgoing Term ℕ) → SentOk g (next_root w) x → AirOk (ghost k w) x → (sent : List ℕ) → IsPacket x sent → Fits w x sent
  packet_fits (UserPacket Down id air drb e text) nas s sent is =
      (s.short, s.count, s.dir, down id air s.keys s.are (λ keys. PacketUnder keys drb e) s.under)
  packet_fits (UserPacket Up id air drb e text) nas s sent is =
      (s.short, s.count, s.dir, up id air s.keys s.are (λ keys. PacketUnder keys drb e) s.under)
  packet_fits (SealedRrc Down id air srb u e text) nas sealed sent is =
      let s = sealed sent is in (s.short, s.count, s.dir, down id air s.keys s.are (λ keys. RrcUnder keys srb u e) s.under)
  packet_fits (SealedRrc Up id air srb u e text) nas sealed sent is =
      let s = sealed sent is in (s.short, s.count, s.dir, up id air s.keys s.are (λ keys. RrcUnder keys srb u e) s.under)
  packet_fits (SealedNas Down header u e text) nas sealed sent is =
      let s = data_sealed g (next_root w) Down header u e text sent nas is in (
        s.short,
        s.count,
        ap (λ v. v.dir) s.integrity,
        s.header,
        λ c found uses.
            under_context g (next_root w) Down header u e sent s c
            (subst (PhoneContextOk g (next_root w)) found h.phone.1) uses,
      )
  packet_fits (SealedNas Up header u e text) nas sealed sent is =
      let s = data_sealed g (next_root w) Up header u e text sent nas is in (
        s.short,
        s.count,
        ap (λ v. v.dir) s.integrity,
        s.header,
        λ c found uses.
            under_context g (next_root w) Up header u e sent s c.nas
            (subst (CoreContextOk g (next_root w)) found h.core.2) uses,
      )
  packet_fits (PlainNas octets) nas sealed sent is = absurd is
  packet_fits (Between to fields key) nas sealed sent is = absurd is

  -- all packets that were sent
  pub packets_fit : AllOf (λ x. (sent : List ℕ) → IsPacket x sent → Fits w x sent) w.sent
  packets_fit =
      all_both (SentOk g (next_root w)) (AirOk (ghost k w)) (λ x. (sent : List ℕ) → IsPacket x sent → Fits w x sent) packet_fits w.sent h.nas h.air
