-- What the phone's choice of a row establishes: a record that it accepts says what its station made.
use Rattle.std.proofs.Common.{◌≡◌, ℕ, refl, sym, ◌∙◌, ap, subst, Bool, false, List, Option, Some, None, Ok}
use Rattle.std.specs.Prelude.{⊤}
use Rattle.rec_base.specs.declared.uses.Dir.TheVariants.{Up, Down}
use Rattle.alg_choice.specs.declared.algs.Algs.{Algs}
use Rattle.key_model.specs.{Term.Term, Term.Alg, HandoverLines.steps_to, Reading.Reading, Reading.term_reading_by}
use Rattle.rrc_rec.specs.{declared.records.RrcRecord.RrcRecord, Reading.read_rrc}
use Rattle.rrc_rec.specs.declared.records.RrcRecord.TheVariants.{SecurityModeCommand, Reconfiguration, KeyChange}
use Rattle.lte_machine.specs.Bearers.{Srb, Signalling1, Which, OnSrb}
use Rattle.lte_machine.specs.Wire.{KeyUse, Ciphering, Outgoing, SealedNas, SealedRrc, srb_use, srb_ciphering}
use Rattle.lte_machine.specs.Opening.{Opening, Outcome, Opened}
use Rattle.lte_machine.specs.Reply.{BySetup, ByChange, Made}
use Rattle.lte_machine.specs.PhoneState.{Waiting, Link, Radio, Connecting, Connected, Phone}
use Rattle.lte_machine.specs.PhoneChoice.{unciphered_text, AirFront, AtStart, AtSignalling, air_row}
use Rattle.lte_machine.specs.PhoneRows.{AirRow, LinkSecured, HandedOver, KeyChanged}
use Rattle.lte_machine.specs.PhoneKeys.{air_expects, start_expects, signalling_expects}
pub use Rattle.lte_machine.proofs.PhoneAirFacts.{both_named}
pub use Rattle.lte_machine.proofs.Tests.{by_test}
use Rattle.lte_machine.proofs.PhoneAirFacts.{AirHas, Secures, Reads, phone_air, air_has}
use Rattle.lte_properties.specs.Agreement.{made_at}
use Rattle.lte_properties.proofs.Agreement.Openings.{WasSealed, IsHonest, CipheredAs, IsCalm, is_ciphered}
use Rattle.lte_properties.proofs.Agreement.Ghost.{Ghost, took_at, keys_of, TextOk, CipheredSo, DownOk, LinkIs, RadioOk}
use Rattle.lte_properties.proofs.Agreement.Later.{same_found}
use Rattle.lte_properties.proofs.Agreement.Phone.{StartNeeds, OwnMade, CommandNeeds, ChangeNeeds, AirNeeds}

-- what came to a phone's air address on a bearer: nothing that was sent, or a record of the station there, and an
-- unciphered one has its text in its octets
abbrev pub CameDown : Ghost → ℕ → ℕ → Which → List ℕ → Option (Outgoing Term ℕ) → Type 0
CameDown g station air on pdu None = ⊤
CameDown g station air on pdu (Some (SealedRrc Down st a srb i f text)) =
    record {
      is_station : st ≡ station;
      is_air : a ≡ air;
      is_on : on ≡ OnSrb srb;
      down : DownOk g station air srb i f text;
      plain : f ≡ None → unciphered_text pdu ≡ text;
    }
CameDown g station air on pdu (Some (SealedRrc Up st a srb i f text)) = ⊥
CameDown g station air on pdu (Some (SealedNas dir header i f text)) = ⊥
CameDown g station air on pdu (Some other) = ⊤

-- where the present key is to change, the phone took nothing yet
abbrev pub NothingYet : Ghost → Radio Term ℕ → Type 0
NothingYet g (Connected l) =
    (station air : ℕ) (m : Made Term ℕ) → made_at g.made station air ≡ Some m → m.from ≡ ByChange l.kenb
    → took_at g.took station air ≡ None
NothingYet g other = ⊤

-- a use under an algorithm key is of the key below
pub one_key : (a b : Term) (m n i j : ℕ) → Alg a m i ≡ Alg b n j → a ≡ b
one_key a b m n i j e = cc

pub no_cipher : (f : Option (Ciphering Term)) → is_ciphered f ≡ false → f ≡ None
no_cipher None e = refl
no_cipher (Some x) e = absurd cc

-- A WAITING PHONE

-- the command that starts the security of a connection names what was made
module _ (g : Ghost) (w : Waiting Term) (station air : ℕ) (pdu : List ℕ) (on : Which) (algs : Algs) (ns na : ℕ)
    (reads : read_rrc (unciphered_text pdu) ≡ Ok (SecurityModeCommand algs ns na)) (is_s : ns ≡ station) (is_a : na ≡ air)
    (u : KeyUse Term) (key : u.key ≡ (keys_of w.kenb algs).rrc_int) (down : u.dir ≡ Down) (text : List ℕ) where
  start_named : (came : Option (Outgoing Term ℕ)) → CameDown g station air on pdu came → WasSealed u None text came → CipheredAs u.dir None came
      → StartNeeds g station air algs (Connecting w)
  start_named (Some (SealedNas dir header i f sent)) h sealed calm = absurd h
  start_named (Some (SealedRrc Up st a srb i f sent)) h sealed calm = absurd h
  start_named (Some (SealedRrc Down st a srb i f sent)) h sealed calm =
      let plain : f ≡ None = no_cipher f (subst (λ d. CipheredAs d None (Some (SealedRrc Down st a srb i f sent))) down calm) in
      let d = h.down in
      let m = d.made in
      let from : m.from ≡ BySetup = (subst (CipheredSo g station air m srb i) plain d.ciphered).0 in
      let says = d.says (SecurityModeCommand algs ns na) (ap read_rrc (sym (h.plain plain)) ∙ reads) in
      let there : made_at g.made station air ≡ Some says.made = (λ j. made_at g.made (sym is_s j) (sym is_a j)) ∙ says.found in
      let one : says.made ≡ m = same_found _ says.made m there d.found in
      let kenb : w.kenb ≡ m.key = one_key w.kenb m.key _ _ _ _ (sym key ∙ ap (λ v. v.key) sealed.0 ∙ ap (λ v. v.key) d.integrity) in
      record { made = m; found = d.found; from = from; key = kenb; algs = sym (subst (λ x. x.algs ≡ algs) one says.algs) }
  start_named other h sealed calm = absurd sealed

module _ (same : Term → Term → Bool) (g : Ghost) (s : Phone Term ℕ) (station air : ℕ) (pdu : List ℕ) (on : Which)
    (came : Option (Outgoing Term ℕ)) (came_ok : CameDown g station air on pdu came) (yet : NothingYet g s.radio) where
  -- a text under the phone's keys is what the station there sent, which made the phone's key
  text_is : (l : Link Term ℕ) → LinkIs g l → l.station ≡ station → l.air ≡ air → (srb : Srb) (count : ℕ) → on ≡ OnSrb srb
      → (text : List ℕ) (o : Option (Outgoing Term ℕ)) → CameDown g station air on pdu o
      → WasSealed (srb_use Down l.keys.rrc_int srb count) (Some (srb_ciphering Down l.keys srb count)) text o
      → CipheredAs Down (Some (srb_ciphering Down l.keys srb count)) o
      → TextOk g l.station l.kenb text × OwnMade g l
  text_is l h is_s is_a srb count is_on text (Some (SealedNas dir header i f sent)) k sealed calm = absurd k
  text_is l h is_s is_a srb count is_on text (Some (SealedRrc Up st a sr i f sent)) k sealed calm = absurd k
  text_is l h is_s is_a srb count is_on text (Some (SealedRrc Down st a sr i None sent)) k sealed calm = absurd cc
  text_is l h is_s is_a srb count is_on text (Some (SealedRrc Down st a sr i (Some f) sent)) k sealed calm =
      let d = k.down in
      let m = d.made in
      let kenb : l.kenb ≡ m.key =
      one_key l.kenb m.key _ _ _ _ (sym (ap (λ keys. keys.rrc_int) h.keys) ∙ ap (λ v. v.key) sealed.0 ∙ ap (λ v. v.key) d.integrity) in
      let there : made_at g.made station air ≡ Some h.made = (λ j. made_at g.made (sym is_s j) (sym is_a j)) ∙ h.found in
      let one : h.made ≡ m = same_found _ h.made m there d.found in
      let algs : l.keys.algs ≡ m.algs = h.algs ∙ ap (λ x. x.algs) one in
      let keys : l.keys ≡ keys_of m.key m.algs = h.keys ∙ (λ j. keys_of (kenb j) (algs j)) in
      let counts : count ≡ i.count = ap (λ v. v.count) sealed.0 in
      let srbs : srb ≡ sr = one_srb srb sr (sym is_on ∙ k.is_on) in
      let cipher : Some (srb_ciphering Down l.keys srb count) ≡ Some f =
      (λ j. Some (srb_ciphering Down (keys j) (srbs j) (counts j))) ∙ ap Some (sym d.ciphered.0) in (
        subst (λ n. TextOk g n l.kenb text) (sym is_s)
            (subst (λ t. TextOk g station t text) (sym kenb)
            (subst (TextOk g station m.key) (sym (sealed.1 cipher)) d.says)),
        (h.made, h.found, kenb ∙ ap (λ x. x.key) (sym one)),
      )
    where
      one_srb : (a b : Srb) → OnSrb a ≡ OnSrb b → a ≡ b
      one_srb a b e = cc
  text_is l h is_s is_a srb count is_on text other k sealed calm = absurd sealed

  abbrev q : Reading Term ℕ
  q = term_reading_by same

  abbrev front : AirFront
  front = phone_air q s station air on pdu

  module _ (ok : RadioOk g s.radio) (outcome : Outcome) (honest : IsHonest (air_expects q front s) came outcome)
      (calm : IsCalm (air_expects q front s) came outcome) where
    -- where the front and the text are known
    abbrev At : (Opening Term → Option (Outgoing Term ℕ) → Outcome → Type 0) → AirFront → List ℕ → Type 0
    At P x text = P (air_expects q x s) came (Opened text)

    at_front : (P : Opening Term → Option (Outgoing Term ℕ) → Outcome → Type 0) (x : AirFront) (text : List ℕ) → front ≡ x → outcome ≡ Opened text
        → P (air_expects q front s) came outcome → At P x text
    at_front P x text e f h = subst (λ y. At P y text) e (subst (λ o. P (air_expects q front s) came o) f h)

    at_start : (P : Opening Term → Option (Outgoing Term ℕ) → Outcome → Type 0) (st a : ℕ) (algs : Algs) (count : ℕ)
        → (f : Secures q s station air on pdu outcome st a algs count)
        → P (air_expects q front s) came outcome → P (start_expects q count algs (Connecting f.by.waiting)) came (Opened f.text)
    at_start P st a algs count f h =
        subst (λ radio. P (start_expects q count algs radio) came (Opened f.text)) f.by.waits
        (at_front P (AtStart count algs f.named st a) f.text f.front f.opened h)

    secured : (st a : ℕ) (algs : Algs) (count : ℕ) → Secures q s station air on pdu outcome st a algs count → StartNeeds g st a algs s.radio
    secured st a algs count f =
        let b = f.by in
        let named = both_named b.named_station station b.named_air air (sym b.named_is ∙ f.is_named) in
        subst (λ n. StartNeeds g n a algs s.radio) (sym b.station_is)
        (subst (λ n. StartNeeds g station n algs s.radio) (sym b.air_is)
        (subst (StartNeeds g station air algs) (sym b.waits)
        (start_named g b.waiting station air pdu on algs b.named_station b.named_air b.reads named.0 named.1
        (srb_use Down (keys_of b.waiting.kenb algs).rrc_int Signalling1 count) refl refl f.text came came_ok
        (at_start IsHonest st a algs count f honest) (at_start IsCalm st a algs count f calm))))

    at_signalling : (P : Opening Term → Option (Outgoing Term ℕ) → Outcome → Type 0) (srb : Srb)
        (count : ℕ) (y : RrcRecord) → (f : Reads q s station air on pdu outcome srb count y)
        → P (air_expects q front s) came outcome → P (signalling_expects {C = ℕ} srb count (Connected f.by.here.link)) came (Opened f.text)
    at_signalling P srb count y f h =
        subst (λ radio. P (signalling_expects {C = ℕ} srb count radio) came (Opened f.text)) f.by.here.connected
        (at_front P (AtSignalling srb count f.own) f.text f.front f.opened h)

    heard : (srb : Srb) (count : ℕ) (y : RrcRecord) → (f : Reads q s station air on pdu outcome srb count y)
        → TextOk g f.by.here.link.station f.by.here.link.kenb f.text × OwnMade g f.by.here.link
    heard srb count y f =
        let here = f.by.here in
        text_is here.link (subst (RadioOk g) here.connected ok) here.station_is here.air_is srb count f.by.bearer f.text came came_ok
        (at_signalling IsHonest srb count y f honest) (at_signalling IsCalm srb count y f calm)

    row_walks : (row : AirRow) → AirHas q s station air on pdu outcome row → AirNeeds g s.radio row
    row_walks (LinkSecured st a algs count) f = secured st a algs count f
    row_walks (HandedOver cell steps algs st a) f =
        let x = f.read in
        let says = heard Signalling1 f.count (Reconfiguration cell f.ncc algs st a) x in
        subst (CommandNeeds g cell steps algs st a) (sym x.by.here.connected)
        (record {
          ncc = f.ncc;
          steps = f.steps_is ∙ ap (λ n. steps_to n f.ncc) x.by.own_is;
          order = says.0 (Reconfiguration cell f.ncc algs st a) x.reads;
          own = says.1;
        })
    row_walks (KeyChanged cell algs st a) f =
        let x = f.1 in
        let says = heard Signalling1 f.0 (KeyChange cell algs st a) x in
        let change = says.0 (KeyChange cell algs st a) x.reads in
        subst (ChangeNeeds g cell algs st a) (sym x.by.here.connected)
        (change, subst (NothingYet g) x.by.here.connected yet st a change.made change.found change.from, says.1)
    row_walks other f = tt

    -- a PDU at an air address
    pub air_walks : AirNeeds g s.radio (air_row s.caps front outcome)
    air_walks = row_walks (air_row s.caps front outcome) (air_has q s station air on pdu outcome)
