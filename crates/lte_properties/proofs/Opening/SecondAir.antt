-- On the air the second case of opening comes at a station alone whose context's security is starting: it waits for an unciphered
-- record, and the phone there ciphers already. A connected phone and an active context take the first record once.
use Rattle.std.proofs.Common.{◌≡◌, refl, sym, ap, ◌∙◌, subst, ℕ, ◌≤◌, ◌==◌, Bool, true, false, List, Option, Some, None, option_map, Result, Ok, Err, arith}
use Rattle.std.proofs.lemmas.Bool.{eqb-true}
use Rattle.alg_choice.specs.declared.algs.Algs.{Algs}
use Rattle.rec_base.specs.Bearer.{bearer5_of}
use Rattle.rec_base.specs.declared.uses.Dir.TheVariants.{Up, Down}
use Rattle.lte_events.specs.Site.{Site}
use Rattle.key_model.specs.{Chain.ncc_of, Reading.Reading, Reading.term_reading_by, Term.Term}
use Rattle.ho_prep.specs.Prep.{Prep, is_at, at_air}
use Rattle.ho_prep.specs.declared.origins.By.{By}
use Rattle.pdcp_guard.specs.{AsKeys.AsKeys, Drb.drb_count, Srb.srb_count, declared.pdus.PdcpFault.PdcpFault}
use Rattle.lte_machine.specs.Bearers.{Srb, Signalling1, Signalling2, Drb, Which, OnSrb, OnDrb, of_srb, srb_counts, drb_counts}
use Rattle.lte_machine.specs.{Opening.CipheredElse, Reply.Made, Reply.unseen}
use Rattle.lte_machine.specs.PhoneChoice.{AirFront, AirSettled, AtStart, AtSignalling, AtPacket}
use Rattle.lte_machine.specs.PhoneKeys.{air_expects, start_expects, signalling_expects, packet_expects}
use Rattle.lte_machine.specs.PhoneState.{Waiting, Link, Connecting, Connected, Phone}
use Rattle.lte_machine.specs.StationChoice as st
use Rattle.lte_machine.specs.StationKeys as stk
use Rattle.lte_machine.specs.StationState.{Station, Context, map_context}
use Rattle.lte_machine.specs.Wire.{KeyUse, Ciphering, Outgoing, SealedNas, SealedRrc, srb_use, srb_ciphering}
use Rattle.lte_machine.proofs.PhoneAirFacts.{FrontHas, phone_air, front_has}
use Rattle.lte_properties.specs.{Agreement.made_at, SecondCase.sender_at}
use Rattle.lte_properties.proofs.Agreement.Calm.{NewKenb, count_low, plain_here, ciphered_here}
use Rattle.lte_properties.proofs.Agreement.Ghost.{Ghost, keys_of, CtxOk, PrepOk, StationOk, LinkIs, RadioOk, UpOk}
use Rattle.lte_properties.proofs.{Agreement.Later.same_found, Agreement.StationOpens.CameUp, Agreement.ToldIsFound.all_found, Agreement.ToldIsFound.found_holds, Opening.Heard.Heard, Opening.SecondNas.Never, Opening.SecondNas.never_srb}
use Rattle.lte_properties.proofs.Agreement.PhoneWalk.{CameDown, by_test, one_key, no_cipher}

-- THE PHONE

module _ (same : Term → Term → Bool) (g : Ghost) (s : Phone Term ℕ) (station air : ℕ) (pdu : List ℕ) (on : Which)
    (came : Option (Outgoing Term ℕ)) (came_ok : CameDown g station air on pdu came) where
  abbrev q : Reading Term ℕ
  q = term_reading_by same

  abbrev NeverAt : AirFront → Type 0
  NeverAt front = Never (air_expects (term_reading_by same) front s) came

  -- a record under the KeNB that it waits with is not ciphered
  waits : (w : Waiting Term) → NewKenb g.took (Connecting w) → (count : ℕ) (algs : Algs) (x : Option (Outgoing Term ℕ)) → CameDown g station air on pdu x
      → Never (start_expects (term_reading_by same) count algs (Connecting w)) x
  waits w never count algs (Some (SealedNas dir header i f text)) h = absurd h
  waits w never count algs (Some (SealedRrc Up st a srb i f text)) h = absurd h
  waits w never count algs (Some (SealedRrc Down st a srb i f text)) h =
      let u = srb_use Down (keys_of w.kenb algs).rrc_int Signalling1 count in
      never_srb u i None f Down st a srb text
      (λ e. sym (no_cipher f (plain_here same g s station air pdu on (Some (SealedRrc Down st a srb i f text)) h w never
      u algs refl text (Some (SealedRrc Down st a srb i f text)) h (e, λ x. refl))))
  waits w never count algs other h = λ e. absurd cc

  -- a record under the keys of its connection is ciphered under them
  ciphers : (l : Link Term ℕ)
      → LinkIs g l
      → l.station ≡ station
      → l.air ≡ air
      → (srb : Srb) (count : ℕ)
      → on ≡ OnSrb srb
      → (srb_counts srb l.bearers).receive ≤ count
      → (x : Option (Outgoing Term ℕ)) → CameDown g station air on pdu x → Never (signalling_expects {C = ℕ} srb count (Connected l)) x
  ciphers l h is_s is_a srb count is_on low (Some (SealedNas dir header i f text)) k = absurd k
  ciphers l h is_s is_a srb count is_on low (Some (SealedRrc Up st a sr i f text)) k = absurd k
  ciphers l h is_s is_a srb count is_on low (Some (SealedRrc Down st a sr i None text)) k =
      let u = srb_use Down l.keys.rrc_int srb count in
      let cipher = Some (srb_ciphering Down l.keys srb count) in
      never_srb u i cipher None Down st a sr text
      (λ e. absurd (no_first
      (ciphered_here same g s station air pdu on (Some (SealedRrc Down st a sr i None text)) k l h is_s is_a srb count
      is_on low text (Some (SealedRrc Down st a sr i None text)) k (e, λ x. refl))))
    where
      no_first : false ≡ true → ⊥
      no_first e = cc
  ciphers l h is_s is_a srb count is_on low (Some (SealedRrc Down st a sr i (Some f) text)) k =
      let d = k.down in
      let m = d.made in
      let there : made_at g.made station air ≡ Some h.made = (λ j. made_at g.made (sym is_s j) (sym is_a j)) ∙ h.found in
      let one : h.made ≡ m = same_found _ h.made m there d.found in
      let srbs : srb ≡ sr = one_srb srb sr (sym is_on ∙ k.is_on) in
      never_srb (srb_use Down l.keys.rrc_int srb count) i (Some (srb_ciphering Down l.keys srb count)) (Some f) Down st a sr text
      (λ e. let kenb : l.kenb ≡ m.key =
      one_key l.kenb m.key _ _ _ _ (sym (ap (λ keys. keys.rrc_int) h.keys) ∙ ap (λ v. v.key) e ∙ ap (λ v. v.key) d.integrity) in
      let keys : l.keys ≡ keys_of m.key m.algs = h.keys ∙ (λ j. keys_of (kenb j) ((h.algs ∙ ap (λ x. x.algs) one) j)) in
      (λ j. Some (srb_ciphering Down (keys j) (srbs j) ((ap (λ v. v.count) e) j))) ∙ ap Some (sym d.ciphered.0))
    where
      one_srb : (a b : Srb) → OnSrb a ≡ OnSrb b → a ≡ b
      one_srb a b e = cc
  ciphers l h is_s is_a srb count is_on low other k = λ e. absurd cc

  front_never : RadioOk g s.radio → NewKenb g.took s.radio → (front : AirFront) → FrontHas q s station air on pdu front → NeverAt front
  front_never ok never (AirSettled row) f = λ e. absurd cc
  front_never ok never (AtStart count algs named st a) f =
      subst (λ radio. Never (start_expects q count algs radio) came) (sym f.waits)
      (waits f.waiting (subst (NewKenb g.took) f.waits never) count algs came came_ok)
  front_never ok never (AtSignalling srb count own) f =
      let here = f.here in
      subst (λ radio. Never (signalling_expects {C = ℕ} srb count radio) came) (sym here.connected)
      (ciphers here.link (subst (RadioOk g) here.connected ok) here.station_is here.air_is srb count f.bearer
      (count_low (srb_counts srb here.link.bearers).receive pdu count f.counted) came came_ok)
  front_never ok never (AtPacket drb count) f = subst (λ radio. Never (packet_expects {C = ℕ} drb count radio) came) (sym f.here.connected) (λ x. absurd cc)

  pub phone_air_never : RadioOk g s.radio → NewKenb g.took s.radio → NeverAt (phone_air q s station air on pdu)
  phone_air_never ok never = front_never ok never (phone_air q s station air on pdu) (front_has q s station air on pdu)

-- A STATION

-- the security of its context is starting
abbrev pub Starts : Option (Context Term ℕ) → Type 0
Starts None = ⊥
Starts (Some c) = c.starting ≡ true

one_bearer : (a b : Srb) → bearer5_of (of_srb a) ≡ bearer5_of (of_srb b) → a ≡ b
one_bearer Signalling1 Signalling1 e = refl
one_bearer Signalling2 Signalling2 e = refl
one_bearer Signalling1 Signalling2 e = absurd (omega (arith, e))
one_bearer Signalling2 Signalling1 e = absurd (omega (arith, e))

-- a record of the phone under this integrity use: of that bearer and COUNT, and ciphered under these keys, where it is
module _ (g : Ghost) (id air : ℕ) (keys : AsKeys Term) (kenb : Term) (m : Made Term ℕ)
    (are : keys ≡ keys_of kenb m.algs) (there : made_at g.made id air ≡ Some m) (srb sr : Srb) (count : ℕ)
    (i : KeyUse Term)
    (is : srb_use Up keys.rrc_int srb count ≡ i) where
  srbs : (f : Option (Ciphering Term)) → UpOk g id air sr i f → srb ≡ sr
  srbs f up = one_bearer srb sr (ap (λ v. v.bearer) is ∙ ap (λ v. v.bearer) up.sealed.integrity)

  same_made : (f : Option (Ciphering Term)) (up : UpOk g id air sr i f) → m ≡ up.sealed.made
  same_made f up = same_found _ m up.sealed.made there up.sealed.found

  same_kenb : (f : Option (Ciphering Term)) (up : UpOk g id air sr i f) → kenb ≡ up.kenb
  same_kenb f up = one_key kenb up.kenb _ _ _ _ (sym (ap (λ x. x.rrc_int) are) ∙ ap (λ v. v.key) is ∙ up.key)

  ciphered_same : (f : Ciphering Term) (up : UpOk g id air sr i (Some f)) → Some (srb_ciphering Up keys srb count) ≡ Some f
  ciphered_same f up =
      let all : keys ≡ keys_of up.kenb up.sealed.made.algs = are ∙ (λ j. keys_of (same_kenb (Some f) up j) (same_made (Some f) up j).algs) in
      (λ j. Some (srb_ciphering Up (all j) (srbs (Some f) up j) (ap (λ v. v.count) is j))) ∙ ap Some (sym up.sealed.ciphered)

module _ (same : Term → Term → Bool) (cells : List Site) (g : Ghost) (s : Station Term ℕ) (ok : StationOk cells g s)
    (heard : Heard s.context) (air : ℕ) (came : Option (Outgoing Term ℕ)) (came_ok : CameUp g s.id air came) where
  abbrev Second : st.AirFront → Type 0
  Second front = sender_at (stk.air_expects front s) came ≡ CipheredElse → Starts s.context

  -- an active context: the record is ciphered under its keys, and the first one was taken
  active_never : (c : Context Term ℕ)
      → CtxOk g s.id (Some c)
      → Heard (Some c)
      → c.starting ≡ false
      → c.air ≡ air
      → (srb : Srb) (count : ℕ)
      → (srb_counts srb c.bearers).receive ≤ count
      → (x : Option (Outgoing Term ℕ)) → CameUp g s.id air x → Never (stk.signalling_expects {C = ℕ} srb count (Some c)) x
  active_never c k listened active there srb count low (Some (SealedNas dir header i f text)) h = absurd h
  active_never c k listened active there srb count low (Some (SealedRrc Down st a sr i f text)) h = absurd h
  active_never c k listened active there srb count low (Some (SealedRrc Up st a sr i (Some f) text)) h =
      let m = k.entry.made in
      let at : made_at g.made s.id air ≡ Some m = ap (made_at g.made s.id) (sym there) ∙ k.entry.found in
      let are : c.keys ≡ keys_of c.key.kenb m.algs = k.keys ∙ ap (keys_of c.key.kenb) k.entry.is.2 in
      never_srb (srb_use Up c.keys.rrc_int srb count) i (Some (srb_ciphering Up c.keys srb count)) (Some f) Up st a sr text
      (λ e. ciphered_same g s.id air c.keys c.key.kenb m are at srb sr count i e f h.2)
  active_never c k listened active there srb count low (Some (SealedRrc Up st a sr i None text)) h =
      let m = k.entry.made in
      let at : made_at g.made s.id air ≡ Some m = ap (made_at g.made s.id) (sym there) ∙ k.entry.found in
      let are : c.keys ≡ keys_of c.key.kenb m.algs = k.keys ∙ ap (keys_of c.key.kenb) k.entry.is.2 in
      never_srb (srb_use Up c.keys.rrc_int srb count) i (Some (srb_ciphering Up c.keys srb count)) None Up st a sr text
      (λ e. let first : srb ≡ Signalling1 = srbs g s.id air c.keys c.key.kenb m are at srb sr count i e None h.2 ∙ h.2.sealed.ciphered.2 in
      let none : count ≡ 0 = ap (λ v. v.count) e ∙ h.2.sealed.ciphered.1 in
      absurd (too_low (listened active) (subst (λ x. (srb_counts x c.bearers).receive ≤ count) first low) none))
    where
      too_low : {a b : ℕ} → 1 ≤ a → a ≤ b → b ≡ 0 → ⊥
      too_low x y z = omega arith
  active_never c k listened active there srb count low other h = λ e. absurd cc

  -- a preparation: no setup made it, so that the phone came with a ciphered record
  prepared_never : (p : Prep Term ℕ)
      → PrepOk g s.id p
      → p.air ≡ air
      → (count : ℕ) (x : Option (Outgoing Term ℕ))
      → CameUp g s.id air x
      → Never (stk.prepared_expects {C = ℕ} count (Some p)) x
  prepared_never p k there count (Some (SealedNas dir header i f text)) h = absurd h
  prepared_never p k there count (Some (SealedRrc Down st a sr i f text)) h = absurd h
  prepared_never p k there count (Some (SealedRrc Up st a sr i (Some f) text)) h =
      let m = k.made in
      let at : made_at g.made s.id air ≡ Some m = ap (made_at g.made s.id) (sym there) ∙ k.found in
      let are : p.keys ≡ keys_of p.key.kenb m.algs = k.keys ∙ ap (keys_of p.key.kenb) k.is.2 in
      never_srb (srb_use Up p.keys.rrc_int Signalling1 count) i (Some (srb_ciphering Up p.keys Signalling1 count)) (Some f) Up st a sr text
      (λ e. ciphered_same g s.id air p.keys p.key.kenb m are at Signalling1 sr count i e f h.2)
  prepared_never p k there count (Some (SealedRrc Up st a sr i None text)) h =
      let m = k.made in
      let at : made_at g.made s.id air ≡ Some m = ap (made_at g.made s.id) (sym there) ∙ k.found in
      let sealed = h.2.sealed in
      let one : m ≡ sealed.made = same_found _ m sealed.made at sealed.found in
      never_srb (srb_use Up p.keys.rrc_int Signalling1 count) i (Some (srb_ciphering Up p.keys Signalling1 count)) None Up st a sr text
      (λ e. absurd (k.no_setup (ap (λ x. x.from) one ∙ sealed.ciphered.0)))
  prepared_never p k there count other h = λ e. absurd cc

  found_prep : (count : ℕ) (o : Option (Prep Term ℕ))
      → at_air air s.preps ≡ o
      → sender_at (stk.prepared_expects {C = ℕ} count o) came ≡ CipheredElse
      → Starts s.context
  found_prep count None is = λ e. absurd cc
  found_prep count (Some p) is = λ e.
      absurd (prepared_never p (all_found (PrepOk g s.id) (is_at air) s.preps p ok.preps is)
      (eqb-true p.air air (found_holds (is_at air) s.preps p is)) count came came_ok e)

  counted_prepared : (by : By) (count : Result ℕ PdcpFault) → Second (st.counted (st.OnPrepared air by) count)
  counted_prepared by (Err fault) = λ e. absurd cc
  counted_prepared by (Ok count) = found_prep count (at_air air s.preps) refl

  prepared_second : (o : Option (Prep (Unit {0}) ℕ)) (on : Which) (pdu : List ℕ) → Second (st.prepared_front o air on pdu)
  prepared_second (Some p) (OnSrb Signalling1) pdu = counted_prepared p.by (srb_count 0 pdu)
  prepared_second other rest pdu = λ e. absurd cc

  module _ (c : Context Term ℕ) (is : s.context ≡ Some c) (there : c.air ≡ air) where
    own : CtxOk g s.id (Some c)
    own = subst (CtxOk g s.id) is ok.context

    listened : Heard (Some c)
    listened = subst Heard is heard

    counted_starting : c.starting ≡ true → (count : Result ℕ PdcpFault) → Second (st.counted st.OnStarting count)
    counted_starting starting (Err fault) = λ e. absurd cc
    counted_starting starting (Ok count) = λ e. subst Starts (sym is) starting

    starting_second : c.starting ≡ true → (on : Which) (pdu : List ℕ) → Second (st.starting_front c.bearers on pdu)
    starting_second starting (OnSrb Signalling1) pdu = counted_starting starting (srb_count c.bearers.srb1.receive pdu)
    starting_second starting (OnSrb Signalling2) pdu = λ e. absurd cc
    starting_second starting (OnDrb drb) pdu = λ e. absurd cc

    counted_signalling : c.starting ≡ false → (srb : Srb) (pdu : List ℕ) (count : Result ℕ PdcpFault) → srb_count (srb_counts srb c.bearers).receive pdu ≡ count
        → Second (st.counted (st.OnSignalling srb) count)
    counted_signalling active srb pdu (Err fault) counts = λ e. absurd cc
    counted_signalling active srb pdu (Ok count) counts = λ e.
        absurd (active_never c own listened active there srb count (count_low (srb_counts srb c.bearers).receive pdu count counts) came came_ok
        (subst (λ o. sender_at (stk.signalling_expects {C = ℕ} srb count o) came ≡ CipheredElse) is e))

    counted_user : (drb : Drb) (count : Result ℕ PdcpFault) → Second (st.counted (st.OnUser drb) count)
    counted_user drb (Err fault) = λ e. absurd cc
    counted_user drb (Ok count) = λ e. absurd (no_case (subst (λ o. sender_at (stk.user_expects {C = ℕ} drb count o) came ≡ CipheredElse) is e))
      where
        no_case : sender_at (stk.user_expects {C = ℕ} drb count (Some c)) came ≡ CipheredElse → ⊥
        no_case e = cc

    active_second : c.starting ≡ false → (on : Which) (pdu : List ℕ) → Second (st.active_front c.bearers on pdu)
    active_second active (OnSrb srb) pdu = counted_signalling active srb pdu (srb_count (srb_counts srb c.bearers).receive pdu) refl
    active_second active (OnDrb drb) pdu = counted_user drb (drb_count (drb_counts drb c.bearers).receive pdu)

    context_second : (b : Bool) → c.starting ≡ b → (on : Which) (pdu : List ℕ) → Second (st.context_front b c.bearers on pdu)
    context_second true e on pdu = starting_second e on pdu
    context_second false e on pdu = active_second e on pdu

  pub station_air_second : (o : Option (Context Term ℕ)) → s.context ≡ o → (prep : Option (Prep (Unit {0}) ℕ)) (on : Which) (pdu : List ℕ)
      → Second (st.air_front_by (option_map (map_context unseen ncc_of) o) prep air on pdu)
  station_air_second None is prep on pdu = prepared_second prep on pdu
  station_air_second (Some c) is prep on pdu =
      by_test Second (c.air == air) _ _ (λ b. context_second c is (eqb-true c.air air b) c.starting refl on pdu) (λ b. prepared_second prep on pdu)
