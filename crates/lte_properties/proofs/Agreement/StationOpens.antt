-- What the rows of a station on a PDU leave of the invariant of agreement, where what was opened is honest.
use Rattle.std.proofs.Common.{◌≡◌, ℕ, ◌+◌, refl, sym, ◌∙◌, ap, subst, arith, Bool, List, [], Option, Some, None, option_map}
use Rattle.std.specs.Prelude.{⊤}
use Rattle.std.proofs.lemmas.Bool.{eqb-true}
use Rattle.rec_base.specs.declared.uses.Dir.TheVariants.{Up, Down}
use Rattle.lte_events.specs.Site.{Site}
use Rattle.key_model.specs.{Term.Term, Term.Alg, Reading.Reading, Reading.term_reading_by}
use Rattle.ho_prep.specs.declared.origins.By.{By}
use Rattle.ho_prep.specs.Prep.{Prep, is_at, at_air}
use Rattle.lte_machine.specs.{Bearers.Signalling1, Bearers.Which, Opening.Outcome, Opening.Opened, StationState.Station, StationRows.SecurityStarted, StationStep.plain_station}
use Rattle.lte_machine.specs.Wire.{KeyUse, Ciphering, Outgoing, SealedNas, SealedRrc, srb_use}
use Rattle.lte_machine.specs.Reply.{Origin, Made, Reply}
use Rattle.lte_machine.specs.StationChoice.{AirFront, OnStarting, OnPrepared, air_front, air_row}
use Rattle.lte_machine.specs.StationKeys.{with_security, with_rrc_taken, with_packet_taken, arrived, air_expects, starting_expects, prepared_expects, air_does}
use Rattle.lte_machine.proofs.AirFacts.{Opens, Completes, AirHas, air_has}
use Rattle.lte_machine.proofs.StationCases.{AirCases, air_case}
use Rattle.lte_properties.specs.Agreement.{HadTaken}
use Rattle.lte_properties.proofs.{Agreement.Openings.WasSealed, Agreement.Openings.IsHonest, Agreement.Later.same_found, Agreement.PhoneWalk.one_key, Agreement.Station.StationGoes}
use Rattle.lte_properties.proofs.Agreement.Ghost.{Ghost, FromIs, HereIs, CtxOk, PrepOk, StationOk, UpOk}
use Rattle.lte_properties.proofs.Agreement.StationContext.{with_both, next_drawn, mapped, mapped_at, ctx_at}
use Rattle.lte_properties.proofs.Agreement.ToldIsFound.{all_found, found_holds, if_tried}

-- what came to a station's air address: nothing that was sent, or what the phone sent there
abbrev pub CameUp : Ghost → ℕ → ℕ → Option (Outgoing Term ℕ) → Type 0
CameUp g station air None = ⊤
CameUp g station air (Some (SealedRrc Up st a srb i f text)) = (st ≡ station) × (a ≡ air) × UpOk g station air srb i f
CameUp g station air (Some (SealedRrc Down st a srb i f text)) = ⊥
CameUp g station air (Some (SealedNas dir header i f text)) = ⊥
CameUp g station air (Some other) = ⊤

-- who opens a record of the phone has the key that the phone took there
up_taken : (g : Ghost) (station air : ℕ) (t : Term) (u : KeyUse Term) → u.key ≡ Alg t 4 2
    → (e : Option (Ciphering Term)) (text : List ℕ) (came : Option (Outgoing Term ℕ)) → CameUp g station air came → WasSealed u e text came
    → HereIs g station air t × HadTaken g.took station air t
up_taken g station air t u key e text (Some (SealedNas dir header i f sent)) h sealed = absurd h
up_taken g station air t u key e text (Some (SealedRrc Down st a srb i f sent)) h sealed = absurd h
up_taken g station air t u key e text (Some (SealedRrc Up st a srb i f sent)) h sealed =
    let up = h.2 in
    let one : up.kenb ≡ t = one_key up.kenb t _ _ _ _ (sym up.key ∙ sym (ap (λ v. v.key) sealed.0) ∙ key) in
    (subst (HereIs g station air) one up.here, subst (HadTaken g.took station air) one up.had)
up_taken g station air t u key e text other h sealed = absurd sealed

module _ (same : Term → Term → Bool) (cells : List Site) (g : Ghost) (s : Station Term ℕ) (ok : StationOk cells g s) where
  abbrev r : Reading Term ℕ
  r = term_reading_by same

  abbrev Goes : Station Term ℕ × Reply Term ℕ → Type 0
  Goes d = StationGoes cells g s d

  module _ (air : ℕ) (came : Option (Outgoing Term ℕ)) (came_ok : CameUp g s.id air came) (outcome : Outcome) (on : Which) (pdu : List ℕ)
      (honest : IsHonest (air_expects (air_front (plain_station r s) air on pdu) s) came outcome) where
    -- what this front opened was honest
    opened_so : (front : AirFront) (o : Opens r s air on pdu outcome front) → IsHonest (air_expects front s) came (Opened o.text)
    opened_so front o = subst (IsHonest (air_expects front s) came) o.opened (subst (λ x. IsHonest (air_expects x s) came outcome) o.front_is honest)

    -- who completes the start of the security has the context's key
    secures : (count : ℕ) → AirHas r s air on pdu outcome (SecurityStarted count)
        → StationOk cells g (record s { context = option_map (with_security count) s.context })
    secures count (at, (opens, _)) =
        let c = at.context in
        let h = ctx_at cells g s ok c at.serving in
        let key : c.keys.rrc_int ≡ Alg c.key.kenb 4 2 = ap (λ x. x.rrc_int) h.keys in
        let sealed = subst (λ o. IsHonest (starting_expects {C = ℕ} count o) came (Opened opens.text)) at.serving (opened_so (OnStarting count) opens) in
        let taken = up_taken g s.id air c.key.kenb (srb_use Up c.keys.rrc_int Signalling1 count) key _ opens.text came came_ok sealed in
        let had = subst (λ a. HadTaken g.took s.id a c.key.kenb) (sym at.there) taken.1 in
        mapped_at cells g s ok (with_security count) c at.serving
        (search (had))

    -- a completed preparation is a context of what was made, and the phone had taken its key
    arrives : (at count : ℕ) (by : By) (outstanding : Option ℕ) (origin : Option Origin) → Completes r s air on pdu outcome at count by
        → (p : Prep Term ℕ) → at_air at s.preps ≡ Some p → CtxOk g s.id (Some (arrived count outstanding origin p))
    arrives at count by outstanding origin (waits, (opens, _)) p e =
        let good : PrepOk g s.id p = all_found (PrepOk g s.id) (is_at at) s.preps p ok.preps e in
        let there : p.air ≡ air = eqb-true p.air at (found_holds (is_at at) s.preps p e) ∙ waits.at_is in
        let key : p.keys.rrc_int ≡ Alg p.key.kenb 4 2 = ap (λ x. x.rrc_int) good.keys in
        let sealed = subst (λ o. IsHonest (prepared_expects {C = ℕ} count o) came (Opened opens.text)) e (opened_so (OnPrepared at by count) opens) in
        let taken = up_taken g s.id air p.key.kenb (srb_use Up p.keys.rrc_int Signalling1 count) key _ opens.text came came_ok sealed in
        let here : HereIs g s.id p.air p.key.kenb = subst (λ a. HereIs g s.id a p.key.kenb) (sym there) taken.0 in
        let had : HadTaken g.took s.id p.air p.key.kenb = subst (λ a. HadTaken g.took s.id a p.key.kenb) (sym there) taken.1 in
        let m : Made Term ℕ = good.made in
        let from : FromIs g m p.key.kenb m.from = subst (λ x. FromIs g x p.key.kenb x.from) (same_found _ here.0 m here.1 good.found) here.2 in
        record {
          term = good.term;
          pair = good.pair;
          keys = good.keys;
          entry = record { made = m; found = good.found; is = good.is; from = from; had = if_tried g.took s.id p.air p.key.kenb m.from had };
          attempt = tt;
          started = had;
        }

    air_cases : AirCases r s (AirHas r s air on pdu outcome) Goes
    air_cases = record {
      nothing = λ answer. (ok, tt, tt, tt, refl, tt, tt);
      secured = λ count k. (secures count k, tt, tt, tt, refl, tt, tt);
      opened = λ srb count text k. (mapped cells g s ok (with_rrc_taken srb count) (λ c h. h), tt, tt, tt, refl, tt, tt);
      packet = λ drb count text k. (mapped cells g s ok (with_packet_taken drb count) (λ c h. h), tt, tt, tt, refl, tt, tt);
      by_s1 = λ at count k p e.
          (with_both cells g s ok (Some (arrived count None None p)) (arrives at count By.S1 None None k p e) [] tt, tt, tt, tt, refl, tt, tt);
      within = λ at count origin k p e.
          (with_both cells g s ok (Some (arrived count None origin p)) (arrives at count (By.Intra k.0) None origin k.2 p e) [] tt, tt, tt, tt, refl, tt, tt);
      by_x2 = λ at count number k p e.
          let draws : number ≡ s.next = k.0 in
          let first = ok.next in
          let origin : Origin = record { source = p.source; attempt = p.attempt } in
          let context = arrives at count By.X2 (Some number) (Some origin) k.2 p e in
          (next_drawn cells g s ok (number + 1) (omega arith) (Some (arrived count (Some number) (Some (record { source = p.source; attempt = p.attempt })) p)) context [] tt, tt, tt, tt, refl, tt, tt);
    }

    -- the row that is chosen
    pub air_goes : Goes (air_does r (air_row (plain_station r s) (air_front (plain_station r s) air on pdu) outcome) s)
    air_goes =
        air_case r s Goes (AirHas r s air on pdu outcome) air_cases
        (air_row (plain_station r s) (air_front (plain_station r s) air on pdu) outcome) (air_has r s air on pdu outcome)
