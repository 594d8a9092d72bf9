-- Agreement, freshness, separation and opening, of a run in octets.
use Rattle.std.proofs.Common.{◌≡◌, refl, sym, ap, ◌∙◌, subst, ℕ, zero, suc, List, [], ◌∷◌, map, take, Option, Some, None, option_map, inl, inr}
use Rattle.std.specs.{Prelude.slice_get, Prelude.⊤, List.AllByRecursion as AllOf}
use Rattle.lte_events.specs.{Ranges.IsEvent, Ranges.IsSetup, declared.events.Event.Event, declared.setups.Setup.Setup}
use Rattle.key_model.specs.{Chain.ncc_of, Term.Term, Value.value_of, Value.same_value}
use Rattle.pdcp_guard.specs.AsKeys.{map_as_keys}
use Rattle.lte_machine.specs.BothRuns.{annex_b_terms, written_run, written_report}
use Rattle.lte_machine.specs.{ByEvent.in_octets, ByEvent.IsValueOfRun, Ciphers.annex_b, Distinct.Member, Distinct.keys_of, Known.AllReported, Known.IsReported, Opening.open_octets, Opening.open_by_uses, Standing.RowsStandForTerms, StationState.Station, StationState.Context}
use Rattle.lte_machine.specs.Carried.{map_holding, map_stations, map_line, report_value}
use Rattle.lte_machine.specs.Ladder.{RowOrigin, OfRoot, Of, row_key, map_row}
use Rattle.lte_machine.specs.Machines.{Kept, written_machine, written_in_values}
use Rattle.lte_machine.specs.PhoneState.{Link, Radio, Idle, Connecting, Connected, map_radio, map_link}
use Rattle.lte_machine.specs.Run.{Running, Reported, run, first_world}
use Rattle.lte_machine.specs.StationState as station
use Rattle.lte_machine.specs.World.{World, Line, AtStation, Holding, happens}
use Rattle.lte_machine.proofs.{AnnexB.annex_b_ciphers, LadderRun.ladder_always, LadderRun.all_reported, StillRun.still_is_run, WholeRun.tale_is_value, Worlds.TheWorld}
use Rattle.lte_machine.proofs.EventByEvent.{step_told, step_happens, each_of_first}
use Rattle.lte_properties.specs.{Accounts.IsRowOf, Freshness.NoUseTwice, Packets.OpensTo}
use Rattle.lte_properties.specs.Agreement.{ContextAt, Agree, JoinedBy, JoinedAgree}
use Rattle.lte_properties.specs.InOctets.{NoKasmeHeld, BringsPacket, TellsText}
use Rattle.lte_properties.specs.Separation.{IsStationOf, HeldBy, NoRootHeld}
use Rattle.lte_properties.proofs.{AccountsHold.rows_are, KeySeparation.Ever.separation_holds}
use Rattle.lte_properties.proofs.EveryRun.{agrees, values_differ, packets}

-- WHERE PHONE AND STATION ARE AT ONE ADDRESS

context_value : (l : Link Term ℕ) (o : Option (Context Term ℕ)) → ContextAt l.air o (Agree l)
    → ContextAt l.air (option_map (station.map_context value_of ncc_of) o) (Agree (map_link value_of ncc_of l))
context_value l None h = tt
context_value l (Some c) h = λ e. let a = h e in (ap value_of a.0, ap ncc_of a.1, ap (map_as_keys value_of) a.2, a.3)

stations_value : (l : Link Term ℕ) (ss : List (Station Term ℕ)) → AllOf (λ s. s.id ≡ l.station → ContextAt l.air s.context (Agree l)) ss
    → AllOf (λ s. s.id ≡ l.station → ContextAt l.air s.context (Agree (map_link value_of ncc_of l))) (map_stations value_of ncc_of ss)
stations_value l [] h = tt
stations_value l (s ∷ ss) h = ((λ e. context_value l s.context (h.0 e)), stations_value l ss h.1)

joined_value : (w : TheWorld) (radio : Radio Term ℕ) → JoinedBy w radio → JoinedBy (in_octets w) (map_radio value_of ncc_of radio)
joined_value w Idle h = tt
joined_value w (Connecting waiting) h = tt
joined_value w (Connected l) h = stations_value l w.stations h

-- WHO HELD WHAT

-- an item of a list that was mapped comes from one of the list
in_map : {A B : Type 0} (f : A → B) (xs : List A) (y : B) → Member y (map f xs) → (x : A) × Member x xs × (y ≡ f x)
in_map f [] y h = absurd h
in_map f (x ∷ xs) y (inl e) = (x, inl refl, e)
in_map f (x ∷ xs) y (inr k) = let r = in_map f xs y k in (r.0, inr r.1, r.2)

all_in : {A : Type 0} (P : A → Type 0) (xs : List A) (x : A) → AllOf P xs → Member x xs → P x
all_in P [] x h k = absurd k
all_in P (y ∷ ys) x h (inl e) = subst P (sym e) h.0
all_in P (y ∷ ys) x h (inr k) = all_in P ys x h.1 k

row_member : (rows : List (RowOrigin Term)) (r : Term) → Member (OfRoot r) rows → Member r (keys_of rows)
row_member [] r h = absurd h
row_member (x ∷ xs) r (inl e) = inl (ap row_key e)
row_member (x ∷ xs) r (inr k) = inr (row_member xs r k)

held_any : (held : List (Holding Term)) (id : ℕ) (t : Term) → Member (record { holder = AtStation id; key = t }) held → HeldBy (λ i. ⊤) held t
held_any [] id t h = absurd h
held_any (x ∷ xs) id t (inl e) = inl (subst (λ h. IsStationOf (λ i. ⊤) h.holder × (h.key ≡ t)) e (tt, refl))
held_any (x ∷ xs) id t (inr k) = inr (held_any xs id t k)

root_row : (row : RowOrigin Term) (key : List ℕ) → OfRoot key ≡ map_row value_of row → (r : Term) × (row ≡ OfRoot r) × (key ≡ value_of r)
root_row (OfRoot r) key e = (r, refl, cc)
root_row (Of d) key e = absurd cc

-- a holding of a station by its octets
holding_is : (h : Holding Term) (id : ℕ) (key : List ℕ) → record { holder = AtStation id; key = key } ≡ map_holding value_of h
    → (h ≡ record { holder = AtStation id; key = h.key }) × (key ≡ value_of h.key)
holding_is h id key e =
    ((λ j. record { holder = (sym (ap (λ (x : Holding (List ℕ)). x.holder) e)) j; key = h.key }), ap (λ (x : Holding (List ℕ)). x.key) e)

module _ (setup : Setup) (events : List Event) (w : TheWorld) (runs : written_run setup events ≡ Running w) where
  abbrev here : w ≡ run (written_machine annex_b) (first_world setup) events
  here = still_is_run (open_octets annex_b_terms) (written_machine annex_b) (first_world setup) events w runs

  reported : AllReported w
  reported = all_reported annex_b_terms written_in_values (open_by_uses same_value annex_b_terms) (open_octets annex_b_terms) setup events w runs

  stand : RowsStandForTerms w.history
  stand = ladder_always annex_b_terms written_in_values (open_by_uses same_value annex_b_terms) (open_octets annex_b_terms) setup events w runs

  rows : AllOf (IsRowOf (written_machine annex_b)) w.history
  rows =
      subst (λ (v : TheWorld). AllOf (IsRowOf (written_machine annex_b)) v.history) (sym here)
      (rows_are (written_machine annex_b) (first_world setup) events tt)

  no_root : NoRootHeld w
  no_root = subst (λ (v : TheWorld). NoRootHeld v) (sym here) (separation_holds same_value annex_b_terms written_in_values setup events).no_root

  no_kasme_terms : NoKasmeHeld (in_octets w)
  no_kasme_terms id key held root =
      let h = in_map (map_holding value_of) w.held (record { holder = AtStation id; key = key }) held in
      let r = in_map (map_row value_of) w.history (OfRoot key) root in
      let at = holding_is h.0 id key h.2 in
      let is = root_row r.0 key r.2 in
      let known = all_in (λ x. IsReported w x.key) w.held h.0 reported.held h.1 in
      let same : h.0.key ≡ is.0 = stand.one h.0.key is.0 known
      (row_member w.history is.0 (subst (λ x. Member x w.history) is.1 r.1)) (sym at.1 ∙ is.2) in
      let kasme = all_in (IsRowOf (written_machine annex_b)) w.history (OfRoot is.0) rows (subst (λ x. Member x w.history) is.1 r.1) in
      no_root kasme.0 kasme.1
      (subst (HeldBy (λ i. ⊤) w.held) (same ∙ kasme.2) (held_any w.held id h.0.key (subst (λ x. Member x w.held) at.0 h.1)))

  module _ (set : IsSetup setup) (are : AllOf IsEvent events) where
    joined_terms : JoinedAgree (in_octets w)
    joined_terms = joined_value w w.phone.radio (agrees annex_b annex_b_ciphers setup events w runs set are).joined

module _ (setup : Setup) (events : List Event) (u : World (List ℕ) ℕ Kept) (is : IsValueOfRun setup events u) where
  pub uses_octets : NoUseTwice u.uses
  uses_octets = subst (λ (v : World (List ℕ) ℕ Kept). NoUseTwice v.uses) (sym is.value) (values_differ annex_b annex_b_ciphers setup events is.world is.runs)

  pub no_kasme_octets : NoKasmeHeld u
  no_kasme_octets = subst NoKasmeHeld (sym is.value) (no_kasme_terms setup events is.world is.runs)

  pub joined_octets : IsSetup setup → AllOf IsEvent events → JoinedAgree u
  joined_octets set are = subst (λ (v : World (List ℕ) ℕ Kept). JoinedAgree v) (sym is.value) (joined_terms setup events is.world is.runs set are)

-- WHAT A PACKET OPENS TO

pub got_map : {A B : Type 0} (f : A → B) (xs : List A) (k : ℕ) (x : A) → slice_get xs k ≡ Some x → slice_get (map f xs) k ≡ Some (f x)
got_map f [] k x e = absurd cc
got_map f (y ∷ ys) zero x e = let one : y ≡ x = cc in ap (λ z. Some (f z)) one
got_map f (y ∷ ys) (suc k) x e = got_map f ys k x e

pub packet_told : (setup : Setup) (events : List Event)
    → IsSetup setup
    → AllOf IsEvent events
    → (k : ℕ) (sent : List ℕ)
    → BringsPacket setup events k sent
    → TellsText setup events k sent
packet_told setup events set are k sent h =
    let opens : OpensTo (written_machine annex_b) h.world (Event.Deliver h.number) sent =
    packets annex_b annex_b_ciphers setup (take k events) h.world h.step.before set (each_of_first k events are)
    h.number h.packet sent h.record_sent h.is_packet h.ready h.in_window in
    let same : h.line ≡ (happens (written_machine annex_b) h.world (Event.Deliver h.number)).1 =
    ap (λ (d : TheWorld × Line Term). d.1) (step_happens setup events k h.world (Event.Deliver h.number) h.after h.line h.step) in record {
      line = map_line value_of h.line;
      told = ap (λ xs. slice_get xs k) (tale_is_value annex_b annex_b_ciphers setup set events are)
          ∙ got_map report_value (written_report setup events) k (Reported h.line)
          (step_told setup events k h.world (Event.Deliver h.number) h.after h.line h.step);
      done = ap (λ (l : Line Term). l.answer) same ∙ opens.0;
      opened = ap (λ (l : Line Term). l.opened) same ∙ opens.1;
    }
