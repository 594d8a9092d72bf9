-- In every world of every run each derivation can be added, and each key that was held was made.
use Rattle.std.proofs.Common.{◌≡◌, refl, sym, ap, subst, ◌∙◌, ℕ, List, [], ◌∷◌, ◌++◌, map, Option, Some, None, option_map, inl, inr}
use Rattle.std.specs.Str.{bytes_eq}
use Rattle.std.proofs.lemmas.List.{map-append}
use Rattle.lte_events.specs.{Ranges.IsEvent, declared.events.Event.Event}
use Rattle.key_model.specs.{Derivation.Derivation, Derivation.map_derivation, Reading.Reading, Reading.term_reading_by, Term.Term, Term.IsWellFormed, Value.value_of, Value.same_value}
use Rattle.lte_machine.specs.Wire.{KeyUse, Outgoing, Between}
use Rattle.lte_machine.specs.{Opening.Opening, Opening.Outcome, Carried.map_clash, PhoneState.PhoneInput, PhoneChoice.phone_row, CoreChoice.core_row, Machines.machine_by, Distinct.keys_of, Distinct.Member}
use Rattle.lte_machine.specs.Ladder.{RowOrigin, OfRoot, Of, map_row, Clash, Ladder, add_next, add_rows, no_rows, ladder_of}
use Rattle.lte_machine.specs.PhoneStep.{plain_phone, front_of, phone_root, phone_opens, phone_pdu_in, phone_step}
use Rattle.lte_machine.specs.StationState.{Station, StationInput, StationActs, AirPdu, StationRecord}
use Rattle.lte_machine.specs.StationStep.{key_read, station_key, station_opens, station_pdu_in, station_row_of, station_step}
use Rattle.lte_machine.specs.CoreState.{CoreInput, CoreActs, CoreNasPdu, CoreRecord}
use Rattle.lte_machine.specs.CoreStep.{plain_core, core_front_of, core_root, core_opens, core_pdu_in, core_step}
use Rattle.lte_machine.specs.World.{Machine, World, phone_turn, core_turn, turn_of, next_root, content_in, happens}
use Rattle.lte_machine.specs.Known.{PairKnown, StationKnown, SentKnown, IsReported}
use Rattle.lte_machine.proofs.{History.Laddered, History.among_distinct, KnownPhone.phone_does_keeps, KnownStation.station_does_keeps, KnownCore.core_does_keeps, KnownWorld.Grounds, LadderMap.ladder_of-map, Rows.From, Rows.from_more}
use Rattle.lte_machine.proofs.KnownLadder.{laddered_chain, still_in, new_in, outs_in, outs_more}
use Rattle.lte_machine.proofs.KnownLists.{OfSome, Plus, Chain, AllOut, chain_more, all_both}
use Rattle.lte_machine.proofs.RangeHolds.{StationRanged, StationInputRanged, RecordRanged, ReadRanged, Ranged}
use Rattle.lte_machine.proofs.Routing.{Turns, no_root, happens_by}
use Rattle.store_laws.specs.Additions.{CanAddTo, AllCanAdd}
use Rattle.store_laws.proofs.{Adding.valued, Adding.can_add, Cells.CellsIn, Cells.phone_step_cells, CellsElsewhere.station_step_cells, CellsElsewhere.core_step_cells}

-- LADDERS OF LONGER HISTORIES

pub rows_append : (l : Ladder (List ℕ)) (ms ns : List (RowOrigin (List ℕ))) → add_rows bytes_eq l (ms ++ ns) ≡ add_rows bytes_eq (add_rows bytes_eq l ms) ns
rows_append l [] ns = refl
rows_append l (m ∷ ms) ns = rows_append (add_next bytes_eq l m) ms ns

pub all_can_append : (l : Ladder (List ℕ)) (ms ns : List (RowOrigin (List ℕ))) → AllCanAdd l ms → AllCanAdd (add_rows bytes_eq l ms) ns → AllCanAdd l (ms ++ ns)
all_can_append l [] ns h k = k
all_can_append l (m ∷ ms) ns h k = (h.0, all_can_append (add_next bytes_eq l m) ms ns h.1 k)

ladder_one : (history : List (RowOrigin Term)) (o : RowOrigin Term)
    → ladder_of bytes_eq (valued (history ++ o ∷ []))
    ≡ add_next bytes_eq (ladder_of bytes_eq (valued history)) (map_row value_of o)
ladder_one history o = ap (ladder_of bytes_eq) (map-append (map_row value_of) history (o ∷ [])) ∙ rows_append no_rows (valued history) (map_row value_of o ∷ [])

-- the ladder in octets has a clash where that of the terms has one
calm_terms : (history : List (RowOrigin Term)) → (ladder_of bytes_eq (valued history)).clash ≡ None → (ladder_of same_value history).clash ≡ None
calm_terms history e = by (ladder_of same_value history).clash refl
  where
    by : (o : Option (Clash Term)) → (ladder_of same_value history).clash ≡ o → (ladder_of same_value history).clash ≡ None
    by None is = is
    by (Some c) is =
        let carried : option_map (map_clash value_of) (ladder_of same_value history).clash ≡ None =
        ap (λ l. l.clash) (ladder_of-map same_value bytes_eq value_of (λ a b. refl) history) ∙ e in
        let bad : Some (map_clash value_of c) ≡ None = ap (option_map (map_clash value_of)) (sym is) ∙ carried in
        absurd cc

-- one derivation from keys of a history
one_can : (history : List (RowOrigin Term)) (d : Derivation Term) → Laddered history →
    From (λ t. Member t (keys_of history)) d → CellsIn (d ∷ []) → IsWellFormed d.out →
    (ladder_of bytes_eq (valued history)).clash ≡ None → CanAddTo (ladder_of bytes_eq (valued history)).rows (Of (map_derivation value_of d))
one_can history d ladder f cells wf calm =
    let stand = ladder (calm_terms history calm) in
    let rows : List (RowOrigin Term) = (ladder_of same_value history).rows in
    let from = from_more (λ t. Member t (keys_of history)) (λ t. Member t (keys_of rows))
    (λ t m. subst (Member t) (sym stand.keys) (among_distinct [] (keys_of history) t m)) d f in
    subst (λ rs. CanAddTo rs (Of (map_derivation value_of d)))
    (ap (λ l. l.rows) (ladder_of-map same_value bytes_eq value_of (λ a b. refl) history))
    (can_add rows stand.well d from cells.0 wf)

after_one : (history : List (RowOrigin Term)) (d : Derivation Term) (t : Term)
    → Plus (λ u. Member u (keys_of history)) d.out t
    → Member t (keys_of (history ++ Of d ∷ []))
after_one history d t (inl m) = still_in history (Of d ∷ []) t m
after_one history d t (inr e) = new_in history (Of d ∷ []) t (inl e)

-- and one after the other
pub chain_can : (history : List (RowOrigin Term)) (ds : List (Derivation Term)) → Laddered history →
    Chain (λ t. Member t (keys_of history)) ds → CellsIn ds → AllOut IsWellFormed ds →
    AllCanAdd (ladder_of bytes_eq (valued history)) (valued (map Of ds))
chain_can history [] ladder c cells wf = tt
chain_can history (d ∷ ds) ladder c cells wf = (
  one_can history d ladder c.0 (cells.0, tt) wf.0,
  subst (λ l. AllCanAdd l (valued (map Of ds))) (ladder_one history (Of d))
      (chain_can (history ++ Of d ∷ []) ds (laddered_chain history (d ∷ []) ladder (c.0, tt))
      (chain_more (Plus (λ t. Member t (keys_of history)) d.out) (λ t. Member t (keys_of (history ++ Of d ∷ []))) (after_one history d) ds c.1)
      cells.1 wf.1),
)

-- ONE EVENT, of any machine over terms whose keys are one where their values are

-- all of a history can be added
abbrev pub CanAll : List (RowOrigin Term) → Type 0
CanAll history = AllCanAdd no_rows (valued history)

abbrev pub WellKeys : List (RowOrigin Term) → Type 0
WellKeys history = (t : Term) → Member t (keys_of history) → IsWellFormed t

chain_all : (history : List (RowOrigin Term)) (ds : List (Derivation Term)) → CanAll history → Laddered history →
    Chain (λ t. Member t (keys_of history)) ds → CellsIn ds → WellKeys (history ++ map Of ds) →
    CanAll (history ++ map Of ds)
chain_all history ds can ladder c cells well =
    subst (AllCanAdd no_rows) (sym (map-append (map_row value_of) history (map Of ds)))
    (all_can_append no_rows (valued history) (valued (map Of ds)) can
    (chain_can history ds ladder c cells (outs_more (λ t. Member t (keys_of (history ++ map Of ds))) IsWellFormed well ds (outs_in history ds))))

root_all : (history : List (RowOrigin Term)) (key : Term) → CanAll history → CanAll (history ++ OfRoot key ∷ [])
root_all history key can =
    subst (AllCanAdd no_rows) (sym (map-append (map_row value_of) history (OfRoot key ∷ [])))
    (all_can_append no_rows (valued history) (valued (OfRoot key ∷ [])) can ((λ calm. tt), tt))

module _ (root : ℕ → List ℕ → Term) (octets : Outgoing Term ℕ → List ℕ)
    (sender : Option (Outgoing Term ℕ) → Option (KeyUse Term))
    (opener : Opening Term → List ℕ → Option (Outgoing Term ℕ) → Outcome)
    (w : World Term ℕ (Outgoing Term ℕ)) (g : Grounds w) (f : Ranged w) (can : CanAll w.history) where
  abbrev m : Machine Term ℕ (Outgoing Term ℕ)
  m = machine_by same_value root octets sender opener

  abbrev r : Reading Term ℕ
  r = term_reading_by same_value

  abbrev P : Term → Type 0
  P = IsReported w

  -- what an event leaves, where all its keys are well-formed
  abbrev Can : World Term ℕ (Outgoing Term ℕ) → Type 0
  Can after = WellKeys after.history → CanAll after.history

  phone_turn_can : (i : PhoneInput Term) (came : Option (Outgoing Term ℕ)) → OfSome P (phone_root i) → Can (phone_turn m w i came).0
  phone_turn_can i came k well =
      let outcome = opener (phone_opens r w.phone i) (phone_pdu_in i) came in
      let d = phone_step r w.phone i outcome in
      chain_all w.history d.1.derived can g.ladder
      (phone_does_keeps same_value P P (λ t h. h) (phone_row (plain_phone r w.phone) (front_of r w.phone i) outcome) (phone_root i) w.phone k g.keys.phone).0
      (phone_step_cells r w.phone i outcome) well

  core_turn_can : (i : CoreInput Term ℕ) (came : Option (Outgoing Term ℕ)) → OfSome P (core_root i) → Can (core_turn m w i came).0
  core_turn_can i came k well =
      let outcome = opener (core_opens r w.core i) (core_pdu_in i) came in
      let d = core_step r w.core i outcome in
      chain_all w.history d.1.derived can g.ladder
      (core_does_keeps same_value P P (λ t h. h) (core_row (plain_core r w.core) (core_front_of r w.core i) outcome) (core_root i) w.core k g.keys.core).0
      (core_step_cells r w.core i outcome) well

  station_turn_can : (id : ℕ) (i : StationInput Term ℕ) (came : Option (Outgoing Term ℕ)) (s : Station Term ℕ) →
      PairKnown P (station_key i) → StationInputRanged i →
      StationKnown P s → StationRanged s → Can (turn_of m w id i came (Some s)).0
  station_turn_can id i came s k n known ranged well =
      let outcome = opener (station_opens r s i) (station_pdu_in i) came in
      let d = station_step r s i outcome in
      chain_all w.history d.1.derived can g.ladder
      (station_does_keeps same_value P P (λ t h. h) (station_row_of r s i outcome) (station_key i) s k known).0
      (station_step_cells r s i outcome ranged n) well

  -- what came, if it was sent
  abbrev CameGood : Option (Outgoing Term ℕ) → Type 0
  CameGood came = OfSome (λ x. SentKnown P x × RecordRanged x) came

  read_known : (came : Option (Outgoing Term ℕ)) → CameGood came → PairKnown P (key_read (content_in m came))
  read_known (Some (Between to fields key)) (known, _) = known
  read_known other c = tt

  read_ranged : (came : Option (Outgoing Term ℕ)) → CameGood came → ReadRanged (content_in m came)
  read_ranged (Some (Between to fields key)) (_, (ranged, _)) = ranged
  read_ranged other c = tt

  turns : Turns m w IsEvent (λ to pdu came. CameGood came) (λ s. StationKnown P s × StationRanged s) (λ done a. Can done.0)
  turns = record {
    auth = λ ksi key caps is new well. root_all w.history (root (next_root w) key) can;
    phone = λ i came turn is. phone_turn_can i came (no_root P i turn);
    core_acts = λ act is. core_turn_can (CoreActs act) None tt;
    core_nas = λ pdu came is. core_turn_can (CoreNasPdu pdu) came tt;
    core_record = λ pdu came is. core_turn_can (CoreRecord (content_in m came)) came tt;
    station_acts = λ id act is s f. station_turn_can id (StationActs act) None s tt is f.holds.0 f.holds.1;
    station_air = λ id air bearer pdu came is s f. station_turn_can id (AirPdu air bearer pdu) came s tt tt f.holds.0 f.holds.1;
    station_record = λ on id pdu came is s f.
        station_turn_can id (StationRecord on (content_in m came)) came s (read_known came is) (read_ranged came is)
        f.holds.0 f.holds.1;
    none = λ answer well. can;
  }

  pub happens_can : (e : Event) → IsEvent e → Can (happens m w e).0
  happens_can =
      happens_by turns (λ to pdu. tt) (all_both (SentKnown P) RecordRanged (λ x. SentKnown P x × RecordRanged x) (λ x h k. (h, k)) w.sent g.keys.sent f.2)
      (all_both (StationKnown P) StationRanged (λ s. StationKnown P s × StationRanged s) (λ s h k. (h, k)) w.stations g.keys.stations f.1)
