-- What a station makes and what the phone takes is told in the line of its event: its key, and the NCC of its number.
use Rattle.std.proofs.Common.{◌≡◌, refl, sym, ap, ◌∙◌, subst, ℕ, Bool, List, [], ◌∷◌, ◌++◌, Option, Some, None, ◌≢◌, inl, inr}
use Rattle.std.specs.Prelude.{⊤, ◌⊎◌}
use Rattle.lte_events.specs.{declared.lines.Who.Who, declared.events.Event.Event}
use Rattle.key_model.specs.{Term.Term, HandoverTable.NumberedKey, Reading.term_reading_by}
use Rattle.lte_machine.proofs.{StationCases.station_case, Routing.happens_each, Worlds.TheWorld}
use Rattle.lte_machine.specs.{Wire.KeyUse, Wire.Outgoing, Opening.Opening, Opening.Outcome, PhoneState.PhoneInput, StationState.Station, StationState.StationInput, PhoneChoice.phone_row, StationRows.StationRow, StationKeys.station_does, PhoneKeys.phone_does}
use Rattle.lte_machine.specs.Reply.{Note, Reply, Made, Took}
use Rattle.lte_machine.specs.StationStep.{station_opens, station_pdu_in, station_row_of, station_key}
use Rattle.lte_machine.specs.World.{Machine, phone_turn, turn_of, happens, with_one, Line}
use Rattle.lte_machine.specs.PhoneStep.{plain_phone, front_of, phone_root, phone_opens, phone_pdu_in}
use Rattle.lte_properties.specs.ChainHolds.{machine_by}
use Rattle.lte_properties.specs.Agreement.{Reported, MadeIsTold, TookIsTold, KeysTold, TellsNoneGiven}
use Rattle.lte_machine.proofs.PhoneGives.{NotedAs, TookNoted, phone_gives}
use Rattle.rec_base.specs.declared.ways.Way.{Way}
use Rattle.nh_chain.specs.Station.{way_of}

-- a completed handover, and KeNB* that a source makes, are not told as given
completed_differs : Way.Completed ≡ Way.Given → ⊥
completed_differs e = cc

way_differs : (o : Option (NumberedKey Term ℕ)) → way_of o ≡ Way.Given → ⊥
way_differs None e = cc
way_differs (Some pair) e = cc

abbrev MadeNoted : ℕ → Option (Note Term) → Option (Made Term ℕ) → Type 0
MadeNoted id None None = ⊤
MadeNoted id (Some note) None = note.way ≢ Way.Given
MadeNoted id told (Some m) = (m.station ≡ id) × NotedAs told m.key m.number

-- A STATION'S ROWS

abbrev Notes : ℕ → Station Term ℕ × Reply Term ℕ → Type 0
Notes id d = MadeNoted id d.1.note d.1.made

station_notes : (same : Term → Term → Bool) (row : StationRow) (key : Option (NumberedKey Term ℕ)) (s : Station Term ℕ)
    → Notes s.id (station_does (term_reading_by same) row key s)
station_notes same row key s =
    station_case (term_reading_by same) s (Notes s.id)
    (record {
      nothing = λ answer. tt;
      given = λ conn cell caps algs air kenb k. (refl, (refl, refl));
      released = λ key k. tt;
      taken = λ conn origin pair k. tt;
      by_s1 = λ w pair k. (refl, (refl, refl));
      by_x2 = λ w star k. (refl, (refl, refl));
      answered = λ order key k. tt;
      cancelled = λ from key k. tt;
      left = λ key k. tt;
      renewed = λ conn number air count c e kenb k. (refl, (refl, refl));
    })
    (record {
      nothing = λ answer. tt;
      secured = λ count k. tt;
      opened = λ srb count text k. tt;
      packet = λ drb count text k. tt;
      by_s1 = λ at count k p e. completed_differs;
      within = λ at count origin k p e. completed_differs;
      by_x2 = λ at count number k p e. completed_differs;
    })
    (record {
      nothing = λ answer. tt;
      by_x2 = λ number target cell k c e. way_differs c.key.pair;
      by_s1 = λ number target cell k c e. tt;
      within = λ number air cell k c e. (refl, (refl, refl));
      commanded = λ via order count k c e. tt;
      cancelled_x2 = λ conn number target k. tt;
      cancelled_s1 = λ conn number cell k. tt;
      cancelled_within = λ number k. tt;
      asked = λ number k c e. tt;
      packet = λ drb count text k c e. tt;
      text = λ srb count text k c e. tt;
      skipped = λ on n k. tt;
    }) row key

-- THE WORLD

-- a note that has a key tells it
noted_tells : (l : Line Term) (who : Who) (key : Term) (number : ℕ)
    → l.who ≡ who
    → (o : Option (Note Term))
    → l.note ≡ o
    → NotedAs o key number
    → Reported l who key number
noted_tells l who key number is None e h = absurd h
noted_tells l who key number is (Some note) e h = (note, is, e, h.0, h.1)

none_given : (id : ℕ) (o : Option (Note Term)) → MadeNoted id o None → TellsNoneGiven (Who.Station id) o
none_given id None h = tt
none_given id (Some note) h = h

made_told : (made : List (Made Term ℕ)) (o : Option (Made Term ℕ)) (id : ℕ) (l : Line Term) → l.who ≡ Who.Station id → MadeNoted id l.note o
    → ((with_one o made ≡ made) × TellsNoneGiven l.who l.note)
    ⊎ ((m : Made Term ℕ) × (with_one o made ≡ made ++ m ∷ []) × Reported l (Who.Station m.station) m.key m.number)
made_told made None id l is h = inl (refl, subst (λ who. TellsNoneGiven who l.note) (sym is) (none_given id l.note h))
made_told made (Some m) id l is h =
    inr (m, refl, noted_tells l (Who.Station m.station) m.key m.number (is ∙ ap Who.Station (sym h.0)) l.note refl h.1)

no_note : (o : Option (Note Term)) → TookNoted o None → o ≡ None
no_note None h = refl
no_note (Some note) h = absurd h

core_is_none : Who.Core ≡ Who.Phone → ⊥
core_is_none e = cc

station_is_none : (id : ℕ) → Who.Station id ≡ Who.Phone → ⊥
station_is_none id e = cc

both_is_none : Who.Both ≡ Who.Phone → ⊥
both_is_none e = cc

world_is_none : Who.World ≡ Who.Phone → ⊥
world_is_none e = cc

took_told : (took : List (Took Term ℕ)) (o : Option (Took Term ℕ)) (l : Line Term) → l.who ≡ Who.Phone → TookNoted l.note o
    → ((with_one o took ≡ took) × (l.who ≡ Who.Phone → l.note ≡ None))
    ⊎ ((x : Took Term ℕ) × (with_one o took ≡ took ++ x ∷ []) × Reported l Who.Phone x.key x.number)
took_told took None l is h = inl (refl, λ e. no_note l.note h)
took_told took (Some x) l is h = inr (x, refl, noted_tells l Who.Phone x.key x.number is l.note refl h)

abbrev pub BothTold : TheWorld → TheWorld × Line Term → Type 0
BothTold w h = MadeIsTold w h.0 h.1 × TookIsTold w h.0 h.1

module _ (same : Term → Term → Bool) (root : ℕ → List ℕ → Term) (octets : Outgoing Term ℕ → List ℕ)
    (sender : Option (Outgoing Term ℕ) → Option (KeyUse Term))
    (opener : Opening Term → List ℕ → Option (Outgoing Term ℕ) → Outcome) where
  abbrev m : Machine Term ℕ (Outgoing Term ℕ)
  m = machine_by same root octets sender opener

  module _ (w : TheWorld) where
    phone_told : (input : PhoneInput Term) (came : Option (Outgoing Term ℕ)) → BothTold w (phone_turn m w input came)
    phone_told input came =
        let h = phone_turn m w input came in
        let outcome = opener (phone_opens (term_reading_by same) w.phone input) (phone_pdu_in input) came in
        let row = phone_row (plain_phone (term_reading_by same) w.phone) (front_of (term_reading_by same) w.phone input) outcome in (
          inl (refl, tt),
          took_told w.took (phone_does (term_reading_by same) row (phone_root input) w.phone).1.took h.1 refl
              (phone_gives same row (phone_root input) w.phone).1,
        )

    station_told : (id : ℕ) (input : StationInput Term ℕ) (came : Option (Outgoing Term ℕ)) (s : Station Term ℕ)
        → s.id ≡ id
        → BothTold w (turn_of m w id input came (Some s))
    station_told id input came s own =
        let h = turn_of m w id input came (Some s) in
        let outcome = opener (station_opens (term_reading_by same) s input) (station_pdu_in input) came in
        let row = station_row_of (term_reading_by same) s input outcome in
        let notes = station_notes same row (station_key input) s in (
          made_told w.made (station_does (term_reading_by same) row (station_key input) s).1.made id h.1 refl
              (subst (λ n. MadeNoted n h.1.note (station_does (term_reading_by same) row (station_key input) s).1.made) own notes),
          inl (refl, λ f. absurd (station_is_none id f)),
        )

    happens_told : (e : Event) → BothTold w (happens m w e)
    happens_told =
        happens_each m w (λ done a. BothTold w done)
        (λ ksi key caps. (inl (refl, tt), inl (refl, λ f. absurd (both_is_none f))))
        (λ input came turn. phone_told input came)
        (λ input came. (inl (refl, tt), inl (refl, λ f. absurd (core_is_none f)))) (λ id input came s there own. station_told id input came s own)
        (λ answer. (inl (refl, tt), inl (refl, λ f. absurd (world_is_none f))))

  -- in every run
  pub keys_told : (w : TheWorld) (es : List Event) → KeysTold m w es
  keys_told w [] = tt
  keys_told w (e ∷ es) = let told = happens_told w e in (told.0, told.1, keys_told (happens m w e).0 es)
