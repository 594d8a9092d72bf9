-- The ladder of every run that has met no coincidence: its rows stand for the distinct terms, and every key has one.
use Rattle.std.proofs.Common.{◌≡◌, refl, sym, subst, ℕ, ◌==◌, Bool, true, false, List, [], Option, Some, None, arith, map, ◌∷◌, ap, ◌∙◌}
use Rattle.std.specs.{Prelude.◌&&◌, Prelude.slice_get, Str.bytes_eq}
use Rattle.std.proofs.lemmas.Bool.Decides.{nat_tests}
use Rattle.rec_base.specs.declared.uses.Dir.{Dir}
use Rattle.rec_base.specs.declared.uses.Dir.TheVariants.{Up, Down}
use Rattle.lte_events.specs.{declared.events.Event.Event, declared.setups.Setup.Setup}
use Rattle.key_model.specs.{HandoverTable.NumberedKey, Term.Term, Term.Root, Value.value_of, Value.same_value}
use Rattle.key_model.proofs.TermFacts.{same_value-Decides}
use Rattle.nas_guard.specs.{Keys.Keys, Seal.is_ciphered}
use Rattle.ho_prep.specs.Prep.{Prep, at_air, is_at}
use Rattle.s1x2_rec.specs.Fields.{Fields}
use Rattle.lte_machine.specs.{Bearers.Srb, Bearers.Drb, Ciphers.Ciphers, Ciphers.octets_of, PhoneKeys.signalling_expects, StationState.Station, StationState.Context, CoreState.Core, CoreState.CoreContext, World.World, Machines.sender_of, Standing.RowsStandForTerms, Standing.OctetRowsStand}
use Rattle.lte_machine.specs.Wire.{KeyUse, Ciphering, Outgoing, ciphering_if}
use Rattle.lte_machine.specs.Opening.{Opening, OpensNothing, OpensNas, OpensSrb, OpensDrb, Outcome, same_dir, same_uses}
use Rattle.lte_machine.specs.Ladder.{RowOrigin, ladder_of, map_row, row_key}
use Rattle.lte_machine.specs.PhoneState.{Radio, Idle, Connecting, Connected}
use Rattle.lte_machine.specs.StationChoice.{AirSettled as StationSettled, OnStarting, OnSignalling, OnUser, OnPrepared, StationFront, Settled as SettledHere, FromAir as FromStationAir}
use Rattle.lte_machine.specs.StationKeys.{starting_expects, signalling_expects as context_expects, user_expects, prepared_expects, station_expects}
use Rattle.lte_machine.specs.CoreChoice.{CoreFront, NasSettled as CoreNasSettled, OpensComplete, OpensProtected, Settled as CoreSettled, FromNas as FromCoreNas}
use Rattle.lte_machine.specs.CoreKeys.{opens_by_procedure, opens_by_context, core_expects}
use Rattle.lte_machine.specs.Run.{Running, replay, first_world}
use Rattle.lte_machine.specs.Distinct.{keys_of, Member, OneValueOneTerm}
use Rattle.lte_machine.proofs.{Mixed.run, Mixed.written_with, LadderMap.row_key-map, LadderMap.rows-map, StillRun.still_is_run, StillRun.still_calm}
use Rattle.lte_machine.specs.Known.{IsReported, RadioKnown, ContextKnown, PrepKnown, StationKnown, ProcedureKnown, CoreContextKnown, CoreKnown, CipheringKnown, AllReported}
use Rattle.lte_machine.proofs.History.{Laddered, among_distinct, one_value_one_term as one_of_history}
use Rattle.lte_machine.proofs.KnownLists.{OfSome, all_find, all_get}
use Rattle.lte_machine.proofs.KnownWorld.{Grounds, run_grounds, first_grounds}

-- what a receiver expects
abbrev pub OpeningKnown : (Term → Type 0) → Opening Term → Type 0
OpeningKnown P OpensNothing = Unit {0}
OpeningKnown P (OpensNas u e) = P u.key × CipheringKnown P e
OpeningKnown P (OpensSrb u e) = P u.key × CipheringKnown P e
OpeningKnown P (OpensDrb e) = P e.under.key

-- THE LADDER OF A RUN

-- of a history each of whose keys was derived from keys before it
pub rows_stand : (history : List (RowOrigin Term)) → Laddered history → (ladder_of same_value history).clash ≡ None → RowsStandForTerms history
rows_stand history ladder calm =
    let stand = ladder calm in
    record {
      calm = calm;
      rows = stand.keys;
      own = stand.well.own;
      stand = λ t m. subst (Member t) (sym stand.keys) (among_distinct [] (keys_of history) t m);
      one = one_of_history history ladder calm;
    }

-- the same ladder in octets
pub octet_rows_stand : (history : List (RowOrigin Term)) → RowsStandForTerms history → OctetRowsStand history
octet_rows_stand history h =
    ap (map row_key) (sym (rows-map same_value bytes_eq value_of (λ a b. refl) history))
    ∙ keys-map (ladder_of same_value history).rows ∙ ap (map value_of) h.rows
  where
    keys-map : (rows : List (RowOrigin Term)) → map row_key (map (map_row value_of) rows) ≡ map value_of (map row_key rows)
    keys-map [] = refl
    keys-map (row ∷ rows) = λ j. sym (row_key-map same_value bytes_eq value_of (λ a b. refl) row) j ∷ keys-map rows j

module _ (c : Ciphers Term) (between : Fields → Option (NumberedKey Term ℕ) → List ℕ)
    (opener : Opening Term → List ℕ → Option (Outgoing Term ℕ) → Outcome) where
  -- every world of every run, with any opener
  pub always_grounds : (setup : Setup) (es : List Event) → Grounds (run (written_with c between opener) (first_world setup) es)
  always_grounds setup es = run_grounds Root (octets_of c between) sender_of opener (first_world setup) es (first_grounds setup)

  module _ (by_octets : Opening Term → List ℕ → Outcome) (setup : Setup) (es : List Event) (u : World Term ℕ (Outgoing Term ℕ))
      (is : replay by_octets (written_with c between opener) (Running (first_world setup)) es ≡ Running u) where
    -- every world that a replay without a coincidence comes to
    pub still_grounds : Grounds u
    still_grounds = subst Grounds (sym (still_is_run by_octets (written_with c between opener) (first_world setup) es u is)) (always_grounds setup es)

    -- its ladder has no clash, and its rows are the distinct terms in the order of their first derivation
    pub ladder_always : RowsStandForTerms u.history
    ladder_always = rows_stand u.history still_grounds.ladder (still_calm by_octets (written_with c between opener) (first_world setup) es u refl is)

    -- and in octets their values
    pub octets_always : OctetRowsStand u.history
    octets_always = octet_rows_stand u.history ladder_always

    -- two terms that were derived, or are roots of the run, with one value are one term
    pub one_value_one_term : OneValueOneTerm (keys_of u.history)
    one_value_one_term = ladder_always.one

    -- and every key that anybody holds, that was sent or that was used, is one of them
    pub all_reported : AllReported u
    all_reported = still_grounds.keys

    -- so that of the uses of the run two with keys of one value have one key
    pub uses_apart : (i j : ℕ) (a b : KeyUse Term) → slice_get u.uses i ≡ Some a → slice_get u.uses j ≡ Some b → value_of a.key ≡ value_of b.key → a.key ≡ b.key
    uses_apart i j a b e f v = one_value_one_term a.key b.key (reported i a e) (reported j b f) v
      where
        reported : (i : ℕ) (a : KeyUse Term) → slice_get u.uses i ≡ Some a → IsReported u a.key
        reported i a e = subst (OfSome (λ x. IsReported u x.key)) e (all_get (λ x. IsReported u x.key) u.uses i all_reported.uses)

-- USES

dir_is : (d e : Dir) → same_dir d e ≡ true → d ≡ e
dir_is Up Up h = refl
dir_is Up Down h = cc
dir_is Down Up h = cc
dir_is Down Down h = refl

four : (a b c d : Bool) → (a && b && c && d) ≡ true → (a ≡ true) × (b ≡ true) × (c ≡ true) × (d ≡ true)
four true true true true h = (refl, refl, refl, refl)
four a b c d h = cc

number_is : (m n : ℕ) → (m == n) ≡ true → m ≡ n
number_is m n h = grind (arith, nat_tests)

-- two uses of such keys that are one by the values of their keys are one
pub one_use : (ts : List Term) → OneValueOneTerm ts → (u v : KeyUse Term) → Member u.key ts → Member v.key ts → same_uses same_value u v ≡ true → u ≡ v
one_use ts own u v m n h =
    let all = four (same_value u.key v.key) (u.count == v.count) (u.bearer == v.bearer) (same_dir u.dir v.dir) h in
    let key : u.key ≡ v.key = own u.key v.key m n ((same_value-Decides u.key v.key).0 all.0) in
    let count : u.count ≡ v.count = number_is u.count v.count all.1 in
    let bearer : u.bearer ≡ v.bearer = number_is u.bearer v.bearer all.2 in
    let dir : u.dir ≡ v.dir = dir_is u.dir v.dir all.3 in
    λ j. record { key = key j; count = count j; bearer = bearer j; dir = dir j }

-- WHAT A RECEIVER EXPECTS

module _ (P : Term → Type 0) where
  -- at the core: the keys of the context in use and of the open procedure
  core_ciphering_known : (b : Bool) (e : Ciphering Term) → P e.under.key → CipheringKnown P (ciphering_if b e)
  core_ciphering_known true e h = h
  core_ciphering_known false e h = tt

  procedure_opens : (o : Option (Keys Term)) (count : ℕ) → ProcedureKnown P o → OpeningKnown P (opens_by_procedure o count)
  procedure_opens None count h = tt
  procedure_opens (Some keys) count (enc, int) = (int, enc)

  context_opens : (o : Option (CoreContext Term)) (header count : ℕ) → CoreContextKnown P o → OpeningKnown P (opens_by_context o header count)
  context_opens None header count h = tt
  context_opens (Some context) header count (_, (enc, int)) = (int, core_ciphering_known (is_ciphered header) _ enc)

  pub core_opens_known : (front : CoreFront) (s : Core Term ℕ) → CoreKnown P s → OpeningKnown P (core_expects front s)
  core_opens_known (CoreSettled row) s h = tt
  core_opens_known (FromCoreNas (CoreNasSettled row)) s h = tt
  core_opens_known (FromCoreNas (OpensComplete count)) s h = procedure_opens s.procedure count h.1
  core_opens_known (FromCoreNas (OpensProtected header count)) s h = context_opens s.context header count h.2

  -- at a station: the keys of its context and of its preparations
  starting_opens : (count : ℕ) (o : Option (Context Term ℕ)) → ContextKnown P o → OpeningKnown P (starting_expects count o)
  starting_opens count None h = tt
  starting_opens count (Some c) (_, (_, int, _), _) = (int, tt)

  signalling_opens : (srb : Srb) (count : ℕ) (o : Option (Context Term ℕ)) → ContextKnown P o → OpeningKnown P (context_expects srb count o)
  signalling_opens srb count None h = tt
  signalling_opens srb count (Some c) (_, (enc, int, _), _) = (int, enc)

  user_opens : (drb : Drb) (count : ℕ) (o : Option (Context Term ℕ)) → ContextKnown P o → OpeningKnown P (user_expects drb count o)
  user_opens drb count None h = tt
  user_opens drb count (Some c) (_, (_, _, up), _) = up

  prepared_opens : (count : ℕ) (o : Option (Prep Term ℕ)) → OfSome (PrepKnown P) o → OpeningKnown P (prepared_expects count o)
  prepared_opens count None h = tt
  prepared_opens count (Some p) (_, (enc, int, _)) = (int, enc)

  pub station_opens_known : (front : StationFront) (s : Station Term ℕ) → StationKnown P s → OpeningKnown P (station_expects front s)
  station_opens_known (SettledHere row) s h = tt
  station_opens_known (FromStationAir (StationSettled row)) s h = tt
  station_opens_known (FromStationAir (OnStarting count)) s h = starting_opens count s.context h.0
  station_opens_known (FromStationAir (OnSignalling srb count)) s h = signalling_opens srb count s.context h.0
  station_opens_known (FromStationAir (OnUser drb count)) s h = user_opens drb count s.context h.0
  station_opens_known (FromStationAir (OnPrepared air by count)) s h =
      prepared_opens count (at_air air s.preps) (all_find (PrepKnown P) (is_at air) s.preps h.1)

  -- a phone on a connection expects keys that it has reported
  pub link_opens_known : (srb : Srb) (count : ℕ) (radio : Radio Term ℕ) → RadioKnown P radio → OpeningKnown P (signalling_expects srb count radio)
  link_opens_known srb count Idle h = tt
  link_opens_known srb count (Connecting w) h = tt
  link_opens_known srb count (Connected l) (_, _, (enc, int, _)) = (int, enc)
