-- In every world of a run the second case of opening comes at a station alone whose context's security is starting.
use Rattle.std.proofs.Common.{◌≡◌, refl, sym, ap, ◌∙◌, subst, ℕ, Bool, List, Option, Some, None}
use Rattle.std.specs.Prelude.{⊤}
use Rattle.rec_base.specs.declared.uses.Dir.TheVariants.{Up, Down}
use Rattle.lte_events.specs.{declared.addresses.Address.Address, declared.lines.Who.Who, Site.Site}
use Rattle.key_model.specs.{HandoverTable.NumberedKey, Reading.term_reading_by, Term.Term, Term.Root}
use Rattle.ho_prep.specs.Prep.{at_air}
use Rattle.s1x2_rec.specs.Fields.{Fields}
use Rattle.lte_machine.specs.{Bearers.which, Ciphers.Ciphers, Ciphers.octets_of, PhoneChoice.unciphered_text, StationStep.plain_station}
use Rattle.lte_machine.specs.Opening.{Opening, Outcome, CipheredElse}
use Rattle.lte_machine.specs.StationState.{Station, Context, AirPdu}
use Rattle.lte_machine.specs.Step.{Attempted, phone_attempts, attempts_at}
use Rattle.lte_machine.specs.Wire.{KeyUse, Outgoing, SealedNas, PlainNas, SealedRrc, UserPacket, Between}
use Rattle.lte_machine.specs.World.{Machine, Line, phone_turn, station_of_id, turn_of, next_root}
use Rattle.rec_base.specs.declared.bearers.Bearer.{Bearer}
use Rattle.lte_machine.specs.PhoneState.{PhoneInput, PhoneAuth, PhoneActs, PhoneNasPdu, PhoneAirPdu}
use Rattle.lte_machine.proofs.Routing.{IsTurn, PhoneGets, Found, Turns, happens_by}
use Rattle.lte_properties.specs.ChainHolds.{machine_by}
use Rattle.lte_properties.specs.SecondCase.{sender_at, IsStarting, SecondAtStarting}
use Rattle.lte_properties.proofs.{ChainNumbers.Lists.all_both, Agreement.Calm.NewKenb, Opening.Steps.which_srb, Agreement.Ghost.StationOk, Agreement.Ghost.SentOk, Agreement.Opener.octets_tell, Agreement.PhoneWalk.CameDown, Agreement.StationOpens.CameUp, Opening.Heard.Heard, Opening.Heard.AllHeard, Opening.Nas.Choices, Opening.SecondNas.phone_nas_never, Opening.SecondNas.core_nas_never, Opening.World.PacketsOk}
use Rattle.lte_properties.proofs.Agreement.World.{Conns, ghost, WorldOk}
use Rattle.lte_properties.proofs.Opening.Nas as nas
use Rattle.lte_properties.proofs.Opening.NasOpens as nas_opens
use Rattle.lte_properties.proofs.Opening.SecondAir.{Starts, phone_air_never, station_air_second}
use Rattle.lte_properties.proofs.Opening.SecondNas as second_nas
use Rattle.lte_machine.proofs.{CipherLaws.AreCiphers, Worlds.TheWorld}

module _ (same : Term → Term → Bool) (sender : Option (Outgoing Term ℕ) → Option (KeyUse Term))
    (opener : Opening Term → List ℕ → Option (Outgoing Term ℕ) → Outcome) (c : Ciphers Term) (good : AreCiphers c)
    (between : Fields → Option (NumberedKey Term ℕ) → List ℕ) (cells : List Site)
    (g : Choices) (k : Conns) (w : TheWorld) (ok : WorldOk cells k w) (packets : PacketsOk g k w) (heard : AllHeard w)
    (new : NewKenb w.took w.phone.radio) where
  abbrev m : Machine Term ℕ (Outgoing Term ℕ)
  m = machine_by same Root (octets_of c between) sender opener

  abbrev SecondOf : Attempted Term (Outgoing Term ℕ) → Line Term → Type 0
  SecondOf a line = sender_at a.opening a.came ≡ CipheredElse → IsStarting w line

  -- what came to an address: nothing that was sent, or a record of its sender
  abbrev CameTo : Address → List ℕ → Option (Outgoing Term ℕ) → Type 0
  CameTo Address.PhoneNas pdu came = nas_opens.CameDown same g (next_root w) c good pdu came
  CameTo (Address.Phone station air bearer) pdu came = CameDown (ghost k w) station air (which bearer) pdu came
  CameTo Address.CoreNas pdu came = second_nas.CameUp g (next_root w) same c good pdu came
  CameTo (Address.StationAir station air bearer) pdu came = CameUp (ghost k w) station air came
  CameTo other pdu came = ⊤

  -- A STATION

  abbrev IsAt : Station Term ℕ → Type 0
  IsAt s = StationOk cells (ghost k w) s × Heard s.context

  starts : (id : ℕ) (s : Station Term ℕ)
      → station_of_id id w.stations ≡ Some s
      → (line : Line Term)
      → line.who ≡ Who.Station id
      → (o : Option (Context Term ℕ))
      → s.context ≡ o
      → Starts o
      → IsStarting w line
  starts id s there line who None is h = absurd h
  starts id s there line who (Some d) is h = record { id = id; who = who; station = s; there = there; context = d; serves = is; starting = h }

  station_second : (id air : ℕ) (bearer : Bearer) (pdu : List ℕ) (came : Option (Outgoing Term ℕ))
      → CameTo (Address.StationAir id air bearer) pdu came
      → (s : Station Term ℕ)
      → Found w IsAt id s
      → SecondOf (attempts_at m (AirPdu air bearer pdu) came (Some s)) (turn_of m w id (AirPdu air bearer pdu) came (Some s)).1
  station_second id air bearer pdu came h s f = λ e.
      starts id s f.there (turn_of m w id (AirPdu air bearer pdu) came (Some s)).1 refl s.context refl
      (station_air_second same cells (ghost k w) s f.holds.0 f.holds.1 air came (subst (λ n. CameUp (ghost k w) n air came) (sym f.own) h) s.context refl
      (at_air air (plain_station (term_reading_by same) s).preps) (which bearer) pdu e)

  phone_second : (input : PhoneInput Term) (came : Option (Outgoing Term ℕ))
      → IsTurn input
      → PhoneGets (λ e. ⊤) CameTo input came
      → SecondOf (phone_attempts m w input came) (phone_turn m w input came).1
  phone_second (PhoneAuth ksi root) came turn h = absurd turn
  phone_second (PhoneActs act) came turn h = λ e. absurd cc
  phone_second (PhoneNasPdu pdu) came turn h = λ e. absurd (phone_nas_never g (next_root w) same c good w.phone packets.phone pdu came h e)
  phone_second (PhoneAirPdu station air bearer pdu) came turn h = λ e.
      absurd (phone_air_never same (ghost k w) w.phone station air pdu (which bearer) came h ok.radio new e)

  turns : Turns m w (λ e. ⊤) CameTo IsAt (λ done a. SecondOf a done.1)
  turns = record {
    auth = λ ksi octets caps is none e. absurd cc;
    phone = phone_second;
    core_acts = λ act is e. absurd cc;
    core_nas = λ pdu came h e. absurd (core_nas_never g (next_root w) same c good between w.core packets.core pdu came h e);
    core_record = λ pdu came h e. absurd cc;
    station_acts = λ id act is s f e. absurd cc;
    station_air = station_second;
    station_record = λ on id pdu came h s f e. absurd cc;
    none = λ answer e. absurd cc;
  }

  -- WHAT WAS SENT

  none_came : (to : Address) (pdu : List ℕ) → CameTo to pdu None
  none_came Address.PhoneNas pdu = tt
  none_came other pdu = tt

  between_came : (to : Address) (pdu : List ℕ) (fields : Fields) (key : Option (NumberedKey Term ℕ)) → CameTo to pdu (Some (Between to fields key))
  between_came Address.PhoneNas pdu fields key = tt
  between_came other pdu fields key = tt

  sent_came : (x : Outgoing Term ℕ) → SentOk (ghost k w) x → nas.SentOk g (next_root w) x → CameTo (m.address x) (m.octets x) (Some x)
  sent_came (SealedNas Down header i e text) a n = (refl, n)
  sent_came (SealedNas Up header i e text) a n = (refl, n)
  sent_came (PlainNas octets) a n = tt
  sent_came (SealedRrc Down station air srb i e text) a n = record {
    is_station = refl;
    is_air = refl;
    is_on = which_srb srb;
    down = a;
    plain = λ none. ap (λ f. unciphered_text (octets_of c between (SealedRrc Down station air srb i f text))) none
        ∙ (octets_tell c good between).text Down station air srb i text;
  }
  sent_came (SealedRrc Up station air srb i e text) a n = (refl, refl, a)
  sent_came (UserPacket Down station air drb e text) a n = tt
  sent_came (UserPacket Up station air drb e text) a n = tt
  sent_came (Between to fields key) a n = between_came to (octets_of c between (Between to fields key)) fields key

  -- every event
  pub second_at : SecondAtStarting m w
  second_at e =
      happens_by turns none_came (all_both (SentOk (ghost k w)) (nas.SentOk g (next_root w))
      (λ x. CameTo (m.address x) (m.octets x) (Some x)) sent_came w.sent ok.sent packets.nas)
      (all_both (StationOk cells (ghost k w)) (λ s. Heard s.context) IsAt (λ s a b. (a, b)) w.stations ok.stations heard) e tt
