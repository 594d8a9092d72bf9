-- What comes to an address was sent there with its octets, or nobody sent it: what agreement's invariant says of it.
use Rattle.std.proofs.Common.{refl, ap, ◌∙◌, List, ℕ, Option, Some, None}
use Rattle.std.specs.Prelude.{⊤}
use Rattle.rec_base.specs.declared.uses.Dir.TheVariants.{Up, Down}
use Rattle.lte_events.specs.declared.addresses.Address.{Address}
use Rattle.key_model.specs.{HandoverTable.NumberedKey, Term.Term}
use Rattle.s1x2_rec.specs.Fields.{Fields}
use Rattle.lte_machine.specs.{Bearers.which, PhoneChoice.unciphered_text}
use Rattle.lte_machine.specs.Wire.{Outgoing, SealedNas, PlainNas, SealedRrc, UserPacket, Between, address_of}
use Rattle.lte_properties.proofs.{Agreement.CoreOpens.CameNas, Agreement.PhoneWalk.CameDown, Agreement.StationOpens.CameUp, Agreement.World.OctetsTell, Agreement.World.ReadOk, Opening.Steps.which_srb}
use Rattle.lte_properties.proofs.Agreement.Ghost.{Ghost, SentOk, BetweenOk}

abbrev pub CameTo : Ghost → Address → List ℕ → Option (Outgoing Term ℕ) → Type 0
CameTo g Address.PhoneNas pdu came = ⊤
CameTo g (Address.Phone station air bearer) pdu came = CameDown g station air (which bearer) pdu came
CameTo g Address.CoreNas pdu came = CameNas pdu came
CameTo g Address.CoreS1 pdu came = ReadOk (BetweenOk g Address.CoreS1) came
CameTo g (Address.StationAir station air bearer) pdu came = CameUp g station air came
CameTo g (Address.StationS1 station) pdu came = ReadOk (BetweenOk g (Address.StationS1 station)) came
CameTo g (Address.StationX2 station) pdu came = ReadOk (BetweenOk g (Address.StationX2 station)) came

pub none_came : (g : Ghost) (to : Address) (pdu : List ℕ) → CameTo g to pdu None
none_came g Address.PhoneNas pdu = tt
none_came g other pdu = tt

between_came : (g : Ghost) (to : Address) (pdu : List ℕ) (fields : Fields) (key : Option (NumberedKey Term ℕ))
    → BetweenOk g to fields key
    → CameTo g to pdu (Some (Between to fields key))
between_came g Address.CoreS1 pdu fields key k = k
between_came g (Address.StationS1 station) pdu fields key k = k
between_came g (Address.StationX2 station) pdu fields key k = k
between_came g other pdu fields key k = tt

module _ (octets : Outgoing Term ℕ → List ℕ) (tell : OctetsTell octets) where
  pub sent_came : (g : Ghost) (x : Outgoing Term ℕ) → SentOk g x → CameTo g (address_of x) (octets x) (Some x)
  sent_came g (SealedNas Up header i e text) k = (k, tell.header Up header i e text)
  sent_came g (SealedNas Down header i e text) k = tt
  sent_came g (PlainNas pdu) k = tt
  sent_came g (SealedRrc Up station air srb i e text) k = (refl, refl, k)
  sent_came g (SealedRrc Down station air srb i e text) k = record {
    is_station = refl;
    is_air = refl;
    is_on = which_srb srb;
    down = k;
    plain = λ none. ap (λ f. unciphered_text (octets (SealedRrc Down station air srb i f text))) none
        ∙ tell.text Down station air srb i text;
  }
  sent_came g (UserPacket Up station air drb e text) k = tt
  sent_came g (UserPacket Down station air drb e text) k = tt
  sent_came g (Between to fields key) k = between_came g to (octets (Between to fields key)) fields key k
