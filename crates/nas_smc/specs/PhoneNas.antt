-- The NAS part of a phone, and the whole phone around it (TS 24.301 4.4, TS 33.401 7.2.8.1.1).
use Rattle.std.specs.Prelude.{ℕ, List, ◌∷◌, Option, Some, None}
use Rattle.alg_choice.specs.declared.caps.Caps.{Caps}
use Rattle.annex_a_keys.specs.declared.derived.Derived.{Derived}
use Rattle.key_model.specs.{Derivation.derived_of, Derivation.kenb_made, Reading.octet_reading}
use Rattle.lte_events.specs.declared.replies.ActorOut.{ActorOut}
use Rattle.lte_machine.specs.PhoneState.{Partial, NasContext, Waiting, Radio, Idle, Connecting, Connected, Phone}
use Rattle.nas_smc.specs.{declared.reply.NasOut.NasOut, NasOut.phone_reply}

-- what a phone keeps for NAS
pub record NasPart : Type 0 where
  -- its security capabilities
  pub caps : Caps
  -- the partial context, which an authentication left
  pub partial : Option (Partial (List ℕ))
  -- the context in use
  pub context : Option (NasContext (List ℕ))

-- the phone with this NAS part and this radio part
abbrev pub phone_of : NasPart → Radio (List ℕ) ℕ → Phone (List ℕ) ℕ
phone_of s radio = record { caps = s.caps; partial = s.partial; context = s.context; radio = radio }

-- the phone waits for a connection, unless it has one
abbrev pub waits : Waiting (List ℕ) → Radio (List ℕ) ℕ → Radio (List ℕ) ℕ
waits w Idle = Connecting w
waits w (Connecting other) = Connecting w
waits w (Connected l) = Connected l

-- and only then derives KeNB
abbrev pub derives : Derived → Radio (List ℕ) ℕ → List Derived → List Derived
derives kenb Idle made = kenb ∷ made
derives kenb (Connecting other) made = kenb ∷ made
derives kenb (Connected l) made = made

-- the whole phone after a call of its NAS part, and its reply: where a message asked for a connection, which the
-- COUNT of it tells, the phone waits for one with KeNB of that COUNT (TS 33.401 7.2.8.1.1 and A.3)
abbrev pub asked : NasPart → NasOut → Radio (List ℕ) ℕ → Option ℕ → Option (NasContext (List ℕ)) → Phone (List ℕ) ℕ × ActorOut
asked s out radio None context = (phone_of s radio, phone_reply out out.derived)
asked s out radio (Some count) None = (phone_of s radio, phone_reply out out.derived)
asked s out radio (Some count) (Some c) = (
  phone_of s (waits (record { root = c.root; kenb = octet_reading.kenb c.root count }) radio),
  phone_reply out (derives (derived_of (kenb_made octet_reading c.root count)) radio out.derived),
)

abbrev pub phone_after : NasPart → NasOut → Radio (List ℕ) ℕ → Phone (List ℕ) ℕ × ActorOut
phone_after s out radio = asked s out radio out.trigger s.context
