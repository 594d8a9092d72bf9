-- A refused step of the phone leaves it as it was, but for the COUNT of a SECURITY MODE REJECT, and gives out nothing else.
use Rattle.std.proofs.Common.{◌≡◌, ℕ, Option, Some, None, refl}
use Rattle.std.specs.Prelude.{◌≢◌}
use Rattle.lte_events.specs.declared.answers.Answer.TheVariants.{Done}
use Rattle.key_model.specs.Reading.{Reading}
use Rattle.lte_machine.specs.{Opening.Outcome, Opening.accepted_of, PhoneState.Phone, PhoneState.PhoneInput, PhoneChoice.phone_row}
use Rattle.lte_machine.specs.Reply.{Reply, finished, only}
use Rattle.lte_machine.specs.PhoneRows.{Authenticated, PhoneRow, OfAuth, OfNas, OfAir, OfAct}
use Rattle.lte_machine.specs.PhoneKeys.{PhoneDone, authenticated, phone_does}
use Rattle.lte_machine.specs.PhoneStep.{phone_root, plain_phone, front_of, phone_opens, phone_step, after_refusal, IsReject}
use Rattle.lte_machine.proofs.PhoneCases.{NasCases, nas_case, AirCases, air_case, ActCases, act_case}
use Rattle.lte_machine.proofs.Tests.{Anything}

-- an answer with the use that was accepted and the record sent, and nothing else
abbrev pub refusal_of : {K C : Type 0} → Reply K C → Reply K C
refusal_of reply = record (only reply.answer) { sent = reply.sent; accepted = reply.accepted }

-- what a refused step leaves of the phone, and gives out
abbrev pub Refused : {K C : Type 0} → Phone K C → PhoneDone K C → Type 0
Refused s done =
    done.1.answer ≢ Done
    → (done.0 ≡ after_refusal done.1.sent s) × (done.1 ≡ refusal_of done.1) × IsReject done.1.sent

module _ {K C : Type 0} (r : Reading K C) where
  -- a rejected command takes one uplink COUNT of the context in use
  nas_refused : (s : Phone K C) → NasCases r Anything Refused s
  nas_refused s = record {
    nothing = λ t answer refused. (refl, refl, tt);
    rejected = λ answer cause k refused. (refl, refl, (cause, refl));
    rejected_under = λ answer cause c k refused. (refl, refl, (cause, refl));
    taken = λ algs count p k refused. absurd (refused refl);
    taken_connected = λ algs count p k refused. absurd (refused refl);
    opened = λ count text c k refused. absurd (refused refl);
  }

  -- the other rows are done
  air_refused : (s : Phone K C) → AirCases r Anything Refused s
  air_refused s = record {
    nothing = λ t answer refused. (refl, refl, tt);
    secured = λ station air algs count w k refused. absurd (refused refl);
    handed_over = λ cell steps algs station air l k refused. absurd (refused refl);
    changed = λ cell algs station air l c e k refused. absurd (refused refl);
    rrc = λ srb count text l k refused. absurd (refused refl);
    packet = λ drb count text l k refused. absurd (refused refl);
  }

  act_refused : (s : Phone K C) → ActCases r Anything Refused s
  act_refused s = record {
    nothing = λ t answer refused. (refl, refl, tt);
    requested = λ c k refused. absurd (refused refl);
    resent = λ l k refused. absurd (refused refl);
    idle = λ k refused. absurd (refused refl);
    packet = λ drb text l k refused. absurd (refused refl);
    rrc = λ srb text l k refused. absurd (refused refl);
    nas = λ text c k refused. absurd (refused refl);
    nas_skipped = λ n c k refused. absurd (refused refl);
    bearer_skipped = λ bearer n l k refused. absurd (refused refl);
  }

  authenticated-refused : (ksi : ℕ) (s : Phone K C) (root : Option K) → Refused s (authenticated ksi s root)
  authenticated-refused ksi s None refused = absurd (refused refl)
  authenticated-refused ksi s (Some x) refused = absurd (refused refl)

  phone_does-refused : (row : PhoneRow) (root : Option K) (s : Phone K C) → Refused s (phone_does r row root s)
  phone_does-refused (OfAuth (Authenticated ksi)) root s = authenticated-refused ksi s root
  phone_does-refused (OfNas row) root s = nas_case r Anything Refused s (nas_refused s) row tt
  phone_does-refused (OfAir row) root s = air_case r Anything Refused s (air_refused s) row tt
  phone_does-refused (OfAct row) root s = act_case r Anything Refused s (act_refused s) row tt

  step_refused : (s : Phone K C) (i : PhoneInput K) (outcome : Outcome) → Refused s (phone_step r s i outcome)
  step_refused s i outcome refused =
      let left = phone_does-refused (phone_row (plain_phone r s) (front_of r s i) outcome) (phone_root i) s refused in
      (left.0, (λ j. finished None (accepted_of (phone_opens r s i) outcome) (left.1 j)), left.2)

  -- a refused step of the phone changes nothing but for that COUNT
  pub phone_refused : (s : Phone K C) (i : PhoneInput K) (outcome : Outcome) → (phone_step r s i outcome).1.answer ≢ Done
      → (phone_step r s i outcome).0 ≡ after_refusal (phone_step r s i outcome).1.sent s
  phone_refused s i outcome refused = (step_refused s i outcome refused).0

  -- and gives out the answer alone, beside what it sends and the use that it accepted
  pub phone_refused_reply : (s : Phone K C) (i : PhoneInput K) (outcome : Outcome) → (phone_step r s i outcome).1.answer ≢ Done
      → (phone_step r s i outcome).1 ≡ refusal_of (phone_step r s i outcome).1
  phone_refused_reply s i outcome refused = (step_refused s i outcome refused).1

  -- and what it sends is a SECURITY MODE REJECT
  pub phone_refused_sends : (s : Phone K C) (i : PhoneInput K) (outcome : Outcome) → (phone_step r s i outcome).1.answer ≢ Done
      → IsReject (phone_step r s i outcome).1.sent
  phone_refused_sends s i outcome refused = (step_refused s i outcome refused).2
