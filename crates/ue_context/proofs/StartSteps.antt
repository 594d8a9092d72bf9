-- The steps of a phone that waits for the security of its connection.
use Rattle.std.proofs.Common.{◌≡◌, ℕ, ◌<◌, ◌-◌, ◌%◌, Bool, true, false, cond, List, [], Some, None, Ok, Err, refl, ap, arith, ◌∙◌, sym, nat_lt}
use Rattle.std.specs.Prelude.{Result}
use Rattle.std.proofs.lemmas.Bool.Decides.{nat_tests}
use Rattle.alg_choice.specs.declared.algs.Algs.{Algs}
use Rattle.lte_events.specs.{declared.inputs.PhoneIn.TheVariants.Air, declared.replies.ActorOut.ActorOut, Reply.reply_of}
use Rattle.key_model.specs.{Least.least, Reading.octet_reading}
use Rattle.key_model.proofs.LeastFacts.{least_in_window}
use Rattle.rec_base.specs.{declared.bearers.Bearer.TheVariants.Srb1, declared.uses.Dir.TheVariants.Down}
use Rattle.pdcp_guard.specs.{declared.pdus.PdcpOpened.PdcpOpened, declared.pdus.PdcpFault.PdcpFault, AsKeys.as_keys_of, Counts.in_32_bits}
use Rattle.pdcp_guard.specs.declared.pdus.PdcpFault as faults
use Rattle.pdcp_guard.specs.Srb.{srb_count, srb_opened, srb_opened_by, srb_opened_at}
use Rattle.pdcp_guard.proofs.SrbFacts.{long_enough}
use Rattle.lte_machine.specs.{Bearers.OnSrb, Bearers.Signalling1, Calls.phone_call, PhoneState.Phone, PhoneState.Waiting, Refusals.of_pdcp}
use Rattle.lte_machine.specs.Opening.{Outcome, Opened, OpensSrb, accepted_of}
use Rattle.lte_machine.specs.PhoneChoice.{AtStart, waiting_front, start_row}
use Rattle.nas_smc.specs.PhoneNas.{NasPart}
use Rattle.radio_bearers.proofs.Sealing.{srb_opened_is, outcome_of}
use Rattle.ue_context.specs.{Parts.waiting, Step.by_air, Step.to_phone}
use Rattle.ue_context.proofs.AirSteps.{fronted}

-- the first COUNT with a sequence number is the sequence number
pub first_count_is : (x : ℕ) → x < 32 → in_32_bits (least 0 (x % 32) 32) ≡ Ok x
unfolding in_32_bits
first_count_is x h =
    let near : x - 0 < 32 = omega (arith, h) in
    let at : least 0 (x % 32) 32 ≡ x = (least_in_window 0 x 32 (omega arith) (omega arith)).1 near in
    let below : nat_lt x 4294967296 ≡ true = grind (arith, nat_tests) in
    rw (at, below) refl

-- a record that starts security, of which this was read
module _ (n : NasPart) (w : Waiting (List ℕ)) (station air : ℕ) (pdu : List ℕ) where
  module _ (count : ℕ) (algs : Algs) (named : Bool)
      (front : waiting_front n.caps station air pdu (OnSrb Signalling1) ≡ AtStart count algs named station air)
      (counts : srb_count 0 pdu ≡ Ok count) where
    abbrev pub by_start : Result PdcpOpened PdcpFault → Phone (List ℕ) ℕ × ActorOut
    by_start (Err fault) = (waiting n w, reply_of (of_pdcp fault))
    by_start (Ok o) =
        by_air (waiting n w) (Some (to_phone (as_keys_of octet_reading w.kenb algs) Srb1 count)) (start_row count algs named station air (Opened []))

    at_outcome : Outcome → Phone (List ℕ) ℕ × ActorOut
    at_outcome o =
        by_air (waiting n w) (accepted_of (OpensSrb (to_phone (as_keys_of octet_reading w.kenb algs) Srb1 count) None) o)
        (start_row count algs named station air o)

    shaped : (b : Bool) (m g text : List ℕ) (x : Result PdcpOpened PdcpFault)
        → x ≡ cond b (Ok (record { count = count; text = text })) (Err (faults.TheVariants.MacFails count m g))
        → at_outcome (outcome_of x) ≡ by_start x
    unfolding at_outcome
    shaped true m g text x e = rw e refl
    shaped false m g text x e = rw e refl

    at_front : phone_call (waiting n w) (Air station air Srb1 pdu) ≡ by_start (srb_opened (as_keys_of octet_reading w.kenb algs) false Srb1 0 Down pdu)
    unfolding at_outcome srb_opened_at
    at_front =
        let same = srb_opened_is (as_keys_of octet_reading w.kenb algs) false Srb1 count Down pdu tt (long_enough 0 pdu count counts) in
        fronted (waiting n w) station air Srb1 pdu (AtStart count algs named station air) front
        ∙ ap at_outcome same
        ∙ shaped _ _ _ _ (srb_opened_at (as_keys_of octet_reading w.kenb algs) false Srb1 count Down pdu) refl
        ∙ ap (λ c. by_start (srb_opened_by (as_keys_of octet_reading w.kenb algs) false Srb1 Down pdu c)) (sym counts)

    pub start_fails : (fault : PdcpFault) (out : ActorOut)
        → srb_opened (as_keys_of octet_reading w.kenb algs) false Srb1 0 Down pdu ≡ Err fault → out ≡ reply_of (of_pdcp fault)
        → (waiting n w, out) ≡ phone_call (waiting n w) (Air station air Srb1 pdu)
    start_fails fault out e told = ap (λ x. (waiting n w, x)) told ∙ sym (at_front ∙ ap by_start e)

    pub start_taken : (o : PdcpOpened) (done : Phone (List ℕ) ℕ × ActorOut)
        → srb_opened (as_keys_of octet_reading w.kenb algs) false Srb1 0 Down pdu ≡ Ok o
        → done ≡ by_air (waiting n w) (Some (to_phone (as_keys_of octet_reading w.kenb algs) Srb1 count)) (start_row count algs named station air (Opened []))
        → done ≡ phone_call (waiting n w) (Air station air Srb1 pdu)
    start_taken o done e told = told ∙ sym (at_front ∙ ap by_start e)
