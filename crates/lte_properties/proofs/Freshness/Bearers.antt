-- COUNTs of bearers only rise, each sending takes the next one.
use Rattle.std.proofs.Common.{ℕ, ◌<◌, ◌≤◌, ◌==◌, Bool, true, false, if◌then◌else◌, arith}
use Rattle.rec_base.specs.Bearer.{bearer5_of}
use Rattle.lte_machine.specs.Bearers.{Srb, Signalling1, Signalling2, Drb, User1, Which, OnSrb, OnDrb, Bearers, of_srb, of_drb, srb_counts, drb_counts, srb_sent, drb_sent, srb_taken, drb_taken, skipped_on}
use Rattle.lte_properties.proofs.Freshness.Uses.{send_on, next_on}

-- no COUNT to send with falls
abbrev pub Rise : Bearers → Bearers → Type 0
Rise a b =
    (a.srb1.send ≤ b.srb1.send) × (a.srb2.send ≤ b.srb2.send) × (a.drb1.send ≤ b.drb1.send) × (a.drb2.send ≤ b.drb2.send)
    × (a.drb3.send ≤ b.drb3.send) × (a.drb4.send ≤ b.drb4.send)

-- no COUNT falls where none changes
pub rise_same : (a : Bearers) → Rise a a
rise_same a = (omega arith, omega arith, omega arith, omega arith, omega arith, omega arith)

-- an order on both ends of a test is an order
if_le : (b : Bool) (m n m' n' : ℕ) → m ≤ m' → n ≤ n' → (if b then m else n) ≤ (if b then m' else n')
if_le true m n m' n' h k = h
if_le false m n m' n' h k = k

-- the next COUNT of a bearer does not fall
send_rises : (on : Bool) (bearer : ℕ) (a b : Bearers) → Rise a b → send_on on bearer a ≤ send_on on bearer b
send_rises true bearer a b h =
    let (_, _, drb1, drb2, drb3, drb4) = h in
    if_le (bearer == 0) _ _ _ _ drb1 (if_le (bearer == 1) _ _ _ _ drb2 (if_le (bearer == 2) _ _ _ _ drb3 drb4))
send_rises false bearer a b h = if_le (bearer == 0) _ _ _ _ h.0 h.1

-- what is below the next COUNT stays below it
pub below_stays : (type bearer : ℕ) (a b : Bearers) (count : ℕ) → Rise a b → count < next_on type bearer a → count < next_on type bearer b
below_stays type bearer a b count h k = let r = send_rises (type == 5) bearer a b h in omega arith

-- a PDU was taken
pub srb_taken_rises : (srb : Srb) (count : ℕ) (a : Bearers) → Rise a (srb_taken srb count a)
srb_taken_rises Signalling1 count a = rise_same a
srb_taken_rises Signalling2 count a = rise_same a

-- and one of a DRB
pub drb_taken_rises : (drb : Drb) (count : ℕ) (a : Bearers) → Rise a (drb_taken drb count a)
drb_taken_rises User1 count a = rise_same a
drb_taken_rises other count a = rise_same a

-- one was sent
pub srb_sent_rises : (srb : Srb) (a : Bearers) → Rise a (srb_sent srb a)
srb_sent_rises Signalling1 a = (omega arith, omega arith, omega arith, omega arith, omega arith, omega arith)
srb_sent_rises Signalling2 a = (omega arith, omega arith, omega arith, omega arith, omega arith, omega arith)

-- and one on a DRB
pub drb_sent_rises : (drb : Drb) (a : Bearers) → Rise a (drb_sent drb a)
drb_sent_rises User1 a = (omega arith, omega arith, omega arith, omega arith, omega arith, omega arith)
drb_sent_rises other a = (omega arith, omega arith, omega arith, omega arith, omega arith, omega arith)

-- some were left out
pub left_out_rises : (on : Which) (n : ℕ) (a : Bearers) → Rise a (skipped_on on n a)
left_out_rises (OnSrb Signalling1) n a = (omega arith, omega arith, omega arith, omega arith, omega arith, omega arith)
left_out_rises (OnDrb User1) n a = (omega arith, omega arith, omega arith, omega arith, omega arith, omega arith)
left_out_rises other n a = (omega arith, omega arith, omega arith, omega arith, omega arith, omega arith)

-- the COUNT of a sending on an SRB is the next one, and afterwards below it
pub srb_is_next : (srb : Srb) (a : Bearers) → (srb_counts srb a).send < send_on false (bearer5_of (of_srb srb)) a → ⊥
srb_is_next Signalling1 a h = omega arith
srb_is_next Signalling2 a h = omega arith

-- and it is below the next one then
pub srb_is_used : (srb : Srb) (a : Bearers) → (srb_counts srb a).send < send_on false (bearer5_of (of_srb srb)) (srb_sent srb a)
srb_is_used Signalling1 a = omega arith
srb_is_used Signalling2 a = omega arith

-- and on a DRB
pub drb_is_next : (drb : Drb) (a : Bearers) → (drb_counts drb a).send < send_on true (bearer5_of (of_drb drb)) a → ⊥
drb_is_next User1 a h = omega arith
drb_is_next other a h = omega arith

-- and it is below the next one then
pub drb_is_used : (drb : Drb) (a : Bearers) → (drb_counts drb a).send < send_on true (bearer5_of (of_drb drb)) (drb_sent drb a)
drb_is_used User1 a = omega arith
drb_is_used other a = omega arith
