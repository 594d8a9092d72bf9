-- What comes of a scenario that was driven.
use Rattle.std.proofs.Common.{◌≡◌, ℕ, ◌⊎◌, inl, inr, Option, Some, None, List, ◌∷◌, ◌++◌, Result, Ok, Err, IfSome, IfOk, OnOk, OnErr, IsErrOf, refl, ap, sym, subst, ◌∙◌, append_assoc}
use Rattle.edge_io.proofs.Known.{all_out, prefix_on, prefix_of, proper_prefix_on}
use Rattle.edge_io.specs.{Cause.Rose, Peers.PeersTold}
use Rattle.edge_io.specs.Octets.{Grows, GrowsByPrefix, GrowsByProperPrefix}
use Rattle.hub_drive.proofs.{Composing.writes-append, Texts.Reports}
use Rattle.hub_drive.proofs.Gone.{whole_made, failed_next, no_difference}
use Rattle.hub_drive.specs.{declared.faults.DriveFault.DriveFault, Outside.Outside, Outside.outside, Peerwise.Made, Went.ActFails, Went.CutAt}
use Rattle.hub_drive.specs.declared.faults.DriveFault.TheVariants.{Memory, PeerFault, Differs, WriteFault}
use Rattle.hub_drive.specs.Acts.{Receiving, Act, Writing, Calling, calls, writes}
use Rattle.hub_drive.specs.Driven.{Plan, Driven, WhereTold, FailedNext, GivesAll}
use Rattle.run_report.specs.{declared.endings.Ending.Ending, Report.Report}

-- THE TEXT

pub ok_text : (plan : Plan) (r : Report) (result : Result Ending DriveFault) (before after : Outside)
    → Reports plan r
    → Driven plan result before after
    → OnOk result (Grows before.written after.written r.text)
ok_text plan r (Ok ending) before after is driven =
    let P : List ℕ → Type 0 = λ octets. Grows before.written after.written octets in
    subst P is.text driven.went.0.written
ok_text plan r (Err fault) before after is driven = tt

pub ok_ends : (plan : Plan) (r : Report) (result : Result Ending DriveFault) (before after : Outside)
    → Reports plan r
    → Driven plan result before after
    → IfOk result (λ ending. ending ≡ r.ends)
ok_ends plan r (Ok ending) before after is driven = driven.went.1 ∙ is.ends
ok_ends plan r (Err fault) before after is driven = tt

-- an act at which the output failed left something to write
act_short : (act : Act) (more : List Act) (first : Option (List ℕ)) (front : List ℕ) (x y : Outside)
    → Grows first x.written front
    → ActFails act WriteFault x y
    → GrowsByProperPrefix first y.written (front ++ writes (act ∷ more))
act_short (Writing text) more first front x y so_far fails =
    let P : List ℕ → Type 0 = λ octets. GrowsByProperPrefix first y.written octets in
    subst P (append_assoc front text (writes more)) (proper_prefix_on first x.written y.written front text (writes more) so_far fails.0)
act_short (Calling call) more first front x y so_far fails = absurd fails

-- an act that was cut wrote a prefix of its text
act_prefix : (act : Act) (more : List Act) (fault : DriveFault) (first : Option (List ℕ))
    (front : List ℕ) (x y : Outside)
    → Grows first x.written front
    → ActFails act fault x y
    → GrowsByPrefix first y.written (front ++ writes (act ∷ more))
act_prefix (Writing text) more Memory first front x y so_far fails =
    let P : List ℕ → Type 0 = λ octets. GrowsByPrefix first y.written octets in
    subst P (append_assoc front text (writes more)) (prefix_on first x.written y.written front text (writes more) so_far fails.0)
act_prefix (Writing text) more WriteFault first front x y so_far fails =
    prefix_of first y.written (front ++ writes (Writing text ∷ more)) (act_short (Writing text) more first front x y so_far fails)
act_prefix (Calling call) more Memory first front x y so_far fails =
    let P : Outside → Type 0 = λ o. Grows first o.written front in
    all_out first y.written front (writes more) (subst P (sym fails) so_far)
act_prefix (Calling call) more PeerFault first front x y so_far fails =
    let P : Option (List ℕ) → Type 0 = λ w. Grows first w front in
    all_out first y.written front (writes more) (subst P (sym fails.0) so_far)
act_prefix (Calling (Receiving peer w)) more (Differs step wanted got) first front x y so_far fails =
    let P : Option (List ℕ) → Type 0 = λ w. Grows first w front in
    all_out first y.written front (writes more) (subst P (sym fails.0) so_far)
act_prefix act more fault first front x y so_far fails = absurd fails

cut_text : (acts : List Act) (fault : DriveFault) (x y : Outside) → CutAt acts fault x y → GrowsByPrefix x.written y.written (writes acts)
cut_text acts fault x y cut =
    let P : List ℕ → Type 0 = λ octets. GrowsByPrefix x.written y.written octets in
    subst P (sym (ap writes cut.is ∙ writes-append cut.made (cut.next ∷ cut.more)))
    (act_prefix cut.next cut.more fault x.written (writes cut.made) cut.between y cut.did.written cut.fails)

cut_short : (acts : List Act) (x y : Outside) → CutAt acts WriteFault x y → GrowsByProperPrefix x.written y.written (writes acts)
cut_short acts x y cut =
    let P : List ℕ → Type 0 = λ octets. GrowsByProperPrefix x.written y.written octets in
    subst P (sym (ap writes cut.is ∙ writes-append cut.made (cut.next ∷ cut.more)))
    (act_short cut.next cut.more x.written (writes cut.made) cut.between y cut.did.written cut.fails)

pub fault_text : (plan : Plan) (r : Report) (result : Result Ending DriveFault) (before after : Outside)
    → Reports plan r
    → Driven plan result before after
    → OnErr result (GrowsByPrefix before.written after.written r.text)
fault_text plan r (Ok ending) before after is driven = tt
fault_text plan r (Err fault) before after is driven =
    let P : List ℕ → Type 0 = λ octets. GrowsByPrefix before.written after.written octets in
    subst P is.text (cut_text plan.acts fault before (outside after.written driven.last) driven.went)

pub short_text : (plan : Plan) (r : Report) (result : Result Ending DriveFault) (before after : Outside)
    → Reports plan r
    → Driven plan result before after
    → result ≡ Err WriteFault
    → GrowsByProperPrefix before.written after.written r.text
short_text plan r result before after is driven failed =
    let P : Result Ending DriveFault → Type 0 = λ res. Driven plan res before after in
    let Q : List ℕ → Type 0 = λ octets. GrowsByProperPrefix before.written after.written octets in
    let at : Driven plan (Err WriteFault) before after = subst P failed driven in
    subst Q is.text (cut_short plan.acts before (outside after.written at.last) at.went)

-- THE PEERS

pub ok_made : (plan : Plan) (result : Result Ending DriveFault) (before after : Outside)
    → Driven plan result before after
    → OnOk result (WhereTold (Made (calls plan.acts)) before.peers after.peers)
ok_made plan (Ok ending) before after driven = whole_made plan ending before after driven
ok_made plan (Err fault) before after driven = tt

pub fault_named : (plan : Plan) (result : Result Ending DriveFault) (before after : Outside)
    → Driven plan result before after
    → result ≡ Err PeerFault
    → WhereTold (FailedNext (calls plan.acts)) before.peers after.peers
fault_named plan result before after driven fault =
    let P : Result Ending DriveFault → Type 0 = λ res. Driven plan res before after in
    failed_next plan before after (subst P fault driven)

module _ (plan : Plan) (r : Report) (before after : Outside) (peers peers' sink sink' : ℕ) (is : Reports plan r) (t : PeersTold)
    (there : before.peers ≡ Some t) (gives : GivesAll (calls plan.acts) t) (no_fault : Rose peers peers' → ⊥) (no_write : Rose sink sink' → ⊥) where
  by_result : (result : Result Ending DriveFault)
      → Driven plan result before after
      → (IsErrOf result PeerFault → Rose peers peers') → (IsErrOf result WriteFault → Rose sink sink')
      → (result ≡ Ok r.ends) ⊎ (result ≡ Err Memory)
  by_result (Ok ending) driven by_peers by_sink = inl (ap Ok (driven.went.1 ∙ is.ends))
  by_result (Err Memory) driven by_peers by_sink = inr refl
  by_result (Err PeerFault) driven by_peers by_sink = absurd (no_fault (by_peers refl))
  by_result (Err (Differs step wanted got)) driven by_peers by_sink =
      let P : Option PeersTold → Type 0 = λ told. IfSome told (GivesAll (calls plan.acts)) in
      let Q : Option PeersTold → Type 0 = λ told. IfSome told (λ u. ⊥) in
      absurd (subst Q there (no_difference plan step wanted got before after driven (subst P (sym there) gives)))
  by_result (Err WriteFault) driven by_peers by_sink = absurd (no_write (by_sink refl))

-- where each peer gives what is to come, and nothing fails, all is done
pub all_is_done : (plan : Plan) (r : Report) (result : Result Ending DriveFault) (before after : Outside)
    (peers peers' sink sink' : ℕ)
    → Reports plan r
    → Driven plan result before after
    → (IsErrOf result PeerFault → Rose peers peers') → (IsErrOf result WriteFault → Rose sink sink')
    → IfSome before.peers (λ t. GivesAll (calls plan.acts) t
    → (Rose peers peers' → ⊥)
    → (Rose sink sink' → ⊥)
    → (result ≡ Ok r.ends) ⊎ (result ≡ Err Memory))
all_is_done plan r result before after peers peers' sink sink' is driven by_peers by_sink = told before.peers refl
  where
    told : (o : Option PeersTold)
        → before.peers ≡ o
        → IfSome o (λ t. GivesAll (calls plan.acts) t
        → (Rose peers peers' → ⊥)
        → (Rose sink sink' → ⊥)
        → (result ≡ Ok r.ends) ⊎ (result ≡ Err Memory))
    told None there = tt
    told (Some t) there = λ gives no_fault no_write.
        by_result plan r before after peers peers' sink sink' is t there gives no_fault no_write result driven by_peers by_sink
