-- The head of a NAS message is never refused for its MAC.
use Rattle.std.proofs.Common.{◌≡◌, ℕ, Bool, true, false, if◌then◌else◌, List, length, nat_lt, Result, Ok, Err}
use Rattle.nas_count.specs.{declared.sending.CountSpent.CountSpent, Estimate.estimate_of}
use Rattle.nas_guard.specs.Open.{first_in, is_protected, sn_in}
use Rattle.nas_guard.specs.declared.opening.OpenFault.TheVariants.{Short, BadHeader, MacFails}
use Rattle.pdu_guard.specs.Nas.{nas_head_by, nas_head_of}

pub no_mac_fault : (next : ℕ) (pdu : List ℕ) (count : ℕ) (wanted got : List ℕ) → nas_head_of next pdu ≡ Err (MacFails count wanted got) → ⊥
unfolding nas_head_of
no_mac_fault next pdu count wanted got refused =
    by_tests (nat_lt (length pdu) 6) (is_protected (first_in pdu)) (estimate_of next (sn_in pdu)) refused
  where
    by_tests : (b c : Bool) (found : Result ℕ CountSpent)
        → (if b then Err Short else (if c then nas_head_by pdu found else Err (BadHeader (first_in pdu)))) ≡ Err (MacFails count wanted got)
        → ⊥
    by_tests true c found e = cc
    by_tests false false found e = cc
    by_tests false true (Ok k) e = cc
    by_tests false true (Err spent) e = cc
