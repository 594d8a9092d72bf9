-- The three calls of an exchange.
use Rattle.std.proofs.Common.{◌≡◌, ℕ, Option, List, [], ◌∷◌, ◌++◌, take, drop, Result, Err, refl, ap, sym, subst, ◌∙◌, take-append-drop}
use Rattle.edge_io.specs.Peers.{PeersTold, SendFailed}
use Rattle.hub_drive.proofs.Composing.{cut_at, went_on, cut_before}
use Rattle.hub_drive.specs.{declared.faults.DriveFault.DriveFault, declared.faults.DriveFault.TheVariants.PeerFault, Exchanges.exchange, Went.CutAt, Went.Went}
use Rattle.hub_drive.specs.Acts.{Wanted, Sending, Receiving, Act, Calling}
use Rattle.hub_drive.specs.Outside.{Outside, outside, AllDone}

-- the two parts of a reply
abbrev pub length_part : Option ℕ → List ℕ → List ℕ → Wanted
length_part step size rest = record { step = step; before = []; octets = size; behind = rest }

abbrev pub rest_part : Option ℕ → List ℕ → List ℕ → Wanted
rest_part step size rest = record { step = step; before = size; octets = rest; behind = [] }

-- the reply by its parts
abbrev by_parts : Option ℕ → ℕ → List ℕ → List ℕ → List ℕ → List Act
by_parts step peer frame size rest =
    (Calling (Sending peer frame) ∷ [])
    ++ ((Calling (Receiving peer (length_part step size rest)) ∷ [])
    ++ (Calling (Receiving peer (rest_part step size rest)) ∷ []))

pub send_failed : (written : Option (List ℕ)) (peer : ℕ) (octets frame : List ℕ) (old new : Option PeersTold)
    → octets ≡ frame
    → SendFailed peer octets old new
    → CutAt (Calling (Sending peer frame) ∷ []) PeerFault (outside written old) (outside written new)
send_failed written peer octets frame old new is failed =
    let P : List ℕ → Type 0 = λ xs. SendFailed peer xs old new in
    cut_at (Calling (Sending peer frame)) PeerFault (outside written old) (outside written new) (refl, subst P is failed)

pub send_cut : (step : Option ℕ) (peer : ℕ) (frame reply : List ℕ) (fault : DriveFault) (x y : Outside)
    → CutAt (Calling (Sending peer frame) ∷ []) fault x y
    → CutAt (exchange step peer frame reply) fault x y
send_cut step peer frame reply fault x y cut = cut_before (Calling (Sending peer frame) ∷ []) _ fault x y cut

pub length_cut : (step : Option ℕ) (peer : ℕ) (frame reply size rest : List ℕ) (fault : DriveFault) (x y z : Outside)
    → size ≡ take 2 reply → rest ≡ drop 2 reply
    → AllDone (Calling (Sending peer frame) ∷ []) x y → CutAt (Calling (Receiving peer (length_part step size rest)) ∷ []) fault y z
    → CutAt (exchange step peer frame reply) fault x z
length_cut step peer frame reply size rest fault x y z front back sent cut =
    let P : List ℕ → Type 0 = λ octets. CutAt (by_parts step peer frame octets (drop 2 reply)) fault x z in
    let Q : List ℕ → Type 0 = λ octets. CutAt (by_parts step peer frame size octets) fault x z in
    subst P front
    (subst Q back
    (went_on {A = Unit {0}} (Calling (Sending peer frame) ∷ []) _ (Err fault) x y z sent
    (cut_before (Calling (Receiving peer (length_part step size rest)) ∷ []) (Calling (Receiving peer (rest_part step size rest)) ∷ []) fault y z cut)))

pub exchanged : {A : Type 0} (step : Option ℕ) (peer : ℕ) (frame reply size rest : List ℕ) (result : Result A DriveFault) (x y z o : Outside)
    → size ≡ take 2 reply → rest ≡ drop 2 reply
    → AllDone (Calling (Sending peer frame) ∷ []) x y → AllDone (Calling (Receiving peer (length_part step size rest)) ∷ []) y z
    → Went (Calling (Receiving peer (rest_part step size rest)) ∷ []) result z o
    → Went (exchange step peer frame reply) result x o
exchanged step peer frame reply size rest result x y z o front back sent sized went =
    let P : List ℕ → Type 0 = λ octets. Went (by_parts step peer frame octets (drop 2 reply)) result x o in
    let Q : List ℕ → Type 0 = λ octets. Went (by_parts step peer frame size octets) result x o in
    subst P front
    (subst Q back
    (went_on (Calling (Sending peer frame) ∷ []) _ result x y o sent
    (went_on (Calling (Receiving peer (length_part step size rest)) ∷ []) _ result y z o sized went)))

pub reply_parts : (reply whole size rest : List ℕ) → whole ≡ reply → size ≡ take 2 whole → rest ≡ drop 2 whole → reply ≡ size ++ rest
reply_parts reply whole size rest is front back =
    sym is ∙ sym (take-append-drop 2 whole) ∙ ap (λ (octets : List ℕ). octets ++ drop 2 whole) (sym front) ∙ ap (λ (octets : List ℕ). size ++ octets) (sym back)
