-- Why a role is not served, by what failed.
use Rattle.std.proofs.Common.{◌≡◌, ◌⊎◌, inl, inr, ℕ, ◌<◌, Option, Some, List, [], ◌∷◌, ◌++◌, length, get_or, slice_get, slice_set, Result, Ok, Err, is_ok, if◌then◌else◌, IfSome, OnOk, OnErr, refl, sym, subst, ◌∙◌}
use Rattle.std.proofs.lemmas.Option.{slice_get_read}
use Rattle.std.specs.declared.io.Error.{Error}
use Rattle.growth.specs.Growth.{Refused}
use Rattle.edge_io.specs.{Cause.OneMore, declared.peers.Role.Role, declared.peer_fault.PeerFault.PeerFault}
use Rattle.edge_io.specs.Serving.{IsEnded, Keeps, NotFound, NotServed, OfNoPeer, OfPeer}
use Rattle.edge_io.specs.declared.peer_fault.PeerFault.TheVariants.{NotStarted, NoPort, NotReached, NotSent, NoReply}

-- a program that was started, not reached, and ended
pub not_served : {P S C : Type 0} (start : Result (P × S) Error → Type 0) (kills waits : P → P → Type 0)
    (answers : ℕ → S → Result ℕ Error → S → Type 0) (remaining : S → Option (List ℕ))
    (connects : List ℕ → ℕ → Result C Error → Type 0) (process ended : P) (said heard : S) (first last : ℕ) (fault : PeerFault)
    → start (Ok (process, said))
    → IsEnded kills waits process ended
    → OneMore first last
    → NotFound answers remaining connects said heard fault
    → NotServed start kills waits answers remaining connects first last fault
not_served start kills waits answers remaining connects process ended said heard first last NotStarted started stop one found = absurd found
not_served start kills waits answers remaining connects process ended said heard first last NoPort started stop one found =
    (record { process = process; said = said; started = started; holds = (record { after = ended; ended = stop }, record { after = heard; holds = found }) }, one)
not_served start kills waits answers remaining connects process ended said heard first last NotReached started stop one found =
    (record { process = process; said = said; started = started; holds = (record { after = ended; ended = stop }, record { after = heard; holds = found }) }, one)
not_served start kills waits answers remaining connects process ended said heard first last NotSent started stop one found = absurd found
not_served start kills waits answers remaining connects process ended said heard first last NoReply started stop one found = absurd found

-- of these peers the one at a place took part
pub of_peer : {P : Type 0} (number : ℕ) (before : List P) (old new : P) (Holds : P → P → Type 0)
    → number < length before
    → old ≡ get_or before number old
    → Holds old new
    → OfPeer number before (slice_set before number new) Holds
of_peer number before old new Holds below is holds = record {
  old = old;
  new = new;
  stands = slice_get_read before (length before) number old refl below is;
  put = refl;
  holds = holds;
}

-- what is so of the peer at a place
pub at_number : {P : Type 0} (number : ℕ) (peers : List P) (peer : P) (Holds : P → Type 0)
    → number < length peers
    → peer ≡ get_or peers number peer
    → Holds peer
    → IfSome (slice_get peers number) Holds
at_number {P} number peers peer Holds below is holds =
    let At : Option P → Type 0 = λ o. IfSome o Holds in
    subst At (sym (slice_get_read peers (length peers) number peer refl below is)) holds

-- the peer that stands at a place is the one that is read there
pub same_at : {P : Type 0} (number : ℕ) (peers : List P) (peer old : P)
    → number < length peers
    → peer ≡ get_or peers number peer
    → slice_get peers number ≡ Some old
    → peer ≡ old
same_at number peers peer old below is stands =
    let read : slice_get peers number ≡ Some peer = slice_get_read peers (length peers) number peer refl below is in
    let both : Some peer ≡ Some old = sym read ∙ stands in cc

-- what follows from a fact at Ok, and at Err
pub on_ok : {T E A B : Type 0} (r : Result T E) → (A → B) → OnOk r A → OnOk r B
on_ok (Ok x) f a = f a
on_ok (Err e) f a = a

pub on_err : {T E A B : Type 0} (r : Result T E) → (A → B) → OnErr r A → OnErr r B
on_err (Ok x) f a = a
on_err (Err e) f a = f a

-- a peer took part, and the peers stayed so
pub took_part : {P : Type 0} (number : ℕ) (before mid after : List P) (Holds : P → P → Type 0)
    → after ≡ mid
    → OfPeer number before mid Holds
    → OfNoPeer number before after ⊎ OfPeer number before after Holds
took_part {P} number before mid after Holds same of =
    let At : List P → Type 0 = λ ps. OfPeer number before ps Holds in
    inr (subst At (sym same) of)

-- what is so of the peer that is read at its place, and what follows from it
pub of_peer_on : {P : Type 0} (number : ℕ) (before after : List P) (peer : P) (Holds More : P → P → Type 0)
    → number < length before
    → peer ≡ get_or before number peer
    → OfPeer number before after Holds
    → ((new : P) → Holds peer new → More peer new) → OfPeer number before after More
of_peer_on {P} number before after peer Holds More below is of more =
    let same : peer ≡ of.old = same_at number before peer of.old below is of.stands in
    let At : P → Type 0 = λ p. More p of.new in
    let Held : P → Type 0 = λ p. Holds p of.new in
    record { old = of.old; new = of.new; stands = of.stands; put = of.put; holds = subst At same (more of.new (subst Held (sym same) of.holds)) }

-- octets were put at the end, or std had no memory for that
pub keeps : {T E V : Type 0} (result : Result T E) (before after : List (Role × V)) (items : V → List ℕ) (role : Role) (octets : List ℕ) (kept : V) (n : ℕ)
    → items kept ≡ octets
    → after ≡ (if is_ok result then before ++ (role, kept) ∷ [] else before)
    → OnErr result (Refused n)
    → Keeps before after items role octets
keeps (Ok x) before after items role octets kept n is put refused = inl (record { kept = kept; is = is; put = put })
keeps (Err e) before after items role octets kept n is put refused = inr (inr (n, refused), put)
