-- Calls, peer by peer.
use Rattle.std.proofs.Common.{◌≡◌, ◌≢◌, ℕ, zero, suc, ◌<◌, ◌==◌, Bool, true, false, if◌then◌else◌, Option, Some, None, List, [], ◌∷◌, ◌++◌, length, take, drop, slice_get, refl, ap, sym, subst, ◌∙◌, append_assoc, append-nil, take-append-drop, arith}
use Rattle.std.specs.Option.{option_map, option_map_or}
use Rattle.std.proofs.{Math.Seq.drop-nil, lemmas.Bool.eqb-true, lemmas.Bool.eqb-false}
use Rattle.edge_io.proofs.Changed.{length-change}
use Rattle.edge_io.specs.Peers.{PeerTold, PeersTold, change, sent_of, to_give_of}
use Rattle.hub_drive.specs.Acts.{Call, Starting, Sending, Receiving}
use Rattle.hub_drive.specs.Outside.{done, all_done, Gave, AllGave}
use Rattle.hub_drive.specs.Peerwise.{roles_started, sends, receives, Made}

-- of the item that is changed, and of the others
pub change_at : {X : Type 0} (k : ℕ) (f : X → X) (xs : List X) → slice_get (change k f xs) k ≡ option_map f (slice_get xs k)
change_at k f [] = refl
change_at zero f (x ∷ xs) = refl
change_at (suc k) f (x ∷ xs) = change_at k f xs

pub change_other : {X : Type 0} (k q : ℕ) (f : X → X) (xs : List X) → k ≢ q → slice_get (change k f xs) q ≡ slice_get xs q
change_other k q f [] other = refl
change_other zero zero f (x ∷ xs) other = absurd (other refl)
change_other zero (suc q) f (x ∷ xs) other = refl
change_other (suc k) zero f (x ∷ xs) other = refl
change_other (suc k) (suc q) f (x ∷ xs) other = change_other k q f xs (λ same. other (ap suc same))

-- SENT

sent_at : (octets : List ℕ) (found : Option PeerTold)
    → found ≢ None
    → option_map_or (λ (p : PeerTold). p.sent)
    (option_map (λ (p : PeerTold). record p { sent = p.sent ++ octets }) found) []
    ≡ option_map_or (λ (p : PeerTold). p.sent) found [] ++ octets
sent_at octets None there = absurd (there refl)
sent_at octets (Some p) there = refl

pub there : {X : Type 0} (xs : List X) (k : ℕ) → k < length xs → slice_get xs k ≢ None
there [] k below = absurd (omega (arith, below))
there (x ∷ xs) zero below = λ none. absurd cc
there (x ∷ xs) (suc k) below = there xs k (omega (arith, below))

sent_by : (q peer : ℕ) (octets : List ℕ) (peers : List PeerTold) (b : Bool) → (peer == q) ≡ b → q < length peers
    → sent_of q (change peer (λ p. record p { sent = p.sent ++ octets }) peers) ≡ sent_of q peers ++ (if b then octets else [])
sent_by q peer octets peers true same below =
    let is : peer ≡ q = eqb-true peer q same in
    let P : ℕ → Type 0 = λ k. sent_of q (change k (λ p. record p { sent = p.sent ++ octets }) peers) ≡ sent_of q peers ++ octets in
    subst P (sym is)
    (ap (λ (found : Option PeerTold). option_map_or (λ (p : PeerTold). p.sent) found []) (change_at q (λ p. record p { sent = p.sent ++ octets }) peers)
    ∙ sent_at octets (slice_get peers q) (there peers q below))
sent_by q peer octets peers false other below =
    ap (λ (found : Option PeerTold). option_map_or (λ (p : PeerTold). p.sent) found [])
    (change_other peer q (λ p. record p { sent = p.sent ++ octets }) peers (eqb-false peer q other))
    ∙ sym (append-nil (sent_of q peers))

-- a change that keeps a field of each keeps it of all
pub kept_by : {A : Type 0} (field : PeerTold → A) (d : A) (q k : ℕ) (f : PeerTold → PeerTold)
    → ((p : PeerTold) → field (f p) ≡ field p)
    → (peers : List PeerTold)
    → option_map_or field (slice_get (change k f peers) q) d ≡ option_map_or field (slice_get peers q) d
kept_by field d q k f same [] = refl
kept_by field d zero zero f same (p ∷ peers) = same p
kept_by field d (suc q) zero f same (p ∷ peers) = refl
kept_by field d zero (suc k) f same (p ∷ peers) = refl
kept_by field d (suc q) (suc k) f same (p ∷ peers) = kept_by field d q k f same peers

-- TAKEN

left_at : (count : ℕ) (found : Option PeerTold)
    → option_map_or (λ (p : PeerTold). p.to_give)
    (option_map (λ (p : PeerTold). record p { to_give = drop count p.to_give }) found) []
    ≡ drop count (option_map_or (λ (p : PeerTold). p.to_give) found [])
left_at count None = sym (drop-nil count)
left_at count (Some p) = refl

taken_by : (q peer count : ℕ) (octets : List ℕ) (peers : List PeerTold) (b : Bool) → (peer == q) ≡ b → take count (to_give_of peer peers) ≡ octets
    → to_give_of q peers ≡ (if b then octets else []) ++ to_give_of q (change peer (λ p. record p { to_give = drop count p.to_give }) peers)
taken_by q peer count octets peers true same gave =
    let is : peer ≡ q = eqb-true peer q same in
    let P : ℕ → Type 0 = λ k. take count (to_give_of k peers) ≡ octets in
    let Q : ℕ → Type 0 = λ k. to_give_of q peers ≡ octets ++ to_give_of q (change k (λ p. record p { to_give = drop count p.to_give }) peers) in
    let here : take count (to_give_of q peers) ≡ octets = subst P is gave in
    let left : to_give_of q (change q (λ p. record p { to_give = drop count p.to_give }) peers) ≡ drop count (to_give_of q peers) =
    ap (λ (found : Option PeerTold). option_map_or (λ (p : PeerTold). p.to_give) found [])
    (change_at q (λ p. record p { to_give = drop count p.to_give }) peers)
    ∙ left_at count (slice_get peers q) in
    subst Q (sym is)
    (sym (take-append-drop count (to_give_of q peers))
    ∙ ap (λ (xs : List ℕ). xs ++ drop count (to_give_of q peers)) here
    ∙ ap (λ (xs : List ℕ). octets ++ xs) (sym left))
taken_by q peer count octets peers false other gave =
    ap (λ (found : Option PeerTold). option_map_or (λ (p : PeerTold). p.to_give) found [])
    (sym (change_other peer q (λ p. record p { to_give = drop count p.to_give }) peers (eqb-false peer q other)))

-- ALL CALLS

none_made : (t : PeersTold) → Made [] t t
none_made t = record {
  roles = sym (append-nil t.roles);
  many = refl;
  sent = λ q below. sym (append-nil (sent_of q t.peers));
  taken = λ q. refl;
  failed = refl;
}

made_on : (call : Call) (calls : List Call) (t new : PeersTold) → Gave call t → Made calls (done call t) new → Made (call ∷ calls) t new
made_on (Starting role) calls t new gave more = record {
  roles = more.roles ∙ append_assoc t.roles (role ∷ []) (roles_started calls);
  many = more.many;
  sent = more.sent;
  taken = more.taken;
  failed = more.failed;
}
made_on (Sending peer octets) calls t new gave more =
    let f : PeerTold → PeerTold = λ p. record p { sent = p.sent ++ octets } in
    let many : length (change peer f t.peers) ≡ length t.peers = length-change peer f t.peers in
    record {
      roles = more.roles;
      many = more.many ∙ many;
      sent = λ q below.
          more.sent q (omega (arith, many, below))
          ∙ ap (λ (xs : List ℕ). xs ++ sends q calls) (sent_by q peer octets t.peers (peer == q) refl below)
          ∙ append_assoc (sent_of q t.peers) (if peer == q then octets else []) (sends q calls);
      taken = λ q. sym (kept_by (λ (p : PeerTold). p.to_give) [] q peer f (λ p. refl) t.peers) ∙ more.taken q;
      failed = more.failed;
    }
made_on (Receiving peer w) calls t new gave more =
    let f : PeerTold → PeerTold = λ p. record p { to_give = drop (length w.octets) p.to_give } in
    let many : length (change peer f t.peers) ≡ length t.peers = length-change peer f t.peers in
    record {
      roles = more.roles;
      many = more.many ∙ many;
      sent = λ q below.
          more.sent q (omega (arith, many, below))
          ∙ ap (λ (xs : List ℕ). xs ++ sends q calls) (kept_by (λ (p : PeerTold). p.sent) [] q peer f (λ p. refl) t.peers);
      taken = λ q.
          taken_by q peer (length w.octets) w.octets t.peers (peer == q) refl gave
          ∙ ap (λ (xs : List ℕ). (if peer == q then w.octets else []) ++ xs) (more.taken q)
          ∙ sym (append_assoc (if peer == q then w.octets else []) (receives q calls) (to_give_of q new.peers));
      failed = more.failed;
    }

pub all_made : (calls : List Call) (t : PeersTold) → AllGave calls t → Made calls t (all_done calls t)
all_made [] t gave = none_made t
all_made (call ∷ calls) t gave = made_on call calls t (all_done calls (done call t)) gave.0 (all_made calls (done call t) gave.1)
