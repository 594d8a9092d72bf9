-- An opener that compares the uses of SRB records as terms is honest, and octets tell what is not ciphered.
use Rattle.std.proofs.Common.{◌≡◌, refl, sym, ◌∙◌, subst, ℕ, ◌+◌, ◌-◌, ◌*◌, ◌/◌, ◌%◌, Bool, true, false, List, ◌∷◌, ◌++◌, length, Option, Some, None, Result, Ok, Err, arith}
use Rattle.std.specs.Prelude.{◌&&◌, ◌==◌}
use Rattle.std.proofs.lemmas.Bool.{eqb-true, eq-eqb}
use Rattle.std.proofs.lemmas.List.{take_at, length-append}
use Rattle.alg_choice.specs.Algs.{identity_of}
use Rattle.rec_base.specs.declared.uses.Dir.{Dir}
use Rattle.rec_base.specs.declared.uses.Dir.TheVariants.{Up, Down}
use Rattle.lte_events.specs.{declared.events.Event.Event, declared.answers.Answer.Answer}
use Rattle.key_model.specs.{Term.Term, Term.same_term, HandoverTable.NumberedKey}
use Rattle.key_model.proofs.TermFacts.{same_term-Decides}
use Rattle.s1x2_rec.specs.Fields.{Fields}
use Rattle.lte_machine.specs.{Bearers.Srb, CoreChoice.core_takes, CoreChoice.core_header, World.World, Step.attempted}
use Rattle.lte_machine.specs.Wire.{KeyUse, Ciphering, Outgoing, SealedNas, SealedRrc}
use Rattle.lte_events.specs.declared.answers.Answer.TheVariants.{Short, BadHeader}
use Rattle.lte_machine.specs.Ciphers.{Ciphers, nas_octets, srb_octets, octets_of}
use Rattle.lte_machine.specs.Opening.{Opening, OpensNothing, OpensNas, OpensSrb, OpensDrb, Outcome, Opened, Differs, open_octets, open_foreign, same_dir, same_uses, same_ciphering, judged, open_case, open_by_uses}
use Rattle.lte_properties.specs.ChainHolds.{machine_by}
use Rattle.lte_properties.proofs.Agreement.Openings.{IsHonest, Honest, OpensByTerms}
use Rattle.lte_properties.proofs.Agreement.PhoneWalk.{by_test}
use Rattle.lte_properties.proofs.Agreement.World.{PlainReads, HeaderReads, OctetsTell}
use Rattle.lte_machine.proofs.{CipherLaws.AreCiphers, Tests.both_true}

one_dir : (a b : Dir) → same_dir a b ≡ true → a ≡ b
one_dir Up Up e = refl
one_dir Down Down e = refl
one_dir Up Down e = absurd cc
one_dir Down Up e = absurd cc

itself_dir : (a : Dir) → same_dir a a ≡ true
itself_dir Up = refl
itself_dir Down = refl

true_both : (a b : Bool) → a ≡ true → b ≡ true → (a && b) ≡ true
true_both true true d e = refl
true_both true false d e = absurd cc
true_both false b d e = absurd cc

-- uses that are one as terms are one
pub one_use : (u v : KeyUse Term) → same_uses same_term u v ≡ true → u ≡ v
one_use u v e =
    let a = both_true ((same_term u.key v.key && (u.count == v.count)) && (u.bearer == v.bearer)) (same_dir u.dir v.dir) e in
    let b = both_true (same_term u.key v.key && (u.count == v.count)) (u.bearer == v.bearer) a.0 in
    let c = both_true (same_term u.key v.key) (u.count == v.count) b.0 in
    let key = (same_term-Decides u.key v.key).0 c.0 in
    let count = eqb-true u.count v.count c.1 in
    let bearer = eqb-true u.bearer v.bearer b.1 in
    let dir = one_dir u.dir v.dir a.1 in
    λ j. record { key = key j; count = count j; bearer = bearer j; dir = dir j }

itself_use : (u : KeyUse Term) → same_uses same_term u u ≡ true
itself_use u =
    true_both ((same_term u.key u.key && (u.count == u.count)) && (u.bearer == u.bearer)) (same_dir u.dir u.dir)
    (true_both (same_term u.key u.key && (u.count == u.count)) (u.bearer == u.bearer)
    (true_both (same_term u.key u.key) (u.count == u.count) ((same_term-Decides u.key u.key).1 refl) (eq-eqb u.count u.count refl))
    (eq-eqb u.bearer u.bearer refl))
    (itself_dir u.dir)

itself_ciphering : (e : Option (Ciphering Term)) → same_ciphering same_term e e ≡ true
itself_ciphering None = refl
itself_ciphering (Some e) = true_both _ _ (itself_use e.under) (eq-eqb (identity_of e.eea) (identity_of e.eea) refl)

pub one_ciphering : (e f : Option (Ciphering Term)) → e ≡ f → same_ciphering same_term e f ≡ true
one_ciphering e f is = subst (λ x. same_ciphering same_term e x ≡ true) is (itself_ciphering e)

-- whatever the octets say, where the use is the sender's and the ciphering is not
by_octets : (u i : KeyUse Term) (e f : Option (Ciphering Term)) (dir : Dir) (station air : ℕ) (srb : Srb) (sent : List ℕ) → u ≡ i → (e ≡ f → ⊥)
    → (o : Outcome) → IsHonest (OpensSrb u e) (Some (SealedRrc dir station air srb i f sent)) o
by_octets u i e f dir station air srb sent is differs (Opened text) = (is, λ same. absurd (differs same))
by_octets u i e f dir station air srb sent is differs (Differs wanted got) = tt

by_octets_nas : (u i : KeyUse Term) (e f : Option (Ciphering Term)) (dir : Dir) (header : ℕ) (sent : List ℕ) → u ≡ i
    → (o : Outcome) → IsHonest (OpensSrb u e) (Some (SealedNas dir header i f sent)) o
by_octets_nas u i e f dir header sent is (Opened text) = is
by_octets_nas u i e f dir header sent is (Differs wanted got) = tt

not_both : false ≡ true → ⊥
not_both e = absurd cc

rrc_judged : (c : Ciphers Term) (u i : KeyUse Term) (e f : Option (Ciphering Term)) (dir : Dir) (station air : ℕ) (srb : Srb) (sent pdu : List ℕ) (a b : Bool)
    → same_uses same_term u i ≡ a → same_ciphering same_term e f ≡ b
    → IsHonest (OpensSrb u e) (Some (SealedRrc dir station air srb i f sent)) (open_case c (OpensSrb u e) pdu (judged a b sent))
unfolding open_foreign
rrc_judged c u i e f dir station air srb sent pdu true true used ciphering = (one_use u i used, λ same. refl)
rrc_judged c u i e f dir station air srb sent pdu true false used ciphering =
    by_octets u i e f dir station air srb sent (one_use u i used) differs (open_octets c (OpensSrb u e) pdu)
  where
    differs : e ≡ f → ⊥
    differs same = not_both (sym ciphering ∙ one_ciphering e f same)
rrc_judged c u i e f dir station air srb sent pdu false b used ciphering = tt

nas_judged : (c : Ciphers Term) (u i : KeyUse Term) (e f : Option (Ciphering Term)) (dir : Dir) (header : ℕ) (sent pdu : List ℕ) (a : Bool)
    → same_uses same_term u i ≡ a
    → IsHonest (OpensSrb u e) (Some (SealedNas dir header i f sent)) (open_case c (OpensSrb u e) pdu (judged a false sent))
unfolding open_foreign
nas_judged c u i e f dir header sent pdu true used = by_octets_nas u i e f dir header sent (one_use u i used) (open_octets c (OpensSrb u e) pdu)
nas_judged c u i e f dir header sent pdu false used = tt

srb_honest : (c : Ciphers Term) (u : KeyUse Term) (e : Option (Ciphering Term)) (pdu : List ℕ) (came : Option (Outgoing Term ℕ))
    → IsHonest (OpensSrb u e) came (open_by_uses same_term c (OpensSrb u e) pdu came)
unfolding open_foreign
srb_honest c u e pdu (Some (SealedNas dir header i f sent)) = nas_judged c u i e f dir header sent pdu (same_uses same_term u i) refl
srb_honest c u e pdu (Some (SealedRrc dir station air srb i f sent)) =
    rrc_judged c u i e f dir station air srb sent pdu (same_uses same_term u i) (same_ciphering same_term e f) refl refl
srb_honest c u e pdu other = tt

-- uses that some test says are one have one COUNT
one_count : (same : Term → Term → Bool) (u v : KeyUse Term) → same_uses same u v ≡ true → u.count ≡ v.count
one_count same u v e =
    let a = both_true ((same u.key v.key && (u.count == v.count)) && (u.bearer == v.bearer)) (same_dir u.dir v.dir) e in
    let b = both_true (same u.key v.key && (u.count == v.count)) (u.bearer == v.bearer) a.0 in
    eqb-true u.count v.count (both_true (same u.key v.key) (u.count == v.count) b.0).1

counted_nas : (u i : KeyUse Term) (e f : Option (Ciphering Term)) (dir : Dir) (header : ℕ) (sent : List ℕ) → u.count ≡ i.count
    → (o : Outcome) → IsHonest (OpensNas u e) (Some (SealedNas dir header i f sent)) o
counted_nas u i e f dir header sent is (Opened text) = is
counted_nas u i e f dir header sent is (Differs wanted got) = tt

counted_rrc : (u i : KeyUse Term) (e f : Option (Ciphering Term)) (dir : Dir) (station air : ℕ) (srb : Srb) (sent : List ℕ) → u.count ≡ i.count
    → (o : Outcome) → IsHonest (OpensNas u e) (Some (SealedRrc dir station air srb i f sent)) o
counted_rrc u i e f dir station air srb sent is (Opened text) = is
counted_rrc u i e f dir station air srb sent is (Differs wanted got) = tt

counted_case : (c : Ciphers Term) (u : KeyUse Term) (e : Option (Ciphering Term)) (pdu : List ℕ) (came : Option (Outgoing Term ℕ)) (a b : Bool) (sent : List ℕ)
    → (a ≡ true → (o : Outcome) → IsHonest (OpensNas u e) came o) → IsHonest (OpensNas u e) came (open_case c (OpensNas u e) pdu (judged a b sent))
unfolding open_foreign
counted_case c u e pdu came true true sent f = f refl (Opened sent)
counted_case c u e pdu came true false sent f = f refl (open_octets c (OpensNas u e) pdu)
counted_case c u e pdu came false b sent f = tt

nas_honest : (same : Term → Term → Bool) (c : Ciphers Term) (u : KeyUse Term) (e : Option (Ciphering Term)) (pdu : List ℕ) (came : Option (Outgoing Term ℕ))
    → IsHonest (OpensNas u e) came (open_by_uses same c (OpensNas u e) pdu came)
unfolding open_foreign
nas_honest same c u e pdu (Some (SealedNas dir header i f sent)) =
    counted_case c u e pdu (Some (SealedNas dir header i f sent)) (same_uses same u i) (same_ciphering same e f) sent
    (λ b. counted_nas u i e f dir header sent (one_count same u i b))
nas_honest same c u e pdu (Some (SealedRrc dir station air srb i f sent)) =
    counted_case c u e pdu (Some (SealedRrc dir station air srb i f sent)) (same_uses same u i) false sent
    (λ b. counted_rrc u i e f dir station air srb sent (one_count same u i b))
nas_honest same c u e pdu other = tt

-- an opener that compares the uses on SRBs as terms, and those on NAS in any way, is honest
opener_honest : (c : Ciphers Term) (opener : Opening Term → List ℕ → Option (Outgoing Term ℕ) → Outcome) → OpensByTerms c opener
    → (opening : Opening Term) (pdu : List ℕ) (came : Option (Outgoing Term ℕ)) → IsHonest opening came (opener opening pdu came)
opener_honest c opener is OpensNothing pdu came = tt
opener_honest c opener (_, (same, by_uses)) (OpensNas u e) pdu came =
    subst (IsHonest (OpensNas u e) came) (sym (by_uses u e pdu came)) (nas_honest same c u e pdu came)
opener_honest c opener is (OpensSrb u e) pdu came = subst (IsHonest (OpensSrb u e) came) (sym (is.0 u e pdu came)) (srb_honest c u e pdu came)
opener_honest c opener is (OpensDrb e) pdu came = tt

-- so each event of its machine is honest
pub honest : (same : Term → Term → Bool) (root : ℕ → List ℕ → Term) (octets : Outgoing Term ℕ → List ℕ)
    (sender : Option (Outgoing Term ℕ) → Option (KeyUse Term))
    (opener : Opening Term → List ℕ → Option (Outgoing Term ℕ) → Outcome) (c : Ciphers Term)
    → OpensByTerms c opener
    → (w : World Term ℕ (Outgoing Term ℕ)) (e : Event) → Honest (machine_by same root octets sender opener) w e
honest same root octets sender opener c is w e =
    let a = attempted (machine_by same root octets sender opener) w e in opener_honest c opener is a.opening a.octets a.came

-- an unciphered record's octets hold its text, since a MAC has four octets
plain_text : (c : Ciphers Term) → AreCiphers c → (between : Fields → Option (NumberedKey Term ℕ) → List ℕ) → PlainReads (octets_of c between)
unfolding srb_octets
plain_text c good between dir station air srb i text =
    let mac = c.mac i (i.count % 32 ∷ text) in
    let four = good.mac_length i (i.count % 32 ∷ text) in
    let long = length-append text mac in
    take_at text mac (length (i.count % 32 ∷ text ++ mac) - 5) (omega arith)

pub one_header : (o : Result ℕ Answer) (a b : ℕ) → o ≡ Ok a → o ≡ Ok b → a ≡ b
one_header o a b e f = cc

pub no_header : (o : Result ℕ Answer) (a : Answer) (b : ℕ) → o ≡ Err a → o ≡ Ok b → ⊥
no_header o a b e f = cc

-- the first octet of a NAS message has its header type (TS 24.301 9.2 and 9.3.1)
pub plain_header : (c : Ciphers Term) (between : Fields → Option (NumberedKey Term ℕ) → List ℕ) → HeaderReads (octets_of c between)
unfolding nas_octets core_header
plain_header c between dir header i e text h is =
    by_test (λ (r : Result ℕ Answer). r ≡ Ok h → h ≡ header) (length (nas_octets c header i e text) == 0) _ _
    (λ b f. absurd (no_header _ Short h refl f))
    (λ b. by_test (λ (r : Result ℕ Answer). r ≡ Ok h → h ≡ header) (core_takes (16 * header + 7)) _ _
    (λ d f. let one : (16 * header + 7) / 16 ≡ h = one_header _ _ _ refl f in omega arith)
    (λ d f. absurd (no_header _ (BadHeader (16 * header + 7)) h refl f))) is

-- what octets tell of a record before it is opened
pub octets_tell : (c : Ciphers Term) → AreCiphers c → (between : Fields → Option (NumberedKey Term ℕ) → List ℕ) → OctetsTell (octets_of c between)
octets_tell c good between = record { text = plain_text c good between; header = plain_header c between }
