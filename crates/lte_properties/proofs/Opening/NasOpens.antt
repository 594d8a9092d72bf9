-- What the phone's choice of a row on a NAS message established: the algorithms of a command are those chosen for its KASME.
use Rattle.std.proofs.Common.{◌≡◌, ℕ, ◌+◌, ◌*◌, ◌≤◌, Bool, List, [], ◌∷◌, ◌++◌, length, map, inl, inr, Option, Some, None, Result, Ok, refl, ap, sym, subst, ◌∙◌, arith}
use Rattle.std.specs.Prelude.{⊤}
use Rattle.rec_base.specs.{declared.faults.RecFault.RecFault, declared.uses.Dir.TheVariants.Down}
use Rattle.alg_choice.specs.{Algs.eia2_identity, declared.algs.Algs.Algs, declared.caps.Caps.Caps}
use Rattle.lte_events.specs.{declared.answers.Answer.Answer, declared.answers.Answer.TheVariants.Done}
use Rattle.key_model.specs.{Term.Term, Term.Alg, Reading.Reading, Reading.term_reading_by, Derivation.Derivation}
use Rattle.nas_guard.specs.{Seal.first_octet, Open.sent_in, Open.first_in}
use Rattle.nas_rec.specs.{declared.records.NasRecord.NasRecord, Spelling.spelling_of, Reading.read_nas}
use Rattle.nas_rec.specs.declared.records.NasRecord.TheVariants.{SecurityModeCommand, SecurityModeComplete, SecurityModeReject, ServiceRequest, NasData}
use Rattle.nas_rec.proofs.Laws.{spelled_is_read}
use Rattle.lte_machine.specs.Wire.{KeyUse, Ciphering, Outgoing, SealedNas, Between}
use Rattle.lte_machine.specs.Ciphers.{Ciphers, ciphered_by, nas_octets}
use Rattle.lte_machine.specs.{Opening.Outcome, Opening.Opened, PhoneState.Partial, PhoneState.Phone, PhoneChoice.header_for_phone, PhoneStep.plain_phone, Machines.sender_of, Ladder.RowOrigin, Ladder.Of, Distinct.Member, Distinct.keys_of}
use Rattle.lte_machine.specs.PhoneRows as phone
use Rattle.lte_machine.specs.PhoneChoice as choice
use Rattle.lte_machine.specs.PhoneKeys as keys
use Rattle.lte_machine.proofs.PhoneNasFacts.{NasHas, TakesContext, phone_nas, nas_has}
use Rattle.lte_properties.proofs.Opening.Openings.{SealedUnder, SenderIs}
use Rattle.lte_properties.proofs.Opening.Counts.{nas_parts, header_down, header_other}
use Rattle.lte_properties.proofs.Opening.Nas.{Choices, RootHas, SealedSo, SealedOk}
use Rattle.lte_properties.proofs.Opening.NasRows.{TakenNeeds, NasNeeds}
use Rattle.lte_machine.proofs.CipherLaws.{AreCiphers}

-- a key that a step derives is known after it
known_last : (t : Term) (rows : List (RowOrigin Term)) (ds : List (Derivation Term)) → Member t (map (λ d. d.out) ds) → Member t (keys_of (rows ++ map Of ds))
known_last t [] [] h = h
known_last t [] (d ∷ ds) (inl e) = inl e
known_last t [] (d ∷ ds) (inr h) = inr (known_last t [] ds h)
known_last t (row ∷ rows) ds h = inr (known_last t rows ds h)

module _ (same : Term → Term → Bool) (g : Choices) (next : ℕ) (c : Ciphers Term) (good : AreCiphers c) where
  abbrev q : Reading Term ℕ
  q = term_reading_by same

  -- what came to the phone on NAS: nothing that was sent, or a message with the octets sent; a record between the core and
  -- stations is under no protection
  abbrev pub CameDown : List ℕ → Option (Outgoing Term ℕ) → Type 0
  CameDown pdu None = ⊤
  CameDown pdu (Some (SealedNas Down header u e text)) = (nas_octets c header u e text ≡ pdu) × SealedOk g next Down header u e text
  CameDown pdu (Some (Between to fields key)) = ⊤
  CameDown pdu (Some other) = ⊥

  -- a message of header type 3 that reads as a command names the algorithms that were chosen
  named : (header : ℕ) (u : KeyUse Term) (e : Option (Ciphering Term)) (text pdu : List ℕ) (root : Term) (algs : Algs)
      (x : NasRecord) (ksi : ℕ) (read : Algs) (caps : Caps)
      → nas_octets c header u e text ≡ pdu → text ≡ spelling_of x → SealedSo Down header u e root algs x
      → header_for_phone pdu ≡ Ok 3 → read_nas (sent_in pdu) ≡ Ok (SecurityModeCommand ksi read caps) → algs ≡ read
  named header u e text pdu root algs x ksi read caps octets spelled so type reads =
      by_record x spelled so
    where
      first_is : (h : ℕ) → header ≡ h → first_in pdu ≡ 16 * h + 7
      first_is h is = ap first_in (sym octets) ∙ (nas_parts c good header u e text).0 ∙ ap first_octet is

      long : 6 ≤ length pdu
      long = subst (λ t. 6 ≤ length t) octets (nas_parts c good header u e text).3

      not_three : (h : ℕ) → header_for_phone pdu ≡ Ok h → (h ≡ 3 → ⊥) → algs ≡ read
      not_three h is other = absurd (other (same_ok h 3 (sym is ∙ type)))
        where
          same_ok : (a b : ℕ) → (let y : Result ℕ Answer = Ok a in let z : Result ℕ Answer = Ok b in y ≡ z) → a ≡ b
          same_ok a b e = cc

      same_algs : (k l : ℕ) (a b : Algs) (d f : Caps)
          → (let y : Result NasRecord RecFault = Ok (SecurityModeCommand k a d) in
          let z : Result NasRecord RecFault = Ok (SecurityModeCommand l b f) in y ≡ z)
          → a ≡ b
      same_algs k l a b d f e = cc

      by_record : (x : NasRecord) → text ≡ spelling_of x → SealedSo Down header u e root algs x → algs ≡ read
      by_record (SecurityModeCommand k a d) spelled so =
          let plain : sent_in pdu ≡ spelling_of (SecurityModeCommand k a d) =
          ap sent_in (sym octets) ∙ (nas_parts c good header u e text).2 ∙ ap (λ f. ciphered_by c f text) so.plain ∙ spelled in
          let reads_so : read_nas (sent_in pdu) ≡ Ok (SecurityModeCommand k a d) =
          ap read_nas plain ∙ spelled_is_read (SecurityModeCommand k a d) so.low in
          sym so.chosen ∙ same_algs k ksi a read d caps (sym reads_so ∙ reads)
      by_record SecurityModeComplete spelled so = absurd (header_other pdu 71 3 long (first_is 4 so) refl type)
      by_record (SecurityModeReject cause) spelled so = not_three 2 (header_down pdu 39 long (first_is 2 so) refl) (λ e. absurd (omega arith))
      by_record ServiceRequest spelled so = not_three 1 (header_down pdu 23 long (first_is 1 so) refl) (λ e. absurd (omega arith))
      by_record (NasData data') spelled so = not_three 2 (header_down pdu 39 long (first_is 2 so.type) refl) (λ e. absurd (omega arith))

  module _ (s : Phone Term ℕ) (pdu : List ℕ) (came : Option (Outgoing Term ℕ)) (is : CameDown pdu came) (history : List (RowOrigin Term)) where
    -- the keys that are known after a step
    abbrev known : List (Derivation Term) → List Term
    known derived = keys_of (history ++ map Of derived)

    -- the sender's KASME is the partial context's, and so are its algorithms
    taken_of : (p : Partial Term) (ksi : ℕ) (algs : Algs) (caps : Caps) (o : Option (Outgoing Term ℕ))
        → CameDown pdu o
        → SealedUnder (Alg p.root 2 eia2_identity) (sender_of o)
        → header_for_phone pdu ≡ Ok 3 → read_nas (sent_in pdu) ≡ Ok (SecurityModeCommand ksi algs caps) → RootHas g next p.root algs
    taken_of p ksi algs caps None h under type reads = absurd under
    taken_of p ksi algs caps (Some (SealedNas Down header u e text)) h under type reads =
        let k = h.1 in
        let same_root : k.root ≡ p.root = root_of k.root p.root (sym (ap (λ v. v.key) k.integrity) ∙ under) in
        let same_algs : k.algs ≡ algs = named header u e text pdu k.root k.algs k.says ksi algs caps h.0 k.spelled k.so type reads in
        subst (λ t. RootHas g next t algs) same_root (subst (RootHas g next k.root) same_algs k.has)
      where
        root_of : (a b : Term) → Alg a 2 eia2_identity ≡ Alg b 2 eia2_identity → a ≡ b
        root_of a b e = cc
    taken_of p ksi algs caps (Some (Between to fields key)) h under type reads = absurd under
    taken_of p ksi algs caps other h under type reads = absurd h

    taken_needs : (count : ℕ) (algs : Algs) (text : List ℕ) (ksi : ℕ) (caps : Caps)
        → header_for_phone pdu ≡ Ok 3
        → read_nas (sent_in pdu) ≡ Ok (SecurityModeCommand ksi algs caps)
        → (o : Option (Partial Term))
        → SenderIs (known (keys.context_taken q algs count s o).1.derived) (keys.command_expects q count algs o)
        (sender_of came) (Opened text)
        → TakenNeeds same g next algs o
    taken_needs count algs text ksi caps type reads None h = tt
    taken_needs count algs text ksi caps type reads (Some p) h =
        taken_of p ksi algs caps came is
        (h refl (known_last (Alg p.root 2 eia2_identity) history
        (keys.context_taken q algs count s (Some p)).1.derived (inr (inr (inl refl)))))
        type reads

    connected_needs : (count : ℕ) (algs : Algs) (text : List ℕ) (ksi : ℕ) (caps : Caps)
        → header_for_phone pdu ≡ Ok 3
        → read_nas (sent_in pdu) ≡ Ok (SecurityModeCommand ksi algs caps)
        → (o : Option (Partial Term))
        → SenderIs (known (keys.context_taken_connected q algs count s o).1.derived)
        (keys.command_expects q count algs o) (sender_of came) (Opened text)
        → TakenNeeds same g next algs o
    connected_needs count algs text ksi caps type reads None h = tt
    connected_needs count algs text ksi caps type reads (Some p) h =
        taken_of p ksi algs caps came is
        (h refl (known_last (Alg p.root 2 eia2_identity) history
        (keys.context_taken_connected q algs count s (Some p)).1.derived (inr (inl refl))))
        type reads

    taken_done : (algs : Algs) (count : ℕ) (o : Option (Partial Term)) → (keys.context_taken q algs count s o).1.answer ≡ Done
    taken_done algs count None = refl
    taken_done algs count (Some p) = refl

    connected_done : (algs : Algs) (count : ℕ) (o : Option (Partial Term)) → (keys.context_taken_connected q algs count s o).1.answer ≡ Done
    connected_done algs count None = refl
    connected_done algs count (Some p) = refl

    module _ (outcome : Outcome) where
      -- a row is granted where its step, if it is done, took a message of the key's sender
      abbrev Granted : phone.NasRow → Type 0
      Granted row =
          ((keys.nas_does q row s).1.answer ≡ Done
          → SenderIs (known (keys.nas_does q row s).1.derived) (keys.nas_expects q (phone_nas q s pdu) s)
          (sender_of came) outcome)
          → NasNeeds same g next s.partial row

      at_command : (derived : List (Derivation Term)) (algs : Algs) (count : ℕ) → (f : TakesContext q s pdu outcome algs count)
          → SenderIs (known derived) (keys.nas_expects q (phone_nas q s pdu) s) (sender_of came) outcome
          → SenderIs (known derived) (keys.command_expects q count algs s.partial) (sender_of came) (Opened f.text)
      at_command derived algs count f h =
          subst (λ x. SenderIs (known derived) (keys.nas_expects q x s) (sender_of came) (Opened f.text)) f.front
          (subst (λ o. SenderIs (known derived) (keys.nas_expects q (phone_nas q s pdu) s) (sender_of came) o) f.opened h)

      row_needs : (row : phone.NasRow) → NasHas q s pdu outcome row → Granted row
      row_needs (phone.ContextTaken algs count) f h =
          taken_needs count algs f.text f.by.partial.ksi f.caps f.by.header_is f.by.reads s.partial
          (at_command _ algs count f (h (taken_done algs count s.partial)))
      row_needs (phone.ContextTakenConnected algs count) f h =
          let x = f.0 in
          connected_needs count algs x.text x.by.partial.ksi x.caps x.by.header_is x.by.reads s.partial
          (at_command _ algs count x (h (connected_done algs count s.partial)))
      row_needs other f h = tt

      -- the row of a message: where a command is taken, its algorithms are those chosen for its KASME
      pub nas_pdu_needs : Granted (choice.nas_row s.caps (plain_phone q s).context (plain_phone q s).radio (phone_nas q s pdu) outcome)
      nas_pdu_needs = row_needs (choice.nas_row s.caps (plain_phone q s).context (plain_phone q s).radio (phone_nas q s pdu) outcome) (nas_has q s pdu outcome)
