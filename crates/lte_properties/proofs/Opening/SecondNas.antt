-- On NAS the second case of opening never comes: a message whose integrity use is the expected one is ciphered as its header type
-- says, by the one choice of algorithms of its KASME.
use Rattle.std.proofs.Common.{◌≡◌, refl, sym, ap, ◌∙◌, subst, ℕ, ◌==◌, ◌+◌, ◌*◌, ◌/◌, nat_lt, Bool, true, false, List, length, Option, Some, None, Result, Ok, arith}
use Rattle.alg_choice.specs.{Algs.eia2_identity, declared.algs.Algs.Algs}
use Rattle.rec_base.specs.declared.uses.Dir.{Dir}
use Rattle.rec_base.specs.declared.uses.Dir.TheVariants.{Up, Down}
use Rattle.lte_events.specs.declared.answers.Answer.{Answer}
use Rattle.lte_events.specs.declared.answers.Answer.TheVariants.{Short, BadHeader}
use Rattle.key_model.specs.{HandoverTable.NumberedKey, Reading.Reading, Reading.term_reading_by}
use Rattle.key_model.specs.Term.{Term, Alg, same_term}
use Rattle.nas_guard.specs.{Keys.Keys, Seal.is_ciphered}
use Rattle.s1x2_rec.specs.Fields.{Fields}
use Rattle.lte_machine.specs.{Ciphers.Ciphers, Ciphers.nas_octets, CoreChoice.core_header, PhoneChoice.is_for_phone, PhoneChoice.header_for_phone, Bearers.Srb}
use Rattle.lte_machine.specs.CoreChoice as core_choice
use Rattle.lte_machine.specs.CoreKeys as core_keys
use Rattle.lte_machine.specs.CoreState.{Core, CorePartial, CoreContext}
use Rattle.lte_machine.specs.Opening.{Opening, OpensNas, OpensSrb, CipheredElse, judged, same_uses, same_ciphering}
use Rattle.lte_machine.specs.PhoneChoice as choice
use Rattle.lte_machine.specs.PhoneKeys as keys
use Rattle.lte_machine.specs.PhoneState.{Partial, NasContext, Phone}
use Rattle.lte_machine.specs.Wire.{KeyUse, Ciphering, ciphering_if, ciphering_by, nas_use, nas_ciphering, Outgoing, SealedNas, SealedRrc, Between}
use Rattle.lte_machine.proofs.NasFacts.{FrontHas as CoreFrontHas, nas_front, front_has as core_front_has}
use Rattle.lte_machine.proofs.PhoneNasFacts.{FrontHas, phone_nas, front_has}
use Rattle.lte_properties.specs.SecondCase.{sender_at}
use Rattle.lte_properties.proofs.Agreement.Opener.{one_use, one_ciphering, plain_header, one_header, no_header}
use Rattle.lte_properties.proofs.{Agreement.PhoneWalk.by_test, Opening.NasOpens.CameDown}
use Rattle.lte_properties.proofs.Opening.Nas.{Choices, RootHas, PhoneContextOk, CoreContextOk, ProcedureOk, PhoneOk, CoreOk, ciphered_for, SealedOk, one_choice}
use Rattle.lte_machine.proofs.CipherLaws.{AreCiphers}

-- the second case does not come
abbrev pub Never : Opening Term → Option (Outgoing Term ℕ) → Type 0
Never opening came = sender_at opening came ≡ CipheredElse → ⊥

judged_second : (a b : Bool) (text : List ℕ) → judged a b text ≡ CipheredElse → (a ≡ true) × (b ≡ false)
judged_second true true text e = absurd cc
judged_second true false text e = (refl, refl)
judged_second false b text e = absurd cc

not_same : (e f : Option (Ciphering Term)) → same_ciphering same_term e f ≡ false → e ≡ f → ⊥
not_same e f differs is = let bad : true ≡ false = sym (one_ciphering e f is) ∙ differs in cc

never_nas : (u i : KeyUse Term) (e f : Option (Ciphering Term)) (dir : Dir) (header : ℕ) (text : List ℕ) → (u ≡ i → e ≡ f)
    → Never (OpensNas u e) (Some (SealedNas dir header i f text))
never_nas u i e f dir header text h second =
    let k = judged_second (same_uses same_term u i) (same_ciphering same_term e f) text second in not_same e f k.1 (h (one_use u i k.0))

pub never_srb : (u i : KeyUse Term) (e f : Option (Ciphering Term)) (dir : Dir) (station air : ℕ) (srb : Srb) (text : List ℕ) → (u ≡ i → e ≡ f)
    → Never (OpensSrb u e) (Some (SealedRrc dir station air srb i f text))
never_srb u i e f dir station air srb text h second =
    let k = judged_second (same_uses same_term u i) (same_ciphering same_term e f) text second in not_same e f k.1 (h (one_use u i k.0))

-- the header type of a message for the phone is the sender's
phone_header : (c : Ciphers Term) (header : ℕ) (i : KeyUse Term) (e : Option (Ciphering Term)) (text : List ℕ) (h : ℕ)
    → header_for_phone (nas_octets c header i e text) ≡ Ok h
    → h ≡ header
unfolding nas_octets header_for_phone
phone_header c header i e text h is =
    by_test (λ (r : Result ℕ Answer). r ≡ Ok h → h ≡ header) (length (nas_octets c header i e text) == 0) _ _
    (λ b f. absurd (no_header _ Short h refl f))
    (λ b. by_test (λ (r : Result ℕ Answer). r ≡ Ok h → h ≡ header) (is_for_phone (16 * header + 7)) _ _
    (λ d. by_test (λ (r : Result ℕ Answer). r ≡ Ok h → h ≡ header) (nat_lt (length (nas_octets c header i e text)) 6) _ _
    (λ x f. absurd (no_header _ Short h refl f))
    (λ x f. let one : (16 * header + 7) / 16 ≡ h = one_header _ _ _ refl f in omega arith))
    (λ d f. absurd (no_header _ (BadHeader (16 * header + 7)) h refl f))) is

root_of : (a b : Term) → Alg a 2 eia2_identity ≡ Alg b 2 eia2_identity → a ≡ b
root_of a b e = cc

module _ (g : Choices) (next : ℕ) where
  -- a message under the expected integrity use is ciphered by the algorithms of that KASME
  under_one : (dir : Dir) (header : ℕ) (i : KeyUse Term) (f : Option (Ciphering Term)) (text : List ℕ) → SealedOk g next dir header i f text
      → (root : Term) (algs : Algs) → RootHas g next root algs → (u : KeyUse Term) → u.key ≡ Alg root 2 eia2_identity → u ≡ i
      → f ≡ ciphered_for dir header u root algs
  under_one dir header i f text k root algs has u key is =
      let same_root : k.root ≡ root = root_of k.root root (sym (ap (λ v. v.key) k.integrity) ∙ ap (λ v. v.key) (sym is) ∙ key) in
      let same_algs : k.algs ≡ algs = one_choice g next root k.algs algs (subst (λ t. RootHas g next t k.algs) same_root k.has) has in
      k.ciphered ∙ (λ j. ciphered_for dir header (sym is j) (same_root j) (same_algs j))

  module _ (same : Term → Term → Bool) (c : Ciphers Term) (good : AreCiphers c) where
    abbrev q : Reading Term ℕ
    q = term_reading_by same

    -- AT THE PHONE

    module _ (s : Phone Term ℕ) (own : PhoneOk g next s) (pdu : List ℕ) (came : Option (Outgoing Term ℕ)) (is : CameDown same g next c good pdu came) where
      abbrev NeverAt : choice.NasFront → Type 0
      NeverAt front = Never (keys.nas_expects q front s) came

      header_is : (header h : ℕ) (i : KeyUse Term) (f : Option (Ciphering Term)) (text : List ℕ)
          → nas_octets c header i f text ≡ pdu
          → header_for_phone pdu ≡ Ok h
          → h ≡ header
      header_is header h i f text octets type = phone_header c header i f text h (ap header_for_phone octets ∙ type)

      message_never : (count header : ℕ) → header_for_phone pdu ≡ Ok header → (o : Option (NasContext Term)) → PhoneContextOk g next o
          → (x : Option (Outgoing Term ℕ)) → CameDown same g next c good pdu x → Never (keys.message_expects count header o) x
      message_never count header type None k x h = λ e. absurd cc
      message_never count header type (Some d) k None h = λ e. absurd cc
      message_never count header type (Some d) k (Some (SealedNas Down sent i f text)) h =
          let key : d.keys.int ≡ Alg d.root 2 eia2_identity = ap (λ x. x.int) k.1 in
          let one : header ≡ sent = header_is sent header i f text h.0 type in
          never_nas (nas_use Down d.keys.int count) i (ciphering_if (is_ciphered header) (nas_ciphering Down d.keys count)) f Down sent text
          (λ e. (λ j. ciphering_if (is_ciphered (one j)) (ciphering_by d.keys.algs.eea (nas_use Down (k.1 j).enc count)))
          ∙ sym (under_one Down sent i f text h.1 d.root d.keys.algs k.0 (nas_use Down d.keys.int count) key e))
      message_never count header type (Some d) k (Some (Between to fields key)) h = λ e. absurd cc
      message_never count header type other k rest h = absurd h

      command_never : (count : ℕ) (algs : Algs) → header_for_phone pdu ≡ Ok 3 → (o : Option (Partial Term))
          → (x : Option (Outgoing Term ℕ)) → CameDown same g next c good pdu x → Never (keys.command_expects q count algs o) x
      command_never count algs type None x h = λ e. absurd cc
      command_never count algs type (Some p) None h = λ e. absurd cc
      command_never count algs type (Some p) (Some (SealedNas Down sent i f text)) h =
          let one : 3 ≡ sent = header_is sent 3 i f text h.0 type in
          never_nas (nas_use Down (Alg p.root 2 eia2_identity) count) i None f Down sent text
          (λ e. sym (h.1.ciphered ∙ (λ j. ciphered_for Down (sym one j) i h.1.root h.1.algs)))
      command_never count algs type (Some p) (Some (Between to fields key)) h = λ e. absurd cc
      command_never count algs type other rest h = absurd h

      phone_front_never : (front : choice.NasFront) → FrontHas q s pdu front → NeverAt front
      phone_front_never (choice.NasSettled row) f = λ e. absurd cc
      phone_front_never (choice.AtCommand count algs caps) f = command_never count algs f.header_is s.partial came is
      phone_front_never (choice.AtMessage count header) f = message_never count header f.header_is s.context own.1 came is

      pub phone_nas_never : NeverAt (phone_nas q s pdu)
      phone_nas_never = phone_front_never (phone_nas q s pdu) (front_has q s pdu)

    -- AT THE CORE

    -- what came to the core on NAS: nothing that was sent, or a message with the octets sent
    abbrev pub CameUp : List ℕ → Option (Outgoing Term ℕ) → Type 0
    CameUp pdu (Some (SealedNas Up header u e text)) = (nas_octets c header u e text ≡ pdu) × SealedOk g next Up header u e text
    CameUp pdu (Some (SealedNas Down header u e text)) = ⊥
    CameUp pdu (Some (SealedRrc dir station air srb u e text)) = ⊥
    CameUp pdu other = Unit {0}

    module _ (between : Fields → Option (NumberedKey Term ℕ) → List ℕ) (s : Core Term ℕ) (own : CoreOk g next s)
        (pdu : List ℕ) (came : Option (Outgoing Term ℕ)) (is : CameUp pdu came) where
      abbrev NeverCore : core_choice.CoreNasFront → Type 0
      NeverCore front = Never (core_keys.core_nas_expects front s) came

      core_header_is : (header h : ℕ) (i : KeyUse Term) (f : Option (Ciphering Term)) (text : List ℕ)
          → nas_octets c header i f text ≡ pdu
          → core_header pdu ≡ Ok h
          → h ≡ header
      core_header_is header h i f text octets type = plain_header c between Up header i f text h (ap core_header octets ∙ type)

      complete_never : (count : ℕ) → core_header pdu ≡ Ok 4 → (partial : Option (CorePartial Term)) (o : Option (Keys Term)) → ProcedureOk g next partial o
          → (x : Option (Outgoing Term ℕ)) → CameUp pdu x → Never (core_keys.opens_by_procedure o count) x
      complete_never count type None (Some own_keys) k x h = absurd cc
      complete_never count type (Some p) (Some own_keys) k (Some (SealedNas Up sent i f text)) h =
          let key : own_keys.int ≡ Alg p.root 2 eia2_identity = ap (λ x. x.int) k.1 in
          let one : 4 ≡ sent = core_header_is sent 4 i f text h.0 type in
          never_nas (nas_use Up own_keys.int count) i (Some (nas_ciphering Up own_keys count)) f Up sent text
          (λ e. (λ j. ciphering_if (is_ciphered (one j)) (ciphering_by own_keys.algs.eea (nas_use Up (k.1 j).enc count)))
          ∙ sym (under_one Up sent i f text h.1 p.root own_keys.algs k.0 (nas_use Up own_keys.int count) key e))
      complete_never count type (Some p) (Some own_keys) k (Some (SealedNas Down sent i f text)) h = absurd h
      complete_never count type (Some p) (Some own_keys) k (Some (SealedRrc dir station air srb i f text)) h = absurd h
      complete_never count type other rest k more h = λ e. absurd cc

      protected_never : (header count : ℕ) → core_header pdu ≡ Ok header → (o : Option (CoreContext Term)) → CoreContextOk g next o
          → (x : Option (Outgoing Term ℕ)) → CameUp pdu x → Never (core_keys.opens_by_context o header count) x
      protected_never header count type (Some d) k (Some (SealedNas Up sent i f text)) h =
          let key : d.nas.keys.int ≡ Alg d.nas.root 2 eia2_identity = ap (λ x. x.int) k.1 in
          let one : header ≡ sent = core_header_is sent header i f text h.0 type in
          never_nas (nas_use Up d.nas.keys.int count) i (ciphering_if (is_ciphered header) (nas_ciphering Up d.nas.keys count)) f Up sent text
          (λ e. (λ j. ciphering_if (is_ciphered (one j)) (ciphering_by d.nas.keys.algs.eea (nas_use Up (k.1 j).enc count)))
          ∙ sym (under_one Up sent i f text h.1 d.nas.root d.nas.keys.algs k.0 (nas_use Up d.nas.keys.int count) key e))
      protected_never header count type (Some d) k (Some (SealedNas Down sent i f text)) h = absurd h
      protected_never header count type (Some d) k (Some (SealedRrc dir station air srb i f text)) h = absurd h
      protected_never header count type other k rest h = λ e. absurd cc

      core_front_never : (front : core_choice.CoreNasFront) → CoreFrontHas q s pdu front → NeverCore front
      core_front_never (core_choice.NasSettled row) f = λ e. absurd cc
      core_front_never (core_choice.OpensComplete count) f = complete_never count f.header s.partial s.procedure own.1 came is
      core_front_never (core_choice.OpensProtected header count) f = protected_never header count f.header_is s.context own.2 came is

      pub core_nas_never : NeverCore (nas_front q s pdu)
      core_nas_never = core_front_never (nas_front q s pdu) (core_front_has q s pdu)
