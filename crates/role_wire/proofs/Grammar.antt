-- What is read of a body is spelled so, and what is spelled so is read.
use Rattle.std.proofs.Common.{◌≡◌, ℕ, Bool, true, false, List, [], ◌∷◌, Result, Ok, refl, sym, ap, subst, ◌∙◌, arith}
use Rattle.rec_base.specs.BigEndian.{octets_of}
use Rattle.rec_base.proofs.Numbers.{AreOctets}
use Rattle.rec_fields.proofs.Fields.{bind_ok, ok_is}
use Rattle.rec_fields.proofs.Layouts.{Spelled, IsRow, AreRows, rows_take, rows_on}
use Rattle.edge_io.specs.declared.peers.Role.{Role}
use Rattle.lte_events.specs.{declared.acts.PhoneAct.PhoneAct, declared.acts.StationAct.StationAct, declared.acts.CoreAct.CoreAct, declared.inputs.PhoneIn.PhoneIn, declared.inputs.StationIn.StationIn, declared.inputs.CoreIn.CoreIn, declared.inputs.ActorIn.ActorIn, Ranges.StationTakes, Ranges.CoreTakes}
use Rattle.role_wire.specs.{declared.frames.FrameIn.FrameIn, declared.frames.RoleSetup.RoleSetup}
use Rattle.role_wire.specs.declared.frames.FrameIn.TheVariants.{Setup, Input}
use Rattle.rec_fields.specs.{Field.◌>>=◌, Layout.Readers, Layout.by_kind}
use Rattle.role_wire.specs.Reading.{body_by, phone_rows, station_rows, core_rows, setup_rows, input_of, body_of}
use Rattle.role_wire.specs.Spelling.{phone_octets, station_octets, core_octets, setup_octets, body_spelling}
use Rattle.role_wire.specs.Ranges.{IsPhoneIn, PhoneInSized, StationInSized, CoreInSized, IsSetup, SetupSized, IsFrame, IsFrameIn, IsSized, IsOf, IsRole}
use Rattle.role_wire.proofs.{Layouts.IsForm, SetupForm.first_form}
use Rattle.role_wire.proofs.Forms.{nothing_form, caps_form, auth_form, auth_caps_form, pdu_form, nas_form, air_form, station_air_form, user_form, rrc_form, skip_any_form, skip_bearer_form, skip_nas_form, connect_form, start_form}

-- a row reads what is spelled under its kind
row : {A B : Type 0} {read : List ℕ → Result B ℕ} {form : B → List ℕ} {FormFits : B → Type 0} (spell : A → List ℕ) (Fits : A → Type 0) (kind : ℕ) (make : B → A)
    → IsForm read form FormFits → ((y : B) → kind ∷ form y ≡ spell (make y)) → ((y : B) → FormFits y → Fits (make y))
    → IsRow spell Fits (kind, λ octets. read octets >>= λ y. Ok (make y))
row {A} {B} {read} {form} {FormFits} spell Fits kind make is same fits octets x fit front e =
    let a = bind_ok (read octets) (λ y. Ok (make y)) x e in
    let t = is.takes octets a.0 fit a.1 in
    subst (Spelled spell Fits octets) (ok_is (make a.0) x a.2) (front ∙ ap (λ t. kind ∷ t) t.0 ∙ same a.0, fits a.0 t.1)

read_takes : {A : Type 0} (spell : A → List ℕ) (Fits : A → Type 0) (rows : Readers ℕ A) (octets : List ℕ) (x : A) → AreRows spell Fits rows → AreOctets octets
    → body_by rows octets ≡ Ok x → Spelled spell Fits octets x
unfolding body_by
read_takes spell Fits rows octets x are fit e = rows_take 0 0 spell Fits rows octets x are fit e

-- reading goes on by the kind
read_on : {A : Type 0} (rows : Readers ℕ A) (kind : ℕ) (rest : List ℕ) → body_by rows (kind ∷ rest) ≡ by_kind 0 rows kind (kind ∷ rest)
unfolding body_by
read_on rows kind rest = rows_on 0 0 rows kind rest

-- the phone
abbrev PhoneFits : PhoneIn → Type 0
PhoneFits x = IsPhoneIn x × PhoneInSized x

phone_are : AreRows phone_octets PhoneFits phone_rows
unfolding octets_of
phone_are = (
  row phone_octets PhoneFits 0x01 (λ a. PhoneIn.Auth a.0 a.1) auth_form (λ a. refl) (λ a h. h),
  (
    row phone_octets PhoneFits 0x02 PhoneIn.Nas pdu_form (λ pdu. refl) (λ pdu h. (tt, h)),
    (
      row phone_octets PhoneFits 0x03 (λ a. PhoneIn.Air a.0 a.1 a.2 a.3) station_air_form (λ a. refl) (λ a (low, ((_, bearer), (_, pdu))). (low, (bearer, pdu))),
      (
        row phone_octets PhoneFits 0x10 (λ none. PhoneIn.Act PhoneAct.ServiceRequest) nothing_form (λ none. refl) (λ none h. (tt, tt)),
        (
          row phone_octets PhoneFits 0x11 (λ none. PhoneIn.Act PhoneAct.ResendComplete) nothing_form (λ none. refl) (λ none h. (tt, tt)),
          (
            row phone_octets PhoneFits 0x12 (λ none. PhoneIn.Act PhoneAct.GoIdle) nothing_form (λ none. refl) (λ none h. (tt, tt)),
            (
              row phone_octets PhoneFits 0x13 (λ u. PhoneIn.Act (PhoneAct.SendUser u.0 u.1)) user_form (λ u. refl) (λ u h. h),
              (
                row phone_octets PhoneFits 0x14 (λ r. PhoneIn.Act (PhoneAct.SendRrc r.0 r.1)) rrc_form (λ r. refl) (λ r h. h),
                (
                  row phone_octets PhoneFits 0x15 (λ text. PhoneIn.Act (PhoneAct.SendNas text)) nas_form (λ text. refl) (λ text h. (tt, h)),
                  (row phone_octets PhoneFits 0x16 (λ s. PhoneIn.Act (PhoneAct.Skip s.0 s.1)) skip_any_form (λ s. refl) (λ s (_, (_, n)). (tt, n)), tt),
                ),
              ),
            ),
          ),
        ),
      ),
    ),
  ),
)

station_are : AreRows station_octets (λ x. StationTakes x × StationInSized x) station_rows
unfolding octets_of
station_are =
    let P : StationIn → Type 0 = λ x. StationTakes x × StationInSized x in (
      row station_octets P 0x03 (λ a. StationIn.Air a.0 a.1 a.2) air_form (λ a. refl) (λ a ((_, bearer), (_, pdu)). (tt, (bearer, pdu))),
      (
        row station_octets P 0x04 StationIn.S1 pdu_form (λ pdu. refl) (λ pdu h. (tt, h)),
        (
          row station_octets P 0x05 StationIn.X2 pdu_form (λ pdu. refl) (λ pdu h. (tt, h)),
          (
            row station_octets P 0x13 (λ u. StationIn.Act (StationAct.SendUser u.0 u.1)) user_form (λ u. refl) (λ u h. h),
            (
              row station_octets P 0x14 (λ r. StationIn.Act (StationAct.SendRrc r.0 r.1)) rrc_form (λ r. refl) (λ r h. h),
              (
                row station_octets P 0x16 (λ s. StationIn.Act (StationAct.Skip s.0 s.1)) skip_bearer_form (λ s. refl) (λ s (_, (_, n)). (tt, n)),
                (
                  row station_octets P 0x30 (λ s. StationIn.Act (StationAct.Start s.0 s.1)) start_form (λ s. refl) (λ s h. (tt, h.1)),
                  (
                    row station_octets P 0x31 (λ none. StationIn.Act StationAct.Command) nothing_form (λ none. refl) (λ none h. (tt, tt)),
                    (
                      row station_octets P 0x32 (λ none. StationIn.Act StationAct.Cancel) nothing_form (λ none. refl) (λ none h. (tt, tt)),
                      (row station_octets P 0x33 (λ none. StationIn.Act StationAct.Ask) nothing_form (λ none. refl) (λ none h. (tt, tt)), tt),
                    ),
                  ),
                ),
              ),
            ),
          ),
        ),
      ),
    )

core_are : AreRows core_octets (λ x. CoreTakes x × CoreInSized x) core_rows
unfolding octets_of
core_are =
    let P : CoreIn → Type 0 = λ x. CoreTakes x × CoreInSized x in (
      row core_octets P 0x01 (λ a. CoreIn.Auth a.0 a.1 a.2) auth_caps_form (λ a. refl) (λ a h. h),
      (
        row core_octets P 0x02 CoreIn.Nas pdu_form (λ pdu. refl) (λ pdu h. (tt, h)),
        (
          row core_octets P 0x04 CoreIn.S1 pdu_form (λ pdu. refl) (λ pdu h. (tt, h)),
          (
            row core_octets P 0x15 (λ text. CoreIn.Act (CoreAct.SendNas text)) nas_form (λ text. refl) (λ text h. (tt, h)),
            (
              row core_octets P 0x16 (λ s. CoreIn.Act (CoreAct.Skip s.1)) skip_nas_form (λ s. refl) (λ s (_, (_, n)). (tt, n)),
              (
                row core_octets P 0x20 (λ none. CoreIn.Act CoreAct.StartSmc) nothing_form (λ none. refl) (λ none h. (tt, tt)),
                (
                  row core_octets P 0x21 (λ cell. CoreIn.Act (CoreAct.Connect cell)) connect_form (λ cell. refl) (λ cell h. (tt, h)),
                  (row core_octets P 0x22 (λ none. CoreIn.Act CoreAct.Release) nothing_form (λ none. refl) (λ none h. (tt, tt)), tt),
                ),
              ),
            ),
          ),
        ),
      ),
    )

-- Setup
abbrev SetupFits : RoleSetup → Type 0
SetupFits x = IsSetup x × SetupSized x

abbrev SetupOf : Role → RoleSetup → Type 0
SetupOf role x = SetupFits x × IsOf role true (Setup x)

setup_are : (role : Role) → AreRows setup_octets (SetupOf role) (setup_rows role)
setup_are Role.Phone = (row setup_octets (SetupOf Role.Phone) 0x00 RoleSetup.Phone caps_form (λ c. refl) (λ c h. ((tt, h), tt)), tt)
setup_are (Role.Station id) =
    (row setup_octets (SetupOf (Role.Station id)) 0x00 (λ f. RoleSetup.Station f.0 f.1 f.2) first_form (λ f. refl) (λ f h. (((h.0, h.1), h.2), tt)), tt)
setup_are Role.Core =
    let P : RoleSetup → Type 0 = SetupOf Role.Core in (
      row setup_octets P 0x00 (λ f. RoleSetup.Core f.0 f.1 f.2) first_form (λ f. refl) (λ f h. (((h.0, h.1), h.2), tt)),
      (row setup_octets P 0x06 (λ f. RoleSetup.StandardCore f.0 f.1 f.2) first_form (λ f. refl) (λ f h. (((h.0, h.1), h.2), tt)), tt),
    )

abbrev FrameFound : Role → Bool → List ℕ → FrameIn → Type 0
FrameFound role first octets frame = (octets ≡ body_spelling frame) × IsFrame role first frame

-- what is read of a body is spelled so
pub body_found : (role : Role) (first : Bool) (octets : List ℕ) (frame : FrameIn) → IsRole role → AreOctets octets
    → body_of role first octets ≡ Ok frame → FrameFound role first octets frame
unfolding body_of body_spelling
body_found role true octets frame is fit e =
    let a = bind_ok (body_by (setup_rows role) octets) (λ setup. Ok (Setup setup)) frame e in
    let (spelled, ((input, sized), of)) = read_takes setup_octets (SetupOf role) (setup_rows role) octets a.0 (setup_are role) fit a.1 in
    subst (FrameFound role true octets) (ok_is (Setup a.0) frame a.2) (spelled, record { of = of; input = input; sized = sized })
body_found Role.Phone false octets frame is fit e =
    let a = bind_ok (input_of Role.Phone octets) (λ input. Ok (Input input)) frame e in
    let b = bind_ok (body_by phone_rows octets) (λ input. Ok (ActorIn.Phone input)) a.0 a.1 in
    let (spelled, (input, sized)) = read_takes phone_octets PhoneFits phone_rows octets b.0 phone_are fit b.1 in
    let input_is = ok_is (ActorIn.Phone b.0) a.0 b.2 in
    subst (FrameFound Role.Phone false octets) (ap Input input_is ∙ ok_is (Input a.0) frame a.2) (spelled, record { of = tt; input = input; sized = sized })
body_found (Role.Station id) false octets frame is fit e =
    let a = bind_ok (input_of (Role.Station id) octets) (λ input. Ok (Input input)) frame e in
    let b = bind_ok (body_by station_rows octets) (λ input. Ok (ActorIn.Station id input)) a.0 a.1 in
    let (spelled, (input, sized)) = read_takes station_octets (λ x. StationTakes x × StationInSized x) station_rows octets b.0 station_are fit b.1 in
    let input_is = ok_is (ActorIn.Station id b.0) a.0 b.2 in
    subst (FrameFound (Role.Station id) false octets) (ap Input input_is ∙ ok_is (Input a.0) frame a.2)
    (spelled, record { of = refl; input = (is, input); sized = sized })
body_found Role.Core false octets frame is fit e =
    let a = bind_ok (input_of Role.Core octets) (λ input. Ok (Input input)) frame e in
    let b = bind_ok (body_by core_rows octets) (λ input. Ok (ActorIn.Core input)) a.0 a.1 in
    let (spelled, (input, sized)) = read_takes core_octets (λ x. CoreTakes x × CoreInSized x) core_rows octets b.0 core_are fit b.1 in
    let input_is = ok_is (ActorIn.Core b.0) a.0 b.2 in
    subst (FrameFound Role.Core false octets) (ap Input input_is ∙ ok_is (Input a.0) frame a.2) (spelled, record { of = tt; input = input; sized = sized })

-- what is spelled so is read
phone_again : (x : PhoneIn) → PhoneFits x → body_by phone_rows (phone_octets x) ≡ Ok x
unfolding octets_of
phone_again (PhoneIn.Auth ksi kasme) h =
    read_on phone_rows 0x01 (ksi ∷ kasme) ∙ ap (λ r. r >>= λ a. Ok (PhoneIn.Auth a.0 a.1)) (auth_form.again 0x01 (ksi, kasme) h)
phone_again (PhoneIn.Nas pdu) h = read_on phone_rows 0x02 pdu ∙ ap (λ r. r >>= λ pdu. Ok (PhoneIn.Nas pdu)) (pdu_form.again 0x02 pdu h.1)
phone_again (PhoneIn.Air station air bearer pdu) (low, (known, sized)) =
    read_on phone_rows 0x03 _
    ∙ ap (λ r. r >>= λ a. Ok (PhoneIn.Air a.0 a.1 a.2 a.3))
    (station_air_form.again 0x03 (station, air, bearer, pdu) (low, ((omega arith, known), (tt, sized))))
phone_again (PhoneIn.Act PhoneAct.ServiceRequest) h =
    read_on phone_rows 0x10 []
    ∙ ap (λ r. r >>= λ none. Ok (PhoneIn.Act PhoneAct.ServiceRequest)) (nothing_form.again 0x10 tt tt)
phone_again (PhoneIn.Act PhoneAct.ResendComplete) h =
    read_on phone_rows 0x11 []
    ∙ ap (λ r. r >>= λ none. Ok (PhoneIn.Act PhoneAct.ResendComplete)) (nothing_form.again 0x11 tt tt)
phone_again (PhoneIn.Act PhoneAct.GoIdle) h =
    read_on phone_rows 0x12 []
    ∙ ap (λ r. r >>= λ none. Ok (PhoneIn.Act PhoneAct.GoIdle)) (nothing_form.again 0x12 tt tt)
phone_again (PhoneIn.Act (PhoneAct.SendUser bearer text)) h =
    read_on phone_rows 0x13 _ ∙ ap (λ r. r >>= λ u. Ok (PhoneIn.Act (PhoneAct.SendUser u.0 u.1))) (user_form.again 0x13 (bearer, text) h)
phone_again (PhoneIn.Act (PhoneAct.SendRrc bearer text)) h =
    read_on phone_rows 0x14 _ ∙ ap (λ r. r >>= λ u. Ok (PhoneIn.Act (PhoneAct.SendRrc u.0 u.1))) (rrc_form.again 0x14 (bearer, text) h)
phone_again (PhoneIn.Act (PhoneAct.SendNas text)) h =
    read_on phone_rows 0x15 text ∙ ap (λ r. r >>= λ text. Ok (PhoneIn.Act (PhoneAct.SendNas text))) (nas_form.again 0x15 text h.1)
phone_again (PhoneIn.Act (PhoneAct.Skip bearer n)) h =
    read_on phone_rows 0x16 _ ∙ ap (λ r. r >>= λ s. Ok (PhoneIn.Act (PhoneAct.Skip s.0 s.1))) (skip_any_form.again 0x16 (bearer, n) (tt, (omega arith, h.1)))

station_again : (x : StationIn) → StationTakes x × StationInSized x → body_by station_rows (station_octets x) ≡ Ok x
unfolding octets_of
station_again (StationIn.Air air bearer pdu) (_, (known, sized)) =
    read_on station_rows 0x03 _
    ∙ ap (λ r. r >>= λ a. Ok (StationIn.Air a.0 a.1 a.2))
    (air_form.again 0x03 (air, bearer, pdu) ((omega arith, known), (tt, sized)))
station_again (StationIn.S1 pdu) h = read_on station_rows 0x04 pdu ∙ ap (λ r. r >>= λ pdu. Ok (StationIn.S1 pdu)) (pdu_form.again 0x04 pdu h.1)
station_again (StationIn.X2 pdu) h = read_on station_rows 0x05 pdu ∙ ap (λ r. r >>= λ pdu. Ok (StationIn.X2 pdu)) (pdu_form.again 0x05 pdu h.1)
station_again (StationIn.Act (StationAct.SendUser bearer text)) h =
    read_on station_rows 0x13 _ ∙ ap (λ r. r >>= λ u. Ok (StationIn.Act (StationAct.SendUser u.0 u.1))) (user_form.again 0x13 (bearer, text) h)
station_again (StationIn.Act (StationAct.SendRrc bearer text)) h =
    read_on station_rows 0x14 _ ∙ ap (λ r. r >>= λ u. Ok (StationIn.Act (StationAct.SendRrc u.0 u.1))) (rrc_form.again 0x14 (bearer, text) h)
station_again (StationIn.Act (StationAct.Skip bearer n)) h =
    read_on station_rows 0x16 _
    ∙ ap (λ r. r >>= λ s. Ok (StationIn.Act (StationAct.Skip s.0 s.1)))
    (skip_bearer_form.again 0x16 (bearer, n) (tt, (omega arith, h.1)))
station_again (StationIn.Act (StationAct.Start kind cell)) h =
    read_on station_rows 0x30 _ ∙ ap (λ r. r >>= λ s. Ok (StationIn.Act (StationAct.Start s.0 s.1))) (start_form.again 0x30 (kind, cell) (tt, h.1))
station_again (StationIn.Act StationAct.Command) h =
    read_on station_rows 0x31 []
    ∙ ap (λ r. r >>= λ none. Ok (StationIn.Act StationAct.Command)) (nothing_form.again 0x31 tt tt)
station_again (StationIn.Act StationAct.Cancel) h =
    read_on station_rows 0x32 []
    ∙ ap (λ r. r >>= λ none. Ok (StationIn.Act StationAct.Cancel)) (nothing_form.again 0x32 tt tt)
station_again (StationIn.Act StationAct.Ask) h =
    read_on station_rows 0x33 []
    ∙ ap (λ r. r >>= λ none. Ok (StationIn.Act StationAct.Ask)) (nothing_form.again 0x33 tt tt)

core_again : (x : CoreIn) → CoreTakes x × CoreInSized x → body_by core_rows (core_octets x) ≡ Ok x
unfolding octets_of
core_again (CoreIn.Auth ksi kasme caps) h =
    read_on core_rows 0x01 _ ∙ ap (λ r. r >>= λ a. Ok (CoreIn.Auth a.0 a.1 a.2)) (auth_caps_form.again 0x01 (ksi, kasme, caps) h)
core_again (CoreIn.Nas pdu) h = read_on core_rows 0x02 pdu ∙ ap (λ r. r >>= λ pdu. Ok (CoreIn.Nas pdu)) (pdu_form.again 0x02 pdu h.1)
core_again (CoreIn.S1 pdu) h = read_on core_rows 0x04 pdu ∙ ap (λ r. r >>= λ pdu. Ok (CoreIn.S1 pdu)) (pdu_form.again 0x04 pdu h.1)
core_again (CoreIn.Act (CoreAct.SendNas text)) h =
    read_on core_rows 0x15 text ∙ ap (λ r. r >>= λ text. Ok (CoreIn.Act (CoreAct.SendNas text))) (nas_form.again 0x15 text h.1)
core_again (CoreIn.Act (CoreAct.Skip n)) h =
    read_on core_rows 0x16 _ ∙ ap (λ r. r >>= λ s. Ok (CoreIn.Act (CoreAct.Skip s.1))) (skip_nas_form.again 0x16 (tt, n) (tt, (omega arith, h.1)))
core_again (CoreIn.Act CoreAct.StartSmc) h =
    read_on core_rows 0x20 [] ∙ ap (λ r. r >>= λ none. Ok (CoreIn.Act CoreAct.StartSmc)) (nothing_form.again 0x20 tt tt)
core_again (CoreIn.Act (CoreAct.Connect cell)) h =
    read_on core_rows 0x21 _ ∙ ap (λ r. r >>= λ cell. Ok (CoreIn.Act (CoreAct.Connect cell))) (connect_form.again 0x21 cell h.1)
core_again (CoreIn.Act CoreAct.Release) h = read_on core_rows 0x22 [] ∙ ap (λ r. r >>= λ none. Ok (CoreIn.Act CoreAct.Release)) (nothing_form.again 0x22 tt tt)

setup_again : (role : Role) (x : RoleSetup) → IsOf role true (Setup x) → SetupFits x → body_by (setup_rows role) (setup_octets x) ≡ Ok x
setup_again Role.Phone (RoleSetup.Phone caps) of h =
    read_on (setup_rows Role.Phone) 0x00 _ ∙ ap (λ r. r >>= λ caps. Ok (RoleSetup.Phone caps)) (caps_form.again 0x00 caps h.1)
setup_again (Role.Station id) (RoleSetup.Station order first cells) of ((low, sized), fits) =
    read_on (setup_rows (Role.Station id)) 0x00 _
    ∙ ap (λ r. r >>= λ f. Ok (RoleSetup.Station f.0 f.1 f.2))
    (first_form.again 0x00 (order, first, cells) (low, sized, fits))
setup_again Role.Core (RoleSetup.Core order first cells) of ((low, sized), fits) =
    read_on (setup_rows Role.Core) 0x00 _
    ∙ ap (λ r. r >>= λ f. Ok (RoleSetup.Core f.0 f.1 f.2))
    (first_form.again 0x00 (order, first, cells) (low, sized, fits))
setup_again Role.Core (RoleSetup.StandardCore order first cells) of ((low, sized), fits) =
    read_on (setup_rows Role.Core) 0x06 _
    ∙ ap (λ r. r >>= λ f. Ok (RoleSetup.StandardCore f.0 f.1 f.2))
    (first_form.again 0x06 (order, first, cells) (low, sized, fits))
setup_again role setup of h = absurd of

frame_again : (role : Role) (first : Bool) (frame : FrameIn)
    → IsOf role first frame
    → IsFrameIn frame
    → IsSized frame
    → body_of role first (body_spelling frame) ≡ Ok frame
unfolding body_of body_spelling
frame_again role true (Setup x) of is sized = ap (λ r. r >>= λ setup. Ok (Setup setup)) (setup_again role x of (is, sized))
frame_again Role.Phone false (Input (ActorIn.Phone x)) of is sized =
    ap (λ r. (r >>= λ input. Ok (ActorIn.Phone input)) >>= λ input. Ok (Input input)) (phone_again x (is, sized))
frame_again (Role.Station id) false (Input (ActorIn.Station named x)) of is sized =
    ap (λ r. (r >>= λ input. Ok (ActorIn.Station id input)) >>= λ input. Ok (Input input)) (station_again x (is.1, sized))
    ∙ ap (λ n. Ok (Input (ActorIn.Station n x))) (sym of)
frame_again Role.Core false (Input (ActorIn.Core x)) of is sized =
    ap (λ r. (r >>= λ input. Ok (ActorIn.Core input)) >>= λ input. Ok (Input input)) (core_again x (is, sized))
frame_again Role.Phone true (Input x) of is sized = absurd of
frame_again role first frame of is sized = absurd of

-- what is spelled so is read
pub body_again : (role : Role) (first : Bool) (frame : FrameIn) → IsFrame role first frame → body_of role first (body_spelling frame) ≡ Ok frame
body_again role first frame is = frame_again role first frame is.of is.input is.sized
