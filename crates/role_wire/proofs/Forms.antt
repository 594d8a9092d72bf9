-- Each form of body as a layout.
use Rattle.std.proofs.Common.{◌≡◌, ℕ, Option, Some, refl}
use Rattle.rec_base.specs.Bearer.{IsSrb, IsDrb, octet_of}
use Rattle.rec_base.specs.declared.bearers.Bearer.{Bearer}
use Rattle.rec_base.specs.declared.bearers.Bearer.TheVariants.{Srb1, Srb2}
use Rattle.alg_choice.specs.{declared.algs.Eea.Eea, Algs.identity_of}
use Rattle.alg_choice.specs.declared.algs.Eea.TheVariants.{Eea0, Eea2}
use Rattle.lte_events.specs.declared.acts.HoKind.{HoKind}
use Rattle.lte_events.specs.declared.acts.HoKind.TheVariants.{X2, S1, Intra}
use Rattle.role_wire.specs.Codes.{Codes, coded, srbs, drbs, bearers, nas_alone, nas_or_bearer, nas_octet, skip_octet, ho_kinds, ho_octet, eeas}
use Rattle.role_wire.specs.Body.{nothing_body, nothing_of, caps_body, caps_of, auth_body, auth_of, auth_caps_body, auth_caps_of, pdu_body, pdu_of, air_body, air_of, station_air_body, station_air_of, user_body, user_of, rrc_body, rrc_of, nas_body, nas_of, skip_body, skip_of, connect_body, connect_of, start_body, start_of}
use Rattle.rec_fields.proofs.Layouts.{AreFields}
use Rattle.role_wire.proofs.FieldLaws.{Anywhere, IsCoding, small_is_field, word_is_field, code_is_field, key_is_field, caps_is_field, cell_is_field}
use Rattle.role_wire.proofs.Layouts.{IsLaidOut, of_layout}

-- the tables
drb_again : (b : Bearer) → IsDrb b → coded drbs (octet_of b) ≡ Some b
drb_again Srb1 h = absurd h
drb_again Srb2 h = absurd h
drb_again other h = refl

pub drb_coding : IsCoding octet_of IsDrb drbs
drb_coding = record { are = (refl, tt, (refl, tt, (refl, tt, (refl, tt, tt)))); again = drb_again }

srb_again : (b : Bearer) → IsSrb b → coded srbs (octet_of b) ≡ Some b
srb_again Srb1 h = refl
srb_again Srb2 h = refl
srb_again other h = absurd h

pub srb_coding : IsCoding octet_of IsSrb srbs
srb_coding = record { are = (refl, tt, (refl, tt, tt)); again = srb_again }

bearer_again : (b : Bearer) → Unit {0} → coded bearers (octet_of b) ≡ Some b
bearer_again Srb1 h = refl
bearer_again other h = refl

pub bearer_coding : IsCoding octet_of (λ b. Unit {0}) bearers
bearer_coding = record { are = (refl, tt, (refl, tt, (refl, tt, (refl, tt, (refl, tt, (refl, tt, tt)))))); again = bearer_again }

skip_again : (b : Option Bearer) → Unit {0} → coded nas_or_bearer (skip_octet b) ≡ Some b
skip_again (Some Srb1) h = refl
skip_again other h = refl

pub skip_coding : IsCoding skip_octet (λ b. Unit {0}) nas_or_bearer
skip_coding = record { are = (refl, tt, (refl, tt, (refl, tt, (refl, tt, (refl, tt, (refl, tt, (refl, tt, tt))))))); again = skip_again }

pub nas_coding : IsCoding nas_octet (λ nas. Unit {0}) nas_alone
nas_coding = record { are = (refl, tt, tt); again = λ nas h. refl }

ho_again : (k : HoKind) → Unit {0} → coded ho_kinds (ho_octet k) ≡ Some k
ho_again X2 h = refl
ho_again S1 h = refl
ho_again Intra h = refl

pub ho_coding : IsCoding ho_octet (λ k. Unit {0}) ho_kinds
ho_coding = record { are = (refl, tt, (refl, tt, (refl, tt, tt))); again = ho_again }

eea_again : (e : Eea) → Unit {0} → coded eeas (identity_of e) ≡ Some e
eea_again Eea0 h = refl
eea_again Eea2 h = refl

pub eea_coding : IsCoding identity_of (λ e. Unit {0}) eeas
eea_coding = record { are = (refl, tt, (refl, tt, tt)); again = eea_again }

-- the forms
pub nothing_form : IsLaidOut nothing_of nothing_body (λ x. x)
unfolding nothing_of
nothing_form = of_layout nothing_body tt (λ x. x) (λ x. x) (λ vs. refl) (λ x. refl)

pub caps_form : IsLaidOut caps_of caps_body (λ x. x)
unfolding caps_of
caps_form = of_layout caps_body caps_is_field (λ x. x) (λ x. x) (λ vs. refl) (λ x. refl)

pub auth_form : IsLaidOut auth_of auth_body (λ x. (x.0, x.1))
unfolding auth_of
auth_form = of_layout auth_body (small_is_field 6, key_is_field) (λ vs. (vs.0, vs.1)) (λ x. (x.0, x.1)) (λ vs. refl) (λ x. refl)

pub auth_caps_form : IsLaidOut auth_caps_of auth_caps_body (λ x. (x.0, (x.1, x.2)))
unfolding auth_caps_of
auth_caps_form =
    of_layout auth_caps_body (small_is_field 6, (key_is_field, caps_is_field)) (λ (ksi, (kasme, caps)). (ksi, kasme, caps))
    (λ x. (x.0, (x.1, x.2))) (λ vs. refl) (λ x. refl)

pub pdu_form : IsLaidOut pdu_of pdu_body (λ x. x)
unfolding pdu_of
pdu_form = of_layout pdu_body tt (λ x. x) (λ x. x) (λ vs. refl) (λ x. refl)

pub nas_form : IsLaidOut nas_of nas_body (λ x. x)
unfolding nas_of
nas_form = of_layout nas_body tt (λ x. x) (λ x. x) (λ vs. refl) (λ x. refl)

air_fields : AreFields Anywhere air_body
air_fields = (word_is_field 0, (code_is_field octet_of (λ b. Unit {0}) bearers bearer_coding, tt))

pub air_form : IsLaidOut air_of air_body (λ x. (x.0, (x.1, x.2)))
unfolding air_of
air_form = of_layout air_body air_fields (λ (air, (bearer, pdu)). (air, bearer, pdu)) (λ x. (x.0, (x.1, x.2))) (λ vs. refl) (λ x. refl)

pub station_air_form : IsLaidOut station_air_of station_air_body (λ x. (x.0, (x.1, (x.2, x.3))))
unfolding station_air_of
station_air_form =
    of_layout station_air_body (small_is_field 7, air_fields) (λ (station, (air, (bearer, pdu))). (station, air, bearer, pdu))
    (λ x. (x.0, (x.1, (x.2, x.3)))) (λ vs. refl) (λ x. refl)

pub user_form : IsLaidOut user_of user_body (λ x. (x.0, x.1))
unfolding user_of
user_form = of_layout user_body (code_is_field octet_of IsDrb drbs drb_coding, tt) (λ vs. (vs.0, vs.1)) (λ x. (x.0, x.1)) (λ vs. refl) (λ x. refl)

pub rrc_form : IsLaidOut rrc_of rrc_body (λ x. (x.0, x.1))
unfolding rrc_of
rrc_form = of_layout rrc_body (code_is_field octet_of IsSrb srbs srb_coding, tt) (λ vs. (vs.0, vs.1)) (λ x. (x.0, x.1)) (λ vs. refl) (λ x. refl)

skip_form : {A : Type 0} (octet : A → ℕ) (codes : Codes A)
    → IsCoding octet (λ x. Unit {0}) codes
    → IsLaidOut (skip_of octet codes) (skip_body octet codes) (λ s. (s.0, s.1))
unfolding skip_of
skip_form octet codes is =
    of_layout (skip_body octet codes) (code_is_field octet (λ x. Unit {0}) codes is, word_is_field 0)
    (λ vs. (vs.0, vs.1)) (λ s. (s.0, s.1)) (λ vs. refl) (λ s. refl)

pub skip_any_form : IsLaidOut (skip_of skip_octet nas_or_bearer) (skip_body skip_octet nas_or_bearer) (λ s. (s.0, s.1))
skip_any_form = skip_form skip_octet nas_or_bearer skip_coding

pub skip_bearer_form : IsLaidOut (skip_of octet_of bearers) (skip_body octet_of bearers) (λ s. (s.0, s.1))
skip_bearer_form = skip_form octet_of bearers bearer_coding

pub skip_nas_form : IsLaidOut (skip_of nas_octet nas_alone) (skip_body nas_octet nas_alone) (λ s. (s.0, s.1))
skip_nas_form = skip_form nas_octet nas_alone nas_coding

pub connect_form : IsLaidOut connect_of connect_body (λ x. x)
unfolding connect_of
connect_form = of_layout connect_body cell_is_field (λ x. x) (λ x. x) (λ vs. refl) (λ x. refl)

pub start_form : IsLaidOut start_of start_body (λ x. (x.0, x.1))
unfolding start_of
start_form =
    of_layout start_body (code_is_field ho_octet (λ k. Unit {0}) ho_kinds ho_coding, cell_is_field) (λ vs. (vs.0, vs.1))
    (λ x. (x.0, x.1)) (λ vs. refl) (λ x. refl)
