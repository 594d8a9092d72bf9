-- What the phone's choice of a row on an act established: the one walk through its refusals. For the row that was chosen, all that
-- the passed tests say.
use Rattle.std.proofs.Common.{◌≡◌, refl, sym, ◌∙◌, ℕ, Bool, true, false, List, Option, Some, None, option_map, nat_le}
use Rattle.std.specs.Prelude.{⊤}
use Rattle.lte_events.specs.{Ranges.IsPhoneAct, declared.acts.PhoneAct.PhoneAct}
use Rattle.lte_events.specs.declared.acts.PhoneAct as acts
use Rattle.key_model.specs.Reading.{Reading}
use Rattle.nas_count.specs.Estimate.{nas_count_limit}
use Rattle.rec_base.specs.declared.bearers.Bearer.{Bearer}
use Rattle.lte_machine.specs.Bearers.{Srb, Drb, Which, OnSrb, OnDrb, which, srb_counts, drb_counts, is_spent}
use Rattle.lte_machine.specs.PhoneChoice.{unless_spent, under_context, service_row, resend_row, idle_row, packet_sent_row, rrc_sent_row, nas_skipped_row, bearer_skipped_row, act_row}
use Rattle.lte_machine.specs.PhoneRows.{ActRow, ActRefused, ServiceRequested, CompleteResent, WentIdle, PacketSent, RrcSent, NasSent, NasSkipped, BearerSkipped}
use Rattle.lte_machine.specs.PhoneState.{NasContext, Link, Radio, Idle, Connecting, Connected, Phone, map_context, map_radio}
use Rattle.lte_machine.specs.{PhoneStep.plain_phone, Reply.unseen}
use Rattle.lte_machine.proofs.Tests.{by_test}

-- the context in use, which has an uplink COUNT left
pub record HasCount {K C : Type 0} (s : Phone K C) : Type 0 where
  pub context : NasContext K
  pub in_use : s.context ≡ Some context
  pub left : nat_le nas_count_limit context.send ≡ false

-- the completion of a handover goes out once more, under the next COUNT of SRB1
pub record Resends {K C : Type 0} (s : Phone K C) : Type 0 where
  pub link : Link K C
  pub connected : s.radio ≡ Connected link
  pub by_handover : link.by_handover ≡ true
  pub left : is_spent link.bearers.srb1 ≡ false

-- a user packet on a DRB of the connection, which has a COUNT left
pub record SendsPacket {K C : Type 0} (s : Phone K C) (act : PhoneAct) (drb : Drb) (text : List ℕ) : Type 0 where
  pub bearer : Bearer
  pub act_is : act ≡ acts.TheVariants.SendUser bearer text
  pub link : Link K C
  pub connected : s.radio ≡ Connected link
  pub left : is_spent (drb_counts drb link.bearers) ≡ false

-- an RRC text on an SRB of the connection, which has one left
pub record SendsRrc {K C : Type 0} (s : Phone K C) (act : PhoneAct) (srb : Srb) (text : List ℕ) : Type 0 where
  pub bearer : Bearer
  pub act_is : act ≡ acts.TheVariants.SendRrc bearer text
  pub link : Link K C
  pub connected : s.radio ≡ Connected link
  pub left : is_spent (srb_counts srb link.bearers) ≡ false

-- what was established of a row
abbrev pub ActHas : {K C : Type 0} → Phone K C → PhoneAct → ActRow → Type 0
ActHas s act (ActRefused answer) = ⊤
ActHas s act ServiceRequested = HasCount s
ActHas s act CompleteResent = Resends s
ActHas s act WentIdle = s.radio ≡ Idle → ⊥
ActHas s act (PacketSent drb text) = SendsPacket s act drb text
ActHas s act (RrcSent srb text) = SendsRrc s act srb text
ActHas s act (NasSent text) = HasCount s × (act ≡ acts.TheVariants.SendNas text)
ActHas {K = K} s act (NasSkipped n) = (c : NasContext K) × (s.context ≡ Some c)
ActHas {K = K} {C = C} s act (BearerSkipped bearer n) = (l : Link K C) × (s.radio ≡ Connected l)

module _ {K C : Type 0} (r : Reading K C) (s : Phone K C) where
  abbrev Has : PhoneAct → ActRow → Type 0
  Has act row = ActHas s act row

  -- an act that needs a next COUNT, and one under the context in use
  left_has : (act : PhoneAct) (b : Bool) (row : ActRow) → (b ≡ false → Has act row) → Has act (unless_spent b row)
  left_has act true row f = tt
  left_has act false row f = f refl

  under_has : (act : PhoneAct) (row : ActRow)
      → (HasCount s → Has act row)
      → (o : Option (NasContext K))
      → s.context ≡ o
      → Has act (under_context (option_map (map_context unseen) o) row)
  under_has act row f None e = tt
  under_has act row f (Some c) e = left_has act (nat_le nas_count_limit c.send) row (λ b. f (record { context = c; in_use = e; left = b }))

  service_has : (radio : Radio K C) → Has acts.TheVariants.ServiceRequest (service_row (plain_phone r s).context (map_radio unseen r.ncc radio))
  service_has Idle = under_has acts.TheVariants.ServiceRequest ServiceRequested (λ h. h) s.context refl
  service_has (Connecting w) = under_has acts.TheVariants.ServiceRequest ServiceRequested (λ h. h) s.context refl
  service_has (Connected l) = tt

  resend_has : (radio : Radio K C) → s.radio ≡ radio → Has acts.TheVariants.ResendComplete (resend_row (map_radio unseen r.ncc radio))
  resend_has Idle e = tt
  resend_has (Connecting w) e = tt
  resend_has (Connected l) e =
      by_test (Has acts.TheVariants.ResendComplete) l.by_handover _ _
      (λ b. left_has acts.TheVariants.ResendComplete (is_spent l.bearers.srb1) CompleteResent
      (λ c. record { link = l; connected = e; by_handover = b; left = c }))
      (λ b. tt)

  idle_has : (radio : Radio K C) → s.radio ≡ radio → Has acts.TheVariants.GoIdle (idle_row (map_radio unseen r.ncc radio))
  idle_has Idle e = tt
  idle_has (Connecting w) e = λ f. let x : Connecting w ≡ Idle = sym e ∙ f in cc
  idle_has (Connected l) e = λ f. let x : Connected l ≡ Idle = sym e ∙ f in cc

  packet_has : (bearer : Bearer) (text : List ℕ) (on : Which) (radio : Radio K C) → s.radio ≡ radio
      → Has (acts.TheVariants.SendUser bearer text) (packet_sent_row text on (map_radio unseen r.ncc radio))
  packet_has bearer text (OnDrb drb) (Connected l) e =
      left_has (acts.TheVariants.SendUser bearer text) (is_spent (drb_counts drb l.bearers)) (PacketSent drb text)
      (λ b. record { bearer = bearer; act_is = refl; link = l; connected = e; left = b })
  packet_has bearer text other rest e = tt

  rrc_has : (bearer : Bearer) (text : List ℕ) (on : Which) (radio : Radio K C) → s.radio ≡ radio
      → Has (acts.TheVariants.SendRrc bearer text) (rrc_sent_row text on (map_radio unseen r.ncc radio))
  rrc_has bearer text (OnSrb srb) (Connected l) e =
      left_has (acts.TheVariants.SendRrc bearer text) (is_spent (srb_counts srb l.bearers)) (RrcSent srb text)
      (λ b. record { bearer = bearer; act_is = refl; link = l; connected = e; left = b })
  rrc_has bearer text other rest e = tt

  nas_skipped_has : (n : ℕ) (o : Option (NasContext K))
      → s.context ≡ o
      → Has (acts.TheVariants.Skip None n) (nas_skipped_row n (option_map (map_context unseen) o))
  nas_skipped_has n None e = tt
  nas_skipped_has n (Some c) e = (c, e)

  skipped_has : (bearer : Bearer) (n : ℕ) (radio : Radio K C)
      → s.radio ≡ radio
      → Has (acts.TheVariants.Skip (Some bearer) n) (bearer_skipped_row (which bearer) n (map_radio unseen r.ncc radio))
  skipped_has bearer n Idle e = tt
  skipped_has bearer n (Connecting w) e = tt
  skipped_has bearer n (Connected l) e = (l, e)

  -- the row of an act
  pub act_has : (act : PhoneAct) → ActHas s act (act_row (plain_phone r s) act)
  act_has acts.TheVariants.ServiceRequest = service_has s.radio
  act_has acts.TheVariants.ResendComplete = resend_has s.radio refl
  act_has acts.TheVariants.GoIdle = idle_has s.radio refl
  act_has (acts.TheVariants.SendUser bearer text) = packet_has bearer text (which bearer) s.radio refl
  act_has (acts.TheVariants.SendRrc bearer text) = rrc_has bearer text (which bearer) s.radio refl
  act_has (acts.TheVariants.SendNas text) = under_has (acts.TheVariants.SendNas text) (NasSent text) (λ h. (h, refl)) s.context refl
  act_has (acts.TheVariants.Skip None n) = nas_skipped_has n s.context refl
  act_has (acts.TheVariants.Skip (Some bearer) n) = skipped_has bearer n s.radio refl

-- an act in range, whose row this is
abbrev pub ByAct : {K C : Type 0} → Phone K C → ActRow → Type 0
ByAct s row = (act : PhoneAct) × ActHas s act row × IsPhoneAct act
