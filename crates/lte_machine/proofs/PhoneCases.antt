-- What the phone does, case by case: a property of a step holds of any row, if it holds where nothing changes and in each case that
-- changes something. It speaks of the phone before the step and of what the step does; where a row needs a partial context, a
-- context in use or a connection, the phone of its case has it. What is known of a row comes as a predicate on phones and rows.
use Rattle.std.proofs.Common.{◌≡◌, refl, ℕ, Bool, true, false, List, Option, Some, None}
use Rattle.alg_choice.specs.declared.algs.Algs.{Algs}
use Rattle.annex_a_keys.specs.Cell.{Place}
use Rattle.lte_events.specs.declared.answers.Answer.{Answer}
use Rattle.lte_events.specs.declared.answers.Answer.TheVariants.{Done, NoTrigger}
use Rattle.key_model.specs.Reading.{Reading}
use Rattle.lte_machine.specs.Bearers.{Srb, Drb, Which}
use Rattle.lte_machine.specs.Reply.{only}
use Rattle.lte_machine.specs.PhoneState.{Phone, Partial, NasContext, Radio, Idle, Connecting, Connected, Waiting, Link}
use Rattle.lte_machine.specs.PhoneRows.{NasRow, NasRefused, RejectedPlain, RejectedUnder, ContextTaken, ContextTakenConnected, NasOpened, AirRow, AirRefused, LinkSecured, HandedOver, KeyChanged, RrcOpened, PacketOpened, ActRow, ActRefused, ServiceRequested, CompleteResent, WentIdle, PacketSent, RrcSent, NasSent, NasSkipped, BearerSkipped}
use Rattle.lte_machine.specs.PhoneKeys.{PhoneDone, before_of, changed_unless, nas_does, air_does, act_does}

-- a phone with these
abbrev pub with_partial : {K C : Type 0} → Phone K C → Option (Partial K) → Phone K C
with_partial s partial = record s { partial = partial }

abbrev pub with_context : {K C : Type 0} → Phone K C → Option (NasContext K) → Phone K C
with_context s context = record s { context = context }

abbrev pub with_radio : {K C : Type 0} → Phone K C → Radio K C → Phone K C
with_radio s radio = record s { radio = radio }

-- a row has the property of a phone where this is known of it; with a part of the phone or without
module _ {K C Row : Type 0} (does : Row → Phone K C → PhoneDone K C) (Known : Phone K C → Row → Type 0)
    (P : Phone K C → PhoneDone K C → Type 0) where
  abbrev pub Case : Phone K C → Row → Type 0
  Case s row = Known s row → P s (does row s)

  module _ (s : Phone K C) (row : Row) where
    by_partial : Case (with_partial s None) row → ((p : Partial K) → Case (with_partial s (Some p)) row)
        → (o : Option (Partial K)) → Case (with_partial s o) row
    by_partial n f None = n
    by_partial n f (Some p) = f p

    by_context : Case (with_context s None) row → ((c : NasContext K) → Case (with_context s (Some c)) row)
        → (o : Option (NasContext K)) → Case (with_context s o) row
    by_context n f None = n
    by_context n f (Some c) = f c

    by_link : Case (with_radio s Idle) row → ((w : Waiting K) → Case (with_radio s (Connecting w)) row)
        → ((l : Link K C) → Case (with_radio s (Connected l)) row) → (radio : Radio K C) → Case (with_radio s radio) row
    by_link n m f Idle = n
    by_link n m f (Connecting w) = m w
    by_link n m f (Connected l) = f l

-- by a NAS message
module _ {K C : Type 0} (r : Reading K C) (Known : Phone K C → NasRow → Type 0) (P : Phone K C → PhoneDone K C → Type 0) where
  abbrev NasCase : Phone K C → NasRow → Type 0
  NasCase = Case (nas_does r) Known P

  pub record NasCases (s : Phone K C) : Type 0 where
    pub nothing : (t : Phone K C) (answer : Answer) → P t (t, only answer)
    pub rejected : (answer : Answer) (cause : ℕ) → NasCase s (RejectedPlain answer cause)
    pub rejected_under : (answer : Answer) (cause : ℕ) (c : NasContext K) → NasCase (with_context s (Some c)) (RejectedUnder answer cause)
    pub taken : (algs : Algs) (count : ℕ) (p : Partial K) → NasCase (with_partial s (Some p)) (ContextTaken algs count)
    pub taken_connected : (algs : Algs) (count : ℕ) (p : Partial K) → NasCase (with_partial s (Some p)) (ContextTakenConnected algs count)
    pub opened : (count : ℕ) (text : List ℕ) (c : NasContext K) → NasCase (with_context s (Some c)) (NasOpened count text)

  pub nas_case : (s : Phone K C) → NasCases s → (row : NasRow) → NasCase s row
  nas_case s x (NasRefused answer) = λ h. x.nothing s answer
  nas_case s x (RejectedPlain answer cause) = x.rejected answer cause
  nas_case s x (RejectedUnder answer cause) =
      by_context (nas_does r) Known P s (RejectedUnder answer cause) (λ h. x.nothing _ answer) (x.rejected_under answer cause) s.context
  nas_case s x (ContextTaken algs count) =
      by_partial (nas_does r) Known P s (ContextTaken algs count) (λ h. x.nothing _ Done) (x.taken algs count) s.partial
  nas_case s x (ContextTakenConnected algs count) =
      by_partial (nas_does r) Known P s (ContextTakenConnected algs count) (λ h. x.nothing _ Done) (x.taken_connected algs count) s.partial
  nas_case s x (NasOpened count text) =
      by_context (nas_does r) Known P s (NasOpened count text) (λ h. x.nothing _ Done) (x.opened count text) s.context

-- by a PDU
module _ {K C : Type 0} (r : Reading K C) (Known : Phone K C → AirRow → Type 0) (P : Phone K C → PhoneDone K C → Type 0) where
  abbrev AirCase : Phone K C → AirRow → Type 0
  AirCase = Case (air_does r) Known P

  -- on a connection, whose key is changed where the KASME in use is another than its own
  pub record AirCases (s : Phone K C) : Type 0 where
    pub nothing : (t : Phone K C) (answer : Answer) → P t (t, only answer)
    pub secured : (station air : ℕ) (algs : Algs) (count : ℕ) (w : Waiting K) → AirCase (with_radio s (Connecting w)) (LinkSecured station air algs count)
    pub handed_over : (cell : Place) (steps : ℕ) (algs : Algs) (station air : ℕ) (l : Link K C)
        → AirCase (with_radio s (Connected l)) (HandedOver cell steps algs station air)
    pub changed : (cell : Place) (algs : Algs) (station air : ℕ) (l : Link K C) (c : NasContext K) → r.same c.root l.chain.root ≡ false
        → let t = with_radio (with_context s (Some c)) (Connected l) in
        Known t (KeyChanged cell algs station air) → P t (changed_unless r cell algs station air t (before_of l) c.root false)
    pub rrc : (srb : Srb) (count : ℕ) (text : List ℕ) (l : Link K C) → AirCase (with_radio s (Connected l)) (RrcOpened srb count text)
    pub packet : (drb : Drb) (count : ℕ) (text : List ℕ) (l : Link K C) → AirCase (with_radio s (Connected l)) (PacketOpened drb count text)

  changed_case : (s : Phone K C) → AirCases s → (cell : Place) (algs : Algs) (station air : ℕ) (radio : Radio K C) (o : Option (NasContext K))
      → AirCase (with_radio (with_context s o) radio) (KeyChanged cell algs station air)
  changed_case s x cell algs station air (Connected l) (Some c) = by_key (r.same c.root l.chain.root) refl where
    t : Phone K C
    t = with_radio (with_context s (Some c)) (Connected l)

    by_key : (b : Bool) → r.same c.root l.chain.root ≡ b
        → Known t (KeyChanged cell algs station air) → P t (changed_unless r cell algs station air t (before_of l) c.root b)
    by_key true e h = x.nothing t NoTrigger
    by_key false e h = x.changed cell algs station air l c e h
  changed_case s x cell algs station air radio o = λ h. x.nothing _ Done

  pub air_case : (s : Phone K C) → AirCases s → (row : AirRow) → AirCase s row
  air_case s x (AirRefused answer) = λ h. x.nothing s answer
  air_case s x (LinkSecured station air algs count) =
      by_link (air_does r) Known P s (LinkSecured station air algs count) (λ h. x.nothing _ Done) (x.secured station air algs count)
      (λ l h. x.nothing _ Done) s.radio
  air_case s x (HandedOver cell steps algs station air) =
      by_link (air_does r) Known P s (HandedOver cell steps algs station air) (λ h. x.nothing _ Done) (λ w h. x.nothing _ Done)
      (x.handed_over cell steps algs station air) s.radio
  air_case s x (KeyChanged cell algs station air) = changed_case s x cell algs station air s.radio s.context
  air_case s x (RrcOpened srb count text) =
      by_link (air_does r) Known P s (RrcOpened srb count text) (λ h. x.nothing _ Done) (λ w h. x.nothing _ Done) (x.rrc srb count text) s.radio
  air_case s x (PacketOpened drb count text) =
      by_link (air_does r) Known P s (PacketOpened drb count text) (λ h. x.nothing _ Done) (λ w h. x.nothing _ Done) (x.packet drb count text) s.radio

-- by an act
module _ {K C : Type 0} (r : Reading K C) (Known : Phone K C → ActRow → Type 0) (P : Phone K C → PhoneDone K C → Type 0) where
  abbrev ActCase : Phone K C → ActRow → Type 0
  ActCase = Case (act_does r) Known P

  pub record ActCases (s : Phone K C) : Type 0 where
    pub nothing : (t : Phone K C) (answer : Answer) → P t (t, only answer)
    pub requested : (c : NasContext K) → ActCase (with_context s (Some c)) ServiceRequested
    pub resent : (l : Link K C) → ActCase (with_radio s (Connected l)) CompleteResent
    pub idle : ActCase s WentIdle
    pub packet : (drb : Drb) (text : List ℕ) (l : Link K C) → ActCase (with_radio s (Connected l)) (PacketSent drb text)
    pub rrc : (srb : Srb) (text : List ℕ) (l : Link K C) → ActCase (with_radio s (Connected l)) (RrcSent srb text)
    pub nas : (text : List ℕ) (c : NasContext K) → ActCase (with_context s (Some c)) (NasSent text)
    pub nas_skipped : (n : ℕ) (c : NasContext K) → ActCase (with_context s (Some c)) (NasSkipped n)
    pub bearer_skipped : (bearer : Which) (n : ℕ) (l : Link K C) → ActCase (with_radio s (Connected l)) (BearerSkipped bearer n)

  pub act_case : (s : Phone K C) → ActCases s → (row : ActRow) → ActCase s row
  act_case s x (ActRefused answer) = λ h. x.nothing s answer
  act_case s x ServiceRequested = by_context (act_does r) Known P s ServiceRequested (λ h. x.nothing _ Done) x.requested s.context
  act_case s x CompleteResent =
      by_link (act_does r) Known P s CompleteResent (λ h. x.nothing _ Done) (λ w h. x.nothing _ Done) x.resent s.radio
  act_case s x WentIdle = x.idle
  act_case s x (PacketSent drb text) =
      by_link (act_does r) Known P s (PacketSent drb text) (λ h. x.nothing _ Done) (λ w h. x.nothing _ Done) (x.packet drb text) s.radio
  act_case s x (RrcSent srb text) =
      by_link (act_does r) Known P s (RrcSent srb text) (λ h. x.nothing _ Done) (λ w h. x.nothing _ Done) (x.rrc srb text) s.radio
  act_case s x (NasSent text) = by_context (act_does r) Known P s (NasSent text) (λ h. x.nothing _ Done) (x.nas text) s.context
  act_case s x (NasSkipped n) = by_context (act_does r) Known P s (NasSkipped n) (λ h. x.nothing _ Done) (x.nas_skipped n) s.context
  act_case s x (BearerSkipped bearer n) =
      by_link (act_does r) Known P s (BearerSkipped bearer n) (λ h. x.nothing _ Done) (λ w h. x.nothing _ Done) (x.bearer_skipped bearer n) s.radio
