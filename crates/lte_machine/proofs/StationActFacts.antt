-- What a station's choice of a row on an act established: the one walk through its refusals. For the row that was chosen, all that the
-- passed tests say.
use Rattle.std.proofs.Common.{◌≡◌, refl, sym, subst, ap, ◌∙◌, ℕ, ◌+◌, ◌<◌, Bool, true, false, ◌==◌, List, Option, Some, None, option_map, arith}
use Rattle.std.specs.Prelude.{⊤}
use Rattle.annex_a_keys.specs.Cell.{Place}
use Rattle.rec_base.specs.declared.bearers.Bearer.{Bearer}
use Rattle.lte_events.specs.{Site.station_of, declared.acts.HoKind.HoKind, declared.acts.StationAct.StationAct}
use Rattle.lte_events.specs.declared.acts.StationAct.TheVariants.{Start, Command, Cancel, Ask, SendUser, SendRrc, Skip}
use Rattle.key_model.specs.Reading.{Reading}
use Rattle.pdcp_guard.specs.Counts.{Counts}
use Rattle.x2_handover.specs.declared.orders.Order.{Order}
use Rattle.lte_machine.specs.Bearers.{Srb, Drb, Which, OnSrb, OnDrb, which, srb_counts, drb_counts, is_spent}
use Rattle.lte_machine.specs.{Reply.Origin, Reply.unseen, StationStep.plain_station}
use Rattle.lte_machine.specs.StationState.{Station, Context, Via, OverX2, OverS1, Within, Renewing, Progress, Open, Ready, Commanded, Attempt, map_context, map_attempt}
use Rattle.lte_machine.specs.StationRows.{ActRow, ActRefused, StartedByX2, StartedByS1, StartedWithin, OrderSent, CancelledByX2, CancelledByS1, CancelledWithin, PathSwitchAsked, PacketSent, RrcSent, BearerSkipped}
use Rattle.lte_machine.specs.StationChoice.{runs_out, is_full, is_misplaced, active_row, unless_spent, begun_row, target_row, start_row, ordered_row, attempt_command_row, command_row, unless_commanded, cancelled_row, attempt_cancel_row, give_up_row, came_row, ask_row, packet_row, send_rrc_row, skip_row, act_row}
use Rattle.lte_machine.proofs.Tests.{by_test}
use Rattle.lte_machine.proofs.RecordFacts.{one_left, two_left, same_unless}

-- a handover of this kind begins, from an active context with no attempt to the station of the cell, under the next number
pub record Starts {K C : Type 0} (s : Station K C) (act : StationAct) (kind : HoKind) (number target : ℕ) (cell : Place) : Type 0 where
  pub act_is : act ≡ Start kind cell
  pub context : Context K C
  pub serving : s.context ≡ Some context
  pub active : context.starting ≡ false
  pub free : context.attempt ≡ None
  pub site : station_of cell s.cells ≡ Some target
  pub placed : is_misplaced kind (target == s.id) ≡ false
  pub number_is : number ≡ s.next
  pub left : s.next < 4294967296

-- within the station there is room for its preparation, whose air address is drawn too
pub record StartsWithin {K C : Type 0} (r : Reading K C) (s : Station K C) (act : StationAct) (number air : ℕ) (cell : Place) : Type 0 where
  pub starts : Starts s act HoKind.Intra number s.id cell
  pub room : is_full (plain_station r s) ≡ false
  pub air_is : air ≡ s.next + 1
  pub left : s.next + 1 < 4294967296

-- what an attempt orders
abbrev pub Orders : Progress → Order → Type 0
Orders Open order = ⊥
Orders (Ready known) order = order ≡ known
Orders (Commanded known) order = order ≡ known

-- the order of the attempt is sent, with the next COUNT of SRB1
pub record Commands {K C : Type 0} (s : Station K C) (act : StationAct) (via : Via) (order : Order) (count : ℕ) : Type 0 where
  pub act_is : act ≡ Command
  pub context : Context K C
  pub serving : s.context ≡ Some context
  pub attempt : Attempt K C
  pub trying : context.attempt ≡ Some attempt
  pub via_is : via ≡ attempt.via
  pub orders : Orders attempt.progress order
  pub count_is : count ≡ context.bearers.srb1.send
  pub unspent : is_spent context.bearers.srb1 ≡ false

-- it is given up
pub record GivesUp {K C : Type 0} (s : Station K C) (act : StationAct) (via : Via) (number : ℕ) : Type 0 where
  pub act_is : act ≡ Cancel
  pub context : Context K C
  pub serving : s.context ≡ Some context
  pub attempt : Attempt K C
  pub trying : context.attempt ≡ Some attempt
  pub via_is : attempt.via ≡ via
  pub number_is : number ≡ attempt.number

pub record CancelsX2 {K C : Type 0} (s : Station K C) (act : StationAct) (conn number target : ℕ) : Type 0 where
  pub gives_up : GivesUp s act OverX2 number
  pub conn_is : conn ≡ gives_up.context.conn
  pub target_is : target ≡ gives_up.attempt.station

pub record CancelsS1 {K C : Type 0} (s : Station K C) (act : StationAct) (conn number : ℕ) (cell : Place) : Type 0 where
  pub gives_up : GivesUp s act OverS1 number
  pub conn_is : conn ≡ gives_up.context.conn
  pub cell_is : cell ≡ gives_up.attempt.cell

-- a Path Switch Request again, of an active context that came by X2, under the next number
pub record Asks {K C : Type 0} (s : Station K C) (act : StationAct) (number : ℕ) : Type 0 where
  pub act_is : act ≡ Ask
  pub context : Context K C
  pub serving : s.context ≡ Some context
  pub active : context.starting ≡ false
  pub origin : Origin
  pub came : context.origin ≡ Some origin
  pub number_is : number ≡ s.next
  pub left : s.next < 4294967296

-- an active context sends, with the next COUNT of the bearer
pub record SendsPacket {K C : Type 0} (s : Station K C) (act : StationAct) (drb : Drb) (count : ℕ) (text : List ℕ) : Type 0 where
  pub bearer : Bearer
  pub act_is : act ≡ SendUser bearer text
  pub on : which bearer ≡ OnDrb drb
  pub context : Context K C
  pub serving : s.context ≡ Some context
  pub active : context.starting ≡ false
  pub count_is : count ≡ (drb_counts drb context.bearers).send
  pub unspent : is_spent (drb_counts drb context.bearers) ≡ false

pub record SendsText {K C : Type 0} (s : Station K C) (act : StationAct) (srb : Srb) (count : ℕ) (text : List ℕ) : Type 0 where
  pub bearer : Bearer
  pub act_is : act ≡ SendRrc bearer text
  pub on : which bearer ≡ OnSrb srb
  pub context : Context K C
  pub serving : s.context ≡ Some context
  pub active : context.starting ≡ false
  pub count_is : count ≡ (srb_counts srb context.bearers).send
  pub unspent : is_spent (srb_counts srb context.bearers) ≡ false

-- COUNTs of a bearer of an active context are left out
pub record Skips {K C : Type 0} (s : Station K C) (act : StationAct) (on : Which) (n : ℕ) : Type 0 where
  pub bearer : Bearer
  pub act_is : act ≡ Skip bearer n
  pub on_is : on ≡ which bearer
  pub context : Context K C
  pub serving : s.context ≡ Some context
  pub active : context.starting ≡ false

-- what was established of a row
abbrev pub StationActHas : {K C : Type 0} → Reading K C → Station K C → StationAct → ActRow → Type 0
StationActHas r s act (ActRefused answer) = ⊤
StationActHas r s act (StartedByX2 number target cell) = Starts s act HoKind.X2 number target cell
StationActHas r s act (StartedByS1 number target cell) = Starts s act HoKind.S1 number target cell
StationActHas r s act (StartedWithin number air cell) = StartsWithin r s act number air cell
StationActHas r s act (OrderSent via order count) = Commands s act via order count
StationActHas r s act (CancelledByX2 conn number target) = CancelsX2 s act conn number target
StationActHas r s act (CancelledByS1 conn number cell) = CancelsS1 s act conn number cell
StationActHas r s act (CancelledWithin number) = GivesUp s act Within number
StationActHas r s act (PathSwitchAsked number) = Asks s act number
StationActHas r s act (PacketSent drb count text) = SendsPacket s act drb count text
StationActHas r s act (RrcSent srb count text) = SendsText s act srb count text
StationActHas r s act (BearerSkipped on n) = Skips s act on n

module _ {K C : Type 0} (r : Reading K C) (s : Station K C) (act : StationAct) where
  abbrev Has : ActRow → Type 0
  Has row = StationActHas r s act row

  active_has : (starting : Bool) (row : ActRow) → (starting ≡ false → Has row) → Has (active_row starting row)
  active_has true row f = tt
  active_has false row f = f refl

  unspent_has : (counts : Counts) (row : ActRow) → (is_spent counts ≡ false → Has row) → Has (unless_spent counts row)
  unspent_has counts row f = by_test Has (is_spent counts) _ _ (λ e. tt) f

  module _ (c : Context K C) (e : s.context ≡ Some c) where
    begun_has : (kind : HoKind) (target : ℕ) (cell : Place)
        → act ≡ Start kind cell
        → c.starting ≡ false
        → c.attempt ≡ None
        → station_of cell s.cells ≡ Some target
        → is_misplaced kind (target == s.id) ≡ false → Has (begun_row (plain_station r s) target cell kind)
    begun_has HoKind.X2 target cell a f g h i =
        by_test Has (runs_out 1 s.next) _ _ (λ j. tt)
        (λ j. record { act_is = a; context = c; serving = e; active = f; free = g; site = h; placed = i; number_is = refl; left = one_left s.next j })
    begun_has HoKind.S1 target cell a f g h i =
        by_test Has (runs_out 1 s.next) _ _ (λ j. tt)
        (λ j. record { act_is = a; context = c; serving = e; active = f; free = g; site = h; placed = i; number_is = refl; left = one_left s.next j })
    begun_has HoKind.Intra target cell a f g h i =
        by_test Has (is_full (plain_station r s)) _ _ (λ j. tt) (λ room.
        by_test Has (runs_out 2 s.next) _ _ (λ j. tt) (λ j.
        let own : target ≡ s.id = same_unless target s.id i in
        record {
          starts = record {
            act_is = a;
            context = c;
            serving = e;
            active = f;
            free = g;
            site = h ∙ ap Some own;
            placed = subst (λ t. is_misplaced HoKind.Intra (t == s.id) ≡ false) own i;
            number_is = refl;
            left = first_left (two_left s.next j);
          };
          room = room;
          air_is = refl;
          left = two_left s.next j;
        }))
      where
        first_left : s.next + 1 < 4294967296 → s.next < 4294967296
        first_left lt = omega arith

    target_has : (kind : HoKind) (cell : Place) → act ≡ Start kind cell → c.starting ≡ false → (t : Option ℕ) → station_of cell s.cells ≡ t
        → (o : Option (Attempt K C)) → c.attempt ≡ o → Has (target_row (plain_station r s) (option_map (map_attempt unseen r.ncc) o) cell kind t)
    target_has kind cell a f None h o g = tt
    target_has kind cell a f (Some target) h (Some attempt) g = by_test Has (is_misplaced kind (target == s.id)) _ _ (λ i. tt) (λ i. tt)
    target_has kind cell a f (Some target) h None g = by_test Has (is_misplaced kind (target == s.id)) _ _ (λ i. tt) (λ i. begun_has kind target cell a f g h i)

    sent_has : act ≡ Command → (a : Attempt K C) → c.attempt ≡ Some a → (order : Order) → Orders a.progress order
        → Has (unless_spent c.bearers.srb1 (OrderSent a.via order c.bearers.srb1.send))
    sent_has is a f order orders =
        unspent_has c.bearers.srb1 _ (λ h. record {
          act_is = is;
          context = c;
          serving = e;
          attempt = a;
          trying = f;
          via_is = refl;
          orders = orders;
          count_is = refl;
          unspent = h;
        })

    ordered_has : act ≡ Command → (a : Attempt K C) → c.attempt ≡ Some a → (p : Progress) → a.progress ≡ p → Has (ordered_row a.via p c.bearers.srb1)
    ordered_has is a f Open g = tt
    ordered_has is a f (Ready order) g = sent_has is a f order (subst (λ p. Orders p order) (sym g) refl)
    ordered_has is a f (Commanded order) g = sent_has is a f order (subst (λ p. Orders p order) (sym g) refl)

    command_has : act ≡ Command
        → (o : Option (Attempt K C))
        → c.attempt ≡ o
        → Has (attempt_command_row (option_map (map_attempt unseen r.ncc) o) c.bearers.srb1)
    command_has is None f = tt
    command_has is (Some a) f = ordered_has is a f a.progress refl

    module _ (is : act ≡ Cancel) (a : Attempt K C) (f : c.attempt ≡ Some a) where
      abbrev gives : (via : Via) → a.via ≡ via → GivesUp s act via a.number
      gives via g = record { act_is = is; context = c; serving = e; attempt = a; trying = f; via_is = g; number_is = refl }

      cancelled_has : (via : Via) → a.via ≡ via → Has (cancelled_row c.conn (map_attempt unseen r.ncc a) via)
      cancelled_has OverX2 g = record { gives_up = gives OverX2 g; conn_is = refl; target_is = refl }
      cancelled_has OverS1 g = record { gives_up = gives OverS1 g; conn_is = refl; cell_is = refl }
      cancelled_has Within g = gives Within g
      cancelled_has Renewing g = tt

      uncommanded_has : (p : Progress) (row : ActRow) → Has row → Has (unless_commanded p row)
      uncommanded_has Open row h = h
      uncommanded_has (Ready order) row h = h
      uncommanded_has (Commanded order) row h = tt

    cancel_has : act ≡ Cancel → (o : Option (Attempt K C)) → c.attempt ≡ o → Has (attempt_cancel_row c.conn (option_map (map_attempt unseen r.ncc) o))
    cancel_has is None f = tt
    cancel_has is (Some a) f = uncommanded_has is a f a.progress _ (cancelled_has is a f a.via refl)

    came_has : act ≡ Ask → c.starting ≡ false → (o : Option Origin) → c.origin ≡ o → Has (came_row s.next o)
    came_has a f None g = tt
    came_has a f (Some origin) g =
        by_test Has (runs_out 1 s.next) _ _ (λ h. tt)
        (λ h. record { act_is = a; context = c; serving = e; active = f; origin = origin; came = g; number_is = refl; left = one_left s.next h })

  start_has : (kind : HoKind) (cell : Place) → act ≡ Start kind cell → (o : Option (Context K C)) → s.context ≡ o
      → Has (start_row (plain_station r s) kind cell (option_map (map_context unseen r.ncc) o))
  start_has kind cell a None e = tt
  start_has kind cell a (Some c) e = active_has c.starting _ (λ f. target_has c e kind cell a f (station_of cell s.cells) refl c.attempt refl)

  commands_has : act ≡ Command → (o : Option (Context K C)) → s.context ≡ o → Has (command_row (option_map (map_context unseen r.ncc) o))
  commands_has a None e = tt
  commands_has a (Some c) e = command_has c e a c.attempt refl

  give_up_has : act ≡ Cancel → (o : Option (Context K C)) → s.context ≡ o → Has (give_up_row (option_map (map_context unseen r.ncc) o))
  give_up_has a None e = tt
  give_up_has a (Some c) e = cancel_has c e a c.attempt refl

  ask_has : act ≡ Ask → (o : Option (Context K C)) → s.context ≡ o → Has (ask_row s.next (option_map (map_context unseen r.ncc) o))
  ask_has a None e = tt
  ask_has a (Some c) e = active_has c.starting _ (λ f. came_has c e a f c.origin refl)

  packet_has : (bearer : Bearer) (text : List ℕ) → act ≡ SendUser bearer text → (on : Which) → which bearer ≡ on → (o : Option (Context K C)) → s.context ≡ o
      → Has (packet_row on text (option_map (map_context unseen r.ncc) o))
  packet_has bearer text a (OnSrb srb) b o e = tt
  packet_has bearer text a (OnDrb drb) b None e = tt
  packet_has bearer text a (OnDrb drb) b (Some c) e =
      active_has c.starting _ (λ f. unspent_has (drb_counts drb c.bearers) (PacketSent drb (drb_counts drb c.bearers).send text)
      (λ g. record { bearer = bearer; act_is = a; on = b; context = c; serving = e; active = f; count_is = refl; unspent = g }))

  text_has : (bearer : Bearer) (text : List ℕ) → act ≡ SendRrc bearer text → (on : Which) → which bearer ≡ on → (o : Option (Context K C)) → s.context ≡ o
      → Has (send_rrc_row on text (option_map (map_context unseen r.ncc) o))
  text_has bearer text a (OnDrb drb) b o e = tt
  text_has bearer text a (OnSrb srb) b None e = tt
  text_has bearer text a (OnSrb srb) b (Some c) e =
      active_has c.starting _ (λ f. unspent_has (srb_counts srb c.bearers) (RrcSent srb (srb_counts srb c.bearers).send text)
      (λ g. record { bearer = bearer; act_is = a; on = b; context = c; serving = e; active = f; count_is = refl; unspent = g }))

  skip_has : (bearer : Bearer) (n : ℕ)
      → act ≡ Skip bearer n
      → (o : Option (Context K C))
      → s.context ≡ o
      → Has (skip_row (which bearer) n (option_map (map_context unseen r.ncc) o))
  skip_has bearer n a None e = tt
  skip_has bearer n a (Some c) e = active_has c.starting _ (λ f. record { bearer = bearer; act_is = a; on_is = refl; context = c; serving = e; active = f })

-- the row of an act
pub station_act_has : {K C : Type 0} (r : Reading K C) (s : Station K C) (act : StationAct) → StationActHas r s act (act_row (plain_station r s) act)
station_act_has r s (Start kind cell) = start_has r s _ kind cell refl s.context refl
station_act_has r s Command = commands_has r s _ refl s.context refl
station_act_has r s Cancel = give_up_has r s _ refl s.context refl
station_act_has r s Ask = ask_has r s _ refl s.context refl
station_act_has r s (SendUser bearer text) = packet_has r s _ bearer text refl (which bearer) refl s.context refl
station_act_has r s (SendRrc bearer text) = text_has r s _ bearer text refl (which bearer) refl s.context refl
station_act_has r s (Skip bearer n) = skip_has r s _ bearer n refl s.context refl
