-- What the core's choice of a row on an act established: the one walk through its refusals. For the row that was chosen, all that
-- the passed tests say.
use Rattle.std.proofs.Common.{◌≡◌, refl, ℕ, false, List, Option, Some, None, option_map, Result, Ok, Err, nat_le}
use Rattle.alg_choice.specs.{Choice.choice_of, declared.algs.Algs.Algs, declared.caps.Caps.Caps, declared.choices.NoAlgorithm.NoAlgorithm as NoneChosen}
use Rattle.annex_a_keys.specs.Cell.{Place}
use Rattle.lte_events.specs.{Site.station_of, declared.acts.CoreAct.CoreAct}
use Rattle.lte_events.specs.declared.acts.CoreAct.TheVariants.{StartSmc, Connect, Release, SendNas, Skip}
use Rattle.key_model.specs.Reading.{Reading}
use Rattle.nas_count.specs.Estimate.{nas_count_limit}
use Rattle.nas_guard.specs.Keys.{Keys, map_keys}
use Rattle.lte_machine.specs.CoreState.{Core, CorePartial, CoreContext, CoreLink, map_core_partial, map_core_context, map_core_link}
use Rattle.lte_machine.specs.CoreRows.{CoreActRow, ActRefused, SmcStarted, ContextSetUp, ContextReleased, NasSent, NasSkipped}
use Rattle.lte_machine.specs.CoreChoice.{NUMBERS, smc_row, start_smc_row, connect_row, release_row, send_nas_row, skip_nas_row, core_act_row}
use Rattle.lte_machine.specs.{CoreStep.plain_core, Reply.unseen}
use Rattle.lte_machine.proofs.{NasFacts.NoNumber, Tests.by_test}

-- a Security Mode Command of the partial context, with its next COUNT, and no procedure is open
pub record Starts {K C : Type 0} (s : Core K C) (act : CoreAct) (ksi : ℕ) (algs : Algs) (caps : Caps) (count : ℕ) : Type 0 where
  pub act_is : act ≡ StartSmc
  pub partial : CorePartial K
  pub holds : s.partial ≡ Some partial
  pub idle : s.procedure ≡ None
  pub chosen : choice_of s.priority partial.caps ≡ Ok algs
  pub ksi_is : ksi ≡ partial.ksi
  pub caps_is : caps ≡ partial.caps
  pub count_is : count ≡ partial.send
  pub left : nat_le nas_count_limit partial.send ≡ false

-- a connection under the next number, for the trigger, at the station of the cell
pub record SetsUp {K C : Type 0} (s : Core K C) (act : CoreAct) (conn : ℕ) (cell : Place) (target : ℕ) (caps : Caps) (count : ℕ) : Type 0 where
  pub act_is : act ≡ Connect cell
  pub site : station_of cell s.cells ≡ Some target
  pub context : CoreContext K
  pub in_use : s.context ≡ Some context
  pub caps_is : caps ≡ context.caps
  pub triggered : s.trigger ≡ Some count
  pub conn_is : conn ≡ s.next
  pub left : nat_le NUMBERS s.next ≡ false

-- the connection ends
pub record Releases {K C : Type 0} (s : Core K C) (act : CoreAct) (conn station : ℕ) : Type 0 where
  pub act_is : act ≡ Release
  pub link : CoreLink K C
  pub stands : s.link ≡ Some link
  pub conn_is : conn ≡ link.conn
  pub station_is : station ≡ link.station

-- a NAS text under the context in use, with its next COUNT
pub record Sends {K C : Type 0} (s : Core K C) (act : CoreAct) (count : ℕ) (text : List ℕ) : Type 0 where
  pub act_is : act ≡ SendNas text
  pub context : CoreContext K
  pub in_use : s.context ≡ Some context
  pub count_is : count ≡ context.nas.send
  pub left : nat_le nas_count_limit context.nas.send ≡ false

-- COUNTs of the context in use are left out
pub record Skips {K C : Type 0} (s : Core K C) (act : CoreAct) (n : ℕ) : Type 0 where
  pub act_is : act ≡ Skip n
  pub context : CoreContext K
  pub in_use : s.context ≡ Some context

-- what was established of a row
abbrev pub ActHas : {K C : Type 0} → Core K C → CoreAct → CoreActRow → Type 0
ActHas s act (ActRefused answer) = NoNumber answer
ActHas s act (SmcStarted ksi algs caps count) = Starts s act ksi algs caps count
ActHas s act (ContextSetUp conn cell target caps count) = SetsUp s act conn cell target caps count
ActHas s act (ContextReleased conn station) = Releases s act conn station
ActHas s act (NasSent count text) = Sends s act count text
ActHas s act (NasSkipped n) = Skips s act n

module _ {K C : Type 0} (r : Reading K C) (s : Core K C) where
  smc_has : (p : CorePartial K) → s.partial ≡ Some p → s.procedure ≡ None → (chosen : Result Algs NoneChosen) → choice_of s.priority p.caps ≡ chosen
      → ActHas s StartSmc (smc_row (map_core_partial unseen p) chosen)
  smc_has p e f (Err none) g = tt
  smc_has p e f (Ok algs) g =
      by_test (ActHas s StartSmc) (nat_le nas_count_limit p.send) _ _ (λ b. tt)
      (λ b. record { act_is = refl; partial = p; holds = e; idle = f; chosen = g; ksi_is = refl; caps_is = refl; count_is = refl; left = b })

  start_has : (o : Option (CorePartial K)) (k : Option (Keys K)) → s.partial ≡ o → s.procedure ≡ k
      → ActHas s StartSmc (start_smc_row s.priority (option_map (map_core_partial unseen) o) (option_map (map_keys unseen) k))
  start_has None k e f = tt
  start_has (Some p) (Some keys) e f = tt
  start_has (Some p) None e f = smc_has p e f (choice_of s.priority p.caps) refl

  connect_has : (cell : Place) (t : Option ℕ) (o : Option (CoreContext K)) (trigger : Option ℕ)
      → station_of cell s.cells ≡ t
      → s.context ≡ o
      → s.trigger ≡ trigger
      → ActHas s (Connect cell) (connect_row s.next cell t (option_map (map_core_context unseen) o) trigger)
  connect_has cell (Some target) (Some c) (Some count) e f g =
      by_test (ActHas s (Connect cell)) (nat_le NUMBERS s.next) _ _ (λ b. tt)
      (λ b. record { act_is = refl; site = e; context = c; in_use = f; caps_is = refl; triggered = g; conn_is = refl; left = b })
  connect_has cell other rest more e f g = tt

  release_has : (o : Option (CoreLink K C)) → s.link ≡ o → ActHas s Release (release_row (option_map (map_core_link unseen r.ncc) o))
  release_has None e = tt
  release_has (Some link) e = record { act_is = refl; link = link; stands = e; conn_is = refl; station_is = refl }

  send_has : (text : List ℕ) (o : Option (CoreContext K)) → s.context ≡ o → ActHas s (SendNas text) (send_nas_row (option_map (map_core_context unseen) o) text)
  send_has text None e = tt
  send_has text (Some c) e =
      by_test (ActHas s (SendNas text)) (nat_le nas_count_limit c.nas.send) _ _ (λ b. tt)
      (λ b. record { act_is = refl; context = c; in_use = e; count_is = refl; left = b })

  skip_has : (n : ℕ) (o : Option (CoreContext K)) → s.context ≡ o → ActHas s (Skip n) (skip_nas_row (option_map (map_core_context unseen) o) n)
  skip_has n None e = tt
  skip_has n (Some c) e = record { act_is = refl; context = c; in_use = e }

  -- the row of an act
  pub act_has : (act : CoreAct) → ActHas s act (core_act_row (plain_core r s) act)
  act_has StartSmc = start_has s.partial s.procedure refl refl
  act_has (Connect cell) = connect_has cell (station_of cell s.cells) s.context s.trigger refl refl refl
  act_has Release = release_has s.link refl
  act_has (SendNas text) = send_has text s.context refl
  act_has (Skip n) = skip_has n s.context refl
