-- What holds of a run of items holds of it with more items behind it.
use Rattle.std.proofs.Common.{◌≡◌, refl, sym, subst, arith, ℕ, zero, suc, ◌+◌, ◌*◌, ◌≤◌, ◌<◌, List, [], ◌∷◌, ◌++◌, length, All, pos, Option, Some, None, Result, Ok, Err}
use Rattle.std.specs.{Prelude.slice_get, Option.option_map}
use Rattle.std.proofs.lemmas.List.Elements.{All-head, All-nil, All-tail}
use Rattle.key_terms.specs.declared.proof.Proof.{Proof}
use Rattle.lte_events.specs.{Ranges.IsSetup, declared.events.Event.Event, declared.lines.Line.Line, declared.setups.Setup.Setup}
use Rattle.lte_events.specs.Scenario.{most_events, CanHappen}
use Rattle.lte_world.specs.declared.faults.WorldFault.{WorldFault}
use Rattle.lte_world.specs.declared.faults.WorldFault.TheVariants as fault
use Rattle.items.specs.{Items.IsItemOf, Items.most_at_once, declared.Deed.Deed, declared.Item.Item}
use Rattle.items.specs.declared.Deed.TheVariants as deed
use Rattle.item_runs.specs.Coming.{Coming, after_told, and_then, by_event, coming_from, event_in, happening, kept, number_told, record_of, with_item}
use Rattle.item_runs.specs.Course.{Stands, going_on, place_of, told_written}
use Rattle.item_runs.specs.declared.sent.Sent.{Sent}
use Rattle.item_runs.proofs.{AtOnce.longer_by, OneMore.stands_more}

-- where nothing happened
pub begins : (setup : Setup) → IsSetup setup → Stands setup [] []
begins setup is = record {
  scenario = record { can_start = is; can_happen = All-nil (CanHappen setup); few = omega arith };
  tells = refl;
  placed = λ k t at. absurd cc;
}

all_at : {A : Type 0} (P : A → Type 0) (xs : List A) (k : ℕ) (x : A) → slice_get xs k ≡ Some x → All P xs → P x
all_at P [] k x at all = absurd cc
all_at P (y ∷ ys) zero x at all = let same : y ≡ x = cc in subst P same (All-head P y ys all)
all_at P (y ∷ ys) (suc k) x at all = all_at P ys k x at (All-tail P y ys all)

-- WITH SO MANY EVENTS MORE
module _ (setup : Setup) where
  -- it holds, and there are no more events than so many
  abbrev pub Goes : ℕ → Coming → Type 0
  Goes most c = Stands setup c.events c.told × (length c.events ≤ most)

  after_goes : (name : ℕ) (e : Event) (c : Coming) (r : Result Line WorldFault) → r ≡ told_written setup c.events e
      → CanHappen setup e
      → length c.events < most_events
      → Stands setup c.events c.told
      → Goes (length c.events + 1) (after_told (place_of setup) name e c r)
  after_goes name e c r is can few h = (by r is, longer_by (place_of setup) name e c r)
    where
      by : (r : Result Line WorldFault) → r ≡ told_written setup c.events e
          → Stands setup (after_told (place_of setup) name e c r).events (after_told (place_of setup) name e c r).told
      by (Ok line) same =
          stands_more setup c.events c.told name e line (place_of setup (c.events ++ e ∷ []) line.who) can few same refl h
      by (Err (fault.Chance proof)) same = h
      by (Err fault.Memory) same = h

  kept_goes : (most name : ℕ) (o : Option ℕ) (c : Coming) → Goes most c → Goes most (kept name o c)
  kept_goes most name None c h = h
  kept_goes most name (Some number) c h = h

  happening_goes : (times name : ℕ) (e : Event) (c : Coming)
      → CanHappen setup e
      → length c.events + times < most_events
      → Stands setup c.events c.told
      → Goes (length c.events + times + 1) (happening (told_written setup) (place_of setup) times name e c)
  unfolding happening
  happening_goes zero name e c can few h =
      let r = told_written setup c.events e in
      let d = after_told (place_of setup) name e c r in
      let one = after_goes name e c r refl can (omega (arith, few)) h in
      let up = one.1 in
      kept_goes (length c.events + zero + 1) name (number_told r) d (one.0, omega (arith, up))
  happening_goes (suc times) name e c can few h =
      by (number_told (told_written setup c.events e)) (after_goes name e c (told_written setup c.events e) refl can (omega (arith, few)) h)
      (λ number d low good. happening_goes times name (Event.Deliver (pos number)) d (tt, tt) low good)
    where
      by : (o : Option ℕ) → Goes (length c.events + 1) (after_told (place_of setup) name e c (told_written setup c.events e))
          → ((number : ℕ) (d : Coming) → length d.events + times < most_events → Stands setup d.events d.told
          → Goes (length d.events + times + 1) (happening (told_written setup) (place_of setup) times name (Event.Deliver (pos number)) d))
          → Goes (length c.events + suc times + 1)
          (and_then (λ number x. happening (told_written setup) (place_of setup) times name (Event.Deliver (pos number)) x) o
          (after_told (place_of setup) name e c (told_written setup c.events e)))
      by None one later = let up = one.1 in (one.0, omega (arith, up))
      by (Some number) one later =
          let up = one.1 in
          let rest = later number (after_told (place_of setup) name e c (told_written setup c.events e)) (omega (arith, up, few)) one.0 in
          let more = rest.1 in (rest.0, omega (arith, up, more))

  event_can : (acts : List Event) (sent : List Sent) (d : Deed) (e : Event) → event_in acts sent d ≡ Some e → All (CanHappen setup) acts → CanHappen setup e
  event_can acts sent (deed.Act place) e is all = all_at (CanHappen setup) acts place e is all
  event_can acts sent (deed.Delivery of) e is all = by (record_of of sent) is
    where
      by : (o : Option ℕ) → option_map (λ number. Event.Deliver (pos number)) o ≡ Some e → CanHappen setup e
      by None same = absurd cc
      by (Some number) same = let one : Event.Deliver (pos number) ≡ e = cc in subst (CanHappen setup) one (tt, tt)

  item_goes : (acts : List Event) (i : Item) (c : Coming)
      → All (CanHappen setup) acts
      → IsItemOf (length acts) i
      → length c.events + most_at_once < most_events
      → Stands setup c.events c.told
      → Goes (length c.events + most_at_once + 1) (with_item (told_written setup) (place_of setup) acts i c)
  item_goes acts i c all is few h = by c.over (event_in acts c.sent i.deed) refl
    where
      low : i.at_once ≤ most_at_once
      low = is.1

      by : (over : Option Proof) (o : Option Event) → event_in acts c.sent i.deed ≡ o
          → Goes (length c.events + most_at_once + 1) (by_event (told_written setup) (place_of setup) over o i c)
      by None (Some e) is_event =
          let one = happening_goes i.at_once i.name e c (event_can acts c.sent i.deed e is_event all) (omega (arith, low, few)) h in
          let up = one.1 in (one.0, omega (arith, up, low))
      by None None is_event = (h, omega arith)
      by (Some proof) o is_event = (h, omega arith)

  pub going_goes : (acts : List Event) (items : List Item) (c : Coming)
      → All (CanHappen setup) acts
      → All (IsItemOf (length acts)) items
      → length c.events + length items * (most_at_once + 1) ≤ most_events
      → Stands setup c.events c.told
      → Goes (length c.events + length items * (most_at_once + 1)) (going_on setup acts items c)
  unfolding coming_from
  going_goes acts [] c all are few h = (h, omega arith)
  going_goes acts (i ∷ is) c all are few h =
      let one = item_goes acts i c all (All-head (IsItemOf (length acts)) i is are) (omega (arith, few)) h in
      let up = one.1 in
      let rest =
      going_goes acts is (with_item (told_written setup) (place_of setup) acts i c) all (All-tail (IsItemOf (length acts)) i is are)
      (omega (arith, few, up)) one.0 in
      let more = rest.1 in (rest.0, omega (arith, up, more))
