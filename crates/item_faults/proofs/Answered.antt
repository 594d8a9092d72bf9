-- What holds of the items of a scenario and of a list.
use Rattle.std.proofs.Common.{◌≡◌, ℕ, ◌+◌, ◌<◌, ◌≤◌, Bool, true, false, List, length, get_or, All, Option, Some, None, Result, Ok, Err, IfOk, IfSome, ◌⊎◌, inl, inr, if◌then◌else◌, sym, subst, arith, ◌||◌}
use Rattle.std.specs.List.{slice_get}
use Rattle.std.proofs.lemmas.List.Elements.{All-get_or, All-map, All-weaker}
use Rattle.std.proofs.lemmas.Option.{slice_get_cases}
use Rattle.items.specs.Items.{IsDeedOf, IsItemOf, most_at_once}
use Rattle.item_faults.specs.{declared.entries.Again.Again, declared.entries.Entry.Entry, declared.messages.Message.Message, declared.steps.Does.Does, declared.steps.Step.Step}
use Rattle.item_faults.specs.declared.entries.Again.TheVariants as again
use Rattle.item_faults.specs.declared.messages.Message.TheVariants as message
use Rattle.item_faults.specs.declared.steps.Does.TheVariants as does
use Rattle.item_faults.specs.AtOnce.{is_delivered, is_sender, item_of, items_of}
use Rattle.item_faults.specs.Laws.{AreEntries, IsAgainOf, IsEntryOf, IsStationOf, IsStep}
use Rattle.item_faults.specs.Steps.{again_by, again_of, anew, anew_at, answer_anew, answer_at, answer_to, answered, by_ask, by_command, deed_of, entries_of, entry_of, source_of, step_of}

-- what holds of the list that is answered
pub ok_of : {T E X : Type 0} (items : T → List X) (P : List X → Type 0) (r : Result T E) (list : List X) → IfOk r (λ t. items t ≡ list) →
    P list → IfOk r (λ t. P (items t))
ok_of items P (Err e) list same h = tt
ok_of items P (Ok t) list same h = subst P (sym same) h

-- THE ITEMS OF A LIST

few_at_once : (b : Bool) → (if b then 0 else most_at_once) ≤ most_at_once
few_at_once true = omega arith
few_at_once false = omega arith

is_item : (acts : ℕ) (senders : List ℕ) (xs : List Entry) (e : Entry) → IsEntryOf acts e → IsItemOf acts (item_of senders xs e)
is_item acts senders xs e h = (h.does, few_at_once (is_sender e.name senders || is_delivered e.name xs))

pub are_items : (acts : ℕ) (senders : List ℕ) (xs : List Entry) → AreEntries acts xs → All (IsItemOf acts) (items_of senders xs)
are_items acts senders xs all =
    All-map (IsItemOf acts) (item_of senders xs) xs
    (All-weaker (IsEntryOf acts) (λ e. IsItemOf acts (item_of senders xs e)) (λ e h. is_item acts senders xs e h) xs all)

-- THE ITEMS OF A SCENARIO

by_command_is : (acts total : ℕ) (o : Option ℕ) → acts + 26 ≤ total → IsStationOf o → IsAgainOf total (by_command acts o)
by_command_is acts total None room h = tt
by_command_is acts total (Some station) room h = omega arith

by_ask_is : (acts total : ℕ) (o : Option ℕ) → acts + 26 ≤ total → IsStationOf o → IsAgainOf total (by_ask acts o)
by_ask_is acts total None room h = tt
by_ask_is acts total (Some station) room h = omega arith

answer_at_is : (acts total : ℕ) (o : Option ℕ) → acts + 26 ≤ total → IsStationOf o → IsAgainOf total (answer_at acts o)
answer_at_is acts total None room h = tt
answer_at_is acts total (Some station) room h = omega arith

anew_at_is : (acts total number : ℕ) (o : Option ℕ) → acts + 26 ≤ total → number < acts → IsStationOf o →
    IsAgainOf total (anew_at acts number o)
anew_at_is acts total number None room low h = tt
anew_at_is acts total number (Some station) room low h = (omega arith, omega arith)

answer_to_is : (acts total : ℕ) (o : Option Step) → acts + 26 ≤ total → IfSome o (IsStep acts) → IsAgainOf total (answer_to acts o)
answer_to_is acts total None room h = tt
answer_to_is acts total (Some s) room h = answer_at_is acts total s.station room h.station

anew_is : (acts total : ℕ) (s : Step) (d : Does) → acts + 26 ≤ total → IsStep acts s → IsAgainOf total (anew acts s d)
anew_is acts total s does.StartX2 room h = anew_at_is acts total s.number s.station room h.number h.station
anew_is acts total s _ room h = tt

answered_is : (total : ℕ) (a : Again) → IsAgainOf total a → IsAgainOf total (answered a)
answered_is total (again.Anew a b) h = h
answered_is total _ h = tt

answer_anew_is : (acts total : ℕ) (o : Option Step) → acts + 26 ≤ total → IfSome o (IsStep acts) → IsAgainOf total (answer_anew acts o)
answer_anew_is acts total None room h = tt
answer_anew_is acts total (Some s) room h = answered_is total (anew acts s s.does) (anew_is acts total s s.does room h)

got : (P : Step → Type 0) (xs : List Step) (n : ℕ) (o : Option Step) →
    ((x : Step) × (n < length xs) × (o ≡ Some x) × (get_or xs n x ≡ x)) ⊎ ((length xs ≤ n) × (o ≡ None)) → All P xs → IfSome o P
got P xs n o (inl h) all =
    let Q : Option Step → Type 0 = λ p. IfSome p P in subst Q (sym h.2) (subst P h.3 (All-get_or P xs n h.0 h.1 all))
got P xs n o (inr h) all = let Q : Option Step → Type 0 = λ p. IfSome p P in subst Q (sym h.1) tt

step_is : (acts : ℕ) (steps : List Step) (o : Option ℕ) → All (IsStep acts) steps → IfSome (step_of steps o) (IsStep acts)
step_is acts steps None all = tt
step_is acts steps (Some n) all = got (IsStep acts) steps n (slice_get steps n) (slice_get_cases steps n).1 all

again_by_is : (acts total : ℕ) (steps : List Step) (s : Step) (m : Option Message) → acts + 26 ≤ total → All (IsStep acts) steps →
    IsStep acts s → IsAgainOf total (again_by acts steps s m)
again_by_is acts total steps s (Some message.RrcReconfiguration) room all h = by_command_is acts total s.station room h.station
again_by_is acts total steps s (Some message.RrcReconfigurationComplete) room all h = omega arith
again_by_is acts total steps s (Some message.PathSwitchRequest) room all h = by_ask_is acts total s.station room h.station
again_by_is acts total steps s (Some message.ServiceRequest) room all h = omega arith
again_by_is acts total steps s (Some message.PathSwitchRequestAcknowledge) room all h =
    answer_to_is acts total (step_of steps (source_of s.does)) room (step_is acts steps (source_of s.does) all)
again_by_is acts total steps s (Some message.X2HandoverRequest) room all h = anew_is acts total s s.does room h
again_by_is acts total steps s (Some message.X2HandoverRequestAcknowledge) room all h =
    answer_anew_is acts total (step_of steps (source_of s.does)) room (step_is acts steps (source_of s.does) all)
again_by_is acts total steps s _ room all h = tt

again_of_is : (acts total : ℕ) (steps : List Step) (o : Option Step) → acts + 26 ≤ total → All (IsStep acts) steps →
    IfSome o (IsStep acts) → IsAgainOf total (again_of acts steps o)
again_of_is acts total steps None room all h = tt
again_of_is acts total steps (Some s) room all h = again_by_is acts total steps s s.sends room all h

deed_is : (acts total number : ℕ) (d : Does) → acts + 26 ≤ total → number < acts → IsDeedOf total (deed_of number d)
deed_is acts total number (does.Delivers of) room low = tt
deed_is acts total number _ room low = omega arith

entry_is : (acts total : ℕ) (steps : List Step) (s : Step) → acts + 26 ≤ total → All (IsStep acts) steps → IsStep acts s →
    IsEntryOf total (entry_of acts steps s)
entry_is acts total steps s room all h = record {
  does = deed_is acts total s.number s.does room h.number;
  repeats =
      again_of_is acts total steps (step_of steps (source_of s.does)) room all (step_is acts steps (source_of s.does) all);
}

pub are_entries : (acts total : ℕ) (steps : List Step) → acts + 26 ≤ total → All (IsStep acts) steps →
    AreEntries total (entries_of acts steps)
are_entries acts total steps room all =
    All-map (IsEntryOf total) (entry_of acts steps) steps
    (All-weaker (IsStep acts) (λ s. IsEntryOf total (entry_of acts steps s)) (λ s h. entry_is acts total steps s room all h) steps all)
