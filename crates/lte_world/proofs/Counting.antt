-- How many records and rows a world has: its events are few enough that each has a number.
use Rattle.std.proofs.Common.{◌≡◌, ap, ◌∙◌, ℕ, ◌+◌, List, [], ◌∷◌, ◌++◌, length, Option, Some, None, arith, length-append}
use Rattle.lte_events.specs.{declared.events.Event.Event, declared.setups.Setup.Setup}
use Rattle.key_terms.specs.declared.proof.Proof.{Proof}
use Rattle.lte_machine.specs.Run.{first_world}
use Rattle.lte_world.specs.Networks.{Stores, AddsFew, Within}
use Rattle.lte_world.specs.{Systems.Actors, Systems.Are, Whole.events_kept}

-- before the first event there are none
pub none_within : (setup : Setup) (a : Actors) (journal : List Event)
    → Are (first_world setup) a
    → journal ≡ []
    → Within (events_kept None (length journal)) a.stores
none_within setup a journal are none =
    let records = ap length are.stores.records in
    let rows = ap length are.stores.rows.are in
    (omega (arith, records), omega (arith, rows))

-- one event more, with a line or with a coincidence
pub line_within : (over : Option Proof) (journal items : List Event) (e : Event) (before after : Stores)
    → over ≡ None
    → items ≡ journal ++ e ∷ []
    → Within (events_kept over (length journal)) before
    → AddsFew before after
    → Within (events_kept over (length items)) after
line_within None journal items e before after none put within grows =
    let longer : length items ≡ length journal + 1 = ap length put ∙ length-append journal (e ∷ []) in
    (omega (arith, longer, within.0, grows.0), omega (arith, longer, within.1, grows.1))
line_within (Some proof) journal items e before after none put within grows = absurd cc

pub coincidence_within : (over : Option Proof) (proof : Proof) (n : ℕ) (before after : Stores)
    → over ≡ None
    → Within (events_kept over n) before
    → AddsFew before after
    → Within (events_kept (Some proof) n) after
coincidence_within None proof n before after none within grows = (omega (arith, within.0, grows.0), omega (arith, within.1, grows.1))
coincidence_within (Some other) proof n before after none within grows = absurd cc
