use Rattle.std.proofs.Common.{◌≡◌, ◌≤◌, ◌<◌, Ok, Err, Some, None, sym, ap, subst, ◌∙◌, length, ◌++◌, ◌∷◌, []}
use Rattle.std.specs.List.{AllByRecursion as AllOf}
use Rattle.lte_world.specs.declared.faults.WorldFault.TheVariants.{Chance, Memory}
use Rattle.fleet_world.specs.Fleets.{most_phones}
use Rattle.fleet_world.specs.Worlds.{Goes, TakesAt, taken_in}
use Rattle.fleet_world.proofs.Applying.{Found, AtEvent, goes, few, low, can_take_at, says_taken, keeps_taken, leaves_taken, says_coincidence, leaves_coincidence, goes_then, few_then, low_then, says_line, keeps_line, leaves_line, says_cross, leaves_cross, keeps_memory, memory_is, leaves_memory}
use Rattle.fleet_world.proofs.fleet.Fleet.apply.Goals.{After-reserve, In-Some-taken, After-take, In-Ok-take, After-crossing, In-Err-Chance, In-Err-Memory}
use Rattle.fleet_world.proofs.fleet.Fleet.apply.Goals as goal

-- the fleet stands, and a phone of it can take the event
event : (c : After-reserve)
    → AtEvent c.self.inside.over c.self.inside.setup c.self.inside.worlds.items c.self.inside.journal.items c.args.self.now c.args.phone c.args.event.now
event c = record { view = c.self.view_is; none = c.in_default.is; stands = c.self.invariant; can = c.requires }

-- which other phone has the root of an authentication
taken : (c : In-Some-taken) → taken_in c.self.inside.worlds.items c.args.phone c.args.event.now ≡ Some c.in-Some-taken.other
taken c = ap (λ ws. taken_in ws c.args.phone c.args.event.now) (sym c.as_slice.ensures.value) ∙ sym c.taken.ensures ∙ c.in-Some-taken.is

untaken : (c : After-take) → taken_in c.self.inside.worlds.items c.args.phone c.args.event.now ≡ None
untaken c = ap (λ ws. taken_in ws c.args.phone c.args.event.now) (sym c.as_slice.ensures.value) ∙ sym c.taken.ensures ∙ c.in_default-taken.is

-- what its world made of the event
took : (c : In-Ok-take)
    → TakesAt c.self.inside.worlds.items c.take.new.worlds.items c.args.phone c.args.event.now (Ok (c.in-Ok-take.rows, c.in-Ok-take.line))
took c = subst (TakesAt c.self.inside.worlds.items c.take.new.worlds.items c.args.phone c.args.event.now) c.in-Ok-take.is c.take.ensures.takes

met : (c : In-Err-Chance)
    → TakesAt c.self.inside.worlds.items c.take.new.worlds.items c.args.phone c.args.event.now (Err (Chance c.in-Err-Chance.proof))
met c =
    subst (TakesAt c.self.inside.worlds.items c.take.new.worlds.items c.args.phone c.args.event.now)
    (c.in-Err-Chance.is ∙ ap Err c.in-Err-Chance.field-0-is)
    c.take.ensures.takes

lacked : (c : In-Err-Memory) → TakesAt c.self.inside.worlds.items c.take.new.worlds.items c.args.phone c.args.event.now (Err Memory)
lacked c =
    subst (TakesAt c.self.inside.worlds.items c.take.new.worlds.items c.args.phone c.args.event.now) (c.in-Err-Memory.is ∙ ap Err c.in-Err-Memory.field-0-is)
    c.take.ensures.takes

-- and what the search found in the ladders of the others
found : (c : After-crossing) → Found c.args.phone c.in-Ok-take.rows c.crossing.result c.take.new.worlds.items
found c = subst (Found c.args.phone c.in-Ok-take.rows c.crossing.result) c.as_slice-in-Ok-take.ensures.value c.crossing.ensures

-- TAKEN

pub taken-requires-clause-goes : goal.taken-requires-clause-goes
taken-requires-clause-goes c =
    let at = goal.at.taken-requires-clause-goes c in subst (AllOf Goes) (sym c.as_slice.ensures.value) (goes (event at.After-reserve))

pub taken-requires-clause-few : goal.taken-requires-clause-few
taken-requires-clause-few c =
    let at = goal.at.taken-requires-clause-few c in subst (λ ws. length ws ≤ most_phones) (sym c.as_slice.ensures.value) (few (event at.After-reserve))

pub invariant_of-self-in-Some-taken : goal.invariant_of-self-in-Some-taken
invariant_of-self-in-Some-taken c =
    let at = goal.at.invariant_of-self-in-Some-taken c in
    keeps_taken (event at.After-reserve) (taken at.In-Some-taken)
    (c.put.ensures ∙ ap (λ journal. journal ++ (c.args.phone, c.args.event.now) ∷ []) c.reserve.ensures.items)

pub returns-in-Some-taken-clause-says : goal.returns-in-Some-taken-clause-says
returns-in-Some-taken-clause-says c differs =
    let at = goal.at.returns-in-Some-taken-clause-says c in says_taken (event at.After-reserve) (taken at.In-Some-taken)

pub returns-in-Some-taken-clause-worlds : goal.returns-in-Some-taken-clause-worlds
returns-in-Some-taken-clause-worlds c none =
    let at = goal.at.returns-in-Some-taken-clause-worlds c in leaves_taken (event at.After-reserve) (taken at.In-Some-taken)

-- A LINE

pub take-requires-clause-place : goal.take-requires-clause-place
take-requires-clause-place c = low (event (goal.at.take-requires-clause-place c).After-reserve)

pub take-requires-clause-can : goal.take-requires-clause-can
take-requires-clause-can c = can_take_at (event (goal.at.take-requires-clause-can c).After-reserve)

pub crossing-requires-clause-goes : goal.crossing-requires-clause-goes
crossing-requires-clause-goes c =
    let at = goal.at.crossing-requires-clause-goes c in
    subst (AllOf Goes) (sym c.as_slice-in-Ok-take.ensures.value) (goes_then (event at.After-reserve) (untaken at.After-take) (took at.In-Ok-take))

pub crossing-requires-clause-few : goal.crossing-requires-clause-few
crossing-requires-clause-few c =
    let at = goal.at.crossing-requires-clause-few c in
    subst (λ ws. length ws ≤ most_phones) (sym c.as_slice-in-Ok-take.ensures.value)
    (few_then (event at.After-reserve) (untaken at.After-take) (took at.In-Ok-take))

pub crossing-requires-clause-phone : goal.crossing-requires-clause-phone
crossing-requires-clause-phone c =
    let at = goal.at.crossing-requires-clause-phone c in
    subst (λ ws. c.args.phone < length ws) (sym c.as_slice-in-Ok-take.ensures.value)
    (low_then (event at.After-reserve) (untaken at.After-take) (took at.In-Ok-take))

pub invariant_of-self-in-None : goal.invariant_of-self-in-None
invariant_of-self-in-None c =
    let at = goal.at.invariant_of-self-in-None c in
    keeps_line (event at.After-reserve) (untaken at.After-take) (took at.In-Ok-take) (found at.After-crossing) c.in-None.is c.put-in-None.new.self.items
    (c.put-in-None.ensures ∙ ap (λ journal. journal ++ (c.args.phone, c.args.event.now) ∷ []) c.reserve.ensures.items)

pub returns-in-None-clause-says : goal.returns-in-None-clause-says
returns-in-None-clause-says c differs =
    let at = goal.at.returns-in-None-clause-says c in
    says_line (event at.After-reserve) (untaken at.After-take) (took at.In-Ok-take) (found at.After-crossing) c.in-None.is

pub returns-in-None-clause-worlds : goal.returns-in-None-clause-worlds
returns-in-None-clause-worlds c none =
    let at = goal.at.returns-in-None-clause-worlds c in
    leaves_line (event at.After-reserve) (untaken at.After-take) (took at.In-Ok-take) (found at.After-crossing)

-- A COINCIDENCE

pub returns-in-Some-crossing-clause-says : goal.returns-in-Some-crossing-clause-says
returns-in-Some-crossing-clause-says c differs =
    let at = goal.at.returns-in-Some-crossing-clause-says c in
    says_cross (event at.After-reserve) (untaken at.After-take) (took at.In-Ok-take) (found at.After-crossing) c.in-Some-crossing.fault c.in-Some-crossing.is

pub returns-in-Some-crossing-clause-worlds : goal.returns-in-Some-crossing-clause-worlds
returns-in-Some-crossing-clause-worlds c none =
    let at = goal.at.returns-in-Some-crossing-clause-worlds c in
    leaves_cross (event at.After-reserve) (untaken at.After-take) (took at.In-Ok-take) (found at.After-crossing) c.in-Some-crossing.fault c.in-Some-crossing.is

pub returns-in-Err-Chance-clause-says : goal.returns-in-Err-Chance-clause-says
returns-in-Err-Chance-clause-says c differs =
    let at = goal.at.returns-in-Err-Chance-clause-says c in says_coincidence (event at.After-reserve) (untaken at.After-take) (met at.In-Err-Chance)

pub returns-in-Err-Chance-clause-worlds : goal.returns-in-Err-Chance-clause-worlds
returns-in-Err-Chance-clause-worlds c none =
    let at = goal.at.returns-in-Err-Chance-clause-worlds c in
    leaves_coincidence (event at.After-reserve) (untaken at.After-take) (met at.In-Err-Chance)

-- NO MEMORY

pub invariant_of-self-in-Err-Memory : goal.invariant_of-self-in-Err-Memory
invariant_of-self-in-Err-Memory c =
    let at = goal.at.invariant_of-self-in-Err-Memory c in
    keeps_memory (event at.After-reserve) (untaken at.After-take) (lacked at.In-Err-Memory) c.reserve.new.self.items c.reserve.ensures.items

pub returns-in-Err-Memory-clause-memory : goal.returns-in-Err-Memory-clause-memory
returns-in-Err-Memory-clause-memory c is =
    let at = goal.at.returns-in-Err-Memory-clause-memory c in
    memory_is (event at.After-reserve) (untaken at.After-take) (lacked at.In-Err-Memory) c.reserve.new.self.items c.reserve.ensures.items

pub returns-in-Err-Memory-clause-worlds : goal.returns-in-Err-Memory-clause-worlds
returns-in-Err-Memory-clause-worlds c none =
    let at = goal.at.returns-in-Err-Memory-clause-worlds c in leaves_memory (event at.After-reserve) (untaken at.After-take) (lacked at.In-Err-Memory)
