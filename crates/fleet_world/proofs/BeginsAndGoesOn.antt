-- A fleet that begins, and a world that goes on behind an event.
use Rattle.std.proofs.Common.{◌≡◌, refl, sym, ap, subst, ◌∙◌, ℕ, zero, suc, ◌≤◌, false, List, [], ◌∷◌, ◌++◌, length, map, replicate, Option, None, Ok, arith}
use Rattle.std.proofs.lemmas.List.{length-replicate}
use Rattle.std.specs.List.{AllByRecursion as AllOf}
use Rattle.lte_events.specs.{Ranges.IsSetup, declared.events.Event.Event, declared.lines.Line.Line, declared.setups.Setup.Setup}
use Rattle.key_terms.specs.declared.row.LadderRow.{LadderRow}
use Rattle.lte_machine.specs.Run.{GoesOn}
use Rattle.lte_world.specs.Whole.{Whole, InRun, run_of, told_of, turned, begun}
use Rattle.lte_world.proofs.TellsAsWritten.{not_over, with_line}
use Rattle.store_laws.specs.Rows.{world_rows}
use Rattle.fleet_world.specs.{Answers.no_events, declared.faults.FleetFault.FleetFault, Phones.phone_run}
use Rattle.fleet_world.specs.Fleets.{IsOwn, Stands, StandsUnless, most_phones, world_of}
use Rattle.fleet_world.specs.Worlds.{Goes, rows_at, with_room}
use Rattle.fleet_world.proofs.Searching.{ladder_is}

-- AFTER AN EVENT

-- the world as it is behind an event that it told with a line
pub took : (v u : Whole) (e : Event) (line : Line)
    → Goes v
    → u.setup ≡ v.setup
    → u.journal ≡ v.journal ++ e ∷ []
    → u.ready ≡ false
    → run_of u ≡ turned v e
    → Ok line ≡ told_of v e
    → u ≡ record v { journal = v.journal ++ e ∷ []; ready = false }
took v u e line goes setup journal ready runs says =
    let mine = not_over v goes in
    let its = not_over u (subst GoesOn (sym runs) (with_line v e line (sym says)).1) in
    λ j. record { setup = setup j; journal = journal j; over = (its ∙ sym mine) j; ready = ready j }

pub rows_before : (v u : Whole) (rows : List LadderRow) → u ≡ with_room v → Goes v → InRun (λ w. rows ≡ world_rows w) (run_of u) → rows ≡ rows_at v
rows_before v u rows same goes are = ladder_is v rows goes (subst (λ (x : Whole). InRun (λ w. rows ≡ world_rows w) (run_of x)) same are)

-- A FLEET THAT BEGINS

map_replicate : {A B : Type 0} (f : A → B) (n : ℕ) (x : A) → map f (replicate n x) ≡ replicate n (f x)
map_replicate f zero x = refl
map_replicate f (suc n) x = ap (λ l. f x ∷ l) (map_replicate f n x)

all_replicate : {A : Type 0} (P : A → Type 0) (n : ℕ) (x : A) → P x → AllOf P (replicate n x)
all_replicate P zero x p = tt
all_replicate P (suc n) x p = (p, all_replicate P n x p)

none_yet : (setup : Setup) → IsOwn setup 0 []
unfolding phone_run
none_yet setup = record { in_range = tt; few = omega arith; goes = tt }

pub stands_first : (setup : Setup) (phones : ℕ) (worlds : List Whole)
    → IsSetup setup
    → phones ≤ most_phones
    → worlds ≡ replicate phones (begun setup)
    → Stands setup worlds []
stands_first setup phones worlds begins few is =
    let many : length worlds ≡ phones = ap length is ∙ length-replicate phones (begun setup) in
    record {
      begins = begins;
      few = omega (arith, many, few);
      worlds = is ∙ sym (map_replicate (world_of setup) phones []) ∙ ap (λ n. map (world_of setup) (no_events n)) (sym many);
      owns = all_replicate (IsOwn setup 0) (length worlds) [] (none_yet setup);
      events = tt;
      answered = tt;
    }

-- AS A CALLER SEES IT

pub stands_of : (over : Option FleetFault) (setup : Setup) (worlds : List Whole) (journal : List (ℕ × Event))
    → over ≡ None
    → StandsUnless over setup worlds journal
    → Stands setup worlds journal
stands_of over setup worlds journal is h = subst (λ o. StandsUnless o setup worlds journal) is h
