-- From nothing comes no key, from KASMEs each, and keys with the same octets are one term.
use Rattle.std.proofs.Common.{◌≡◌, ℕ, List, take}
use Rattle.key_model.specs.Derivable.{in_set, by_kenb, by_nh, by_star, by_alg}
use Rattle.key_model.specs.Term.{Term, Root, Kenb, Nh, Star, Alg}
use Rattle.key_model.specs.Value.{same_value}
use Rattle.lte_events.specs.{declared.events.Event.Event, declared.setups.Setup.Setup}
use Rattle.lte_machine.specs.{BothRuns.annex_b_terms, Machines.written_in_values, Opening.open_octets, Opening.open_by_uses}
use Rattle.lte_machine.proofs.LadderRun.{ladder_always}
use Rattle.lte_hops.specs.Kasmes.{NothingGivesNone, KasmesGiveAll, AllMadeAlike}

pub none : NothingGivesNone
none t (in_set h) = h
none t (by_kenb {r = r} h) = none r h
none t (by_nh {r = r} h k) = none r h
none t (by_star {t = s} h) = none s h
none t (by_alg {t = s} h) = none s h

pub all : KasmesGiveAll
all (Root r octets) = in_set tt
all (Kenb r n) = by_kenb (all r)
all (Nh r t) = by_nh (all r) (all t)
all (Star t pci earfcn) = by_star (all t)
all (Alg t type id) = by_alg (all t)

parts : (t u : Term) (type kind id algorithm : ℕ) → Alg t type id ≡ Alg u kind algorithm → (t ≡ u) × (type ≡ kind) × (id ≡ algorithm)
parts t u type kind id algorithm e = (cc, cc, cc)

pub alike : (setup : Setup) (events : List Event) → AllMadeAlike setup events
alike setup events n w runs t u type kind id algorithm here there same =
    let rows = ladder_always annex_b_terms written_in_values (open_by_uses same_value annex_b_terms) (open_octets annex_b_terms)
    setup (take n events) w runs in
    parts t u type kind id algorithm (rows.one (Alg t type id) (Alg u kind algorithm) here there same)
