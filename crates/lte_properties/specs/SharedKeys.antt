-- Who can derive the key that phone and target share after a handover command (TS 33.401 7.2.8.4).
use Rattle.std.specs.Prelude.{◌≡◌, ℕ, ◌<◌, Bool, List, Some, ⊤}
use Rattle.annex_a_keys.specs.Cell.{Place}
use Rattle.key_model.specs.Term.{Term, Root, Star}
use Rattle.key_model.specs.{Chain.nh, Derivable.Derivable}
use Rattle.lte_machine.specs.{Wire.Outgoing, World.World}
use Rattle.lte_machine.specs.Reply.{From, ByAttempt, Made, Came, Secured, Commanded, Changed, Took, Handover, BySource, ByTarget}
use Rattle.lte_events.specs.Site.{Site, station_of}
use Rattle.lte_properties.specs.{ChainBelow.AllOf, Agreement.made_at, Agreement.ahead}
use Rattle.lte_properties.specs.Separation.{AnyOf, HeldBy, Those, GivenTo, GivenAt}

-- a set of stations without source and target; over S1, where the source made no KeNB*, without the target alone
abbrev pub Outside : (ℕ → Type 0) → ℕ → ℕ → Handover Term ℕ → Type 0
Outside among source target (BySource star) = (among source → ⊥) × (among target → ⊥)
Outside among source target ByTarget = among target → ⊥

-- such stations together cannot derive the key, from all that they held at any time of the run
abbrev pub OutsideCannot : World Term ℕ (Outgoing Term ℕ) → Term → ℕ → ℕ → Handover Term ℕ → Type 0
OutsideCannot w key source target kind =
    (test : ℕ → Bool) → Outside (Those test) source target kind → Derivable (HeldBy (Those test) w.held) key → ⊥

-- by the attempt from which the target's key came: its source is the station where the phone was connected; the core gave the
-- key of the chain to the source where the source made KeNB*, over X2 or within the station (7.2.8.4.1 and 7.2.8.4.2), and to
-- the target over S1 (7.2.8.4.3); and no station but these can derive KeNB*. The key of a handover comes of an attempt
abbrev pub SharedBy : World Term ℕ (Outgoing Term ℕ) → Term → Term → ℕ → ℕ → From Term → Type 0
SharedBy w chain_key key source target (ByAttempt o) =
    (o.source ≡ source)
    × AnyOf (λ e. (e.station ≡ o.source) × (e.attempt ≡ o.attempt) × GivenAt w.sent chain_key o.source target e.kind
    × OutsideCannot w key o.source target e.kind) w.tried
SharedBy w chain_key key source target other = ⊥

-- by a key change: the core gave the KeNB to the station, and no station but it can derive KeNB*
abbrev pub RenewedBy : World Term ℕ (Outgoing Term ℕ) → Term → Term → ℕ → Type 0
RenewedBy w kenb key station = GivenTo w.sent kenb station × OutsideCannot w key station station ByTarget

-- what the phone took, by how it came to it
abbrev pub SharedBetween : World Term ℕ (Outgoing Term ℕ) → Term → Took Term ℕ → Made Term ℕ → Came Term ℕ → Type 0
SharedBetween w chain_key x m Secured = ⊤
SharedBetween w chain_key x m (Commanded before) = SharedBy w chain_key x.key before.station x.station m.from
SharedBetween w chain_key x m (Changed before root) = RenewedBy w chain_key x.key x.station

-- where the phone took KeNB* of a key of a chain at an order fewer than eight steps ahead: the cell is one of the target's,
-- and no station but source and target can derive the key, and over S1 and at a key change none but the target
abbrev pub SharedAt : List Site → World Term ℕ (Outgoing Term ℕ) → Took Term ℕ → Type 0
SharedAt sites w x =
    (m : Made Term ℕ) → made_at w.made x.station x.air ≡ Some m → ahead m x.came < 8
    → (r : ℕ) (octets : List ℕ) (n i : ℕ) (cell : Place) → x.key ≡ Star (nh (Root r octets) n i) cell.pci cell.earfcn
    → (station_of cell sites ≡ Some x.station) × SharedBetween w (nh (Root r octets) n i) x m x.came

-- at each obeyed order of a run
abbrev pub SharedApart : List Site → World Term ℕ (Outgoing Term ℕ) → Type 0
SharedApart sites w = AllOf (SharedAt sites w) w.took
