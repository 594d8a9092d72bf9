-- Agreement of phone and stations on keys over handovers (TS 33.401 7.2.8): what a station made for an air address against
-- what the phone took there.
use Rattle.std.specs.Prelude.{if◌then◌else◌, ◌≡◌, ◌≢◌, ℕ, ◌-◌, ◌≤◌, ◌<◌, ◌==◌, ◌&&◌, Bool, ◌⊎◌, List, [], ◌∷◌, ◌++◌, find, take, Option, Some, None, ⊤}
use Rattle.key_model.specs.Term.{Term, Kenb, Star, same_term}
use Rattle.ho_prep.specs.Prep.{Prep}
use Rattle.lte_machine.specs.Reply.{Note, Origin, From, BySetup, ByAttempt, ByChange, Made, Before, Came, Secured, Commanded, Changed, Took}
use Rattle.lte_machine.specs.PhoneState.{Link, Radio, Idle, Connecting, Connected}
use Rattle.lte_machine.specs.{StationState.Station, StationState.Context, Wire.Outgoing, Distinct.Member}
use Rattle.lte_machine.specs.World.{Machine, World, Line, happens}
use Rattle.lte_events.specs.{declared.lines.Who.Who, declared.events.Event.Event}
use Rattle.rec_base.specs.declared.ways.Way.{Way}
use Rattle.key_model.specs.Chain.{nh, ncc_of}
use Rattle.lte_properties.specs.{ChainBelow.AllOf, ChainHolds.run, Origins.root_of, Origins.nas_count_of}

-- what a station made for an air address that it drew: a context or a preparation
abbrev pub is_made_at : ℕ → ℕ → Made Term ℕ → Bool
is_made_at station air m = (m.station == station) && (m.air == air)

abbrev pub made_at : List (Made Term ℕ) → ℕ → ℕ → Option (Made Term ℕ)
made_at made station air = find (is_made_at station air) made

-- for each air address a station makes one thing alone
abbrev pub MadeOnce : {S : Type 0} → World Term ℕ S → Type 0
MadeOnce w = AllOf (λ m. made_at w.made m.station m.air ≡ Some m) w.made

-- each attempt of a source gives one thing at most
abbrev pub OneOf : Made Term ℕ → Made Term ℕ → Type 0
OneOf m n = (o : Origin) → m.from ≡ ByAttempt o → n.from ≡ ByAttempt o → m ≡ n

abbrev pub TriedOnce : {S : Type 0} → World Term ℕ S → Type 0
TriedOnce w = AllOf (λ m. AllOf (OneOf m) w.made) w.made

-- a key change that was made from another authentication than the phone's counts as eight
abbrev pub change_ahead : Term → Term → ℕ
change_ahead root key = if same_term root (root_of key) then 0 else 8

-- how many NH steps the key made is ahead of the phone, by how the phone came to the key that it took (7.2.8.4.4, 7.2.9.2)
abbrev pub ahead : Made Term ℕ → Came Term ℕ → ℕ
ahead m Secured = 0
ahead m (Commanded before) = m.number - before.number
ahead m (Changed before root) = change_ahead root m.key

-- the phone took what was made: one key, one chain number, the same algorithms
abbrev pub TookMade : Took Term ℕ → Made Term ℕ → Type 0
TookMade x m = (x.key ≡ m.key) × (x.number ≡ m.number) × (x.algs ≡ m.algs)

-- at an obeyed handover command for this air address (7.2.8.4.4 and TS 36.331 6.3.3)
pub record ObeysCommand (x : Took Term ℕ) (before : Before Term ℕ) (m : Made Term ℕ) : Type 0 where
  -- what the station there made came by an attempt of a handover, which the station opened where the phone was connected
  pub tried : (o : Origin) × (m.from ≡ ByAttempt o) × (o.source ≡ before.station)
  -- its number is not below the phone's, before the command and after it
  pub not_behind : before.number ≤ m.number
  pub not_passed : x.number ≤ m.number
  -- fewer than eight steps ahead the phone took what was made
  pub near : ahead m (Commanded before) < 8 → TookMade x m
  -- at eight or more it took another key and number, since NCC has three bits
  pub far : 8 ≤ ahead m (Commanded before) → (x.key ≢ m.key) × (x.number ≢ m.number)

-- at an obeyed key change for this air address, where the phone's NAS context is of this KASME (7.2.9.2)
pub record ObeysChange (x : Took Term ℕ) (before : Before Term ℕ) (root : Term) (m : Made Term ℕ) : Type 0 where
  -- the station there made it when the key was to change that the phone had
  pub renewed : m.from ≡ ByChange before.key
  -- where it was made from the phone's authentication, the phone took it
  pub near : ahead m (Changed before root) < 8 → TookMade x m
  -- where it was made from another one, the phone took another key
  pub far : 8 ≤ ahead m (Changed before root) → x.key ≢ m.key

-- what a phone takes when the security of its connection starts is what the station made for the context at that air
-- address, by its setup (7.2.4.5 and 7.2.8.1.1)
abbrev pub ObeysMade : Took Term ℕ → Came Term ℕ → Made Term ℕ → Type 0
ObeysMade x Secured m = TookMade x m × (m.from ≡ BySetup)
ObeysMade x (Commanded before) m = ObeysCommand x before m
ObeysMade x (Changed before root) m = ObeysChange x before root m

abbrev pub Obeys : List (Made Term ℕ) → Took Term ℕ → Type 0
Obeys made x = (m : Made Term ℕ) × (made_at made x.station x.air ≡ Some m) × ObeysMade x x.came m

-- at each start of a connection's security, each obeyed command and each obeyed key change of a run
abbrev pub ObeysAgreement : {S : Type 0} → World Term ℕ S → Type 0
ObeysAgreement w = AllOf (Obeys w.made) w.took

-- under one connection number the phone's keys grow: the chain number rises, and the key is a KeNB* of the NH of that number
-- on the chain of the key before, or it stays and the key is a KeNB* of the one before (7.2.8.4.4). A key change begins
-- anew with the KeNB of its KASME and of COUNT 0 (7.2.9.2)
abbrev pub KeyGrows : Took Term ℕ → Came Term ℕ → Type 0
KeyGrows x Secured = ⊤
KeyGrows x (Commanded before) =
    ((before.number < x.number) × (pci : ℕ) × (earfcn : ℕ)
    × (x.key ≡ Star (nh (root_of before.key) (nas_count_of before.key) x.number) pci earfcn))
    ⊎ ((x.number ≡ before.number) × (pci : ℕ) × (earfcn : ℕ) × (x.key ≡ Star before.key pci earfcn))
KeyGrows x (Changed before root) =
    (x.number ≡ 0) × (pci : ℕ) × (earfcn : ℕ) × (x.key ≡ Star (Kenb root 0) pci earfcn)

abbrev pub TermsGrow : {S : Type 0} → World Term ℕ S → Type 0
TermsGrow w = AllOf (λ x. KeyGrows x x.came) w.took

-- what the phone had before an order is what it took last, at the station where it took it
abbrev pub Joins : Came Term ℕ → Option (Before Term ℕ) → Type 0
Joins Secured last = ⊤
Joins (Commanded before) last = last ≡ Some before
Joins (Changed before root) last = last ≡ Some before

abbrev pub Follow : Option (Before Term ℕ) → List (Took Term ℕ) → Type 0
Follow last [] = ⊤
Follow last (x ∷ xs) =
    Joins x.came last × Follow (Some (record { station = x.station; key = x.key; number = x.number })) xs

abbrev pub TermsFollow : {S : Type 0} → World Term ℕ S → Type 0
TermsFollow w = Follow None w.took

-- the phone's connection has the key, number and algorithms that it took last, at the station and air address where it
-- took them
abbrev pub IsLast : Took Term ℕ → Link Term ℕ → Type 0
IsLast x l =
    (x.station ≡ l.station) × (x.air ≡ l.air) × (x.key ≡ l.kenb) × (x.number ≡ l.chain.number) × (x.algs ≡ l.keys.algs)

abbrev pub TookLast : List (Took Term ℕ) → Radio Term ℕ → Type 0
TookLast took (Connected l) = (xs : List (Took Term ℕ)) × (x : Took Term ℕ) × (took ≡ xs ++ x ∷ []) × IsLast x l
TookLast took other = ⊤

-- for each air address of a station the phone takes at most one key
abbrev pub OneTerm : {S : Type 0} → World Term ℕ S → Type 0
OneTerm w = AllOf (λ x. AllOf (λ y. x.station ≡ y.station → x.air ≡ y.air → x.key ≡ y.key) w.took) w.took

-- the context of a station at an air address
abbrev pub ContextAt : {K C : Type 0} → ℕ → Option (Context K C) → (Context K C → Type 0) → Type 0
ContextAt air None P = ⊤
ContextAt air (Some c) P = c.air ≡ air → P c

-- of each station of this number
abbrev pub EachStation : {K C S : Type 0} → World K C S → ℕ → (Station K C → Type 0) → Type 0
EachStation w id P = AllOf (λ s. s.id ≡ id → P s) w.stations

-- phone and station have one key, one chain number and the same algorithms
abbrev pub Agree : {K C : Type 0} → Link K C → Context K C → Type 0
Agree l c = (l.kenb ≡ c.key.kenb) × (l.chain.number ≡ c.key.number) × (l.keys ≡ c.keys) × (l.keys.algs ≡ c.algs)

abbrev pub JoinedBy : {K C S : Type 0} → World K C S → Radio K C → Type 0
JoinedBy w Idle = ⊤
JoinedBy w (Connecting waiting) = ⊤
JoinedBy w (Connected l) = EachStation w l.station (λ s. ContextAt l.air s.context (Agree l))

-- wherever the phone is connected at a station and air address, and the station's context has that air address
abbrev pub JoinedAgree : {K C S : Type 0} → World K C S → Type 0
JoinedAgree w = JoinedBy w w.phone.radio

-- the key made there was eight or more steps ahead of the phone's key before
abbrev pub IsFar : List (Made Term ℕ) → Took Term ℕ → Type 0
IsFar made x = (m : Made Term ℕ) × (made_at made x.station x.air ≡ Some m) × (8 ≤ ahead m x.came)

-- the key under which the phone obeyed an order
abbrev pub key_before : Came Term ℕ → Option Term
key_before Secured = None
key_before (Commanded before) = Some before.key
key_before (Changed before root) = Some before.key

-- a phone that took a key eight or more steps ahead, by a handover command or by a key change that was made from another
-- authentication, obeys no order under it
abbrev pub NoneUnder : {S : Type 0} → World Term ℕ S → Type 0
NoneUnder w = AllOf (λ x. IsFar w.made x → AllOf (λ y. key_before y.came ≢ Some x.key) w.took) w.took

-- no context of the station has the air address of an obeyed command where the key differs: where it was eight or more
-- steps ahead; in world v, of what the phone took in world w
abbrev pub NoneThere : {S : Type 0} → World Term ℕ S → World Term ℕ S → Type 0
NoneThere v w =
    AllOf (λ x. IsFar w.made x → EachStation v x.station (λ s. ContextAt x.air s.context (λ c. ⊥))) w.took

-- in no world on the way of the run has a context the air address of a far command, whenever in the run that command came
abbrev pub NoneEver : Machine Term ℕ (Outgoing Term ℕ) → World Term ℕ (Outgoing Term ℕ) → List Event → Type 0
NoneEver m w es = (n : ℕ) → NoneThere (run m w (take n es)) (run m w es)

-- the phone had taken this key at the air address
abbrev pub HadTaken : List (Took Term ℕ) → ℕ → ℕ → Term → Type 0
HadTaken took station air key =
    (x : Took Term ℕ) × Member x took × (x.station ≡ station) × (x.air ≡ air) × (x.key ≡ key)

-- where what was made came of a handover attempt or a key change, the phone had taken its key there
abbrev pub TakenIfTried : List (Took Term ℕ) → ℕ → ℕ → Term → From Term → Type 0
TakenIfTried took station air key BySetup = ⊤
TakenIfTried took station air key other = HadTaken took station air key

-- a context is what its station made for its air address; where it came by a handover, the phone had taken its key there
abbrev pub ComesMade : {S : Type 0} → World Term ℕ S → ℕ → Option (Context Term ℕ) → Type 0
ComesMade w station None = ⊤
ComesMade w station (Some c) =
    (m : Made Term ℕ) × (made_at w.made station c.air ≡ Some m)
    × (c.key.kenb ≡ m.key) × (c.key.number ≡ m.number) × (c.algs ≡ m.algs)
    × TakenIfTried w.took station c.air c.key.kenb m.from

abbrev pub CompletedTaken : {S : Type 0} → World Term ℕ S → Type 0
CompletedTaken w = AllOf (λ s. ComesMade w s.id s.context) w.stations

-- a preparation is what its station made for its air address
abbrev pub PrepMade : {S : Type 0} → World Term ℕ S → ℕ → Prep Term ℕ → Type 0
PrepMade w station p =
    (m : Made Term ℕ) × (made_at w.made station p.air ≡ Some m)
    × (p.key.kenb ≡ m.key) × (p.key.number ≡ m.number) × (p.algs ≡ m.algs)

abbrev pub PrepsMade : {S : Type 0} → World Term ℕ S → Type 0
PrepsMade w = AllOf (λ s. AllOf (PrepMade w s.id) s.preps) w.stations

-- there is a station of this number, and of each of this number this holds
abbrev pub OfStation : {S : Type 0} → World Term ℕ S → ℕ → (Station Term ℕ → Type 0) → Type 0
OfStation w id P = (s : Station Term ℕ) × Member s w.stations × (s.id ≡ id) × EachStation w id P

-- the context of a station
abbrev pub HasContext : Option (Context Term ℕ) → (Context Term ℕ → Type 0) → Type 0
HasContext None P = ⊥
HasContext (Some c) P = P c

-- a station tells that a handover completed, with the key of its new context: the phone had taken that key at the
-- context's air address
abbrev pub TellsWay : {S : Type 0} → World Term ℕ S → ℕ → Term → Way → Type 0
TellsWay w id key Way.Completed =
    OfStation w id (λ s. HasContext s.context (λ c. (c.key.kenb ≡ key) × HadTaken w.took id c.air key))
TellsWay w id key other = ⊤

abbrev pub TellsNote : {S : Type 0} → World Term ℕ S → Who → Option (Note Term) → Type 0
TellsNote w (Who.Station id) (Some note) = TellsWay w id note.key note.way
TellsNote w who told = ⊤

-- at each such line of a run, in the world after it
abbrev pub CompletedLines : Machine Term ℕ (Outgoing Term ℕ) → World Term ℕ (Outgoing Term ℕ) → List Event → Type 0
CompletedLines m w [] = ⊤
CompletedLines m w (e ∷ es) =
    let h = happens m w e in TellsNote h.0 h.1.who h.1.note × CompletedLines m h.0 es

-- a line tells this key, with the NCC of its number
abbrev pub Reported : Line Term → Who → Term → ℕ → Type 0
Reported l who key number =
    (note : Note Term) × (l.who ≡ who) × (l.note ≡ Some note) × (note.key ≡ key) × (note.ncc ≡ ncc_of number)

-- a line of a station does not tell a key as given
abbrev pub TellsNoneGiven : Who → Option (Note Term) → Type 0
TellsNoneGiven (Who.Station id) (Some note) = note.way ≢ Way.Given
TellsNoneGiven who told = ⊤

-- what a station makes is told in the line of its event, and it tells a key as given only where it makes one
abbrev pub MadeIsTold : {S : Type 0} → World Term ℕ S → World Term ℕ S → Line Term → Type 0
MadeIsTold w u l =
    ((u.made ≡ w.made) × TellsNoneGiven l.who l.note)
    ⊎ ((m : Made Term ℕ) × (u.made ≡ w.made ++ m ∷ []) × Reported l (Who.Station m.station) m.key m.number)

-- what the phone takes is told in the line of its event, and it tells a key only where it takes one
abbrev pub TookIsTold : {S : Type 0} → World Term ℕ S → World Term ℕ S → Line Term → Type 0
TookIsTold w u l =
    ((u.took ≡ w.took) × (l.who ≡ Who.Phone → l.note ≡ None))
    ⊎ ((x : Took Term ℕ) × (u.took ≡ w.took ++ x ∷ []) × Reported l Who.Phone x.key x.number)

-- at each event of a run
abbrev pub KeysTold : Machine Term ℕ (Outgoing Term ℕ) → World Term ℕ (Outgoing Term ℕ) → List Event → Type 0
KeysTold m w [] = ⊤
KeysTold m w (e ∷ es) =
    let h = happens m w e in MadeIsTold w h.0 h.1 × TookIsTold w h.0 h.1 × KeysTold m h.0 es

-- all of it, in one world
pub record Agrees {S : Type 0} (w : World Term ℕ S) : Type 0 where
  -- a station makes one thing for an air address, and an attempt gives one at most
  pub made_once : MadeOnce w
  pub tried_once : TriedOnce w
  -- what the phone takes when security starts, at a command and at a key change, against what was made there
  pub obeyed : ObeysAgreement w
  -- its keys grow, each follows the one before, and a connection has the last one
  pub grow : TermsGrow w
  pub follow : TermsFollow w
  pub last : TookLast w.took w.phone.radio
  -- it takes one key at most at an air address
  pub one_term : OneTerm w
  -- under a key that was eight or more steps ahead it obeys no order
  pub none_under : NoneUnder w
  -- phone and station have one key, chain number and algorithms wherever both are at one air address
  pub joined : JoinedAgree w
  -- a context that came by a handover or a key change has a key that the phone had taken there
  pub completed : CompletedTaken w
  -- a preparation is what was made for its air address
  pub preps : PrepsMade w
