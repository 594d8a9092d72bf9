-- A plan that is gone through, behind which all peers that were started are stopped; and what comes of it, peer by peer.
use Rattle.std.specs.Prelude.{◌≡◌, ℕ, ◌<◌, true, Option, Some, List, ◌∷◌, ◌++◌, length, Result, Ok, Err, IfSome}
use Rattle.std.specs.{Io.StartsWith, Option.option_map}
use Rattle.edge_io.specs.Peers.{PeersTold, is_stopped, to_give_of}
use Rattle.run_report.specs.declared.endings.Ending.{Ending}
use Rattle.hub_drive.specs.{declared.faults.DriveFault.DriveFault, Acts.Call, Acts.Act, Went.CutAt}
use Rattle.hub_drive.specs.Outside.{Outside, outside, AllDone, HasStarted, stopped_below}
use Rattle.hub_drive.specs.Peerwise.{Made, name_of, receives}

-- acts in order, and how the report ends that they write
pub record Plan : Type 0 where
  pub acts : List Act
  pub ends : Ending

-- acts before a plan
abbrev pub then_plan : List Act → Plan → Plan
then_plan acts plan = record { acts = acts ++ plan.acts; ends = plan.ends }

-- how far it was gone through, by the answer: where all was done, that is how it ends
abbrev pub PlanWent : Plan → Result Ending DriveFault → Outside → Outside → Type 0
PlanWent plan (Ok ending) before after = AllDone plan.acts before after × (ending ≡ plan.ends)
PlanWent plan (Err fault) before after = CutAt plan.acts fault before after

-- it was gone through as far as the answer says, and then the peers that were started were stopped
pub record Driven (plan : Plan) (result : Result Ending DriveFault) (before after : Outside) : Type 0 where
  pub started : ℕ
  pub last : Option PeersTold
  pub went : PlanWent plan result before (outside after.written last)
  pub count : HasStarted started last
  pub stopped : after.peers ≡ option_map (stopped_below started) last

-- PEER BY PEER, where they tell

-- of both moments
abbrev pub WhereTold : (PeersTold → PeersTold → Type 0) → Option PeersTold → Option PeersTold → Type 0
WhereTold P old new = IfSome old (λ o. IfSome new (λ n. P o n))

-- every peer that was started is stopped
abbrev pub AllStopped : PeersTold → Type 0
AllStopped told = (peer : ℕ) → peer < length told.roles → is_stopped peer told.peers ≡ true

-- the calls before the one that failed last were made
pub record FailedNext (whole : List Call) (old new : PeersTold) : Type 0 where
  pub made : List Call
  pub next : Call
  pub more : List Call
  pub is : whole ≡ made ++ next ∷ more
  pub between : PeersTold
  pub so_far : Made made old between
  pub failed : new.failed_last ≡ Some (name_of next)

-- each peer has what is to come to give first
abbrev pub GivesAll : List Call → PeersTold → Type 0
GivesAll whole told = (peer : ℕ) → StartsWith (to_give_of peer told.peers) (receives peer whole)
