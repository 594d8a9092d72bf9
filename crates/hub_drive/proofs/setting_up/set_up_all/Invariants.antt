use Rattle.std.proofs.Common.{◌≡◌, ℕ, Option, List, drop, length}
use Rattle.lte_events.specs.{Reply.reply_of, declared.answers.Answer.TheVariants.Done}
use Rattle.role_wire.specs.Reply.{reply_spelling}
use Rattle.hub_drive.proofs.Composing.{Going}
use Rattle.hub_drive.specs.{Exchanges.seeds_of, Exchanges.set_ups, Outside.AllRun, Outside.outside}
use Rattle.hub_drive.proofs.setting_up.set_up_all.Given as goal

abbrev pub invariant-loop-peer : goal.invariant-loop-peer
invariant-loop-peer g l =
    ((written : Option (List ℕ))
    → Going (set_ups 0 (seeds_of l.setup)) (set_ups l.peer (drop l.peer (seeds_of l.setup)))
    (outside written (g.P.Peers.told l.initial.peers)) (outside written (g.P.Peers.told l.peers)))
    × AllRun (length (seeds_of l.setup)) (g.P.Peers.told l.peers)
    × (g.P.Peers.faults l.peers ≡ g.P.Peers.faults l.initial.peers)
    × (l.ready ≡ reply_spelling (reply_of Done))
