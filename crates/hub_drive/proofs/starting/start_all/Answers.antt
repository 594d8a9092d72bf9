use Rattle.std.proofs.Common.{None, Err, [], ◌∷◌, rules}
use Rattle.hub_drive.proofs.Composing.{going_on, going_cut, going_ended}
use Rattle.hub_drive.proofs.{Places.starts_next, Places.no_starts, Running.all_run_went}
use Rattle.hub_drive.specs.{Acts.Starting, Acts.Calling, Exchanges.roles_of, Exchanges.starts, Outside.outside}
use Rattle.hub_drive.proofs.starting.start_all.Goals as goal

pub returns-in-Err-clause-went : goal.returns-in-Err-clause-went
returns-in-Err-clause-went g c = λ written.
    going_cut (starts (roles_of c.args.setup.now)) _ (Calling (Starting c.role_at.result) ∷ []) _ c.in-Err.fault _ _ _
    (c.loop-peer.invariant.0 written)
    (starts_next (roles_of c.args.setup.now) c.loop-peer.peer c.role_at.result c.role_at.ensures)
    (c.in-Err.ensures.went written)

pub returns-in-Err-clause-running : goal.returns-in-Err-clause-running
returns-in-Err-clause-running g c =
    all_run_went {A = Unit {0}} c.loop-peer.peer (Calling (Starting c.role_at.result) ∷ []) (Err c.in-Err.fault)
    (outside None (g.P.Peers.told c.loop-peer.peers)) (outside None (g.P.Peers.told c.start.new.peers))
    c.loop-peer.invariant.1 (c.in-Err.ensures.went None)

pub loop-peer-preserved : goal.loop-peer-preserved
loop-peer-preserved g c = (
  λ written.
      going_on (starts (roles_of c.args.setup.now)) _ (Calling (Starting c.role_at.result) ∷ []) _ _ _ _
      (c.loop-peer.invariant.0 written)
      (starts_next (roles_of c.args.setup.now) c.loop-peer.peer c.role_at.result c.role_at.ensures)
      (c.in-Ok.ensures.went written),
  c.in-Ok.ensures.running c.loop-peer.peer c.loop-peer.invariant.2 c.loop-peer.invariant.1,
  c.in-Ok.ensures.counted c.loop-peer.peer c.loop-peer.invariant.2,
  search rules,
  search rules,
)

pub returns-clause-went : goal.returns-clause-went
returns-clause-went g c = λ written.
    going_ended (starts (roles_of c.args.setup.now)) _ _ _
    (no_starts (roles_of c.args.setup.now) c.loop-peer.peer (search rules))
    (c.loop-peer.invariant.0 written)
