use Rattle.std.proofs.{Common.None, Common.rules, lemmas.Result.err_from_is_err_and}
use Rattle.role_wire.specs.Ranges.{IsSetup}
use Rattle.hub_drive.proofs.Composing.{going_on, going_cut, going_ended}
use Rattle.hub_drive.proofs.Places.{all_at, as_many, set_ups_next, no_set_ups}
use Rattle.hub_drive.proofs.Running.{all_run_did}
use Rattle.hub_drive.specs.Exchanges.{seeds_of, set_ups}
use Rattle.hub_drive.proofs.setting_up.set_up_all.Goals as goal

pub setup_frame-frame-requires : goal.setup_frame-frame-requires
setup_frame-frame-requires g c = all_at IsSetup (seeds_of c.args.setup.now) c.loop-peer.peer c.seed_at.result c.seed_at.ensures c.requires.seeds

pub returns-in_err-exchange-clause-went : goal.returns-in_err-exchange-clause-went
returns-in_err-exchange-clause-went g c =
    let p = err_from_is_err_and c.from_residual.result c.from_residual.ensures.1 in
    rw (p.1, p.2)
    (λ written.
    going_cut (set_ups 0 (seeds_of c.args.setup.now)) _ _ _ _ _ _ _
    (c.loop-peer.invariant.0 written)
    (set_ups_next (seeds_of c.args.setup.now) c.loop-peer.peer c.seed_at.result c.setup_frame-frame.result _
    c.seed_at.ensures c.setup_frame-frame.ensures.spelled c.loop-peer.invariant.3)
    (c.in_err-exchange.ensures.went written))

pub loop-peer-preserved : goal.loop-peer-preserved
loop-peer-preserved g c = (
  λ written.
      going_on (set_ups 0 (seeds_of c.args.setup.now)) _ _ _ _ _ _
      (c.loop-peer.invariant.0 written)
      (set_ups_next (seeds_of c.args.setup.now) c.loop-peer.peer c.seed_at.result c.setup_frame-frame.result _
      c.seed_at.ensures c.setup_frame-frame.ensures.spelled c.loop-peer.invariant.3)
      (c.in_ok-exchange.ensures.went written),
  all_run_did _ _ _ _ c.loop-peer.invariant.1 (c.in_ok-exchange.ensures.went None).did,
  search rules,
  c.loop-peer.invariant.3,
)

pub returns-clause-went : goal.returns-clause-went
returns-clause-went g c = λ written.
    going_ended (set_ups 0 (seeds_of c.args.setup.now)) _ _ _
    (no_set_ups (seeds_of c.args.setup.now) c.loop-peer.peer (search (rules, as_many c.args.setup.now)))
    (c.loop-peer.invariant.0 written)
