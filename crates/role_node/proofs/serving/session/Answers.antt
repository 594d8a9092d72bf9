use Rattle.std.proofs.Common.{ℕ, ◌+◌, ◌-◌, ◌^◌, Bool, min, List, Ok, ap, subst, ◌∙◌, rules}
use Rattle.edge_io.specs.Octets.{Grows, GrowsByProperPrefix}
use Rattle.role_wire.specs.Frame.{FrameRead}
use Rattle.role_node.proofs.{Going.going_on, Stopping.cut}
use Rattle.role_node.proofs.serving.session.Goals as goal

pub frames-preserved : goal.frames-preserved
frames-preserved g c =
    let now = g.L.Edge.told c.frames.port in
    let mid = g.L.Edge.told c.read_frame.new.src in
    let new = g.L.Edge.told c.write_all.new.sink in (
      search rules,
      search rules,
      search rules,
      going_on _ _ _ _ _ _ _ _ now mid new c.frames.invariant.3
          (subst (λ (b : Bool). FrameRead c.args.role b (Ok c.in-Ok.frame) now.left mid.left) c.waits.ensures c.in-Ok.ensures.read)
          c.read_frame.ensures.written
          c.turn-reply.ensures
          (c.saturating_add-place.ensures ∙ ap (λ (n : ℕ). min (c.frames.place + n) (2 ^ 64 - 1)) c.size_of.ensures)
          (subst (λ (xs : List ℕ). Grows mid.written new.written xs) (c.as_slice.ensures.value ∙ c.reply_frame.ensures) c.in-Ok-write_all.ensures.all)
          c.write_all.ensures.left
          (c.write_all.ensures.ended ∙ c.in-Ok.ensures.ended),
    )

pub returns-in-Err-write_all-clause-session : goal.returns-in-Err-write_all-clause-session
returns-in-Err-write_all-clause-session g c =
    let now = g.L.Edge.told c.frames.port in
    let mid = g.L.Edge.told c.read_frame.new.src in
    let new = g.L.Edge.told c.write_all.new.sink in
    cut _ _ _ _ _ _ _ now mid new c.frames.invariant.3 c.frames.invariant.1
    (subst (λ (b : Bool). FrameRead c.args.role b (Ok c.in-Ok.frame) now.left mid.left) c.waits.ensures c.in-Ok.ensures.read)
    (search rules)
    c.read_frame.ensures.written
    c.turn-reply.ensures
    (subst (λ (xs : List ℕ). GrowsByProperPrefix mid.written new.written xs)
    (c.as_slice.ensures.value ∙ c.reply_frame.ensures) c.in-Err-write_all.ensures.prefix)
    c.write_all.ensures.left
    (c.write_all.ensures.ended ∙ c.in-Ok.ensures.ended)
    c.in-Err-write_all.ensures.cause
