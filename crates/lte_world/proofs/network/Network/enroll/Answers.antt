use Rattle.std.proofs.Common.{refl, ap, ◌∙◌, Err}
use Rattle.lte_world.proofs.Enrolling.{by_root, enrolled_before, enrolled_by_coincidence, enrolled_new, enrolled_from, root_has_row}
use Rattle.lte_world.proofs.network.Network.enroll.Goals as goal

pub returns-in-Err-RepeatedRoot-clause-enrolled : goal.returns-in-Err-RepeatedRoot-clause-enrolled
returns-in-Err-RepeatedRoot-clause-enrolled c =
    enrolled_from _ c.args.self.now _ c.self.view_is c.args.root _
    (enrolled_before _ c.args.root c.root.new.self.rows c.root.result
    (by_root c.self.inside.ladder.rows c.root.new.self c.self.inside.ladder c.args.root c.root.result refl
    c.root.ensures.new c.root.ensures.repeated c.root.ensures.coincidence)
    c.in-Err-RepeatedRoot.row (c.in-Err-RepeatedRoot.is ∙ ap (λ x. Err x) c.in-Err-RepeatedRoot.field-0-is) _
    (λ j. record {
      records = c.self.inside.bag.records;
      rows = (c.in-Err-RepeatedRoot.ensures.err j).rows;
      uses = c.self.inside.uses.items;
      record_room = c.self.inside.bag.spare;
      row_room = (c.in-Err-RepeatedRoot.ensures.err j).spare;
      use_room = c.self.inside.uses.spare;
    }))

pub returns-in-Err-Coincidence-clause-enrolled : goal.returns-in-Err-Coincidence-clause-enrolled
returns-in-Err-Coincidence-clause-enrolled c =
    enrolled_from _ c.args.self.now _ c.self.view_is c.args.root _
    (enrolled_by_coincidence _ c.args.root c.root.new.self.rows c.root.result
    (by_root c.self.inside.ladder.rows c.root.new.self c.self.inside.ladder c.args.root c.root.result refl
    c.root.ensures.new c.root.ensures.repeated c.root.ensures.coincidence)
    c.in-Err-Coincidence.row c.in-Err-Coincidence.field-0-1 (c.in-Err-Coincidence.is ∙ ap (λ x. Err x) c.in-Err-Coincidence.field-0-is) _)

pub hold_one-requires-clause-stands : goal.hold_one-requires-clause-stands
hold_one-requires-clause-stands c =
    root_has_row (record {
      records = c.self.inside.bag.records;
      rows = c.self.inside.ladder.rows;
      uses = c.self.inside.uses.items;
      record_room = c.self.inside.bag.spare;
      row_room = c.self.inside.ladder.spare;
      use_room = c.self.inside.uses.spare;
    })
    c.args.root c.root.new.self.rows c.root.result
    (by_root c.self.inside.ladder.rows c.root.new.self c.self.inside.ladder c.args.root c.root.result refl
    c.root.ensures.new c.root.ensures.repeated c.root.ensures.coincidence)
    c.in-Ok.field-0 c.in-Ok.is

pub hold_one-requires-2-clause-stands : goal.hold_one-requires-2-clause-stands
hold_one-requires-2-clause-stands c =
    c.hold_one.ensures.rows c.args.root
    (root_has_row (record {
      records = c.self.inside.bag.records;
      rows = c.self.inside.ladder.rows;
      uses = c.self.inside.uses.items;
      record_room = c.self.inside.bag.spare;
      row_room = c.self.inside.ladder.spare;
      use_room = c.self.inside.uses.spare;
    })
    c.args.root c.root.new.self.rows c.root.result
    (by_root c.self.inside.ladder.rows c.root.new.self c.self.inside.ladder c.args.root c.root.result refl
    c.root.ensures.new c.root.ensures.repeated c.root.ensures.coincidence)
    c.in-Ok.field-0 c.in-Ok.is)

pub returns-clause-enrolled : goal.returns-clause-enrolled
returns-clause-enrolled c =
    enrolled_from _ c.args.self.now _ c.self.view_is c.args.root _
    (enrolled_new (record {
      records = c.self.inside.bag.records;
      rows = c.self.inside.ladder.rows;
      uses = c.self.inside.uses.items;
      record_room = c.self.inside.bag.spare;
      row_room = c.self.inside.ladder.spare;
      use_room = c.self.inside.uses.spare;
    })
    c.args.root c.root.new.self.rows c.root.result
    (by_root c.self.inside.ladder.rows c.root.new.self c.self.inside.ladder c.args.root c.root.result refl
    c.root.ensures.new c.root.ensures.repeated c.root.ensures.coincidence)
    c.in-Ok.field-0 c.in-Ok.is c.hold_one.new.ladder.rows c.hold_one-2.new.ladder.rows c.hold_one.ensures.held c.hold_one-2.ensures.held _ refl refl refl)
