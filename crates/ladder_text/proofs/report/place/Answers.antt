use Rattle.std.proofs.Common.{◌≡◌, true, List, map, sym, ap, subst}
use Rattle.std.specs.Option.{is_some, IfSome}
use Rattle.key_terms.specs.declared.row.Origin.TheVariants as origin
use Rattle.key_terms.specs.Ladder.{HasRoot}
use Rattle.ladder_text.specs.{declared.line.LadderLine.LadderLine, Text.meets, Report.KeyRow, Report.octets_in}
use Rattle.ladder_text.specs.Rows.{StandsFor, Asks, origin_in}
use Rattle.ladder_text.proofs.Rows.{met_refers, needs_met}
use Rattle.ladder_text.proofs.Placing.{answered, root_never_again, at_error}
use Rattle.ladder_text.proofs.report.place.Goals as goal

pub returns-in-Root : goal.returns-in-Root
returns-in-Root c =
    let ladder = c.args.ladder.now.rows in
    let root = c.root.ensures in
    let both = λ (rows : List KeyRow) (line : LadderLine) (stand : StandsFor rows ladder)
    (met : meets (map (λ r. r.line) rows) line ≡ true) (asks : Asks rows line c.args.asked.now).
    let is = subst (Asks rows line) c.in-Root.is asks in
    answered rows ladder c.root.new.self.rows line origin.Root c.in-Root.octets c.root.result stand c.requires.ladder (met_refers rows line met)
    (ap (origin_in rows) (sym is)) (ap (octets_in rows) (sym is)) root.new
    (λ k again _ _. absurd (root_never_again rows line c.in-Root.octets k is met again))
    (λ k coincides. let e = root.coincidence k coincides in (e, ap (λ l. l.rows) (at_error c.root.result _ e root.err))) in
    record {
      answer = λ rows line stand met asks. (both rows line stand met asks).0;
      rows = λ rows line stand met asks. (both rows line stand met asks).1;
      ladder = root.ladder;
      memory = root.memory;
    }

pub add-requires : goal.add-requires
add-requires c =
    let what = c.requires.asked in
    let made = subst (Asks what.rows what.line) c.in-Derivation.is what.asks in
    let needs = needs_met what.rows c.args.ladder.now.rows what.line c.in-Derivation.made what.stand.is c.requires.ladder what.met made.0 in
    record {
      room = c.requires.room;
      input = made.1;
      out = needs.out;
      key = ap is_some needs.key;
      root = subst (λ o. IfSome o (λ key. HasRoot c.args.ladder.now.rows key c.in-Derivation.made.input)) (sym needs.key) needs.root;
      sync = needs.sync;
    }

pub returns-in-Derivation : goal.returns-in-Derivation
returns-in-Derivation c =
    let ladder = c.args.ladder.now.rows in
    let made = c.in-Derivation.made in
    let add = c.add.ensures in
    let both = λ (rows : List KeyRow) (line : LadderLine) (stand : StandsFor rows ladder)
    (met : meets (map (λ r. r.line) rows) line ≡ true) (asks : Asks rows line c.args.asked.now).
    let needs = needs_met rows ladder line made stand.is c.requires.ladder met (subst (Asks rows line) c.in-Derivation.is asks).0 in
    answered rows ladder c.add.new.self.rows line _ made.out c.add.result stand c.requires.ladder (met_refers rows line met)
    needs.origin needs.octets add.new
    (λ k _ stands origin. let r = add.again k stands origin in (r.0, ap (λ l. l.rows) r.1))
    (λ k coincides. let e = add.coincidence k coincides in (e, ap (λ l. l.rows) (at_error c.add.result _ e add.err))) in
    record {
      answer = λ rows line stand met asks. (both rows line stand met asks).0;
      rows = λ rows line stand met asks. (both rows line stand met asks).1;
      ladder = add.ladder;
      memory = add.memory;
    }
