use Rattle.std.proofs.Common.{refl}
use Rattle.lte_world.specs.Settling.{told_in}
use Rattle.lte_world.proofs.Routing.{phone_nas_comes, phone_air_comes, core_nas_comes, core_s1_comes, station_air_comes, station_s1_comes, station_x2_comes}
use Rattle.lte_world.proofs.system.System.arrive.Goals as goal

pub returns-in-PhoneNas-clause-arrives : goal.returns-in-PhoneNas-clause-arrives
returns-in-PhoneNas-clause-arrives c =
    phone_nas_comes c.args.self.now c.phone_turn.new.self c.args.step
    (told_in c.phone_turn.result c.phone_turn.new.line) c.args.octets c.args.octets
    refl c.args.sender c.args.to c.in-PhoneNas.is c.phone_turn.ensures.turns

pub returns-in-Phone-clause-arrives : goal.returns-in-Phone-clause-arrives
returns-in-Phone-clause-arrives c =
    phone_air_comes c.args.self.now c.phone_turn-in-Phone.new.self c.args.step
    (told_in c.phone_turn-in-Phone.result c.phone_turn-in-Phone.new.line)
    c.args.octets c.args.octets refl c.args.sender c.in-Phone.id c.in-Phone.air c.in-Phone.bearer c.args.to
    c.in-Phone.is c.phone_turn-in-Phone.ensures.turns

pub returns-in-CoreNas-clause-arrives : goal.returns-in-CoreNas-clause-arrives
returns-in-CoreNas-clause-arrives c =
    core_nas_comes c.args.self.now c.core_turn.new.self c.args.step
    (told_in c.core_turn.result c.core_turn.new.line) c.args.octets c.args.octets refl
    c.args.sender c.args.to c.in-CoreNas.is c.core_turn.ensures.turns

pub returns-in-CoreS1-clause-arrives : goal.returns-in-CoreS1-clause-arrives
returns-in-CoreS1-clause-arrives c =
    core_s1_comes c.args.self.now c.core_turn-in-CoreS1.new.self c.args.step
    (told_in c.core_turn-in-CoreS1.result c.core_turn-in-CoreS1.new.line) c.args.octets
    c.args.octets refl c.args.sender c.args.to c.in-CoreS1.is c.core_turn-in-CoreS1.ensures.turns

pub returns-in-StationAir-clause-arrives : goal.returns-in-StationAir-clause-arrives
returns-in-StationAir-clause-arrives c =
    station_air_comes c.args.self.now c.station_turn.new.self c.args.step
    (told_in c.station_turn.result c.station_turn.new.line) c.args.octets
    c.args.octets refl c.args.sender c.in-StationAir.id c.in-StationAir.air c.in-StationAir.bearer c.args.to
    c.in-StationAir.is c.station_turn.ensures.turns

pub returns-in-StationS1-clause-arrives : goal.returns-in-StationS1-clause-arrives
returns-in-StationS1-clause-arrives c =
    station_s1_comes c.args.self.now c.station_turn-in-StationS1.new.self c.args.step
    (told_in c.station_turn-in-StationS1.result c.station_turn-in-StationS1.new.line)
    c.args.octets c.args.octets refl c.args.sender c.in-StationS1.id c.args.to c.in-StationS1.is
    c.station_turn-in-StationS1.ensures.turns

pub returns-in-StationX2-clause-arrives : goal.returns-in-StationX2-clause-arrives
returns-in-StationX2-clause-arrives c =
    station_x2_comes c.args.self.now c.station_turn-in-StationX2.new.self c.args.step
    (told_in c.station_turn-in-StationX2.result c.station_turn-in-StationX2.new.line)
    c.args.octets c.args.octets refl c.args.sender c.in-StationX2.id c.args.to c.in-StationX2.is
    c.station_turn-in-StationX2.ensures.turns
