pub mod Tests
pub mod RecordFacts
pub mod AirFacts
pub mod StationActFacts
pub mod StationCases
pub mod NasFacts
pub mod ActFacts
pub mod S1Facts
pub mod CoreCases
pub mod PhoneCases
pub mod PhoneActFacts
pub mod PhoneNasFacts
pub mod PhoneAirFacts
pub mod PhoneGives
pub mod CipherLaws
pub mod Opens
pub mod AnnexB
pub mod MapSteps
pub mod PhoneMap
pub mod PhoneRefused
pub mod StationPlain
pub mod StationMap
pub mod StationRefused
mod StationExamples
pub mod CoreMap
pub mod CoreRefused
pub mod LadderMap
pub mod WorldMap
pub mod Worlds
pub mod NextSame
pub mod ReplayMap
mod PhoneExamples
mod CoreExamples
pub mod InOctets
pub mod Scenario
pub mod Ordinary
pub mod LateAnswers
mod CancelledExamples
pub mod KeyChanges
mod FirstPair
mod AfterChanges
mod WideCell
mod Edges
pub mod Rows
pub mod History
pub mod KnownLists
pub mod Routing
pub mod StationIds
pub mod RangeKeys
pub mod RangeHolds
pub mod RangeStation
pub mod RangeCore
pub mod RangePhone
pub mod RangeWorld
mod RangeExample
pub mod WholeRun
pub mod KnownPhone
pub mod KnownCore
pub mod KnownStation
pub mod KnownLadder
pub mod KnownWorld
pub mod StillRun
pub mod LadderRun
pub mod MixedRun
pub mod Mixed
pub mod EventByEvent
