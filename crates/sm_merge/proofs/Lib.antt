mod OneValue
mod OneEffective
pub mod OneMerged
pub mod OneList
mod OtherOrder
pub mod PreludeGiven
mod MeantIds
pub mod NamesKnown
mod MeantViews
mod Bodies
mod Cuts
mod Folds
mod BodyNodes
mod NodesMeant
mod PlacedFound
mod TablesMade
mod ShapesFound
mod EventsSorted
mod TraitsTold
mod EventsTold
mod TextLists
mod Ats
mod Ways
mod Walked
mod WalkBegun
mod WalkJoined
mod WalkFinished
mod WalkEnds
mod Marking
mod Cycles
mod WalkSteps
mod AllEventsTold
mod FirstNames
mod ShapeNumbers
mod MixinsTold
mod MixinsPut
mod FormsMeant
pub mod EntriesFound
mod EntriesMoved
pub mod EntryKeys
mod NamesOnce
mod StatedSound
mod EffectiveSound
mod WholeGiven
mod WholeGraph
mod MadeShapes
mod MetadataMade
mod GivenCounts
mod WholeCounts
mod MadeCounts
mod SomeEffective
mod LimitsTold
mod TraitsHeld
mod PartsTold
mod MergeTold
mod FoundRows
mod Filled
mod EffectiveMade
mod OneShapeMade
mod EffectiveAll
mod MixedMade
mod MembersMixed
mod KeptOnce
mod FirstRows
mod MemberListsMade
mod LocalNames
mod NamesMixed
mod Stopped
mod SoundEntries
mod Counted
mod TraitsListed
mod Amongs
mod MixinsOnce
mod PlacesThere
mod MembersOther
mod WholeEvents
mod OthersPut
mod NothingTold
pub mod SomeGraph
pub mod FormedGraphs
pub mod SomeEvents
pub mod GraphSound
pub mod RestatedValues
pub mod RestatedShapes
pub mod RegularGraphs
pub mod Restating
pub mod RestatedEvents
pub mod BodiesAgain
pub mod RestatedFiles
mod IdsNamed
